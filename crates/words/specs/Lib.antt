pub mod Addresses
pub mod Bytes
pub mod Memory
pub mod Lent
pub mod Refusals
