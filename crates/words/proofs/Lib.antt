-- What the definitions of words say.
pub mod Choices
pub mod Addresses
pub mod Bits
pub mod Digits
pub mod Lanes
pub mod ByBytes
pub mod MemoryWords
pub mod OfWidth
pub mod Lent
pub mod RefusalNumbers
pub mod One
pub mod Contracts
pub mod Promised
