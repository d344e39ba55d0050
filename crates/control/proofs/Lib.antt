-- What the definitions of HSTCTL say.
pub mod BitPlaces
pub mod BitTen
pub mod LowByte
pub mod Written
pub mod ClosingByte
pub mod Promised
