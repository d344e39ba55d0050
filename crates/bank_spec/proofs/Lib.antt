-- ---- each number
pub mod Numbers
-- ---- the registers behind the port
pub mod Places
pub mod IndexOrder
pub mod SixteenAccesses
pub mod WrittenAndRead
-- ---- a decode
pub mod BitByBit
pub mod InItsRange
pub mod Refresh
pub mod Admitted
pub mod Selected
pub mod OwnAlone
-- ---- worked examples
pub mod Holds
