-- ---- what the contracts cite
pub mod Registers
pub mod Access
pub mod Decode
-- ---- the words of the laws
pub mod InPlainWords
pub mod Examples
