-- ---- what the contract of the call cites
pub mod Reading
pub mod Sheet
-- ---- the words of the laws
pub mod InPlainWords
