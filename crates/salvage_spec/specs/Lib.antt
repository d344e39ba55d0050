-- ---- what the contract cites
pub mod Salvage
-- ---- what the program cites, and its law
pub mod Pieces
-- ---- the words of the laws
pub mod InPlainWords
pub mod Examples
