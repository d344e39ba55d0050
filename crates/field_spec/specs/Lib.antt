-- ---- what the contracts of crate `field` cite
pub mod Field
pub mod Count
pub mod Answers
-- ---- the words of the laws
pub mod WithBits
pub mod InPlainWords
