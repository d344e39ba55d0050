-- ---- what the contracts cite
pub mod Registers
pub mod Processor
-- ---- the words of the laws
pub mod InPlainWords
