-- ---- what the contracts of the two calls cite
pub mod Turning
-- ---- the words of the laws
pub mod InNumbers
pub mod InPlainWords
