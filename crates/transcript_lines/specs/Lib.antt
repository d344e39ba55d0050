-- ---- what the contracts of the two calls cite
pub mod Lines
pub mod Taking
pub mod Putting
-- ---- the words of the laws
pub mod InNumbers
pub mod InPlainWords
-- ---- what only private functions state
pub mod Parts
