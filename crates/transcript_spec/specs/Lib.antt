-- ---- what the contracts of the two calls cite
pub mod Format
pub mod Lists
pub mod Writing
pub mod Reading
-- ---- the words of the laws
pub mod InPlainWords
pub mod InNumbers
pub mod Examples
