-- ---- what the contracts cite
pub mod Stream
-- ---- the words of the laws
pub mod InPlainWords
pub mod AnyCalls
pub mod OpenStreams
pub mod Examples
