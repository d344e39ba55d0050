-- ---- what only private functions state
pub mod Parts
