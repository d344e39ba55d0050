-- what the contract of `judge_entry` cites, and what it means
pub mod Entries
-- what only private functions state
pub mod WriterParts
pub mod ReaderParts
