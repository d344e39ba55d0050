-- ---- what the definitions mean
pub mod Sayable
pub mod GoodEntries
pub mod TakenLines
pub mod TakeAnswers
pub mod BadLines
pub mod PutAnswers
pub mod Promised
pub mod ThereAndBack
pub mod Examples
pub mod One
-- ---- what the functions' proofs rest on
pub mod FirstLine
pub mod LineAfterLine
pub mod Turns
pub mod Filling
pub mod LineBytes
pub mod EntryByEntry
pub mod Results
