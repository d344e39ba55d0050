-- ---- numbers
pub mod Bytes
pub mod Groups
pub mod NumberRead
-- ---- the reader, byte by byte, on a number, a record and a whole string
pub mod BadNumbers
pub mod ReadingOn
pub mod Elsewhere
pub mod HowFar
pub mod ThroughNumbers
pub mod Judged
pub mod ThroughRecords
pub mod Divided
pub mod Steps
pub mod ReadExactly
pub mod LongRecords
-- ---- the writer
pub mod RecordBytes
pub mod WrittenExactly
-- ---- between the two
pub mod OneEncoding
pub mod RoundTrips
-- ---- the lists, the contracts, worked examples
pub mod EntriesLeft
pub mod Columns
pub mod Filled
pub mod LentLists
pub mod Promised
pub mod One
pub mod Holds
