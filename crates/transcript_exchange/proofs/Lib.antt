-- ---- what the functions' proofs rest on
pub mod Entries
pub mod AccessByAccess
pub mod RecordByRecord
pub mod Done
pub mod Results
-- ---- what is promised
pub mod Exactly
pub mod Left
pub mod Promised
pub mod ThereAndBack
pub mod Examples
pub mod One
