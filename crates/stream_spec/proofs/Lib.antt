-- ---- one call
pub mod One
pub mod Outcomes
pub mod Resumed
pub mod Told
pub mod TheEnd
pub mod Refused
pub mod AfterTheEnd
pub mod CutInTwo
-- ---- a whole stream
pub mod AnyDeliveries
pub mod OneTurn
pub mod OffTheLine
pub mod AsTheReader
pub mod HoweverCut
pub mod EndInTheMiddle
-- ---- open streams, record by record
pub mod OpenStreams
pub mod Answered
pub mod Reached
-- ---- worked examples
pub mod Holds
