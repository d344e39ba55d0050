-- ---- one record
pub mod Record
pub mod CarriedOut
-- ---- one after another
pub mod Records
