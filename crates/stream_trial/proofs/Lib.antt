-- ---- what a record says
pub mod Examples
-- ---- a record carried out
pub mod OneRecord
