-- ---- what a record says, and what it leaves
pub mod Examples
-- ---- the selected banks
pub mod EachBank
