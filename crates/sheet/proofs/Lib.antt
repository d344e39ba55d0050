-- Laws that the code of a sheet is proved by. Proofs of single functions are in the folders beside them.
-- ---- what is judged
pub mod FewStrokes
pub mod RisingTicks
-- ---- what is read
pub mod ReadingOn
-- ---- what a sheet leaves
pub mod TicksTaken
pub mod TableRead
pub mod One
pub mod Promised
