-- what document 01 says of the program's lines
pub mod Line
pub mod Answer
pub mod Listing
pub mod Following
-- the words of its laws
pub mod Spelled
pub mod Pieces
pub mod InNumbers
-- what only private functions state
pub mod Parts
