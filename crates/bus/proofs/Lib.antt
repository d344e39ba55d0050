-- What the definitions of the bus say.
pub mod Sources
pub mod Numbers
pub mod HighestFirst
pub mod Requests
pub mod InTurn
pub mod Promised
