pub mod Fronts
pub mod OnePiece
pub mod OneTurn
pub mod Going
