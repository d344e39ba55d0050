-- ---- how a string divides, and what that makes of salvage
pub mod Divides
pub mod Exactly
pub mod Longest
pub mod Unchanged
pub mod MoreBehind
pub mod OneMorePiece
pub mod InPieces
-- ---- the call
pub mod Promised
pub mod AsManyBytes
pub mod WhatWasWritten
pub mod WhatWasLeft
pub mod One
-- ---- worked examples
pub mod Holds
