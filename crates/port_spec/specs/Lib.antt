-- ---- what the contracts cite
pub mod Cycle
pub mod Host
-- ---- the words of the laws: demand 3, the tuner's law, the keeper's law
pub mod Sequences
pub mod Table
pub mod Deeds
pub mod Origin
pub mod Calls
