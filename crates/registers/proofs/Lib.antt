-- The laws of the registers, in reading order. Proofs of single functions are in the folders beside them.
-- ---- the registers as the host reads and writes them
pub mod RegisterWords
pub mod Unselected
-- ---- the processor's side, and reset
pub mod ProcessorSide
pub mod AfterReset
-- ---- both sides
pub mod Widths
pub mod Promised
