-- The laws of the port, in reading order. Proofs of single functions are in the folders beside them.
-- ---- an access that is accepted, and one that is refused; demand 1
pub mod Named
pub mod Taken
pub mod Numbers
pub mod One
-- ---- the host's side, sentence by sentence
pub mod HostTold
pub mod Unselected
pub mod OpenByte
pub mod Brought
pub mod Leaves
pub mod DataRegister
pub mod OtherRegisters
pub mod LowBits
pub mod Widths
pub mod CycleNumbers
-- ---- demand 3: bytes and words end alike; a run in two parts
pub mod Pairs
pub mod Alike
pub mod Joined
pub mod OneAccess
pub mod Loading
-- ---- the tuner's law: every word is handed out
pub mod Handed
pub mod TableWords
pub mod EveryWord
-- ---- the keeper's law: no miss looks good
pub mod Marks
pub mod Origins
pub mod NoMiss
pub mod WholeWords
-- ---- what the contract promises
pub mod Promised
pub mod Sequences
pub mod CallAfterCall
