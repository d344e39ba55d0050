-- An access to BKPORT: document 02, request (vi); source document 001, 'BKPORT' and BPNT in 'BKCTL'; document 01, 'Numbers returned'.
--   place i                 the place that the index i names
--   next i                  the index after an access
--   port b i                the registers b, with the index i
--   answered n w p          an answer, by its parts
--   refusal lanes           number 3 or 30, or 0 where neither applies
--   refused n p             the answer to an access that is refused with n
--   read_answer p lanes     what a read answers
--   write_answer p lanes w  what a write of w answers
use Rattle.std.specs.Prelude.{ℕ, ◌+◌, ◌%◌, cond, not, eqb}
use Rattle.words.specs.Bytes.{are_lanes}
use Rattle.bank_spec.specs.Registers.{half_at, with_half_at}
use Rattle.bank_spec.specs.declared.Banks.{Banks}
use Rattle.bank_spec.specs.declared.BankPort.{BankPort}
use Rattle.bank_spec.specs.declared.BankAnswer.{BankAnswer}

-- "The caller passes the registers' starting contents and index (modulo 16)": a record by value, which each access hands back (ours)
abbrev pub place : ℕ → ℕ
place i = i % 16

-- "whose 4-bit index steps after each sixteen-bit access and returns to 0 after its last place"
abbrev pub next : ℕ → ℕ
next i = (place i + 1) % 16

abbrev pub port : Banks → ℕ → BankPort
port b i = record { banks = b; index = i }

abbrev pub answered : ℕ → ℕ → BankPort → BankAnswer
answered n w p = record { number = n; word = w; port = p }

-- document 01: "3 lanes not 1, 2 or 3", "Tested in this order: .. as numbered"; document 02: "30 byte access to the port". Lanes 3 are
-- "both" bytes, so a byte access is one with lanes 1 or 2
unfoldable pub refusal : ℕ → ℕ
refusal lanes =
    cond (not (are_lanes lanes)) 3
    (cond (not (eqb lanes 3)) 30
    0)

-- "A refusal returns zeros ..; nothing lent or passed on changes"; "(the index stays)"
abbrev pub refused : ℕ → BankPort → BankAnswer
refused n p = answered n 0 p

unfoldable pub read_answer : BankPort → ℕ → BankAnswer
read_answer p lanes =
    cond (eqb (refusal lanes) 0)
    (answered 0 (half_at p.banks (place p.index)) (port p.banks (next p.index)))
    (refused (refusal lanes) p)

unfoldable pub write_answer : BankPort → ℕ → ℕ → BankAnswer
write_answer p lanes w =
    cond (eqb (refusal lanes) 0)
    (answered 0 0 (port (with_half_at p.banks (place p.index) w) (next p.index)))
    (refused (refusal lanes) p)
