-- A record carried out: crates/bank_trial/src/main.rt.
--   left n w s p         what a record leaves, by its parts
--   left_by_start b      what the record b leaves, which is a fresh start
--   left_by_access o     what a read or a write leaves that answers o
--   left_by_decode p o   what a decode leaves that answers o, with the port p
--   decoded_by p b       what the record b leaves, which is a decode, with the port p
--   carried p b          what the record b leaves, with the port p, whichever of the four it is
use Rattle.std.specs.Prelude.{ℕ, cond, List}
use Rattle.bank_spec.specs.Access.{read_answer, write_answer}
use Rattle.bank_spec.specs.Decode.{decoded}
use Rattle.bank_spec.specs.declared.BankPort.{BankPort}
use Rattle.bank_spec.specs.declared.BankAnswer.{BankAnswer}
use Rattle.bank_spec.specs.declared.Decoded.{Decoded}
use Rattle.bank_trial.specs.Record.{is_start, is_read, is_write, number_in, port_in, word_in, address_in, control_in}
use Rattle.bank_trial.specs.Selected.{digit}
use Rattle.bank_trial.specs.declared.carrying.Left.{Left}

abbrev pub left : ℕ → ℕ → ℕ → BankPort → Left
left n w s p = record { number = n; word = w; selected = s; port = p }

-- "A fresh start answers number 0, word 0, no bank"
abbrev pub left_by_start : List ℕ → Left
left_by_start b = left 0 0 0 (port_in b)

-- "reads and writes answer no bank"
abbrev pub left_by_access : BankAnswer → Left
left_by_access o = left o.number o.word 0 o.port

-- "a decode answers word 0 and leaves the port"
abbrev pub left_by_decode : BankPort → Decoded → Left
left_by_decode p o = left o.number 0 (digit o) p

unfoldable pub decoded_by : BankPort → List ℕ → Left
decoded_by p b = left_by_decode p (decoded p.banks (control_in b) (address_in b) (number_in b))

-- "0 a fresh start, 1 a read, 2 a write, 3 a decode"
unfoldable pub carried : BankPort → List ℕ → Left
carried p b =
    cond (is_start b) (left_by_start b)
    (cond (is_read b) (left_by_access (read_answer p (number_in b)))
    (cond (is_write b) (left_by_access (write_answer p (number_in b) (word_in b)))
    (decoded_by p b)))
