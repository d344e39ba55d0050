-- The selected banks as they are printed: crates/bank_trial/src/main.rt, 'What is printed'.
--   digit o    the digit for the banks that the answer o shows as selected
use Rattle.std.specs.Prelude.{ℕ, ◌+◌, cond}
use Rattle.bank_spec.specs.declared.Decoded.{Decoded}

-- "one digit whose bit n is bank n"
abbrev pub digit : Decoded → ℕ
digit o = cond o.bank0 1 0 + cond o.bank1 2 0 + cond o.bank2 4 0 + cond o.bank3 8 0
