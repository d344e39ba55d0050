-- Which banks a local bus cycle selects: document 02, request (vi); source document 001, 'BKMSK', 'BKCTL' and 'local address decode'.
--   agrees_at m v a i      on bit i, by the mask m, the address a agrees with the compare value v
--   agrees_below m v a n   it does on each bit below n
--   agrees m v a           it does on all 32
--   bven c n, bdrd c n     bank n's bits of the control word c
--   rm c                   its two bits for refresh
--   in_turn c a n          a refresh at address a is one of bank n
--   admits c a kind n      the control word admits a cycle of that kind for bank n
--   selects k c a kind n   bank n, whose registers are k, is selected
--   decoded_as number s0 s1 s2 s3   an answer, by its parts
--   decoded b c a kind     what a decode answers
use Rattle.std.specs.Prelude.{ℕ, zero, suc, ◌+◌, ◌/◌, ◌%◌, Bool, true, false, cond, not, ◌&&◌, ◌||◌, eqb, ltb}
use Rattle.std.specs.Bool.{beq}
use Rattle.words.specs.Bytes.{bit}
use Rattle.words.specs.declared.BitAddress.{BitAddress}
use Rattle.bank_spec.specs.declared.Bank.{Bank}
use Rattle.bank_spec.specs.declared.Banks.{Banks}
use Rattle.bank_spec.specs.declared.Decoded.{Decoded}

-- ---- the address

-- "A BKMSKx bit set to 1 allows comparison of the corresponding BKADx bit with the corresponding LAD bus address bit. A BKMSKx bit set to
-- zero causes the 34094 to disregard" them
unfoldable pub agrees_at : ℕ → ℕ → ℕ → ℕ → Bool
agrees_at m v a i = not (bit m i) || beq (bit v i) (bit a i)

unfoldable pub agrees_below : ℕ → ℕ → ℕ → ℕ → Bool
agrees_below m v a zero = true
agrees_below m v a (suc i) = agrees_below m v a i && agrees_at m v a i

-- "agree on every bit that the mask allows": "LAD31-LAD0"
unfoldable pub agrees : ℕ → ℕ → ℕ → Bool
agrees m v a = agrees_below m v a 32

-- ---- the control word

-- BKCTL: "BVEN3-BVEN0" in bits 15 to 12, "BDRD3-BDRD0" in 11 to 8, "RM1-RM0" in 7 and 6. The rest plays no part: not ABE, since document 02
-- has ordinary cycles "always admitted", and not BPNT, since the index is passed by itself
abbrev pub bven : ℕ → ℕ → Bool
bven c n = bit c (12 + n)

abbrev pub bdrd : ℕ → ℕ → Bool
bdrd c n = bit c (8 + n)

abbrev pub rm : ℕ → ℕ
rm c = c / 64 % 4

-- "00 Refresh all banks simultaneously", "01 Refresh alternate pairs" (ours: which pairs), "10 Refresh one bank at a time", "11 No
-- refresh"; "determines which bank is refreshed using the values on LAD16 and LAD17"
unfoldable pub in_turn : ℕ → BitAddress → ℕ → Bool
in_turn c a n =
    cond (eqb (rm c) 0) true
    (cond (eqb (rm c) 1) (eqb (n % 2) (a.0 / 65536 % 2))
    (cond (eqb (rm c) 2) (eqb n (a.0 / 65536 % 4))
    false))

-- the kinds by numbers (ours). 0: "ordinary is always admitted"; 1, refresh: "If a bank does not require refresh, the corresponding bit in
-- BDRD3-BDRD0 should be set to 1"; 2, special: "Setting BVENn to a 1 causes BSELn to be asserted whenever one of these special VRAM cycles
-- occur", but document 02 wants the address to agree there too (`selects`)
unfoldable pub admits : ℕ → BitAddress → ℕ → ℕ → Bool
admits c a kind n =
    cond (eqb kind 0) true
    (cond (eqb kind 1) (not (bdrd c n) && in_turn c a n)
    (bven c n))

-- ---- all four

-- "A bank is selected exactly when address and compare value agree on every bit that the mask allows and that document's control word
-- admits the cycle's kind"
unfoldable pub selects : Bank → ℕ → BitAddress → ℕ → ℕ → Bool
selects k c a kind n = agrees k.mask k.compare a.0 && admits c a kind n

abbrev pub decoded_as : ℕ → Bool → Bool → Bool → Bool → Decoded
decoded_as number s0 s1 s2 s3 = record { number = number; bank0 = s0; bank1 = s1; bank2 = s2; bank3 = s3 }

-- "31 cycle kind unknown"; "The answer shows all four, and several may be selected": document 02 decides so, against 001's "only the
-- lowest-numbered BSELn output"
unfoldable pub decoded : Banks → ℕ → BitAddress → ℕ → Decoded
decoded b c a kind =
    cond (ltb 2 kind) (decoded_as 31 false false false false)
    (decoded_as 0 (selects b.bank0 c a kind 0) (selects b.bank1 c a kind 1) (selects b.bank2 c a kind 2)
    (selects b.bank3 c a kind 3))
