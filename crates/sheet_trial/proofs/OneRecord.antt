-- A record is carried out by a sheet on the parts of the room and of the list that it lends.
use Prim.Native.Nat.{ℕ, min}
use Rattle.std.proofs.lemmas.List.{take-append-drop}
use mathlib.Core.Path.{◌≡◌, ap, ◌∙◌}
use mathlib.Core.List.{List, ◌++◌}
use lib.Ieee.{Float}
use lib.ListN.{length, take, drop}
use Rattle.words.specs.Lent.{lent, given_back}
use Rattle.words.specs.declared.BitAddress.{BitAddress}
use Rattle.registers.specs.declared.Registers.{Registers}
use Rattle.port_spec.specs.Sequences.{machine}
use Rattle.sheet_spec.specs.Reading.{whole}
use Rattle.sheet_spec.specs.Sheet.{sheet_of, list_after, Struck}
use Rattle.sheet_spec.specs.declared.Sheet.{Sheet}
use Rattle.sheet_spec.specs.declared.TimeStruck.{TimeStruck}
use Rattle.sheet_trial.specs.Record.{number, registers_in, table_in, rule_in, time_in}
use Rattle.sheet_trial.specs.CarriedOut.{laid, list_lent, sheet_from, list_from, CarriedOut}

-- What the code has in hand for the record b: the room with its words, how much of it and of the list it lends, and what it calls with.
pub record Ready (b room room₁ : List ℕ) (list : List Float) (m n : ℕ)
    (r : Registers) (a : BitAddress) (rule : ℕ) (t : TimeStruck) : Type 0 where
  pub filled : room₁ ≡ laid b room 36
  pub words_lent : m ≡ min (number b 16) (length room₁)
  pub places_lent : n ≡ min (number b 15) (length list)
  pub registers : r ≡ registers_in b
  pub table : a ≡ table_in b
  pub counting : rule ≡ rule_in b
  pub time : t ≡ time_in b

module _ {b room room₁ : List ℕ} {list : List Float} {m n : ℕ} {r : Registers} {a : BitAddress} {rule : ℕ} {t : TimeStruck}
    (y : Ready b room room₁ list m n r a rule t) where
  memory_is : take m room₁ ≡ lent (number b 16) (laid b room 36)
  memory_is = ap (λ (n : ℕ). take n room₁) y.words_lent ∙ ap (lent (number b 16)) y.filled

  list_is : take n list ≡ list_lent b list
  list_is = ap (λ (k : ℕ). take k list) y.places_lent

  -- The sheet of the lent parts, which then come back, is what the record asks for.
  pub carried : {o : Sheet} {m' : List ℕ} {l' : List Float} →
      Struck r (take m room₁) a rule t (take n list) o m' l' →
      CarriedOut b room list o (m' ++ drop m room₁) (l' ++ drop n list)
  unfolding sheet_from list_from
  carried {o} {m'} {l'} s =
      let lent_list =
      s.list ∙
      (λ i. list_after whole (machine (y.registers i) (memory_is i)) (y.table i) (y.counting i) (y.time i) (list_is i)) in
      record {
        answer = s.outcome
            ∙ (λ i. sheet_of whole (machine (y.registers i) (memory_is i)) (y.table i) (y.counting i) (y.time i)
            (length (list_is i)));
        room_left = ap (λ (x : List ℕ). x ++ drop m room₁) s.memory ∙ take-append-drop m room₁ ∙ y.filled;
        list_left = ap (λ (k : ℕ). l' ++ drop k list) y.places_lent ∙ ap (given_back (number b 15) list) lent_list;
      }
