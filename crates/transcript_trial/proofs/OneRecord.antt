-- A record is carried out by a call on the first places of its string and of its lists, which then come back.
use Prim.Native.Nat.{ℕ, ◌≤◌, min}
use native.Mathlib.Omega.{arith}
use mathlib.Core.Path.{◌≡◌, subst, ap, ◌∙◌}
use mathlib.Core.Bool.{Bool, true, false}
use mathlib.Core.List.{List, ◌++◌}
use lib.ListN.{length, take, drop}
use Rattle.transcript_spec.specs.Lists.{Lists, lists}
use Rattle.transcript_spec.specs.Reading.{ReadTranscript}
use Rattle.transcript_spec.specs.Writing.{WroteTranscript}
use Rattle.transcript_spec.specs.declared.Transcribed.{Transcribed}
use Rattle.transcript_spec.proofs.LentLists.{Lends}
use Rattle.transcript_trial.specs.Record.{byte, column, lists_in, is_read, string_lent, string_back, lists_lent, lists_returned}
use Rattle.transcript_trial.specs.CarriedOut.{called_answer, called_string, called_lists, Called}
use Rattle.transcript_trial.specs.CarriedOut.{answer_from, string_from, lists_from, CarriedOut}

-- ---- a call
module _ {reader : Bool} {s : List ℕ} {l : Lists} {o : Transcribed} where
  -- A call of the reader is carried out by a reading of the string into the lists, which leaves the string.
  pub by_reader : {l' : Lists} → reader ≡ true → ReadTranscript s l o l' → Called reader s l o s l'
  unfolding called_answer called_string called_lists
  by_reader e r = record { answer = rw e r.answer; string = rw e; lists = rw e r.lists }

  -- A call of the writer is carried out by a writing of the lists into the string, which leaves the lists.
  pub by_writer : {s' : List ℕ} → reader ≡ false → WroteTranscript l s o s' → Called reader s l o s' l
  unfolding called_answer called_string called_lists
  by_writer e w = record { answer = rw e w.answer; string = rw e w.bytes; lists = rw e }

-- ---- a record

-- what code lends of four lists, so many places of each, and the lists when these come back as `part`
abbrev parts : ℕ → ℕ → ℕ → ℕ → Lists → Lists
parts k r n w l = lists (take k l.kinds) (take r l.registers) (take n l.lanes) (take w l.words)

abbrev put_back : ℕ → ℕ → ℕ → ℕ → Lists → Lists → Lists
put_back k r n w l part =
    lists (part.kinds ++ drop k l.kinds) (part.registers ++ drop r l.registers) (part.lanes ++ drop n l.lanes)
    (part.words ++ drop w l.words)

-- No more places are lent than there are.
pub smaller_of : (k m : ℕ) {n : ℕ} → n ≡ min k m → n ≤ m
smaller_of k m e = omega arith

-- the numbers are those that the record b says: m of the string, and k, r, n and w of the lists
pub record LendsBoth (b s : List ℕ) (l : Lists) (m k r n w : ℕ) : Type 0 where
  pub of_string : m ≡ min (byte b 1) (length s)
  pub of_lists : Lends (byte b 2) (byte b 3) (byte b 4) (byte b 5) l k r n w

module _ {b s : List ℕ} {l : Lists} {m k r n w : ℕ} (y : LendsBoth b s l m k r n w) where
  -- the lent part of the string, and the lent parts of the lists
  string_is : take m s ≡ string_lent b s
  string_is i = take (y.of_string i) s

  lists_are : parts k r n w l ≡ lists_lent b l
  lists_are i = parts (y.of_lists.of_kinds i) (y.of_lists.of_registers i) (y.of_lists.of_lanes i) (y.of_lists.of_words i) l

  -- The call on the lent parts, which then come back, is what the record asks for.
  pub carried :
      {o : Transcribed} {s' : List ℕ} {l' : Lists} →
      Called (is_read b) (take m s) (parts k r n w l) o s' l' →
      CarriedOut b s l o (s' ++ drop m s) (put_back k r n w l l')
  unfolding answer_from string_from lists_from
  carried {o} {s'} {l'} c =
      record {
        answer = c.answer ∙ (λ i. called_answer (is_read b) (string_is i) (lists_are i));
        string = string_back_is
            ∙ ap (string_back b s) (c.string ∙ (λ i. called_string (is_read b) (string_is i) (lists_are i)));
        lists = lists_back_are
            ∙ ap (lists_returned b l) (c.lists ∙ (λ i. called_lists (is_read b) (string_is i) (lists_are i)));
      }
    where
      string_back_is : s' ++ drop m s ≡ string_back b s s'
      string_back_is i = s' ++ drop (y.of_string i) s

      lists_back_are : put_back k r n w l l' ≡ lists_returned b l l'
      lists_back_are i =
          put_back (y.of_lists.of_kinds i) (y.of_lists.of_registers i) (y.of_lists.of_lanes i) (y.of_lists.of_words i) l l'

-- What a record asks for may be done on the lists that it holds.
pub on_its_lists :
    {b s kinds registers lanes words : List ℕ} {o : Transcribed} {s' : List ℕ} {l' : Lists} →
    kinds ≡ column b 0 → registers ≡ column b 6 → lanes ≡ column b 12 → words ≡ column b 18 →
    CarriedOut b s (lists kinds registers lanes words) o s' l' → CarriedOut b s (lists_in b) o s' l'
on_its_lists {b} {s} {kinds} {registers} {lanes} {words} {o} {s'} {l'} e f g h c =
    subst (λ (l : Lists). CarriedOut b s l o s' l') (λ i. lists (e i) (f i) (g i) (h i)) c
