-- What a table leaves: its count word is read and judged; if it is right, the ticks follow from there.
-- The definitions take the reads as one run; here its first read is taken apart from the others.
use Prim.Native.Nat.{ℕ, suc}
use mathlib.Core.Path.{◌≡◌, refl, sym, ap, ◌∙◌}
use mathlib.Core.Bool.{true, false}
use mathlib.Core.List.{List}
use mathlib.Core.Logic.{◌≢◌}
use lib.Dec.{eqb}
use lib.Ieee.{Float}
use borrow.Author.Tests.{eq-eqb, ne_eqb}
use Rattle.words.specs.declared.BitAddress.{BitAddress}
use Rattle.registers.specs.declared.Registers.{Registers}
use Rattle.port_spec.specs.Host.{Accessed}
use Rattle.port_spec.specs.Sequences.{Machine, machine, answer_of, after, answers, ends}
use Rattle.port_spec.specs.Table.{loading, loaded, reading}
use Rattle.port_spec.specs.declared.Access.TheVariants.{Read}
use Rattle.port_spec.specs.declared.Answer.{Answer}
use Rattle.port_spec.specs.declared.Outcome.{Outcome}
use Rattle.port_spec.proofs.DataRegister.{read_keeps_memory}
use Rattle.port_spec.proofs.Joined.{ends_join}
use Rattle.sheet_spec.specs.Reading.{whole, table_read}
use Rattle.sheet_spec.specs.Sheet.{count_refusal, or_else, count_number, read_number, made, read_sheet, read_list, refused_sheet}
use Rattle.sheet_spec.specs.declared.Sheet.{Sheet}
use Rattle.sheet_spec.proofs.CountWord.{count_is}
use Rattle.sheet.specs.Parts.{ticks_number, ticks_sheet, ticks_list, TookTicks, ReadTable}
use Rattle.port_spec.proofs.OneAccess.{leaves, says}
use Rattle.port_spec.proofs.Loading.{loading_keeps_memory}

module _ (s : Machine) (a : BitAddress) (n : ℕ) where
  -- the machine after the read of the count word
  abbrev next : Machine
  next = after (loaded s a) (Read 2 3)

  number_is : read_number whole s a n ≡ or_else (count_number whole s a n) (ticks_number next n)
  unfolding table_read answers reading read_number ticks_number
  number_is = refl

  -- the accesses, where the count is wrong and where it is right
  made_one : eqb (count_number whole s a n) 0 ≡ false → ends s (made whole s a n) ≡ next
  unfolding made reading ends
  made_one e = rw e (ends_join s (loading s.registers.control a) (reading 1))

  made_all : eqb (count_number whole s a n) 0 ≡ true → ends s (made whole s a n) ≡ ends next (reading n)
  unfolding made reading ends
  made_all e = rw e (ends_join s (loading s.registers.control a) (reading (suc n)))

  memory_stays : next.memory ≡ s.memory
  unfolding after
  memory_stays = read_keeps_memory (loaded s a).registers (loaded s a).memory 2 3 ∙ loading_keeps_memory s a

  -- the code's first read, from the machine that its loading left
  module _ {q : Registers} {m : List ℕ} (k : machine q m ≡ loaded s a) {o : Outcome} {m' : List ℕ} (e : Accessed q m (Read 2 3) o m')
      (number : ℕ) (j : number ≡ count_refusal n o.answer.hollow o.answer.word) where
    stands : machine o.registers m' ≡ next
    stands = leaves e ∙ ap (λ (t : Machine). after t (Read 2 3)) k

    judged : number ≡ count_number whole s a n
    judged =
        j ∙
        ap (λ (x : Answer). count_refusal n x.hollow x.word) (says e ∙ ap (λ (t : Machine). answer_of t (Read 2 3)) k) ∙
        sym (count_is s a n)

    -- A table whose count word is hollow or wrong is refused after one read, and the list stays.
    pub count_refused : number ≢ 0 → (rule : ℕ) (l : List Float) → ReadTable s a rule n l (refused_sheet number o.registers) m' l
    unfolding read_sheet read_list
    count_refused h rule l =
        let no = ne_eqb (count_number whole s a n) 0 (λ z. h (judged ∙ z)) in
        let same : read_number whole s a n ≡ number = number_is ∙ rw no (sym judged) in
        let no_number = ne_eqb (read_number whole s a n) 0 (λ z. h (sym same ∙ z)) in
        record {
          outcome = rw (no_number, same, made_one no) (ap (λ (t : Machine). refused_sheet number t.registers) stands);
          memory = ap (λ (t : Machine). t.memory) stands ∙ memory_stays;
          list = rw no_number;
        }

    -- A table whose count word is right leaves what its ticks leave, read from there on.
    pub count_right : number ≡ 0 → {rule : ℕ} {l : List Float} {p : Sheet} {m'' : List ℕ} {l' : List Float} →
        TookTicks (machine o.registers m') rule n l p m'' l' → ReadTable s a rule n l p m'' l'
    unfolding table_read answers reading read_sheet read_list ticks_sheet ticks_list
    count_right h {rule} {l} t =
        let yes = eq-eqb (count_number whole s a n) 0 (sym judged ∙ h) in
        let same : read_number whole s a n ≡ ticks_number next n = number_is ∙ rw yes in
        record {
          outcome = t.outcome ∙ ap (λ (u : Machine). ticks_sheet u n rule) stands ∙ rw (same, made_all yes);
          memory = t.memory ∙ ap (λ (u : Machine). u.memory) stands ∙ memory_stays;
          list = t.list ∙ ap (λ (u : Machine). ticks_list u n l) stands ∙ rw same;
        }
