-- What the contract of the call promises, in plain words: the laws of the definitions, said of any outcome that `Struck` allows.
use Prim.Native.Nat.{ℕ, suc, ◌<◌, ◌≤◌}
use mathlib.Core.Path.{◌≡◌, sym, ap, ◌∙◌, subst}
use mathlib.Core.List.{List}
use mathlib.Core.Logic.{◌⊎◌, ◌↔◌, ◌≢◌}
use lib.Ieee.{Float}
use lib.ListN.{length}
use Rattle.words.specs.Addresses.{word_at}
use Rattle.words.specs.declared.BitAddress.{BitAddress}
use Rattle.registers.specs.declared.Registers.{Registers}
use Rattle.port_spec.specs.Cycle.{standing}
use Rattle.port_spec.specs.Sequences.{machine, ends}
use Rattle.port_spec.specs.Table.{on_by}
use Rattle.sheet_spec.specs.InPlainWords.{PassedIn, KnownRule, Begins, count_word, Rises, Complete, Verdict}
use Rattle.sheet_spec.specs.Reading.{whole, by_bytes}
use Rattle.sheet_spec.specs.Sheet.{strokes_of, made, read_sheet, sheet_of, list_after, Struck}
use Rattle.sheet_spec.specs.declared.Sheet.{Sheet}
use Rattle.sheet_spec.specs.declared.TimeStruck.{TimeStruck}
use Rattle.sheet_spec.proofs.Begun.{begun}
use Rattle.sheet_spec.proofs.BothRules.{RuleAlone, rule_alone, one_list}
use Rattle.sheet_spec.proofs.InTempo.{InTempo, in_tempo}
use Rattle.sheet_spec.proofs.ByBytes.{sheet_alike, list_alike}
use Rattle.sheet_spec.proofs.Moves.{untouched, count_read, ticks_read}
use Rattle.sheet_spec.proofs.Numbers.{numbered}
use Rattle.sheet_spec.proofs.Refused.{refused_leaves, passed_fills}
use Rattle.sheet_spec.proofs.Taken.{passed_begins, sheet_begun}
use Rattle.sheet_spec.proofs.TheBet.{passing}

module _ {r : Registers} {m : List ℕ} {a : BitAddress} {rule : ℕ} {t : TimeStruck} {l : List Float}
    {o : Sheet} {m' : List ℕ} {l' : List Float} (k : Struck r m a rule t l o m' l') where
  -- The call returns v exactly if v's row of the table of refusals holds, or for 0 none of them (`Verdict`).
  pub returns_number : PassedIn (machine r m) a → (v : ℕ) → o.number ≡ v ↔ Verdict (machine r m) a rule t (length l) v
  returns_number p v =
      let e = ap (λ (x : Sheet). x.number) k.outcome in
      let n = numbered (machine r m) a p rule t (length l) v in
      (λ x. n.0 (sym e ∙ x), λ x. e ∙ n.1 x)

  -- The memory that the call was lent stays, whatever it returns.
  pub memory_stays : m' ≡ m
  memory_stays = k.memory

  -- A refused call has 0 for the rule and for the strokes, and leaves every place of the list.
  pub refused_call : o.number ≢ 0 → (o.rule ≡ 0) × (o.strokes ≡ 0) × (l' ≡ l)
  refused_call d =
      let n = refused_leaves whole (machine r m) a rule t l (λ x. d (ap (λ (y : Sheet). y.number) k.outcome ∙ x)) in
      (ap (λ (x : Sheet). x.rule) k.outcome ∙ n.shown, ap (λ (x : Sheet). x.strokes) k.outcome ∙ n.strokes, k.list ∙ n.list)

  -- A call that passes shows the rule that it was given, which is 1 or 2, and counts the strokes by that rule.
  pub passed_call : o.number ≡ 0 → KnownRule rule × (o.rule ≡ rule) × (o.strokes ≡ strokes_of rule t)
  passed_call z =
      let n = sym (ap (λ (x : Sheet). x.number) k.outcome) ∙ z in
      let f = passed_fills whole (machine r m) a rule t l n in (
        (passed_begins whole (machine r m) a rule t (length l) n).known,
        ap (λ (x : Sheet). x.rule) k.outcome ∙ f.shown,
        ap (λ (x : Sheet). x.strokes) k.outcome ∙ f.strokes,
      )

  -- A call that is refused with a number other than 42 to 44 leaves the registers.
  pub early_call : o.number ≢ 0 → (o.number < 42) ⊎ (44 < o.number) → o.registers ≡ r
  early_call d out =
      let e = ap (λ (x : Sheet). x.number) k.outcome in
      ap (λ (x : Sheet). x.registers) k.outcome ∙
      untouched whole (machine r m) a rule t (length l) (λ x. d (e ∙ x)) (subst (λ (v : ℕ). (v < 42) ⊎ (44 < v)) e out)

  -- The call's sheet and list are those that the same accesses make when each is done as two byte accesses.
  pub call_by_bytes : (o ≡ sheet_of by_bytes (machine r m) a rule t (length l)) × (l' ≡ list_after by_bytes (machine r m) a rule t l)
  call_by_bytes =
      (k.outcome ∙ sym (sheet_alike (machine r m) a rule t (length l)), k.list ∙ sym (list_alike (machine r m) a rule t l))

  -- A call that is not refused before the port is touched leaves the registers as its accesses do.
  pub moves_the_port : Begins (machine r m) rule t (length l) →
      o.registers ≡ (ends (machine r m) (made whole (machine r m) a (strokes_of rule t))).registers
  unfolding read_sheet
  moves_the_port b =
      ap (λ (x : Sheet). x.registers)
      (k.outcome ∙ sheet_begun whole (machine r m) a rule t (length l) (begun (machine r m) rule t (length l) b))

  -- such a call on what can be passed in
  module _ (p : PassedIn (machine r m) a) (b : Begins (machine r m) rule t (length l)) where
    -- A call that is not refused before the port is touched, with a count word that lies beyond memory or says another number, leaves the
    -- port one word on.
    pub stops_at_the_count :
        (length m ≤ (word_at a).0) ⊎ (((word_at a).0 < length m) × (count_word m a ≢ strokes_of rule t)) →
        o.registers ≡ standing m r.control (on_by 1 a)
    stops_at_the_count h =
        ap (λ (x : Sheet). x.registers) k.outcome ∙ (count_read (machine r m) a p rule t (length l) b h).0

    -- A call that is not refused before the port is touched, with the right count, leaves the port just past the table, whatever the ticks
    -- are.
    pub stops_past_the_table : (word_at a).0 < length m → count_word m a ≡ strokes_of rule t →
        o.registers ≡ standing m r.control (on_by (suc (strokes_of rule t)) a)
    stops_past_the_table h e =
        ap (λ (x : Sheet). x.registers) k.outcome ∙ (ticks_read (machine r m) a p rule t (length l) b h e).0

    -- A call that is not refused before the port is touched, of a table that lies in memory with the right count and whose ticks rise,
    -- passes, and leaves the list in tempo (`InTempo`).
    pub passing_call : Complete m a (strokes_of rule t) → Rises m a (strokes_of rule t) →
        (o.number ≡ 0) × ((d : Float) → InTempo (machine r m) a rule t l l' d)
    passing_call c x = (
      ap (λ (y : Sheet). y.number) k.outcome ∙ (passing (machine r m) a rule t l p b c x).number,
      λ d. subst (λ (y : List Float). InTempo (machine r m) a rule t l y d) (sym k.list) (in_tempo (machine r m) a rule t l p b c x d),
    )

-- two calls alike but for the rule, for a time with quarters 0
module _ {r : Registers} {m : List ℕ} {a : BitAddress} {t : TimeStruck} {l : List Float}
    {o p : Sheet} {m' m'' : List ℕ} {l' l'' : List Float} (one : Struck r m a 1 t l o m' l') (two : Struck r m a 2 t l p m'' l'')
    (e : t.quarters ≡ 0) where
  -- Of two calls alike but for the rule, of a time with quarters 0, the sheets have the same number, strokes and registers, and show 1 and
  -- 2 if they pass, and 0 both if they are refused; memory and list are left the same.
  pub calls_by_both_rules : RuleAlone o p × (m' ≡ m'') × (l' ≡ l'')
  calls_by_both_rules = (
    rw (one.outcome, two.outcome) (rule_alone whole (machine r m) a t e (length l)),
    one.memory ∙ sym two.memory,
    one.list ∙ one_list whole (machine r m) a t e l ∙ sym two.list,
  )
