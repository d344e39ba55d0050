-- The port's declared types in a walk of the code: each is plain data, so a value of it owns nothing but facts.
--   registers_val, access_val, answer_val, outcome_val   the machine value of each
--   registers_fit, ..      that value may be stored in a local of its type
--   have_registers, ..     what a value owns is had for nothing
--   tell_registers, ..     what is owned is let go for the fact that it shows: these machine values are the value's
use mathlib.Core.List.{[], ◌∷◌, List}
use seplogic.Ra.Ura.{Ura}
use lib.Dec.{T}
use mir.Val.{Val, WT, has_ty}
use types.Logic.{Logic}
use types.Kit.{Goal, Item, Seq, Step, ‵}
use denote.Laws.{Is, shows}
use denote.Steps.{owned, facts}
use denote.Struct.Laws as Struct
use denote.Enum.Laws as Enum
use Rattle.registers.specs.declared.Registers.{Registers}
use Rattle.registers.specs.contracts.Registers as registers
use Rattle.registers.proofs.Registers.TheLaws as registers'
use Rattle.port_spec.specs.declared.Access.{Access}
use Rattle.port_spec.specs.declared.Answer.{Answer}
use Rattle.port_spec.specs.declared.Outcome.{Outcome}
use Rattle.port_spec.specs.contracts.Access as access
use Rattle.port_spec.proofs.Access.TheLaws as access'
use Rattle.port_spec.specs.contracts.Answer as answer
use Rattle.port_spec.proofs.Answer.TheLaws as answer'
use Rattle.port_spec.specs.contracts.Outcome as outcome
use Rattle.port_spec.proofs.Outcome.TheLaws as outcome'

-- ---- machine values
-- the machine value of a register record
abbrev pub registers_val : Registers → Val
registers_val = Struct.val registers.the_type registers'.the_laws

-- the machine value of an access
abbrev pub access_val : Access → Val
access_val = Enum.val access.the_type access'.the_laws

-- the machine value of an answer
abbrev pub answer_val : Answer → Val
answer_val = Struct.val answer.the_type answer'.the_laws

-- the machine value of an outcome
abbrev pub outcome_val : Outcome → Val
outcome_val = Struct.val outcome.the_type outcome'.the_laws

-- ---- a machine value and the value that it stands for
-- the machine value v stands for the register record r
abbrev pub IsRegisters : Registers → Val → Type 0
IsRegisters r v = Is registers.the_row r (v ∷ [])

-- the machine value v stands for the access a
abbrev pub IsAccess : Access → Val → Type 0
IsAccess a v = Is access.the_row a (v ∷ [])

-- the machine value v stands for the answer x
abbrev pub IsAnswer : Answer → Val → Type 0
IsAnswer x v = Is answer.the_row x (v ∷ [])

-- the machine value v stands for the outcome o
abbrev pub IsOutcome : Outcome → Val → Type 0
IsOutcome o v = Is outcome.the_row o (v ∷ [])

-- ---- it fits a local of its type
module _ {M : Type 1} {𝓤 : Ura M} (𝓛 : Logic 𝓤) where
  -- A machine value that stands for a register record fits a local of that type.
  pub registers_fit : (r : Registers) {v : Val} → IsRegisters r v → T (has_ty registers'.mir v) × WT v
  registers_fit r {v} is = ((Struct.lawful registers.the_type registers'.the_laws 𝓛).typed r (v ∷ []) is).0

  -- A machine value that stands for an access fits a local of that type.
  pub access_fits : (a : Access) {v : Val} → IsAccess a v → T (has_ty access'.mir v) × WT v
  access_fits a {v} is = ((Enum.lawful access.the_type access'.the_laws 𝓛 tt).typed a (v ∷ []) is).0

  -- A machine value that stands for an answer fits a local of that type.
  pub answer_fits : (x : Answer) {v : Val} → IsAnswer x v → T (has_ty answer'.mir v) × WT v
  answer_fits x {v} is = ((Struct.lawful answer.the_type answer'.the_laws 𝓛).typed x (v ∷ []) is).0

  -- A machine value that stands for an outcome fits a local of that type.
  pub outcome_fits : (o : Outcome) {v : Val} → IsOutcome o v → T (has_ty outcome'.mir v) × WT v
  outcome_fits o {v} is = ((Struct.lawful outcome.the_type outcome'.the_laws 𝓛).typed o (v ∷ []) is).0

-- ---- steps of a walk
module _ {M : Type 1} {𝓤 : Ura M} {𝓛 : Logic 𝓤} {K : Type 0} {Γ : List (Item 𝓤)} {G : Goal 𝓤 𝓛.H} where
  -- What a register record owns may be taken as had, in a machine value that stands for it.
  pub have_registers : K → (r : Registers) {v : Val} → IsRegisters r v → Step K 𝓛 (‵ ((registers.the_row).own_val r (v ∷ [])) ∷ Γ) G Γ G
  have_registers t r {v} is =
      owned t registers.the_row (Is registers.the_row) (Struct.makes registers.the_type registers'.the_plain 𝓛) r (v ∷ []) is

  -- What an access owns may be taken as had, in a machine value that stands for it.
  pub have_access : K → (a : Access) {v : Val} → IsAccess a v → Step K 𝓛 (‵ ((access.the_row).own_val a (v ∷ [])) ∷ Γ) G Γ G
  have_access t a {v} is =
      owned t access.the_row (Is access.the_row) (Enum.makes access.the_type access'.the_plain 𝓛) a (v ∷ []) is

  -- What an answer owns may be taken as had, in a machine value that stands for it.
  pub have_answer : K → (x : Answer) {v : Val} → IsAnswer x v → Step K 𝓛 (‵ ((answer.the_row).own_val x (v ∷ [])) ∷ Γ) G Γ G
  have_answer t x {v} is =
      owned t answer.the_row (Is answer.the_row) (Struct.makes answer.the_type answer'.the_plain 𝓛) x (v ∷ []) is

  -- What an outcome owns may be taken as had, in a machine value that stands for it.
  pub have_outcome : K → (o : Outcome) {v : Val} → IsOutcome o v → Step K 𝓛 (‵ ((outcome.the_row).own_val o (v ∷ [])) ∷ Γ) G Γ G
  have_outcome t o {v} is =
      owned t outcome.the_row (Is outcome.the_row) (Struct.makes outcome.the_type outcome'.the_plain 𝓛) o (v ∷ []) is

  -- What a register record owns may be let go for the fact that the machine value stands for it.
  pub tell_registers : K → (r : Registers) (v : Val) → (IsRegisters r v → Seq K 𝓛 Γ G) →
      Seq K 𝓛 (‵ ((registers.the_row).own_val r (v ∷ [])) ∷ Γ) G
  tell_registers t r v = facts t registers.the_row (Is registers.the_row) (shows 𝓛 registers.the_row) r (v ∷ [])

  -- What an answer owns may be let go for the fact that the machine value stands for it.
  pub tell_answer : K → (x : Answer) (v : Val) → (IsAnswer x v → Seq K 𝓛 Γ G) →
      Seq K 𝓛 (‵ ((answer.the_row).own_val x (v ∷ [])) ∷ Γ) G
  tell_answer t x v = facts t answer.the_row (Is answer.the_row) (shows 𝓛 answer.the_row) x (v ∷ [])

  -- What an outcome owns may be let go for the fact that the machine value stands for it.
  pub tell_outcome : K → (o : Outcome) (v : Val) → (IsOutcome o v → Seq K 𝓛 Γ G) →
      Seq K 𝓛 (‵ ((outcome.the_row).own_val o (v ∷ [])) ∷ Γ) G
  tell_outcome t o v = facts t outcome.the_row (Is outcome.the_row) (shows 𝓛 outcome.the_row) o (v ∷ [])
