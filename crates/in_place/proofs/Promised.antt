-- What the contract of an access in place promises, said of any outcome that `AccessedInPlace` allows, with the call's own record, memory
-- and access: the number when, and only then; what a refusal answers and leaves; that it is the access by value. `ByBytes` says demand 3
-- of it, `WholeDay` what a day of such calls comes to. Last, what the contracts of both functions say.
use Prim.Native.Nat.{ℕ}
use mathlib.Core.Path.{◌≡◌, refl, sym, ap, subst, ◌∙◌}
use mathlib.Core.Bool.{false}
use mathlib.Core.List.{List}
use mathlib.Core.Logic.{◌≢◌}
use lib.ListN.{length}
use seplogic.Ra.Ura.{Ura}
use base.Logic.{SProp, emp}
use contract.Lifetimes.{Lfts}
use contract.Monad.{Fun, fact}
use denote.Triple.Entry.{Args}
use denote.Triple.Spec.{exits}
use types.Logic.{Logic}
use prog.Memory.{Memory}
use prog.Routine.{Routine}
use Rattle.words.proofs.Contracts.{Contract}
use Rattle.registers.specs.declared.Registers.{Registers}
use Rattle.port_spec.specs.Host.{register_of, lanes_of, access, Accessed}
use Rattle.port_spec.specs.Sequences.{Machine, machine, answer_of, after}
use Rattle.port_spec.specs.declared.Access.{Access}
use Rattle.port_spec.specs.declared.Answer.{Answer}
use Rattle.port_spec.specs.declared.Cycle.TheVariants.{None}
use Rattle.port_spec.specs.declared.Outcome.{Outcome}
use Rattle.port_spec.proofs.Numbers.{AccessWhen, numbered, refuses}
use Rattle.in_place.specs.InPlace.{AccessedInPlace}
use Rattle.in_place.specs.contracts.host_access_in_place as in_place
use Rattle.in_place.proofs.host_access_in_place.Kinds as in_place_kinds
use Rattle.in_place.proofs.host_access_in_place.Reads as in_place_reads
use Rattle.in_place.proofs.host_access_by_lending.Kinds as lending_kinds
use Rattle.in_place.proofs.host_access_by_lending.Reads as lending

-- an answer of zeros, and the record and the memory as they stood
pub record Untouched (r : Registers) (m : List ℕ) (x : Answer) (r' : Registers) (m' : List ℕ) : Type 0 where
  pub word : x.word ≡ 0
  pub hollow : x.hollow ≡ false
  pub cycle : x.cycle ≡ None
  pub registers : r' ≡ r
  pub memory : m' ≡ m

module _ {r r' : Registers} {m m' : List ℕ} {a : Access} {x : Answer} (e : AccessedInPlace r m a x r' m') where
  -- An access in place is numbered 0 to 3, each when, and only then, as the access by value (`AccessWhen`).
  pub numbered_in_place : AccessWhen (length m) (register_of a) (lanes_of a) x.number
  numbered_in_place =
      subst (λ (y : Answer). AccessWhen (length m) (register_of a) (lanes_of a) y.number) (sym e.answer) (numbered r m a)

  -- Every access in place that answers another number than 0 answers zeros besides, and leaves the record and the memory as they stood.
  pub refused_in_place : x.number ≢ 0 → Untouched r m x r' m'
  refused_in_place n =
      let f = refuses r m a (λ q. n (ap (λ (y : Answer). y.number) e.answer ∙ q)) in
      record {
        word = ap (λ (y : Answer). y.word) e.answer ∙ f.word;
        hollow = ap (λ (y : Answer). y.hollow) e.answer ∙ f.hollow;
        cycle = ap (λ (y : Answer). y.cycle) e.answer ∙ f.cycle;
        registers = e.registers ∙ f.registers;
        memory = e.memory ∙ f.memory;
      }

  -- Whatever the access by value returns on the same record, memory and access, and the memory that it leaves: the access in place answers
  -- that answer, and leaves those registers in the record and that memory.
  pub same_by_value : {o : Outcome} {m'' : List ℕ} → Accessed r m a o m'' → (x ≡ o.answer) × (r' ≡ o.registers) × (m' ≡ m'')
  same_by_value v = (
    e.answer ∙ sym (ap (λ (o : Outcome). o.answer) v.outcome),
    e.registers ∙ sym (ap (λ (o : Outcome). o.registers) v.outcome),
    e.memory ∙ sym v.memory,
  )

-- ---- on a machine, a record with a memory

-- An access in place answers what the machine answers.
pub answered : {s u : Machine} {a : Access} {x : Answer} →
    AccessedInPlace s.registers s.memory a x u.registers u.memory → x ≡ answer_of s a
unfolding answer_of
answered e = e.answer

-- An access in place leaves the machine that comes after it.
pub left : {s u : Machine} {a : Access} {x : Answer} →
    AccessedInPlace s.registers s.memory a x u.registers u.memory → u ≡ after s a
unfolding after
left {s} {u} {a} e =
    ap (λ (r : Registers). machine r u.memory) e.registers ∙
    ap (λ (m : List ℕ). machine (access s.registers s.memory a).registers m) e.memory

-- What the machine answers and leaves, an access in place may answer and leave.
pub can_be_done : (s : Machine) (a : Access) →
    AccessedInPlace s.registers s.memory a (answer_of s a) (after s a).registers (after s a).memory
unfolding answer_of after
can_be_done s a = record { answer = refl; registers = refl; memory = refl }

-- ---- the contracts themselves: what the check makes of a function's `ensures`, its arguments named by their places

-- `host_access_in_place`: the contract that the code is proved to meet (`spec`) says `AccessedInPlace` of the function's own record, memory
-- and access, each in its place. `exits` is the kit's word for what holds of the parameters at exit.
pub in_place_says : {M : Type 1} {𝓤 : Ura M} (𝓛 : Logic 𝓤) (at_mem : Memory → SProp 𝓤) (run : Routine → Fun 𝓤)
    (κs : Lfts 2) (a : Args in_place.signature κs) (x : Answer) →
    (in_place.spec 𝓛 at_mem run κs a).ensures tt x ≡
    exits 𝓛 in_place.signature (in_place.ended).kept κs a
    (λ s. fact 𝓤 (AccessedInPlace a.0.now a.1.0.now a.1.1.0 x s.0.now s.1.0.now))
in_place_says 𝓛 at_mem run κs a x = refl

-- The contract that `host_access_in_place` is proved to meet asks nothing of the caller.
pub in_place_asks_nothing : {M : Type 1} {𝓤 : Ura M} (𝓛 : Logic 𝓤) (at_mem : Memory → SProp 𝓤) (run : Routine → Fun 𝓤)
    (κs : Lfts 2) (a : Args in_place.signature κs) → (in_place.spec 𝓛 at_mem run κs a).requires tt ≡ emp 𝓤
in_place_asks_nothing 𝓛 at_mem run κs a = refl

-- `host_access_in_place` takes any r, memory and a, and all that its contract allows is `AccessedInPlace` of them.
pub host_access_in_place_contract : Contract in_place_kinds.ps in_place_kinds.r in_place_reads.Pre in_place_reads.Post
    (λ κs args x left.
    let r = args.0 in
    let r' = left.0 in
    let memory = args.1.0 in
    let memory' = left.1.0 in
    let a = args.1.1.0 in
    AccessedInPlace r.now memory.now a x r'.now memory'.now)
host_access_in_place_contract = record { takes_any = λ κs args. tt; says = λ κs args x left p. p }

-- `host_access_by_lending` takes any r, memory and a, and all that its contract allows is `Accessed` of them.
pub host_access_by_lending_contract : Contract lending_kinds.ps lending_kinds.r lending.Pre lending.Post
    (λ κs args o left.
    let r = args.0 in
    let memory = args.1.0 in
    let memory' = left.1.0 in
    let a = args.1.1.0 in
    Accessed r memory.now a o memory'.now)
host_access_by_lending_contract = record { takes_any = λ κs args. tt; says = λ κs args o left p. p }
