-- Calls made one after the other, each on what the one before it left: the words in which demand 3, the tuner's law and the keeper's law
-- are said of all that the contracts allow.
--   Call S                  what a call may do: from a state, asked for an access, to an answer and a state
--   ByWords call            a sequence of sixteen-bit accesses, a call for each: from where, what is answered, where it ends
--   ByBytes call control    the same, two byte calls for each, in the order that LBL commands when the first of them begins
--   AddUp x y z             the answers x and y to the two bytes tell what the answer z to the word tells
--   AllAddUp ps zs          so do the pairs ps, one by one, with the answers zs
--   by_value                the access by the host, which is handed its registers by value
--   Made                    a sequence done so, by words or by bytes
--   Did                     a run of deeds, each done by its call
use Rattle.std.specs.Prelude.{ℕ, ◌+◌, List, [], ◌∷◌, ◌⊎◌, ◌≡◌}
use Rattle.control.specs.Control.{first_lane, last_lane}
use Rattle.registers.specs.Processor.{processor_writes, at_reset}
use Rattle.registers.specs.declared.ProcessorWrite.{ProcessorWrite}
use Rattle.registers.specs.declared.Woken.{Woken}
use Rattle.port_spec.specs.Host.{Accessed}
use Rattle.port_spec.specs.Sequences.{Machine, machine, Sixteen, on}
use Rattle.port_spec.specs.Deeds.{Deed, host, processor, reset, elsewhere}
use Rattle.port_spec.specs.declared.Access.{Access}
use Rattle.port_spec.specs.declared.Answer.{Answer}
use Rattle.port_spec.specs.declared.Cycle.TheVariants.{None}

-- ---- sequences

abbrev pub Call : Type 0 → Type 1
Call S = S → Access → Answer → S → Type 0

pub data ByWords {S : Type 0} (call : Call S) : S → List Sixteen → List Answer → S → Type 0 where
  no_word : {s : S} → ByWords call s [] [] s
  a_word : {s t u : S} (a : Sixteen) {x : Answer} {rest : List Sixteen} {xs : List Answer} →
      call s (on 3 a) x t → ByWords call t rest xs u → ByWords call s (a ∷ rest) (x ∷ xs) u

-- "each done instead as two byte accesses in the order that the byte-order bit commands when it begins"
pub data ByBytes {S : Type 0} (call : Call S) (control : S → ℕ) : S → List Sixteen → List (Answer × Answer) → S → Type 0 where
  no_byte : {s : S} → ByBytes call control s [] [] s
  two_bytes : {s t u v : S} (a : Sixteen) {x y : Answer} {rest : List Sixteen} {ps : List (Answer × Answer)} →
      call s (on (first_lane (control s)) a) x t → call t (on (last_lane (control s)) a) y u →
      ByBytes call control u rest ps v → ByBytes call control s (a ∷ rest) ((x, y) ∷ ps) v

-- "ends alike: words read, both marks": the bytes' words add up to the word, and the second byte has the number and both marks; the first
-- has the number and the hollow mark too, and no cycle
pub record AddUp (x y z : Answer) : Type 0 where
  pub word : x.word + y.word ≡ z.word
  pub number : y.number ≡ z.number
  pub hollow : y.hollow ≡ z.hollow
  pub cycle : y.cycle ≡ z.cycle
  pub first_number : x.number ≡ z.number
  pub first_hollow : x.hollow ≡ z.hollow
  pub first_cycle : x.cycle ≡ None

pub data AllAddUp : List (Answer × Answer) → List Answer → Type 0 where
  no_pair : AllAddUp [] []
  a_pair : {x y z : Answer} {ps : List (Answer × Answer)} {zs : List Answer} →
      AddUp x y z → AllAddUp ps zs → AllAddUp ((x, y) ∷ ps) (z ∷ zs)

-- ---- the access by value

abbrev pub by_value : Call Machine
by_value s a x t = Accessed s.registers s.memory a (record { answer = x; registers = t.registers }) t.memory

abbrev pub control_of : Machine → ℕ
control_of s = s.registers.control

-- by words, each answering one of xs; or by bytes, each pair of answers adding up to one of xs
abbrev pub Made : Machine → List Sixteen → List Answer → Machine → Type 0
Made s l xs t =
    ByWords by_value s l xs t ⊎ ((ps : List (Answer × Answer)) × ByBytes by_value control_of s l ps t × AllAddUp ps xs)

-- ---- any run of deeds

pub data Did : Machine → List Deed → Machine → Type 0 where
  nothing : {s : Machine} → Did s [] s
  by_host : {s t u : Machine} {a : Access} {x : Answer} {rest : List Deed} →
      by_value s a x t → Did t rest u → Did s (host a ∷ rest) u
  by_processor : {s u : Machine} {register w : ℕ} {o : ProcessorWrite} {rest : List Deed} →
      o ≡ processor_writes s.registers register w → Did (machine o.registers s.memory) rest u →
      Did s (processor register w ∷ rest) u
  by_reset : {s u : Machine} {o : Woken} {rest : List Deed} →
      o ≡ at_reset → Did (machine o.registers s.memory) rest u → Did s (reset ∷ rest) u
  by_others : {s u : Machine} {m : List ℕ} {rest : List Deed} → Did (machine s.registers m) rest u → Did s (elsewhere m ∷ rest) u
