-- Demand 3 for the access in place: sixteen-bit accesses, each done as two byte accesses in the order that LBL of the record commands when
-- it begins, end alike: words read, both marks, record and memory. Said of any calls that `AccessedInPlace` allows, refused ones too, on
-- any record and any memory. By the law that port has for every door (`Sequences`).
use mathlib.Core.Path.{◌≡◌, ap}
use mathlib.Core.List.{List, [], ◌∷◌}
use Rattle.port_spec.specs.Calls.{ByWords, no_word, a_word, AddUp, AllAddUp, control_of}
use Rattle.port_spec.specs.Sequences.{Machine, answer_of, after, Sixteen, on, opening, closing}
use Rattle.port_spec.specs.declared.Access.{Access}
use Rattle.port_spec.specs.declared.Answer.{Answer}
use Rattle.port_spec.proofs.CallAfterCall.{bytes_alike}
use Rattle.port_spec.proofs.Sequences.{PairAlike, pair_alike, sequences_alike, bytes_made}
use Rattle.in_place.specs.Day.{in_place, Day, over, next, ByteDay, wholes}
use Rattle.in_place.proofs.Promised.{answered, left, can_be_done}

exact : (s : Machine) (a : Access) (x : Answer) (t : Machine) → in_place s a x t → (x ≡ answer_of s a) × (t ≡ after s a)
exact s a x t e = (answered e, left e)

abbrev any_machine : Machine → Type 0
any_machine s = Unit

pairs : (s : Machine) (a : Sixteen) → any_machine s → PairAlike control_of answer_of after s a
pairs s a h = bytes_alike s a

-- A sixteen-bit access done in place as two byte accesses, the second on what the first left, answers what the whole one answers, and
-- leaves the record and the memory that it leaves.
pub bytes_in_place : {s t t₁ t₂ : Machine} (a : Sixteen) {x x₁ x₂ : Answer} → in_place s (on 3 a) x t →
    in_place s (opening s a) x₁ t₁ → in_place t₁ (closing s a) x₂ t₂ → AddUp x₁ x₂ x × (t₂ ≡ t)
bytes_in_place a whole first second =
    pair_alike in_place control_of answer_of after any_machine exact (λ _ _ _. tt) pairs a tt whole first second

-- a day of whole sixteen-bit accesses is a sequence of them
by_words : {s t : Machine} (l : List Sixteen) {xs : List Answer} → Day s (wholes l) xs t → ByWords in_place s l xs t
by_words [] over = no_word
by_words (a ∷ l) (next e d) = a_word a e (by_words l d)

-- A day by bytes leaves the record and the memory that the day by words leaves, and each pair of answers adds up to the word's.
pub days_alike : {s t u : Machine} (l : List Sixteen) {xs : List Answer} {ps : List (Answer × Answer)} →
    Day s (wholes l) xs t → ByteDay s l ps u → AllAddUp ps xs × (u.registers ≡ t.registers) × (u.memory ≡ t.memory)
days_alike l w b =
    let q = sequences_alike in_place control_of answer_of after any_machine exact (λ _ _ _. tt) pairs tt (by_words l w) b in
    (q.0, ap (λ (v : Machine). v.registers) q.1, ap (λ (v : Machine). v.memory) q.1)

-- Any sixteen-bit accesses make a day by bytes.
pub every_byte_day : (s : Machine) (l : List Sixteen) → (ps : List (Answer × Answer)) × (t : Machine) × ByteDay s l ps t
every_byte_day s l = bytes_made in_place control_of answer_of after any_machine exact (λ _ _ _. tt) pairs can_be_done s l
