-- A day in place and the same accesses by value are alike: answers, record and memory. So what port's laws say of sequences of accesses
-- and of runs of deeds holds of the day. By the day's length: the first access goes by its contract, the rest starts where it ended.
use mathlib.Core.Path.{◌≡◌, refl, ap, ◌∙◌}
use mathlib.Core.List.{List, [], ◌∷◌}
use Rattle.words.proofs.One.{one_value}
use Rattle.port_spec.specs.Sequences.{Machine, answer_of, after, Sixteen, on, answers, ends}
use Rattle.port_spec.specs.Deeds.{does, ran}
use Rattle.port_spec.specs.declared.Access.{Access}
use Rattle.port_spec.specs.declared.Answer.{Answer}
use Rattle.in_place.specs.Day.{Day, over, next, day_answers, day_ends, wholes, by_host}
use Rattle.in_place.proofs.Promised.{answered, left, can_be_done}

-- A day of accesses in place answers what the accesses by value answer, and leaves the record and the memory where they end.
pub day_by_value : {s t : Machine} {l : List Access} {xs : List Answer} → Day s l xs t → (xs ≡ day_answers s l) × (t ≡ day_ends s l)
unfolding day_answers day_ends
day_by_value over = (refl, refl)
day_by_value (next {s = s} {a = a} {x = x} {l = l} e d) =
    let rest = day_by_value d in
    let from = left e in (
      ap (λ (ys : List Answer). x ∷ ys) (rest.0 ∙ ap (λ (u : Machine). day_answers u l) from) ∙
          ap (λ (y : Answer). y ∷ day_answers (after s a) l) (answered e),
      rest.1 ∙ ap (λ (u : Machine). day_ends u l) from,
    )

-- Any accesses make a day: the one that the accesses by value say.
pub every_day : (s : Machine) (l : List Access) → Day s l (day_answers s l) (day_ends s l)
unfolding day_answers day_ends
every_day s [] = over
every_day s (a ∷ l) = next (can_be_done s a) (every_day (after s a) l)

-- A day has one outcome.
pub one_day : {s t u : Machine} {l : List Access} {xs ys : List Answer} → Day s l xs t → Day s l ys u → (xs ≡ ys) × (t ≡ u)
one_day d e =
    let p = day_by_value d in
    let q = day_by_value e in
    (one_value p.0 q.0, one_value p.1 q.1)

-- ---- port's laws, for a day

wholes_answer : (s : Machine) (l : List Sixteen) → day_answers s (wholes l) ≡ answers s l
unfolding day_answers answers
wholes_answer s [] = refl
wholes_answer s (a ∷ l) = ap (λ (ys : List Answer). answer_of s (on 3 a) ∷ ys) (wholes_answer (after s (on 3 a)) l)

wholes_end : (s : Machine) (l : List Sixteen) → day_ends s (wholes l) ≡ ends s l
unfolding day_ends ends
wholes_end s [] = refl
wholes_end s (a ∷ l) = wholes_end (after s (on 3 a)) l

-- A day of sixteen-bit accesses, each done whole, answers and ends as that sequence does by value (`answers`, `ends`): what port_spec's
-- laws say of its answers and of its end holds of the day.
pub whole_day : {s t : Machine} {xs : List Answer} (l : List Sixteen) → Day s (wholes l) xs t → (xs ≡ answers s l) × (t ≡ ends s l)
whole_day {s} l d =
    let p = day_by_value d in
    (p.0 ∙ wholes_answer s l, p.1 ∙ wholes_end s l)

ran_by_host : (s : Machine) (l : List Access) → day_ends s l ≡ ran s (by_host l)
unfolding day_ends ran does
ran_by_host s [] = refl
ran_by_host s (a ∷ l) = ran_by_host (after s a) l

-- A day of accesses of any kind ends where the run of these deeds of the host ends: what the keeper's law says of HSTDATA after a run holds
-- after the day.
pub day_of_deeds : {s t : Machine} {l : List Access} {xs : List Answer} → Day s l xs t → t ≡ ran s (by_host l)
day_of_deeds {s} {t} {l} d = (day_by_value d).1 ∙ ran_by_host s l
