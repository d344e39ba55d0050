-- Demand 3 at the door: sixteen-bit accesses done as two calls each, a byte at a time, tell and leave what single calls do.
-- What number 11 refuses is refused each time, and nothing changes. Else each call is the access by value on what the last one
-- left, and the port's own law says that these end alike.
use mathlib.Core.Path.{◌≡◌, sym, ap, subst, ◌∙◌}
use mathlib.Core.Bool.{true}
use mathlib.Core.Logic.{⊎_elim}
use Rattle.words.specs.Bytes.{AreBytes}
use Rattle.std.proofs.lemmas.Bool.{cases_Bool}
use Rattle.port_spec.specs.Sequences.{Machine, Sixteen, on, together, answer_of, after}
use Rattle.port_spec.specs.declared.Access.{Access}
use Rattle.port_spec.specs.declared.Answer.{Answer}
use Rattle.port_spec.specs.declared.Cycle.TheVariants.{None}
use Rattle.port_spec.proofs.Alike.{alike}
use Rattle.door_spec.specs.Bytes.{words_of, bytes_of}
use Rattle.door_spec.specs.Image.{registers_of, image_of}
use Rattle.door_spec.specs.Answer.{refusing}
use Rattle.door_spec.specs.Door.{misfit, call_tells}
use Rattle.door_spec.specs.InPlainWords.{Fitting}
use Rattle.door_spec.specs.Sequences.{Lent, told, left, opening, closing}
use Rattle.door_spec.proofs.Numbers.{fitting, unfit_number, unfit_refused}
use Rattle.door_spec.proofs.Refusals.{refuses}
use Rattle.door_spec.proofs.AsByValue.{tells_as_access, image_as_access, memory_as_access, registers_left, words_left}
use Rattle.door_spec.proofs.AsByValue.{fits_again, image_bytes_again, memory_bytes_again}

-- The two byte calls of x, one after the other, against one call. The first shows the number and the hollow mark that the whole
-- call shows, and has no cycle; together they tell and leave what it does.
pub record Alike (l : Lent) (x : Sixteen) : Type 0 where
  pub first_number : (told l (opening l x)).number ≡ (told l (on 3 x)).number
  pub first_hollow : (told l (opening l x)).hollow ≡ (told l (on 3 x)).hollow
  pub first_cycle : (told l (opening l x)).cycle ≡ None
  pub answer : together (told l (opening l x)) (told (left l (opening l x)) (closing l x)) ≡ told l (on 3 x)
  pub end : left (left l (opening l x)) (closing l x) ≡ left l (on 3 x)

-- ---- what fits: a call is the machine's access
abbrev stands : Lent → Machine
stands l = record { registers = registers_of l.image; memory = words_of l.memory }

abbrev bytes : Machine → Lent
bytes s = record { image = image_of s.registers; memory = bytes_of s.memory }

module _ (l : Lent) (f : Fitting l.image l.memory) (s : AreBytes l.image) (t : AreBytes l.memory) where
  told_by_value : (a : Access) → told l a ≡ answer_of (stands l) a
  unfolding answer_of
  told_by_value a = tells_as_access l.image l.memory f s t a

  left_by_value : (a : Access) → left l a ≡ bytes (after (stands l) a)
  unfolding after
  left_by_value a = rw (image_as_access l.image l.memory f s t a, memory_as_access l.image l.memory f s t a)

  stands_by_value : (a : Access) → stands (left l a) ≡ after (stands l) a
  unfolding after
  stands_by_value a = rw (registers_left l.image l.memory f s t a, words_left l.image l.memory f s t a)

-- ---- what does not fit: nothing changes
module _ (l : Lent) (e : misfit l.image l.memory ≡ true) where
  told_unfit : (a : Access) → told l a ≡ refusing 11
  unfolding call_tells
  told_unfit a = rw (unfit_number l.image l.memory a e)

  left_unfit : (a : Access) → left l a ≡ l
  left_unfit a =
      let p = refuses l.image l.memory a (unfit_refused l.image l.memory a e) in
      rw (p.image_kept, p.memory_kept)

module _ (l : Lent) (s : AreBytes l.image) (t : AreBytes l.memory) (x : Sixteen) where
  abbrev a : Access
  a = opening l x

  abbrev b : Access
  b = closing l x

  alike_fit : Fitting l.image l.memory → Alike l x
  alike_fit f =
      let f₁ = fits_again l.image l.memory f s t a in
      let s₁ = image_bytes_again l.image l.memory f s t a in
      let t₁ = memory_bytes_again l.image l.memory f s t a in
      let e = stands_by_value l f s t a in
      let p = alike (stands l) x in
      let first = told_by_value l f s t a in
      let whole = told_by_value l f s t (on 3 x) in
      record {
        first_number = rw (first, whole) p.first_number;
        first_hollow = rw (first, whole) p.first_hollow;
        first_cycle = rw first p.first_cycle;
        answer =
            ap (λ (u : Answer). together u (told (left l a) b)) first ∙
            ap (λ (u : Answer). together (answer_of (stands l) a) u)
            (told_by_value (left l a) f₁ s₁ t₁ b ∙ ap (λ (m : Machine). answer_of m b) e) ∙
            p.answer ∙ sym whole;
        end =
            left_by_value (left l a) f₁ s₁ t₁ b ∙
            ap (λ (m : Machine). bytes (after m b)) e ∙
            ap bytes p.end ∙ sym (left_by_value l f s t (on 3 x));
      }

  alike_unfit : misfit l.image l.memory ≡ true → Alike l x
  alike_unfit e =
      let stood = left_unfit l e a in
      let first = told_unfit l e a in
      let whole = told_unfit l e (on 3 x) in
      record {
        first_number = rw (first, whole);
        first_hollow = rw (first, whole);
        first_cycle = rw first;
        answer =
            ap (λ (u : Answer). together u (told (left l a) b)) first ∙
            ap (λ (u : Answer). together (refusing 11) u) (ap (λ (k : Lent). told k b) stood ∙ told_unfit l e b) ∙
            sym whole;
        end = ap (λ (k : Lent). left k b) stood ∙ left_unfit l e b ∙ sym (left_unfit l e (on 3 x));
      }

  -- A sixteen-bit access done as two byte calls tells and leaves what the single call does, whatever bytes are lent, refused calls too; the
  -- first byte call shows the number and the hollow mark of the single call, and no cycle.
  pub calls_alike : Alike l x
  calls_alike =
      ⊎_elim alike_unfit (λ e. alike_fit (fitting l.image l.memory e)) (cases_Bool (misfit l.image l.memory))

-- ---- what a call leaves is bytes again, fitting or not
module _ (l : Lent) (s : AreBytes l.image) (t : AreBytes l.memory) (a : Access) where
  -- The image after any call is bytes, if what was lent is.
  pub image_stays_bytes : AreBytes (left l a).image
  image_stays_bytes =
      ⊎_elim
      (λ e. subst (λ (k : Lent). AreBytes k.image) (sym (left_unfit l e a)) s)
      (λ e. image_bytes_again l.image l.memory (fitting l.image l.memory e) s t a)
      (cases_Bool (misfit l.image l.memory))

  -- The memory after any call is bytes, if what was lent is.
  pub memory_stays_bytes : AreBytes (left l a).memory
  memory_stays_bytes =
      ⊎_elim
      (λ e. subst (λ (k : Lent). AreBytes k.memory) (sym (left_unfit l e a)) t)
      (λ e. memory_bytes_again l.image l.memory (fitting l.image l.memory e) s t a)
      (cases_Bool (misfit l.image l.memory))
