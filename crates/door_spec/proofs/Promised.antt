-- What the contract of a call at the C door promises, said of any outcome that `Called` allows: the number when and only then, what a
-- refusal answers and leaves, that an accepted call is the access by value, and that byte calls end like word calls.
use Prim.Native.Nat.{ℕ, ◌*◌, ◌/◌}
use native.Mathlib.Omega.{arith}
use mathlib.Core.Path.{◌≡◌, refl, sym, ap, subst, ◌∙◌}
use mathlib.Core.Bool.{Bool, true, false, cond}
use mathlib.Core.List.{List}
use mathlib.Core.Logic.{◌≢◌}
use Rattle.words.specs.Addresses.{word_at}
use Rattle.words.specs.Bytes.{AreBytes}
use Rattle.port_spec.specs.Calls.{ByWords, ByBytes, AddUp, AllAddUp}
use Rattle.port_spec.specs.Host.{access, access_memory}
use Rattle.port_spec.specs.Sequences.{Sixteen, on}
use Rattle.port_spec.specs.declared.Access.{Access}
use Rattle.port_spec.specs.declared.Access.TheVariants.{Read}
use Rattle.port_spec.specs.declared.Answer.{Answer}
use Rattle.port_spec.specs.declared.Cycle.{Cycle}
use Rattle.port_spec.specs.declared.Cycle.TheVariants.{None, Inside, Empty}
use Rattle.port_spec.proofs.Sequences.{PairAlike, pair_alike, sequences_alike, words_made, bytes_made}
use Rattle.door_spec.specs.Bytes.{words_of, bytes_of, byte}
use Rattle.door_spec.specs.Image.{registers_of, image_of}
use Rattle.port_spec.specs.Cycle.{cycle_number}
use Rattle.port_spec.proofs.CycleNumbers.{cycle_told}
use Rattle.door_spec.specs.Answer.{packed}
use Rattle.door_spec.specs.Door.{call_number, call_tells, call_answer, Called}
use Rattle.door_spec.specs.InPlainWords.{Fitting, number_in}
use Rattle.door_spec.specs.Sequences.{Lent, told, left, control_in, opening, closing, Unpacks, at_the_door}
use Rattle.door_spec.proofs.Numbers.{DoorWhen}
use Rattle.door_spec.proofs.Refusals.{refuses}
use Rattle.door_spec.proofs.Packed.{number_told, call_unpacks, answer_numbered}
use Rattle.door_spec.proofs.AsByValue.{tells_as_access, image_as_access, memory_as_access, registers_left, words_left}
use Rattle.door_spec.proofs.AsByValue.{fits_again, image_bytes_again, memory_bytes_again}
use Rattle.door_spec.proofs.TwoBytes.{others_kept, read_keeps_bytes}
use Rattle.door_spec.proofs.ByBytes.{calls_alike, image_stays_bytes, memory_stays_bytes}

-- ---- one call
module _ {image memory : List ℕ} {a : Access} {x : ℕ} {image' memory' : List ℕ} (k : Called image memory a x image' memory') where
  -- The number that the answer of a call holds is one of 0, 1, 2, 3 and 11, each when, and only then (`DoorWhen`).
  pub returns_number : DoorWhen image memory a (number_in x)
  returns_number = subst (λ (p : ℕ). DoorWhen image memory a (number_in p)) (sym k.answered) (answer_numbered image memory a)

  number_found : number_in x ≡ call_number image memory a
  number_found = ap number_in k.answered ∙ (call_unpacks image memory a).number ∙ number_told image memory a

  -- Refused, a call answers 65,536 times the number and leaves every lent byte.
  pub refused_call : number_in x ≢ 0 → (x ≡ 65536 * number_in x) × (image' ≡ image) × (memory' ≡ memory)
  refused_call d =
      let n = refuses image memory a (λ z. d (number_found ∙ z)) in (
        k.answered ∙ n.answer ∙ ap (λ (v : ℕ). 65536 * v) (sym number_found),
        k.image_left ∙ n.image_kept,
        k.memory_left ∙ n.memory_kept,
      )

  -- a call on bytes
  module _ (s : AreBytes image) (t : AreBytes memory) where
    -- A call changes no byte of memory but the two of the pointer's word.
    pub call_keeps_others : (j : ℕ) → j / 2 ≢ (word_at (registers_of image).pointer).0 → byte memory' j ≡ byte memory j
    call_keeps_others j d = ap (λ (b : List ℕ). byte b j) k.memory_left ∙ others_kept image memory s t a j d

    -- a call on bytes that fit the door
    module _ (f : Fitting image memory) where
      -- The answer of a call on bytes that fit is that of the access by value on what the bytes stand for, packed.
      pub answers_as_access : x ≡ packed (access (registers_of image) (words_of memory) a).answer
      answers_as_access = k.answered ∙ ap packed (tells_as_access image memory f s t a)

      -- The word, the number, the hollow mark and the cycle in the answer of a call on bytes that fit are those of the access by value.
      pub parts_as_access : Unpacks x (access (registers_of image) (words_of memory) a).answer
      parts_as_access =
          subst (λ (u : Answer). Unpacks x u) (tells_as_access image memory f s t a)
          (subst (λ (p : ℕ). Unpacks p (call_tells image memory a)) (sym k.answered) (call_unpacks image memory a))

      -- A call on bytes that fit leaves the image of the registers that the access by value leaves.
      pub leaves_image : image' ≡ image_of (access (registers_of image) (words_of memory) a).registers
      leaves_image = k.image_left ∙ image_as_access image memory f s t a

      -- A call on bytes that fit leaves the bytes of the words that the access by value leaves.
      pub leaves_bytes : memory' ≡ bytes_of (access_memory (registers_of image) (words_of memory) a)
      leaves_bytes = k.memory_left ∙ memory_as_access image memory f s t a

      -- The image after a call on bytes that fit stands for the registers that the access by value leaves.
      pub leaves_registers : registers_of image' ≡ (access (registers_of image) (words_of memory) a).registers
      leaves_registers = ap registers_of k.image_left ∙ registers_left image memory f s t a

      -- The memory after a call on bytes that fit stands for the words that the access by value leaves.
      pub leaves_words : words_of memory' ≡ access_memory (registers_of image) (words_of memory) a
      leaves_words = ap words_of k.memory_left ∙ words_left image memory f s t a

      -- What a call on bytes that fit leaves is bytes that fit the door again.
      pub call_can_follow : Fitting image' memory' × AreBytes image' × AreBytes memory'
      call_can_follow =
          rw (k.image_left, k.memory_left)
          (fits_again image memory f s t a, image_bytes_again image memory f s t a, memory_bytes_again image memory f s t a)

-- A read leaves every byte of memory, done or refused.
pub read_call_keeps_bytes : {image memory : List ℕ} {register lanes x : ℕ} {image' memory' : List ℕ} →
    Called image memory (Read register lanes) x image' memory' → AreBytes image → AreBytes memory → memory' ≡ memory
read_call_keeps_bytes {image} {memory} {register} {lanes} k s t = k.memory_left ∙ read_keeps_bytes image memory s t register lanes

-- ---- demand 3: byte calls end like word calls
-- a number is one answer, packed
same_mark : (b c : Bool) → ◌≡◌ {A = ℕ} (cond b 1 0) (cond c 1 0) → b ≡ c
same_mark true true e = refl
same_mark true false e = absurd (omega arith)
same_mark false true e = absurd (omega arith)
same_mark false false e = refl

same_cycle : (c d : Cycle) → cycle_number c ≡ cycle_number d → c ≡ d
same_cycle c None e = (cycle_told c).none.0 e
same_cycle c Inside e = (cycle_told c).inside.0 e
same_cycle c Empty e = (cycle_told c).empty.0 e

-- The number that a call returns tells one answer.
pub one_answer : {p : ℕ} {x y : Answer} → Unpacks p x → Unpacks p y → x ≡ y
one_answer {p} {x} {y} s t =
    let number = sym s.number ∙ t.number in
    let word = sym s.word ∙ t.word in
    let hollow = same_mark x.hollow y.hollow (sym s.hollow ∙ t.hollow) in
    let cycle = same_cycle x.cycle y.cycle (sym s.cycle ∙ t.cycle) in
    ap (λ (v : ℕ). record { number = v; word = x.word; hollow = x.hollow; cycle = x.cycle }) number ∙
    ap (λ (v : ℕ). record { number = y.number; word = v; hollow = x.hollow; cycle = x.cycle }) word ∙
    ap (λ (v : Bool). record { number = y.number; word = y.word; hollow = v; cycle = x.cycle }) hollow ∙
    ap (λ (v : Cycle). record { number = y.number; word = y.word; hollow = y.hollow; cycle = v }) cycle

call_exact : (l : Lent) (a : Access) (x : Answer) (t : Lent) → at_the_door l a x t → (x ≡ told l a) × (t ≡ left l a)
call_exact l a x t k = (
  one_answer k.2 (subst (λ (p : ℕ). Unpacks p (told l a)) (sym k.1.answered) (call_unpacks l.image l.memory a)),
  ap (λ (i : List ℕ). record { image = i; memory = t.memory }) k.1.image_left ∙
      ap (λ (m : List ℕ). record { image = (left l a).image; memory = m }) k.1.memory_left,
)

call_made : (l : Lent) (a : Access) → at_the_door l a (told l a) (left l a)
call_made l a =
    let kept : Called l.image l.memory a (call_answer l.image l.memory a) (left l a).image (left l a).memory =
    record { answered = refl; image_left = refl; memory_left = refl } in
    (call_answer l.image l.memory a, kept, call_unpacks l.image l.memory a)

-- what is lent is bytes
abbrev Bytes : Lent → Type 0
Bytes l = AreBytes l.image × AreBytes l.memory

still_bytes : (l : Lent) (a : Access) → Bytes l → Bytes (left l a)
still_bytes l a h = (image_stays_bytes l h.0 h.1 a, memory_stays_bytes l h.0 h.1 a)

pairs : (l : Lent) (y : Sixteen) → Bytes l → PairAlike control_in told left l y
pairs l y h =
    let p = calls_alike l h.0 h.1 y in
    record {
      answer =
          record {
            word = ap (λ (z : Answer). z.word) p.answer;
            number = ap (λ (z : Answer). z.number) p.answer;
            hollow = ap (λ (z : Answer). z.hollow) p.answer;
            cycle = ap (λ (z : Answer). z.cycle) p.answer;
            first_number = p.first_number;
            first_hollow = p.first_hollow;
            first_cycle = p.first_cycle;
          };
      end = p.end;
    }

-- A sixteen-bit access done by two byte calls, the second on what the first left, answers what one call answers (`AddUp`), and leaves the
-- bytes that it leaves.
pub byte_calls_alike : {l t t₁ t₂ : Lent} (y : Sixteen) {x x₁ x₂ : Answer} → AreBytes l.image → AreBytes l.memory →
    at_the_door l (on 3 y) x t → at_the_door l (opening l y) x₁ t₁ → at_the_door t₁ (closing l y) x₂ t₂ → AddUp x₁ x₂ x × (t₂ ≡ t)
byte_calls_alike y b c whole first second =
    pair_alike at_the_door control_in told left Bytes call_exact still_bytes pairs y (b, c) whole first second

-- Any sequence of accesses done by byte calls answers and leaves what the word calls answer and leave, whatever bytes are lent, refused
-- calls too.
pub calls_end_alike : {l t u : Lent} {ys : List Sixteen} {xs : List Answer} {ps : List (Answer × Answer)} →
    AreBytes l.image → AreBytes l.memory →
    ByWords at_the_door l ys xs t → ByBytes at_the_door control_in l ys ps u → AllAddUp ps xs × (u ≡ t)
calls_end_alike b c w v = sequences_alike at_the_door control_in told left Bytes call_exact still_bytes pairs (b, c) w v

-- Any sequence of accesses can be made by word calls.
pub words_called : (l : Lent) (ys : List Sixteen) → (xs : List Answer) × (t : Lent) × ByWords at_the_door l ys xs t
words_called l ys = words_made at_the_door control_in told left Bytes call_exact still_bytes pairs call_made l ys

-- Any sequence of accesses can be made by byte calls.
pub bytes_called : (l : Lent) (ys : List Sixteen) → (ps : List (Answer × Answer)) × (t : Lent) × ByBytes at_the_door control_in l ys ps t
bytes_called l ys = bytes_made at_the_door control_in told left Bytes call_exact still_bytes pairs call_made l ys
