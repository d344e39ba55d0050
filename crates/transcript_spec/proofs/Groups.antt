-- A number's groups are the one way to spell it: written in groups it says what it was, and whatever says a number below 65,536 is its
-- groups. By how many groups there are; four or more with no leading zero group make 2,097,152 at least.
use Prim.Native.Nat.{ℕ, ◌+◌, ◌*◌, ◌/◌, ◌%◌, ◌^◌, ◌<◌, ◌≤◌}
use native.Mathlib.Nat.{mul-le-mul, pow-le-pow_right}
use native.Mathlib.Omega.{arith}
use mathlib.Core.Path.{◌≡◌, refl, sym, ap, ◌∙◌, subst}
use mathlib.Core.List.{List, [], ◌∷◌, ◌++◌}
use mathlib.Core.Logic.{⊎_elim, ◌≢◌}
use lib.ListN.{length, get_or, length-append}
use borrow.Author.Tests.{lt-ltb, le-ltb}
use Rattle.words.specs.Bytes.{AreBytes}
use Rattle.std.proofs.lemmas.Bool.{cases_lt}
use Rattle.transcript_spec.specs.Format.{groups}
use Rattle.transcript_spec.specs.InPlainWords.{Continued, Spelled, value_of, Spells}
use Rattle.transcript_spec.proofs.Bytes.{bytes_none, bytes_cons, bytes_first}

-- ---- groups, by how many there are
-- A number below 128 is one group.
pub one_group : (v : ℕ) → v < 128 → groups v ≡ v ∷ []
unfolding groups
one_group v h = rw (lt-ltb v 128 h)

-- A number from 128 on, below 16,384, is two groups.
pub two_groups : (v : ℕ) → 128 ≤ v → v < 16384 → groups v ≡ (128 + v / 128) ∷ (v % 128) ∷ []
unfolding groups
two_groups v l h = rw (le-ltb v 128 l, lt-ltb v 16384 h)

-- What `groups` makes of a number from 16,384 on is three groups.
pub three_groups : (v : ℕ) → 16384 ≤ v → groups v ≡ (128 + v / 16384) ∷ (128 + v / 128 % 128) ∷ (v % 128) ∷ []
unfolding groups
three_groups v l = let k : 128 ≤ v = omega arith in rw (le-ltb v 128 k, le-ltb v 16384 l)

-- What `groups` makes of a number has at most three groups.
pub few_groups : (v : ℕ) → length (groups v) ≤ 3
few_groups v =
    ⊎_elim
    (λ small. omega (arith, ap length (one_group v small)))
    (λ h.
    ⊎_elim
    (λ k. omega (arith, ap length (two_groups v h k)))
    (λ large. omega (arith, ap length (three_groups v large)))
    (cases_lt v 16384))
    (cases_lt v 128)

-- ---- what some bytes spell, by how many there are
value_one : (a : ℕ) → value_of (a ∷ []) ≡ a % 128
unfolding value_of
value_one a = omega arith

value_two : (a b : ℕ) → value_of (a ∷ b ∷ []) ≡ a % 128 * 128 + b % 128
unfolding value_of
value_two a b = omega arith

value_three : (a b c : ℕ) → value_of (a ∷ b ∷ c ∷ []) ≡ a % 128 * 16384 + b % 128 * 128 + c % 128
unfolding value_of
value_three a b c = omega arith

-- ---- groups say what was written
abbrev spells : (first : List ℕ) (g : ℕ) → Continued first → g < 128 → Spelled (first ++ (g ∷ []))
spells first g c h = record { first = first; last = g; all = refl; continued = c; ends = h }

says_one : (v : ℕ) → v < 128 → Spells (groups v) v
says_one v h =
    subst (λ (s : List ℕ). Spells s v) (sym (one_group v h))
    (record { spelled = spells [] v tt h; unpadded = λ e. omega arith; value = value_one v ∙ (omega arith) })

says_two : (v : ℕ) → 128 ≤ v → v < 16384 → Spells (groups v) v
says_two v l h =
    subst (λ (s : List ℕ). Spells s v) (sym (two_groups v l h))
    (record {
      spelled = spells ((128 + v / 128) ∷ []) (v % 128) (omega arith, tt) (omega arith);
      unpadded = λ e. omega arith;
      value = value_two (128 + v / 128) (v % 128) ∙ (omega arith);
    })

says_three : (v : ℕ) → 16384 ≤ v → v < 2097152 → Spells (groups v) v
says_three v l h =
    subst (λ (s : List ℕ). Spells s v) (sym (three_groups v l))
    (record {
      spelled = spells ((128 + v / 16384) ∷ (128 + v / 128 % 128) ∷ []) (v % 128) (omega arith, (omega arith, tt)) (omega arith);
      unpadded = λ e. omega arith;
      value = value_three (128 + v / 16384) (128 + v / 128 % 128) (v % 128) ∙ (omega arith);
    })

-- A number below 2^21 is spelled by its groups, with the top bit on all bytes but the last and no leading zero group.
pub groups_say : (v : ℕ) → v < 2097152 → Spells (groups v) v
groups_say v h =
    ⊎_elim (says_one v)
    (λ l. ⊎_elim (says_two v l) (λ k. says_three v k h) (cases_lt v 16384))
    (cases_lt v 128)

three_bytes : (a b c : ℕ) → a < 256 → b < 256 → c < 256 → AreBytes (a ∷ b ∷ c ∷ [])
three_bytes a b c p q r = bytes_cons a (b ∷ c ∷ []) p (bytes_cons b (c ∷ []) q (bytes_cons c [] r bytes_none))

-- The groups of a number below 2^21 are bytes.
pub groups_bytes : (v : ℕ) → v < 2097152 → AreBytes (groups v)
groups_bytes v h =
    ⊎_elim
    (λ k. subst AreBytes (sym (one_group v k)) (bytes_cons v [] (omega arith) bytes_none))
    (λ l.
    ⊎_elim
    (λ k.
    subst AreBytes (sym (two_groups v l k))
    (bytes_cons (128 + v / 128) (v % 128 ∷ []) (omega arith) (bytes_cons (v % 128) [] (omega arith) bytes_none)))
    (λ k.
    subst AreBytes (sym (three_groups v k))
    (three_bytes (128 + v / 16384) (128 + v / 128 % 128) (v % 128) (omega arith) (omega arith) (omega arith)))
    (cases_lt v 16384))
    (cases_lt v 128)

-- ---- whatever says a number is its groups
-- Four groups or more, the first not 0, make 128^3 at least.
pub long : (a : ℕ) (s : List ℕ) → 1 ≤ a % 128 → 3 ≤ length s → 2097152 ≤ value_of (a ∷ s)
unfolding value_of
long a s h l =
    let p : 128 ^ 3 ≤ 128 ^ length s = pow-le-pow_right (omega arith) l in
    let q : 1 * 128 ^ 3 ≤ a % 128 * 128 ^ length s = mul-le-mul h p in
    omega arith

-- Of a byte with the top bit set, other than 80h, the group is not 0.
pub first_group : (a : ℕ) → a < 256 → 128 ≤ a → a ≢ 128 → (1 ≤ a % 128) × (128 + a % 128 ≡ a)
first_group a h l d = (omega (arith, d), omega arith)

only : (first : List ℕ) (g : ℕ) → AreBytes first → Continued first → g < 128 → get_or (first ++ (g ∷ [])) 0 0 ≢ 128 →
    value_of (first ++ (g ∷ [])) < 65536 → first ++ (g ∷ []) ≡ groups (value_of (first ++ (g ∷ [])))
only [] g b c h d v =
    let e : value_of (g ∷ []) ≡ g = value_one g ∙ (omega arith) in
    sym (ap groups e ∙ one_group g h)
only (a ∷ []) g b c h d v =
    let e : value_of (a ∷ g ∷ []) ≡ a % 128 * 128 + g = value_two a g ∙ (omega arith) in
    let f = first_group a (b 0) c.0 d in
    let x : 128 + (a % 128 * 128 + g) / 128 ≡ a = omega arith in
    let y : (a % 128 * 128 + g) % 128 ≡ g = omega arith in
    sym (ap groups e ∙ two_groups (a % 128 * 128 + g) (omega arith) (omega arith) ∙ rw (x, y))
only (a ∷ k ∷ []) g b c h d v =
    let e : value_of (a ∷ k ∷ g ∷ []) ≡ a % 128 * 16384 + k % 128 * 128 + g = value_three a k g ∙ (omega arith) in
    let f = first_group a (b 0) c.0 d in
    let x : 128 + (a % 128 * 16384 + k % 128 * 128 + g) / 16384 ≡ a = omega arith in
    let y : 128 + (a % 128 * 16384 + k % 128 * 128 + g) / 128 % 128 ≡ k = omega (arith, b 1, c.1.0) in
    let z : (a % 128 * 16384 + k % 128 * 128 + g) % 128 ≡ g = omega arith in
    sym (ap groups e ∙ three_groups (a % 128 * 16384 + k % 128 * 128 + g) (omega arith) ∙ rw (x, y, z))
only (a ∷ k ∷ j ∷ rest) g b c h d v =
    let f = first_group a (b 0) c.0 d in
    let n : 3 ≤ length (k ∷ j ∷ rest ++ (g ∷ [])) = simp length-append (omega arith) in
    let l = long a (k ∷ j ∷ rest ++ (g ∷ [])) f.0 n in
    absurd (omega arith)

-- Bytes that spell a number below 65,536, with no leading zero group, are its groups.
pub said_by_groups : (s : List ℕ) (v : ℕ) → AreBytes s → Spells s v → v < 65536 → s ≡ groups v
said_by_groups s v b q h =
    let p = q.spelled in
    let w = subst (λ (t : List ℕ). AreBytes t) p.all b in
    let small : value_of (p.first ++ (p.last ∷ [])) < 65536 =
    subst (λ (n : ℕ). n < 65536) (sym (ap value_of (sym p.all) ∙ q.value)) h in
    p.all
    ∙ only p.first p.last (bytes_first p.first (p.last ∷ []) w) p.continued p.ends
    (λ e. q.unpadded (ap (λ (t : List ℕ). get_or t 0 0) p.all ∙ e)) small
    ∙ ap groups (ap value_of (sym p.all) ∙ q.value)
