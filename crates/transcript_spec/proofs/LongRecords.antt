-- Records that are cut off after four bytes or more: whatever follows they stay bad, and their first four bytes tell as what.
-- The number that is left open goes on into what follows: it stays open, or is padded, or has four groups at least and is over any limit.
use Prim.Native.Nat.{ℕ, zero, suc, ◌<◌, ◌≤◌}
use native.Mathlib.Omega.{arith}
use mathlib.Core.Path.{◌≡◌, refl, sym, ap, ◌∙◌, subst}
use mathlib.Core.List.{List, [], ◌∷◌, ◌++◌, append_assoc}
use mathlib.Core.Logic.{⊎_elim, ◌≢◌}
use lib.ListN.{length, take, length-append, length-take}
use Rattle.words.specs.Bytes.{AreBytes}
use Rattle.std.proofs.lemmas.Bool.{cases_eq}
use Rattle.transcript_spec.specs.InPlainWords.{Continued, Spelled, BadHead, BadWord, WriteHead}
use Rattle.transcript_spec.specs.InPlainWords.{BadRecord, head_cut, head_bad, word_cut, word_bad}
use Rattle.transcript_spec.specs.InPlainWords as plain
use Rattle.transcript_spec.proofs.Bytes.{bytes_first, bytes_second}
use Rattle.transcript_spec.proofs.Groups.{one_group, long, first_group, said_by_groups}
use Rattle.transcript_spec.proofs.Divided.{FrontNumber, cut, whole, front_number, has_a_byte}

-- ---- a number that goes on
continued_joined : (s t : List ℕ) → Continued s → Continued t → Continued (s ++ t)
continued_joined [] t p q = q
continued_joined (b ∷ s) t p q = (p.0, continued_joined s t p.1 q)

continued_take : (k : ℕ) (s : List ℕ) → Continued s → Continued (take k s)
continued_take zero s p = tt
continued_take (suc k) [] p = tt
continued_take (suc k) (b ∷ s) p = (p.0, continued_take k s p.1)

spelled_on : (s h : List ℕ) → Continued s → Spelled h → Spelled (s ++ h)
spelled_on s h c p =
    record {
      first = s ++ p.first;
      last = p.last;
      all = ap (λ (t : List ℕ). s ++ t) p.all ∙ sym (append_assoc s p.first (p.last ∷ []));
      continued = continued_joined s p.first c p.continued;
      ends = p.ends;
    }

-- ---- a string that begins with no word: the number is cut off, or it is a bad one
data NoWord (s : List ℕ) : ℕ → Type 0 where
  open_number : Continued s → NoWord s 20
  bad_number : (w rest : List ℕ) {n : ℕ} → s ≡ w ++ rest → Spelled w → BadWord w n → NoWord s n

-- a bad word would be a bad head, refused with the same number
bad_as_head : {s : List ℕ} {n : ℕ} → BadWord s n → BadHead s n
bad_as_head (plain.BadWord.padded z) = plain.BadHead.padded z
bad_as_head (plain.BadWord.over d h) = plain.BadHead.over d (omega arith)

as_head : (b : ℕ) (s : List ℕ) (n : ℕ) → NoWord (b ∷ s) n → BadRecord (b ∷ s) n
as_head b s _ (open_number c) = head_cut c
as_head b s n (bad_number w rest e p q) =
    subst (λ (t : List ℕ). BadRecord t n) (sym e) (head_bad rest p (bad_as_head q))

as_word : (h s : List ℕ) (n : ℕ) → WriteHead h → NoWord s n → BadRecord (h ++ s) n
as_word h s _ p (open_number c) = word_cut s p c
as_word h s n p (bad_number w rest e q x) =
    subst (λ (t : List ℕ). BadRecord (h ++ t) n) (sym e) (word_bad rest p q x)

-- ---- a number that is open after three bytes or more
-- with a byte more it is too large, unless its first group is 0
too_large : (b : ℕ) (s : List ℕ) → b < 256 → 128 ≤ b → 3 ≤ length s → b ≢ 128 → BadWord (b ∷ s) 22
too_large b s h l k d = let v = long b s (first_group b h l d).0 k in plain.BadWord.over d (omega arith)

-- so its first byte decides as what it is bad
bad_alike : (b : ℕ) (s t : List ℕ) → b < 256 → 128 ≤ b → 3 ≤ length s → 3 ≤ length t →
    (n : ℕ) × BadWord (b ∷ s) n × BadWord (b ∷ t) n
bad_alike b s t h l p q =
    ⊎_elim
    (λ z. (21, plain.BadWord.padded z, plain.BadWord.padded z))
    (λ d. (22, too_large b s h l p d, too_large b t h l q d))
    (cases_eq b 128)

-- it ends with the first number of what follows
goes_on : (s v h rest : List ℕ) (n : ℕ) → Continued s → v ≡ h ++ rest → Spelled h → BadWord (s ++ h) n → NoWord (s ++ v) n
goes_on s v h rest n c e p q =
    bad_number (s ++ h) rest (ap (λ (t : List ℕ). s ++ t) e ∙ sym (append_assoc s h rest)) (spelled_on s h c p) q

-- two open numbers with the same first byte are bad alike, whatever follows
open_alike : (b : ℕ) (s t v : List ℕ) → b < 256 → Continued (b ∷ s) → Continued (b ∷ t) → 2 ≤ length s → 2 ≤ length t →
    FrontNumber v → (n : ℕ) × NoWord (b ∷ s ++ v) n × NoWord (b ∷ t ++ v) n
open_alike b s t v h c d k l (cut e) =
    (20, open_number (continued_joined (b ∷ s) v c e), open_number (continued_joined (b ∷ t) v d e))
open_alike b s t v h c d k l (whole w rest e p) =
    let more = has_a_byte w p in
    let x = bad_alike b (s ++ w) (t ++ w) h c.0 (simp length-append (omega arith)) (simp length-append (omega arith)) in
    (x.0, goes_on (b ∷ s) v w rest x.0 c e p x.1, goes_on (b ∷ t) v w rest x.0 d e p x.2)

-- and so are an open number and its first bytes, three or more
front_alike : (k : ℕ) (s v : List ℕ) → 2 ≤ k → AreBytes s → Continued s → 3 ≤ length s →
    (n : ℕ) × NoWord (s ++ v) n × NoWord (take (suc k) s ++ v) n
front_alike k [] v h b c l = absurd (omega arith)
front_alike k (a ∷ s) v h b c l =
    let m = length-take k s in
    open_alike a s (take k s) v (b 0) c (c.0, continued_take k s c.1) (omega arith) (omega arith) (front_number v)

-- ---- a record that is cut off
-- it and its first four bytes are bad alike, whatever follows
abbrev Alike : List ℕ → List ℕ → Type 0
Alike u v = (n : ℕ) × BadRecord (u ++ v) n × BadRecord (take 4 u ++ v) n

cut_head : (b : ℕ) (s v : List ℕ) → AreBytes (b ∷ s) → Continued (b ∷ s) → 4 ≤ length (b ∷ s) → Alike (b ∷ s) v
cut_head b s v a c l =
    let x = front_alike 3 (b ∷ s) v (omega arith) a c (omega arith) in
    (x.0, as_head b (s ++ v) x.0 x.1, as_head b (take 3 s ++ v) x.0 x.2)

-- a write's head is one byte
one_byte_head : (h : List ℕ) → AreBytes h → (p : WriteHead h) → h ≡ p.head ∷ []
one_byte_head h b p =
    let l = p.small in
    said_by_groups h p.head b p.says (omega arith) ∙ one_group p.head (omega arith)

after_one_byte : (g : ℕ) (s v : List ℕ) → WriteHead (g ∷ []) → AreBytes s → Continued s → 3 ≤ length s → Alike (g ∷ s) v
after_one_byte g s v p a c l =
    let x = front_alike 2 s v (omega arith) a c l in
    (x.0, as_word (g ∷ []) (s ++ v) x.0 p x.1, as_word (g ∷ []) (take 3 s ++ v) x.0 p x.2)

cut_word : (h s v : List ℕ) → WriteHead h → AreBytes (h ++ s) → Continued s → 4 ≤ length (h ++ s) → Alike (h ++ s) v
cut_word h s v p a c l =
    let e = one_byte_head h (bytes_first h s a) p in
    let k = ap (λ (t : List ℕ). length (t ++ s)) e in
    subst (λ (t : List ℕ). Alike (t ++ s) v) (sym e)
    (after_one_byte p.head s v (subst WriteHead e p) (bytes_second h s a) c (omega arith))

-- a head or a word that ends is not refused with 20
not_20 : {s : List ℕ} {n : ℕ} → BadHead s n → n ≢ 20
not_20 (plain.BadHead.padded _) e = omega arith
not_20 (plain.BadHead.over _ _) e = omega arith
not_20 (plain.BadHead.off_lanes _ _) e = omega arith

-- A record that is cut off after four bytes or more is bad whatever follows, and its first four bytes tell as what.
pub first_four : (u v : List ℕ) → AreBytes u → BadRecord u 20 → 4 ≤ length u →
    (n : ℕ) × BadRecord (u ++ v) n × BadRecord (take 4 u ++ v) n
first_four _ v a (head_cut {b} {s} c) l = cut_head b s v a c l
first_four _ v a (head_bad s p q) l = absurd (not_20 q refl)
first_four _ v a (word_cut {h} s p c) l = cut_word h s v p a c l
first_four _ v a (word_bad s p r q) l = absurd (not_20 (bad_as_head q) refl)
