-- A good line at the front of a text, by its fixed places: what each test says of the bytes there.
use Prim.Native.Nat.{ℕ, ◌≤◌}
use mathlib.Core.Path.{◌≡◌, refl, sym}
use mathlib.Core.Bool.{Bool, true, false, cond, ◌&&◌}
use mathlib.Core.List.{List}
use lib.Dec.{eqb, ltb}
use lib.ListN.{length}
use borrow.Author.Tests.{eqb-true, ltb-false}
use Rattle.std.proofs.lemmas.Bool.{and_parts}
use Rattle.digits.specs.Digits.{is_decimal, is_hex}
use Rattle.listing.specs.Line.{byte, headed, tailed}
use Rattle.listing.specs.Parts.{reads, writes}

-- the first five bytes of a text: a letter, a space, a decimal digit, a space, a decimal digit
pub record Head (letter : ℕ) (t : List ℕ) : Type 0 where
  pub first : byte t 0 ≡ letter
  pub space : byte t 1 ≡ 32
  pub register : is_decimal (byte t 2) ≡ true
  pub then : byte t 3 ≡ 32
  pub lanes : is_decimal (byte t 4) ≡ true

-- A text that passes the test for a line's first five bytes has them: the letter, a space, a decimal digit, a space, a decimal digit.
pub head_is : (letter : ℕ) (t : List ℕ) → headed letter t ≡ true → Head letter t
unfolding headed
head_is letter t e =
    let d : Bool = is_decimal (byte t 4) in
    let c : Bool = eqb (byte t 3) 32 && d in
    let b : Bool = is_decimal (byte t 2) && c in
    let a : Bool = eqb (byte t 1) 32 && b in
    let p = and_parts (eqb (byte t 0) letter) a e in
    let q = and_parts (eqb (byte t 1) 32) b p.1 in
    let r = and_parts (is_decimal (byte t 2)) c q.1 in
    let s = and_parts (eqb (byte t 3) 32) d r.1 in
    record {
      first = eqb-true (byte t 0) letter p.0;
      space = eqb-true (byte t 1) 32 q.0;
      register = r.0;
      then = eqb-true (byte t 3) 32 s.0;
      lanes = s.1;
    }

-- bytes 5 to 9 of a text: a space and four hex digits
pub record Tail (t : List ℕ) : Type 0 where
  pub space : byte t 5 ≡ 32
  pub d6 : is_hex (byte t 6) ≡ true
  pub d7 : is_hex (byte t 7) ≡ true
  pub d8 : is_hex (byte t 8) ≡ true
  pub d9 : is_hex (byte t 9) ≡ true

-- A text that passes the test for a space and four hex digits at bytes 5 to 9 has them there.
pub tail_is : (t : List ℕ) → tailed t ≡ true → Tail t
unfolding tailed
tail_is t e =
    let d : Bool = is_hex (byte t 9) in
    let c : Bool = is_hex (byte t 8) && d in
    let b : Bool = is_hex (byte t 7) && c in
    let a : Bool = is_hex (byte t 6) && b in
    let p = and_parts (eqb (byte t 5) 32) a e in
    let q = and_parts (is_hex (byte t 6)) b p.1 in
    let r = and_parts (is_hex (byte t 7)) c q.1 in
    let s = and_parts (is_hex (byte t 8)) d r.1 in
    record { space = eqb-true (byte t 5) 32 p.0; d6 = q.0; d7 = r.0; d8 = s.0; d9 = s.1 }

-- A choice that comes out true, where the first way would be false, went the second way.
second_way : (a b : Bool) → cond a false b ≡ true → (a ≡ false) × (b ≡ true)
second_way true b e = (sym e, cc)
second_way false b e = (refl, e)

-- a text that begins with a good read: 6 bytes or more, the first five of a line (`Head`) with `R`, and a line feed at place 5
pub record ReadLine (t : List ℕ) : Type 0 where
  pub long : 6 ≤ length t
  pub feed : byte t 5 ≡ 10
  pub headed : headed 82 t ≡ true
  pub head : Head 82 t

-- A text that passes the test for a read begins with one.
pub read_line : (t : List ℕ) → reads t ≡ true → ReadLine t
unfolding reads
read_line t e =
    let p = second_way (ltb (length t) 6) (eqb (byte t 5) 10 && headed 82 t) e in
    let q = and_parts (eqb (byte t 5) 10) (headed 82 t) p.1 in
    record {
      long = ltb-false (length t) 6 p.0;
      feed = eqb-true (byte t 5) 10 q.0;
      headed = q.1;
      head = head_is 82 t q.1;
    }

-- a text that begins with a good write: 11 bytes or more, the first five of a line (`Head`) with `W`, the next five (`Tail`), and a line
-- feed at place 10
pub record WriteLine (t : List ℕ) : Type 0 where
  pub long : 11 ≤ length t
  pub feed : byte t 10 ≡ 10
  pub headed : headed 87 t ≡ true
  pub tailed : tailed t ≡ true
  pub head : Head 87 t
  pub tail : Tail t

-- A text that passes the test for a write begins with one.
pub write_line : (t : List ℕ) → writes t ≡ true → WriteLine t
write_line t e =
    let p = second_way (ltb (length t) 11) (eqb (byte t 10) 10 && (headed 87 t && tailed t)) e in
    let q = and_parts (eqb (byte t 10) 10) (headed 87 t && tailed t) p.1 in
    let r = and_parts (headed 87 t) (tailed t) q.1 in
    record {
      long = ltb-false (length t) 11 p.0;
      feed = eqb-true (byte t 10) 10 q.0;
      headed = r.0;
      tailed = r.1;
      head = head_is 87 t r.0;
      tail = tail_is t r.1;
    }
