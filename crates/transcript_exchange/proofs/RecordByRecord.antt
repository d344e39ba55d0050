-- The loop that measures the lines of a string's good records: what holds at each turn, and what it says at the end.
use Prim.Native.Nat.{ℕ, ◌+◌, ◌-◌, ◌≤◌, ◌<◌}
use native.Mathlib.Omega.{arith}
use mathlib.Core.Path.{◌≡◌, refl, ap, ◌∙◌}
use mathlib.Core.List.{List, [], ◌∷◌, ◌++◌}
use lib.ListN.{length, drop, get_or, length-append}
use borrow.Author.Tests.{lt-ltb, le-ltb}
use Rattle.std.specs.Prelude.{Ok, Err}
use Rattle.listing.specs.Spelled.{lines_of}
use Rattle.transcript_spec.specs.Reading.{Reading, fresh, byte_taken, entries_read}
use Rattle.transcript_spec.specs.declared.Entry.{Entry}
use Rattle.transcript_spec.specs.declared.Part.{Part}
use Rattle.transcript_spec.specs.declared.Step.TheVariants.{Goes, Whole, Bad}
use Rattle.transcript_spec.proofs.Elsewhere.{reads_elsewhere}
use Rattle.transcript_spec.proofs.ReadingOn.{at_end}
use Rattle.transcript_lines.specs.Lines.{line, text_of}
use Rattle.transcript_scan.specs.Scan.{read_on}
use Rattle.transcript_scan.proofs.Counting.{Counting, begun, goes_on, counted, stopped}
use Rattle.transcript_exchange.specs.Turning.{done_if_fits}
use Rattle.transcript_exchange.specs.declared.NotTurned.TheVariants.{TooMany}

abbrev bytes : List Entry → ℕ
bytes es = length (text_of es)

-- The lines of two lists, one behind the other.
text_behind : (es more : List Entry) → bytes (es ++ more) ≡ bytes es + bytes more
unfolding lines_of
text_behind [] more = omega arith
text_behind (e ∷ es) more =
    let all = length-append (line e) (text_of (es ++ more)) in
    let some = length-append (line e) (text_of es) in
    omega (arith, all, some, text_behind es more)

one_line : (e : Entry) → bytes (e ∷ []) ≡ length (line e)
unfolding lines_of
one_line e = omega (arith, length-append (line e) [])

-- so many bytes are read; the lines of the entries so far leave so many bytes of the room
pub record Measured (s : List ℕ) (room : ℕ) (p : Part) (left i : ℕ) : Type 0 where
  pub entries : ℕ
  pub place : ℕ
  pub reads : Counting fresh s p entries place i
  pub come : left + bytes reads.got ≡ room

-- At first nothing is read, and all of the room is left.
pub measured_start : (s : List ℕ) (room : ℕ) → Measured s room fresh room 0
unfolding lines_of
measured_start s room = record { entries = 0; place = 0; reads = begun fresh s; come = omega arith }

module _ {s : List ℕ} {room : ℕ} {p : Part} {left i : ℕ} (k : Measured s room p left i) where
  -- No more is left than there was room.
  pub measured_less : left ≤ room
  measured_less = omega (arith, k.come)

  -- the lines of all are measured
  fits_all : entries_read s ≡ k.reads.got → Ok (room - left) ≡ done_if_fits (bytes (entries_read s)) room
  fits_all e =
      let all : room - left ≡ bytes (entries_read s) = omega (arith, k.come, ap bytes e) in
      rw (le-ltb room (bytes (entries_read s)) (omega (arith, all))) (ap Ok all)

  -- At the end of the string the lines fit, and have as many bytes as the room has lost.
  pub measured_all : length s ≤ i → Ok (room - left) ≡ done_if_fits (bytes (entries_read s)) room
  measured_all h = fits_all (ap (λ (r : Reading). r.got) (at_end k.reads.here h))

  module _ (more : i < length s) where
    -- Where the record goes on, nothing more is measured.
    pub measured_on : {q : Part} → byte_taken p (get_or s i 0) ≡ Goes q → Measured s room q left (i + 1)
    measured_on e = record { entries = k.entries; place = k.place; reads = goes_on k.reads more e; come = k.come }

    -- A bad record ends the measuring: the lines of the records before it fit, and have as many bytes as the room has lost.
    pub measured_bad : {n : ℕ} → byte_taken p (get_or s i 0) ≡ Bad n → Ok (room - left) ≡ done_if_fits (bytes (entries_read s)) room
    measured_bad b = fits_all (ap (λ (r : Reading). r.got) (stopped k.reads more b))

    -- It is whole and good.
    module _ {e : Entry} (w : byte_taken p (get_or s i 0) ≡ Whole e) {size : ℕ} (long : size ≡ length (line e)) where
      got_more : bytes (k.reads.got ++ (e ∷ [])) ≡ bytes k.reads.got + size
      got_more = omega (arith, text_behind k.reads.got (e ∷ []), one_line e, long)

      -- The line of a record that is whole and good takes its bytes of what is left, if it fits.
      pub measured_next : size ≤ left → Measured s room fresh (left - size) (i + 1)
      measured_next fits =
          record {
            entries = k.entries + 1;
            place = i + 1;
            reads = counted k.reads more w;
            come = omega (arith, k.come, got_more, fits);
          }

      -- Where the line of a record that is whole and good does not fit what is left, the lines do not fit.
      pub measured_out : left < size → Err TooMany ≡ done_if_fits (bytes (entries_read s)) room
      measured_out short =
          let next = counted k.reads more w in
          let rest = (read_on fresh (drop (i + 1) s)).got in
          let all : entries_read s ≡ (k.reads.got ++ (e ∷ [])) ++ rest =
          ap (λ (r : Reading). r.got)
          (next.here.come ∙ reads_elsewhere (k.reads.got ++ (e ∷ [])) (i + 1) (i + 1) fresh (drop (i + 1) s)) in
          let over : room < bytes (entries_read s) =
          omega (arith, ap bytes all, text_behind (k.reads.got ++ (e ∷ [])) rest, got_more, k.come, short) in
          rw (lt-ltb room (bytes (entries_read s)) over) refl
