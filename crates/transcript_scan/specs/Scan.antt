-- What is found in a string, from its start to its first bad record: document 02, requests (ii), (vii) and (xii).
--   read_on p s      the string s read on from the part p of a record, by itself: no entries before it, and places counted from its start
--   scanned_on p s   how many good records it finishes, where the record begins that is read last, how many bytes are read, the part of
--                    that record, its refusal or 0
--   scanned s        of a whole string: how many good records it has, where the first bad one begins or else it ends, its refusal or 0
use Rattle.std.specs.Prelude.{ℕ, List, [], length}
use Rattle.transcript_spec.specs.Reading.{Reading, at, feeds, entries_read, place_read, refusal_read}
use Rattle.transcript_spec.specs.declared.Part.{Part}
use Rattle.transcript_scan.specs.declared.scanning.Scanned.{Scanned}
use Rattle.transcript_scan.specs.declared.scanning.ScannedOn.{ScannedOn}

abbrev pub read_on : Part → List ℕ → Reading
read_on p s = feeds (at [] 0 0 p 0) s

abbrev pub scanned_on : Part → List ℕ → ScannedOn
scanned_on p s =
    record {
      entries = length (read_on p s).got;
      place = (read_on p s).from;
      next = (read_on p s).next;
      part = (read_on p s).part;
      refusal = (read_on p s).refusal;
    }

abbrev pub scanned : List ℕ → Scanned
scanned s = record { entries = length (entries_read s); place = place_read s; refusal = refusal_read s }
