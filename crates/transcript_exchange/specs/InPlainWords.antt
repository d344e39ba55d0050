-- What becomes of an input in plain words: what the laws say of the two calls. The words for lines are those of `transcript_lines`, the
-- words for records those of `transcript_spec`.
--   LinesOf t es              the text t is good lines and nothing else, those of the entries es
--   BytesAs t room out a      what `lines_to_bytes` answers of a text, in numbers, with places for so many entries and so many bytes of
--                             output: each answer, when and only then
--   LinesAs s room out a      what `bytes_to_lines` answers of a string, likewise
--   Filled es text l out a l' out'   what a call that is done leaves: the entries es in the lists, the bytes `text` in the output
use Rattle.std.specs.Prelude.{ℕ, ◌<◌, ◌≤◌, ◌≡◌, List, ◌∷◌, ◌++◌, length, take, drop}
use Rattle.transcript_spec.specs.Format.{transcript_of}
use Rattle.transcript_spec.specs.InPlainWords.{AllGood, BadEntry, Sound, BadRecord, answer, first_places, later_places}
use Rattle.transcript_spec.specs.Lists.{Lists, size, columns}
use Rattle.transcript_spec.specs.declared.Entry.{Entry}
use Rattle.transcript_spec.specs.declared.Transcribed.{Transcribed}
use Rattle.transcript_lines.specs.InPlainWords.{BadLineAt}
use Rattle.transcript_lines.specs.Lines.{text_of, AllHaveLines}

pub record LinesOf (t : List ℕ) (es : List Entry) : Type 0 where
  pub is : t ≡ text_of es
  pub says : AllHaveLines es

-- (ours) a bad line comes first, then too many lines for the lists, then the first access without a record, then too many bytes
pub data BytesAs (t : List ℕ) (room out : ℕ) : Transcribed → Type 0 where
  bad_line : {k : ℕ} → BadLineAt t k → BytesAs t room out (answer 27 0 k)
  no_places : {es : List Entry} → LinesOf t es → room < length es → BytesAs t room out (answer 24 0 0)
  no_record : {es : List Entry} (xs ys : List Entry) {e : Entry} {n : ℕ} → LinesOf t es → length es ≤ room →
      es ≡ xs ++ (e ∷ ys) → AllGood xs → BadEntry e n → BytesAs t room out (answer n 0 (length xs))
  no_room : {es : List Entry} → LinesOf t es → length es ≤ room → AllGood es →
      out < length (transcript_of es) → BytesAs t room out (answer 24 0 0)
  done : {es : List Entry} → LinesOf t es → length es ≤ room → AllGood es →
      length (transcript_of es) ≤ out → BytesAs t room out (answer 0 (length (transcript_of es)) 0)

-- (ours) a bad record comes first, then too many for the lists, then too many bytes; every record has a line
pub data LinesAs (s : List ℕ) (room out : ℕ) : Transcribed → Type 0 where
  bad_record : {es : List Entry} {t u : List ℕ} {n : ℕ} → s ≡ t ++ u → Sound t es → BadRecord u n →
      LinesAs s room out (answer n 0 (length t))
  no_places : {es : List Entry} → Sound s es → room < length es → LinesAs s room out (answer 24 0 0)
  no_room : {es : List Entry} → Sound s es → length es ≤ room → out < length (text_of es) → LinesAs s room out (answer 24 0 0)
  done : {es : List Entry} → Sound s es → length es ≤ room →
      length (text_of es) ≤ out → LinesAs s room out (answer 0 (length (text_of es)) 0)

pub record Filled (es : List Entry) (text : List ℕ) (l : Lists) (out : List ℕ) (a : Transcribed) (l' : Lists) (out' : List ℕ) : Type 0 where
  pub count : a.count ≡ length text
  pub place : a.place ≡ 0
  pub places : length es ≤ size l
  pub fits : a.count ≤ length out
  pub entries : first_places (length es) l' ≡ columns es
  pub later : later_places (length es) l' ≡ later_places (length es) l
  pub bytes : take a.count out' ≡ text
  pub rest : drop a.count out' ≡ drop a.count out
