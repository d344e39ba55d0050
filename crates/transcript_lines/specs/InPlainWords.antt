-- Lines and entries in plain words: what the laws say of the two calls.
--   HasLine e                   a line can say the entry
--   NoGoodLine t                the text t begins with no line that says an entry
--   TextOf t x                  the text is the lines of the entries taken, and what is left, which begins with no good line
--   LinesThen t n left          a text of n good lines, and then `left`
--   BadLineAt t n               a text whose first bad line stands behind n good ones
--   TookAs t room a             what `take_lines` answers of a text, in numbers: each answer, when and only then
--   TookAll t l a l'            what a taking that is done leaves
--   FirstUnsayable es k         entry k is the first that no line can say
--   PutAs es room a             what `put_lines` answers of a list, likewise
--   PutAll l out a out'         what a putting that is done leaves
use Rattle.std.specs.Prelude.{ℕ, ◌≤◌, ◌<◌, ◌≡◌, true, false, List, [], ◌∷◌, ◌++◌, ◌≢◌, length, take, drop}
use Rattle.transcript_spec.specs.InPlainWords.{answer, first_places, later_places}
use Rattle.transcript_spec.specs.Lists.{Lists, size, entries_in, columns}
use Rattle.transcript_spec.specs.declared.Entry.{Entry}
use Rattle.transcript_spec.specs.declared.Transcribed.{Transcribed}
use Rattle.transcript_lines.specs.Lines.{unsayable, line, text_of, AllHaveLines}
use Rattle.transcript_lines.specs.Taking.{Taking}

-- kind 0 or 1, one digit for the register and one for the lanes, a word of 16 bits, and none for a read.
pub record HasLine (e : Entry) : Type 0 where
  pub kind : e.kind ≤ 1
  pub register : e.register ≤ 9
  pub lanes : e.lanes ≤ 9
  pub word : e.word ≤ 65535
  pub of_read : e.kind ≡ 0 → e.word ≡ 0

-- ---- a text

abbrev pub NoGoodLine : List ℕ → Type 0
NoGoodLine t = (e : Entry) (v : List ℕ) → unsayable e ≡ false → t ≢ line e ++ v

pub record TextOf (t : List ℕ) (x : Taking) : Type 0 where
  pub is : t ≡ text_of x.entries ++ x.left
  pub says : AllHaveLines x.entries
  pub stops : NoGoodLine x.left

pub record LinesThen (t : List ℕ) (n : ℕ) (left : List ℕ) : Type 0 where
  pub entries : List Entry
  pub is : t ≡ text_of entries ++ left
  pub says : AllHaveLines entries
  pub count : length entries ≡ n

pub record BadLineAt (t : List ℕ) (n : ℕ) : Type 0 where
  pub left : List ℕ
  pub good : LinesThen t n left
  pub some : left ≢ []
  pub bad : NoGoodLine left

pub data TookAs (t : List ℕ) (room : ℕ) : Transcribed → Type 0 where
  done : {n : ℕ} → LinesThen t n [] → n ≤ room → TookAs t room (answer 0 n 0)
  no_places : {n : ℕ} → LinesThen t n [] → room < n → TookAs t room (answer 24 0 0)
  bad_line : {n : ℕ} → BadLineAt t n → TookAs t room (answer 27 0 n)

pub record TookAll (t : List ℕ) (l : Lists) (a : Transcribed) (l' : Lists) : Type 0 where
  pub taken : List Entry
  pub is : t ≡ text_of taken
  pub says : AllHaveLines taken
  pub count : a.count ≡ length taken
  pub place : a.place ≡ 0
  pub fits : a.count ≤ size l
  pub entries : first_places a.count l' ≡ columns taken
  pub rest : later_places a.count l' ≡ later_places a.count l

-- ---- a list

pub record FirstUnsayable (es : List Entry) (k : ℕ) : Type 0 where
  pub before : List Entry
  pub entry : Entry
  pub after : List Entry
  pub is : es ≡ before ++ entry ∷ after
  pub count : length before ≡ k
  pub says : AllHaveLines before
  pub not : unsayable entry ≡ true

pub data PutAs (es : List Entry) (room : ℕ) : Transcribed → Type 0 where
  done : AllHaveLines es → length (text_of es) ≤ room → PutAs es room (answer 0 (length (text_of es)) 0)
  no_bytes : AllHaveLines es → room < length (text_of es) → PutAs es room (answer 24 0 0)
  no_line : {k : ℕ} → FirstUnsayable es k → PutAs es room (answer 22 0 k)

pub record PutAll (l : Lists) (out : List ℕ) (a : Transcribed) (out' : List ℕ) : Type 0 where
  pub says : AllHaveLines (entries_in l)
  pub count : a.count ≡ length (text_of (entries_in l))
  pub place : a.place ≡ 0
  pub fits : a.count ≤ length out
  pub text : take a.count out' ≡ text_of (entries_in l)
  pub rest : drop a.count out' ≡ drop a.count out
