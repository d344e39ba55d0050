-- What a byte makes of a record, in numbers and in plain words. Document 01: "If an answer is an enum, a definition gives this paper's
-- number and values for each of the enum's cases. The promises use that definition".
--   StepNumbers       number; count, 1 where the record is whole and good and else 0; and the entry that it stands for
--   no_entry          zeros, where there is none
--   step_numbers x    those of what `take_byte` answers
--   HeadAs s a        what the numbers a say of bytes s, those of a head or the first of one
--   WordAs h s a      likewise of a word, behind the head h
use Rattle.std.specs.Prelude.{ℕ, ◌+◌, ◌*◌, ◌≤◌, ◌≡◌, List}
use Rattle.transcript_spec.specs.InPlainWords.{Continued, Spelled, Spells, Good, WriteHead, BadHead, BadWord}
use Rattle.transcript_spec.specs.Reading.{entry_said}
use Rattle.transcript_spec.specs.declared.Entry.{Entry}
use Rattle.transcript_spec.specs.declared.Step.{Step}
use Rattle.transcript_spec.specs.declared.Step.TheVariants.{Goes, Whole, Bad}

pub record StepNumbers : Type 0 where
  pub number : ℕ
  pub count : ℕ
  pub entry : Entry

-- "A refusal returns zeros"
abbrev pub no_entry : Entry
no_entry = record { kind = 0; register = 0; lanes = 0; word = 0 }

-- the part at which a record goes on is what the reader keeps, and no answer of these papers
abbrev pub step_numbers : Step → StepNumbers
step_numbers (Goes p) = record { number = 0; count = 0; entry = no_entry }
step_numbers (Whole e) = record { number = 0; count = 1; entry = e }
step_numbers (Bad n) = record { number = n; count = 0; entry = no_entry }

-- ---- in plain words: "21 leading zero group, 22 head over 31 or word over 65,535, 23 lanes 0, the head being judged in this order before
-- the word is read"

pub data HeadAs (s : List ℕ) : StepNumbers → Type 0 where
  goes_on : Continued s → HeadAs s (record { number = 0; count = 0; entry = no_entry })
  bad : {n : ℕ} → Spelled s → BadHead s n → HeadAs s (record { number = n; count = 0; entry = no_entry })
  of_read : {e : Entry} → Good e → e.kind ≡ 0 → Spells s (e.kind + 2 * e.register + 8 * e.lanes) →
      HeadAs s (record { number = 0; count = 1; entry = e })
  of_write : WriteHead s → HeadAs s (record { number = 0; count = 0; entry = no_entry })

pub data WordAs (h : ℕ) (s : List ℕ) : StepNumbers → Type 0 where
  goes_on : Continued s → WordAs h s (record { number = 0; count = 0; entry = no_entry })
  bad : {n : ℕ} → Spelled s → BadWord s n → WordAs h s (record { number = n; count = 0; entry = no_entry })
  of_write : {v : ℕ} → Spells s v → v ≤ 65535 → WordAs h s (record { number = 0; count = 1; entry = entry_said h v })
