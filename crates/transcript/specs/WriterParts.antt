-- What the private functions of the writer state.
--   Put                  a text put into the bytes from a place on
--   Judged               what judging a list finds: the number of its first bad entry's refusal and that one's index, or 0, 0 and how many
--                        bytes the records of the entries want
--   judged k wanted es   that of the entries es: the first of them has index k, and the records before it so many bytes
--   judged_numbers r     that of an answer of the function that judges
--   Writable l bytes     the entries can be written: they are good, and their records fit the bytes
use Rattle.std.specs.Prelude.{ℕ, suc, ◌+◌, ◌≤◌, cond, List, [], ◌∷◌, ◌≡◌, eqb, length, Result, Ok, Err}
use Rattle.words.specs.Refusals.{refusal_number}
use Rattle.std.proofs.lemmas.List.Edits.{sets}
use Rattle.transcript_spec.specs.Format.{record_of, transcript_of}
use Rattle.transcript_spec.specs.InPlainWords.{AllGood}
use Rattle.transcript_spec.specs.Lists.{Lists, entries_in}
use Rattle.transcript_spec.specs.Writing.{entry_refusal}
use Rattle.transcript_spec.specs.declared.Entry.{Entry}
use Rattle.transcript.specs.declared.writing.FirstBad.{FirstBad}

pub record Put (out : List ℕ) (at : ℕ) (text : List ℕ) (e : ℕ) (out' : List ℕ) : Type 0 where
  pub end : e ≡ at + length text
  pub bytes : out' ≡ sets out at text

pub record Judged : Type 0 where
  pub number : ℕ
  pub place : ℕ
  pub wanted : ℕ

abbrev pub judged_numbers : Result ℕ FirstBad → Judged
judged_numbers (Ok n) = record { number = 0; place = 0; wanted = n }
judged_numbers (Err b) = record { number = refusal_number b.refusal; place = b.place; wanted = 0 }

unfoldable pub judged : ℕ → ℕ → List Entry → Judged
judged k wanted [] = record { number = 0; place = 0; wanted = wanted }
judged k wanted (e ∷ rest) =
    cond (eqb (entry_refusal e) 0)
    (judged (suc k) (wanted + length (record_of e)) rest)
    (record { number = entry_refusal e; place = k; wanted = 0 })

pub record Writable (l : Lists) (bytes : List ℕ) : Type 0 where
  pub good : AllGood (entries_in l)
  pub fits : length (transcript_of (entries_in l)) ≤ length bytes
