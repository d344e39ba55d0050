-- What lists and output are filled with where an input is turned; the same for both calls.
use Prim.Native.Nat.{ℕ, ◌≤◌}
use native.Mathlib.Omega.{arith}
use mathlib.Core.Path.{◌≡◌, sym, ap, ◌∙◌, subst}
use mathlib.Core.List.{List}
use lib.ListN.{length, take, drop}
use lib.Seq.{take-append_seam, drop-append_seam}
use Rattle.std.specs.Prelude.{Result, Ok}
use Rattle.transcript_spec.specs.InPlainWords.{first_places, later_places}
use Rattle.transcript_spec.specs.Lists.{Lists, size, over, with_entries}
use Rattle.transcript_spec.specs.Writing.{accepted}
use Rattle.transcript_spec.specs.declared.Entry.{Entry}
use Rattle.transcript_spec.specs.declared.Transcribed.{Transcribed}
use Rattle.transcript_spec.proofs.Columns.{first_are_columns, later_stay}
use Rattle.transcript_spec.proofs.Filled.{SameLengths, over_length, lengths_stay}
use Rattle.transcript_exchange.specs.InNumbers.{turned_numbers, case_of}
use Rattle.transcript_exchange.specs.InPlainWords.{Filled}
use Rattle.transcript_exchange.specs.Turning.{lists_left, output_left}
use Rattle.transcript_exchange.specs.declared.NotTurned.{NotTurned}

-- an input is turned: the entries es and the bytes `text` are filled in
pub record TurnedOut (es : List Entry) (text : List ℕ) (l : Lists) (out : List ℕ) (a : Transcribed) (l' : Lists) (out' : List ℕ) :
    Type 0 where
  pub answer : a ≡ accepted (length text)
  pub places : length es ≤ size l
  pub fits : length text ≤ length out
  pub lists : l' ≡ with_entries es l
  pub output : out' ≡ over text out

module _ {es : List Entry} {text : List ℕ} {l l' : Lists} {out out' : List ℕ} where
  -- Where the answer is that of an input that is turned, and its entries and bytes fit, these are filled in.
  pub turned_out : {o : Result ℕ NotTurned} (es₀ : List Entry) (text₀ : List ℕ) → o ≡ case_of (turned_numbers o) →
      l' ≡ lists_left o es₀ l → out' ≡ output_left o text₀ out → turned_numbers o ≡ accepted (length text) → es₀ ≡ es → text₀ ≡ text →
      length es ≤ size l → length text ≤ length out → TurnedOut es text l out (turned_numbers o) l' out'
  turned_out {o} es₀ text₀ c x y a e f places fits =
      let d : o ≡ Ok (length text) = c ∙ ap case_of a in
      record {
        answer = a;
        places = places;
        fits = fits;
        lists = x ∙ ap (λ (z : Result ℕ NotTurned). lists_left z es₀ l) d ∙ ap (λ (z : List Entry). with_entries z l) e;
        output = y ∙ ap (λ (z : Result ℕ NotTurned). output_left z text₀ out) d ∙ ap (λ (z : List ℕ). over z out) f;
      }

  module _ {a : Transcribed} (k : TurnedOut es text l out a l' out') where
    count_is : a.count ≡ length text
    count_is = ap (λ (x : Transcribed). x.count) k.answer

    -- Where an input is turned, the lists' first places hold its entries, the output's first bytes are the text, and all else stays.
    pub filled : Filled es text l out a l' out'
    filled =
        record {
          count = count_is;
          place = ap (λ (x : Transcribed). x.place) k.answer;
          places = k.places;
          fits = omega (arith, count_is, k.fits);
          entries = ap (first_places (length es)) k.lists ∙ first_are_columns es l;
          later = ap (later_places (length es)) k.lists ∙ later_stay es l;
          bytes = ap (λ (n : ℕ). take n out') count_is ∙ ap (take (length text)) k.output ∙ take-append_seam text _;
          rest =
              ap (λ (n : ℕ). drop n out') count_is ∙ ap (drop (length text)) k.output ∙ drop-append_seam text _
              ∙ ap (λ (n : ℕ). drop n out) (sym count_is);
        }

    -- Where an input is turned, each list and the output are as long as they were.
    pub still_long : SameLengths l l' × (length out' ≡ length out)
    still_long =
        (subst (SameLengths l) (sym k.lists) (lengths_stay es l k.places), ap length k.output ∙ over_length text out k.fits)
