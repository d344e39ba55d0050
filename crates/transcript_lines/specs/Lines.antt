-- An entry of a transcript and the line of `portlist` that says it.
--   entry_of a      the entry of an access
--   access_of e     the access of an entry
--   unsayable e     no line can say the entry
--   line e          its line, with the line feed
--   text_of es      the lines of a list
--   AllHaveLines es  a line can say each of them
use Rattle.std.specs.Prelude.{ℕ, ◌≡◌, Bool, false, cond, ◌||◌, List, [], ◌∷◌, ◌++◌, map, eqb, ltb}
use Rattle.port_spec.specs.declared.Access.{Access}
use Rattle.port_spec.specs.declared.Access.TheVariants.{Read, Write}
use Rattle.listing.specs.Spelled.{line_text, lines_of}
use Rattle.transcript_spec.specs.Writing.{no_record}
use Rattle.transcript_spec.specs.declared.Entry.{Entry}

-- a read has no word: 0 stands in its place
abbrev pub entry_of : Access → Entry
entry_of (Read register lanes) = record { kind = 0; register = register; lanes = lanes; word = 0 }
entry_of (Write register lanes w) = record { kind = 1; register = register; lanes = lanes; word = w }

unfoldable pub access_of : Entry → Access
access_of e = cond (eqb e.kind 0) (Read e.register e.lanes) (Write e.register e.lanes e.word)

-- its kind or its word is wrong (it has no record in a transcript either), or its register or its lanes have more than one digit
unfoldable pub unsayable : Entry → Bool
unsayable e = no_record e || (ltb 9 e.register || ltb 9 e.lanes)

abbrev pub line : Entry → List ℕ
line e = line_text (access_of e) ++ (10 ∷ [])

abbrev pub text_of : List Entry → List ℕ
text_of es = lines_of (map access_of es)

abbrev pub AllHaveLines : List Entry → Type 0
AllHaveLines [] = Unit
AllHaveLines (e ∷ rest) = (unsayable e ≡ false) × AllHaveLines rest
