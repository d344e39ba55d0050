-- What the private functions of this crate state.
--   word_said                    the word that four digits say, if each of the four bytes is one
--   reads, writes, other_front   a text that begins with a good line, by its fixed places, and one that does not
--   laid, Put                    a text put into the output from a place on
--   AnsweredLine                 a good line's access done, and its answer put
--   ListedLines                  the lines of an input whose answers have room
use Rattle.std.specs.Prelude.{ℕ, ◌+◌, Option, Some, None, Bool, false, cond, ◌&&◌, ◌||◌, List, ◌++◌, ◌≡◌, eqb, ltb, length, take, drop}
use Rattle.digits.specs.Digits.{value_of, is_hex}
use Rattle.registers.specs.declared.Registers.{Registers}
use Rattle.port_spec.specs.Host.{access, access_memory}
use Rattle.port_spec.specs.declared.Access.{Access}
use Rattle.listing.specs.Line.{byte, word_from, headed, tailed, has_feed}
use Rattle.listing.specs.Answer.{answer_text}
use Rattle.listing.specs.Listing.{start, listing, listed, with_text}
use Rattle.listing.specs.declared.Listed.{Listed}
use Rattle.listing.specs.declared.Answered.{Answered}
use Rattle.listing.specs.declared.Front.{Front}
use Rattle.listing.specs.declared.Front.TheVariants.{Bad, Open}

abbrev pub word_said : ℕ → ℕ → ℕ → ℕ → Option ℕ
word_said a b c d =
    cond (is_hex a && (is_hex b && (is_hex c && is_hex d))) (Some (word_from (value_of a) (value_of b) (value_of c) (value_of d))) None

unfoldable pub reads : List ℕ → Bool
reads t = cond (ltb (length t) 6) false (eqb (byte t 5) 10 && headed 82 t)

abbrev pub writes : List ℕ → Bool
writes t = cond (ltb (length t) 11) false (eqb (byte t 10) 10 && (headed 87 t && tailed t))

unfoldable pub other_front : List ℕ → Front
other_front t = cond (ltb 31 (length t) || has_feed t) Bad Open

abbrev pub laid : List ℕ → ℕ → List ℕ → List ℕ
laid output at text = take at output ++ (text ++ drop (at + length text) output)

pub record Put (out : List ℕ) (at : ℕ) (text : List ℕ) (e : ℕ) (out' : List ℕ) : Type 0 where
  pub end : e ≡ at + length text
  pub output : out' ≡ laid out at text

pub record AnsweredLine (r : Registers) (m : List ℕ) (a : Access) (out : List ℕ) (wrote : ℕ) (o : Answered) (m' out' : List ℕ) : Type 0
  where
    pub registers : o.registers ≡ (access r m a).registers
    pub memory : m' ≡ access_memory r m a
    pub text : Put out wrote (answer_text a (access r m a).answer) o.wrote out'

pub record ListedLines (r : Registers) (m input out : List ℕ) (o : Listed) (m' out' : List ℕ) : Type 0 where
  pub outcome : o ≡ listed (listing (start (record { registers = r; memory = m })) input)
  pub memory : m' ≡ (listing (start (record { registers = r; memory = m })) input).machine.memory
  pub output : out' ≡ with_text out (listing (start (record { registers = r; memory = m })) input).text
