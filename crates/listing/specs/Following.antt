-- The good lines of a text, one after another.
--   is_good x            a front is a good line
--   NextAccess t r t'    the next good line of a text t asks for r, and t' is left; or there is none, and all of t is left
use Rattle.std.specs.Prelude.{ℕ, ◌≡◌, Bool, true, false, Option, Some, None, List, drop}
use Rattle.port_spec.specs.declared.Access.{Access}
use Rattle.listing.specs.Line.{front_line}
use Rattle.listing.specs.declared.Front.{Front}
use Rattle.listing.specs.declared.Front.TheVariants.{Good, Bad, Open}

abbrev pub is_good : Front → Bool
is_good (Good a n) = true
is_good Bad = false
is_good Open = false

abbrev pub NextAccess : List ℕ → Option Access → List ℕ → Type 0
NextAccess t (Some a) t' = (n : ℕ) × (front_line t ≡ Good a n) × (t' ≡ drop n t)
NextAccess t None t' = (is_good (front_line t) ≡ false) × (t' ≡ t)
