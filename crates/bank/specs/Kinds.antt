-- The kinds of cycles by name.
--   kind_number k   the number of the kind k
use Rattle.std.specs.Prelude.{ℕ}
use Rattle.bank.specs.declared.decoding.Kind.{Kind}
use Rattle.bank.specs.declared.decoding.Kind.TheVariants.{Ordinary, Refresh, Special}

abbrev pub kind_number : Kind → ℕ
kind_number Ordinary = 0
kind_number Refresh = 1
kind_number Special = 2
