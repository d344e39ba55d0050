-- A script of accesses, each one number of seven hexadecimal digits.
--   access_in n   the access that a number says
use Rattle.std.specs.Prelude.{ℕ, ◌/◌, ◌%◌, cond, eqb}
use Rattle.port_spec.specs.declared.Access.{Access}
use Rattle.port_spec.specs.declared.Access.TheVariants.{Read, Write}

-- 0 for a read or 1 for a write; the register; the lanes; the word, in four digits
unfoldable pub access_in : ℕ → Access
access_in n =
    cond (eqb (n / 0x1000000) 0)
    (Read (n / 0x100000 % 16) (n / 0x10000 % 16))
    (Write (n / 0x100000 % 16) (n / 0x10000 % 16) (n % 0x10000))
