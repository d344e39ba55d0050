-- A read behind the bytes that are held, and reads one after another.
--   there r                    how many bytes there are after a read, whether or not it failed
--   answered z held room       what a read's answer z means, behind so many bytes that are held and into so much room
--   FilledBehind b held r b'   a buffer b whose first `held` bytes stay is b' after a read, which answered r
--   FilledWhole b r b'         a buffer b is b' after reads until it is full, the input has ended or a read failed, which answered r
use Rattle.std.specs.Prelude.{ℕ, ◌+◌, ◌≤◌, ◌<◌, min, List, ◌≡◌, length, take, Result, Ok, Err, IsErr}
use Rattle.input.specs.declared.Unread.{Unread}

abbrev pub there : Result ℕ Unread → ℕ
there (Ok n) = n
there (Err e) = e.all

-- a read answers how many bytes it brought, or an error: then it failed, and brought nothing
unfoldable pub answered : {E : Type 0} → Result ℕ E → ℕ → ℕ → Result ℕ Unread
answered (Ok k) held room = Ok (held + min k room)
answered (Err e) held room = Err (record { all = held })

-- which bytes came, and how many, nothing here can know
pub record FilledBehind (b : List ℕ) (held : ℕ) (r : Result ℕ Unread) (b' : List ℕ) : Type 0 where
  pub first : take held b' ≡ take held b
  pub as_long : length b' ≡ length b
  pub behind : held ≤ there r
  pub within : held < length b → there r ≤ length b
  pub failed_none : IsErr r → there r ≡ held
  pub no_room : length b ≤ held → (r ≡ Err (record { all = held })) × (b' ≡ b)

-- a buffer that is full has not failed: no read is tried where there is no room
pub record FilledWhole (b : List ℕ) (r : Result ℕ Unread) (b' : List ℕ) : Type 0 where
  pub as_long : length b' ≡ length b
  pub within : there r ≤ length b
  pub failed_short : IsErr r → there r < length b
