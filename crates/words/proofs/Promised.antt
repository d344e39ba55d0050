-- What the contract of a store promises; and what the contracts of all calls say, taken from the contracts themselves (`Contract`).
use Rattle.std.proofs.Common.{◌≡◌, ℕ, ◌+◌, ◌*◌, ◌<◌, Bool, true, false, ◌≢◌, ◌↔◌, List, length, get_or, sym, ap, ◌∙◌}
use Rattle.words.specs.Addresses.{step, word_at}
use Rattle.words.specs.Bytes.{are_lanes, bit, hi, lay, lo, replaced, shown, takes_high, takes_low}
use Rattle.words.specs.Memory.{Stored, fetch_at, over_limit}
use Rattle.words.specs.declared.WordNumber.{WordNumber}
use Rattle.words.proofs.Contracts.{Contract}
use Rattle.words.proofs.MemoryWords.{in_memory_when, stored_beyond, stored_here, stored_elsewhere, stored_length}
use Rattle.words.proofs.word_of.Kinds as word_of_kinds
use Rattle.words.proofs.word_of.Reads as word_of
use Rattle.words.proofs.step_address.Kinds as step_address_kinds
use Rattle.words.proofs.step_address.Reads as step_address
use Rattle.words.proofs.low_byte.Kinds as low_byte_kinds
use Rattle.words.proofs.low_byte.Reads as low_byte
use Rattle.words.proofs.high_byte.Kinds as high_byte_kinds
use Rattle.words.proofs.high_byte.Reads as high_byte
use Rattle.words.proofs.join_bytes.Kinds as join_bytes_kinds
use Rattle.words.proofs.join_bytes.Reads as join_bytes
use Rattle.words.proofs.join_four.Kinds as join_four_kinds
use Rattle.words.proofs.join_four.Reads as join_four
use Rattle.words.proofs.bit_of.Kinds as bit_of_kinds
use Rattle.words.proofs.bit_of.Reads as bit_of
use Rattle.words.proofs.selects_low.Kinds as selects_low_kinds
use Rattle.words.proofs.selects_low.Reads as selects_low
use Rattle.words.proofs.selects_high.Kinds as selects_high_kinds
use Rattle.words.proofs.selects_high.Reads as selects_high
use Rattle.words.proofs.names_lanes.Kinds as names_lanes_kinds
use Rattle.words.proofs.names_lanes.Reads as names_lanes
use Rattle.words.proofs.lay_bytes.Kinds as lay_bytes_kinds
use Rattle.words.proofs.lay_bytes.Reads as lay_bytes
use Rattle.words.proofs.show_bytes.Kinds as show_bytes_kinds
use Rattle.words.proofs.show_bytes.Reads as show_bytes
use Rattle.words.proofs.replace_bytes.Kinds as replace_bytes_kinds
use Rattle.words.proofs.replace_bytes.Reads as replace_bytes
use Rattle.words.proofs.is_over_limit.Kinds as is_over_limit_kinds
use Rattle.words.proofs.is_over_limit.Reads as is_over_limit
use Rattle.words.proofs.fetch_word.Kinds as fetch_word_kinds
use Rattle.words.proofs.fetch_word.Reads as fetch_word
use Rattle.words.specs.Refusals.{refusal_number}
use Rattle.words.proofs.refusals.U8FromRefusal.from.Kinds as number_kinds
use Rattle.words.proofs.refusals.U8FromRefusal.from.Reads as number
use Rattle.words.proofs.store_word.Kinds as store_word_kinds
use Rattle.words.proofs.store_word.Reads as store_word

-- ---- a store, of any outcome that `Stored` allows
module _ {m : List ℕ} {n : WordNumber} {w : ℕ} {inside : Bool} {m' : List ℕ} (k : Stored m n w inside m') where
  -- A store says inside exactly if the word's number is below the memory's length.
  pub store_says_inside : inside ≡ true ↔ n.0 < length m
  store_says_inside = (λ e. (in_memory_when m n).0 (sym k.fell ∙ e), λ h. k.fell ∙ (in_memory_when m n).1 h)

  -- After a store inside memory the word is found in its place.
  pub store_lays_the_word : inside ≡ true → get_or m' n.0 0 ≡ w
  store_lays_the_word e = ap (λ (x : List ℕ). get_or x n.0 0) k.memory ∙ stored_here m n w (sym k.fell ∙ e)

  -- A store leaves every other word, and the memory as long as it was.
  pub store_keeps_the_rest : ((j : ℕ) → j ≢ n.0 → get_or m' j 0 ≡ get_or m j 0) × (length m' ≡ length m)
  store_keeps_the_rest =
      (λ j d. ap (λ (x : List ℕ). get_or x j 0) k.memory ∙ stored_elsewhere m n w j d, ap length k.memory ∙ stored_length m n w)

  -- Beyond memory a store is dropped, and the memory stays.
  pub store_beyond : inside ≡ false → m' ≡ m
  store_beyond e = k.memory ∙ stored_beyond m n w (sym k.fell ∙ e)

-- ---- the contracts themselves: each is a statement on the call's own arguments
-- `word_of` takes any a, and all that its contract allows is `word_at` of it.
pub word_of_contract : Contract word_of_kinds.ps word_of_kinds.r word_of.Pre word_of.Post
    (λ κs args r left.
    let a = args.0 in
    r ≡ word_at a)
word_of_contract = record { takes_any = λ κs args. tt; says = λ κs args r left p. p }

-- `step_address` takes any a, and all that its contract allows is `step` of it.
pub step_address_contract : Contract step_address_kinds.ps step_address_kinds.r step_address.Pre step_address.Post
    (λ κs args r left.
    let a = args.0 in
    r ≡ step a)
step_address_contract = record { takes_any = λ κs args. tt; says = λ κs args r left p. p }

-- `low_byte` takes any w, and all that its contract allows is `lo` of it.
pub low_byte_contract : Contract low_byte_kinds.ps low_byte_kinds.r low_byte.Pre low_byte.Post
    (λ κs args r left.
    let w = args.0 in
    r ≡ lo w)
low_byte_contract = record { takes_any = λ κs args. tt; says = λ κs args r left p. p }

-- `high_byte` takes any w, and all that its contract allows is `hi` of it.
pub high_byte_contract : Contract high_byte_kinds.ps high_byte_kinds.r high_byte.Pre high_byte.Post
    (λ κs args r left.
    let w = args.0 in
    r ≡ hi w)
high_byte_contract = record { takes_any = λ κs args. tt; says = λ κs args r left p. p }

-- `join_bytes` takes any l and h, and all that its contract allows is l + 256 h.
pub join_bytes_contract : Contract join_bytes_kinds.ps join_bytes_kinds.r join_bytes.Pre join_bytes.Post
    (λ κs args r left.
    let l = args.0 in
    let h = args.1.0 in
    r ≡ l + 256 * h)
join_bytes_contract = record { takes_any = λ κs args. tt; says = λ κs args r left p. p }

-- `join_four` takes any a, b, c and d, and all that its contract allows is the four bytes added up, each at its weight.
pub join_four_contract : Contract join_four_kinds.ps join_four_kinds.r join_four.Pre join_four.Post
    (λ κs args r left.
    let a = args.0 in
    let b = args.1.0 in
    let c = args.1.1.0 in
    let d = args.1.1.1.0 in
    r ≡ a + 256 * b + 65536 * c + 16777216 * d)
join_four_contract = record { takes_any = λ κs args. tt; says = λ κs args r left p. p }

-- `bit_of` takes any w and i, and all that its contract allows is `bit` of them.
pub bit_of_contract : Contract bit_of_kinds.ps bit_of_kinds.r bit_of.Pre bit_of.Post
    (λ κs args r left.
    let w = args.0 in
    let i = args.1.0 in
    r ≡ bit w i)
bit_of_contract = record { takes_any = λ κs args. tt; says = λ κs args r left p. p }

-- `selects_low` takes any lanes, and all that its contract allows is `takes_low` of them.
pub selects_low_contract : Contract selects_low_kinds.ps selects_low_kinds.r selects_low.Pre selects_low.Post
    (λ κs args r left.
    let lanes = args.0 in
    r ≡ takes_low lanes)
selects_low_contract = record { takes_any = λ κs args. tt; says = λ κs args r left p. p }

-- `selects_high` takes any lanes, and all that its contract allows is `takes_high` of them.
pub selects_high_contract : Contract selects_high_kinds.ps selects_high_kinds.r selects_high.Pre selects_high.Post
    (λ κs args r left.
    let lanes = args.0 in
    r ≡ takes_high lanes)
selects_high_contract = record { takes_any = λ κs args. tt; says = λ κs args r left p. p }

-- `names_lanes` takes any n, and all that its contract allows is `are_lanes` of it.
pub names_lanes_contract : Contract names_lanes_kinds.ps names_lanes_kinds.r names_lanes.Pre names_lanes.Post
    (λ κs args r left.
    let n = args.0 in
    r ≡ are_lanes n)
names_lanes_contract = record { takes_any = λ κs args. tt; says = λ κs args r left p. p }

-- `lay_bytes` takes any lanes, old, l and h, and all that its contract allows is `lay` of them.
pub lay_bytes_contract : Contract lay_bytes_kinds.ps lay_bytes_kinds.r lay_bytes.Pre lay_bytes.Post
    (λ κs args r left.
    let lanes = args.0 in
    let old = args.1.0 in
    let l = args.1.1.0 in
    let h = args.1.1.1.0 in
    r ≡ lay lanes old l h)
lay_bytes_contract = record { takes_any = λ κs args. tt; says = λ κs args r left p. p }

-- `show_bytes` takes any lanes and w, and all that its contract allows is `shown` of them.
pub show_bytes_contract : Contract show_bytes_kinds.ps show_bytes_kinds.r show_bytes.Pre show_bytes.Post
    (λ κs args r left.
    let lanes = args.0 in
    let w = args.1.0 in
    r ≡ shown lanes w)
show_bytes_contract = record { takes_any = λ κs args. tt; says = λ κs args r left p. p }

-- `replace_bytes` takes any lanes, old and new, and all that its contract allows is `replaced` of them.
pub replace_bytes_contract : Contract replace_bytes_kinds.ps replace_bytes_kinds.r replace_bytes.Pre replace_bytes.Post
    (λ κs args r left.
    let lanes = args.0 in
    let old = args.1.0 in
    let new = args.1.1.0 in
    r ≡ replaced lanes old new)
replace_bytes_contract = record { takes_any = λ κs args. tt; says = λ κs args r left p. p }

-- `is_over_limit` takes any words, and all that its contract allows is `over_limit` of them.
pub is_over_limit_contract : Contract is_over_limit_kinds.ps is_over_limit_kinds.r is_over_limit.Pre is_over_limit.Post
    (λ κs args r left.
    let words = args.0 in
    r ≡ over_limit words)
is_over_limit_contract = record { takes_any = λ κs args. tt; says = λ κs args r left p. p }

-- `fetch_word` takes any memory and n, and all that its contract allows is `fetch_at` of them.
pub fetch_word_contract : Contract fetch_word_kinds.ps fetch_word_kinds.r fetch_word.Pre fetch_word.Post
    (λ κs args r left.
    let memory = args.0 in
    let n = args.1.0 in
    r ≡ fetch_at memory.now n)
fetch_word_contract = record { takes_any = λ κs args. tt; says = λ κs args r left p. p }

-- `store_word` takes any memory, n and w, and all that its contract allows is `Stored` of them.
pub store_word_contract : Contract store_word_kinds.ps store_word_kinds.r store_word.Pre store_word.Post
    (λ κs args r left.
    let memory = args.0 in
    let memory' = left.0 in
    let n = args.1.0 in
    let w = args.1.1.0 in
    Stored memory.now n w r memory'.now)
store_word_contract = record { takes_any = λ κs args. tt; says = λ κs args r left p. p }

-- `u8::from` takes any refusal, and all that its contract allows is the number of it (`refusal_number`).
pub number_of_refusal_contract : Contract number_kinds.ps number_kinds.r number.Pre number.Post
    (λ κs args r left.
    let refusal = args.0 in
    r ≡ refusal_number refusal)
number_of_refusal_contract = record { takes_any = λ κs args. tt; says = λ κs args r left p. p }
