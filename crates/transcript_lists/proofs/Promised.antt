-- What the contracts of the calls say, taken from the contracts themselves (`Contract`): each is a statement on the call's own arguments.
use Prim.Native.Nat.{◌<◌, ◌^◌}
use mathlib.Core.Path.{◌≡◌}
use lib.ListN.{length}
use Rattle.transcript_spec.specs.InPlainWords.{first_places}
use Rattle.transcript_spec.specs.Lists.{entry_at, entries_in, size, with_entry}
use Rattle.transcript_spec.specs.Writing.{no_record}
use Rattle.transcript_lists.specs.Lent.{lists_of, lists_in, entries_left, SameLists}
use Rattle.words.proofs.Contracts.{Contract}
use Rattle.transcript_lists.proofs.Lists.len.Kinds as len_kinds
use Rattle.transcript_lists.proofs.Lists.len.Reads as len
use Rattle.transcript_lists.proofs.Lists.entry.Kinds as entry_kinds
use Rattle.transcript_lists.proofs.Lists.entry.Reads as entry
use Rattle.transcript_lists.proofs.Lists.first.Kinds as first_kinds
use Rattle.transcript_lists.proofs.Lists.first.Reads as first
use Rattle.transcript_lists.proofs.Lists.entries.Kinds as entries_kinds
use Rattle.transcript_lists.proofs.Lists.entries.Reads as entries
use Rattle.transcript_lists.proofs.ListsMut.len.Kinds as len_mut_kinds
use Rattle.transcript_lists.proofs.ListsMut.len.Reads as len_mut
use Rattle.transcript_lists.proofs.ListsMut.put.Kinds as put_kinds
use Rattle.transcript_lists.proofs.ListsMut.put.Reads as put
use Rattle.transcript_lists.proofs.has_no_record.Kinds as has_no_record_kinds
use Rattle.transcript_lists.proofs.has_no_record.Reads as has_no_record

-- `len` takes any four lists, and all that its contract allows is how many entries they hold (`size`): the least of their lengths.
pub len_contract : Contract len_kinds.ps len_kinds.r len.Pre len.Post
    (λ κs args n left.
    let list = args.0 in
    n ≡ size (lists_of list))
len_contract = record { takes_any = λ κs args. tt; says = λ κs args n left p. p }

-- `entry` takes any four lists and any i, and all that its contract allows is `entry_at` of them.
pub entry_contract : Contract entry_kinds.ps entry_kinds.r entry.Pre entry.Post
    (λ κs args e left.
    let list = args.0 in
    let i = args.1.0 in
    e ≡ entry_at (lists_of list) i)
entry_contract = record { takes_any = λ κs args. tt; says = λ κs args e left p. p }

-- `first` takes any four lists and any n, and all that its contract allows is their first n places (`first_places`).
pub first_contract : Contract first_kinds.ps first_kinds.r first.Pre first.Post
    (λ κs args l left.
    let list = args.0 in
    let n = args.1.0 in
    lists_of l ≡ first_places n (lists_of list))
first_contract = record { takes_any = λ κs args. tt; says = λ κs args l left p. p }

-- `entries` takes any four lists, and all that its contract allows is that all their entries are left, and fewer than 2^62.
pub entries_contract : Contract entries_kinds.ps entries_kinds.r entries.Pre entries.Post
    (λ κs args s left.
    let list = args.0 in
    (entries_left s ≡ entries_in (lists_of list)) × (length (entries_left s) < 2 ^ 62))
entries_contract = record { takes_any = λ κs args. tt; says = λ κs args s left p. p }

-- The `len` of lists that are filled takes any four, and all that its contract allows is how many entries they hold (`size`), likewise.
pub len_mut_contract : Contract len_mut_kinds.ps len_mut_kinds.r len_mut.Pre len_mut.Post
    (λ κs args n left.
    let list = args.0 in
    n ≡ size (lists_in list.now))
len_mut_contract = record { takes_any = λ κs args. tt; says = λ κs args n left p. p }

-- `put` takes any four lists, i and e, and all that its contract allows is that the same four slices are left as `with_entry` of them.
pub put_contract : Contract put_kinds.ps put_kinds.r put.Pre put.Post
    (λ κs args unit left.
    let list = args.0 in
    let list' = left.0 in
    let i = args.1.0 in
    let e = args.1.1.0 in
    SameLists list.now list'.now × (lists_in list'.now ≡ with_entry (lists_in list.now) i e))
put_contract = record { takes_any = λ κs args. tt; says = λ κs args unit left p. p }

-- `has_no_record` takes any e, and all that its contract allows is `no_record` of it.
pub has_no_record_contract : Contract has_no_record_kinds.ps has_no_record_kinds.r has_no_record.Pre has_no_record.Post
    (λ κs args r left.
    let e = args.0 in
    r ≡ no_record e)
has_no_record_contract = record { takes_any = λ κs args. tt; says = λ κs args r left p. p }
