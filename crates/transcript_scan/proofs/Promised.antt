-- What the contracts of the calls say, taken from the contracts themselves (`Contract`): each is a statement on the call's own arguments.
use mathlib.Core.Path.{◌≡◌}
use Rattle.transcript_spec.specs.Lists.{with_each}
use Rattle.transcript_spec.specs.Reading.{cut_off, fresh, byte_taken}
use Rattle.transcript_lists.specs.Lent.{lists_in, SameLists}
use Rattle.transcript_scan.specs.Scan.{read_on, scanned, scanned_on}
use Rattle.words.proofs.Contracts.{Contract}
use Rattle.transcript_scan.proofs.filling.fill_on.Kinds as fill_on_kinds
use Rattle.transcript_scan.proofs.filling.fill_on.Reads as fill_on
use Rattle.transcript_scan.proofs.scanning.scan_on.Kinds as scan_on_kinds
use Rattle.transcript_scan.proofs.scanning.scan_on.Reads as scan_on
use Rattle.transcript_scan.proofs.scanning.scan.Kinds as scan_kinds
use Rattle.transcript_scan.proofs.scanning.scan.Reads as scan
use Rattle.transcript_scan.proofs.steps.fresh_part.Kinds as fresh_part_kinds
use Rattle.transcript_scan.proofs.steps.fresh_part.Reads as fresh_part
use Rattle.transcript_scan.proofs.steps.take_byte.Kinds as take_byte_kinds
use Rattle.transcript_scan.proofs.steps.take_byte.Reads as take_byte
use Rattle.transcript_scan.proofs.steps.cut_off.Kinds as cut_off_kinds
use Rattle.transcript_scan.proofs.steps.cut_off.Reads as cut_off

-- `fill_on` takes any begun, bytes and four lists, and all that its contract allows is that the entries of `read_on` are put into the same
-- four lists, one after the other (`with_each`).
pub fill_on_contract : Contract fill_on_kinds.ps fill_on_kinds.r fill_on.Pre fill_on.Post
    (λ κs args unit left.
    let begun = args.0 in
    let bytes = args.1.0 in
    let list = args.1.1.0 in
    let list' = left.1.1.0 in
    SameLists list.now list'.now ×
    (lists_in list'.now ≡ with_each (lists_in list.now) 0 (read_on begun bytes.now).got))
fill_on_contract = record { takes_any = λ κs args. tt; says = λ κs args unit left p. p }

-- `scan_on` takes any begun and bytes, and all that its contract allows is `scanned_on` of them.
pub scan_on_contract : Contract scan_on_kinds.ps scan_on_kinds.r scan_on.Pre scan_on.Post
    (λ κs args r left.
    let begun = args.0 in
    let bytes = args.1.0 in
    r ≡ scanned_on begun bytes.now)
scan_on_contract = record { takes_any = λ κs args. tt; says = λ κs args r left p. p }

-- `scan` takes any bytes, and all that its contract allows is `scanned` of them.
pub scan_contract : Contract scan_kinds.ps scan_kinds.r scan.Pre scan.Post
    (λ κs args r left.
    let bytes = args.0 in
    r ≡ scanned bytes.now)
scan_contract = record { takes_any = λ κs args. tt; says = λ κs args r left p. p }

-- `fresh_part` takes nothing, and all that its contract allows is `fresh`.
pub fresh_part_contract : Contract fresh_part_kinds.ps fresh_part_kinds.r fresh_part.Pre fresh_part.Post
    (λ κs args r left.
    r ≡ fresh)
fresh_part_contract = record { takes_any = λ κs args. tt; says = λ κs args r left p. p }

-- `take_byte` takes any p and b, and all that its contract allows is `byte_taken` of them.
pub take_byte_contract : Contract take_byte_kinds.ps take_byte_kinds.r take_byte.Pre take_byte.Post
    (λ κs args r left.
    let p = args.0 in
    let b = args.1.0 in
    r ≡ byte_taken p b)
take_byte_contract = record { takes_any = λ κs args. tt; says = λ κs args r left p. p }

-- `cut_off` takes any p, and all that its contract allows is `cut_off` of it.
pub cut_off_contract : Contract cut_off_kinds.ps cut_off_kinds.r cut_off.Pre cut_off.Post
    (λ κs args r left.
    let p = args.0 in
    r ≡ cut_off p)
cut_off_contract = record { takes_any = λ κs args. tt; says = λ κs args r left p. p }
