-- What the contracts of the calls say, taken from the contracts themselves (`Contract`): each is a statement on the call's own arguments.
use mathlib.Core.Path.{◌≡◌}
use Rattle.script.specs.Script.{bus_letter, field_letter, host_letter, in_place_letter, line_in}
use Rattle.script.specs.Script.{plain_letter, processor_letter, whole_letter}
use Rattle.script.specs.Answers.{with_line}
use Rattle.words.proofs.Contracts.{Contract}
use Rattle.script.proofs.letters.is_in_place_letter.Kinds as is_in_place_letter_kinds
use Rattle.script.proofs.letters.is_in_place_letter.Reads as is_in_place_letter
use Rattle.script.proofs.letters.is_host_letter.Kinds as is_host_letter_kinds
use Rattle.script.proofs.letters.is_host_letter.Reads as is_host_letter
use Rattle.script.proofs.letters.is_processor_letter.Kinds as is_processor_letter_kinds
use Rattle.script.proofs.letters.is_processor_letter.Reads as is_processor_letter
use Rattle.script.proofs.letters.is_field_letter.Kinds as is_field_letter_kinds
use Rattle.script.proofs.letters.is_field_letter.Reads as is_field_letter
use Rattle.script.proofs.letters.is_bus_letter.Kinds as is_bus_letter_kinds
use Rattle.script.proofs.letters.is_bus_letter.Reads as is_bus_letter
use Rattle.script.proofs.letters.is_whole_letter.Kinds as is_whole_letter_kinds
use Rattle.script.proofs.letters.is_whole_letter.Reads as is_whole_letter
use Rattle.script.proofs.letters.is_plain_letter.Kinds as is_plain_letter_kinds
use Rattle.script.proofs.letters.is_plain_letter.Reads as is_plain_letter
use Rattle.script.proofs.printing.put_line.Kinds as put_line_kinds
use Rattle.script.proofs.printing.put_line.Reads as put_line
use Rattle.script.proofs.reading.read_line.Kinds as read_line_kinds
use Rattle.script.proofs.reading.read_line.Reads as read_line

-- `is_in_place_letter` takes any l, and all that its contract allows is `in_place_letter` of it.
pub is_in_place_letter_contract :
    Contract is_in_place_letter_kinds.ps is_in_place_letter_kinds.r is_in_place_letter.Pre is_in_place_letter.Post
    (λ κs args r left.
    let l = args.0 in
    r ≡ in_place_letter l)
is_in_place_letter_contract = record { takes_any = λ κs args. tt; says = λ κs args r left p. p }

-- `is_host_letter` takes any l, and all that its contract allows is `host_letter` of it.
pub is_host_letter_contract : Contract is_host_letter_kinds.ps is_host_letter_kinds.r is_host_letter.Pre is_host_letter.Post
    (λ κs args r left.
    let l = args.0 in
    r ≡ host_letter l)
is_host_letter_contract = record { takes_any = λ κs args. tt; says = λ κs args r left p. p }

-- `is_processor_letter` takes any l, and all that its contract allows is `processor_letter` of it.
pub is_processor_letter_contract :
    Contract is_processor_letter_kinds.ps is_processor_letter_kinds.r is_processor_letter.Pre is_processor_letter.Post
    (λ κs args r left.
    let l = args.0 in
    r ≡ processor_letter l)
is_processor_letter_contract = record { takes_any = λ κs args. tt; says = λ κs args r left p. p }

-- `is_field_letter` takes any l, and all that its contract allows is `field_letter` of it.
pub is_field_letter_contract : Contract is_field_letter_kinds.ps is_field_letter_kinds.r is_field_letter.Pre is_field_letter.Post
    (λ κs args r left.
    let l = args.0 in
    r ≡ field_letter l)
is_field_letter_contract = record { takes_any = λ κs args. tt; says = λ κs args r left p. p }

-- `is_bus_letter` takes any l, and all that its contract allows is `bus_letter` of it.
pub is_bus_letter_contract : Contract is_bus_letter_kinds.ps is_bus_letter_kinds.r is_bus_letter.Pre is_bus_letter.Post
    (λ κs args r left.
    let l = args.0 in
    r ≡ bus_letter l)
is_bus_letter_contract = record { takes_any = λ κs args. tt; says = λ κs args r left p. p }

-- `is_whole_letter` takes any l, and all that its contract allows is `whole_letter` of it.
pub is_whole_letter_contract : Contract is_whole_letter_kinds.ps is_whole_letter_kinds.r is_whole_letter.Pre is_whole_letter.Post
    (λ κs args r left.
    let l = args.0 in
    r ≡ whole_letter l)
is_whole_letter_contract = record { takes_any = λ κs args. tt; says = λ κs args r left p. p }

-- `is_plain_letter` takes any l, and all that its contract allows is `plain_letter` of it.
pub is_plain_letter_contract : Contract is_plain_letter_kinds.ps is_plain_letter_kinds.r is_plain_letter.Pre is_plain_letter.Post
    (λ κs args r left.
    let l = args.0 in
    r ≡ plain_letter l)
is_plain_letter_contract = record { takes_any = λ κs args. tt; says = λ κs args r left p. p }

-- `put_line` takes any line, letter and d, and all that its contract allows is that the line is left as `with_line` of them.
pub put_line_contract : Contract put_line_kinds.ps put_line_kinds.r put_line.Pre put_line.Post
    (λ κs args unit left.
    let line = args.0 in
    let line' = left.0 in
    let letter = args.1.0 in
    let d = args.1.1.0 in
    line'.now ≡ with_line line.now letter d)
put_line_contract = record { takes_any = λ κs args. tt; says = λ κs args unit left p. p }

-- `read_line` takes any line, and all that its contract allows is `line_in` of it.
pub read_line_contract : Contract read_line_kinds.ps read_line_kinds.r read_line.Pre read_line.Post
    (λ κs args r left.
    let line = args.0 in
    r ≡ line_in line.now)
read_line_contract = record { takes_any = λ κs args. tt; says = λ κs args r left p. p }
