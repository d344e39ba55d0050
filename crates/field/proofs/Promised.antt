-- What the contracts of the calls say, taken from the contracts themselves (`Contract`): each is a statement on the call's own arguments.
use mathlib.Core.Path.{◌≡◌}
use Rattle.words.proofs.Contracts.{Contract}
use Rattle.field_spec.specs.Answers.{taken, taken_signed, PutIn}
use Rattle.field.proofs.putting.put_in.Kinds as put_in_kinds
use Rattle.field.proofs.putting.put_in.Reads as put_in
use Rattle.field.proofs.taking.take_out.Kinds as take_out_kinds
use Rattle.field.proofs.taking.take_out.Reads as take_out
use Rattle.field.proofs.taking_signed.take_out_signed.Kinds as take_out_signed_kinds
use Rattle.field.proofs.taking_signed.take_out_signed.Reads as take_out_signed

-- `put_in` takes any memory, at, size and value, and all that its contract allows is `PutIn` of them.
pub put_in_contract : Contract put_in_kinds.ps put_in_kinds.r put_in.Pre put_in.Post
    (λ κs args r left.
    let memory = args.0 in
    let memory' = left.0 in
    let address = args.1.0 in
    let size = args.1.1.0 in
    let value = args.1.1.1.0 in
    PutIn memory.now address size value r memory'.now)
put_in_contract = record { takes_any = λ κs args. tt; says = λ κs args r left p. p }

-- `take_out` takes any memory, at and size, and all that its contract allows is `taken` of them.
pub take_out_contract : Contract take_out_kinds.ps take_out_kinds.r take_out.Pre take_out.Post
    (λ κs args r left.
    let memory = args.0 in
    let address = args.1.0 in
    let size = args.1.1.0 in
    r ≡ taken memory.now address size)
take_out_contract = record { takes_any = λ κs args. tt; says = λ κs args r left p. p }

-- `take_out_signed` takes any memory, at and size, and all that its contract allows is `taken_signed` of them.
pub take_out_signed_contract : Contract take_out_signed_kinds.ps take_out_signed_kinds.r take_out_signed.Pre take_out_signed.Post
    (λ κs args r left.
    let memory = args.0 in
    let address = args.1.0 in
    let size = args.1.1.0 in
    r ≡ taken_signed memory.now address size)
take_out_signed_contract = record { takes_any = λ κs args. tt; says = λ κs args r left p. p }
