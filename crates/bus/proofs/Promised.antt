-- What the contracts of the calls say, taken from the contracts themselves (`Contract`): each is a statement on the call's own arguments.
use mathlib.Core.Path.{◌≡◌}
use Rattle.bus.specs.Order.{asked, granted, quiet, released, waits}
use Rattle.words.proofs.Contracts.{Contract}
use Rattle.bus.proofs.idle.Kinds as idle_kinds
use Rattle.bus.proofs.idle.Reads as idle
use Rattle.bus.proofs.is_waiting.Kinds as is_waiting_kinds
use Rattle.bus.proofs.is_waiting.Reads as is_waiting
use Rattle.bus.proofs.ask.Kinds as ask_kinds
use Rattle.bus.proofs.ask.Reads as ask
use Rattle.bus.proofs.grant.Kinds as grant_kinds
use Rattle.bus.proofs.grant.Reads as grant
use Rattle.bus.proofs.release.Kinds as release_kinds
use Rattle.bus.proofs.release.Reads as release

-- `idle` takes nothing, and all that its contract allows is `quiet`.
pub idle_contract : Contract idle_kinds.ps idle_kinds.r idle.Pre idle.Post
    (λ κs args r left.
    r ≡ quiet)
idle_contract = record { takes_any = λ κs args. tt; says = λ κs args r left p. p }

-- `is_waiting` takes any b and source, and all that its contract allows is `waits` of them.
pub is_waiting_contract : Contract is_waiting_kinds.ps is_waiting_kinds.r is_waiting.Pre is_waiting.Post
    (λ κs args r left.
    let b = args.0 in
    let source = args.1.0 in
    r ≡ waits b source)
is_waiting_contract = record { takes_any = λ κs args. tt; says = λ κs args r left p. p }

-- `ask` takes any b and source, and all that its contract allows is `asked` of them.
pub ask_contract : Contract ask_kinds.ps ask_kinds.r ask.Pre ask.Post
    (λ κs args r left.
    let b = args.0 in
    let source = args.1.0 in
    r ≡ asked b source)
ask_contract = record { takes_any = λ κs args. tt; says = λ κs args r left p. p }

-- `grant` takes any b, and all that its contract allows is `granted` of it.
pub grant_contract : Contract grant_kinds.ps grant_kinds.r grant.Pre grant.Post
    (λ κs args r left.
    let b = args.0 in
    r ≡ granted b)
grant_contract = record { takes_any = λ κs args. tt; says = λ κs args r left p. p }

-- `release` takes any b, and all that its contract allows is `released` of it.
pub release_contract : Contract release_kinds.ps release_kinds.r release.Pre release.Post
    (λ κs args r left.
    let b = args.0 in
    r ≡ released b)
release_contract = record { takes_any = λ κs args. tt; says = λ κs args r left p. p }
