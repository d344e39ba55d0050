-- What the contracts of the calls say, taken from the contracts themselves (`Contract`): each is a statement on the call's own arguments.
use mathlib.Core.Path.{◌≡◌}
use Rattle.stream_spec.specs.Stream.{TookDelivery, end_answer, fresh_stream}
use Rattle.transcript_spec.specs.Lists.{lists}
use Rattle.words.proofs.Contracts.{Contract}
use Rattle.stream.proofs.calls.start_stream.Kinds as start_stream_kinds
use Rattle.stream.proofs.calls.start_stream.Reads as start_stream
use Rattle.stream.proofs.calls.take_delivery.Kinds as take_delivery_kinds
use Rattle.stream.proofs.calls.take_delivery.Reads as take_delivery
use Rattle.stream.proofs.calls.end_stream.Kinds as end_stream_kinds
use Rattle.stream.proofs.calls.end_stream.Reads as end_stream

-- `start_stream` takes nothing, and all that its contract allows is `fresh_stream`.
pub start_stream_contract : Contract start_stream_kinds.ps start_stream_kinds.r start_stream.Pre start_stream.Post
    (λ κs args r left.
    r ≡ fresh_stream)
start_stream_contract = record { takes_any = λ κs args. tt; says = λ κs args r left p. p }

-- `take_delivery` takes any st, bytes, kinds, registers, lanes and words, and all that its contract allows is `TookDelivery` of them.
pub take_delivery_contract : Contract take_delivery_kinds.ps take_delivery_kinds.r take_delivery.Pre take_delivery.Post
    (λ κs args o left.
    let st = args.0 in
    let bytes = args.1.0 in
    let kinds = args.1.1.0 in
    let kinds' = left.1.1.0 in
    let registers = args.1.1.1.0 in
    let registers' = left.1.1.1.0 in
    let lanes = args.1.1.1.1.0 in
    let lanes' = left.1.1.1.1.0 in
    let words = args.1.1.1.1.1.0 in
    let words' = left.1.1.1.1.1.0 in
    TookDelivery st bytes.now (lists kinds.now registers.now lanes.now words.now) o
    (lists kinds'.now registers'.now lanes'.now words'.now))
take_delivery_contract = record { takes_any = λ κs args. tt; says = λ κs args o left p. p }

-- `end_stream` takes any st, and all that its contract allows is `end_answer` of it.
pub end_stream_contract : Contract end_stream_kinds.ps end_stream_kinds.r end_stream.Pre end_stream.Post
    (λ κs args o left.
    let st = args.0 in
    o ≡ end_answer st)
end_stream_contract = record { takes_any = λ κs args. tt; says = λ κs args o left p. p }
