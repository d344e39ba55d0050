-- What the contracts of the calls say, taken from the contracts themselves (`Contract`): each is a statement on the call's own arguments.
use mathlib.Core.Path.{◌≡◌}
use Rattle.bank_spec.specs.Access.{read_answer, write_answer}
use Rattle.bank_spec.specs.Decode.{decoded}
use Rattle.words.proofs.Contracts.{Contract}
use Rattle.bank.proofs.accessing.read_bank_port.Kinds as read_bank_port_kinds
use Rattle.bank.proofs.accessing.read_bank_port.Reads as read_bank_port
use Rattle.bank.proofs.accessing.write_bank_port.Kinds as write_bank_port_kinds
use Rattle.bank.proofs.accessing.write_bank_port.Reads as write_bank_port
use Rattle.bank.proofs.decoding.decode.Kinds as decode_kinds
use Rattle.bank.proofs.decoding.decode.Reads as decode

-- `read_bank_port` takes any p and lanes, and all that its contract allows is `read_answer` of them.
pub read_bank_port_contract : Contract read_bank_port_kinds.ps read_bank_port_kinds.r read_bank_port.Pre read_bank_port.Post
    (λ κs args o left.
    let p = args.0 in
    let lanes = args.1.0 in
    o ≡ read_answer p lanes)
read_bank_port_contract = record { takes_any = λ κs args. tt; says = λ κs args o left p. p }

-- `write_bank_port` takes any p, lanes and word, and all that its contract allows is `write_answer` of them.
pub write_bank_port_contract : Contract write_bank_port_kinds.ps write_bank_port_kinds.r write_bank_port.Pre write_bank_port.Post
    (λ κs args o left.
    let p = args.0 in
    let lanes = args.1.0 in
    let word = args.1.1.0 in
    o ≡ write_answer p lanes word)
write_bank_port_contract = record { takes_any = λ κs args. tt; says = λ κs args o left p. p }

-- `decode` takes any b, control, address and kind, and all that its contract allows is `decoded` of them.
pub decode_contract : Contract decode_kinds.ps decode_kinds.r decode.Pre decode.Post
    (λ κs args o left.
    let b = args.0 in
    let control = args.1.0 in
    let address = args.1.1.0 in
    let kind = args.1.1.1.0 in
    o ≡ decoded b control address kind)
decode_contract = record { takes_any = λ κs args. tt; says = λ κs args o left p. p }
