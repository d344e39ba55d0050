-- What the contracts of the calls say, taken from the contracts themselves (`Contract`): each is a statement on the call's own arguments.
use Rattle.std.proofs.Common.{◌≡◌}
use Rattle.digits.specs.Digits.{decimal_value, digit_for, hex_value}
use Rattle.words.proofs.Contracts.{Contract}
use Rattle.digits.proofs.decimal_value.Kinds as decimal_value_kinds
use Rattle.digits.proofs.decimal_value.Reads as decimal_value
use Rattle.digits.proofs.hex_value.Kinds as hex_value_kinds
use Rattle.digits.proofs.hex_value.Reads as hex_value
use Rattle.digits.proofs.digit_for.Kinds as digit_for_kinds
use Rattle.digits.proofs.digit_for.Reads as digit_for

-- `decimal_value` takes any b, and all that its contract allows is `decimal_value` of it.
pub decimal_value_contract : Contract decimal_value_kinds.ps decimal_value_kinds.r decimal_value.Pre decimal_value.Post
    (λ κs args r left.
    let b = args.0 in
    r ≡ decimal_value b)
decimal_value_contract = record { takes_any = λ κs args. tt; says = λ κs args r left p. p }

-- `hex_value` takes any b, and all that its contract allows is `hex_value` of it.
pub hex_value_contract : Contract hex_value_kinds.ps hex_value_kinds.r hex_value.Pre hex_value.Post
    (λ κs args r left.
    let b = args.0 in
    r ≡ hex_value b)
hex_value_contract = record { takes_any = λ κs args. tt; says = λ κs args r left p. p }

-- `digit_for` takes any n, and all that its contract allows is `digit_for` of it.
pub digit_for_contract : Contract digit_for_kinds.ps digit_for_kinds.r digit_for.Pre digit_for.Post
    (λ κs args r left.
    let n = args.0 in
    r ≡ digit_for n)
digit_for_contract = record { takes_any = λ κs args. tt; says = λ κs args r left p. p }
