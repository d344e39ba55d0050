-- What the contracts of the calls say, taken from the contracts themselves (`Contract`): each is a statement on the call's own arguments.
use mathlib.Core.Path.{◌≡◌}
use Rattle.control.specs.Control.{bare, closes, control_laid, fetches, host_low, incr, incw, processor_low}
use Rattle.words.proofs.Contracts.{Contract}
use Rattle.control.proofs.hide_bit_10.Kinds as hide_bit_10_kinds
use Rattle.control.proofs.hide_bit_10.Reads as hide_bit_10
use Rattle.control.proofs.steps_writing.Kinds as steps_writing_kinds
use Rattle.control.proofs.steps_writing.Reads as steps_writing
use Rattle.control.proofs.steps_reading.Kinds as steps_reading_kinds
use Rattle.control.proofs.steps_reading.Reads as steps_reading
use Rattle.control.proofs.closes_word.Kinds as closes_word_kinds
use Rattle.control.proofs.closes_word.Reads as closes_word
use Rattle.control.proofs.fetches_by.Kinds as fetches_by_kinds
use Rattle.control.proofs.fetches_by.Reads as fetches_by
use Rattle.control.proofs.write_by_host.Kinds as write_by_host_kinds
use Rattle.control.proofs.write_by_host.Reads as write_by_host
use Rattle.control.proofs.write_by_processor.Kinds as write_by_processor_kinds
use Rattle.control.proofs.write_by_processor.Reads as write_by_processor

-- `hide_bit_10` takes any c, and all that its contract allows is `bare` of it.
pub hide_bit_10_contract : Contract hide_bit_10_kinds.ps hide_bit_10_kinds.r hide_bit_10.Pre hide_bit_10.Post
    (λ κs args r left.
    let c = args.0 in
    r ≡ bare c)
hide_bit_10_contract = record { takes_any = λ κs args. tt; says = λ κs args r left p. p }

-- `steps_writing` takes any c, and all that its contract allows is `incw` of it.
pub steps_writing_contract : Contract steps_writing_kinds.ps steps_writing_kinds.r steps_writing.Pre steps_writing.Post
    (λ κs args r left.
    let c = args.0 in
    r ≡ incw c)
steps_writing_contract = record { takes_any = λ κs args. tt; says = λ κs args r left p. p }

-- `steps_reading` takes any c, and all that its contract allows is `incr` of it.
pub steps_reading_contract : Contract steps_reading_kinds.ps steps_reading_kinds.r steps_reading.Pre steps_reading.Post
    (λ κs args r left.
    let c = args.0 in
    r ≡ incr c)
steps_reading_contract = record { takes_any = λ κs args. tt; says = λ κs args r left p. p }

-- `closes_word` takes any c and lanes, and all that its contract allows is `closes` of them.
pub closes_word_contract : Contract closes_word_kinds.ps closes_word_kinds.r closes_word.Pre closes_word.Post
    (λ κs args r left.
    let c = args.0 in
    let lanes = args.1.0 in
    r ≡ closes c lanes)
closes_word_contract = record { takes_any = λ κs args. tt; says = λ κs args r left p. p }

-- `fetches_by` takes any c and register, and all that its contract allows is `fetches` of them.
pub fetches_by_contract : Contract fetches_by_kinds.ps fetches_by_kinds.r fetches_by.Pre fetches_by.Post
    (λ κs args r left.
    let c = args.0 in
    let register = args.1.0 in
    r ≡ fetches c register)
fetches_by_contract = record { takes_any = λ κs args. tt; says = λ κs args r left p. p }

-- `write_by_host` takes any c, lanes and w, and all that its contract allows is `control_laid` of them, by the host's rule for the low byte
-- (`host_low`).
pub write_by_host_contract : Contract write_by_host_kinds.ps write_by_host_kinds.r write_by_host.Pre write_by_host.Post
    (λ κs args r left.
    let c = args.0 in
    let lanes = args.1.0 in
    let w = args.1.1.0 in
    r ≡ control_laid host_low lanes c w)
write_by_host_contract = record { takes_any = λ κs args. tt; says = λ κs args r left p. p }

-- `write_by_processor` takes any c, lanes and w, and all that its contract allows is `control_laid` of them, by the processor's rule for
-- the low byte (`processor_low`).
pub write_by_processor_contract :
    Contract write_by_processor_kinds.ps write_by_processor_kinds.r write_by_processor.Pre write_by_processor.Post
    (λ κs args r left.
    let c = args.0 in
    let lanes = args.1.0 in
    let w = args.1.1.0 in
    r ≡ control_laid processor_low lanes c w)
write_by_processor_contract = record { takes_any = λ κs args. tt; says = λ κs args r left p. p }
