-- What the contracts of the calls say, taken from the contracts themselves (`Contract`): each is a statement on the call's own arguments.
use mathlib.Core.Path.{◌≡◌}
use Rattle.registers.specs.Registers.{low_half, high_half, register_word, with_latch, with_pointer, written}
use Rattle.registers.specs.Processor.{at_reset, processor_reads, processor_writes}
use Rattle.words.proofs.Contracts.{Contract}
use Rattle.registers.proofs.parts.low_half_of.Kinds as low_half_of_kinds
use Rattle.registers.proofs.parts.low_half_of.Reads as low_half_of
use Rattle.registers.proofs.parts.high_half_of.Kinds as high_half_of_kinds
use Rattle.registers.proofs.parts.high_half_of.Reads as high_half_of
use Rattle.registers.proofs.parts.set_pointer.Kinds as set_pointer_kinds
use Rattle.registers.proofs.parts.set_pointer.Reads as set_pointer
use Rattle.registers.proofs.parts.set_latch.Kinds as set_latch_kinds
use Rattle.registers.proofs.parts.set_latch.Reads as set_latch
use Rattle.registers.proofs.parts.read_register.Kinds as read_register_kinds
use Rattle.registers.proofs.parts.read_register.Reads as read_register
use Rattle.registers.proofs.parts.write_register.Kinds as write_register_kinds
use Rattle.registers.proofs.parts.write_register.Reads as write_register
use Rattle.registers.proofs.processor.processor_read.Kinds as processor_read_kinds
use Rattle.registers.proofs.processor.processor_read.Reads as processor_read
use Rattle.registers.proofs.processor.processor_write.Kinds as processor_write_kinds
use Rattle.registers.proofs.processor.processor_write.Reads as processor_write
use Rattle.registers.proofs.processor.reset.Kinds as reset_kinds
use Rattle.registers.proofs.processor.reset.Reads as reset

-- `low_half_of` takes any a, and all that its contract allows is `low_half` of it.
pub low_half_of_contract : Contract low_half_of_kinds.ps low_half_of_kinds.r low_half_of.Pre low_half_of.Post
    (λ κs args x left.
    let a = args.0 in
    x ≡ low_half a)
low_half_of_contract = record { takes_any = λ κs args. tt; says = λ κs args x left p. p }

-- `high_half_of` takes any a, and all that its contract allows is `high_half` of it.
pub high_half_of_contract : Contract high_half_of_kinds.ps high_half_of_kinds.r high_half_of.Pre high_half_of.Post
    (λ κs args x left.
    let a = args.0 in
    x ≡ high_half a)
high_half_of_contract = record { takes_any = λ κs args. tt; says = λ κs args x left p. p }

-- `set_pointer` takes any r and a, and all that its contract allows is `with_pointer` of them.
pub set_pointer_contract : Contract set_pointer_kinds.ps set_pointer_kinds.r set_pointer.Pre set_pointer.Post
    (λ κs args x left.
    let r = args.0 in
    let a = args.1.0 in
    x ≡ with_pointer r a)
set_pointer_contract = record { takes_any = λ κs args. tt; says = λ κs args x left p. p }

-- `set_latch` takes any r, w and hollow, and all that its contract allows is `with_latch` of them.
pub set_latch_contract : Contract set_latch_kinds.ps set_latch_kinds.r set_latch.Pre set_latch.Post
    (λ κs args x left.
    let r = args.0 in
    let w = args.1.0 in
    let hollow = args.1.1.0 in
    x ≡ with_latch r w hollow)
set_latch_contract = record { takes_any = λ κs args. tt; says = λ κs args x left p. p }

-- `read_register` takes any r and register, and all that its contract allows is `register_word` of them.
pub read_register_contract : Contract read_register_kinds.ps read_register_kinds.r read_register.Pre read_register.Post
    (λ κs args x left.
    let r = args.0 in
    let register = args.1.0 in
    x ≡ register_word r register)
read_register_contract = record { takes_any = λ κs args. tt; says = λ κs args x left p. p }

-- `write_register` takes any r, register, lanes and w, and all that its contract allows is `written` of them.
pub write_register_contract : Contract write_register_kinds.ps write_register_kinds.r write_register.Pre write_register.Post
    (λ κs args x left.
    let r = args.0 in
    let register = args.1.0 in
    let lanes = args.1.1.0 in
    let w = args.1.1.1.0 in
    x ≡ written r register lanes w)
write_register_contract = record { takes_any = λ κs args. tt; says = λ κs args x left p. p }

-- `processor_read` takes any r and register, and all that its contract allows is `processor_reads` of them.
pub processor_read_contract : Contract processor_read_kinds.ps processor_read_kinds.r processor_read.Pre processor_read.Post
    (λ κs args x left.
    let r = args.0 in
    let register = args.1.0 in
    x ≡ processor_reads r register)
processor_read_contract = record { takes_any = λ κs args. tt; says = λ κs args x left p. p }

-- `processor_write` takes any r, register and w, and all that its contract allows is `processor_writes` of them.
pub processor_write_contract : Contract processor_write_kinds.ps processor_write_kinds.r processor_write.Pre processor_write.Post
    (λ κs args x left.
    let r = args.0 in
    let register = args.1.0 in
    let w = args.1.1.0 in
    x ≡ processor_writes r register w)
processor_write_contract = record { takes_any = λ κs args. tt; says = λ κs args x left p. p }

-- `reset` takes nothing, and all that its contract allows is `at_reset`.
pub reset_contract : Contract reset_kinds.ps reset_kinds.r reset.Pre reset.Post
    (λ κs args w left.
    w ≡ at_reset)
reset_contract = record { takes_any = λ κs args. tt; says = λ κs args w left p. p }
