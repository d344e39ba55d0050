-- What the contracts of the calls say, taken from the contracts themselves (`Contract`): each is a statement on the call's own arguments.
use Rattle.port_spec.specs.declared.Access.TheVariants.{Read, Write}
use Rattle.door_spec.specs.Door.{Called}
use Rattle.words.proofs.Contracts.{Contract}
use Rattle.door_c.proofs.host_port_read.Kinds as host_port_read_kinds
use Rattle.door_c.proofs.host_port_read.Reads as host_port_read
use Rattle.door_c.proofs.host_port_write.Kinds as host_port_write_kinds
use Rattle.door_c.proofs.host_port_write.Reads as host_port_write

-- `host_port_read` takes any image, memory, register and lanes, and all that its contract allows is `Called` of them, for that read,
-- with the memory as it was lent for the memory after it.
pub host_port_read_contract : Contract host_port_read_kinds.ps host_port_read_kinds.r host_port_read.Pre host_port_read.Post
    (λ κs args r left.
    let image = args.0 in
    let image' = left.0 in
    let memory = args.1.0 in
    let register = args.1.1.0 in
    let lanes = args.1.1.1.0 in
    Called image.now memory.now (Read register lanes) r image'.now memory.now)
host_port_read_contract = record { takes_any = λ κs args. tt; says = λ κs args r left p. p }

-- `host_port_write` takes any image, memory, register, lanes and word, and all that its contract allows is `Called` of them, for that
-- write.
pub host_port_write_contract : Contract host_port_write_kinds.ps host_port_write_kinds.r host_port_write.Pre host_port_write.Post
    (λ κs args r left.
    let image = args.0 in
    let image' = left.0 in
    let memory = args.1.0 in
    let memory' = left.1.0 in
    let register = args.1.1.0 in
    let lanes = args.1.1.1.0 in
    let word = args.1.1.1.1.0 in
    Called image.now memory.now (Write register lanes word) r image'.now memory'.now)
host_port_write_contract = record { takes_any = λ κs args. tt; says = λ κs args r left p. p }
