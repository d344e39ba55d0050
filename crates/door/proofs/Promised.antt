-- What the contracts of the calls say, taken from the contracts themselves (`Contract`): each is a statement on the call's own arguments.
use Rattle.port_spec.specs.declared.Access.TheVariants.{Read, Write}
use Rattle.door_spec.specs.Door.{Called}
use Rattle.words.proofs.Contracts.{Contract}
use Rattle.door.proofs.host_port_read.Kinds as host-port-read-kinds
use Rattle.door.proofs.host_port_read.Reads as host-port-read
use Rattle.door.proofs.host_port_write.Kinds as host-port-write-kinds
use Rattle.door.proofs.host_port_write.Reads as host-port-write

-- `host_port_read` takes any image, memory, register and lanes, and all that its contract allows is `Called` of them, for that read,
-- with the memory as it was lent for the memory after it.
pub host-port-read-contract : Contract host-port-read-kinds.ps host-port-read-kinds.r host-port-read.Pre host-port-read.Post
    (λ κs args r left.
    let image = args.0 in
    let image' = left.0 in
    let memory = args.1.0 in
    let register = args.1.1.0 in
    let lanes = args.1.1.1.0 in
    Called image.now memory.now (Read register lanes) r image'.now memory.now)
host-port-read-contract = record { takes-any = λ κs args. tt; says = λ κs args r left p. p }

-- `host_port_write` takes any image, memory, register, lanes and word, and all that its contract allows is `Called` of them, for that
-- write.
pub host-port-write-contract : Contract host-port-write-kinds.ps host-port-write-kinds.r host-port-write.Pre host-port-write.Post
    (λ κs args r left.
    let image = args.0 in
    let image' = left.0 in
    let memory = args.1.0 in
    let memory' = left.1.0 in
    let register = args.1.1.0 in
    let lanes = args.1.1.1.0 in
    let word = args.1.1.1.1.0 in
    Called image.now memory.now (Write register lanes word) r image'.now memory'.now)
host-port-write-contract = record { takes-any = λ κs args. tt; says = λ κs args r left p. p }
