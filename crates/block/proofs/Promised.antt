-- What the contracts of the calls say, taken from the contracts themselves (`Contract`): each is a statement on the call's own arguments.
use Rattle.block_spec.specs.Block.{ReadBlock, WrittenBlock}
use Rattle.words.proofs.Contracts.{Contract}
use Rattle.block.proofs.reading.block_read.Kinds as block_read_kinds
use Rattle.block.proofs.reading.block_read.Reads as block_read
use Rattle.block.proofs.writing.block_write.Kinds as block_write_kinds
use Rattle.block.proofs.writing.block_write.Reads as block_write

-- `block_read` takes any r, memory, list, place and count, and all that its contract allows is `ReadBlock` of them.
pub block_read_contract : Contract block_read_kinds.ps block_read_kinds.r block_read.Pre block_read.Post
    (λ κs args o left.
    let r = args.0 in
    let memory = args.1.0 in
    let list = args.1.1.0 in
    let list' = left.1.1.0 in
    let place = args.1.1.1.0 in
    let count = args.1.1.1.1.0 in
    ReadBlock r memory.now list.now place count o list'.now)
block_read_contract = record { takes_any = λ κs args. tt; says = λ κs args o left p. p }

-- `block_write` takes any r, memory, list, place and count, and all that its contract allows is `WrittenBlock` of them.
pub block_write_contract : Contract block_write_kinds.ps block_write_kinds.r block_write.Pre block_write.Post
    (λ κs args o left.
    let r = args.0 in
    let memory = args.1.0 in
    let memory' = left.1.0 in
    let list = args.1.1.0 in
    let place = args.1.1.1.0 in
    let count = args.1.1.1.1.0 in
    WrittenBlock r memory.now list.now place count o memory'.now)
block_write_contract = record { takes_any = λ κs args. tt; says = λ κs args o left p. p }
