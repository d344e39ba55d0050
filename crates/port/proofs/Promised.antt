-- What the contracts of the calls say, taken from the contracts themselves (`Contract`): each is a statement on the call's own arguments.
use mathlib.Core.Path.{◌≡◌}
use Rattle.port_spec.specs.declared.Access.TheVariants.{Read, Write}
use Rattle.port_spec.specs.Host.{Accessed, begin_access, finished, lanes_of, refusal, refused, register_of}
use Rattle.port_spec.specs.Cycle.{Cycled, after_fetch, after_store, stepped}
use Rattle.words.specs.Refusals.{number_returned}
use Rattle.words.proofs.Contracts.{Contract}
use Rattle.port.proofs.access.begin_read.Kinds as begin_read_kinds
use Rattle.port.proofs.access.begin_read.Reads as begin_read
use Rattle.port.proofs.access.begin_write.Kinds as begin_write_kinds
use Rattle.port.proofs.access.begin_write.Reads as begin_write
use Rattle.port.proofs.access.begin.Kinds as begin_kinds
use Rattle.port.proofs.access.begin.Reads as begin
use Rattle.port.proofs.access.judge.Kinds as judge_kinds
use Rattle.port.proofs.access.judge.Reads as judge
use Rattle.port.proofs.access.refuse.Kinds as refuse_kinds
use Rattle.port.proofs.access.refuse.Reads as refuse
use Rattle.port.proofs.access.finish.Kinds as finish_kinds
use Rattle.port.proofs.access.finish.Reads as finish
use Rattle.port.proofs.access.host_access.Kinds as host_access_kinds
use Rattle.port.proofs.access.host_access.Reads as host_access
use Rattle.port.proofs.cycles.step_if.Kinds as step_if_kinds
use Rattle.port.proofs.cycles.step_if.Reads as step_if
use Rattle.port.proofs.cycles.settle_fetch.Kinds as settle_fetch_kinds
use Rattle.port.proofs.cycles.settle_fetch.Reads as settle_fetch
use Rattle.port.proofs.cycles.settle_store.Kinds as settle_store_kinds
use Rattle.port.proofs.cycles.settle_store.Reads as settle_store
use Rattle.port.proofs.cycles.carry.Kinds as carry_kinds
use Rattle.port.proofs.cycles.carry.Reads as carry

-- `begin_read` takes any r, register and lanes, and all that its contract allows is `begin_access` of that read.
pub begin_read_contract : Contract begin_read_kinds.ps begin_read_kinds.r begin_read.Pre begin_read.Post
    (λ κs args b left.
    let r = args.0 in
    let register = args.1.0 in
    let lanes = args.1.1.0 in
    b ≡ begin_access r (Read register lanes))
begin_read_contract = record { takes_any = λ κs args. tt; says = λ κs args b left p. p }

-- `begin_write` takes any r, register, lanes and word, and all that its contract allows is `begin_access` of that write.
pub begin_write_contract : Contract begin_write_kinds.ps begin_write_kinds.r begin_write.Pre begin_write.Post
    (λ κs args b left.
    let r = args.0 in
    let register = args.1.0 in
    let lanes = args.1.1.0 in
    let word = args.1.1.1.0 in
    b ≡ begin_access r (Write register lanes word))
begin_write_contract = record { takes_any = λ κs args. tt; says = λ κs args b left p. p }

-- `begin` takes any r and a, and all that its contract allows is `begin_access` of them.
pub begin_contract : Contract begin_kinds.ps begin_kinds.r begin.Pre begin.Post
    (λ κs args b left.
    let r = args.0 in
    let a = args.1.0 in
    b ≡ begin_access r a)
begin_contract = record { takes_any = λ κs args. tt; says = λ κs args b left p. p }

-- `judge` takes any words and a, and all that its contract allows has as its number `refusal` of the words, the register and the
-- lanes of a.
pub judge_contract : Contract judge_kinds.ps judge_kinds.r judge.Pre judge.Post
    (λ κs args r left.
    let words = args.0 in
    let a = args.1.0 in
    number_returned r ≡ refusal words (register_of a) (lanes_of a))
judge_contract = record { takes_any = λ κs args. tt; says = λ κs args r left p. p }

-- `refuse` takes any number and r, and all that its contract allows is `refused` of them.
pub refuse_contract : Contract refuse_kinds.ps refuse_kinds.r refuse.Pre refuse.Post
    (λ κs args o left.
    let number = args.0 in
    let r = args.1.0 in
    o ≡ refused number r)
refuse_contract = record { takes_any = λ κs args. tt; says = λ κs args o left p. p }

-- `finish` takes any b and c, and all that its contract allows is `finished` of them.
pub finish_contract : Contract finish_kinds.ps finish_kinds.r finish.Pre finish.Post
    (λ κs args o left.
    let b = args.0 in
    let c = args.1.0 in
    o ≡ finished b c)
finish_contract = record { takes_any = λ κs args. tt; says = λ κs args o left p. p }

-- `host_access` takes any r, memory and a, and all that its contract allows is `Accessed` of them.
pub host_access_contract : Contract host_access_kinds.ps host_access_kinds.r host_access.Pre host_access.Post
    (λ κs args o left.
    let r = args.0 in
    let memory = args.1.0 in
    let memory' = left.1.0 in
    let a = args.1.1.0 in
    Accessed r memory.now a o memory'.now)
host_access_contract = record { takes_any = λ κs args. tt; says = λ κs args o left p. p }

-- `step_if` takes any step and r, and all that its contract allows is `stepped` of them.
pub step_if_contract : Contract step_if_kinds.ps step_if_kinds.r step_if.Pre step_if.Post
    (λ κs args x left.
    let step = args.0 in
    let r = args.1.0 in
    x ≡ stepped step r)
step_if_contract = record { takes_any = λ κs args. tt; says = λ κs args x left p. p }

-- `settle_fetch` takes any r and f, and all that its contract allows is `after_fetch` of them.
pub settle_fetch_contract : Contract settle_fetch_kinds.ps settle_fetch_kinds.r settle_fetch.Pre settle_fetch.Post
    (λ κs args c left.
    let r = args.0 in
    let f = args.1.0 in
    c ≡ after_fetch r f)
settle_fetch_contract = record { takes_any = λ κs args. tt; says = λ κs args c left p. p }

-- `settle_store` takes any r, step and inside, and all that its contract allows is `after_store` of them.
pub settle_store_contract : Contract settle_store_kinds.ps settle_store_kinds.r settle_store.Pre settle_store.Post
    (λ κs args c left.
    let r = args.0 in
    let step = args.1.0 in
    let inside = args.1.1.0 in
    c ≡ after_store r step inside)
settle_store_contract = record { takes_any = λ κs args. tt; says = λ κs args c left p. p }

-- `carry` takes any r, due and memory, and all that its contract allows is `Cycled` of them.
pub carry_contract : Contract carry_kinds.ps carry_kinds.r carry.Pre carry.Post
    (λ κs args c left.
    let r = args.0 in
    let due = args.1.0 in
    let memory = args.1.1.0 in
    let memory' = left.1.1.0 in
    Cycled r due memory.now c memory'.now)
carry_contract = record { takes_any = λ κs args. tt; says = λ κs args c left p. p }
