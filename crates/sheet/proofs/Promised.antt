-- What the contracts of the calls say, taken from the contracts themselves (`Contract`): each is a statement on the call's own arguments.
use Rattle.sheet_spec.specs.Sheet.{Struck}
use Rattle.words.proofs.Contracts.{Contract}
use Rattle.sheet.proofs.sheets.strike_sheet.Kinds as strike_sheet_kinds
use Rattle.sheet.proofs.sheets.strike_sheet.Reads as strike_sheet

-- `strike_sheet` takes any r, memory, table, rule, t and list, and all that its contract allows is `Struck` of them.
pub strike_sheet_contract : Contract strike_sheet_kinds.ps strike_sheet_kinds.r strike_sheet.Pre strike_sheet.Post
    (λ κs args o left.
    let r = args.0 in
    let memory = args.1.0 in
    let memory' = left.1.0 in
    let table = args.1.1.0 in
    let rule = args.1.1.1.0 in
    let t = args.1.1.1.1.0 in
    let list = args.1.1.1.1.1.0 in
    let list' = left.1.1.1.1.1.0 in
    Struck r memory.now table rule t list.now o memory'.now list'.now)
strike_sheet_contract = record { takes_any = λ κs args. tt; says = λ κs args o left p. p }
