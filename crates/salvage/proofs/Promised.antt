-- What the contract of the call says, taken from the contract itself (`Contract`): it is a statement on the call's own arguments.
use Rattle.words.proofs.Contracts.{Contract}
use Rattle.salvage_spec.specs.Salvage.{SalvagedTranscript}
use Rattle.salvage.proofs.salvage_transcript.Kinds as salvage_transcript_kinds
use Rattle.salvage.proofs.salvage_transcript.Reads as salvage_transcript

-- `salvage_transcript` takes any damaged and sound, and all that its contract allows is `SalvagedTranscript` of them.
pub salvage_transcript_contract :
    Contract salvage_transcript_kinds.ps salvage_transcript_kinds.r salvage_transcript.Pre salvage_transcript.Post
    (λ κs args o left.
    let damaged = args.0 in
    let sound = args.1.0 in
    let sound' = left.1.0 in
    SalvagedTranscript damaged.now sound.now o sound'.now)
salvage_transcript_contract = record { takes_any = λ κs args. tt; says = λ κs args o left p. p }
