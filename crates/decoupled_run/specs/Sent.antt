-- The payload of an access or a debug read.
use Rattle.std.specs.Prelude.{◌≡◌, length}
use Rattle.tlm_types.specs.declared.words.Command.TheVariants.{Read}
use Rattle.tlm_model.specs.Store.{zeros}
use Rattle.generic_payload.specs.Payload.{PayloadView}
use Rattle.script_engine.specs.declared.part.TransferKind.{TransferKind}
use Rattle.script_engine.specs.declared.part.TransferKind.TheVariants as transfer

-- a debug read reads, and what an access reads into are zeros
abbrev pub IsSentBy : TransferKind → PayloadView → Type 0
IsSentBy (transfer.Access command plain fenced) payload = payload.command ≡ Read → payload.bytes ≡ zeros (length payload.bytes)
IsSentBy transfer.DebugRead payload = payload.command ≡ Read
