-- What is next, by its part.
use Rattle.std.specs.Prelude.{ℕ, ◌≡◌, Bool, true, false}
use Rattle.tlm_types.specs.declared.words.Command.{Command}
use Rattle.tlm_types.specs.declared.words.Command.TheVariants.{Read}
use Rattle.script_engine.specs.declared.op.Op.{Op}
use Rattle.script_engine.specs.declared.op.Op.TheVariants as next
use Rattle.script_engine.specs.declared.part.Part.{Part}
use Rattle.script_engine.specs.declared.part.Part.TheVariants.{Asks, Pauses, Invalidates, Ends}
use Rattle.script_engine.specs.declared.part.Pause.{Pause}
use Rattle.script_engine.specs.declared.part.Pause.TheVariants as pause
use Rattle.script_engine.specs.declared.part.TransferKind.{TransferKind}
use Rattle.script_engine.specs.declared.part.TransferKind.TheVariants as transfer

-- the part of what is next: all else that is said of it is read off its part
abbrev pub part_of : Op → Part
part_of (next.Access s a n command plain fenced) = Asks (record { seq = s; address = a; length = n; kind = transfer.Access command plain fenced })
part_of (next.Debug s a n) = Asks (record { seq = s; address = a; length = n; kind = transfer.DebugRead })
part_of (next.Wait n) = Pauses (pause.Wait n)
part_of next.Sync = Pauses pause.Sync
part_of next.Fence = Pauses pause.Fence
part_of (next.Invalidate s a n) = Invalidates s a n
part_of next.Done = Ends

abbrev pub is_fenced_kind : TransferKind → Bool
is_fenced_kind (transfer.Access command plain fenced) = fenced
is_fenced_kind transfer.DebugRead = false

-- an access without byte enables and without a streaming width of its own
abbrev pub is_plain_kind : TransferKind → Bool
is_plain_kind (transfer.Access command plain fenced) = plain
is_plain_kind transfer.DebugRead = false

-- a debug read reads
abbrev pub command_in : TransferKind → Command
command_in (transfer.Access command plain fenced) = command
command_in transfer.DebugRead = Read

-- an access that reads
abbrev pub IsReadKind : TransferKind → Type 0
IsReadKind (transfer.Access command plain fenced) = command ≡ Read
IsReadKind transfer.DebugRead = ⊥

abbrev pub IsReadPart : Part → Type 0
IsReadPart (Asks t) = IsReadKind t.kind
IsReadPart part = ⊥

-- what is next is an access that reads
abbrev pub IsRead : Op → Type 0
IsRead op = IsReadPart (part_of op)

abbrev pub is_debug_kind : TransferKind → Bool
is_debug_kind (transfer.Access command plain fenced) = false
is_debug_kind transfer.DebugRead = true

abbrev pub is_fenced_part : Part → Bool
is_fenced_part (Asks t) = is_fenced_kind t.kind
is_fenced_part part = false

-- the engine waits for the reply
abbrev pub is_fenced : Op → Bool
is_fenced op = is_fenced_part (part_of op)

abbrev pub length_by : Part → ℕ
length_by (Asks t) = t.length
length_by part = 0

-- how many data bytes the payload has
abbrev pub length_of : Op → ℕ
length_of op = length_by (part_of op)

abbrev pub is_sync_pause : Pause → Bool
is_sync_pause pause.Sync = true
is_sync_pause other = false

abbrev pub is_sync_part : Part → Bool
is_sync_part (Pauses pause) = is_sync_pause pause
is_sync_part part = false
