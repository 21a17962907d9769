-- What is seen of an engine, and its steps.
use Rattle.std.specs.Prelude.{ℕ, ◌+◌, ◌==◌, ◌&&◌, Bool, true, false, List, [], ◌∷◌, length, Option, Some, None, is_none, unwrap_or}
use Rattle.tlm_types.specs.declared.words.Command.TheVariants.{Read as read_command, Write as write_command, Ignore as ignore_command, FetchAdd as fetch_add_command}
use Rattle.tlm_model.specs.declared.operation.Operation.{Operation}
use Rattle.tlm_model.specs.declared.operation.Operation.TheVariants.{Write, Read, Ignore, Debug, Copy, Add, FetchAdd, Wait, Sync, Fence, Invalidate}
use Rattle.tlm_model.specs.Requests.{numbers_of, added, le_bytes}
use Rattle.tlm_model.specs.Store.{zeros}
use Rattle.generic_payload.specs.Payload.{PayloadView, new_payload}
use Rattle.script_engine.specs.declared.op.Op.{Op}
use Rattle.script_engine.specs.declared.op.Op.TheVariants as next
use Rattle.script_engine.specs.declared.part.Part.{Part}
use Rattle.script_engine.specs.Part.{part_of}
pub use Rattle.script_engine.specs.Part.{IsRead, is_fenced, length_of}

-- a write that is due: the second access of a `copy` or an `add`
pub record Due : Type 0 where
  pub address : ℕ
  pub bytes : List ℕ

-- a write at this address, if there is one, of the bytes in a buffer
abbrev pub due_at : Option ℕ → List ℕ → Option Due
due_at None buffer = None
due_at (Some address) buffer = Some (record { address = address; bytes = buffer })

-- An engine: its initiator's number, how many sequence numbers are taken, the write that is due, the
-- operations that are to come after it, and whether an operation has just ended.
pub record State : Type 0 where
  pub initiator : ℕ
  pub seq : ℕ
  pub due : Option Due
  pub remaining : List Operation
  pub ended : Bool

-- an engine that has a script before it
abbrev pub begun_engine : ℕ → List Operation → State
begun_engine initiator script = record { initiator = initiator; seq = 0; due = None; remaining = script; ended = false }

-- without byte enables and without a streaming width of its own
abbrev pub is_plain : List ℕ → Option ℕ → Bool
is_plain enables width = (length enables == 0) && is_none width

-- what an operation asks for first, under this sequence number
abbrev pub op_for : ℕ → Operation → Op
op_for s (Write a bytes enables width) = next.Access s a (length bytes) write_command (is_plain enables width) false
op_for s (Read a n enables width) = next.Access s a n read_command (is_plain enables width) false
op_for s (Ignore a) = next.Access s a 0 ignore_command false false
op_for s (Debug a n) = next.Debug s a n
op_for s (Copy from to n) = next.Access s from n read_command true true
op_for s (Add a n) = next.Access s a 4 read_command true true
op_for s (FetchAdd a n) = next.Access s a 4 fetch_add_command false true
op_for s (Wait n) = next.Wait n
op_for s Sync = next.Sync
op_for s Fence = next.Fence
op_for s (Invalidate a n) = next.Invalidate s a n

abbrev pub op_from : ℕ → List Operation → Op
op_from s [] = next.Done
op_from s (op ∷ ops) = op_for s op

abbrev pub op_at : ℕ → Option Due → List Operation → Op
op_at s None ops = op_from s ops
op_at s (Some w) ops = next.Access s w.address (length w.bytes) write_command true true

-- what is next
abbrev pub op_of : State → Op
op_of e = op_at e.seq e.due e.remaining

-- its part
abbrev pub next_of : State → Part
next_of e = part_of (op_of e)

-- a payload with this room that writes these bytes
abbrev pub writing : ℕ → ℕ → List ℕ → List ℕ → ℕ → PayloadView
writing room a bytes enables width = record (new_payload room) { command = write_command; address = a; bytes = bytes; enables = enables; width = width }

-- a payload with this room that reads n bytes
abbrev pub reading : ℕ → ℕ → ℕ → List ℕ → ℕ → PayloadView
reading room a n enables width = record (new_payload room) { command = read_command; address = a; bytes = zeros n; enables = enables; width = width }

-- a payload with this room that fetches and adds
abbrev pub fetching : ℕ → ℕ → ℕ → PayloadView
fetching room a n = record (new_payload room) { command = fetch_add_command; address = a; bytes = le_bytes n; width = 4 }

-- the payload of an operation's first access, or of its debug read; a new one where it has none
abbrev pub payload_for : ℕ → Operation → PayloadView
payload_for room (Write a bytes enables width) = writing room a bytes enables (unwrap_or width (length bytes))
payload_for room (Read a n enables width) = reading room a n enables (unwrap_or width n)
payload_for room (Ignore a) = record (new_payload room) { address = a }
payload_for room (Debug a n) = reading room a n [] n
payload_for room (Copy from to n) = reading room from n [] n
payload_for room (Add a n) = reading room a 4 [] 4
payload_for room (FetchAdd a n) = fetching room a n
payload_for room op = new_payload room

abbrev pub payload_from : ℕ → List Operation → PayloadView
payload_from room [] = new_payload room
payload_from room (op ∷ ops) = payload_for room op

abbrev pub payload_at : ℕ → Option Due → List Operation → PayloadView
payload_at room None ops = payload_from room ops
payload_at room (Some w) ops = writing room w.address w.bytes [] (length w.bytes)

-- the payload of what is next, in one that has this room
abbrev pub payload_of : State → ℕ → PayloadView
payload_of e room = payload_at room e.due e.remaining

-- what an operation writes once its first access has read these bytes
abbrev pub due_after : Operation → List ℕ → Option Due
due_after (Copy from to n) got = Some (record { address = to; bytes = got })
due_after (Add a n) got = Some (record { address = a; bytes = added got n })
due_after op got = None

-- after the reply to an operation's first access, which ends it where no write is due
abbrev pub told_first : State → List ℕ → List Operation → State
told_first e got [] = e
told_first e got (op ∷ ops) = record e { seq = e.seq + 1; due = due_after op got; remaining = ops; ended = is_none (due_after op got) }

abbrev pub told_at : State → List ℕ → Option Due → State
told_at e got None = told_first e got e.remaining
told_at e got (Some w) = record e { seq = e.seq + 1; due = None; ended = true }

-- after the reply to an access that the engine waits for: the bytes are those of its payload
abbrev pub told_by : State → List ℕ → State
told_by e got = told_at e got e.due

abbrev pub passed_over : State → List Operation → State
passed_over e [] = e
passed_over e (op ∷ ops) = record e { seq = e.seq + numbers_of op; remaining = ops; ended = true }

-- after anything else
abbrev pub passed_by : State → State
passed_by e = passed_over e e.remaining
