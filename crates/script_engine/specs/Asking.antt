-- What an engine is still to ask for, and what of that comes next.
use Rattle.std.specs.Prelude.{◌≡◌, ℕ, ◌+◌, ◌||◌, ◌==◌, Bool, true, false, List, [], ◌∷◌, length, Option, Some, None, nat_le, if◌then◌else◌}
use Rattle.tlm_types.specs.declared.words.Command.{Command}
use Rattle.tlm_types.specs.declared.words.Command.TheVariants.{Read, Write, Ignore, FetchAdd}
use Rattle.tlm_types.specs.declared.entry.Access.{Access}
use Rattle.tlm_types.specs.declared.entry.Entry.{Entry}
use Rattle.tlm_model.specs.declared.operation.Operation.{Operation}
use Rattle.tlm_model.specs.declared.platform.Platform.{Platform}
use Rattle.tlm_model.specs.Plan.{Initiator}
use Rattle.tlm_model.specs.Requests.{Asked, Transport, DebugRead, Invalidation, Request, write_of, debug_of, buffer_of, requests_from, end_from, numbers_in}
use Rattle.tlm_model.specs.Rounds.{next_point, syncs_from}
use Rattle.tlm_model.specs.Route.{later, latency_of}
use Rattle.generic_payload.specs.Payload.{PayloadView, access_of}
use Rattle.script_engine.specs.declared.op.Op.{Op}
use Rattle.script_engine.specs.declared.part.Part.{Part}
use Rattle.script_engine.specs.declared.part.Part.TheVariants.{Asks, Pauses, Invalidates, Ends}
use Rattle.script_engine.specs.declared.part.Pause.{Pause}
use Rattle.script_engine.specs.declared.part.Pause.TheVariants as pause
use Rattle.script_engine.specs.declared.part.Transfer.{Transfer}
use Rattle.script_engine.specs.declared.part.TransferKind.{TransferKind}
use Rattle.script_engine.specs.declared.part.TransferKind.TheVariants as transfer
use Rattle.script_engine.specs.Part.{is_sync_part, part_of}
use Rattle.script_engine.specs.State.{Due, State}

-- the access of a payload, before an address leads it anywhere
abbrev pub asked_access : PayloadView → Access
asked_access payload = record (access_of payload) { offset = 0 }

-- the stage of an access, and the stage after it: a fenced one waits before it, and an operation with fenced
-- accesses waits after its last one, which is no read
abbrev pub stage_of : Bool → ℕ → ℕ
stage_of false g = g
stage_of true g = g + 1

abbrev pub access_stage_after : Bool → Command → ℕ → ℕ
access_stage_after false command g = g
access_stage_after true Read g = g + 1
access_stage_after true Write g = g + 2
access_stage_after true Ignore g = g + 2
access_stage_after true FetchAdd g = g + 2

abbrev pub stage_for : TransferKind → ℕ → ℕ
stage_for (transfer.Access command plain fenced) g = stage_of fenced g
stage_for transfer.DebugRead g = g + 1

abbrev pub stage_past : TransferKind → ℕ → ℕ
stage_past (transfer.Access command plain fenced) g = access_stage_after fenced command g
stage_past transfer.DebugRead g = g + 2

abbrev pub stage_by : Part → ℕ → ℕ
stage_by (Asks x) g = stage_past x.kind g
stage_by (Pauses pause) g = g + 1
stage_by (Invalidates s a n) g = g + 2
stage_by Ends g = g

abbrev pub stage_after : Op → ℕ → ℕ
stage_after op g = stage_by (part_of op) g

-- an access takes the latency of its walk, and a debug read no time
abbrev pub arrival : TransferKind → ℕ → ℕ → ℕ
arrival (transfer.Access command plain fenced) t latency = later t latency
arrival transfer.DebugRead t latency = t

abbrev pub time_past_pause : Pause → ℕ → ℕ
time_past_pause (pause.Wait n) t = later t n
time_past_pause pause.Sync t = t
time_past_pause pause.Fence t = t

abbrev pub time_by_part : Platform → Initiator → ℕ → Part → ℕ
time_by_part p i t (Asks x) = arrival x.kind t (latency_of p i x.address)
time_by_part p i t (Pauses pause) = time_past_pause pause t
time_by_part p i t (Invalidates s a n) = t
time_by_part p i t Ends = t

-- the current time of a blocking or direct initiator after what is next
abbrev pub time_after_op : Platform → Initiator → ℕ → Op → ℕ
time_after_op p i t op = time_by_part p i t (part_of op)

abbrev pub asked_for : TransferKind → ℕ → PayloadView → Asked
asked_for (transfer.Access command plain fenced) n payload = Transport (asked_access payload)
asked_for transfer.DebugRead n payload = DebugRead (debug_of n)

-- the request of an access or a debug read, with its payload, at this time and stage
abbrev pub request_for : Transfer → PayloadView → ℕ → ℕ → Request
request_for x payload t g = record { seq = x.seq; address = x.address; asked = asked_for x.kind x.length payload; time = t; stage = stage_for x.kind g }

abbrev pub asked_by_part : Part → PayloadView → ℕ → ℕ → List Request
asked_by_part (Asks x) payload t g = request_for x payload t g ∷ []
asked_by_part (Pauses pause) payload t g = []
asked_by_part (Invalidates s a n) payload t g =
    record { seq = s; address = a; asked = Invalidation n; time = t; stage = g + 1 } ∷ []
asked_by_part Ends payload t g = []

-- the request of what is next, with its payload, at this time and stage; a wait, a sync or a fence has none
abbrev pub asked_by : Op → PayloadView → ℕ → ℕ → List Request
asked_by op payload t g = asked_by_part (part_of op) payload t g

abbrev pub due_request : ℕ → Due → ℕ → ℕ → Request
due_request s w t g = record { seq = s; address = w.address; asked = Transport (write_of w.bytes [] (length w.bytes)); time = t; stage = g + 1 }

abbrev pub requests_after : Platform → Initiator → List Entry → ℕ → ℕ → ℕ → Option Due → List Operation → List Request
requests_after p i h s t g None ops = requests_from p i h s t g ops
requests_after p i h s t g (Some w) ops =
    due_request s w t g ∷ requests_from p i h (s + 1) (later t (latency_of p i w.address)) (g + 2) ops

-- what an engine is still to ask for, at this time and stage, where a history answers
abbrev pub requests_at : Platform → Initiator → List Entry → ℕ → ℕ → State → List Request
requests_at p i h t g e = requests_after p i h e.seq t g e.due e.remaining

-- a read that the engine waits for is answered by the history with these bytes
pub record IsReadBack (p : Platform) (i : Initiator) (h : List Entry) (s a n : ℕ) (got : List ℕ) : Type 0 where
  pub answered : buffer_of p i h s a n ≡ Some got
  pub whole : length got ≡ n

abbrev pub IsAnsweredAccess : Platform → Initiator → List Entry → ℕ → ℕ → ℕ → Command → List ℕ → Type 0
IsAnsweredAccess p i h s a n Read got = IsReadBack p i h s a n got
IsAnsweredAccess p i h s a n Write got = Unit {0}
IsAnsweredAccess p i h s a n Ignore got = Unit {0}
IsAnsweredAccess p i h s a n FetchAdd got = Unit {0}

abbrev pub IsAnsweredKind : Platform → Initiator → List Entry → ℕ → ℕ → ℕ → TransferKind → List ℕ → Type 0
IsAnsweredKind p i h s a n (transfer.Access command plain fenced) got = IsAnsweredAccess p i h s a n command got
IsAnsweredKind p i h s a n transfer.DebugRead got = Unit {0}

abbrev pub IsAnsweredPart : Platform → Initiator → List Entry → Part → List ℕ → Type 0
IsAnsweredPart p i h (Asks x) got = IsAnsweredKind p i h x.seq x.address x.length x.kind got
IsAnsweredPart p i h part got = Unit {0}

-- a history answers what is next with these bytes: of a read they are its whole buffer
abbrev pub IsAnswered : Platform → Initiator → List Entry → Op → List ℕ → Type 0
IsAnswered p i h op got = IsAnsweredPart p i h (part_of op) got

abbrev pub end_after : Platform → Initiator → ℕ → Option Due → List Operation → ℕ
end_after p i t None ops = end_from p i t ops
end_after p i t (Some w) ops = end_from p i (later t (latency_of p i w.address)) ops

-- the end time of a blocking or direct initiator, from this time on
abbrev pub end_at : Platform → Initiator → ℕ → State → ℕ
end_at p i t e = end_after p i t e.due e.remaining

abbrev pub numbers_due : Option Due → ℕ
numbers_due None = 0
numbers_due (Some w) = 1

-- the sequence numbers that are taken once the script has ended
abbrev pub numbers_at : State → ℕ
numbers_at e = e.seq + (numbers_due e.due + numbers_in e.remaining)

abbrev pub is_sync_op : Op → Bool
is_sync_op op = is_sync_part (part_of op)

-- a sync stands after what is next, where that ends an operation: now is the time of the last sync, and t the time after it
abbrev pub syncs_after_op : ℕ → ℕ → ℕ → Op → Bool
syncs_after_op quantum now t op = is_sync_op op || ((quantum == 0) || nat_le (next_point quantum now) t)

-- the syncs from the end of an operation that is no sync, where now is the time of the last sync and t the current time
abbrev pub syncs_once : Platform → Initiator → ℕ → ℕ → List Operation → ℕ
syncs_once p i now t ops = if (p.quantum == 0) || nat_le (next_point p.quantum now) t then syncs_from p i t t ops + 1 else syncs_from p i now t ops

abbrev pub syncs_behind : Platform → Initiator → ℕ → ℕ → Option Due → List Operation → ℕ
syncs_behind p i now t None ops = syncs_from p i now t ops
syncs_behind p i now t (Some w) ops = syncs_once p i now (later t (latency_of p i w.address)) ops

-- the syncs that an engine is still to make
abbrev pub syncs_at : Platform → Initiator → ℕ → ℕ → State → ℕ
syncs_at p i now t e = syncs_behind p i now t e.due e.remaining

-- the same once what is next has been done: where that ends an operation, a sync may stand
abbrev pub syncs_then : Platform → Initiator → ℕ → ℕ → Op → State → ℕ
syncs_then p i now t op e =
    if e.ended then (if syncs_after_op p.quantum now t op then syncs_at p i t t e + 1 else syncs_at p i now t e)
    else syncs_at p i now t e
