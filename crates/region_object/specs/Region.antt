-- A memory as its log, and what it answers a call.
use Rattle.std.specs.Prelude.{ℕ, ◌≡◌, ◌+◌, ◌-◌, Bool, true, false, not, List, [], ◌++◌, length, drop, All, Option, Some, None, is_none, if◌then◌else◌}
use Rattle.tlm_types.specs.declared.words.Command.{Command}
use Rattle.tlm_types.specs.declared.words.Command.TheVariants.{Read, Write, Ignore, FetchAdd}
use Rattle.tlm_types.specs.declared.words.MemoryTraits.{MemoryTraits}
use Rattle.tlm_types.specs.declared.words.ObjectNo.TheVariants.{Memory}
use Rattle.tlm_types.specs.declared.words.Response.{Response}
use Rattle.tlm_types.specs.declared.words.Response.TheVariants.{Ok}
use Rattle.tlm_types.specs.declared.words.Way.{Way}
use Rattle.tlm_types.specs.declared.words.Way.TheVariants.{Direct as by_grant, Debug as by_debug}
use Rattle.tlm_types.specs.declared.words.TxnId.{TxnId}
use Rattle.tlm_types.specs.declared.entry.Access.{Access as AccessFacts}
use Rattle.tlm_types.specs.declared.entry.Entry.{Entry}
use Rattle.tlm_types.specs.declared.entry.Head.{Head}
use Rattle.tlm_types.specs.declared.entry.What.{What}
use Rattle.tlm_types.specs.declared.entry.What.TheVariants.{Access as Accessed, Granted, Invalidated, Closed}
use Rattle.tlm_types.specs.Entries.{entry_at}
use Rattle.entry_log.specs.Log.{LogView, with_entry}
use Rattle.tlm_types.specs.Traits.{allowed_kind}
use Rattle.tlm_model.specs.Log.{IsLog, log_bytes}
use Rattle.tlm_model.specs.Store.{zeros, status_of, got_of}
use Rattle.generic_payload.specs.Payload.{PayloadView, access_of, moved_by}
use Rattle.region_object.specs.declared.call.RegionCall.{RegionCall}
use Rattle.region_object.specs.declared.call.Denial.{Denial}
use Rattle.region_object.specs.declared.call.RegionCall.TheVariants.{Access, Debug, Grant, Direct, Invalidate, Overlapping, Close}
use Rattle.region_object.specs.declared.call.RegionReply.{RegionReply}
use Rattle.region_object.specs.declared.call.RegionReply.TheVariants.{Accessed as AccessedReply, Moved, Granted as GrantedReply, Denied, Direct as DirectReply, Invalidated as InvalidatedReply, Overlapping as OverlappingReply, Closed as ClosedReply, AlreadyClosed}
use Rattle.region_object.specs.Call.{txn_of, time_of, debug_access}
use Rattle.region_object.specs.Gates.{GatesView, HoldsGates}
use Rattle.region_object.specs.Grants.{grants_in, is_closed, least_open, denial_by, IsGrantLog}

-- what contracts see of a memory: its number, its traits, the number of its first gate, and its log
pub record LoggedMemory : Type 0 where
  pub number : ℕ
  pub traits : MemoryTraits
  pub first_gate : ℕ
  pub log : LogView

-- an access that came this way, with the answer that a memory with this log gives
abbrev pub answered : MemoryTraits → List Entry → Way → AccessFacts → What
answered m log way a = Accessed way a (status_of m way a) (got_of way (status_of m way a) a (log_bytes m log))

-- where and when an entry of the memory happens
abbrev pub head_at : LoggedMemory → ℕ → TxnId → ℕ → Head
head_at m position txn time = record { position = position; object = Memory m.number; txn = txn; time = time }

-- why the memory gives no grant for a command, if it gives none
abbrev pub denial_of : LoggedMemory → Command → Option Denial
denial_of m c = denial_by m.traits (grants_in m.log.entries) c

-- the gate of the memory's next grant: the least that was never given
abbrev pub next_gate : LoggedMemory → ℕ
next_gate m = m.first_gate + grants_in m.log.entries

-- what the entry of a call says, if it has one
abbrev pub what_of : LoggedMemory → RegionCall → What
what_of m (Access txn time way p) = answered m.traits m.log.entries way (access_of p)
what_of m (Debug txn time p) = answered m.traits m.log.entries by_debug (debug_access p.address (length p.bytes))
what_of m (Grant txn time command) = Granted (next_gate m) 0 (m.traits.size - 1) (allowed_kind m.traits.readable m.traits.writable)
what_of m (Direct gate txn time p) = answered m.traits m.log.entries (by_grant gate) (access_of p)
what_of m (Invalidate txn time first last) = Invalidated first last
what_of m (Overlapping from first last before) = Invalidated first last
what_of m (Close txn time gate) = Closed gate

-- a call adds an entry: always, but for a grant that is denied, a question, and a second closing
abbrev pub is_admitted : LoggedMemory → RegionCall → Bool
is_admitted m (Access txn time way p) = true
is_admitted m (Debug txn time p) = true
is_admitted m (Grant txn time command) = is_none (denial_of m command)
is_admitted m (Direct gate txn time p) = true
is_admitted m (Invalidate txn time first last) = true
is_admitted m (Overlapping from first last before) = false
is_admitted m (Close txn time gate) = not (is_closed gate m.log.entries)

-- the entry that a call adds at this position
abbrev pub region_entry : LoggedMemory → ℕ → RegionCall → Entry
region_entry m position call = entry_at (head_at m position (txn_of call) (time_of call)) (what_of m call)

-- the memory with one more entry
abbrev pub with_logged : LoggedMemory → Entry → LoggedMemory
with_logged m e = record m { log = with_entry m.log e }

-- the memory after a call
abbrev pub after_call : LoggedMemory → ℕ → RegionCall → LoggedMemory
after_call m position call = if is_admitted m call then with_logged m (region_entry m position call) else m

-- the DMI hint: the memory grants direct access, and the status is OK
abbrev pub hint_of : MemoryTraits → Response → Bool
hint_of m Ok = m.dmi
hint_of m r = false

-- the data bytes of a payload after its access: a read's are those that it got, and a fetch_add's those that it found
abbrev pub buffer_after : Command → List ℕ → List ℕ → List ℕ
buffer_after Read got bytes = got
buffer_after Write got bytes = bytes
buffer_after Ignore got bytes = bytes
buffer_after FetchAdd got bytes = got

-- the payload after an access that came this way
abbrev pub accessed : LoggedMemory → Way → PayloadView → PayloadView
accessed m way p =
    let status = status_of m.traits way (access_of p) in
    let got = got_of way status (access_of p) (log_bytes m.traits m.log.entries) in
    record p { bytes = buffer_after p.command got p.bytes; status = status; hint = hint_of m.traits status }

-- what a memory answers a debug read
abbrev pub debugged : LoggedMemory → PayloadView → RegionReply
debugged m p =
    let moved = moved_by p (log_bytes m.traits m.log.entries) in
    Moved (record p { bytes = moved ++ drop (length moved) p.bytes; status = Ok }) (length moved)

-- what a memory answers a wish for a grant
abbrev pub grant_reply : LoggedMemory → Option Denial → RegionReply
grant_reply m None = GrantedReply (next_gate m) 0 (m.traits.size - 1) (allowed_kind m.traits.readable m.traits.writable)
grant_reply m (Some denial) = Denied denial

-- what a memory answers a call
abbrev pub reply_of : LoggedMemory → RegionCall → RegionReply
reply_of m (Access txn time way p) = AccessedReply (accessed m way p)
reply_of m (Debug txn time p) = debugged m p
reply_of m (Grant txn time command) = grant_reply m (denial_of m command)
reply_of m (Direct gate txn time p) = DirectReply (accessed m (by_grant gate) p)
reply_of m (Invalidate txn time first last) = InvalidatedReply
reply_of m (Overlapping from first last before) = OverlappingReply (least_open m.log.entries (m.first_gate, m.traits.gates) from first last before)
reply_of m (Close txn time gate) = if is_closed gate m.log.entries then AlreadyClosed else ClosedReply

-- the number, for looks, of an answer that gives nothing
abbrev pub look_of : RegionReply → ℕ
look_of (AccessedReply p) = 0
look_of (Moved p moved) = 0
look_of (GrantedReply gate first last kind) = 0
look_of (Denied denial) = 10
look_of (DirectReply p) = 0
look_of InvalidatedReply = 0
look_of (OverlappingReply None) = 8
look_of (OverlappingReply (Some gate)) = 0
look_of ClosedReply = 0
look_of AlreadyClosed = 9

-- what a payload tells after its access: a read sent zeros, and got its data; a fetch_add sent its operand, which the
-- payload has no more
abbrev pub sent_told : Command → List ℕ → List ℕ → List ℕ
sent_told Read operand bytes = zeros (length bytes)
sent_told Write operand bytes = bytes
sent_told Ignore operand bytes = bytes
sent_told FetchAdd operand bytes = operand

abbrev pub got_told : Command → List ℕ → List ℕ
got_told Read bytes = bytes
got_told Write bytes = []
got_told Ignore bytes = []
got_told FetchAdd bytes = bytes

abbrev pub told_by : Way → List ℕ → PayloadView → What
told_by way operand p = Accessed way (record (access_of p) { sent = sent_told p.command operand p.bytes }) p.status (got_told p.command p.bytes)

-- the bytes and gates are those of the log, the bytes as many as the memory has, and the log is lawful and of the memory's own entries
pub record IsConsistent (number : ℕ) (traits : MemoryTraits) (bytes : List ℕ) (gates : GatesView) (log : List Entry) : Type 0 where
  pub bytes_are : bytes ≡ log_bytes traits log
  pub size_is : length bytes ≡ traits.size
  pub lawful : IsLog traits log
  pub granted : IsGrantLog gates.first traits log
  pub holds : HoldsGates traits gates log
  pub own : All (λ e. e.object ≡ Memory number) log
