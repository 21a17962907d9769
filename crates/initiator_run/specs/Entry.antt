-- The entry that answers a request.
use Rattle.std.specs.Prelude.{ℕ, List}
use Rattle.tlm_types.specs.declared.entry.Access.{Access}
use Rattle.tlm_types.specs.declared.entry.Entry.{Entry}
use Rattle.tlm_types.specs.declared.entry.What.{What}
use Rattle.tlm_types.specs.declared.entry.What.TheVariants.{Access as Accessed}
use Rattle.tlm_types.specs.declared.words.Command.{Command}
use Rattle.tlm_types.specs.declared.words.Command.TheVariants.{Read, Write, Ignore, FetchAdd}
use Rattle.tlm_types.specs.declared.words.MemoryTraits.{MemoryTraits}
use Rattle.tlm_types.specs.declared.words.ObjectNo.TheVariants.{Memory as memory_object}
use Rattle.tlm_types.specs.declared.words.Way.{Way}
use Rattle.tlm_types.specs.declared.words.Way.TheVariants.{Blocking, Debug}
use Rattle.tlm_model.specs.declared.platform.Platform.{Platform}
use Rattle.tlm_model.specs.Plan.{Initiator}
use Rattle.tlm_model.specs.Requests.{Asked, Transport, DebugRead, Invalidation, Request, ignore_of}
use Rattle.tlm_model.specs.Route.{Route}
use Rattle.tlm_model.specs.Store.{status_of, got_of}
use Rattle.tlm_model.specs.Times.{access_time}

-- an access or a debug read
abbrev pub IsAccess : Asked → Type 0
IsAccess (Transport a) = Unit {0}
IsAccess (DebugRead a) = Unit {0}
IsAccess (Invalidation n) = ⊥

-- the way by which a blocking initiator's access comes
abbrev pub way_of : Asked → Way
way_of (Transport a) = Blocking
way_of (DebugRead a) = Debug
way_of (Invalidation n) = Debug

abbrev pub access_in : Asked → Access
access_in (Transport a) = a
access_in (DebugRead a) = a
access_in (Invalidation n) = ignore_of

-- the access as it reaches a memory
abbrev pub access_at : Route → Asked → Access
access_at route asked = record (access_in asked) { offset = route.offset }

-- what a memory with these traits and bytes makes of an access that comes by this way
abbrev pub answered_by : MemoryTraits → List ℕ → Way → Access → What
answered_by m bytes way access = Accessed way access (status_of m way access) (got_of way (status_of m way access) access bytes)

-- the entry of a blocking initiator's request at the memory that its address leads to, which has these traits
-- and bytes
abbrev pub request_entry : Platform → Initiator → Request → Route → MemoryTraits → List ℕ → ℕ → Entry
request_entry p i r route m bytes position = record {
  position = position;
  object = memory_object route.memory;
  txn = record { initiator = i.number; seq = r.seq };
  time = access_time p i r (way_of r.asked);
  what = answered_by m bytes (way_of r.asked) (access_at route r.asked);
}

-- what a memory with these traits and bytes answers to a request, beside its status
abbrev pub got_for : MemoryTraits → List ℕ → Asked → Route → List ℕ
got_for m bytes asked route = got_of (way_of asked) (status_of m (way_of asked) (access_at route asked)) (access_at route asked) bytes

-- the bytes of a payload that comes back: a read's buffer, what a fetch_add found, else those that it sent
abbrev pub back : Command → List ℕ → List ℕ → List ℕ
back Read sent got = got
back Write sent got = sent
back Ignore sent got = sent
back FetchAdd sent got = got
