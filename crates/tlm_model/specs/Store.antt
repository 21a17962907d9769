-- What an access does to the bytes of one memory (IEEE 1666-2011, clause 14).
use Rattle.std.specs.Prelude.{ℕ, ◌+◌, ◌%◌, min, Bool, true, not, ◌&&◌, ◌||◌, List, [], ◌∷◌, length, take, drop, replicate, slice_index, slice_set, if◌then◌else◌, nat_lt, ◌==◌}
use Rattle.tlm_types.specs.declared.words.Command.{Command}
use Rattle.tlm_types.specs.declared.words.Command.TheVariants.{Read, Write, Ignore, FetchAdd}
use Rattle.tlm_types.specs.declared.words.Response.{Response}
use Rattle.tlm_types.specs.declared.words.Response.TheVariants.{Ok, AddressError, CommandError, BurstError, ByteEnableError}
use Rattle.tlm_types.specs.declared.words.Way.{Way}
use Rattle.tlm_types.specs.declared.words.Way.TheVariants.{Blocking, FourPhase, Direct, Debug}
use Rattle.tlm_types.specs.declared.words.MemoryTraits.{MemoryTraits}
use Rattle.tlm_types.specs.declared.entry.Access.{Access}
use Rattle.tlm_types.specs.Enables.{is_lane_enabled}
use Rattle.tlm_model.specs.Numbers.{added, le_number}

-- a memory of zeros
abbrev pub zeros : ℕ → List ℕ
zeros n = replicate n 0

-- where data byte k goes: a width below the length streams (14.15)
abbrev pub place_of : Access → ℕ → ℕ
place_of a k = a.offset + k % a.width

-- data byte k is enabled: the enables repeat, and without any each byte is enabled (14.13)
abbrev pub is_enabled : Access → ℕ → Bool
is_enabled a k = is_lane_enabled a.enables k

-- how many places an access spans
abbrev pub span_of : Access → ℕ
span_of a = if a.width == 0 then a.length else min a.length a.width

-- the memory allows the command
abbrev pub is_allowed : MemoryTraits → Command → Bool
is_allowed m Read = m.readable
is_allowed m Write = m.writable
is_allowed m Ignore = true
is_allowed m FetchAdd = m.readable && (m.writable && m.fetch_add)

-- the first check that fails, of any command but ignore: the address, the command, the enables, the burst
abbrev pub checked : MemoryTraits → Access → Response
checked m a =
    if nat_lt m.size (a.offset + span_of a) then AddressError else
    (if not (is_allowed m a.command) then CommandError else
    (if nat_lt 0 (length a.enables) && not m.enables then ByteEnableError else
    (if (a.width == 0) || (nat_lt a.width a.length && not m.streaming) then BurstError else Ok)))

abbrev pub status_by : MemoryTraits → Access → Command → Response
status_by m a Ignore = Ok
status_by m a Read = checked m a
status_by m a Write = checked m a
status_by m a FetchAdd = checked m a

-- the status of an access, by the way it came (14.17; debug transport always answers, 11.3)
abbrev pub status_of : MemoryTraits → Way → Access → Response
status_of m Debug a = Ok
status_of m Blocking a = status_by m a a.command
status_of m FourPhase a = status_by m a a.command
status_of m (Direct g) a = status_by m a a.command

-- the bytes after data bytes k, k + 1, .. were put, in this order
abbrev pub put_from : Access → ℕ → List ℕ → List ℕ → List ℕ
put_from a k [] store = store
put_from a k (b ∷ bs) store = put_from a (k + 1) bs (if is_enabled a k then slice_set store (place_of a k) b else store)

-- what a read or a fetch_add takes from data byte k on: its enabled bytes come from the store
abbrev pub taken_from : Access → ℕ → List ℕ → List ℕ → List ℕ
taken_from a k [] store = []
taken_from a k (b ∷ bs) store = (if is_enabled a k then slice_index store (place_of a k) else b) ∷ taken_from a (k + 1) bs store

-- a fetch_add puts the sum of its operand and what it finds, to the places that it found it in
abbrev pub stored_by : Command → Response → Access → List ℕ → List ℕ
stored_by Write Ok a store = put_from a 0 a.sent store
stored_by Write _ a store = store
stored_by Read _ a store = store
stored_by Ignore _ a store = store
stored_by FetchAdd Ok a store = put_from a 0 (added (taken_from a 0 a.sent store) (le_number a.sent)) store
stored_by FetchAdd _ a store = store

abbrev pub got_by : Command → Response → Access → List ℕ → List ℕ
got_by Read Ok a store = taken_from a 0 a.sent store
got_by Read _ a store = a.sent
got_by Write _ a store = []
got_by Ignore _ a store = []
got_by FetchAdd Ok a store = taken_from a 0 a.sent store
got_by FetchAdd _ a store = a.sent

-- the bytes after an access with this status
abbrev pub store_after : Way → Response → Access → List ℕ → List ℕ
store_after Debug r a store = store
store_after Blocking r a store = stored_by a.command r a store
store_after FourPhase r a store = stored_by a.command r a store
store_after (Direct g) r a store = stored_by a.command r a store

-- what an access with this status answers beside it: a read's buffer, what a fetch_add found, or what a debug read moves
abbrev pub got_of : Way → Response → Access → List ℕ → List ℕ
got_of Debug r a store = take a.length (drop a.offset store)
got_of Blocking r a store = got_by a.command r a store
got_of FourPhase r a store = got_by a.command r a store
got_of (Direct g) r a store = got_by a.command r a store
