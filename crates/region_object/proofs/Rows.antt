-- Worked answers: the definitions compute what was worked out by hand.
use Rattle.std.proofs.Common.{◌≡◌, ℕ, Bool, List, [], ◌∷◌, ◌++◌, length, true, false, Some, None, refl}
use Rattle.tlm_types.specs.declared.words.Command.{Command}
use Rattle.tlm_types.specs.declared.words.Command.TheVariants.{Read, Write, FetchAdd}
use Rattle.tlm_types.specs.declared.words.Kind.TheVariants.{Read as read_kind}
use Rattle.tlm_types.specs.declared.words.MemoryTraits.{MemoryTraits}
use Rattle.tlm_types.specs.declared.words.Response.TheVariants.{Ok, AddressError, CommandError, ByteEnableError}
use Rattle.tlm_types.specs.declared.words.TxnId.{TxnId}
use Rattle.tlm_types.specs.declared.words.Way.TheVariants.{Blocking, Debug as by_debug}
use Rattle.tlm_types.specs.declared.entry.Entry.{Entry}
use Rattle.tlm_types.specs.declared.entry.What.TheVariants.{Access as Accessed}
use Rattle.tlm_model.specs.Numbers.{le_bytes}
use Rattle.tlm_model.specs.Store.{zeros}
use Rattle.generic_payload.specs.Payload.{PayloadView, new_payload, access_of}
use Rattle.region_object.specs.declared.call.RegionCall.{RegionCall}
use Rattle.region_object.specs.declared.call.RegionCall.TheVariants.{Access, Debug, Grant, Overlapping, Close}
use Rattle.region_object.specs.declared.call.RegionReply.TheVariants.{Accessed as AccessedReply, Moved, Granted as GrantedReply, Denied, Overlapping as OverlappingReply, AlreadyClosed}
use Rattle.region_object.specs.declared.call.Denial.TheVariants.{NoDmi, NotAllowed, GatesSpent}
use Rattle.region_object.specs.Call.{debug_access}
use Rattle.region_object.specs.Region.{LoggedMemory, region_entry, reply_of}

-- a memory of 16 bytes that can be read and written, and has no byte enables
ram : MemoryTraits
ram = record { size = 16; latency = 10; readable = true; writable = true; fetch_add = true; enables = false; streaming = true; dmi = true; gates = 16 }

with_log : MemoryTraits → List Entry → LoggedMemory
with_log m log = record { number = 3; traits = m; first_gate = 0; log = record { entries = log; room = 8; room_bytes = 64; whole = true } }

txn : TxnId
txn = record { initiator = 0; seq = 0 }

aabb : List ℕ
aabb = 0xaa ∷ 0xbb ∷ []

write_of : ℕ → List ℕ → PayloadView
write_of address bytes = record (new_payload 8) { command = Write; address = address; bytes = bytes; width = length bytes }

read_of : ℕ → ℕ → PayloadView
read_of address n = record (new_payload 8) { command = Read; address = address; bytes = zeros n; width = n }

fetch_of : ℕ → ℕ → PayloadView
fetch_of address operand = record (new_payload 8) { command = FetchAdd; address = address; bytes = le_bytes operand; width = 4 }

call : PayloadView → RegionCall
unfolding txn
call p = Access txn 10 Blocking p

debug : ℕ → ℕ → RegionCall
unfolding txn read_of
debug address n = Debug txn 10 (read_of address n)

-- aa bb was written at 0xe
log : List Entry
unfolding ram with_log txn aabb write_of call
log = region_entry (with_log ram []) 0 (call (write_of 0xe aabb)) ∷ []

write_at_the_end : (region_entry (with_log ram []) 0 (call (write_of 0xe aabb))).what ≡ Accessed Blocking (access_of (write_of 0xe aabb)) Ok []
unfolding ram with_log txn aabb write_of call
write_at_the_end = refl

write_past_the_end : reply_of (with_log ram log) (call (write_of 0xf aabb)) ≡ AccessedReply (record (write_of 0xf aabb) { status = AddressError })
unfolding ram with_log txn aabb write_of call
write_past_the_end = refl

read_back : reply_of (with_log ram log) (call (read_of 0xd 3)) ≡ AccessedReply (record (read_of 0xd 3) { bytes = 0 ∷ 0xaa ∷ 0xbb ∷ []; status = Ok; hint = true })
unfolding ram with_log txn aabb write_of read_of call log
read_back = refl

enables_are_refused : reply_of (with_log ram log) (call (record (write_of 0xe aabb) { enables = 0xff ∷ [] })) ≡ AccessedReply (record (write_of 0xe aabb) { enables = 0xff ∷ []; status = ByteEnableError })
unfolding ram with_log txn aabb write_of call
enables_are_refused = refl

no_command_before_enables : reply_of (with_log (record ram { writable = false }) []) (call (record (write_of 0xe aabb) { enables = 0xff ∷ [] })) ≡ AccessedReply (record (write_of 0xe aabb) { enables = 0xff ∷ []; status = CommandError })
unfolding ram with_log txn aabb write_of call
no_command_before_enables = refl

fetch_add_answers_what_it_found : reply_of (with_log ram log) (call (fetch_of 0xc 1)) ≡ AccessedReply (record (fetch_of 0xc 1) { bytes = 0 ∷ 0 ∷ 0xaa ∷ 0xbb ∷ []; status = Ok; hint = true })
unfolding ram with_log txn aabb write_of fetch_of call log
fetch_add_answers_what_it_found = refl

fetch_add_tells_both : (region_entry (with_log ram log) 1 (call (fetch_of 0xc 1))).what ≡ Accessed Blocking (access_of (fetch_of 0xc 1)) Ok (0 ∷ 0 ∷ 0xaa ∷ 0xbb ∷ [])
unfolding ram with_log txn aabb write_of fetch_of call log
fetch_add_tells_both = refl

fetch_add_needs_a_write : reply_of (with_log (record ram { writable = false }) []) (call (fetch_of 0xc 1)) ≡ AccessedReply (record (fetch_of 0xc 1) { status = CommandError })
unfolding ram with_log txn fetch_of call
fetch_add_needs_a_write = refl

debug_across_the_end : reply_of (with_log ram log) (debug 0xf 3) ≡ Moved (record (read_of 0xf 3) { bytes = 0xbb ∷ 0 ∷ 0 ∷ []; status = Ok }) 1
unfolding ram with_log txn aabb write_of read_of call debug log
debug_across_the_end = refl

debug_entry : (region_entry (with_log ram log) 1 (debug 0xf 3)).what ≡ Accessed by_debug (debug_access 0xf 3) Ok (0xbb ∷ [])
unfolding ram with_log txn aabb write_of read_of call debug log
debug_entry = refl

-- a memory that can only be read, with one gate
rom : Bool → MemoryTraits
rom dmi = record { size = 16; latency = 10; readable = true; writable = false; fetch_add = false; enables = false; streaming = true; dmi = dmi; gates = 1 }

ask : Command → RegionCall
unfolding txn
ask c = Grant txn 10 c

-- its one gate was given
given_log : List Entry
unfolding rom with_log txn ask
given_log = region_entry (with_log (rom true) []) 0 (ask Read) ∷ []

no_dmi_comes_first : reply_of (with_log (rom false) []) (ask Write) ≡ Denied NoDmi
unfolding rom with_log txn ask
no_dmi_comes_first = refl

then_the_command : reply_of (with_log (rom true) given_log) (ask Write) ≡ Denied NotAllowed
unfolding rom with_log txn ask given_log
then_the_command = refl

the_first_gate : reply_of (with_log (rom true) []) (ask Read) ≡ GrantedReply 0 0 15 read_kind
unfolding rom with_log txn ask
the_first_gate = refl

then_the_gates : reply_of (with_log (rom true) given_log) (ask Read) ≡ Denied GatesSpent
unfolding rom with_log txn ask given_log
then_the_gates = refl

-- the grant stands at position 0
overlaps_one_byte : reply_of (with_log (rom true) given_log) (Overlapping 0 15 15 1) ≡ OverlappingReply (Some 0)
unfolding rom with_log txn ask given_log
overlaps_one_byte = refl

given_too_late : reply_of (with_log (rom true) given_log) (Overlapping 0 0 15 0) ≡ OverlappingReply None
unfolding rom with_log txn ask given_log
given_too_late = refl

past_its_end : reply_of (with_log (rom true) given_log) (Overlapping 0 16 20 1) ≡ OverlappingReply None
unfolding rom with_log txn ask given_log
past_its_end = refl

-- closed at position 1
closed_log : List Entry
unfolding rom with_log txn ask given_log
closed_log = given_log ++ region_entry (with_log (rom true) given_log) 1 (Close txn 10 0) ∷ []

closed_is_not_open : reply_of (with_log (rom true) closed_log) (Overlapping 0 0 15 2) ≡ OverlappingReply None
unfolding rom with_log txn ask given_log closed_log
closed_is_not_open = refl

closed_twice : reply_of (with_log (rom true) closed_log) (Close txn 10 0) ≡ AlreadyClosed
unfolding rom with_log txn ask given_log closed_log
closed_twice = refl
