-- What a payload tells after its access is what the memory answered.
use Rattle.std.proofs.Common.{◌≡◌, ℕ, ◌≤◌, Bool, true, false, List, ◌++◌, length, take, drop, refl, sym, ap, ◌∙◌, arith, length-append, length-drop}
use Rattle.std.proofs.lemmas.List.{take_at, length-take}
use denote.Enum.Bare.{sameb}
use Rattle.tlm_types.specs.contracts.words.Response.{the_type}
use Rattle.tlm_types.specs.declared.words.Command.{Command}
use Rattle.tlm_types.specs.declared.words.Command.TheVariants.{Read, Write, Ignore, FetchAdd}
use Rattle.tlm_types.specs.declared.words.MemoryTraits.{MemoryTraits}
use Rattle.tlm_types.specs.declared.words.Response.{Response}
use Rattle.tlm_types.specs.declared.words.Response.TheVariants.{Ok, Incomplete, GenericError, AddressError, CommandError, BurstError, ByteEnableError}
use Rattle.tlm_types.specs.declared.words.Way.{Way}
use Rattle.tlm_types.specs.declared.words.Way.TheVariants.{Blocking, FourPhase, Direct, Debug}
use Rattle.tlm_types.specs.declared.entry.Access.{Access}
use Rattle.tlm_types.specs.declared.entry.Entry.{Entry}
use Rattle.tlm_model.specs.Log.{log_bytes}
use Rattle.tlm_model.specs.Store.{zeros, status_of, status_by, store_after, stored_by, got_of, got_by}
use Rattle.generic_payload.specs.Payload.{PayloadView, access_of, moved_by}
use Rattle.generic_payload.proofs.Moves.{length-taken_from}
use Rattle.region_object.specs.Call.{IsTransport, MovesData}
use Rattle.region_object.specs.Region.{LoggedMemory, accessed, answered, buffer_after, hint_of, got_told, sent_told, told_by}

-- an access by transport moves data
pub transport_moves : (way : Way) → IsTransport way → MovesData way
transport_moves Blocking is = tt
transport_moves FourPhase is = tt
transport_moves (Direct g) is = absurd is
transport_moves Debug is = absurd is

-- an access that moves data is answered by its command
pub status_of-transport : (way : Way) (m : MemoryTraits) (a : Access) → MovesData way → status_of m way a ≡ status_by m a a.command
status_of-transport Blocking m a is = refl
status_of-transport FourPhase m a is = refl
status_of-transport (Direct g) m a is = refl
status_of-transport Debug m a is = absurd is

pub store_after-transport : (way : Way) (r : Response) (a : Access) (store : List ℕ) → MovesData way → store_after way r a store ≡ stored_by a.command r a store
store_after-transport Blocking r a store is = refl
store_after-transport FourPhase r a store is = refl
store_after-transport (Direct g) r a store is = refl
store_after-transport Debug r a store is = absurd is

pub got_of-transport : (way : Way) (r : Response) (a : Access) (store : List ℕ) → MovesData way → got_of way r a store ≡ got_by a.command r a store
got_of-transport Blocking r a store is = refl
got_of-transport FourPhase r a store is = refl
got_of-transport (Direct g) r a store is = refl
got_of-transport Debug r a store is = absurd is

-- a read's buffer stays as long as it is
pub length-got_by : (r : Response) (a : Access) (store : List ℕ) → length (got_by Read r a store) ≡ length a.sent
length-got_by Ok a store = length-taken_from a 0 a.sent store
length-got_by Incomplete a store = refl
length-got_by GenericError a store = refl
length-got_by AddressError a store = refl
length-got_by CommandError a store = refl
length-got_by BurstError a store = refl
length-got_by ByteEnableError a store = refl

-- what a fetch_add found is as long as its operand
pub length-found : (r : Response) (a : Access) (store : List ℕ) → length (got_by FetchAdd r a store) ≡ length a.sent
length-found Ok a store = length-taken_from a 0 a.sent store
length-found Incomplete a store = refl
length-found GenericError a store = refl
length-found AddressError a store = refl
length-found CommandError a store = refl
length-found BurstError a store = refl
length-found ByteEnableError a store = refl

-- what is told of the data that an access left: what it sent, what it got, and how long it is
pub record IsTold (c : Command) (operand sent got left : List ℕ) : Type 0 where
  pub sends : sent_told c operand left ≡ sent
  pub gets : got_told c left ≡ got
  pub size : length left ≡ length sent

pub buffer-told : (c : Command) (r : Response) (a : Access) (store operand : List ℕ) → (c ≡ Read → a.sent ≡ zeros (length a.sent)) → (c ≡ FetchAdd → operand ≡ a.sent) → IsTold c operand a.sent (got_by c r a store) (buffer_after c (got_by c r a store) a.sent)
buffer-told Read r a store operand blank word =
    let size = length-got_by r a store in
    record { sends = ap zeros size ∙ sym (blank refl); gets = refl; size = size }
buffer-told Write r a store operand blank word = record { sends = refl; gets = refl; size = refl }
buffer-told Ignore r a store operand blank word = record { sends = refl; gets = refl; size = refl }
buffer-told FetchAdd r a store operand blank word = record { sends = word refl; gets = refl; size = length-found r a store }

-- the payload after an access that these bytes gave this status
abbrev pub payload_after : PayloadView → Response → Bool → List ℕ → PayloadView
payload_after p r hint store = record p { bytes = buffer_after p.command (got_by p.command r (access_of p) store) p.bytes; status = r; hint = hint }

pub told_by-access : (m : MemoryTraits) (log : List Entry) (store operand : List ℕ) (way : Way) (p : PayloadView) (hint : Bool) → store ≡ log_bytes m log → MovesData way → (p.command ≡ Read → p.bytes ≡ zeros (length p.bytes)) → (p.command ≡ FetchAdd → operand ≡ p.bytes) → told_by way operand (payload_after p (status_by m (access_of p) p.command) hint store) ≡ answered m log way (access_of p)
told_by-access m log store operand way p hint bytes transport blank word =
    let a = access_of p in
    let r = status_by m a p.command in
    let told = buffer-told p.command r a store operand blank word in
    rw (told.sends, told.gets, told.size, status_of-transport way m a transport, got_of-transport way r a (log_bytes m log) transport, ← bytes) refl

-- the hint of a memory that grants direct access, and of one that doesn't
pub hint_there : (m : MemoryTraits) (r : Response) → m.dmi ≡ true → sameb the_type r Ok ≡ hint_of m r
hint_there m Ok e = sym e
hint_there m Incomplete e = refl
hint_there m GenericError e = refl
hint_there m AddressError e = refl
hint_there m CommandError e = refl
hint_there m BurstError e = refl
hint_there m ByteEnableError e = refl

pub hint_not : (m : MemoryTraits) (r : Response) → m.dmi ≡ false → false ≡ hint_of m r
hint_not m Ok e = sym e
hint_not m Incomplete e = refl
hint_not m GenericError e = refl
hint_not m AddressError e = refl
hint_not m CommandError e = refl
hint_not m BurstError e = refl
hint_not m ByteEnableError e = refl

-- the payload after an access, by what its memory has
pub accessed-access : (m : LoggedMemory) (store : List ℕ) (way : Way) (p : PayloadView) (hint : Bool) → store ≡ log_bytes m.traits m.log.entries → MovesData way → hint ≡ hint_of m.traits (status_by m.traits (access_of p) p.command) → payload_after p (status_by m.traits (access_of p) p.command) hint store ≡ accessed m way p
accessed-access m store way p hint bytes transport is =
    let a = access_of p in
    rw (status_of-transport way m.traits a transport, got_of-transport way (status_by m.traits a p.command) a (log_bytes m.traits m.log.entries) transport, ← bytes, ← is) refl

-- the data after a debug read begins with what was moved, and stays as long as it is
pub take-debugged : (p : PayloadView) (store : List ℕ) → take (length (moved_by p store)) (moved_by p store ++ drop (length (moved_by p store)) p.bytes) ≡ moved_by p store
take-debugged p store = take_at (moved_by p store) (drop (length (moved_by p store)) p.bytes) (length (moved_by p store)) refl

pub length-debugged : (p : PayloadView) (store : List ℕ) → length (moved_by p store ++ drop (length (moved_by p store)) p.bytes) ≡ length p.bytes
length-debugged p store =
    let short : length (moved_by p store) ≤ length p.bytes = omega (arith, length-take (length p.bytes) (drop p.address store)) in
    omega (arith, length-append (moved_by p store) (drop (length (moved_by p store)) p.bytes), length-drop (length (moved_by p store)) p.bytes)
