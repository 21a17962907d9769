-- The calls of a memory, and what each asks for.
use Rattle.std.specs.Prelude.{ℕ, ◌≡◌, ◌+◌, ◌<◌, ◌≤◌, IsTrue, List, [], length}
use Rattle.view_lists.specs.Lists.{Has}
use Rattle.tlm_types.specs.declared.words.Command.{Command}
use Rattle.tlm_types.specs.declared.words.Command.TheVariants.{Read, Write, Ignore, FetchAdd}
use Rattle.tlm_types.specs.declared.words.Kind.{Kind}
use Rattle.tlm_types.specs.declared.words.Way.{Way}
use Rattle.tlm_types.specs.declared.words.Way.TheVariants.{Blocking, FourPhase, Direct, Debug as by_debug}
use Rattle.tlm_types.specs.declared.words.TxnId.{TxnId}
use Rattle.tlm_types.specs.declared.entry.Access.{Access as AccessFacts}
use Rattle.tlm_types.specs.declared.entry.What.TheVariants.{Granted}
use Rattle.tlm_model.specs.Actions.{data_logged}
use Rattle.tlm_model.specs.Store.{zeros}
use Rattle.generic_payload.specs.Payload.{PayloadView, new_payload}
use Rattle.shared_object.specs.Written.{Written}
use Rattle.region_object.specs.declared.call.RegionCall.{RegionCall}
use Rattle.region_object.specs.declared.call.RegionCall.TheVariants.{Access, Debug, Grant, Direct as DirectCall, Invalidate, Overlapping, Close}
use Rattle.region_object.specs.declared.call.RegionReply.{RegionReply}
use Rattle.region_object.specs.declared.call.RegionReply.TheVariants.{Accessed, Moved, Granted as GrantedReply, Denied, Direct as DirectReply, Invalidated, Overlapping as OverlappingReply, Closed, AlreadyClosed}
use Rattle.region_object.specs.Grants.{allows}

-- the payload that carries a call; where none does, one as it is made
abbrev pub payload_of : RegionCall → PayloadView
payload_of (Access txn time way p) = p
payload_of (Debug txn time p) = p
payload_of (Grant txn time command) = new_payload 0
payload_of (DirectCall gate txn time p) = p
payload_of (Invalidate txn time first last) = new_payload 0
payload_of (Overlapping from first last before) = new_payload 0
payload_of (Close txn time gate) = new_payload 0

-- the payload that a memory hands back; where none comes back, one as it is made
abbrev pub returned : RegionReply → PayloadView
returned (Accessed p) = p
returned (Moved p moved) = p
returned (DirectReply p) = p
returned (GrantedReply gate first last kind) = new_payload 0
returned (Denied denial) = new_payload 0
returned Invalidated = new_payload 0
returned (OverlappingReply gate) = new_payload 0
returned Closed = new_payload 0
returned AlreadyClosed = new_payload 0

-- a reply that hands a payload back
abbrev pub HasPayload : RegionReply → Type 0
HasPayload (Accessed p) = Unit {0}
HasPayload (Moved p moved) = Unit {0}
HasPayload (DirectReply p) = Unit {0}
HasPayload reply = ⊥

abbrev pub no_txn : TxnId
no_txn = record { initiator = 0; seq = 0 }

-- the transaction of a call's entry; a call that never has an entry has none
abbrev pub txn_of : RegionCall → TxnId
txn_of (Access txn time way p) = txn
txn_of (Debug txn time p) = txn
txn_of (Grant txn time command) = txn
txn_of (DirectCall gate txn time p) = txn
txn_of (Invalidate txn time first last) = txn
txn_of (Overlapping from first last before) = no_txn
txn_of (Close txn time gate) = txn

abbrev pub time_of : RegionCall → ℕ
time_of (Access txn time way p) = time
time_of (Debug txn time p) = time
time_of (Grant txn time command) = time
time_of (DirectCall gate txn time p) = time
time_of (Invalidate txn time first last) = time
time_of (Overlapping from first last before) = 0
time_of (Close txn time gate) = time

-- a debug read asks for an address and a length alone (11.3)
abbrev pub debug_access : ℕ → ℕ → AccessFacts
debug_access offset n = record { command = Read; offset = offset; length = n; sent = []; enables = []; width = n }

-- how many bytes of the room of its log a call may take
abbrev pub payload_cost : PayloadView → ℕ
payload_cost p = data_logged p.command (length p.bytes) + length p.enables

abbrev pub cost_of : RegionCall → ℕ
cost_of call = payload_cost (payload_of call)

-- an access of a call comes by blocking transport or with four phases
abbrev pub IsTransport : Way → Type 0
IsTransport Blocking = Unit {0}
IsTransport FourPhase = Unit {0}
IsTransport (Direct g) = ⊥
IsTransport by_debug = ⊥

-- data goes through the buffer of a payload: of any access but a debug read
abbrev pub MovesData : Way → Type 0
MovesData Blocking = Unit {0}
MovesData FourPhase = Unit {0}
MovesData (Direct g) = Unit {0}
MovesData by_debug = ⊥

-- what a memory asks of a call of transport: its way, and a buffer of zeros to read into; or a debug read
abbrev pub IsFit : RegionCall → Type 0
IsFit (Access txn time way p) = IsTransport way × (p.command ≡ Read → p.bytes ≡ zeros (length p.bytes))
IsFit (Debug txn time p) = p.command ≡ Read
IsFit (Grant txn time command) = ⊥
IsFit (DirectCall gate txn time p) = ⊥
IsFit (Invalidate txn time first last) = ⊥
IsFit (Overlapping from first last before) = ⊥
IsFit (Close txn time gate) = ⊥

-- among these entries stands this grant
abbrev pub HasGrant : List Written → ℕ → ℕ → ℕ → Kind → Type 0
HasGrant known gate first last kind = (w : Written) × Has known w × (w.content.what ≡ Granted gate first last kind)

-- a grant that is answered stands among these entries
abbrev pub TellsGrant : List Written → RegionReply → Type 0
TellsGrant known (GrantedReply gate first last kind) = HasGrant known gate first last kind
TellsGrant known reply = Unit {0}

-- a payload of no enables and no streaming, with a buffer of zeros to read into, whose access lies in the range and is of the kind
pub record IsPlainIn (first last : ℕ) (kind : Kind) (p : PayloadView) : Type 0 where
  pub unmasked : p.enables ≡ []
  pub wide : 0 < p.width
  pub unstreamed : length p.bytes ≤ p.width
  pub blank : p.command ≡ Read → p.bytes ≡ zeros (length p.bytes)
  pub low : first ≤ p.address
  pub high : p.address + length p.bytes ≤ last + 1
  pub allowed : IsTrue (allows kind p.command)

-- a direct access is plain, and a grant of its gate is known that it lies in
pub record IsDirectFit (known : List Written) (gate : ℕ) (p : PayloadView) : Type 0 where
  pub first : ℕ
  pub last : ℕ
  pub kind : Kind
  pub granted : HasGrant known gate first last kind
  pub plain : IsPlainIn first last kind p

abbrev pub IsReadOrWrite : Command → Type 0
IsReadOrWrite Read = Unit {0}
IsReadOrWrite Write = Unit {0}
IsReadOrWrite Ignore = ⊥
IsReadOrWrite FetchAdd = ⊥

-- a gate that is to be closed was given
pub record IsCloseFit (known : List Written) (gate : ℕ) : Type 0 where
  pub first : ℕ
  pub last : ℕ
  pub kind : Kind
  pub granted : HasGrant known gate first last kind

-- what a memory asks of each call, by entries of it that are known
abbrev pub Fits : List Written → RegionCall → Type 0
Fits known (Access txn time way p) = IsFit (Access txn time way p)
Fits known (Debug txn time p) = IsFit (Debug txn time p)
Fits known (Grant txn time command) = IsReadOrWrite command
Fits known (DirectCall gate txn time p) = IsDirectFit known gate p
Fits known (Invalidate txn time first last) = Unit {0}
Fits known (Overlapping from first last before) = Unit {0}
Fits known (Close txn time gate) = IsCloseFit known gate
