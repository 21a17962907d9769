-- Laws of what calls add: where a call was made, an entry of its object was added past all that the note had seen, and the note that comes back knows
-- it.
use Rattle.std.specs.Prelude.{ℕ, ◌≡◌, true, List, Option, Some}
use Rattle.atomic_table.specs.Seated.{TableId}
use Rattle.one_history.specs.declared.entry.Entry.{Entry}
use Rattle.one_history.specs.declared.view.Frame.{Frame}
use Rattle.one_history.specs.declared.view.View.{View}
use Rattle.one_history.specs.Lists.{StandBelow}
use Rattle.tlm_types.specs.declared.entry.Content.{Content}
use Rattle.tlm_types.specs.declared.words.TxnId.{TxnId}
use Rattle.tlm_model.specs.Plan.{Plan}
use Rattle.shared_object.specs.Steps.{Enters}
use Rattle.shared_object.specs.Written.{Written}
use Rattle.generic_payload.specs.Payload.{PayloadView}
use Rattle.region_object.specs.declared.call.RegionCall.{RegionCall}
use Rattle.region_object.specs.declared.call.RegionCall.TheVariants.{Access, Debug}
use Rattle.region_object.specs.declared.call.RegionReply.{RegionReply}
use Rattle.region_object.specs.Call.{txn_of}
use Rattle.hop_object.specs.declared.call.Begun.{Begun as BeginAnswer}
use Rattle.hop_object.specs.declared.call.Begun.TheVariants.{Left, Now}
use Rattle.hop_object.specs.declared.call.HopCall.{HopCall}
use Rattle.hop_object.specs.declared.call.HopCall.TheVariants.{BeginReq}
use Rattle.hop_object.specs.declared.call.HopReply.{HopReply}
use Rattle.hop_object.specs.declared.call.HopReply.TheVariants.{Begun, EndedReq, EndedResp, Responded}
use Rattle.hop_object.specs.declared.call.Responded.TheVariants.{Sent}
use Rattle.payload_pool.specs.declared.baton.Baton.{Baton}
use Rattle.payload_pool.specs.declared.call.PoolCall.{PoolCall}
use Rattle.payload_pool.specs.declared.call.PoolCall.TheVariants.{Take}
use Rattle.payload_pool.specs.declared.call.PoolReply.{PoolReply}
use Rattle.payload_pool.specs.declared.call.PoolReply.TheVariants.{Acquired, Released, Took}
use Rattle.cargo_model.specs.declared.cargo.Cargo.{Cargo}
use Rattle.cargo_net.specs.declared.forwards.Forwarded.{Forwarded}
use Rattle.cargo_net.specs.declared.forwards.Forwarded.TheVariants as forwarded
use Rattle.cargo_net.specs.Forwards.{HasForwarded}
use Rattle.cargo_net.specs.Hops.{HasAnswered}
use Rattle.cargo_net.specs.Memories.{HasServedCall}
use Rattle.cargo_net.specs.Pools.{HasPooled}
use Rattle.plat_net.specs.Calls.{IsCalled}
use Rattle.node_hops.specs.Steps.{AddsAt, AddsOf, HasNew}

-- a call that is admitted adds an entry with its content
abbrev pub EntersAdd : Type 0
EntersAdd = (frame : Frame Plan) (number : ℕ) (before after : List Written) (content : Content) (note back : View Content Plan) (position : Option ℕ) → Enters frame number before after true content note back position → AddsOf number content.txn note back

-- by this reply a hop has made an entry: it isn't Busy, and neither that to a fetch nor to a look
abbrev pub IsMadeOnHop : HopReply Cargo → Type 0
IsMadeOnHop (Begun (Left answer time)) = Unit {0}
IsMadeOnHop (Begun (Now answer time leg item)) = Unit {0}
IsMadeOnHop (EndedReq leg time) = Unit {0}
IsMadeOnHop (Responded (Sent answer time)) = Unit {0}
IsMadeOnHop (EndedResp time) = Unit {0}
IsMadeOnHop reply = ⊥

abbrev pub HopsAdd : Type 0
HopsAdd = (frame : Frame Plan) (tokens : TableId) (number own : ℕ) (note back : View Content Plan) (call : HopCall Cargo) (reply : HopReply Cargo) → HasAnswered frame tokens number own note back call reply → IsMadeOnHop reply → AddsAt number note back

-- BEGIN_REQ names the transaction
abbrev pub BeginsAdd : Type 0
BeginsAdd = (frame : Frame Plan) (tokens : TableId) (number own : ℕ) (note back : View Content Plan) (x : TxnId) (at : ℕ) (item : Cargo) (answer : BeginAnswer Cargo) → HasAnswered frame tokens number own note back (BeginReq x at item) (Begun answer) → IsMadeOnHop (Begun answer) → AddsOf number x note back

-- the same where the access at the memory is made with it
abbrev pub IsForwardMade : Forwarded → Type 0
IsForwardMade (forwarded.Left answer time note) = Unit {0}
IsForwardMade (forwarded.Now answer time due leg cargo note) = Unit {0}
IsForwardMade (forwarded.Busy holder live cargo note) = ⊥

abbrev pub ForwardsAdd : Type 0
ForwardsAdd = (frame : Frame Plan) (tokens : TableId) (number own : ℕ) (c : Cargo) (at : ℕ) (note back : View Content Plan) (answer : Forwarded) → HasForwarded frame tokens number own c at note back answer → IsForwardMade answer → AddsOf number c.baton.txn note back

-- by this reply a pool has made an entry: it isn't full, and not that to a look
abbrev pub IsMadeInPool : PoolReply → Type 0
IsMadeInPool (Took (Some baton)) = Unit {0}
IsMadeInPool (Acquired baton hold) = Unit {0}
IsMadeInPool (Released freed) = Unit {0}
IsMadeInPool reply = ⊥

abbrev pub PoolsAdd : Type 0
PoolsAdd = (frame : Frame Plan) (tokens : TableId) (number own : ℕ) (note back : View Content Plan) (call : PoolCall) (reply : PoolReply) → HasPooled frame tokens number own note back call reply → IsMadeInPool reply → AddsAt number note back

-- a Take names the transaction
abbrev pub TakesAdd : Type 0
TakesAdd = (frame : Frame Plan) (tokens : TableId) (number own : ℕ) (note back : View Content Plan) (x : TxnId) (at : ℕ) (baton : Baton) → HasPooled frame tokens number own note back (Take x at) (Took (Some baton)) → AddsOf number x note back

-- the access of a request adds an entry of the memory, of the call's transaction
abbrev pub ServesAdd : Type 0
ServesAdd = (frame : Frame Plan) (tokens : TableId) (number own : ℕ) (note back : View Content Plan) (call : RegionCall) (reply : RegionReply) → HasServedCall frame tokens number own note back call reply → AddsOf number (txn_of call) note back

-- so does a call of blocking transport, and a debug read
abbrev pub IsOfTransport : RegionCall → Type 0
IsOfTransport (Access txn time way payload) = Unit {0}
IsOfTransport (Debug txn time payload) = Unit {0}
IsOfTransport call = ⊥

abbrev pub CallsAdd : Type 0
CallsAdd = (p : Plan) (m : ℕ) (call : RegionCall) (note back : View Content Plan) (payload : PayloadView) → IsCalled p m call note back payload → IsOfTransport call → AddsOf m (txn_of call) note back

-- what was added is new to a note that has seen past all that it knows
pub record IsNewOf (number : ℕ) (x : TxnId) (e : Entry Content) : Type 0 where
  pub object : e.object ≡ number
  pub txn : e.content.txn ≡ x

abbrev pub AddedIsNew : Type 0
AddedIsNew = (number : ℕ) (note back : View Content Plan) → StandBelow note.known note.seen → AddsAt number note back → HasNew (λ (e : Entry Content). e.object ≡ number) note.known back.known

abbrev pub AddedOfIsNew : Type 0
AddedOfIsNew = (number : ℕ) (x : TxnId) (note back : View Content Plan) → StandBelow note.known note.seen → AddsOf number x note back → HasNew (IsNewOf number x) note.known back.known
