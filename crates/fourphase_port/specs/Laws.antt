-- What a port has for the access that is next.
use Rattle.std.specs.Prelude.{◌≡◌, ◌+◌, ◌<◌, ◌≤◌, false, Some, None}
use Rattle.atomic_table.specs.Seated.{TableId}
use Rattle.view_lists.specs.Lists.{Within}
use Rattle.one_history.specs.Held.{Held}
use Rattle.one_history.specs.Lists.{StandBelow}
use Rattle.one_history.specs.declared.view.Frame.{Frame}
use Rattle.tlm_types.specs.declared.entry.Content.{Content}
use Rattle.payload_pool.specs.declared.baton.Baton.{Baton}
use Rattle.cargo_net.specs.Pools.{HasTaken}
use Rattle.joined_traffic.specs.Accesses.{txn_of}
use Rattle.plat_net.specs.PoolCalls.{CanStart}
use Rattle.tlm_types.specs.declared.words.ObjectNo.{ObjectNo}
use Rattle.tlm_model.specs.Plan.{Plan}
use Rattle.token_book.specs.Purse.{Purse, bytes_of, left_of}
use Rattle.flow_model.specs.Platform.{passage_of}
use Rattle.route_plan.specs.declared.step.Route.{Route}
use Rattle.plat_net.specs.Calls.{route_at}
use Rattle.region_object.specs.Call.{payload_cost}
use Rattle.cargo_model.specs.Tickets.{Pulls}
use Rattle.port_model.specs.Stages.{price}
use Rattle.script_engine.specs.declared.part.Part.TheVariants.{Asks}
use Rattle.script_engine.specs.declared.part.Transfer.{Transfer}
use Rattle.script_engine.specs.declared.part.TransferKind.TheVariants as kinds
use Rattle.script_engine.specs.State.{next_of, payload_of}
use Rattle.port_moves.specs.Loaded.{IsAccessOf}
use Rattle.port_moves.specs.Reach.{own_pool}
use Rattle.port_moves.specs.State.{IsPort, PortView, left_at}
use Rattle.port_moves.specs.Stocks.{HasPaid, IsStocked, MayStock}

-- A port that waits for nothing has all tickets and bytes of the access that is next: once the ticket of its Take was pulled, the others may move into
-- the wallet of its payload.
abbrev pub NextMayBeStocked : Type 0
NextMayBeStocked = (table tokens : TableId) (frame : Frame Plan) (v : PortView) → IsPort table tokens frame v → v.port.waiting ≡ false → (x : Transfer) → next_of v.port.engine ≡ Asks x → IsAccessOf x.kind
    → (w : Purse) → Pulls tokens (own_pool frame.world v.port.engine.initiator) 0 v.wallet w → MayStock frame.world v.port.engine.initiator x.address (payload_cost (payload_of v.port.engine 4096)) w

-- With those tickets the port has paid the price of the access, object by object.
abbrev pub NextIsPaid : Type 0
NextIsPaid = (table tokens : TableId) (frame : Frame Plan) (v : PortView) → (p : IsPort table tokens frame v) → v.port.waiting ≡ false → (x : Transfer) → next_of v.port.engine ≡ Asks x → IsAccessOf x.kind
    → (w : Purse) → Pulls tokens (own_pool frame.world v.port.engine.initiator) 0 v.wallet w
    → (u : Purse) → HasPaid tokens frame.world v.port.engine.initiator x.address (payload_cost (payload_of v.port.engine 4096)) w u
    → (o : ObjectNo) → left_at frame.world u o + price frame.world p.initiator o v.port.engine.seq ≡ left_at frame.world v.wallet o

-- Once its payload was taken, filled and stocked, the access may start, by all that is known then.
abbrev pub NextMayStart : Type 0
NextMayStart = (table tokens : TableId) (frame : Frame Plan) (v : PortView) → IsPort table tokens frame v → v.port.waiting ≡ false → (x : Transfer) → next_of v.port.engine ≡ Asks x → IsAccessOf x.kind
    → (w : Purse) → Pulls tokens (own_pool frame.world v.port.engine.initiator) 0 v.wallet w
    → (back : Held Content Plan) → Within v.note.knows.known back.knows.known → StandBelow back.knows.known back.knows.seen → (b0 b : Baton) (z : Purse)
    → HasTaken frame tokens (txn_of v.port.engine.initiator v.port.engine.seq) v.port.time v.note.knows.seen b0 back.knows.known → b ≡ record b0 { payload = payload_of v.port.engine 4096; wallet = z }
    → IsStocked tokens frame.world v.port.engine.initiator x.address (payload_cost (payload_of v.port.engine 4096)) z → CanStart frame tokens v.port.engine.initiator b v.port.time back.knows.known

-- A port that waits for nothing may make the debug read that is next: it passes no hop, and where its address has a route there is a ticket of the memory for
-- its bytes.
pub record MayBeRead (frame : Frame Plan) (v : PortView) (x : Transfer) : Type 0 where
  pub no_passage : passage_of frame.world (txn_of v.port.engine.initiator v.port.engine.seq) ≡ None
  pub ticket : (r : Route) → route_at frame.world v.port.engine.initiator x.address ≡ Some r → 0 < left_of v.wallet r.memory
  pub bytes : (r : Route) → route_at frame.world v.port.engine.initiator x.address ≡ Some r → payload_cost (payload_of v.port.engine 4096) ≤ bytes_of v.wallet r.memory

abbrev pub NextMayBeRead : Type 0
NextMayBeRead = (table tokens : TableId) (frame : Frame Plan) (v : PortView) → IsPort table tokens frame v → v.port.waiting ≡ false → (x : Transfer) → next_of v.port.engine ≡ Asks x → x.kind ≡ kinds.DebugRead → MayBeRead frame v x
