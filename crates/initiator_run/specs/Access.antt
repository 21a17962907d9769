-- The access that a run makes at a memory.
use Rattle.std.specs.Prelude.{ℕ, ◌≡◌, List, Some}
use Rattle.tlm_types.specs.declared.entry.Entry.{Entry}
use Rattle.tlm_types.specs.declared.words.ObjectNo.TheVariants.{Memory as memory_object}
use Rattle.tlm_types.specs.declared.words.TxnId.{TxnId}
use Rattle.tlm_types.specs.declared.words.Way.TheVariants.{Blocking}
use Rattle.tlm_model.specs.Log.{log_bytes}
use Rattle.tlm_model.specs.Plan.{Plan, Initiator}
use Rattle.tlm_model.specs.Requests.{Asked}
use Rattle.tlm_model.specs.Route.{Route as RouteOfModel, later, route_of, before_of, latency_of}
use Rattle.generic_payload.specs.Payload.{PayloadView}
use Rattle.region_object.specs.declared.call.RegionCall.{RegionCall}
use Rattle.region_object.specs.declared.call.RegionCall.TheVariants.{Access, Debug}
use Rattle.region_object.specs.Call.{payload_cost, returned}
use Rattle.region_object.specs.Region.{LoggedMemory, reply_of}
use Rattle.route_plan.specs.declared.step.Route.{Route}
use Rattle.script_engine.specs.declared.part.Transfer.{Transfer}
use Rattle.script_engine.specs.declared.part.TransferKind.{TransferKind}
use Rattle.script_engine.specs.declared.part.TransferKind.TheVariants as transfer
use Rattle.script_engine.specs.State.{payload_of}
use Rattle.script_engine.specs.Asking.{arrival, asked_for}
use Rattle.quantum_keeper.specs.Keeper.{current_time}
use Rattle.initiator_run.specs.Entry.{way_of, access_at, answered_by, got_for, back}
use Rattle.initiator_run.specs.Run.{Run}

-- how many data bytes the payload of an initiator has room for
abbrev pub payload_room : ℕ
payload_room = 4096

abbrev pub model_route : Route → RouteOfModel
model_route route = record { memory = route.memory; offset = route.offset }

-- a route is that of an address of an initiator
pub record IsRouteOf (p : Plan) (i : Initiator) (address : ℕ) (route : Route) : Type 0 where
  pub leads : route_of p.platform i address ≡ Some (model_route route)
  pub before : route.before ≡ before_of p.platform i address
  pub latency : route.latency ≡ latency_of p.platform i address

-- the call of a transfer of this kind that was issued at this time: a debug read takes no time
abbrev pub call_at : TransferKind → TxnId → ℕ → ℕ → PayloadView → RegionCall
call_at (transfer.Access command plain fenced) txn t before payload = Access txn (later t before) Blocking payload
call_at transfer.DebugRead txn t before payload = Debug txn t payload

-- the payload that a memory answers a call with
abbrev pub payload_back : LoggedMemory → RegionCall → PayloadView
payload_back m call = returned (reply_of m call)

-- what a transfer that is next asks for
abbrev pub asked_next : Run → Transfer → Asked
asked_next r x = asked_for x.kind x.length (payload_of r.engine payload_room)

-- how many bytes of the room of its memory's log it may take
abbrev pub cost_next : Run → ℕ
cost_next r = payload_cost (payload_of r.engine payload_room)

-- the entry of a transfer that is next, at a memory and at this position
abbrev pub entry_made : Run → Transfer → LoggedMemory → Route → ℕ → Entry
entry_made r x m route position = record {
  position = position;
  object = memory_object m.number;
  txn = record { initiator = r.engine.initiator; seq = r.engine.seq };
  time = arrival x.kind (current_time r.keeper) route.before;
  what = answered_by m.traits (log_bytes m.traits m.log.entries) (way_of (asked_next r x)) (access_at (model_route route) (asked_next r x));
}

-- the data bytes with which its payload comes back
abbrev pub bytes_back : Run → Transfer → LoggedMemory → Route → List ℕ
bytes_back r x m route =
    back (payload_of r.engine payload_room).command (payload_of r.engine payload_room).bytes
    (got_for m.traits (log_bytes m.traits m.log.entries) (asked_next r x) (model_route route))

-- the call that carries it along this route
abbrev pub next_call : Run → Transfer → Route → RegionCall
next_call r x route =
    call_at x.kind (record { initiator = r.engine.initiator; seq = r.engine.seq }) (current_time r.keeper) route.before
    (record (payload_of r.engine payload_room) { address = route.offset })
