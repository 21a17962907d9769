-- What is seen of an initiator's run, and its moves.
use Rattle.std.specs.Prelude.{ℕ, ◌≡◌, ◌+◌, ◌-◌, ◌^◌, min, Bool, false, ◌&&◌, ◌||◌, List, [], ◌∷◌, ◌++◌, if◌then◌else◌}
use Rattle.tlm_types.specs.declared.ends.EndOf.{EndOf}
use Rattle.tlm_types.specs.declared.ends.RefusedItem.{RefusedItem}
use Rattle.tlm_types.specs.Refused.{Refusals}
use Rattle.tlm_model.specs.declared.operation.Operation.{Operation}
use Rattle.tlm_model.specs.Requests.{Request}
use Rattle.report_model.specs.Ends.{refused_at}
use Rattle.quantum_keeper.specs.Keeper.{Keeper, new_keeper as begun_keeper, current_time, needs_sync, stepped, synced}
use Rattle.script_engine.specs.declared.part.Pause.{Pause}
use Rattle.script_engine.specs.declared.part.Pause.TheVariants as pause
use Rattle.script_engine.specs.declared.part.Transfer.{Transfer}
use Rattle.script_engine.specs.declared.part.TransferKind.{TransferKind}
use Rattle.script_engine.specs.declared.part.TransferKind.TheVariants as transfer
use Rattle.script_engine.specs.Part.{command_in, is_debug_kind, is_sync_pause}
use Rattle.script_engine.specs.State.{State, begun_engine, op_of, is_fenced, told_by, passed_by}

-- where its script stands, its local time, its syncs, the round that it has been let into, what had no route, and
-- whether it has finished
pub record Run : Type 0 where
  pub engine : State
  pub keeper : Keeper
  pub syncs : ℕ
  pub round : ℕ
  pub refused : Refusals
  pub finished : Bool

-- a run that has its script before it, and room for so many refusals
abbrev pub fresh_run : ℕ → List Operation → ℕ → ℕ → Run
fresh_run initiator script quantum room = record {
  engine = begun_engine initiator script;
  keeper = begun_keeper quantum;
  syncs = 0;
  round = 0;
  refused = record { items = []; room = room };
  finished = false;
}

-- a sync is due after what has just been done, which was a sync itself or not
abbrev pub is_due : Bool → Run → Bool
is_due is_sync r = r.engine.ended && (is_sync || needs_sync r.keeper)

abbrev pub once_more : ℕ → ℕ
once_more n = min (n + 1) (2 ^ 64 - 1)

-- with the sync that is due
abbrev pub with_sync : Bool → Run → Run
with_sync is_sync r = if is_due is_sync r then record r { keeper = synced r.keeper; syncs = once_more r.syncs } else r

-- a local time that a wait has moved on
abbrev pub waited : Pause → Keeper → Keeper
waited (pause.Wait n) k = stepped k n
waited other k = k

-- after a wait, a sync or a fence
abbrev pub passed : Pause → Run → Run
passed pause r = with_sync (is_sync_pause pause) (record r { engine = passed_by r.engine; keeper = waited pause r.keeper })

-- after an invalidation, as after a fence
abbrev pub invalidated : Run → Run
invalidated r = passed pause.Fence r

-- an engine after the access that is next, whose payload came back with these bytes
abbrev pub engine_after : State → List ℕ → State
engine_after e got = if is_fenced (op_of e) then told_by e got else passed_by e

-- a local time after an access by this latency: a debug read takes no time
abbrev pub arrived : TransferKind → ℕ → Keeper → Keeper
arrived (transfer.Access command plain fenced) by k = stepped k by
arrived transfer.DebugRead by k = k

-- after a transfer by this latency, whose payload came back with these bytes
abbrev pub accessed : Transfer → ℕ → List ℕ → Run → Run
accessed x by got r = with_sync false (record r { engine = engine_after r.engine got; keeper = arrived x.kind by r.keeper })

-- how a request without a route is told, with its time of issue
abbrev pub refused_item : Request → RefusedItem
refused_item r = refused_at r r.time

-- what a transfer without a route is told as, at this time
abbrev pub refused_as : Transfer → ℕ → RefusedItem
refused_as x t = record { seq = x.seq; time = t; debug = is_debug_kind x.kind; command = command_in x.kind; address = x.address }

-- with a transfer that had no route
abbrev pub with_refusal : Transfer → Run → Run
with_refusal x r = record r { refused = record r.refused { items = r.refused.items ++ refused_as x (current_time r.keeper) ∷ [] } }

-- how far a run has come
abbrev pub end_at : Run → EndOf
end_at r = record { transactions = r.engine.seq; syncs = r.syncs; end = current_time r.keeper; refused = r.refused }

-- an end tells how far a run has come
pub record IsSoFar (r : Run) (end : EndOf) : Type 0 where
  pub transactions : end.transactions ≡ r.engine.seq
  pub syncs : end.syncs ≡ r.syncs
  pub time : end.end ≡ current_time r.keeper
  pub refused : end.refused.items ≡ r.refused.items
