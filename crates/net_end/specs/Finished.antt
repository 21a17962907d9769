-- Initiators that have finished, and what all of them together leave.
use Rattle.std.specs.Prelude.{ℕ, ◌≡◌, ◌+◌, ◌<◌, ◌≤◌, ◌⊎◌, List, length, Some, slice_get}
use Rattle.view_lists.specs.Lists.{Has, Within}
use Rattle.tlm_types.specs.declared.ends.EndOf.{EndOf}
use Rattle.tlm_types.specs.declared.entry.Entry.{Entry}
use Rattle.tlm_types.specs.declared.words.ObjectNo.{ObjectNo}
use Rattle.tlm_types.specs.declared.words.ObjectNo.TheVariants.{Memory}
use Rattle.tlm_types.specs.declared.words.TxnId.{TxnId}
use Rattle.tlm_model.specs.declared.platform.Style.TheVariants.{FourPhase}
use Rattle.tlm_model.specs.History.{entries_at}
use Rattle.tlm_model.specs.Plan.{Plan, Initiator, initiators_of}
use Rattle.flow_model.specs.Events.{Event, entries}
use Rattle.report_model.specs.Ends.{IsEndOf}
use Rattle.report_model.specs.Laws.{IsEndByLatencies}
use Rattle.route_plan.specs.Counted.{share_at}
use Rattle.joined_traffic.specs.Driven.{HasRun}
use Rattle.joined_traffic.specs.Ended.{HaveEnded}
use Rattle.joined_traffic.specs.Issued.{HaveIssued}
use Rattle.script_engine.specs.declared.op.Op.TheVariants as next
use Rattle.script_engine.specs.State.{op_of}
use Rattle.port_model.specs.Ends.{IsEndOfPort}
use Rattle.port_model.specs.Laws.{Knows}
use Rattle.port_model.specs.Way.{IsUnderWay, Port}

-- a four-phase initiator has finished: its script has ended, and nothing is outstanding
pub record IsPortDone (p : Plan) (i : Initiator) (h : List Event) (left : ObjectNo → ℕ) (end : EndOf) : Type 0 where
  pub port : Port
  pub known : List Event
  pub seen : ℕ
  pub under_way : IsUnderWay p i port known seen left
  pub told : Knows known h
  pub ended : op_of port.engine ≡ next.Done
  pub none : length port.away ≡ 0
  pub end_is : IsEndOfPort port end

-- another one has: these are its entries, and at each memory it has as many of them and tickets left as the plan counts
pub record IsRunDone (p : Plan) (i : Initiator) (h : List Event) (left : ObjectNo → ℕ) (end : EndOf) : Type 0 where
  pub mine : List Entry
  pub within : Within mine (entries h)
  pub own : (e : Entry) → Has mine e → e.txn.initiator ≡ i.number
  pub runs : HasRun p i mine
  pub all : (m : ℕ) → m < length p.platform.memories → share_at p i.number (Memory m) ≤ length (entries_at (Memory m) mine) + left (Memory m)
  pub end_is : IsEndByLatencies p.platform i mine end

-- initiator k has finished, by its style
pub record IsDone (p : Plan) (h : List Event) (k : ℕ) (left : ObjectNo → ℕ) (end : EndOf) : Type 0 where
  pub initiator : Initiator
  pub at : slice_get (initiators_of p) k ≡ Some initiator
  pub by_style : ((initiator.row.style ≡ FourPhase) × IsPortDone p initiator h left end) ⊎ ((initiator.row.style ≡ FourPhase → ⊥) × IsRunDone p initiator h left end)

-- All initiators have finished and all objects are done with, for some numbers that the initiators know; and each end is what the report says of it.
pub record HasEndedWhole (p : Plan) (h : List Event) (left : ℕ → ObjectNo → ℕ) (end : ℕ → EndOf) : Type 0 where
  pub issued : TxnId → ℕ
  pub ends : TxnId → ℕ
  pub calls : TxnId → ℕ → ℕ
  pub mine : ℕ → List Entry
  pub ended : HaveEnded p h issued calls mine left
  pub was_issued : HaveIssued p h issued ends mine
  pub ends_are : (k : ℕ) (i : Initiator) → slice_get (initiators_of p) k ≡ Some i → IsEndOf p i (entries h) (end k)
