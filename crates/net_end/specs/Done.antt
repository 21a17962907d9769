-- Initiators that have finished, with what they tell of grants.
use Rattle.std.specs.Prelude.{ℕ, ◌≡◌, ◌⊎◌, List, Some, slice_get}
use Rattle.tlm_types.specs.declared.ends.EndOf.{EndOf}
use Rattle.tlm_types.specs.declared.words.ObjectNo.{ObjectNo}
use Rattle.tlm_model.specs.declared.platform.Style.TheVariants.{FourPhase}
use Rattle.tlm_model.specs.History.{IsNumbered}
use Rattle.tlm_model.specs.Plan.{Plan, Initiator, initiators_of}
use Rattle.flow_model.specs.Events.{Event, entries}
use Rattle.good_history.specs.Kept.{GivesGatesInOrder}
use Rattle.joined_traffic.specs.Parts.{HasDoneGrants}
use Rattle.joined_traffic.specs.Places.{AreInPlace}
use Rattle.net_end.specs.Finished.{IsPortDone, IsRunDone}

-- An initiator that isn't four-phase has finished, and so have its grants and its invalidations, where the history is numbered, gives each gate in
-- order, and has the entries of each memory in their places.
pub record HasRunGrants (p : Plan) (i : Initiator) (h : List Event) (left : ObjectNo → ℕ) (end : EndOf) : Type 0 where
  pub run : IsRunDone p i h left end
  pub grants : IsNumbered (entries h) → GivesGatesInOrder (entries h) → AreInPlace h → HasDoneGrants p i (entries h) run.mine

-- initiator k has finished, by its style
pub record IsDoneWithGrants (p : Plan) (h : List Event) (k : ℕ) (left : ObjectNo → ℕ) (end : EndOf) : Type 0 where
  pub initiator : Initiator
  pub at : slice_get (initiators_of p) k ≡ Some initiator
  pub by_style : ((initiator.row.style ≡ FourPhase) × IsPortDone p initiator h left end) ⊎ ((initiator.row.style ≡ FourPhase → ⊥) × HasRunGrants p initiator h left end)
