-- What a blocking or direct initiator leaves that has finished.
use Rattle.std.specs.Prelude.{ℕ, ◌≡◌, ◌≢◌, List, Some, slice_get}
use Rattle.atomic_table.specs.Seated.{TableId}
use Rattle.view_lists.specs.Lists.{Within}
use Rattle.one_history.specs.declared.entry.Entry.{Entry as HistoryEntry}
use Rattle.one_history.specs.Held.{Held as Noted}
use Rattle.shared_object.specs.Steps.{IsNote}
use Rattle.token_book.specs.Purse.{Purse, IsOf, left_of}
use Rattle.tlm_types.specs.declared.ends.EndOf.{EndOf}
use Rattle.tlm_types.specs.declared.entry.Content.{Content}
use Rattle.tlm_model.specs.declared.platform.Style.TheVariants.{FourPhase}
use Rattle.tlm_model.specs.History.{IsNumbered}
use Rattle.tlm_model.specs.Plan.{Plan, Initiator, initiators_of}
use Rattle.good_history.specs.Kept.{GivesGatesInOrder}
use Rattle.flow_model.specs.Events.{entries}
use Rattle.cargo_model.specs.Known.{object_number}
use Rattle.joined_traffic.specs.Parts.{HasDoneGrants}
use Rattle.joined_traffic.specs.Places.{AreInPlace}
use Rattle.net_end.specs.Closed.{events_in}
use Rattle.net_end.specs.Finished.{IsRunDone}
use Rattle.plat_build.specs.Kept.{HasNoOthers}

-- Initiator k has finished, a blocking or direct one, with this end, and leaves its note and its wallet. In each history that has what the note knows, all of
-- its script is done, with the tickets that the wallet has left; and where the history is numbered, gives each gate in order and has the entries of each
-- memory in their places, so are its grants and its invalidations.
pub record IsFinished (table tokens : TableId) (p : Plan) (k : ℕ) (end : EndOf) (note : Noted Content Plan) (wallet : Purse) : Type 0 where
  pub note_of : IsNote table note
  pub wallet_of : IsOf tokens wallet
  pub no_others : HasNoOthers p.platform wallet
  pub initiator : Initiator
  pub at : slice_get (initiators_of p) k ≡ Some initiator
  pub decoupled : initiator.row.style ≢ FourPhase
  pub done : (all : List (HistoryEntry Content)) → Within note.knows.known all → IsRunDone p initiator (events_in p.platform all) (λ o. left_of wallet (object_number p.platform o)) end
  pub grants : (all : List (HistoryEntry Content)) (tells : Within note.knows.known all) → IsNumbered (entries (events_in p.platform all)) → GivesGatesInOrder (entries (events_in p.platform all)) → AreInPlace (events_in p.platform all)
      → HasDoneGrants p initiator (entries (events_in p.platform all)) (done all tells).mine
