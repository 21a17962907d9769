-- What an initiator leaves that has finished.
use Rattle.std.specs.Prelude.{ℕ, ◌≡◌, ◌≤◌, List, length}
use Rattle.atomic_table.specs.Seated.{TableId}
use Rattle.view_lists.specs.Lists.{Within}
use Rattle.one_history.specs.declared.entry.Entry.{Entry as HistoryEntry}
use Rattle.one_history.specs.Held.{Held}
use Rattle.shared_object.specs.Steps.{IsNote}
use Rattle.token_book.specs.Purse.{Purse, IsOf, left_of}
use Rattle.tlm_types.specs.declared.ends.EndOf.{EndOf}
use Rattle.tlm_types.specs.declared.entry.Content.{Content}
use Rattle.tlm_model.specs.Plan.{Plan}
use Rattle.cargo_model.specs.Known.{object_number, objects_of}
use Rattle.net_end.specs.Closed.{events_in}
use Rattle.net_end.specs.Done.{IsDoneWithGrants}

-- Initiator k has finished, with this end, and leaves its note and its wallet, which has tickets of the plan's objects alone. In each history that has
-- what the note knows, all of its script is done, by its style, with the tickets that the wallet has left, its grants and its invalidations.
pub record IsFinished (table tokens : TableId) (p : Plan) (k : ℕ) (end : EndOf) (note : Held Content Plan) (wallet : Purse) : Type 0 where
  pub note_of : IsNote table note
  pub wallet_of : IsOf tokens wallet
  pub no_others : (o : ℕ) → length (objects_of p.platform) ≤ o → left_of wallet o ≡ 0
  pub done : (all : List (HistoryEntry Content)) → Within note.knows.known all → IsDoneWithGrants p (events_in p.platform all) k (λ o. left_of wallet (object_number p.platform o)) end
