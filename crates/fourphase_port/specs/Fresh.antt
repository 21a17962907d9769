-- With what a port begins.
use Rattle.std.specs.Prelude.{ℕ, ◌≡◌, ◌<◌, [], length, Some, slice_get}
use Rattle.atomic_table.specs.Seated.{TableId}
use Rattle.one_history.specs.Held.{Held}
use Rattle.tlm_types.specs.declared.entry.Content.{Content}
use Rattle.tlm_types.specs.declared.words.ObjectNo.{ObjectNo}
use Rattle.tlm_model.specs.declared.platform.Style.TheVariants.{FourPhase}
use Rattle.tlm_model.specs.Plan.{Plan, Initiator, initiators_of}
use Rattle.token_book.specs.Purse.{Purse, HasPlace, IsOf, bytes_of, left_of}
use Rattle.generic_payload.specs.Payload.{PayloadView}
use Rattle.shared_object.specs.Steps.{IsNote}
use Rattle.route_plan.specs.Counted.{share_at}
use Rattle.cargo_model.specs.Known.{objects_of}
use Rattle.plat_net.specs.Objects.{HasObject, bytes_at}
use Rattle.script_engine.specs.State.{State, begun_engine}

-- The four parts of a four-phase initiator of a plan that hasn't begun: an engine with its whole script, a payload with room for all that it reads, a note that
-- has seen nothing, and a wallet with a place for each object, and as many tickets and bytes of it as the plan counts for this initiator.
pub record IsFresh (table tokens : TableId) (p : Plan) (n : ℕ) (e : State) (b : PayloadView) (note : Held Content Plan) (w : Purse) : Type 0 where
  pub initiator : Initiator
  pub is : slice_get (initiators_of p) n ≡ Some initiator
  pub style : initiator.row.style ≡ FourPhase
  pub engine : e ≡ begun_engine n initiator.script
  pub payload : b.room ≡ 4096
  pub note_of : IsNote table note
  pub seen : note.knows.seen ≡ 0
  pub known : note.knows.known ≡ []
  pub of : IsOf tokens w
  pub places : w.places ≡ length (objects_of p.platform)
  pub few : (o : ℕ) → HasPlace w o → o < length (objects_of p.platform)
  pub left : (k : ℕ) (o : ObjectNo) → HasObject p.platform k o → left_of w k ≡ share_at p n o
  pub bytes : (k : ℕ) (o : ObjectNo) → HasObject p.platform k o → bytes_of w k ≡ bytes_at p n o
