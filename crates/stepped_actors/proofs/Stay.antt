-- What actors keep while others make entries.
use Rattle.atomic_table.specs.Seated.{TableId}
use Rattle.view_lists.specs.Lists.{Within}
use Rattle.one_history.specs.declared.view.Frame.{Frame}
use Rattle.one_history.specs.Held.{Held}
use Rattle.one_history.specs.Lists.{StandBelow}
use Rattle.shared_object.specs.Steps.{IsNote}
use Rattle.tlm_types.specs.declared.entry.Content.{Content}
use Rattle.tlm_model.specs.Plan.{Plan}
use Rattle.decoupled_run.specs.Stepped.{SteppedStays}
use Rattle.fourphase_port.specs.Stepped.{SteppedKnowsMore}
use Rattle.router_steps.specs.Laws.{SteppedRoutersKeep}
use Rattle.target_node.specs.Laws.{MoreIsKnown}
use Rattle.stepped_actors.specs.declared.actor.SteppedActor.{SteppedActor}
use Rattle.stepped_actors.specs.declared.actor.SteppedActor.TheVariants.{Decoupled, FourPhase, Router, Memory}
use Rattle.stepped_actors.specs.Actors.{KeepsAs}
use Rattle.stepped_actors.specs.Laws.{ActorsStay}

module _ (decoupled : SteppedStays) (port : SteppedKnowsMore) (router : SteppedRoutersKeep) (memory : MoreIsKnown) where
  keeps_more : (table tokens : TableId) (frame : Frame Plan) (a : SteppedActor) (note back : Held Content Plan) → KeepsAs table tokens frame a note
      → IsNote table back → Within note.knows.known back.knows.known → StandBelow back.knows.known back.knows.seen → KeepsAs table tokens frame a back
  keeps_more table tokens frame (Decoupled s) note back keeps of more below = decoupled table tokens frame s note back keeps of more below
  keeps_more table tokens frame (FourPhase s) note back keeps of more below = port table tokens frame s note back keeps of more below
  keeps_more table tokens frame (Router s) note back keeps of more below = router frame tokens s note.knows.known back.knows.known more keeps
  keeps_more table tokens frame (Memory s) note back keeps of more below = memory frame tokens s note.knows.known back.knows.known more keeps

  pub all_stay : ActorsStay
  all_stay table tokens frame a note back keeps of more below = record { note_of = of; below = below; keeps = keeps_more table tokens frame a note back keeps.keeps of more below }
