use Rattle.std.proofs.Common.{◌≡◌, ◌++◌, Bool, true, false, [], ◌∷◌, refl}
use Rattle.std.specs.Prelude.{IsTrue}
use Rattle.one_history.specs.declared.view.Frame.{Frame}
use Rattle.one_history.specs.declared.view.View.{View}
use Rattle.tlm_types.specs.declared.entry.Content.{Content}
use Rattle.tlm_model.specs.Plan.{Plan}
use Rattle.flow_model.specs.Events.{Finds}
use Rattle.flow_model.specs.Numbers.{IsEnder}
use Rattle.cargo_model.specs.Known.{Known}
use Rattle.plat_net.specs.Places.{hop_place}
use Rattle.router_moves.specs.Moves.{ended_look}
use Rattle.router_node.specs.Stages.{HasLookedForEnd}
use Rattle.router_node.specs.declared.stage.SentUp.{SentUp}
use Rattle.router_node.proofs.stage.look_for_end.Goals as goal

-- by what its look answers
looked_for : (frame : Frame Plan) (a : SentUp) (old new : View Content Plan) (b : Bool) → new.looks ≡ old.looks ++ (hop_place frame.world a.above, ended_look b) ∷ [] → (IsTrue b → Finds (Known frame.world.platform new.known) (IsEnder a.txn a.above)) → HasLookedForEnd frame a old new b
looked_for frame a old new true look ended = ended refl
looked_for frame a old new false look ended = look

pub returns-then-away-clause-note : goal.returns-then-away-clause-note
returns-then-away-clause-note g c = c.requires.note

pub returns-then-away-clause-knew : goal.returns-then-away-clause-knew
returns-then-away-clause-knew g c = λ x has. has

pub returns-then-away-clause-below : goal.returns-then-away-clause-below
returns-then-away-clause-below g c = c.requires.below

pub has_ended_above-requires-clause-hop : goal.has_ended_above-requires-clause-hop
has_ended_above-requires-clause-hop g c = c.requires.away.there

pub has_ended_above-requires-clause-note : goal.has_ended_above-requires-clause-note
has_ended_above-requires-clause-note g c = c.requires.note

pub has_ended_above-requires-clause-begun : goal.has_ended_above-requires-clause-begun
has_ended_above-requires-clause-begun g c = c.requires.away.begun

pub returns-clause-note : goal.returns-clause-note
returns-clause-note g c = c.has_ended_above.ensures.note

pub returns-clause-knew : goal.returns-clause-knew
returns-clause-knew g c = c.has_ended_above.ensures.knew

pub returns-clause-below : goal.returns-clause-below
returns-clause-below g c = c.has_ended_above.ensures.below

pub returns-then-away-clause-ended : goal.returns-then-away-clause-ended
returns-then-away-clause-ended g c = c.requires.away.ended c.if-away.true

pub returns-clause-ended : goal.returns-clause-ended
returns-clause-ended g c = looked_for g.N.Naming.frame c.args.away.now c.args.note.knows c.has_ended_above.result.1.knows c.has_ended_above.result.0 c.has_ended_above.ensures.look c.has_ended_above.ensures.ended
