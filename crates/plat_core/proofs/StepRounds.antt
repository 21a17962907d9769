-- The rounds and the history after a step of an actor.
use Rattle.std.proofs.Common.{◌≡◌, ℕ, ◌+◌, ◌≤◌, true, List, [], ◌∷◌, ◌++◌, length, Option, Some, None, refl, sym, ap, subst, ◌∙◌, arith}
use Rattle.std.specs.Prelude.{slice_get}
use Rattle.std.proofs.lemmas.Bool.{false≢true}
use Rattle.std.proofs.lemmas.List.{map-append}
use Rattle.atomic_table.specs.Seated.{TableId}
use Rattle.view_lists.specs.Lists.{Within}
use Rattle.one_history.specs.declared.entry.Entry.{Entry as HistoryEntry}
use Rattle.one_history.specs.declared.view.Frame.{Frame}
use Rattle.one_history.specs.Held.{Held}
use Rattle.tlm_types.specs.declared.entry.Content.{Content}
use Rattle.tlm_types.specs.declared.entry.Entry.{Entry}
use Rattle.tlm_model.specs.declared.platform.Style.TheVariants as styles
use Rattle.tlm_model.specs.declared.platform.Target.TheVariants as targets
use Rattle.tlm_model.specs.Plan.{Plan, Initiator, initiators_of}
use Rattle.tlm_model.specs.Rounds.{round_of}
use Rattle.time_board.specs.declared.rounds.Member.{Member}
use Rattle.initiator_run.specs.Board.{IsNear}
use Rattle.plat_end.specs.Entries.{entries_read, entry_read}
use Rattle.node_hops.specs.Steps.{HasNew, StepAdds}
use Rattle.node_hops.specs.declared.node.OneStep.{OneStep}
use Rattle.node_hops.specs.declared.node.OneStep.TheVariants as steps
use Rattle.dmi_grants.specs.declared.invalidation.Revocation.{Revocation}
use Rattle.fourphase_port.specs.Stepped.{IsSteppedPort, Stands}
use Rattle.fourphase_port.specs.declared.steps.SteppedPort.{SteppedPort}
use Rattle.stepped_actors.specs.declared.actor.SteppedActor.{SteppedActor}
use Rattle.stepped_actors.specs.declared.actor.SteppedActor.TheVariants.{Decoupled, FourPhase, Router, Memory}
use Rattle.stepped_actors.specs.Actors.{IsGoing, IsMember, KeepsAs, KeepsBy, MovesRounds}
use Rattle.stepped_actors.specs.Made.{IsStepOf}
use Rattle.initiator_run.proofs.AnswerLemmas.{and_right}
use Rattle.plat_core.specs.NetCore.{KnowsAll, length_after}
use Rattle.plat_core.specs.NetRounds.{IsCurrent, StandsInRounds}
use Rattle.plat_core.specs.Rounds.{is_decoupled_entry, is_decoupled_one, is_memory, round_at, round_by}
use Rattle.plat_core.proofs.BoardLemmas.{has_member, near_after}
use Rattle.plat_core.proofs.NetRounds.{current_after, one_stands, still_stands}
use Rattle.plat_core.proofs.NotDecoupled.{not_by_node, not_by_port}
use Rattle.plat_core.proofs.SeenLemmas.{one_more, same_seen}

-- who was near is near
near_kept : (was is : SteppedActor) (before after : List Member) → IsMember before was → IsGoing was → MovesRounds was is before after → (round : ℕ) → IsNear before round → IsNear after round
near_kept (Decoupled s) (Decoupled t) before after member going gone round near =
    near_after before after s.run.engine.initiator s.run t.run round (has_member before after s.run.engine.initiator s.run t.run refl member going gone) gone.more near
near_kept was is before after member going same round near = subst (λ (l : List Member). IsNear l round) (sym same) near

-- an entry of a blocking or direct initiator is of the round of its run
own_round : (p : Plan) (n round : ℕ) (e : HistoryEntry Content) → e.content.txn.initiator ≡ n → ((i : Initiator) → slice_get (initiators_of p) n ≡ Some i → round_of p.platform i e.content.txn.seq ≡ round) → is_decoupled_one (slice_get (initiators_of p) e.content.txn.initiator) ≡ true → round_at p (entry_read p.platform e) ≡ round
own_round p n round e own of decoupled = by (slice_get (initiators_of p) e.content.txn.initiator) refl
  where
    by : (o : Option Initiator) → slice_get (initiators_of p) e.content.txn.initiator ≡ o → round_at p (entry_read p.platform e) ≡ round
    by None is = absurd (false≢true (ap is_decoupled_one (sym is) ∙ decoupled))
    by (Some i) is = ap (λ (o : Option Initiator). round_by p.platform o e.content.txn.seq) is ∙ of i (ap (slice_get (initiators_of p)) (sym own) ∙ is)

-- a port is that of a four-phase initiator
pub record IsOfFourPhase (p : Plan) (n : ℕ) : Type 0 where
  pub initiator : Initiator
  pub is : slice_get (initiators_of p) n ≡ Some initiator
  pub style : initiator.row.style ≡ styles.FourPhase

pub of_port : (table tokens : TableId) (frame : Frame Plan) (s : SteppedPort) (note : Held Content Plan) → IsSteppedPort table tokens frame s note → IsOfFourPhase frame.world s.state.port.engine.initiator
of_port table tokens frame s note is = by s.closes is.stands
  where
    by : (closes : Option Revocation) → Stands table tokens frame s.state closes note → IsOfFourPhase frame.world s.state.port.engine.initiator
    by None port = record { initiator = port.initiator; is = port.is; style = port.style }
    by (Some r) closing = record { initiator = closing.port.initiator; is = closing.port.is; style = closing.port.style }

module _ (table tokens : TableId) (frame : Frame Plan) where
  abbrev its : HistoryEntry Content → Entry
  its e = entry_read frame.world.platform e

  -- an entry of a blocking or direct initiator is of a round in which its run is
  current_entry : (was is : SteppedActor) (note : Held Content Plan) (before after : List Member) (e : HistoryEntry Content) → KeepsAs table tokens frame was note → IsMember before was → IsGoing was → IsGoing is → MovesRounds was is before after
      → IsStepOf frame.world was is e → is_decoupled_entry frame.world (entry_read frame.world.platform e) ≡ true → IsCurrent after (round_at frame.world (entry_read frame.world.platform e))
  current_entry (Decoupled s) (Decoupled t) note before after e keeps member going still gone made own =
      let n = s.run.engine.initiator in
      let round = own_round frame.world n t.run.round e made.access.own made.round (and_right (is_memory (its e).object) (is_decoupled_one (slice_get (initiators_of frame.world) e.content.txn.initiator)) own) in
      subst (IsCurrent after) (sym round) (current_after before after n s.run t.run (has_member before after n s.run t.run refl member going gone) gone still)
  current_entry (Decoupled s) (FourPhase t) note before after e keeps member going still gone made own = absurd made
  current_entry (Decoupled s) (Router t) note before after e keeps member going still gone made own = absurd made
  current_entry (Decoupled s) (Memory t) note before after e keeps member going still gone made own = absurd made
  current_entry (FourPhase s) is note before after e keeps member going still gone made own =
      let of = of_port table tokens frame s note keeps in
      absurd (false≢true (sym (not_by_port frame.world e s.state.port.engine.initiator of.initiator of.is of.style made) ∙ own))
  current_entry (Router s) is note before after e keeps member going still gone made own = absurd (false≢true (sym (not_by_node frame.world e (targets.Router s.node.router) made) ∙ own))
  current_entry (Memory s) is note before after e keeps member going still gone made own = absurd (false≢true (sym (not_by_node frame.world e (targets.Memory s.memory) made) ∙ own))

  module _ (was is : SteppedActor) (note back seen : Held Content Plan) (before after : List Member) (step : OneStep) (made : ℕ) where
    -- after a step and a look at the whole history
    pub rounds_stepped : KeepsBy table tokens frame was note → IsMember before was → IsGoing was → ((step ≡ steps.Finished → ⊥) → IsGoing is) → MovesRounds was is before after → KnowsAll note made → KnowsAll seen (length_after made step) → Within note.knows.known seen.knows.known → Within back.knows.known seen.knows.known
        → StepAdds (IsStepOf frame.world was is) step note.knows.known back.knows.known → StandsInRounds frame.world (entries_read frame.world.platform note.knows.known) before → StandsInRounds frame.world (entries_read frame.world.platform seen.knows.known) after
    rounds_stepped keeps member going still gone all all_seen knew saw adds stands = by step refl
      where
        moved : StandsInRounds frame.world (entries_read frame.world.platform note.knows.known) after
        moved = still_stands frame.world (entries_read frame.world.platform note.knows.known) before after (near_kept was is before after member going gone) stands

        as_before : length_after made step ≡ made → StandsInRounds frame.world (entries_read frame.world.platform seen.knows.known) after
        as_before same =
            let known : seen.knows.known ≡ note.knows.known = same_seen note.knows.known seen.knows.known all.numbered all_seen.numbered knew (all_seen.count ∙ (same ∙ sym all.count)) in
            subst (λ (l : List (HistoryEntry Content)). StandsInRounds frame.world (entries_read frame.world.platform l) after) (sym known) moved

        by : (s : OneStep) → step ≡ s → StandsInRounds frame.world (entries_read frame.world.platform seen.knows.known) after
        by steps.Made q =
            let added : HasNew (IsStepOf frame.world was is) note.knows.known back.knows.known = adds q in
            let e : HistoryEntry Content = added.entry in
            let few : length seen.knows.known ≤ length note.knows.known + 1 = (let c = all_seen.count ∙ ap (length_after made) q in let d = all.count in omega arith) in
            let known : seen.knows.known ≡ note.knows.known ++ e ∷ [] = one_more note.knows.known seen.knows.known all.numbered all_seen.numbered knew few e (saw e added.has) added.past in
            let read : entries_read frame.world.platform seen.knows.known ≡ entries_read frame.world.platform note.knows.known ++ its e ∷ [] = ap (entries_read frame.world.platform) known ∙ map-append (entry_read frame.world.platform) note.knows.known (e ∷ []) in
            subst (λ (l : List Entry). StandsInRounds frame.world l after) (sym read)
            (one_stands frame.world (entries_read frame.world.platform note.knows.known) (its e) after
            (current_entry was is note before after e keeps.keeps member going (still (λ f. other (sym q ∙ f))) gone added.is) moved)
          where
            other : steps.Made ≡ steps.Finished → ⊥
            other f = cc
        by steps.Waits q = as_before (ap (length_after made) q)
        by steps.Finished q = as_before (ap (length_after made) q)
