use Rattle.std.proofs.Common.{◌≤◌, ◌+◌, false, arith, ap, sym, subst, ◌∙◌, List}
use Rattle.std.proofs.Math.ListN.{set}
use Rattle.region_object.specs.Region.{LoggedMemory}
use Rattle.plat_core.specs.Core.{CoreView, GoesOn, HasStopped, IsStep, progress}
use Rattle.plat_core.specs.declared.steps.CoreStep.TheVariants.{Made, Waits, Finished}
use Rattle.initiator_run.specs.declared.turn.Turn.TheVariants as turn
use Rattle.initiator_run.specs.Access.{cost_next}
use Rattle.initiator_run.specs.Turns.{HasRoomAt, IsTurn}
use Rattle.initiator_run.proofs.RunLemmas.{IsUnderWay-kept}
use Rattle.plat_core.proofs.CoreLemmas.{few_made, room_for_access, run_at, run_under_way, written}
use Rattle.plat_core.proofs.ProgressLemmas.{few_steps, stops_done}
use Rattle.plat_core.proofs.QuietLemmas.{never_invalidates}
use Rattle.plat_core.proofs.SteppedLemmas.{Turns, flag_is, in_round, stepped_ended, stepped_made, stepped_waits}
use Rattle.plat_core.proofs.ViewLemmas.{step_done, view}
use Rattle.plat_core.proofs.steps.Core.step_initiator.Goals as goal

pub take_turn-turn-requires-clause-way : goal.take_turn-turn-requires-clause-way
take_turn-turn-requires-clause-way g c = run_under_way c.self.inside.plan.now c.self.inside.runs.items c.self.inside.regions.items c.self.inside.made c.args.index c.index_mut-run.result.now c.self.invariant.0 (run_at c.self.inside.runs.items c.args.index c.index_mut-run.result.now c.args.self.now.finished (ap (λ (v : CoreView). v.finished) c.self.view_is) c.requires c.index_mut-run.ensures.value)

pub take_turn-turn-requires-clause-room : goal.take_turn-turn-requires-clause-room
take_turn-turn-requires-clause-room g c = λ middle x route keeps reached.
    subst (λ (regions : List LoggedMemory). HasRoomAt regions route.memory (cost_next middle)) (sym c.deref_mut.ensures.value)
    (room_for_access c.self.inside.plan.now c.self.inside.runs.items c.self.inside.regions.items c.self.inside.made c.args.index c.index_mut-run.result.now middle x route c.self.invariant.0 (run_at c.self.inside.runs.items c.args.index c.index_mut-run.result.now c.args.self.now.finished (ap (λ (v : CoreView). v.finished) c.self.view_is) c.requires c.index_mut-run.ensures.value) keeps reached)

pub take_turn-turn-requires-clause-round : goal.take_turn-turn-requires-clause-round
take_turn-turn-requires-clause-round g c = in_round c.self.inside.plan.now c.self.inside.runs.items c.self.inside.regions.items c.self.inside.rounds c.self.inside.made c.args.index c.index_mut-run.result.now c.self.invariant.0 c.self.invariant.1 (run_at c.self.inside.runs.items c.args.index c.index_mut-run.result.now c.args.self.now.finished (ap (λ (v : CoreView). v.finished) c.self.view_is) c.requires c.index_mut-run.ensures.value)

pub returns-then-has_finished-clause-step : goal.returns-then-has_finished-clause-step
returns-then-has_finished-clause-step g c =
    subst (λ (v : CoreView). IsStep v c.args.index v Finished) c.self.view_is
    (step_done c.self.inside.plan.now c.self.inside.runs.items c.self.inside.regions.items c.self.inside.rounds c.self.inside.made c.args.index c.index.result.now c.self.invariant.0 c.self.invariant.1 (run_at c.self.inside.runs.items c.args.index c.index.result.now c.args.self.now.finished (ap (λ (v : CoreView). v.finished) c.self.view_is) c.requires c.index.ensures) (sym c.has_finished.ensures ∙ c.if-has_finished.true))

pub returns-then-has_finished-clause-stops : goal.returns-then-has_finished-clause-stops
returns-then-has_finished-clause-stops g c =
    subst (λ (v : CoreView). HasStopped v c.args.index v Finished) c.self.view_is
    (stops_done c.self.inside.plan.now c.self.inside.runs.items c.self.inside.regions.items c.self.inside.rounds c.args.index c.index.result.now c.self.invariant.1 (run_at c.self.inside.runs.items c.args.index c.index.result.now c.args.self.now.finished (ap (λ (v : CoreView). v.finished) c.self.view_is) c.requires c.index.ensures) (sym c.has_finished.ensures ∙ c.if-has_finished.true))

pub returns-then-has_finished-clause-few : goal.returns-then-has_finished-clause-few
returns-then-has_finished-clause-few g c =
    subst (λ (v : CoreView). progress v ≤ 20000000) c.self.view_is (few_steps c.self.inside.plan.now c.self.inside.runs.items c.self.inside.regions.items c.self.inside.rounds c.self.inside.made c.self.invariant.0 c.self.invariant.1)

pub overflow_add-self : goal.overflow_add-self
overflow_add-self g c = omega (arith, few_made c.self.inside.plan.now c.self.inside.runs.items c.self.inside.regions.items c.self.inside.made c.self.invariant.0)

pub invariant_of-self : goal.invariant_of-self
invariant_of-self g c =
    let at = (run_at c.self.inside.runs.items c.args.index c.index_mut-run.result.now c.args.self.now.finished (ap (λ (v : CoreView). v.finished) c.self.view_is) c.requires c.index_mut-run.ensures.value) in
    let turns : Turns c.self.inside.plan.now c.self.inside.runs.items c.self.inside.regions.items c.self.inside.rounds c.self.inside.made c.args.index c.index_mut-run.result.now c.take_turn-turn.new.run c.deref_mut.result.now c.take_turn-turn.new.regions c.take_turn-turn.new.rounds turn.Made = record {
      core = c.self.invariant.0;
      rounds = c.self.invariant.1;
      at = at;
      going = flag_is c.self.inside.runs.items c.args.index c.index.result.now c.index_mut-run.result.now false (run_at c.self.inside.runs.items c.args.index c.index.result.now c.args.self.now.finished (ap (λ (v : CoreView). v.finished) c.self.view_is) c.requires c.index.ensures) at (sym c.has_finished.ensures ∙ c.if-has_finished.false);
      given_is = c.deref_mut.ensures.value;
      turn_is = subst (IsTurn c.self.inside.plan.now c.index_mut-run.result.now c.take_turn-turn.new.run c.take_turn-turn.new.rounds c.deref_mut.result.now c.take_turn-turn.new.regions c.self.inside.made) c.in-Made.is c.take_turn-turn.ensures.turn;
      gone = c.take_turn-turn.ensures.rounds;
    } in
    let s = stepped_made c.self.inside.plan.now c.self.inside.runs.items c.self.inside.regions.items c.self.inside.rounds c.self.inside.made c.args.index c.index_mut-run.result.now c.take_turn-turn.new.run c.deref_mut.result.now c.take_turn-turn.new.regions c.take_turn-turn.new.rounds c.self.inside.regions.len (omega (arith, c.take_turn-turn.auto.regions, c.deref_mut.ensures.len)) turns in
    (s.core, s.rounds, c.take_turn-turn.ensures.roomy)

pub returns-in-Made : goal.returns-in-Made
returns-in-Made g c =
    let at = (run_at c.self.inside.runs.items c.args.index c.index_mut-run.result.now c.args.self.now.finished (ap (λ (v : CoreView). v.finished) c.self.view_is) c.requires c.index_mut-run.ensures.value) in
    let turns : Turns c.self.inside.plan.now c.self.inside.runs.items c.self.inside.regions.items c.self.inside.rounds c.self.inside.made c.args.index c.index_mut-run.result.now c.take_turn-turn.new.run c.deref_mut.result.now c.take_turn-turn.new.regions c.take_turn-turn.new.rounds turn.Made = record {
      core = c.self.invariant.0;
      rounds = c.self.invariant.1;
      at = at;
      going = flag_is c.self.inside.runs.items c.args.index c.index.result.now c.index_mut-run.result.now false (run_at c.self.inside.runs.items c.args.index c.index.result.now c.args.self.now.finished (ap (λ (v : CoreView). v.finished) c.self.view_is) c.requires c.index.ensures) at (sym c.has_finished.ensures ∙ c.if-has_finished.false);
      given_is = c.deref_mut.ensures.value;
      turn_is = subst (IsTurn c.self.inside.plan.now c.index_mut-run.result.now c.take_turn-turn.new.run c.take_turn-turn.new.rounds c.deref_mut.result.now c.take_turn-turn.new.regions c.self.inside.made) c.in-Made.is c.take_turn-turn.ensures.turn;
      gone = c.take_turn-turn.ensures.rounds;
    } in
    let s = stepped_made c.self.inside.plan.now c.self.inside.runs.items c.self.inside.regions.items c.self.inside.rounds c.self.inside.made c.args.index c.index_mut-run.result.now c.take_turn-turn.new.run c.deref_mut.result.now c.take_turn-turn.new.regions c.take_turn-turn.new.rounds c.self.inside.regions.len (omega (arith, c.take_turn-turn.auto.regions, c.deref_mut.ensures.len)) turns in
    let next : CoreView = view c.self.inside.plan.now (written c.self.inside.regions.len c.take_turn-turn.new.regions c.self.inside.regions.items) (set c.self.inside.runs.items c.args.index c.take_turn-turn.new.run) c.take_turn-turn.new.rounds in
    record {
      step = subst (λ (v : CoreView). IsStep v c.args.index next (Made c.self.inside.made)) c.self.view_is s.step_is;
      goes = subst (λ (v : CoreView). GoesOn v next) c.self.view_is s.goes;
      stops = subst (λ (v : CoreView). HasStopped v c.args.index next (Made c.self.inside.made)) c.self.view_is s.stops;
      few = few_steps c.self.inside.plan.now (set c.self.inside.runs.items c.args.index c.take_turn-turn.new.run) (written c.self.inside.regions.len c.take_turn-turn.new.regions c.self.inside.regions.items) c.take_turn-turn.new.rounds (c.self.inside.made + 1) s.core s.rounds;
    }

pub invariant_of-self-in-Waits : goal.invariant_of-self-in-Waits
invariant_of-self-in-Waits g c =
    let at = (run_at c.self.inside.runs.items c.args.index c.index_mut-run.result.now c.args.self.now.finished (ap (λ (v : CoreView). v.finished) c.self.view_is) c.requires c.index_mut-run.ensures.value) in
    let turns : Turns c.self.inside.plan.now c.self.inside.runs.items c.self.inside.regions.items c.self.inside.rounds c.self.inside.made c.args.index c.index_mut-run.result.now c.take_turn-turn.new.run c.deref_mut.result.now c.take_turn-turn.new.regions c.take_turn-turn.new.rounds turn.Waits = record {
      core = c.self.invariant.0;
      rounds = c.self.invariant.1;
      at = at;
      going = flag_is c.self.inside.runs.items c.args.index c.index.result.now c.index_mut-run.result.now false (run_at c.self.inside.runs.items c.args.index c.index.result.now c.args.self.now.finished (ap (λ (v : CoreView). v.finished) c.self.view_is) c.requires c.index.ensures) at (sym c.has_finished.ensures ∙ c.if-has_finished.false);
      given_is = c.deref_mut.ensures.value;
      turn_is = subst (IsTurn c.self.inside.plan.now c.index_mut-run.result.now c.take_turn-turn.new.run c.take_turn-turn.new.rounds c.deref_mut.result.now c.take_turn-turn.new.regions c.self.inside.made) c.in-Waits.is c.take_turn-turn.ensures.turn;
      gone = c.take_turn-turn.ensures.rounds;
    } in
    let s = stepped_waits c.self.inside.plan.now c.self.inside.runs.items c.self.inside.regions.items c.self.inside.rounds c.self.inside.made c.args.index c.index_mut-run.result.now c.take_turn-turn.new.run c.deref_mut.result.now c.take_turn-turn.new.regions c.take_turn-turn.new.rounds c.self.inside.regions.len (omega (arith, c.take_turn-turn.auto.regions, c.deref_mut.ensures.len)) turns in
    (s.core, s.rounds, c.take_turn-turn.ensures.roomy)

pub returns-in-Waits : goal.returns-in-Waits
returns-in-Waits g c =
    let at = (run_at c.self.inside.runs.items c.args.index c.index_mut-run.result.now c.args.self.now.finished (ap (λ (v : CoreView). v.finished) c.self.view_is) c.requires c.index_mut-run.ensures.value) in
    let turns : Turns c.self.inside.plan.now c.self.inside.runs.items c.self.inside.regions.items c.self.inside.rounds c.self.inside.made c.args.index c.index_mut-run.result.now c.take_turn-turn.new.run c.deref_mut.result.now c.take_turn-turn.new.regions c.take_turn-turn.new.rounds turn.Waits = record {
      core = c.self.invariant.0;
      rounds = c.self.invariant.1;
      at = at;
      going = flag_is c.self.inside.runs.items c.args.index c.index.result.now c.index_mut-run.result.now false (run_at c.self.inside.runs.items c.args.index c.index.result.now c.args.self.now.finished (ap (λ (v : CoreView). v.finished) c.self.view_is) c.requires c.index.ensures) at (sym c.has_finished.ensures ∙ c.if-has_finished.false);
      given_is = c.deref_mut.ensures.value;
      turn_is = subst (IsTurn c.self.inside.plan.now c.index_mut-run.result.now c.take_turn-turn.new.run c.take_turn-turn.new.rounds c.deref_mut.result.now c.take_turn-turn.new.regions c.self.inside.made) c.in-Waits.is c.take_turn-turn.ensures.turn;
      gone = c.take_turn-turn.ensures.rounds;
    } in
    let s = stepped_waits c.self.inside.plan.now c.self.inside.runs.items c.self.inside.regions.items c.self.inside.rounds c.self.inside.made c.args.index c.index_mut-run.result.now c.take_turn-turn.new.run c.deref_mut.result.now c.take_turn-turn.new.regions c.take_turn-turn.new.rounds c.self.inside.regions.len (omega (arith, c.take_turn-turn.auto.regions, c.deref_mut.ensures.len)) turns in
    let next : CoreView = view c.self.inside.plan.now (written c.self.inside.regions.len c.take_turn-turn.new.regions c.self.inside.regions.items) (set c.self.inside.runs.items c.args.index c.take_turn-turn.new.run) c.take_turn-turn.new.rounds in
    record {
      step = subst (λ (v : CoreView). IsStep v c.args.index next Waits) c.self.view_is s.step_is;
      goes = subst (λ (v : CoreView). GoesOn v next) c.self.view_is s.goes;
      stops = subst (λ (v : CoreView). HasStopped v c.args.index next Waits) c.self.view_is s.stops;
      few = few_steps c.self.inside.plan.now (set c.self.inside.runs.items c.args.index c.take_turn-turn.new.run) (written c.self.inside.regions.len c.take_turn-turn.new.regions c.self.inside.regions.items) c.take_turn-turn.new.rounds c.self.inside.made s.core s.rounds;
    }

pub invariant_of-self-in-Ended : goal.invariant_of-self-in-Ended
invariant_of-self-in-Ended g c =
    let at = (run_at c.self.inside.runs.items c.args.index c.index_mut-run.result.now c.args.self.now.finished (ap (λ (v : CoreView). v.finished) c.self.view_is) c.requires c.index_mut-run.ensures.value) in
    let turns : Turns c.self.inside.plan.now c.self.inside.runs.items c.self.inside.regions.items c.self.inside.rounds c.self.inside.made c.args.index c.index_mut-run.result.now c.take_turn-turn.new.run c.deref_mut.result.now c.take_turn-turn.new.regions c.take_turn-turn.new.rounds turn.Ended = record {
      core = c.self.invariant.0;
      rounds = c.self.invariant.1;
      at = at;
      going = flag_is c.self.inside.runs.items c.args.index c.index.result.now c.index_mut-run.result.now false (run_at c.self.inside.runs.items c.args.index c.index.result.now c.args.self.now.finished (ap (λ (v : CoreView). v.finished) c.self.view_is) c.requires c.index.ensures) at (sym c.has_finished.ensures ∙ c.if-has_finished.false);
      given_is = c.deref_mut.ensures.value;
      turn_is = subst (IsTurn c.self.inside.plan.now c.index_mut-run.result.now c.take_turn-turn.new.run c.take_turn-turn.new.rounds c.deref_mut.result.now c.take_turn-turn.new.regions c.self.inside.made) c.in-Ended.is c.take_turn-turn.ensures.turn;
      gone = c.take_turn-turn.ensures.rounds;
    } in
    let s = stepped_ended c.self.inside.plan.now c.self.inside.runs.items c.self.inside.regions.items c.self.inside.rounds c.self.inside.made c.args.index c.index_mut-run.result.now c.take_turn-turn.new.run c.deref_mut.result.now c.take_turn-turn.new.regions c.take_turn-turn.new.rounds c.self.inside.regions.len (omega (arith, c.take_turn-turn.auto.regions, c.deref_mut.ensures.len)) turns in
    (s.core, s.rounds, c.take_turn-turn.ensures.roomy)

pub returns-in-Ended : goal.returns-in-Ended
returns-in-Ended g c =
    let at = (run_at c.self.inside.runs.items c.args.index c.index_mut-run.result.now c.args.self.now.finished (ap (λ (v : CoreView). v.finished) c.self.view_is) c.requires c.index_mut-run.ensures.value) in
    let turns : Turns c.self.inside.plan.now c.self.inside.runs.items c.self.inside.regions.items c.self.inside.rounds c.self.inside.made c.args.index c.index_mut-run.result.now c.take_turn-turn.new.run c.deref_mut.result.now c.take_turn-turn.new.regions c.take_turn-turn.new.rounds turn.Ended = record {
      core = c.self.invariant.0;
      rounds = c.self.invariant.1;
      at = at;
      going = flag_is c.self.inside.runs.items c.args.index c.index.result.now c.index_mut-run.result.now false (run_at c.self.inside.runs.items c.args.index c.index.result.now c.args.self.now.finished (ap (λ (v : CoreView). v.finished) c.self.view_is) c.requires c.index.ensures) at (sym c.has_finished.ensures ∙ c.if-has_finished.false);
      given_is = c.deref_mut.ensures.value;
      turn_is = subst (IsTurn c.self.inside.plan.now c.index_mut-run.result.now c.take_turn-turn.new.run c.take_turn-turn.new.rounds c.deref_mut.result.now c.take_turn-turn.new.regions c.self.inside.made) c.in-Ended.is c.take_turn-turn.ensures.turn;
      gone = c.take_turn-turn.ensures.rounds;
    } in
    let s = stepped_ended c.self.inside.plan.now c.self.inside.runs.items c.self.inside.regions.items c.self.inside.rounds c.self.inside.made c.args.index c.index_mut-run.result.now c.take_turn-turn.new.run c.deref_mut.result.now c.take_turn-turn.new.regions c.take_turn-turn.new.rounds c.self.inside.regions.len (omega (arith, c.take_turn-turn.auto.regions, c.deref_mut.ensures.len)) turns in
    let next : CoreView = view c.self.inside.plan.now (written c.self.inside.regions.len c.take_turn-turn.new.regions c.self.inside.regions.items) (set c.self.inside.runs.items c.args.index c.take_turn-turn.new.run) c.take_turn-turn.new.rounds in
    record {
      step = subst (λ (v : CoreView). IsStep v c.args.index next Finished) c.self.view_is s.step_is;
      goes = subst (λ (v : CoreView). GoesOn v next) c.self.view_is s.goes;
      stops = subst (λ (v : CoreView). HasStopped v c.args.index next Finished) c.self.view_is s.stops;
      few = few_steps c.self.inside.plan.now (set c.self.inside.runs.items c.args.index c.take_turn-turn.new.run) (written c.self.inside.regions.len c.take_turn-turn.new.regions c.self.inside.regions.items) c.take_turn-turn.new.rounds c.self.inside.made s.core s.rounds;
    }

pub unreachable-requires : goal.unreachable-requires
unreachable-requires g c =
    let at = (run_at c.self.inside.runs.items c.args.index c.index_mut-run.result.now c.args.self.now.finished (ap (λ (v : CoreView). v.finished) c.self.view_is) c.requires c.index_mut-run.ensures.value) in
    let way = run_under_way c.self.inside.plan.now c.self.inside.runs.items c.self.inside.regions.items c.self.inside.made c.args.index c.index_mut-run.result.now c.self.invariant.0 at in
    let moved = c.in-Invalidates.ensures.turn in
    absurd (never_invalidates c.self.inside.plan.now c.take_turn-turn.new.run c.in-Invalidates.field-0 c.self.invariant.0.quiet (IsUnderWay-kept c.self.inside.plan.now c.index_mut-run.result.now c.take_turn-turn.new.run way moved.keeps) moved.reached)
