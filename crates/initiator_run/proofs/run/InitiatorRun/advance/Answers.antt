use Rattle.std.proofs.Common.{◌≡◌, ap, sym, ◌∙◌}
use Rattle.initiator_run.specs.Run.{Run}
use Rattle.initiator_run.proofs.AdvanceLemmas.{Goes-ended, Goes-let, Goes-moved}
use Rattle.initiator_run.proofs.OnceLemmas.{HasMoved-let, HasMoved-then}
use Rattle.initiator_run.proofs.RunLemmas.{Keeps-then}
use Rattle.initiator_run.proofs.run.InitiatorRun.advance.Goals as goal

pub step-requires-clause-way : goal.step-requires-clause-way
step-requires-clause-way g c =
    let goes = Goes-let c.args.plan.now c.args.self.now c.loop-self.self c.is_let_through.new.self c.args.rounds.now c.loop-self.rounds c.is_let_through.new.rounds c.loop-self.invariant.0 c.loop-self.invariant.1 c.is_let_through.ensures.run c.is_let_through.ensures.rounds in
    goes.advanced.way

pub loop-self-preserved : goal.loop-self-preserved
loop-self-preserved g c =
    let goes = Goes-let c.args.plan.now c.args.self.now c.loop-self.self c.is_let_through.new.self c.args.rounds.now c.loop-self.rounds c.is_let_through.new.rounds c.loop-self.invariant.0 c.loop-self.invariant.1 c.is_let_through.ensures.run c.is_let_through.ensures.rounds in
    let moved = Goes-moved c.args.plan.now c.args.self.now c.is_let_through.new.self c.step.new.self c.args.rounds.now c.is_let_through.new.rounds goes c.loop-self-test.ensures.through c.step.ensures.keeps c.step.ensures.syncs c.in-Went.ensures.cases.1 in (
      moved.advanced,
      moved.gone,
      c.step.ensures.roomy ∙ c.loop-self.invariant.2,
      HasMoved-then c.args.plan.now c.args.self.now c.is_let_through.new.self c.step.new.self (HasMoved-let c.args.plan.now c.args.self.now c.loop-self.self c.is_let_through.new.self c.loop-self.invariant.3 c.is_let_through.ensures.run) c.step.ensures.keeps c.step.ensures.once,
    )

pub returns-in-Reached-clause-keeps : goal.returns-in-Reached-clause-keeps
returns-in-Reached-clause-keeps g c =
    let goes = Goes-let c.args.plan.now c.args.self.now c.loop-self.self c.is_let_through.new.self c.args.rounds.now c.loop-self.rounds c.is_let_through.new.rounds c.loop-self.invariant.0 c.loop-self.invariant.1 c.is_let_through.ensures.run c.is_let_through.ensures.rounds in
    Keeps-then c.args.plan.now c.args.self.now c.is_let_through.new.self c.step.new.self goes.advanced.keeps c.step.ensures.keeps

pub returns-in-Reached-clause-cases : goal.returns-in-Reached-clause-cases
returns-in-Reached-clause-cases g c =
    let goes = Goes-let c.args.plan.now c.args.self.now c.loop-self.self c.is_let_through.new.self c.args.rounds.now c.loop-self.rounds c.is_let_through.new.rounds c.loop-self.invariant.0 c.loop-self.invariant.1 c.is_let_through.ensures.run c.is_let_through.ensures.rounds in
    let same : c.step.new.self ≡ c.is_let_through.new.self = c.in-Reached.ensures.cases.1 in (
      c.in-Reached.ensures.cases.0,
      ap (λ (r : Run). r.finished) same ∙ goes.advanced.finished,
      ap (λ (r : Run). r.round) same ∙ (c.loop-self-test.ensures.through ∙ ap (λ (r : Run). r.syncs) (sym same)),
    )

pub returns-in-Reached-clause-rounds : goal.returns-in-Reached-clause-rounds
returns-in-Reached-clause-rounds g c =
    let goes = Goes-let c.args.plan.now c.args.self.now c.loop-self.self c.is_let_through.new.self c.args.rounds.now c.loop-self.rounds c.is_let_through.new.rounds c.loop-self.invariant.0 c.loop-self.invariant.1 c.is_let_through.ensures.run c.is_let_through.ensures.rounds in
    let same : c.step.new.self ≡ c.is_let_through.new.self = c.in-Reached.ensures.cases.1 in
    (Goes-moved c.args.plan.now c.args.self.now c.is_let_through.new.self c.step.new.self c.args.rounds.now c.is_let_through.new.rounds goes c.loop-self-test.ensures.through c.step.ensures.keeps c.step.ensures.syncs (ap (λ (r : Run). r.finished) same)).gone

pub returns-in-Invalidates-clause-keeps : goal.returns-in-Invalidates-clause-keeps
returns-in-Invalidates-clause-keeps g c =
    let goes = Goes-let c.args.plan.now c.args.self.now c.loop-self.self c.is_let_through.new.self c.args.rounds.now c.loop-self.rounds c.is_let_through.new.rounds c.loop-self.invariant.0 c.loop-self.invariant.1 c.is_let_through.ensures.run c.is_let_through.ensures.rounds in
    Keeps-then c.args.plan.now c.args.self.now c.is_let_through.new.self c.step.new.self goes.advanced.keeps c.step.ensures.keeps

pub returns-in-Invalidates-clause-cases : goal.returns-in-Invalidates-clause-cases
returns-in-Invalidates-clause-cases g c =
    let goes = Goes-let c.args.plan.now c.args.self.now c.loop-self.self c.is_let_through.new.self c.args.rounds.now c.loop-self.rounds c.is_let_through.new.rounds c.loop-self.invariant.0 c.loop-self.invariant.1 c.is_let_through.ensures.run c.is_let_through.ensures.rounds in
    let same : c.step.new.self ≡ c.is_let_through.new.self = c.in-Invalidates.ensures.cases.1 in (
      c.in-Invalidates.ensures.cases.0,
      ap (λ (r : Run). r.finished) same ∙ goes.advanced.finished,
      ap (λ (r : Run). r.round) same ∙ (c.loop-self-test.ensures.through ∙ ap (λ (r : Run). r.syncs) (sym same)),
    )

pub returns-in-Invalidates-clause-rounds : goal.returns-in-Invalidates-clause-rounds
returns-in-Invalidates-clause-rounds g c =
    let goes = Goes-let c.args.plan.now c.args.self.now c.loop-self.self c.is_let_through.new.self c.args.rounds.now c.loop-self.rounds c.is_let_through.new.rounds c.loop-self.invariant.0 c.loop-self.invariant.1 c.is_let_through.ensures.run c.is_let_through.ensures.rounds in
    let same : c.step.new.self ≡ c.is_let_through.new.self = c.in-Invalidates.ensures.cases.1 in
    (Goes-moved c.args.plan.now c.args.self.now c.is_let_through.new.self c.step.new.self c.args.rounds.now c.is_let_through.new.rounds goes c.loop-self-test.ensures.through c.step.ensures.keeps c.step.ensures.syncs (ap (λ (r : Run). r.finished) same)).gone

pub returns-in-Ended-clause-keeps : goal.returns-in-Ended-clause-keeps
returns-in-Ended-clause-keeps g c =
    let goes = Goes-let c.args.plan.now c.args.self.now c.loop-self.self c.is_let_through.new.self c.args.rounds.now c.loop-self.rounds c.is_let_through.new.rounds c.loop-self.invariant.0 c.loop-self.invariant.1 c.is_let_through.ensures.run c.is_let_through.ensures.rounds in
    Keeps-then c.args.plan.now c.args.self.now c.is_let_through.new.self c.step.new.self goes.advanced.keeps c.step.ensures.keeps

pub returns-in-Ended-clause-cases : goal.returns-in-Ended-clause-cases
returns-in-Ended-clause-cases g c =
    let same = c.in-Ended.ensures.cases.1 in (
      c.in-Ended.ensures.cases.0,
      ap (λ (r : Run). r.round) same ∙ (c.loop-self-test.ensures.through ∙ ap (λ (r : Run). r.syncs) (sym same)),
    )

pub returns-in-Ended-clause-rounds : goal.returns-in-Ended-clause-rounds
returns-in-Ended-clause-rounds g c =
    let goes = Goes-let c.args.plan.now c.args.self.now c.loop-self.self c.is_let_through.new.self c.args.rounds.now c.loop-self.rounds c.is_let_through.new.rounds c.loop-self.invariant.0 c.loop-self.invariant.1 c.is_let_through.ensures.run c.is_let_through.ensures.rounds in
    Goes-ended c.args.plan.now c.args.self.now c.is_let_through.new.self c.step.new.self c.args.rounds.now c.is_let_through.new.rounds c.finish.new.self c.initiator.result c.requires.round c.requires.going goes c.loop-self-test.ensures.through c.in-Ended.ensures.cases.1
    (c.initiator.ensures ∙ ap (λ (r : Run). r.engine.initiator) c.self.view_is) c.finish.ensures.members c.finish.ensures.close

pub returns-clause-rounds : goal.returns-clause-rounds
returns-clause-rounds g c =
    (Goes-let c.args.plan.now c.args.self.now c.loop-self.self c.is_let_through.new.self c.args.rounds.now c.loop-self.rounds c.is_let_through.new.rounds c.loop-self.invariant.0 c.loop-self.invariant.1 c.is_let_through.ensures.run c.is_let_through.ensures.rounds).gone

pub returns-in-Reached-clause-moved : goal.returns-in-Reached-clause-moved
returns-in-Reached-clause-moved g c =
    HasMoved-then c.args.plan.now c.args.self.now c.is_let_through.new.self c.step.new.self (HasMoved-let c.args.plan.now c.args.self.now c.loop-self.self c.is_let_through.new.self c.loop-self.invariant.3 c.is_let_through.ensures.run) c.step.ensures.keeps c.step.ensures.once

pub returns-in-Invalidates-clause-moved : goal.returns-in-Invalidates-clause-moved
returns-in-Invalidates-clause-moved g c =
    HasMoved-then c.args.plan.now c.args.self.now c.is_let_through.new.self c.step.new.self (HasMoved-let c.args.plan.now c.args.self.now c.loop-self.self c.is_let_through.new.self c.loop-self.invariant.3 c.is_let_through.ensures.run) c.step.ensures.keeps c.step.ensures.once

pub returns-in-Ended-clause-moved : goal.returns-in-Ended-clause-moved
returns-in-Ended-clause-moved g c =
    HasMoved-then c.args.plan.now c.args.self.now c.is_let_through.new.self c.step.new.self (HasMoved-let c.args.plan.now c.args.self.now c.loop-self.self c.is_let_through.new.self c.loop-self.invariant.3 c.is_let_through.ensures.run) c.step.ensures.keeps c.step.ensures.once

pub returns-clause-moved : goal.returns-clause-moved
returns-clause-moved g c = HasMoved-let c.args.plan.now c.args.self.now c.loop-self.self c.is_let_through.new.self c.loop-self.invariant.3 c.is_let_through.ensures.run
