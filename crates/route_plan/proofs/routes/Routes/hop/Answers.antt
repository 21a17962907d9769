use Rattle.std.proofs.Common.{◌≤◌, ◌∙◌, length, sym, ◌-◌, arith}
use Rattle.std.proofs.lemmas.Option.{slice_get_past}
use Rattle.route_plan.specs.Routes.{bound_walk, walk_on}
use Rattle.route_plan.proofs.StepLemmas.{hop_found, hop_started, hop_stopped, hop_taken}
use Rattle.route_plan.proofs.routes.Routes.hop.Goals as goal

pub loop-passed-init : goal.loop-passed-init
loop-passed-init c = record {
  before = omega arith;
  rest = hop_started c.args.self.now c.args.initiator c.args.address c.args.index c.first_step-step.result c.first_step-step.ensures.step;
}

pub returns-then-passed-index-clause-hop : goal.returns-then-passed-index-clause-hop
returns-then-passed-index-clause-hop c =
    hop_found (bound_walk c.args.self.now c.args.initiator c.args.address).hops (walk_on (9 - c.loop-passed.passed) c.args.self.now c.loop-passed.step).hops c.loop-passed.step.hop c.args.index c.loop-passed.passed c.if-passed-index.true c.loop-passed.invariant.rest

pub returns-in_err-step-clause-hop : goal.returns-in_err-step-clause-hop
returns-in_err-step-clause-hop c =
    c.from_residual.ensures ∙ sym (hop_stopped c.args.self.now (bound_walk c.args.self.now c.args.initiator c.args.address).hops c.args.index c.loop-passed.passed c.loop-passed.step c.loop-passed-test.true c.loop-passed.invariant.before c.if-passed-index.false (sym c.next_step.ensures ∙ c.in_err-step.was) c.loop-passed.invariant.rest)

pub loop-passed-preserved : goal.loop-passed-preserved
loop-passed-preserved c = record {
  before = omega (arith, c.loop-passed.invariant.before, c.if-passed-index.false);
  rest = hop_taken c.args.self.now (bound_walk c.args.self.now c.args.initiator c.args.address).hops c.args.index c.loop-passed.passed c.loop-passed.step c.in_ok-step.step c.loop-passed-test.true c.loop-passed.invariant.before c.if-passed-index.false (sym c.next_step.ensures ∙ c.in_ok-step.was) c.loop-passed.invariant.rest;
}

pub returns-clause-hop : goal.returns-clause-hop
returns-clause-hop c =
    let past : length (bound_walk c.args.self.now c.args.initiator c.args.address).hops ≤ c.args.index = omega (arith, c.first_step-step.ensures.few, c.loop-passed.invariant.before, c.loop-passed-test.false) in
    sym (slice_get_past (bound_walk c.args.self.now c.args.initiator c.args.address).hops c.args.index past)
