use Rattle.std.proofs.Common.{◌≡◌, ◌-◌, ◌∷◌, length, sym, ap, arith}
use Rattle.tlm_model.specs.Route.{Walk}
use Rattle.route_plan.specs.Routes.{bound_walk, walk_on}
use Rattle.route_plan.proofs.CountLemmas.{all_left, hop_counted, hop_on, hop_passed, hops_end, none_left}
use Rattle.route_plan.proofs.StepLemmas.{started}
use Rattle.route_plan.proofs.counts.Tally.add_hops.Goals as goal

pub loop-passed-init : goal.loop-passed-init
loop-passed-init c =
    let p = c.args.self.now.routes.now in
    let n = c.args.self.now.initiator in
    let s = c.first_step-step.result in
    let hops : (bound_walk p n c.args.address).hops ≡ s.hop ∷ (walk_on 9 p s).hops = ap (λ (w : Walk). w.hops) (started p n c.args.address s c.first_step-step.ensures.step) in
    record {
      count = omega (arith, ap length hops);
      left = all_left p n c.args.times (bound_walk p n c.args.address).hops (s.hop ∷ (walk_on 9 p s).hops) c.args.counts.now hops;
    }

pub returns-in_default : goal.returns-in_default
returns-in_default c =
    let p = c.args.self.now.routes.now in
    let n = c.args.self.now.initiator in
    let all = (bound_walk p n c.args.address).hops in
    let rest = (walk_on (9 - c.loop-passed._passed) p c.loop-passed.step).hops in
    none_left p n c.args.times rest all c.args.counts.now c.add_hop.new.counts (hops_end p c.loop-passed._passed c.loop-passed.step c.loop-passed-test.true (sym c.in_default.ensures))
    (hop_counted p n c.args.times c.loop-passed.step.hop rest all c.args.counts.now c.loop-passed.counts c.add_hop.new.counts c.loop-passed.auto.counts c.loop-passed.invariant.left c.add_hop.ensures)

pub loop-passed-preserved : goal.loop-passed-preserved
loop-passed-preserved c =
    let p = c.args.self.now.routes.now in
    let n = c.args.self.now.initiator in
    let all = (bound_walk p n c.args.address).hops in
    record {
      count = hop_passed p c.loop-passed._passed (length all) c.loop-passed.step c.in-Some.next c.loop-passed-test.true (sym c.in-Some.ensures) c.loop-passed.invariant.count;
      left = hop_on p n c.args.times c.loop-passed._passed c.loop-passed.step c.in-Some.next all c.args.counts.now c.loop-passed.counts c.add_hop.new.counts c.loop-passed-test.true (sym c.in-Some.ensures) c.loop-passed.auto.counts
          c.loop-passed.invariant.left c.add_hop.ensures;
    }
