use Rattle.std.proofs.Common.{refl}
use Rattle.route_plan.specs.Routes.{binding_ends}
use Rattle.route_plan.proofs.NumberLemmas.{numbered_more}
use Rattle.route_plan.proofs.ends.binding_ends.Goals as goal

pub loop-number-preserved : goal.loop-number-preserved
loop-number-preserved c =
    numbered_more binding_ends c.args.initiators.now c.loop-number.ends.items c.push.new.self.items c.loop-number.number c.index-initiators-number.result _ c.loop-number-test.true
    c.index-initiators-number.is refl c.in_ok-push.ensures.items c.loop-number.invariant
