use Rattle.plat_core.proofs.NetGoesOn.{step_goes_on}
use Rattle.plat_core.proofs.net_core.NetCore.step_all.Goals as goal

pub loop-actor-init : goal.loop-actor-init
loop-actor-init g c = λ e has. has

pub loop-actor-preserved : goal.loop-actor-preserved
loop-actor-preserved g c =
    let n = g.N.Naming in
    λ e has. step_goes_on n.table n.tokens n.frame c.loop-actor.self c.loop-actor.actor c.step.new.self c.step.result c.step.ensures e (c.loop-actor.invariant e has)
