use Rattle.plat_core.proofs.net_core.NetCore.run_on.Goals as goal

pub loop-init : goal.loop-init
loop-init g c = record { can = tt; finite = tt; goes = λ e has. has }

pub loop-preserved : goal.loop-preserved
loop-preserved g c = record { can = tt; finite = tt; goes = λ e has. c.step_all.ensures e (c.loop.invariant.goes e has) }
