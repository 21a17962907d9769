use Rattle.std.proofs.Common.{◌<◌, ℕ, length, sym, subst}
use Rattle.plat_run.specs.Ports.{PortRun}
use Rattle.plat_run.proofs.port_job.PortJob.let_go.Goals as goal

pub returns : goal.returns
returns g c =
    let p = g.N.Naming.frame.world in
    let i = c.self.invariant in
    subst (λ (r : PortRun). r.port.port.engine.initiator < length p.platform.initiators) c.self.view_is
    (subst (λ (k : ℕ). k < length p.platform.initiators) (sym i.number_is) i.below)
