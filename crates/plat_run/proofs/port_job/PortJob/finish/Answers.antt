use Rattle.std.proofs.Common.{ap, subst, ◌∙◌}
use Rattle.net_end.specs.Leaves.{IsFinished}
use Rattle.plat_run.specs.Ports.{PortRun}
use Rattle.fourphase_port.proofs.Finished.{port_finished}
use Rattle.plat_run.proofs.port_job.PortJob.finish.Goals as goal

pub finish-note-requires : goal.finish-note-requires
finish-note-requires g c = record { finished = c.self.invariant.ended (ap (λ (r : PortRun). r.finished) c.self.view_is ∙ c.requires) }

pub returns : goal.returns
returns g c =
    let n = g.N.Naming in
    let e = c.finish-note.ensures in
    let done = c.self.invariant.ended (ap (λ (r : PortRun). r.finished) c.self.view_is ∙ c.requires) in
    subst (λ (r : PortRun). IsFinished n.table n.tokens n.frame.world r.port.port.engine.initiator c.finish-note.result.2 c.finish-note.result.0 c.finish-note.result.1) c.self.view_is
    (port_finished n.table n.tokens n.frame c.self.inside.port.state c.finish-note.result.0 c.finish-note.result.2 e.port done e.end c.finish-note.result.1 e.wallet)
