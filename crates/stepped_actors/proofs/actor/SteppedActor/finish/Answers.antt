use Rattle.std.proofs.Common.{sym, subst}
use Rattle.net_end.specs.Leaves.{IsFinished}
use Rattle.stepped_actors.specs.declared.actor.SteppedActor.{SteppedActor}
use Rattle.stepped_actors.specs.Actors.{HasEnded, KeepsAs, number_of}
use Rattle.decoupled_run.proofs.DoneLemmas.{decoupled_finished}
use Rattle.fourphase_port.proofs.Finished.{port_finished}
use Rattle.stepped_actors.proofs.actor.SteppedActor.finish.Goals as goal

pub returns-in-Decoupled : goal.returns-in-Decoupled
returns-in-Decoupled g c =
    let n = g.N.Naming in
    let p = n.frame.world in
    subst (λ (a : SteppedActor). IsFinished n.table n.tokens p (number_of p.platform a) c.finish.result.0 c.args.note.now c.finish.result.1) (sym c.in-Decoupled.is)
    (decoupled_finished n.table n.tokens p c.in-Decoupled.initiator.run.engine.initiator c.finish.result.0 c.args.note.now c.finish.result.1 c.finish.ensures)

pub returns-in-FourPhase : goal.returns-in-FourPhase
returns-in-FourPhase g c =
    let n = g.N.Naming in
    let p = n.frame.world in
    let is = c.in-FourPhase.is in
    let port = c.in-FourPhase.port in
    let e = c.finish-wallet.ensures in
    let keeps = subst (λ (a : SteppedActor). KeepsAs n.table n.tokens n.frame a c.args.note.now) is c.requires.keeps.keeps in
    subst (λ (a : SteppedActor). IsFinished n.table n.tokens p (number_of p.platform a) c.finish-wallet.result.1 c.args.note.now c.finish-wallet.result.0) (sym is)
    (port_finished n.table n.tokens n.frame port.state c.args.note.now c.finish-wallet.result.1 (e.port n.table n.tokens n.frame c.args.note.now keeps) (subst HasEnded is c.requires.ended) e.end c.finish-wallet.result.0 e.wallet)
