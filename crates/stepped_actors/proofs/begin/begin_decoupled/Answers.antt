use Rattle.std.proofs.Common.{◌<◌, length, subst}
use Rattle.tlm_model.specs.Plan.{Plan}
use Rattle.stepped_actors.proofs.Begun.{decoupled_begun}
use Rattle.stepped_actors.proofs.begin.begin_decoupled.Goals as goal

pub returns-clause-actor : goal.returns-clause-actor
returns-clause-actor g c =
    let n = g.N.Naming in
    decoupled_begun n.table n.tokens n.frame c.args.number c.initiators_stay.ensures.stepped (subst (λ (p : Plan). c.args.number < length p.platform.initiators) c.plan.ensures.world c.requires.number) c.in_ok-initiator.initiator c.in_ok-initiator.note c.in_ok-initiator.ensures
