use Rattle.stepped_actors.proofs.Begun.{begun_more}
use Rattle.stepped_actors.proofs.begin.push_initiator.Goals as goal

pub returns-clause-begun : goal.returns-clause-begun
returns-clause-begun g c =
    let n = g.N.Naming in
    begun_more n.table n.tokens n.frame c.args.number c.args.actors.now.items c.push.new.self.items c.in_ok-actor.actor c.requires.begun c.requires.count c.in_ok-actor.ensures.actor c.in_ok-push.ensures.items
