use Rattle.plat_net.proofs.WalkLemmas.{leads_to_memory}
use Rattle.decoupled_run.proofs.send.send.Goals as goal
use Rattle.std.proofs.Common.{sym}

pub b_transport_along-requires-clause-memory : goal.b_transport_along-requires-clause-memory
b_transport_along-requires-clause-memory g c =
    leads_to_memory g.N.Naming.frame.world c.args.who c.args.payload.address c.args.next.now.route (sym c.requires.route)
