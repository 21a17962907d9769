use Rattle.plat_net.proofs.Given.{shape_of}
use Rattle.router_moves.proofs.Turns.{refused}
use Rattle.router_moves.proofs.up.refuse.Goals as goal

pub returns : goal.returns
returns g c =
    let shape = shape_of c.plan.result.now c.args.net.now g.N.Naming.frame.world c.platform.ensures.valid c.plan.ensures.plan c.plan.ensures.world in
    record {
      refused = refused g.N.Naming.frame g.N.Naming.tokens c.args.note.now.knows.known shape c.args.router c.args.request c.requires.request c.requires.no_way c.args.latency c.saturating_add.result c.set_status.new.self c.requires.latency c.saturating_add.ensures c.set_status.ensures;
    }
