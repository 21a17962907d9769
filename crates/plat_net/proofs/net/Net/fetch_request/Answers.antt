use Rattle.std.proofs.Common.{sym, subst}
use Rattle.cargo_net.specs.Fetched.{IsHopThere}
use Rattle.plat_net.proofs.Given.{hop_known, hop_numbered}
use Rattle.plat_net.proofs.net.Net.fetch_request.Goals as goal

pub fetch_request-fetched-requires-clause-there : goal.fetch_request-fetched-requires-clause-there
fetch_request-fetched-requires-clause-there g c =
    subst (IsHopThere g.N.Naming.frame.world) (sym (hop_numbered c.args.self.now g.N.Naming.frame.world c.args.hop c.hop.result.now c.hop.ensures c.plan.ensures.world)) (hop_known g.N.Naming.frame g.N.Naming.tokens c.args.note.knows.known c.plan.ensures.frame c.args.hop c.requires.hop)
