use Rattle.std.proofs.Common.{Option, refl, subst}
use Rattle.std.specs.Prelude.{IfSome}
use Rattle.cargo_net.specs.Fetched.{HasFetchedRequest}
use Rattle.cargo_net.specs.declared.fetches.FetchedRequest.{FetchedRequest}
use Rattle.plat_net.specs.Places.{hop_place}
use Rattle.router_moves.proofs.Downs.{request_is}
use Rattle.router_moves.proofs.down.fetch_down.Goals as goal

pub returns-in-Some-clause-fetched : goal.returns-in-Some-clause-fetched
returns-in-Some-clause-fetched g c =
    let known = c.fetch_request-fetched.result.1.knows.known in
    let h = subst (λ (o : Option FetchedRequest). IfSome o (λ (r : FetchedRequest). HasFetchedRequest g.N.Naming.frame g.N.Naming.tokens (hop_place g.N.Naming.frame.world c.args.hop) r c.fetch_request-fetched.result.1.knows.known)) c.in-Some.is c.fetch_request-fetched.ensures.fetched in
    (refl, request_is g.N.Naming.frame g.N.Naming.tokens known c.args.router c.args.hop c.requires.hop c.requires.leads c.in-Some.field-0 h)
