use Rattle.std.proofs.Common.{Option, subst}
use Rattle.std.specs.Prelude.{IfSome}
use Rattle.cargo_net.specs.Fetched.{HasFetchedResponse}
use Rattle.cargo_net.specs.declared.fetches.FetchedResponse.{FetchedResponse}
use Rattle.plat_net.specs.Places.{hop_place}
use Rattle.plat_net.proofs.Given.{shape_of}
use Rattle.router_moves.proofs.Turns.{fetched_up}
use Rattle.router_moves.proofs.up.fetch_up.Goals as goal

pub returns-in-Some-clause-fetched : goal.returns-in-Some-clause-fetched
returns-in-Some-clause-fetched g c =
    let shape = shape_of c.plan.result.now c.args.net.now g.N.Naming.frame.world c.platform.ensures.valid c.plan.ensures.plan c.plan.ensures.world in
    let h = subst (λ (o : Option FetchedResponse). IfSome o (λ (r : FetchedResponse). HasFetchedResponse g.N.Naming.frame g.N.Naming.tokens (hop_place g.N.Naming.frame.world c.args.hop) r c.fetch_response-fetched.result.1.knows.known)) c.in-Some.is c.fetch_response-fetched.ensures.fetched in
    fetched_up g.N.Naming.frame g.N.Naming.tokens c.fetch_response-fetched.result.1.knows.known shape c.args.hop c.requires.hop c.requires.window c.in-Some.field-0 h
