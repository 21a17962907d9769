use Rattle.std.proofs.Common.{◌≡◌, ℕ, sym, subst}
use Rattle.cargo_net.specs.Ends.{HasEndedRequest, MayEndRequest}
use Rattle.plat_net.specs.Places.{hop_place}
use Rattle.plat_net.proofs.Given.{hop_numbered, may_end_request}
use Rattle.plat_net.proofs.net.Net.end_req.Goals as goal

pub end_req-ended-requires-clause-may : goal.end_req-ended-requires-clause-may
end_req-ended-requires-clause-may g c =
    let num : c.hop.result.now.number ≡ hop_place g.N.Naming.frame.world c.args.hop = hop_numbered c.args.self.now g.N.Naming.frame.world c.args.hop c.hop.result.now c.hop.ensures c.plan.ensures.world in
    subst (λ (n : ℕ). MayEndRequest g.N.Naming.frame g.N.Naming.tokens n c.args.leg c.args.at c.args.note.knows.known) (sym num) (may_end_request g.N.Naming.frame g.N.Naming.tokens c.args.note.knows.known c.plan.ensures.frame c.args.hop c.args.leg c.args.at c.requires.can)

pub returns-clause-ended : goal.returns-clause-ended
returns-clause-ended g c = λ can.
    let num : c.hop.result.now.number ≡ hop_place g.N.Naming.frame.world c.args.hop = hop_numbered c.args.self.now g.N.Naming.frame.world c.args.hop c.hop.result.now c.hop.ensures c.plan.ensures.world in
    (subst (λ (n : ℕ). (may : MayEndRequest g.N.Naming.frame g.N.Naming.tokens n c.args.leg c.args.at c.args.note.knows.known) → HasEndedRequest g.N.Naming.frame g.N.Naming.tokens n c.args.at may.x may.pass may.hop c.end_req-ended.result.0 c.end_req-ended.result.1 c.end_req-ended.result.2.knows.known) num c.end_req-ended.ensures.ended) (may_end_request g.N.Naming.frame g.N.Naming.tokens c.args.note.knows.known c.plan.ensures.frame c.args.hop c.args.leg c.args.at can)
