use Rattle.std.proofs.Common.{◌≡◌, ℕ, sym, subst}
use Rattle.cargo_net.specs.Tried.{IsTried}
use Rattle.cargo_net.specs.Begins.{MayBegin}
use Rattle.plat_net.specs.Places.{hop_place}
use Rattle.plat_net.proofs.Given.{hop_numbered, may_begin, shape_of}
use Rattle.plat_net.proofs.net.Net.begin_req.Goals as goal

pub begin_req-tried-requires-clause-may : goal.begin_req-tried-requires-clause-may
begin_req-tried-requires-clause-may g c =
    let num : c.hop.result.now.number ≡ hop_place g.N.Naming.frame.world c.args.hop = hop_numbered c.args.self.now g.N.Naming.frame.world c.args.hop c.hop.result.now c.hop.ensures c.plan.ensures.world in
    let shape = shape_of c.plan.result.now c.args.self.now g.N.Naming.frame.world c.platform.ensures.valid c.plan.ensures.plan c.plan.ensures.world in
    subst (λ (n : ℕ). MayBegin g.N.Naming.frame g.N.Naming.tokens n c.args.cargo c.args.at c.args.note.knows.known) (sym num) (may_begin g.N.Naming.frame g.N.Naming.tokens c.args.note.knows.known c.plan.ensures.frame shape c.args.hop c.args.cargo c.args.at c.requires.can)

pub returns-clause-tried : goal.returns-clause-tried
returns-clause-tried g c = λ can.
    let num : c.hop.result.now.number ≡ hop_place g.N.Naming.frame.world c.args.hop = hop_numbered c.args.self.now g.N.Naming.frame.world c.args.hop c.hop.result.now c.hop.ensures c.plan.ensures.world in
    let shape = shape_of c.plan.result.now c.args.self.now g.N.Naming.frame.world c.platform.ensures.valid c.plan.ensures.plan c.plan.ensures.world in
    (subst (λ (n : ℕ). (may : MayBegin g.N.Naming.frame g.N.Naming.tokens n c.args.cargo c.args.at c.args.note.knows.known) → IsTried g.N.Naming.frame g.N.Naming.tokens n c.args.cargo c.args.at may.pass may.hop c.args.note.knows c.begin_req-tried.result) num c.begin_req-tried.ensures.tried) (may_begin g.N.Naming.frame g.N.Naming.tokens c.args.note.knows.known c.plan.ensures.frame shape c.args.hop c.args.cargo c.args.at can)
