use Rattle.std.proofs.Common.{◌≡◌, ℕ, sym, subst}
use Rattle.cargo_net.specs.Answered.{IsAnsweredAs}
use Rattle.cargo_net.specs.Responds.{MayRespond}
use Rattle.plat_net.specs.Places.{hop_place}
use Rattle.plat_net.proofs.Given.{hop_numbered, may_respond, shape_of}
use Rattle.plat_net.proofs.net.Net.backward.Goals as goal

pub backward-answered-requires-clause-may : goal.backward-answered-requires-clause-may
backward-answered-requires-clause-may g c =
    let num : c.hop.result.now.number ≡ hop_place g.N.Naming.frame.world c.args.hop = hop_numbered c.args.self.now g.N.Naming.frame.world c.args.hop c.hop.result.now c.hop.ensures c.plan.ensures.world in
    let shape = shape_of c.plan.result.now c.args.self.now g.N.Naming.frame.world c.platform.ensures.valid c.plan.ensures.plan c.plan.ensures.world in
    subst (λ (n : ℕ). MayRespond g.N.Naming.frame g.N.Naming.tokens n c.args.leg c.args.cargo c.args.at c.args.note.knows.known) (sym num) (may_respond g.N.Naming.frame g.N.Naming.tokens c.args.note.knows.known c.plan.ensures.frame shape c.args.hop c.args.leg c.args.cargo c.args.at c.requires.can)

pub returns-clause-responded : goal.returns-clause-responded
returns-clause-responded g c = λ can.
    let num : c.hop.result.now.number ≡ hop_place g.N.Naming.frame.world c.args.hop = hop_numbered c.args.self.now g.N.Naming.frame.world c.args.hop c.hop.result.now c.hop.ensures c.plan.ensures.world in
    let shape = shape_of c.plan.result.now c.args.self.now g.N.Naming.frame.world c.platform.ensures.valid c.plan.ensures.plan c.plan.ensures.world in
    (subst (λ (n : ℕ). (may : MayRespond g.N.Naming.frame g.N.Naming.tokens n c.args.leg c.args.cargo c.args.at c.args.note.knows.known) → IsAnsweredAs g.N.Naming.frame g.N.Naming.tokens n c.args.leg c.args.cargo c.args.at may.pass may.hop c.args.note.knows c.backward-answered.result) num c.backward-answered.ensures.responded) (may_respond g.N.Naming.frame g.N.Naming.tokens c.args.note.knows.known c.plan.ensures.frame shape c.args.hop c.args.leg c.args.cargo c.args.at can)
