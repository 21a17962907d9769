use Rattle.std.proofs.Common.{◌≡◌, ℕ, ◌∷◌, [], ◌++◌, sym, subst, ap}
use Rattle.shared_object.specs.Standing.{Numbers}
use Rattle.region_object.specs.declared.call.RegionReply.TheVariants.{Accessed}
use Rattle.cargo_net.specs.Memories.{HasServedCall}
use Rattle.cargo_net.specs.Serves.{HasServed, MayServe, access_call}
use Rattle.plat_net.specs.Places.{memory_place}
use Rattle.plat_net.proofs.Given.{may_serve, memory_numbered, served_at, shape_of}
use Rattle.plat_net.proofs.net.Net.serve.Goals as goal

pub serve-requires-clause-may : goal.serve-requires-clause-may
serve-requires-clause-may g c =
    let num = memory_numbered g.N.Naming.frame.world c.args.memory c.memory.result.now c.memory.ensures c.requires.memory in
    let shape = shape_of c.plan.result.now c.args.self.now g.N.Naming.frame.world c.platform.ensures.valid c.plan.ensures.plan c.plan.ensures.world in
    subst (λ (n : ℕ). MayServe g.N.Naming.frame g.N.Naming.tokens n c.args.cargo c.args.at c.args.note.knows.known) (sym num)
    (may_serve g.N.Naming.frame g.N.Naming.tokens c.args.note.knows.known c.plan.ensures.frame shape c.args.memory c.args.cargo c.args.at c.requires.memory c.requires.can)

pub returns-clause-look : goal.returns-clause-look
returns-clause-look g c =
    let num = memory_numbered g.N.Naming.frame.world c.args.memory c.memory.result.now c.memory.ensures c.requires.memory in
    subst (λ (n : ℕ). c.serve.result.1.knows.looks ≡ c.args.note.knows.looks ++ (n, 0) ∷ []) num c.serve.ensures.look

pub returns-clause-answer : goal.returns-clause-answer
returns-clause-answer g c =
    let num = memory_numbered g.N.Naming.frame.world c.args.memory c.memory.result.now c.memory.ensures c.requires.memory in
    let own : c.memory.result.now.own ≡ c.args.memory = ap (λ (s : Numbers). s.own) c.memory.ensures in
    subst (λ (o : ℕ). HasServedCall g.N.Naming.frame g.N.Naming.tokens (memory_place g.N.Naming.frame.world c.args.memory) o c.args.note.knows c.serve.result.1.knows (access_call c.args.cargo c.args.at) (Accessed c.serve.result.0.baton.payload)) own
    (subst (λ (n : ℕ). HasServedCall g.N.Naming.frame g.N.Naming.tokens n c.memory.result.now.own c.args.note.knows c.serve.result.1.knows (access_call c.args.cargo c.args.at) (Accessed c.serve.result.0.baton.payload)) num c.serve.ensures.answer)

pub returns-clause-served : goal.returns-clause-served
returns-clause-served g c = λ can.
    let num = memory_numbered g.N.Naming.frame.world c.args.memory c.memory.result.now c.memory.ensures c.requires.memory in
    let shape = shape_of c.plan.result.now c.args.self.now g.N.Naming.frame.world c.platform.ensures.valid c.plan.ensures.plan c.plan.ensures.world in
    let served = subst (λ (n : ℕ). (may : MayServe g.N.Naming.frame g.N.Naming.tokens n c.args.cargo c.args.at c.args.note.knows.known) →
    HasServed g.N.Naming.frame g.N.Naming.tokens n c.args.cargo c.args.at may.pass may.hop may.fetched.down.asked.access may.route c.serve.result.0 c.serve.result.1.knows.known) num c.serve.ensures.served in
    served_at g.N.Naming.frame g.N.Naming.tokens c.args.note.knows.known c.plan.ensures.frame shape c.args.memory c.args.cargo c.args.at c.requires.memory can c.serve.result.0 c.serve.result.1.knows.known
    (served (may_serve g.N.Naming.frame g.N.Naming.tokens c.args.note.knows.known c.plan.ensures.frame shape c.args.memory c.args.cargo c.args.at c.requires.memory can))
