use Rattle.std.proofs.Common.{ap, ◌∙◌}
use Rattle.port_moves.specs.State.{StateView}
use Rattle.port_moves.proofs.Downs.{acquired_as, acquires, can_acquire_at}
use Rattle.port_moves.proofs.Adding.{acquire_adds}
use Rattle.port_moves.proofs.state.PortState.acquire.Goals as goal

pub returns-clause-port : goal.returns-clause-port
returns-clause-port g c =
    let e = c.start-cargo.ensures in
    acquired_as g.N.Naming.table g.N.Naming.tokens g.N.Naming.frame c.args.self.now c.args.note c.requires.port c.args.baton c.requires.taken c.start-cargo.result.1 e.note e.knew e.below c.requires.free.1 c.turn_to.new.self c.start-cargo.result.0 c.initiator-initiator.result c.self.inside.time
    (c.initiator-initiator.ensures ∙ ap (λ (t : StateView). t.port.engine.initiator) c.self.view_is) (ap (λ (t : StateView). t.port.time) c.self.view_is) c.turn_to.ensures e.started

pub returns-clause-acquired : goal.returns-clause-acquired
returns-clause-acquired g c =
    let e = c.start-cargo.ensures in
    acquires g.N.Naming.table g.N.Naming.tokens g.N.Naming.frame c.args.self.now c.args.note c.requires.port c.args.baton c.requires.taken c.start-cargo.result.1 e.note e.knew e.below c.requires.free.1 c.turn_to.new.self c.start-cargo.result.0 c.initiator-initiator.result c.self.inside.time
    (c.initiator-initiator.ensures ∙ ap (λ (t : StateView). t.port.engine.initiator) c.self.view_is) (ap (λ (t : StateView). t.port.time) c.self.view_is) c.turn_to.ensures e.acquired e.look

pub start-cargo-requires-clause-can : goal.start-cargo-requires-clause-can
start-cargo-requires-clause-can g c =
    can_acquire_at g.N.Naming.table g.N.Naming.tokens g.N.Naming.frame c.args.self.now c.args.note c.requires.port c.args.baton c.requires.taken c.initiator-initiator.result c.self.inside.time (c.initiator-initiator.ensures ∙ ap (λ (t : StateView). t.port.engine.initiator) c.self.view_is) (ap (λ (t : StateView). t.port.time) c.self.view_is)

pub returns-clause-adds : goal.returns-clause-adds
returns-clause-adds g c = acquire_adds g.N.Naming.frame g.N.Naming.tokens c.initiator-initiator.result c.args.self.now.port.engine.initiator (c.initiator-initiator.ensures ∙ ap (λ (t : StateView). t.port.engine.initiator) c.self.view_is) c.args.note.knows c.start-cargo.result.1.knows c.requires.port.below c.self.inside.time c.start-cargo.ensures.answer
