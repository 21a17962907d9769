use Rattle.std.proofs.Common.{ap, ◌∙◌}
use Rattle.port_moves.specs.State.{StateView}
use Rattle.port_moves.proofs.Backs.{goes_free}
use Rattle.port_moves.proofs.Adding.{release_adds}
use Rattle.port_moves.proofs.state.PortState.stow.Goals as goal

pub returns-clause-port : goal.returns-clause-port
returns-clause-port g c =
    let e = c.stow-note.ensures in
    goes_free g.N.Naming.table g.N.Naming.tokens g.N.Naming.frame c.args.self.now c.args.note c.requires.port c.stow-note.result.1 e.note e.knew e.below c.requires.free

pub returns-clause-adds : goal.returns-clause-adds
returns-clause-adds g c = release_adds g.N.Naming.frame g.N.Naming.tokens c.initiator-initiator.result c.args.self.now.port.engine.initiator (c.initiator-initiator.ensures ∙ ap (λ (t : StateView). t.port.engine.initiator) c.self.view_is) c.args.note.knows c.stow-note.result.1.knows c.requires.port.below _ _ c.stow-note.ensures.answer
