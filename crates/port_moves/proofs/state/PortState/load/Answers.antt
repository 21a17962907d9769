use Rattle.std.proofs.Common.{ap, ◌∙◌}
use Rattle.script_engine.specs.State.{payload_of}
use Rattle.port_moves.specs.State.{StateView}
use Rattle.port_moves.proofs.Loads.{loaded}
use Rattle.port_moves.proofs.state.PortState.load.Goals as goal

pub returns : goal.returns
returns g c =
    loaded g.N.Naming.tokens g.N.Naming.frame.world c.args.self.now c.give-routed.new.self c.note_taken.new.self c.turn_to.new.self c.args.transfer c.args.baton c.fill.new.payload c.give-routed.new.to
    c.initiator-initiator.result (c.initiator-initiator.ensures ∙ ap (λ (t : StateView). t.port.engine.initiator) c.self.view_is) (c.fill.ensures ∙ ap (payload_of c.args.self.now.port.engine) c.requires.baton.0) c.give-routed.ensures.state c.give-routed.ensures.paid c.give-routed.ensures.stocked c.give-routed.result c.give-routed.ensures.routed c.note_taken.ensures c.turn_to.ensures
