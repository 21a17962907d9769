use Rattle.std.proofs.Common.{refl}
use Rattle.port_moves.specs.State.{with_note}
use Rattle.port_moves.proofs.Backs.{stands}
use Rattle.fourphase_port.specs.Stepped.{stepped_with}
use Rattle.fourphase_port.proofs.Pumping.{number_of}
use Rattle.fourphase_port.proofs.Stepping.{at_move}
use Rattle.fourphase_port.proofs.steps.SteppedPort.move_on.Goals as goal

pub to_tell-requires : goal.to_tell-requires
to_tell-requires g c =
    let s = c.args.self.now in
    stands g.N.Naming.table g.N.Naming.tokens g.N.Naming.frame s.state c.args.note (at_move g.N.Naming.table g.N.Naming.tokens g.N.Naming.frame s c.args.note c.requires.port c.requires.closes)

pub returns-clause-number : goal.returns-clause-number
returns-clause-number g c =
    let s = c.args.self.now in
    let p = at_move g.N.Naming.table g.N.Naming.tokens g.N.Naming.frame s c.args.note c.requires.port c.requires.closes in
    number_of g.N.Naming.frame s.state.port.engine.initiator p.initiator p.is s.state.hand c.args.fetched (stepped_with s c.args.note) (with_note c.advance.new.state c.advance.result.1) c.advance.result.0 c.advance.ensures.moved refl
