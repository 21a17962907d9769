use Rattle.port_moves.proofs.Scripts.{passed_port}
use Rattle.port_moves.proofs.state.PortState.pass.Goals as goal

pub returns-clause-port : goal.returns-clause-port
returns-clause-port c = λ table tokens frame note p. passed_port table tokens frame c.args.self.now note p c.requires.hand.0 c.requires.hand.1 c.pass_on.new.self c.args.pause c.requires.settled c.pass_on.ensures
