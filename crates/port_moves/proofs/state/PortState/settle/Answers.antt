use Rattle.port_moves.proofs.Scripts.{settled_port}
use Rattle.port_moves.proofs.state.PortState.settle.Goals as goal

pub returns-clause-port : goal.returns-clause-port
returns-clause-port c = λ table tokens frame note p. settled_port table tokens frame c.args.self.now note p c.requires.hand.0 c.requires.hand.1 c.settle_time.new.self c.settle_time.ensures
