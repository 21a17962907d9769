use Rattle.fourphase_port.proofs.Stepping.{finished_port}
use Rattle.fourphase_port.proofs.steps.SteppedPort.finish.Goals as goal

pub returns-clause-port : goal.returns-clause-port
returns-clause-port c = λ table tokens frame note port. finished_port table tokens frame c.args.self note c.requires.finished port
