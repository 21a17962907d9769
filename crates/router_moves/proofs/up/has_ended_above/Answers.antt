use Rattle.router_moves.proofs.Ended.{has_ended}
use Rattle.router_moves.proofs.up.has_ended_above.Goals as goal

pub returns-clause-ended : goal.returns-clause-ended
returns-clause-ended g c = λ is_so. has_ended g.N.Naming.frame g.N.Naming.tokens c.args.hop c.requires.hop c.args.txn c.args.note.knows c.has_ended.result.1.knows c.requires.begun c.has_ended.result.0 c.has_ended.ensures.answer is_so
