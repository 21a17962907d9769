use Rattle.std.proofs.Common.{sym, arith}
use Rattle.std.proofs.lemmas.Grind.{common_steps}
use Rattle.script_engine.proofs.Remaining.{drop_past, first_proper, left}
use Rattle.script_engine.proofs.walk.ScriptWalk.next.Goals as goal

pub op_for-requires : goal.op_for-requires
op_for-requires c = first_proper c.self.inside.cursor c.in-Some-current.operation.now c.in-Some-current.ensures.next c.self.invariant.proper

pub returns-in-Some-current : goal.returns-in-Some-current
returns-in-Some-current c = grind (arith, common_steps, left c.self.inside.cursor c.in-Some-current.operation.now c.in-Some-current.ensures.next)

pub returns-in-None : goal.returns-in-None
returns-in-None c = grind (arith, common_steps, drop_past c.self.inside.cursor.operations c.self.inside.cursor.done (sym c.in-None.ensures.next))
