use Rattle.script_engine.proofs.States.{ready_begun}
use Rattle.script_engine.proofs.walk.ScriptWalk.new.Goals as goal

pub invariant_of-result : goal.invariant_of-result
invariant_of-result c = rw c.new.ensures.begun (ready_begun c.args.initiator c.args.script c.new.ensures.proper)
