use Rattle.net_end.proofs.Leaving.{memories_leave_gates}
use Rattle.net_end.proofs.memories_leave_gates.Goals as goal

pub returns : goal.returns
returns c = memories_leave_gates
