use Rattle.net_end.proofs.Leaving.{objects_leave}
use Rattle.net_end.proofs.objects_leave_what_is_wanted.Goals as goal

pub returns : goal.returns
returns c = objects_leave
