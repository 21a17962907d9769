use Rattle.good_history.proofs.JoinedWorked.{meeting_is_good}
use Rattle.good_history.proofs.joined_worked.meeting_is_good.Goals as goal

pub returns : goal.returns
returns c = meeting_is_good
