use Rattle.good_history.proofs.OwnLemmas.{own_requests_stand}
use Rattle.good_history.proofs.joined_laws.own_requests_stand.Goals as goal

pub returns : goal.returns
returns c = own_requests_stand
