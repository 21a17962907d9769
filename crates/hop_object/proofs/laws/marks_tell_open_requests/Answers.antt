use Rattle.hop_object.specs.Hops.{board_of, rules_of}
use Rattle.hop_object.proofs.MarkLemmas.{marks_tell}
use Rattle.hop_object.proofs.laws.marks_tell_open_requests.Goals as goal

pub returns : goal.returns
returns g c = λ hop follows once. marks_tell (rules_of hop) hop.log.events (board_of hop) follows.reached once
