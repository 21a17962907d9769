use Rattle.joined_traffic.proofs.Good.{parts_make_good, parts_make_sound}
use Rattle.joined_traffic.proofs.grant_laws.joined_histories_with_grants_are_good.Goals as goal

pub returns : goal.returns
returns c = record { sound = parts_make_sound; good = parts_make_good }
