use Rattle.joined_traffic.proofs.Returning.{places_tell_return, return_stays}
use Rattle.joined_traffic.proofs.grant_laws.places_tell_returns.Goals as goal

pub returns : goal.returns
returns c = record { returned = places_tell_return; stays = return_stays }
