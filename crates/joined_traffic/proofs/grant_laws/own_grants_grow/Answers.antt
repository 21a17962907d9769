use Rattle.joined_traffic.proofs.Growing.{own_grants_grow, own_grants_stand}
use Rattle.joined_traffic.proofs.grant_laws.own_grants_grow.Goals as goal

pub returns : goal.returns
returns c = record { grow = own_grants_grow; stand = own_grants_stand }
