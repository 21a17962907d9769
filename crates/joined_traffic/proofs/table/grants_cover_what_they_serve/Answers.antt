use Rattle.joined_traffic.proofs.Finding.{covers_what_serves}
use Rattle.joined_traffic.proofs.table.grants_cover_what_they_serve.Goals as goal

pub returns : goal.returns
returns c = covers_what_serves
