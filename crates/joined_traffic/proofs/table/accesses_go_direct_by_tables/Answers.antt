use Rattle.joined_traffic.proofs.Tables.{none_found}
use Rattle.joined_traffic.proofs.table.accesses_go_direct_by_tables.Goals as goal

pub returns : goal.returns
returns c = none_found
