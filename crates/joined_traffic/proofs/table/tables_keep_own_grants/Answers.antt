use Rattle.joined_traffic.proofs.Tables.{table_begins, table_drops, table_passes, table_stays, table_takes}
use Rattle.joined_traffic.proofs.table.tables_keep_own_grants.Goals as goal

pub returns : goal.returns
returns c = record { begins = table_begins; stays = table_stays; passes = table_passes; takes = table_takes; drops = table_drops }
