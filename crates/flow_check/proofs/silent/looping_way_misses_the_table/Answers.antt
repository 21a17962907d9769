use Rattle.flow_check.proofs.SilentPremises.{looping_logs, looping_wrong}
use Rattle.flow_check.proofs.silent.looping_way_misses_the_table.Goals as goal

pub returns-clause-logs : goal.returns-clause-logs
returns-clause-logs c = looping_logs

pub returns-clause-wrong : goal.returns-clause-wrong
returns-clause-wrong c = looping_wrong
