use Rattle.flow_check.proofs.SilentPremises.{late_logs, late_wrong}
use Rattle.flow_check.proofs.silent.late_times_miss_their_numbers.Goals as goal

pub returns-clause-logs : goal.returns-clause-logs
returns-clause-logs c = late_logs

pub returns-clause-wrong : goal.returns-clause-wrong
returns-clause-wrong c = late_wrong
