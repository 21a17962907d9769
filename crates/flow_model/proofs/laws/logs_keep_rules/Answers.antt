use Rattle.flow_model.proofs.RuleLemmas.{keeps_rules}
use Rattle.flow_model.proofs.laws.logs_keep_rules.Goals as goal

pub returns : goal.returns
returns c = keeps_rules
