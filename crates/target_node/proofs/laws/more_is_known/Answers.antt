use Rattle.target_node.proofs.Keeps.{target_more}
use Rattle.target_node.proofs.laws.more_is_known.Goals as goal

pub returns : goal.returns
returns c = λ frame tokens t known more w is. target_more frame tokens known more w t is
