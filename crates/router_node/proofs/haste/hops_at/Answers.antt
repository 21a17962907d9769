use Rattle.router_node.proofs.Hasty.{all_looked}
use Rattle.router_node.proofs.haste.hops_at.Goals as goal

pub returns-then-not-hasty : goal.returns-then-not-hasty
returns-then-not-hasty g c = all_looked c.args.hasty c.args.hops.now
