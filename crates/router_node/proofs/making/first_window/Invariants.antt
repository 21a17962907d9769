use Rattle.std.proofs.Common.{◌≡◌, ◌+◌, length, take, sum_by}
use Rattle.router_node.proofs.making.first_window.Given as goal

abbrev pub invariant-loop-row : goal.invariant-loop-row
invariant-loop-row l = l.hop ≡ length l.plan.platform.initiators + sum_by (λ row. length row.windows) (take l.row-index l.earlier)
