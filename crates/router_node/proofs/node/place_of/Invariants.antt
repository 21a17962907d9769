use Rattle.std.proofs.Common.{take}
use Rattle.std.specs.List.{AllByRecursion}
use Rattle.router_node.specs.Joins.{IsOther}
use Rattle.router_node.proofs.node.place_of.Given as goal

abbrev pub invariant-loop-at : goal.invariant-loop-at
invariant-loop-at l = AllByRecursion (IsOther l.found) (take l.at l.held)
