use Rattle.std.proofs.Common.{◌≡◌, map}
use Rattle.std.specs.List.{range_with_len}
use Rattle.route_plan.specs.Shares.{initiator_shares, with_scripts}
use Rattle.route_plan.proofs.shares.all_shares.Given as goal

abbrev pub invariant-loop-initiator : goal.invariant-loop-initiator
invariant-loop-initiator l = l.rows.items ≡ map (initiator_shares (with_scripts l.routes l.scripts)) (range_with_len 0 l.initiator)
