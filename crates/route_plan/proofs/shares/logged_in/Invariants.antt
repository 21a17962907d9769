use Rattle.std.proofs.Common.{◌≡◌, take}
use Rattle.route_plan.specs.Counts.{capped}
use Rattle.route_plan.specs.Shares.{logged_in}
use Rattle.route_plan.proofs.shares.logged_in.Given as goal

abbrev pub invariant-loop-share : goal.invariant-loop-share
invariant-loop-share l = l.sum ≡ capped (logged_in (take l.share-index l.shares))
