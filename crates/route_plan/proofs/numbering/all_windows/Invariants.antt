use Rattle.std.proofs.Common.{◌≡◌, map, take}
use Rattle.route_plan.specs.Routes.{numbered_windows}
use Rattle.route_plan.proofs.numbering.all_windows.Given as goal

abbrev pub invariant-loop-router : goal.invariant-loop-router
invariant-loop-router l = l.windows.items ≡ map numbered_windows (take l.router-index l.routers)
