use Rattle.std.proofs.Common.{◌≡◌, map, take}
use Rattle.route_plan.specs.Planned.{planned_at}
use Rattle.plat_build.proofs.objects.planned_of.Given as goal

abbrev pub invariant-loop-object : goal.invariant-loop-object
invariant-loop-object l = l.planned.items ≡ map (planned_at l.plan) (take l.object-index l.objects)
