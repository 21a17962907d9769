use Rattle.std.proofs.Common.{◌≡◌, map, take}
use Rattle.cargo_net.specs.Gates.{gates_at}
use Rattle.plat_build.proofs.objects.gates_of.Given as goal

abbrev pub invariant-loop-object : goal.invariant-loop-object
invariant-loop-object l = l.gates.items ≡ map (gates_at l.platform) (take l.object-index l.objects)
