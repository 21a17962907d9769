use Rattle.std.proofs.Common.{◌≡◌, take}
use Rattle.std.specs.List.{AllByRecursion}
use Rattle.traffic_script.specs.Proper.{AreProper}
use Rattle.route_plan.proofs.copies.copy_scripts.Given as goal

abbrev pub invariant-loop-script : goal.invariant-loop-script
invariant-loop-script l = record {
  same : l.copies.items ≡ take l.script-index l.scripts;
  proper : AllByRecursion AreProper l.copies.items;
}
