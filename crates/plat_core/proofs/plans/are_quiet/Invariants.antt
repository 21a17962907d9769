use Rattle.std.proofs.Common.{take}
use Rattle.std.specs.List.{AllByRecursion}
use Rattle.plat_core.proofs.QuietLemmas.{IsQuiet}
use Rattle.plat_core.proofs.plans.are_quiet.Given as goal

abbrev pub invariant-loop-number : goal.invariant-loop-number
invariant-loop-number l = AllByRecursion IsQuiet (take l.number l.plan.scripts)
