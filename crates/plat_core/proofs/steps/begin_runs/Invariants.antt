use Rattle.std.proofs.Common.{◌≡◌, take}
use Rattle.plat_core.specs.Core.{no_runs}
use Rattle.plat_core.proofs.steps.begin_runs.Given as goal

abbrev pub invariant-loop-number : goal.invariant-loop-number
invariant-loop-number l = l.runs.items ≡ take l.number (no_runs l.plan)
