use Rattle.std.proofs.Common.{◌≡◌, map}
use Rattle.initiator_run.specs.Run.{end_at}
use Rattle.plat_core.proofs.steps.into_ends.Given as goal

abbrev pub invariant-loop-run : goal.invariant-loop-run
invariant-loop-run l = l.ends.items ≡ map end_at l.yielded
