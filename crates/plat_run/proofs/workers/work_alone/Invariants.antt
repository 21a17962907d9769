use Rattle.std.proofs.Common.{◌≡◌, map}
use Rattle.plat_run.specs.Actors.{number_of}
use Rattle.plat_run.proofs.workers.work_alone.Given as goal

abbrev pub invariant-loop : goal.invariant-loop
invariant-loop g l = map number_of l.jobs ≡ map number_of l.initial.jobs
