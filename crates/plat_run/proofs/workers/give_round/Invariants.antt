use Rattle.std.proofs.Common.{◌≡◌, ◌<◌, map, true, false}
use Rattle.std.specs.List.{AllWithin}
use Rattle.plat_run.specs.Actors.{is_done, number_of}
use Rattle.plat_run.proofs.workers.give_round.Given as goal

abbrev pub invariant-loop-job : goal.invariant-loop-job
invariant-loop-job g l = record {
  numbers : map number_of l.jobs ≡ map number_of l.initial.jobs;
  more : l.more ≡ false → AllWithin (λ job. number_of job < l.count → is_done job ≡ true) l.jobs 0 l.job-index;
}
