use Rattle.std.proofs.Common.{◌≡◌, ◌+◌, ◌<◌, ◌≤◌, ℕ, length, true, Some}
use Rattle.std.specs.Prelude.{slice_get}
use Rattle.run_queue.specs.Queue.{AreNumbered}
use Rattle.plat_run.specs.Actors.{number_of}
use Rattle.plat_run.proofs.begin.begin_routers.Given as goal

abbrev pub invariant-loop-router : goal.invariant-loop-router
invariant-loop-router g l = record {
  waiting : (k : ℕ) → l.router ≤ k → k < length l.net.platform.routers → slice_get l.kept.routers k ≡ Some true;
  numbered : AreNumbered number_of l.jobs.items;
  count : length l.jobs.items ≡ l.first + l.router;
  memories : l.kept.memories ≡ l.initial.kept.memories;
}
