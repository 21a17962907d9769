use Rattle.std.proofs.Common.{◌≡◌, ◌<◌, ◌≤◌, ℕ, length, true, Some}
use Rattle.std.specs.Prelude.{slice_get}
use Rattle.run_queue.specs.Queue.{AreNumbered}
use Rattle.plat_run.specs.Actors.{number_of}
use Rattle.plat_run.proofs.begin.begin_initiators.Given as goal

abbrev pub invariant-loop-number : goal.invariant-loop-number
invariant-loop-number g l = record {
  waiting : (k : ℕ) → l.number ≤ k → k < length l.net.platform.initiators → slice_get l.kept.starts k ≡ Some true;
  numbered : AreNumbered number_of l.jobs.items;
  count : length l.jobs.items ≡ l.number;
  routers : l.kept.routers ≡ l.initial.kept.routers;
  memories : l.kept.memories ≡ l.initial.kept.memories;
}
