use Rattle.std.proofs.Common.{◌≡◌, ◌+◌, ◌<◌, ◌≤◌, ℕ, length, true, Some}
use Rattle.std.specs.Prelude.{slice_get}
use Rattle.run_queue.specs.Queue.{AreNumbered}
use Rattle.plat_run.specs.Actors.{number_of}
use Rattle.plat_run.proofs.begin.begin_memories.Given as goal

abbrev pub invariant-loop-memory : goal.invariant-loop-memory
invariant-loop-memory g l = record {
  waiting : (k : ℕ) → l.memory ≤ k → k < length l.net.platform.memories → slice_get l.kept.memories k ≡ Some true;
  numbered : AreNumbered number_of l.jobs.items;
  count : length l.jobs.items ≡ l.first + l.memory;
}
