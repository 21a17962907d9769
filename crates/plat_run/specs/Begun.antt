-- A run before its first turn, or when its workers have left.
use Rattle.std.specs.Prelude.{ℕ, ◌≡◌, ◌≤◌, length}
use Rattle.run_queue.specs.Queue.{AreNumbered}
use Rattle.plat_run.specs.declared.running.Begun.{Begun}
use Rattle.plat_run.specs.Actors.{number_of}
use Rattle.plat_run.specs.HandedIn.{AwaitsAll}

-- the jobs stand in order, those of so many initiators first, and there is room for what these leave
pub record HasBegun {N : Type 0} (initiators : ℕ) (b : Begun N) : Type 0 where
  pub count : b.count ≡ initiators
  pub many : initiators ≤ length b.jobs.items
  pub numbered : AreNumbered number_of b.jobs.items
  pub awaits : AwaitsAll initiators b.handed
