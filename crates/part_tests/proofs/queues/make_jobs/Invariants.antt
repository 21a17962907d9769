use Rattle.std.proofs.Common.{◌≡◌, length}
use Rattle.run_queue.specs.Queue.{AreNumbered}
use Rattle.part_tests.specs.declared.queues.Countdown.{Countdown}
use Rattle.part_tests.proofs.queues.make_jobs.Given as goal

abbrev pub invariant-loop-number : goal.invariant-loop-number
invariant-loop-number l = record {
  count : length l.jobs.items ≡ l.number;
  numbered : AreNumbered (λ (c : Countdown). c.number) l.jobs.items;
}
