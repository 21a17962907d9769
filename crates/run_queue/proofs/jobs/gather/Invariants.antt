use Rattle.std.proofs.Common.{◌≤◌, length, vec_capacity}
use Rattle.run_queue.specs.Queue.{Gathers}
use Rattle.run_queue.proofs.jobs.gather.Given as goal

abbrev pub invariant-loop-place : goal.invariant-loop-place
invariant-loop-place g l = record {
  gathers : Gathers g.J.Job.number_of g.J.Job.is_done l.yielded l.room.items;
  fits : length l.fn.places.items ≤ vec_capacity l.room;
}
