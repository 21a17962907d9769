use Rattle.std.proofs.Common.{◌≡◌, ◌≤◌}
use Rattle.std.specs.List.{range_with_len}
use Rattle.std.specs.VecDeque.{deque_capacity}
use Rattle.run_queue.proofs.jobs.make_order.Given as goal

abbrev pub invariant-loop-number : goal.invariant-loop-number
invariant-loop-number l = record {
  order : l.order.items ≡ range_with_len 0 l.number;
  room : l.count ≤ deque_capacity l.order;
}
