use Rattle.std.proofs.Common.{◌≡◌, ◌+◌, ◌++◌, length}
use Rattle.std.specs.VecDeque.{deque_capacity}
use Rattle.run_queue.proofs.jobs.join.Given as goal

abbrev pub invariant-loop-k : goal.invariant-loop-k
invariant-loop-k l = record {
  line : l.order.items ++ l.parked.items ≡ l.fn.order.items ++ l.fn.parked.items;
  left : length l.parked.items + l._k ≡ length l.fn.parked.items;
  room : deque_capacity l.order ≡ deque_capacity l.fn.order;
  parked_room : deque_capacity l.parked ≡ deque_capacity l.fn.parked;
}
