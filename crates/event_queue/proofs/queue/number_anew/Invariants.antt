use Rattle.std.proofs.Common.{◌≡◌, ◌≤◌, ◌+◌, ◌++◌}
use Rattle.std.specs.BinaryHeap.{heap_capacity, heap_items, heap_len}
use Rattle.std.specs.List.{AllByRecursion}
use Rattle.event_queue.specs.Kept.{AreWaiting}
use Rattle.event_queue.specs.Waiting.{given_in_order}
use Rattle.event_queue.specs.declared.waiting.Waiting.{Waiting}
use Rattle.event_queue.proofs.queue.number_anew.Given as goal

abbrev pub invariant-loop-order : goal.invariant-loop-order
invariant-loop-order g l = record {
  waits : AreWaiting l.next (heap_items l.from);
  moved : AreWaiting l.order (heap_items l.to);
  together : given_in_order (heap_items l.to) ++ given_in_order (heap_items l.from) ≡ given_in_order (heap_items l.fn.from);
  later : AllByRecursion (λ (x : Waiting g.row.T.Denot). AllByRecursion (λ (y : Waiting g.row.T.Denot). x.at ≤ y.at) (heap_items l.from)) (heap_items l.to);
  count : heap_len l.to ≡ l.order;
  left : heap_len l.from + l.order ≡ heap_len l.fn.from;
  kept : heap_capacity l.from ≡ heap_capacity l.fn.from;
  room : heap_capacity l.fn.to ≤ heap_capacity l.to;
}
