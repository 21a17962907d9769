use Rattle.std.proofs.Common.{ap, arith}
use Rattle.std.specs.BinaryHeap.{heap_items}
use Rattle.event_queue.specs.Waiting.{given_in_order}
use Rattle.event_queue.proofs.Line.{no_line}
use Rattle.event_queue.proofs.Order.{none_wait}
use Rattle.event_queue.proofs.queue.EventQueue.new.Goals as goal

pub invariant_of-result : goal.invariant_of-result
invariant_of-result g c =
    let early = heap_items c.in-Ok.early in (
      none_wait early c.in-Ok.ensures.items c.in-Ok.ensures.heap_order,
      none_wait (heap_items c.in-Ok-with_capacity.spare) c.in-Ok-with_capacity.ensures.items c.in-Ok-with_capacity.ensures.heap_order,
      no_line c.in_ok-line.line.items (given_in_order early) c.in_ok-line.ensures.items (ap given_in_order c.in-Ok.ensures.items),
      omega (arith, c.in_ok-line.ensures.len, c.in-Ok.ensures.len),
      c.in-Ok.ensures.capacity,
      c.in-Ok-with_capacity.ensures.capacity,
      c.in_ok-line.ensures.capacity,
      c.in-Ok-with_capacity.ensures.len,
      omega arith,
      omega arith,
    )
