use Rattle.std.proofs.Common.{◌∷◌, ◌<◌, ◌^◌, refl, arith}
use Rattle.std.specs.Prelude.{IsOk}
use Rattle.std.specs.BinaryHeap.{heap_items, heap_len}
use Rattle.std.specs.List.Sorted.{IsPermutation}
use Rattle.event_queue.specs.declared.waiting.Waiting.{Waiting}
use Rattle.event_queue.proofs.Order.{later_on, moved_on, on_ok, waits_on, waits_too}
use Rattle.event_queue.proofs.queue.number_anew.Goals as goal

pub loop-order-preserved : goal.loop-order-preserved
loop-order-preserved g c =
    let so_far = c.loop-order.invariant in
    let x = c.in-Some.first in
    let w : Waiting g.row.T.Denot = record { at = x.at; order = c.loop-order.order; item = x.item } in
    let next = c.args.next in
    let k = c.loop-order.order in
    let from = heap_items c.loop-order.from in
    let rest = heap_items c.pop.new.self in
    let to = heap_items c.loop-order.to in
    let after = heap_items c.push.new.self in
    let bound = c.in-Some.ensures.below_top so_far.waits.heap in
    let fits : heap_len c.loop-order.to < heap_len c.args.from.now = omega (arith, so_far.count, so_far.left, c.loop-order-test.true, c.in-Some.ensures.len) in
    let ok : IsOk c.push.result = c.push.ensures.succeeds (omega (arith, fits, c.requires.room, so_far.room)) in
    let pushed : IsPermutation (w ∷ to) after = on_ok (IsPermutation (w ∷ to) after) c.push.result ok c.push.ensures.permutation in
    let few : k < 2 ^ 64 = omega (arith, so_far.count, fits, c.requires.few) in
    record {
      waits = waits_on next from rest x so_far.waits c.in-Some.ensures.permutation (c.in-Some.ensures.heap_order so_far.waits.heap).0;
      moved = waits_too k w to after so_far.moved refl few pushed (on_ok _ c.push.result ok c.push.ensures.heap_order so_far.moved.heap);
      together = moved_on next k to after from rest _ x w so_far.waits (omega arith) c.in-Some.ensures.permutation bound so_far.moved refl refl refl few pushed so_far.later so_far.together;
      later = later_on next to after from rest x w so_far.waits (omega arith) c.in-Some.ensures.permutation bound refl pushed so_far.later;
      count = (let n = on_ok _ c.push.result ok c.push.ensures.len in omega (arith, n, so_far.count));
      left = omega (arith, so_far.left, c.in-Some.ensures.len);
      kept = omega (arith, so_far.kept, c.in-Some.ensures.capacity);
      room = omega (arith, so_far.room, c.push.ensures.capacity);
    }
