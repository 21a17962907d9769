use Rattle.std.proofs.Common.{◌≡◌, length, ap, arith}
use Rattle.std.specs.BinaryHeap.{heap_items, heap_len}
use Rattle.event_queue.specs.EventQueue.{Events}
use Rattle.event_queue.specs.Line.{joined}
use Rattle.event_queue.specs.Waiting.{given_in_order}
use Rattle.event_queue.proofs.Order.{count_all}
use Rattle.event_queue.proofs.queue.EventQueue.len.Goals as goal

pub returns-clause-count : goal.returns-clause-count
returns-clause-count g c =
    let count = count_all c.self.inside.line.items (heap_items c.self.inside.early) c.self.inside.line.len (heap_len c.self.inside.early) c.self.inside.line.ok.0 c.self.inside.early.data.ok.0 in
    let seen : length (joined c.self.inside.line.items (given_in_order (heap_items c.self.inside.early))) ≡ length c.args.self.now.entries = ap (λ (v : Events g.row.T.Denot). length v.entries) c.self.view_is in
    omega (arith, count, seen, c.len.ensures, c.len-2.ensures)
