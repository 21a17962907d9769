use Rattle.std.proofs.Common.{◌≡◌, true, [], subst}
use Rattle.std.specs.BinaryHeap.{heap_items}
use Rattle.event_queue.specs.EventQueue.{Events}
use Rattle.event_queue.specs.Waiting.{given_in_order}
use Rattle.event_queue.proofs.Line.{empty_by_line}
use Rattle.event_queue.proofs.queue.EventQueue.is_empty.Goals as goal

pub returns : goal.returns
returns g c =
    subst (λ (v : Events g.row.T.Denot). (c.is_empty.result ≡ true → v.entries ≡ []) × (v.entries ≡ [] → c.is_empty.result ≡ true)) c.self.view_is
    (empty_by_line c.self.inside.line.items (given_in_order (heap_items c.self.inside.early)) c.self.inside.line.len c.is_empty.result c.self.inside.line.ok.0 c.is_empty.ensures c.self.invariant.2)
