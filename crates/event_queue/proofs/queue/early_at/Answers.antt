use Rattle.std.proofs.Common.{◌<◌, length, refl, sym, ap, true≢false, arith}
use Rattle.std.specs.BinaryHeap.{heap_items, heap_len}
use Rattle.std.proofs.lemmas.Bool.{false≢true}
use Rattle.event_queue.specs.EventQueue.{first_time}
use Rattle.event_queue.proofs.Order.{first_given, least_given, none_given, some_given}
use Rattle.event_queue.proofs.queue.early_at.Goals as goal

pub returns-in-Some : goal.returns-in-Some
returns-in-Some g c =
    let ws = heap_items c.args.early.now in
    let x = c.in-Some.first.now in
    let count : 0 < heap_len c.args.early.now = c.in-Some.ensures.variant.0 refl in
    let some : 0 < length ws = omega (arith, count, c.args.early.now.data.ok.0) in
    let bound = c.in-Some.ensures.greatest c.requires.heap in
    record {
      first = sym (first_given c.args.next ws x c.requires (omega arith) some c.in-Some.ensures.lookup bound);
      least = least_given c.args.next ws x c.requires (omega arith) some c.in-Some.ensures.lookup bound;
      empty = (λ wrong. absurd (true≢false wrong), λ none. absurd (some_given ws (heap_len c.args.early.now) c.args.early.now.data.ok.0 count none));
    }

pub returns-in-None : goal.returns-in-None
returns-in-None g c =
    let ws = heap_items c.args.early.now in
    let not_some : (0 < heap_len c.args.early.now) → ⊥ = λ lt. false≢true (c.in-None.ensures.variant.1 lt) in
    let none = none_given ws (heap_len c.args.early.now) c.args.early.now.data.ok.0 (omega (arith, not_some)) in
    record { first = sym (ap first_time none); least = tt; empty = (λ same. none, λ same. refl) }
