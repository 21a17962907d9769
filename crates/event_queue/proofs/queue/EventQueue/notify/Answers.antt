use Rattle.std.proofs.Common.{◌≡◌, ◌<◌, ◌≤◌, ◌∷◌, ℕ, List, length, refl, sym, ap, subst, ◌∙◌, true≢false, arith}
use Rattle.std.specs.Prelude.{IsOk}
use Rattle.std.specs.BinaryHeap.{heap_items, heap_len}
use Rattle.std.specs.List.Sorted.{IsPermutation}
use Rattle.event_queue.specs.EventQueue.{Events, notified}
use Rattle.event_queue.specs.declared.waiting.Waiting.{Waiting}
use Rattle.event_queue.specs.Line.{AreSplit, joined, last_time}
use Rattle.event_queue.specs.Waiting.{given_in_order}
use Rattle.event_queue.proofs.Line.{early_more, joined_more, line_more, notified_joined}
use Rattle.event_queue.proofs.Order.{count_all, on_ok, pushed, waits_too}
use Rattle.event_queue.proofs.queue.EventQueue.notify.Goals as goal

-- it stands at the end of the line

pub push_back_reserved-requires : goal.push_back_reserved-requires
push_back_reserved-requires g c =
    let kept = c.self.invariant in
    let count = count_all c.self.inside.line.items (heap_items c.self.inside.early) c.self.inside.line.len (heap_len c.self.inside.early) c.self.inside.line.ok.0 c.self.inside.early.data.ok.0 in
    let seen : length (joined c.self.inside.line.items (given_in_order (heap_items c.self.inside.early))) ≡ length c.args.self.now.entries = ap (λ (v : Events g.row.T.Denot). length v.entries) c.self.view_is in
    let room : c.args.self.now.room ≡ c.self.inside.room = ap (λ (v : Events g.row.T.Denot). v.room) (sym c.self.view_is) in
    omega (arith, count, seen, room, c.requires, kept.6)

pub invariant_of-self : goal.invariant_of-self
invariant_of-self g c =
    let kept = c.self.invariant in
    let line = c.self.inside.line.items in
    let early = given_in_order (heap_items c.self.inside.early) in
    let late : last_time line ≤ c.args.at = c.is_last.ensures.0 c.if-is_last.true in
    let count = count_all c.self.inside.line.items (heap_items c.self.inside.early) c.self.inside.line.len (heap_len c.self.inside.early) c.self.inside.line.ok.0 c.self.inside.early.data.ok.0 in
    let seen : length (joined c.self.inside.line.items (given_in_order (heap_items c.self.inside.early))) ≡ length c.args.self.now.entries = ap (λ (v : Events g.row.T.Denot). length v.entries) c.self.view_is in
    let room : c.args.self.now.room ≡ c.self.inside.room = ap (λ (v : Events g.row.T.Denot). v.room) (sym c.self.view_is) in (
      kept.0,
      kept.1,
      subst (λ l. AreSplit l early) (sym {A = List (ℕ × g.row.T.Denot)} c.push_back_reserved.ensures.items) (line_more line early c.args.item c.args.at kept.2 late),
      omega (arith, count, seen, room, c.requires, c.push_back_reserved.ensures.len),
      kept.4,
      kept.5,
      omega (arith, kept.6, c.push_back_reserved.ensures.capacity),
      kept.7,
      kept.8,
      kept.9,
    )

pub returns-then-is_last : goal.returns-then-is_last
returns-then-is_last g c =
    let line = c.self.inside.line.items in
    let early = given_in_order (heap_items c.self.inside.early) in
    let late : last_time line ≤ c.args.at = c.is_last.ensures.0 c.if-is_last.true in
    let view : List (ℕ × g.row.T.Denot) → ℕ → Events g.row.T.Denot = λ es n. record { entries = es; room = n } in
    ap (λ es. view es c.self.inside.room) (ap (λ l. joined l early) c.push_back_reserved.ensures.items ∙ joined_more line early c.args.item c.args.at c.self.invariant.2 late)
    ∙ ap (λ (v : Events g.row.T.Denot). record v { entries = notified v.entries c.args.item c.args.at }) c.self.view_is

-- it is early

pub unwrap-requires : goal.unwrap-requires
unwrap-requires g c =
    let taken = c.take_number-order.ensures in
    let count = count_all c.self.inside.line.items (heap_items c.self.inside.early) c.self.inside.line.len (heap_len c.self.inside.early) c.self.inside.line.ok.0 c.self.inside.early.data.ok.0 in
    let seen : length (joined c.self.inside.line.items (given_in_order (heap_items c.self.inside.early))) ≡ length c.args.self.now.entries = ap (λ (v : Events g.row.T.Denot). length v.entries) c.self.view_is in
    let room : c.args.self.now.room ≡ c.self.inside.room = ap (λ (v : Events g.row.T.Denot). v.room) (sym c.self.view_is) in
    c.push.ensures.succeeds (omega (arith, count, seen, room, c.requires, taken.count, taken.room.0))

pub invariant_of-self-2 : goal.invariant_of-self-2
invariant_of-self-2 g c =
    let kept = c.self.invariant in
    let count = count_all c.self.inside.line.items (heap_items c.self.inside.early) c.self.inside.line.len (heap_len c.self.inside.early) c.self.inside.line.ok.0 c.self.inside.early.data.ok.0 in
    let seen : length (joined c.self.inside.line.items (given_in_order (heap_items c.self.inside.early))) ≡ length c.args.self.now.entries = ap (λ (v : Events g.row.T.Denot). length v.entries) c.self.view_is in
    let room : c.args.self.now.room ≡ c.self.inside.room = ap (λ (v : Events g.row.T.Denot). v.room) (sym c.self.view_is) in
    let taken = c.take_number-order.ensures in
    let order = c.take_number-order.result in
    let ok : IsOk c.push.result = c.push.ensures.succeeds (omega (arith, count, seen, room, c.requires, taken.count, taken.room.0)) in
    let w : Waiting g.row.T.Denot = record { at = c.args.at; order = order; item = c.args.item } in
    let ws = heap_items c.take_number-order.new.early in
    let after = heap_items c.push.new.self in
    let added : IsPermutation (w ∷ ws) after = on_ok (IsPermutation (w ∷ ws) after) c.push.result ok c.push.ensures.permutation in
    let more : given_in_order after ≡ notified (given_in_order (heap_items c.self.inside.early)) c.args.item c.args.at = pushed order w ws after taken.waiting.numbered refl (omega (arith, taken.more)) added ∙ ap (λ es. notified es c.args.item c.args.at) taken.same in
    let line = c.self.inside.line.items in
    let before : c.args.at < last_time line = (let no : last_time line ≤ c.args.at → ⊥ = λ le. true≢false (sym (c.is_last.ensures.1 le) ∙ c.if-is_last.false) in omega (arith, no)) in
    let one_more = on_ok _ c.push.result ok c.push.ensures.len in (
      waits_too order w ws after taken.waiting refl (omega (arith, taken.more)) added (on_ok _ c.push.result ok c.push.ensures.heap_order taken.waiting.heap),
      taken.spare.0,
      subst (AreSplit line) (sym more) (early_more line (given_in_order (heap_items c.self.inside.early)) c.args.item c.args.at kept.2 before),
      omega (arith, one_more, taken.count, count, seen, room, c.requires),
      omega (arith, taken.room.0, c.push.ensures.capacity),
      taken.room.1,
      kept.6,
      taken.spare.1,
      kept.8,
      taken.more,
    )

pub returns : goal.returns
returns g c =
    let count = count_all c.self.inside.line.items (heap_items c.self.inside.early) c.self.inside.line.len (heap_len c.self.inside.early) c.self.inside.line.ok.0 c.self.inside.early.data.ok.0 in
    let seen : length (joined c.self.inside.line.items (given_in_order (heap_items c.self.inside.early))) ≡ length c.args.self.now.entries = ap (λ (v : Events g.row.T.Denot). length v.entries) c.self.view_is in
    let room : c.args.self.now.room ≡ c.self.inside.room = ap (λ (v : Events g.row.T.Denot). v.room) (sym c.self.view_is) in
    let taken = c.take_number-order.ensures in
    let order = c.take_number-order.result in
    let ok : IsOk c.push.result = c.push.ensures.succeeds (omega (arith, count, seen, room, c.requires, taken.count, taken.room.0)) in
    let w : Waiting g.row.T.Denot = record { at = c.args.at; order = order; item = c.args.item } in
    let ws = heap_items c.take_number-order.new.early in
    let after = heap_items c.push.new.self in
    let added : IsPermutation (w ∷ ws) after = on_ok (IsPermutation (w ∷ ws) after) c.push.result ok c.push.ensures.permutation in
    let more : given_in_order after ≡ notified (given_in_order (heap_items c.self.inside.early)) c.args.item c.args.at = pushed order w ws after taken.waiting.numbered refl (omega (arith, taken.more)) added ∙ ap (λ es. notified es c.args.item c.args.at) taken.same in
    let line = c.self.inside.line.items in
    let view : List (ℕ × g.row.T.Denot) → ℕ → Events g.row.T.Denot = λ es n. record { entries = es; room = n } in
    ap (λ es. view es c.self.inside.room) (ap (joined line) more ∙ sym (notified_joined line (given_in_order (heap_items c.self.inside.early)) c.args.item c.args.at))
    ∙ ap (λ (v : Events g.row.T.Denot). record v { entries = notified v.entries c.args.item c.args.at }) c.self.view_is
