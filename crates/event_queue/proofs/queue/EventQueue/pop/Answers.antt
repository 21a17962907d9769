use Rattle.std.proofs.Common.{◌<◌, ◌≤◌, ℕ, List, All, sym, ap, subst, ◌∙◌, true≢false, arith}
use Rattle.std.specs.BinaryHeap.{heap_items}
use Rattle.event_queue.specs.EventQueue.{Events}
use Rattle.event_queue.specs.Line.{joined}
use Rattle.event_queue.specs.Waiting.{given, given_in_order}
use Rattle.event_queue.proofs.Line.{early_on, first_early, first_late, is_due, is_least, line_on}
use Rattle.event_queue.proofs.Order.{first_due, popped, waits_on}
use Rattle.event_queue.proofs.queue.EventQueue.pop.Goals as goal

-- the first of what is early was given

pub invariant_of-self-then-is_early : goal.invariant_of-self-then-is_early
invariant_of-self-then-is_early g c =
    let kept = c.self.invariant in
    let x = c.in_ok-given.given in
    let old = heap_items c.self.inside.early in
    let new = heap_items c.pop.new.self in
    let left = popped c.self.inside.next old new x kept.0.numbered (omega (arith, kept.9)) c.in_ok-given.ensures.permutation (c.in_ok-given.ensures.below_top kept.0.heap) in (
      waits_on c.self.inside.next old new x kept.0 c.in_ok-given.ensures.permutation (c.in_ok-given.ensures.heap_order kept.0.heap).0,
      kept.1,
      early_on c.self.inside.line.items (given_in_order old) (given_in_order new) (given x) left kept.2,
      omega (arith, kept.3, c.in_ok-given.ensures.len),
      omega (arith, kept.4, c.in_ok-given.ensures.capacity),
      kept.5,
      kept.6,
      kept.7,
      kept.8,
      kept.9,
    )

pub returns-then-is_early-clause-first : goal.returns-then-is_early-clause-first
returns-then-is_early-clause-first g c =
    let kept = c.self.invariant in
    let x = c.in_ok-given.given in
    let old = heap_items c.self.inside.early in
    let new = heap_items c.pop.new.self in
    let left = popped c.self.inside.next old new x kept.0.numbered (omega (arith, kept.9)) c.in_ok-given.ensures.permutation (c.in_ok-given.ensures.below_top kept.0.heap) in
    let early = c.in_ok-first.ensures.early c.if-is_early.true in
    ap (λ (v : Events g.row.T.Denot). v.entries) (sym c.self.view_is) ∙ first_early c.self.inside.line.items (given_in_order old) (given_in_order new) (given x) c.in_ok-first.first left early.1 early.0

pub returns-then-is_early-clause-due : goal.returns-then-is_early-clause-due
returns-then-is_early-clause-due g c =
    let seen = ap (λ (v : Events g.row.T.Denot). v.entries) c.self.view_is in
    is_due c.args.now c.in_ok-first.first (given c.in_ok-given.given) (joined c.self.inside.line.items (given_in_order (heap_items c.self.inside.early))) _ c.in_ok-first.ensures.first (seen ∙ returns-then-is_early-clause-first g c) (λ early. omega (arith, early, c.if-now-first.false))

pub returns-then-is_early-clause-least : goal.returns-then-is_early-clause-least
returns-then-is_early-clause-least g c =
    let seen = ap (λ (v : Events g.row.T.Denot). v.entries) c.self.view_is in
    subst (λ (es : List (ℕ × g.row.T.Denot)). All (λ (e : ℕ × g.row.T.Denot). c.in_ok-given.given.at ≤ e.0) es) seen
    (is_least c.in_ok-first.first (given c.in_ok-given.given) (joined c.self.inside.line.items (given_in_order (heap_items c.self.inside.early))) _ c.in_ok-first.ensures.first (seen ∙ returns-then-is_early-clause-first g c) c.in_ok-first.ensures.least)

pub returns-then-is_early-clause-none : goal.returns-then-is_early-clause-none
returns-then-is_early-clause-none g c = (
  λ wrong. absurd (true≢false wrong),
  λ all.
      let seen = ap (λ (v : Events g.row.T.Denot). v.entries) c.self.view_is in
      absurd (first_due c.args.now c.in_ok-first.first (joined c.self.inside.line.items (given_in_order (heap_items c.self.inside.early))) c.in_ok-first.ensures.first (λ early. omega (arith, early, c.if-now-first.false))
      (subst (λ (es : List (ℕ × g.row.T.Denot)). All (λ (e : ℕ × g.row.T.Denot). c.args.now < e.0) es) (sym seen) all)),
)

-- the first of the line was given

pub invariant_of-self-2 : goal.invariant_of-self-2
invariant_of-self-2 g c =
    let kept = c.self.invariant in
    let late = c.in_ok-first.ensures.late c.if-is_early.false in (
      kept.0,
      kept.1,
      line_on c.self.inside.line.items c.pop_front.new.self.items (given_in_order (heap_items c.self.inside.early)) (c.in_ok-at.at, c.in_ok-at.item) c.in_ok-first.first c.in_ok-at.ensures.items late.1 late.0 kept.2,
      omega (arith, kept.3, c.in_ok-at.ensures.cases),
      kept.4,
      kept.5,
      omega (arith, kept.6, c.in_ok-at.ensures.capacity),
      kept.7,
      kept.8,
      kept.9,
    )

pub returns-clause-first : goal.returns-clause-first
returns-clause-first g c =
    let late = c.in_ok-first.ensures.late c.if-is_early.false in
    ap (λ (v : Events g.row.T.Denot). v.entries) (sym c.self.view_is)
    ∙ first_late c.self.inside.line.items c.pop_front.new.self.items (given_in_order (heap_items c.self.inside.early)) (c.in_ok-at.at, c.in_ok-at.item) c.in_ok-first.first c.in_ok-at.ensures.items late.1 late.0

pub returns-clause-due : goal.returns-clause-due
returns-clause-due g c =
    let seen = ap (λ (v : Events g.row.T.Denot). v.entries) c.self.view_is in
    is_due c.args.now c.in_ok-first.first (c.in_ok-at.at, c.in_ok-at.item) (joined c.self.inside.line.items (given_in_order (heap_items c.self.inside.early))) _ c.in_ok-first.ensures.first (seen ∙ returns-clause-first g c) (λ early. omega (arith, early, c.if-now-first.false))

pub returns-clause-least : goal.returns-clause-least
returns-clause-least g c =
    let seen = ap (λ (v : Events g.row.T.Denot). v.entries) c.self.view_is in
    subst (λ (es : List (ℕ × g.row.T.Denot)). All (λ (e : ℕ × g.row.T.Denot). c.in_ok-at.at ≤ e.0) es) seen
    (is_least c.in_ok-first.first (c.in_ok-at.at, c.in_ok-at.item) (joined c.self.inside.line.items (given_in_order (heap_items c.self.inside.early))) _ c.in_ok-first.ensures.first (seen ∙ returns-clause-first g c) c.in_ok-first.ensures.least)

pub returns-clause-none : goal.returns-clause-none
returns-clause-none g c = (
  λ wrong. absurd (true≢false wrong),
  λ all.
      let seen = ap (λ (v : Events g.row.T.Denot). v.entries) c.self.view_is in
      absurd (first_due c.args.now c.in_ok-first.first (joined c.self.inside.line.items (given_in_order (heap_items c.self.inside.early))) c.in_ok-first.ensures.first (λ early. omega (arith, early, c.if-now-first.false))
      (subst (λ (es : List (ℕ × g.row.T.Denot)). All (λ (e : ℕ × g.row.T.Denot). c.args.now < e.0) es) (sym seen) all)),
)
