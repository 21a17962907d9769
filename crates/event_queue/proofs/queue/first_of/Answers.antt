use Rattle.std.proofs.Common.{◌<◌, ◌≤◌, ℕ, ap, arith}
use Rattle.std.specs.Option.{is_some}
use Rattle.std.specs.BinaryHeap.{heap_items}
use Rattle.std.proofs.lemmas.List.Elements.{All-from_recursion, recursion_from_All}
use Rattle.event_queue.specs.Line.{joined}
use Rattle.event_queue.specs.Waiting.{given_in_order}
use Rattle.event_queue.proofs.Line.{all_joined, from_first, no_first, none_joined, weaker}
use Rattle.event_queue.proofs.queue.first_of.Goals as goal

pub returns-in_err-late-clause-empty : goal.returns-in_err-late-clause-empty
returns-in_err-late-clause-empty g c = (λ none. none_joined c.args.line.now.items (given_in_order (heap_items c.args.early.now)) c.requires.split (no_first c.args.line.now.items c.in_err-late.ensures), λ same. ap is_some c.from_residual.ensures)

pub returns-in-Some-clause-least : goal.returns-in-Some-clause-least
returns-in-Some-clause-least g c =
    let line = c.args.line.now.items in
    let early = given_in_order (heap_items c.args.early.now) in
    let at = c.in-Some.at in
    let late = c.in_ok-late.late in
    All-from_recursion (λ (e : ℕ × g.row.T.Denot). at ≤ e.0) (joined line early)
    (all_joined (λ e. at ≤ e.0) line early (weaker (λ e. late ≤ e.0) (λ e. at ≤ e.0) (λ e le. omega (arith, le, c.if-at-late.true)) line (from_first late line c.in_ok-late.ensures c.requires.split.ascends))
    (recursion_from_All (λ (e : ℕ × g.row.T.Denot). at ≤ e.0) early c.in-Some.ensures.least))

pub returns-in-Some-clause-early : goal.returns-in-Some-clause-early
returns-in-Some-clause-early g c =
    let line = c.args.line.now.items in
    let at = c.in-Some.at in
    let late = c.in_ok-late.late in
    λ same. (weaker (λ e. late ≤ e.0) (λ e. at < e.0) (λ e le. omega (arith, le, c.if-at-late.true)) line (from_first late line c.in_ok-late.ensures c.requires.split.ascends), c.in-Some.ensures.first)

pub returns-in_default-clause-least : goal.returns-in_default-clause-least
returns-in_default-clause-least g c =
    let line = c.args.line.now.items in
    let early = given_in_order (heap_items c.args.early.now) in
    let at = c.in-Some.at in
    let late = c.in_ok-late.late in
    All-from_recursion (λ (e : ℕ × g.row.T.Denot). late ≤ e.0) (joined line early)
    (all_joined (λ e. late ≤ e.0) line early (from_first late line c.in_ok-late.ensures c.requires.split.ascends)
    (weaker (λ e. at ≤ e.0) (λ e. late ≤ e.0) (λ e le. omega (arith, le, c.if-at-late.false)) early (recursion_from_All (λ (e : ℕ × g.row.T.Denot). at ≤ e.0) early c.in-Some.ensures.least)))

pub returns-in_default-clause-late : goal.returns-in_default-clause-late
returns-in_default-clause-late g c =
    let early = given_in_order (heap_items c.args.early.now) in
    let at = c.in-Some.at in
    let late = c.in_ok-late.late in
    λ same. (weaker (λ e. at ≤ e.0) (λ e. late ≤ e.0) (λ e le. omega (arith, le, c.if-at-late.false)) early (recursion_from_All (λ (e : ℕ × g.row.T.Denot). at ≤ e.0) early c.in-Some.ensures.least), c.in_ok-late.ensures)
