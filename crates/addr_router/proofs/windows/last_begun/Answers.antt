use Rattle.std.proofs.Common.{◌≡◌, ℕ, ◌<◌, ◌≤◌, ◌-◌, List, length, leb, true, false, count_by, subst, arith, sym, ◌∙◌}
use Rattle.std.specs.List.Sorted.{IsPartitionPoint}
use Rattle.addr_router.specs.declared.window.Window.{Window}
use Rattle.addr_router.specs.InOrder.{IsInOrder}
use Rattle.addr_router.proofs.InOrderLemmas.{begun_first, found_last, found_none}
use Rattle.addr_router.proofs.windows.last_begun.Goals as goal

-- those that were counted come first
first : (windows : List Window) (a n : ℕ) → IsInOrder windows → n ≡ count_by (λ (w : Window). leb w.first a) windows → (n ≤ length windows) × IsPartitionPoint (λ (w : Window). leb w.first a ≡ true) (λ (w : Window). leb w.first a ≡ false) windows n
first windows a n order is = subst (λ (k : ℕ). (k ≤ length windows) × IsPartitionPoint (λ (w : Window). leb w.first a ≡ true) (λ (w : Window). leb w.first a ≡ false) windows k) (sym is) (begun_first windows a order.rises)

pub bounds-windows-after : goal.bounds-windows-after
bounds-windows-after c =
    let f = first c.args.windows.now c.args.address c.begun-after.result c.requires c.begun-after.ensures in
    omega (arith, f.0, c.if-after-eq0.false)

pub returns-then-after-eq0 : goal.returns-then-after-eq0
returns-then-after-eq0 c =
    let f = first c.args.windows.now c.args.address c.begun-after.result c.requires c.begun-after.ensures in
    sym (found_none c.args.windows.now c.args.address c.requires c.begun-after.result none f.1 f.0 (λ some. absurd (omega (arith, some, c.if-after-eq0.true))))
  where
    none : Window
    none = record { first = 0; last = 0; port = 0; base = 0 }

pub returns-then-contains : goal.returns-then-contains
returns-then-contains c =
    let f = first c.args.windows.now c.args.address c.begun-after.result c.requires c.begun-after.ensures in
    let some : 0 < c.begun-after.result = omega (arith, c.if-after-eq0.false) in
    sym (found_last c.args.windows.now c.args.address c.requires (c.begun-after.result - 1) _ (omega (arith, f.0, some)) (sym c.contains.ensures ∙ c.if-contains.true))

pub returns-else-contains : goal.returns-else-contains
returns-else-contains c =
    let f = first c.args.windows.now c.args.address c.begun-after.result c.requires c.begun-after.ensures in
    sym (found_none c.args.windows.now c.args.address c.requires c.begun-after.result _ f.1 f.0 (λ some. sym c.contains.ensures ∙ c.if-contains.false))
