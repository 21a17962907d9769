use Rattle.std.proofs.Common.{◌≡◌, ℕ, find, length, take, arith, sym, ap, subst, ◌∙◌}
use Rattle.addr_router.specs.declared.window.Window.{Window}
use Rattle.addr_router.specs.InOrder.{IsOrderOf}
use Rattle.addr_router.specs.Windows.{is_within}
use Rattle.addr_router.proofs.FindLemmas.{once_from_count}
use Rattle.addr_router.proofs.InOrderLemmas.{find_shuffled, in_order}
use Rattle.addr_router.proofs.windows.Windows.window_at.Goals as goal

-- the rows in order
order : (c : goal.After-last_begun-arg-1) → IsOrderOf c.self.inside.rows.items (take (length c.as_slice-rows.result.now) c.self.inside.in_order)
order c =
    let same : length c.as_slice-rows.result.now ≡ length c.self.inside.rows.items = ap length c.as_slice-rows.ensures.value in
    subst (λ (n : ℕ). IsOrderOf c.self.inside.rows.items (take n c.self.inside.in_order)) (sym same) (c.self.invariant.1 (omega (arith, same, c.if-count-gt-MOST_IN_ORDER.false)))

pub last_begun-requires : goal.last_begun-requires
last_begun-requires c = in_order c.self.inside.rows.items (take (length c.as_slice-rows.result.now) c.self.inside.in_order) c.self.invariant.0 (order c)

pub returns-clause-found : goal.returns-clause-found
returns-clause-found c =
    let kept = order c.before in
    let sorted = in_order c.self.inside.rows.items (take (length c.as_slice-rows.result.now) c.self.inside.in_order) c.self.invariant.0 kept in
    let p = λ (w : Window). is_within w c.args.address in
    c.last_begun.ensures ∙ find_shuffled p c.self.inside.rows.items (take (length c.as_slice-rows.result.now) c.self.inside.in_order) kept.same (once_from_count p (take (length c.as_slice-rows.result.now) c.self.inside.in_order) (sorted.once c.args.address)) ∙ ap (find p) c.self.view_is
