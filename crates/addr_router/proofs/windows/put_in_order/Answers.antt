use Rattle.std.proofs.Common.{rules}
use Rattle.std.proofs.lemmas.List.Sorted.{IsNonDecreasingBy-from_sort_by_key}
use Rattle.addr_router.specs.declared.window.Window.{Window}
use Rattle.addr_router.proofs.windows.put_in_order.Goals as goal

pub returns-clause-order : goal.returns-clause-order
returns-clause-order c = record {
  same = rw c.copy_from_slice.ensures.after at c.sort_unstable_by_key.ensures.permutation;
  rises = IsNonDecreasingBy-from_sort_by_key (λ (w : Window). w.first) _ c.sort_unstable_by_key.ensures.sorted (λ a r q k. search rules);
}
