use Rattle.std.proofs.Common.{ℕ, ◌+◌, List, [], ◌∷◌, ◌++◌, ap, sym, ◌∙◌}
use Rattle.router_node.proofs.HopLists.{range_more}
use Rattle.router_node.proofs.making.hops_from.Goals as goal

pub loop-k-preserved : goal.loop-k-preserved
loop-k-preserved c = c.in_ok-push.ensures.items ∙ ap (λ (l : List ℕ). l ++ (c.args.first + c.loop-k.k) ∷ []) c.loop-k.invariant ∙ sym (range_more c.args.first c.loop-k.k)
