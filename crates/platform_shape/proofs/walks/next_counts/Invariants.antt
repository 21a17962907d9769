use Rattle.std.proofs.Common.{◌≡◌, ◌+◌, map}
use Rattle.std.specs.List.{range_with_len}
use Rattle.tlm_model.specs.declared.platform.Target.TheVariants.{Router}
use Rattle.platform_shape.specs.Walks.{few, walks_of}
use Rattle.platform_shape.proofs.walks.next_counts.Given as goal

abbrev pub invariant-loop-router : goal.invariant-loop-router
invariant-loop-router l = l.next.items ≡ map (λ r. few (walks_of l.walks (l.windows + 1) l.platform (Router r))) (range_with_len 0 l.router)
