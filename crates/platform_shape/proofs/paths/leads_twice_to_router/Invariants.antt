use Rattle.std.proofs.Common.{◌≡◌, false, nat_lt, length}
use Rattle.std.specs.List.{list_any, range_with_len}
use Rattle.tlm_model.specs.declared.platform.Target.TheVariants.{Router}
use Rattle.platform_shape.specs.Paths.{paths_to}
use Rattle.platform_shape.proofs.paths.leads_twice_to_router.Given as goal

abbrev pub invariant-loop-number : goal.invariant-loop-number
invariant-loop-number l = list_any (λ n. nat_lt 1 (paths_to (length l.platform.routers) l.platform l.from (Router n))) (range_with_len 0 l.number) ≡ false
