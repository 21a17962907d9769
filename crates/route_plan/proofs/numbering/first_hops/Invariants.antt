use Rattle.std.proofs.Common.{◌≡◌, map}
use Rattle.std.specs.List.{range_with_len}
use Rattle.tlm_model.specs.Route.{window_hop}
use Rattle.route_plan.proofs.numbering.first_hops.Given as goal

abbrev pub invariant-loop-router : goal.invariant-loop-router
invariant-loop-router l = l.hops.items ≡ map (λ r. window_hop l.platform r 0) (range_with_len 0 l.router)
