-- The latency of a component is that of the hops to it.
use Rattle.std.proofs.Common.{◌≡◌, ℕ, Option, Some, None, refl, sym, ap, ◌∙◌}
use Rattle.std.specs.Prelude.{IsSomeAnd, slice_get}
use Rattle.tlm_model.specs.declared.platform.Target.{Target}
use Rattle.tlm_model.specs.Plan.{Plan}
use Rattle.route_plan.specs.declared.ends.HopEnds.{HopEnds}
use Rattle.route_plan.specs.Routes.{ends_of}
use Rattle.plat_net.specs.Places.{LeadsTo}
use Rattle.plat_net.proofs.Forwarding.{latency_at, latency_by}
use Rattle.node_hops.specs.Traits.{hop_latency, latency_of}

pub latency_to : (p : Plan) (hop : ℕ) (to : Target) → LeadsTo p.platform hop to → latency_of p.platform to ≡ hop_latency p hop
latency_to p hop to leads = sym (go (slice_get (ends_of p.platform) hop) refl leads)
  where
    go : (o : Option HopEnds) → slice_get (ends_of p.platform) hop ≡ o → IsSomeAnd o (λ (e : HopEnds). e.down ≡ to) → hop_latency p hop ≡ latency_of p.platform to
    go None at l = absurd l
    go (Some e) at l = latency_at p.platform hop e at ∙ ap (latency_by p.platform) l
