-- The route of the model that a plan tells.
use Rattle.std.proofs.Common.{◌≡◌, ℕ, Option, Some, None, refl, ap}
use Rattle.tlm_model.specs.Route as model
use Rattle.route_plan.specs.declared.step.Route.{Route}
use Rattle.route_plan.specs.Routes.{route_seen}

pub record Seen (e : Option model.Route) (r : Route) : Type 0 where
  pub route : model.Route
  pub is : e ≡ Some route
  pub memory : route.memory ≡ r.memory
  pub offset : route.offset ≡ r.offset

one : (u v : Route) → Some u ≡ Some v → u ≡ v
one u v e = cc

pub seen_route : (b l : ℕ) (e : Option model.Route) (r : Route) → route_seen b l e ≡ Some r → Seen e r
seen_route b l None r q = cc
seen_route b l (Some m) r q = record { route = m; is = refl; memory = ap (λ (o : Route). o.memory) (one _ r q); offset = ap (λ (o : Route). o.offset) (one _ r q) }

pub none_seen : (b l : ℕ) (e : Option model.Route) → route_seen b l e ≡ None → e ≡ None
none_seen b l None q = refl
none_seen b l (Some m) q = cc
