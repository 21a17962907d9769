-- The hops that lead to a component.
use Rattle.std.specs.Prelude.{ℕ, zero, suc, ◌++◌, ◌==◌, ◌<◌, Bool, false, List, [], ◌∷◌, Option, Some, None, if◌then◌else◌, slice_get}
use Rattle.tlm_model.specs.declared.platform.Platform.{Platform}
use Rattle.tlm_model.specs.declared.platform.Target.{Target}
use Rattle.tlm_model.specs.declared.platform.Target.TheVariants.{Memory, Router}
use Rattle.tlm_model.specs.Plan.{Plan}
use Rattle.route_plan.specs.declared.ends.HopEnds.{HopEnds}
use Rattle.route_plan.specs.Routes.{ends_of}
use Rattle.route_plan.specs.Valid.{hop_count}
use Rattle.plat_net.specs.Places.{LeadsTo}

-- whether these are the same component
abbrev pub is_target : Target → Target → Bool
is_target (Memory m) (Memory n) = m == n
is_target (Router r) (Router q) = r == q
is_target one other = false

abbrev pub ends_lead : Option HopEnds → Target → Bool
ends_lead None to = false
ends_lead (Some e) to = is_target e.down to

-- whether a hop leads to this component
abbrev pub leads_to : Platform → ℕ → Target → Bool
leads_to p hop to = ends_lead (slice_get (ends_of p) hop) to

-- the hops below a number that lead to a component, in order
abbrev pub hops_below : Platform → Target → ℕ → List ℕ
hops_below p to zero = []
hops_below p to (suc n) = hops_below p to n ++ (if leads_to p n to then n ∷ [] else [])

-- all of them
abbrev pub hops_to : Platform → Target → List ℕ
hops_to p to = hops_below p to (hop_count p)

-- a hop to this component
pub record IsHopTo (p : Plan) (to : Target) (hop : ℕ) : Type 0 where
  pub there : hop < hop_count p.platform
  pub leads : LeadsTo p.platform hop to
