-- Walks along the windows of a platform, counted.
use Rattle.std.specs.Prelude.{◌≡◌, ℕ, zero, suc, Bool, true, false, ◌&&◌, ◌==◌, List, length, map, sum_by, min}
use Rattle.std.specs.List.{range_with_len}
use Rattle.tlm_model.specs.declared.platform.Platform.{Platform}
use Rattle.tlm_model.specs.declared.platform.Target.{Target}
use Rattle.tlm_model.specs.declared.platform.Target.TheVariants.{Router, Memory}
use Rattle.platform_shape.specs.declared.walks.Component.{Component}
use Rattle.platform_shape.specs.declared.walks.Component.TheVariants as component
use Rattle.platform_shape.specs.declared.walks.Walks.{Walks}
use Rattle.platform_shape.specs.declared.walks.Walks.TheVariants.{To, Long}
use Rattle.platform_shape.specs.Paths.{is_target, once, targets_of, paths_to}

-- a component as a target
abbrev pub seen : Component → Target
seen (component.Router r) = Router r
seen (component.Memory m) = Memory m

abbrev pub is_router : Target → Bool
is_router (Router r) = true
is_router (Memory m) = false

-- how many walks of just k windows lead from a target to a router
unfoldable pub long_walks : ℕ → Platform → Target → ℕ
long_walks zero p t = once (is_router t)
long_walks (suc k) p t = sum_by (λ u. long_walks k p u) (targets_of p t)

-- how many walks there are from a target, of a limit of k windows
unfoldable pub walks_of : Walks → ℕ → Platform → Target → ℕ
walks_of (To c) k p t = paths_to k p t (seen c)
walks_of Long k p t = long_walks k p t

-- how many of them end where they begin
abbrev pub standing : Walks → ℕ → Target → ℕ
standing (To c) k t = once (is_target t (seen c))
standing Long k t = once (is_router t && k == 0)

-- a count where two stand for any more
abbrev pub few : ℕ → ℕ
few n = min n 2

-- these are the counts of the walks from each router
pub record AreCounts (w : Walks) (k : ℕ) (p : Platform) (counts : List ℕ) : Type 0 where
  pub each : counts ≡ map (λ r. few (walks_of w k p (Router r))) (range_with_len 0 (length p.routers))
