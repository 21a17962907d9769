-- How a hop of a net is made.
use Rattle.std.specs.Prelude.{ℕ, ◌≡◌, ◌<◌, ◌≤◌, IsTrue}
use Rattle.tlm_types.specs.declared.words.RespMode.{RespMode}
use Rattle.tlm_model.specs.declared.platform.Platform.{Platform}
use Rattle.tlm_model.specs.declared.platform.Target.{Target}
use Rattle.platform_model.specs.Bounded.{is_there}
use Rattle.route_plan.specs.Valid.{hop_count}
use Rattle.flow_model.specs.Platform.{hop_in, hop_to}
use Rattle.hop_object.specs.declared.call.HopTraits.{HopTraits}

-- made as a hop to this component, whose upstream component answers BEGIN_RESP so
pub record IsMadeTo (p : Platform) (resp : RespMode) (to : Target) (t : HopTraits) : Type 0 where
  pub lanes : t.lanes ≡ (hop_to p resp to).limit
  pub req : t.req ≡ (hop_to p resp to).req
  pub resp_is : t.resp ≡ (hop_to p resp to).resp
  pub some : 1 ≤ t.lanes
  pub few : t.lanes ≤ 16

-- hop number h of the platform leads to this component, and its upstream component answers BEGIN_RESP so
pub record IsNextHop (p : Platform) (h : ℕ) (resp : RespMode) (to : Target) : Type 0 where
  pub below : h < hop_count p
  pub ends : hop_in p h ≡ hop_to p resp to
  pub there : IsTrue (is_there p to)
