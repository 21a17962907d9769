-- What a platform has to keep that four-phase traffic passes its hops as it may.
use Rattle.std.specs.Prelude.{ℕ, zero, suc, ◌≡◌, Some, slice_get}
use Rattle.tlm_model.specs.declared.platform.Platform.{Platform}
use Rattle.tlm_model.specs.declared.platform.RouterRow.{RouterRow}
use Rattle.tlm_model.specs.declared.platform.Target.TheVariants.{Router}
use Rattle.tlm_model.specs.declared.platform.WindowRow.{WindowRow}
use Rattle.tlm_model.specs.Plan.{Plan}
use Rattle.flow_model.specs.World.{IsWorld}
use Rattle.flow_model.specs.Platform.{world_of}

-- a window of router r leads to router s
pub record LeadsTo (p : Platform) (r s : ℕ) : Type 0 where
  pub row : RouterRow
  pub is : slice_get p.routers r ≡ Some row
  pub index : ℕ
  pub window : WindowRow
  pub there : slice_get row.windows index ≡ Some window
  pub to : window.to ≡ Router s

-- n windows lead from router r to router s, one after another
abbrev pub LeadsOver : Platform → ℕ → ℕ → ℕ → Type 0
LeadsOver p zero r s = r ≡ s
LeadsOver p (suc n) r s = (q : ℕ) × LeadsTo p r q × LeadsOver p n q s

-- no router leads back to itself
abbrev pub HasNoCycle : Platform → Type 0
HasNoCycle p = (n r : ℕ) → ¬ LeadsOver p (suc n) r r

-- on such a platform no access passes a hop twice
abbrev pub WorldLaw : Type 0
WorldLaw = (p : Plan) → HasNoCycle p.platform → IsWorld (world_of p)
