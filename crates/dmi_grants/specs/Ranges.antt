-- The addresses of an initiator that lead into a range of a memory, along the way of one of them.
use Rattle.std.specs.Prelude.{ℕ, zero, suc, ◌≡◌, ◌+◌, ◌-◌, ◌≤◌, IsSomeAnd, Option, Some, None, option_and_then, slice_get}
use Rattle.addr_router.specs.Windows.{cut_up}
use Rattle.platform_model.specs.Windows.{window_at}
use Rattle.tlm_model.specs.declared.platform.InitiatorRow.{InitiatorRow}
use Rattle.tlm_model.specs.declared.platform.Platform.{Platform}
use Rattle.tlm_model.specs.declared.platform.RouterRow.{RouterRow}
use Rattle.tlm_model.specs.declared.platform.Target.{Target}
use Rattle.tlm_model.specs.declared.platform.Target.TheVariants.{Router, Memory}
use Rattle.tlm_model.specs.Plan.{Plan}
use Rattle.tlm_model.specs.Route.{Found, window_of}
use Rattle.route_plan.specs.declared.step.Route.{Route}
use Rattle.plat_net.specs.Calls.{route_at}

-- back over a window: the range is cut to it and moved back
abbrev pub over_window : Option Found → ℕ → (Target → ℕ → Option (ℕ × ℕ)) → Option (ℕ × ℕ)
over_window None a next = None
over_window (Some f) a next = option_and_then (λ (r : ℕ × ℕ). cut_up (window_at f.index f.window) r.0 r.1) (next f.window.to (a - f.window.first + f.window.base))

abbrev pub over_router : Option RouterRow → ℕ → (Target → ℕ → Option (ℕ × ℕ)) → Option (ℕ × ℕ)
over_router None a next = None
over_router (Some row) a next = over_window (window_of 0 row.windows a) a next

-- the range of the memory at the end of an address's way, translated up to the target where the way begins, over at most k components
unfoldable pub lifted : ℕ → Platform → Target → ℕ → ℕ × ℕ → Option (ℕ × ℕ)
lifted zero p t a range = None
lifted (suc k) p (Memory m) a range = Some range
lifted (suc k) p (Router r) a range = over_router (slice_get p.routers r) a (λ t b. lifted k p t b range)

abbrev pub lifted_by : Platform → Option InitiatorRow → ℕ → ℕ × ℕ → Option (ℕ × ℕ)
lifted_by p None a range = None
lifted_by p (Some row) a range = lifted 9 p row.bind a range

-- the same up to an initiator
abbrev pub lifted_at : Plan → ℕ → ℕ → ℕ × ℕ → Option (ℕ × ℕ)
lifted_at p who a range = lifted_by p.platform (slice_get p.platform.initiators who) a range

-- The addresses of an initiator that lead into the range from first to last of memory m are those from low to high; low leads to the offset base,
-- and each further one as much further on.
pub record AreAddressesOf (p : Plan) (who m first last low high base : ℕ) : Type 0 where
  pub led : (a : ℕ) → low ≤ a → a ≤ high → IsSomeAnd (route_at p who a) (λ (r : Route). (r.memory ≡ m) × (r.offset ≡ base + (a - low)))
  pub others : (a : ℕ) (r : Route) → route_at p who a ≡ Some r → r.memory ≡ m → first ≤ r.offset → r.offset ≤ last → (low ≤ a) × (a ≤ high)
