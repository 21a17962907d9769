-- The shape of a platform, or its first fault.
use Rattle.std.specs.Prelude.{ℕ, ◌≡◌, Bool, ◌||◌, ◌==◌, length, All, Result, Ok, Err, if◌then◌else◌, nat_lt, codes}
use Rattle.std.specs.List.{list_any, range_with_len}
use Rattle.platform_model.specs.declared.fault.PlatformCode.TheVariants.{Unbound, Cycle, TooDeep, TwoPaths}
use Rattle.platform_model.specs.declared.place.Place.TheVariants as place
use Rattle.platform_model.specs.Bounded.{IsBounded}
use Rattle.platform_model.specs.Reading.{PlatformRefusal, refusal, rows_from}
use Rattle.tlm_types.specs.Reading.{◌>>=◌}
use Rattle.tlm_model.specs.declared.platform.InitiatorRow.{InitiatorRow}
use Rattle.tlm_model.specs.declared.platform.MemoryRow.{MemoryRow}
use Rattle.tlm_model.specs.declared.platform.Platform.{Platform}
use Rattle.tlm_model.specs.declared.platform.RouterRow.{RouterRow}
use Rattle.tlm_model.specs.declared.platform.Style.TheVariants.{Blocking}
use Rattle.tlm_model.specs.declared.platform.Target.TheVariants.{Router, Memory}
use Rattle.platform_shape.specs.Paths.{is_on_cycle, is_deeper, paths_to, is_named}

-- at most so many routers stand on a path
abbrev pub most_routers : ℕ
most_routers = 8

abbrev pub checked_windowed : ℕ → RouterRow → Result (Unit {0}) PlatformRefusal
checked_windowed i r = if length r.windows == 0 then Err (refusal Unbound (place.Router i) (codes "window")) else Ok tt

abbrev pub checked_router_named : Platform → ℕ → RouterRow → Result (Unit {0}) PlatformRefusal
checked_router_named p i r = if is_named p (Router i) then Ok tt else Err (refusal Unbound (place.Router i) (codes "name"))

abbrev pub checked_memory_named : Platform → ℕ → MemoryRow → Result (Unit {0}) PlatformRefusal
checked_memory_named p i m = if is_named p (Memory i) then Ok tt else Err (refusal Unbound (place.Memory i) (codes "name"))

abbrev pub checked_acyclic : Platform → ℕ → RouterRow → Result (Unit {0}) PlatformRefusal
checked_acyclic p i r = if is_on_cycle p i then Err (refusal Cycle (place.Router i) (codes "window")) else Ok tt

abbrev pub checked_depth : Platform → ℕ → InitiatorRow → Result (Unit {0}) PlatformRefusal
checked_depth p n i = if is_deeper most_routers p i.bind then Err (refusal TooDeep (place.Initiator n) (codes "bind")) else Ok tt

-- two paths lead from an initiator to one router or to one memory
abbrev pub has_two_paths : Platform → InitiatorRow → Bool
has_two_paths p i =
    list_any (λ r. nat_lt 1 (paths_to (length p.routers) p i.bind (Router r))) (range_with_len 0 (length p.routers))
    || list_any (λ m. nat_lt 1 (paths_to (length p.routers) p i.bind (Memory m))) (range_with_len 0 (length p.memories))

abbrev pub checked_single : Platform → ℕ → InitiatorRow → Result (Unit {0}) PlatformRefusal
checked_single p n i = if has_two_paths p i then Err (refusal TwoPaths (place.Initiator n) (codes "bind")) else Ok tt

-- the tests of a platform's shape, in this order
unfoldable pub checked_shape : Platform → Result (Unit {0}) PlatformRefusal
checked_shape p = do
  _ ← rows_from checked_windowed 0 p.routers
  _ ← rows_from (checked_router_named p) 0 p.routers
  _ ← rows_from (checked_memory_named p) 0 p.memories
  _ ← rows_from (checked_acyclic p) 0 p.routers
  _ ← rows_from (checked_depth p) 0 p.initiators
  _ ← rows_from (checked_single p) 0 p.initiators
  Ok tt

-- a platform of a good shape: it is within the bounds of a file, and its bindings and windows have no fault
pub record IsShape (p : Platform) : Type 0 where
  pub bounded : IsBounded p
  pub checked : checked_shape p ≡ Ok tt

-- all initiators are blocking
abbrev pub IsBlocking : Platform → Type 0
IsBlocking p = All (λ (i : InitiatorRow). i.style ≡ Blocking) p.initiators
