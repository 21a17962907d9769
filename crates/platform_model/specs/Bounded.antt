-- The bounds that hold of each platform that a file describes.
use Rattle.std.specs.Prelude.{ℕ, ◌≤◌, ◌^◌, ◌≢◌, Bool, true, false, ◌||◌, IsTrue, List, ◌++◌, length, map, sum_by, All, nat_lt}
use Rattle.std.specs.List.{AllPairs}
use Rattle.addr_router.specs.Windows.{IsValid}
use Rattle.tlm_model.specs.declared.platform.InitiatorRow.{InitiatorRow}
use Rattle.tlm_model.specs.declared.platform.MemoryRow.{MemoryRow}
use Rattle.tlm_model.specs.declared.platform.Platform.{Platform}
use Rattle.tlm_model.specs.declared.platform.RouterRow.{RouterRow}
use Rattle.tlm_model.specs.declared.platform.Target.{Target}
use Rattle.tlm_model.specs.declared.platform.Target.TheVariants.{Router, Memory}
use Rattle.tlm_types.specs.declared.words.ReqMode.{ReqMode}
use Rattle.tlm_types.specs.declared.words.ReqMode.TheVariants.{Accept, EndReq}
use Rattle.platform_model.specs.Name.{is_name}
use Rattle.platform_model.specs.Windows.{windows_of}

-- a target is a router or a memory of the platform
abbrev pub is_there : Platform → Target → Bool
is_there p (Router r) = nat_lt r (length p.routers)
is_there p (Memory m) = nat_lt m (length p.memories)

-- how a router may answer BEGIN_REQ: its request ends later, or at once
abbrev pub is_router_mode : ReqMode → Bool
is_router_mode Accept = true
is_router_mode EndReq = true
is_router_mode _ = false

-- the names of the initiators, the routers and the memories, in this order
abbrev pub names_in : Platform → List (List ℕ)
names_in p =
    map (λ (i : InitiatorRow). i.name) p.initiators ++ map (λ (r : RouterRow). r.name) p.routers
    ++ map (λ (m : MemoryRow). m.name) p.memories

pub record IsBoundedInitiator (p : Platform) (i : InitiatorRow) : Type 0 where
  pub named : IsTrue (is_name i.name)
  pub bind : IsTrue (is_there p i.bind)
  pub some_slots : 1 ≤ i.pool
  pub slots : i.pool ≤ 16

pub record IsBoundedRouter (p : Platform) (r : RouterRow) : Type 0 where
  pub named : IsTrue (is_name r.name)
  pub latency : r.latency ≤ 10 ^ 12
  pub accept : IsTrue (is_router_mode r.accept)
  pub some_lanes : 1 ≤ r.lanes
  pub lanes : r.lanes ≤ 16
  pub window_count : length r.windows ≤ 16
  -- no window is empty, goes past the greatest address or overlaps another
  pub windows : IsValid (windows_of r)
  pub targets : All (λ w. IsTrue (is_there p w.to)) r.windows

pub record IsBoundedMemory (m : MemoryRow) : Type 0 where
  pub named : IsTrue (is_name m.name)
  pub some_bytes : 1 ≤ m.traits.size
  pub size : m.traits.size ≤ 16777216
  pub latency : m.traits.latency ≤ 10 ^ 12
  pub access : IsTrue (m.traits.readable || m.traits.writable)
  pub some_gates : 1 ≤ m.traits.gates
  pub gates : m.traits.gates ≤ 256
  pub some_lanes : 1 ≤ m.lanes
  pub lanes : m.lanes ≤ 16

pub record IsBounded (p : Platform) : Type 0 where
  pub quantum : p.quantum ≤ 10 ^ 15
  pub some_initiator : 1 ≤ length p.initiators
  pub initiator_count : length p.initiators ≤ 32
  pub router_count : length p.routers ≤ 16
  pub some_memory : 1 ≤ length p.memories
  pub memory_count : length p.memories ≤ 16
  pub initiators : All (IsBoundedInitiator p) p.initiators
  pub routers : All (IsBoundedRouter p) p.routers
  pub memories : All IsBoundedMemory p.memories
  pub bytes : sum_by (λ (m : MemoryRow). m.traits.size) p.memories ≤ 67108864
  pub gates : sum_by (λ (m : MemoryRow). m.traits.gates) p.memories ≤ 1024
  -- no two components have the same name
  pub own_names : AllPairs (λ x y. x ≢ y) (names_in p)
