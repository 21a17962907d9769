-- The memories, the hops and the pools of a net.
use Rattle.std.specs.Prelude.{ℕ, ◌≡◌, ◌<◌, ◌≤◌, true, List, [], length, map}
use mathlib.Core.Option.{some}
use lib.ListN.{get_elem?}
use Rattle.tlm_types.specs.declared.words.ObjectNo.TheVariants.{Hop, Pool}
use Rattle.tlm_model.specs.declared.platform.Platform.{Platform}
use Rattle.tlm_model.specs.Plan.{Plan}
use Rattle.view_lists.specs.Lists.{Has}
use Rattle.shared_object.specs.Standing.{Numbers}
use Rattle.route_plan.specs.Valid.{hop_count}
use Rattle.cargo_model.specs.Known.{is_used, object_number}
use Rattle.plat_net.specs.Objects.{pools_of}

-- the number of a memory in the history is its own number
abbrev pub memory_numbers : ℕ → Numbers
memory_numbers m = record { number = m; own = m }

-- those of hops and pools come after it
abbrev pub hop_numbers : Platform → ℕ → Numbers
hop_numbers p h = record { number = object_number p (Hop h); own = h }

abbrev pub pool_numbers : Platform → ℕ → Numbers
pool_numbers p i = record { number = object_number p (Pool i); own = i }

-- the memories of the plan, each at the place of its number
pub record AreMemories (p : Plan) (memories : List Numbers) : Type 0 where
  pub count : length memories ≡ length p.platform.memories
  pub each : (m : ℕ) (s : Numbers) → get_elem? memories m ≡ some s → s ≡ memory_numbers m

-- so many hops of the platform, each at the place of its number
pub record AreHopsTo (p : Platform) (n : ℕ) (hops : List Numbers) : Type 0 where
  pub count : length hops ≡ n
  pub each : (h : ℕ) (s : Numbers) → get_elem? hops h ≡ some s → s ≡ hop_numbers p h

-- all of them
abbrev pub AreHops : Platform → List Numbers → Type 0
AreHops p hops = AreHopsTo p (hop_count p) hops

-- the pools of those of the first n initiators that have one, in order
pub record ArePoolsTo (p : Platform) (n : ℕ) (pools : List Numbers) : Type 0 where
  pub objects : map (λ (s : Numbers). Pool s.own) pools ≡ pools_of p n
  pub each : (k : ℕ) (s : Numbers) → get_elem? pools k ≡ some s → s ≡ pool_numbers p s.own

-- the initiator has a pool
abbrev pub HasPool : Platform → ℕ → Type 0
HasPool p i = (i < length p.initiators) × (is_used p (Pool i) ≡ true)

-- one of these is that of the initiator
abbrev pub HasPoolOf : List Numbers → ℕ → Type 0
HasPoolOf pools i = (s : Numbers) × Has pools s × (s.own ≡ i)

abbrev pub ArePools : Platform → List Numbers → Type 0
ArePools p pools = ArePoolsTo p (length p.initiators) pools

-- a list in which nothing stands yet, with this capacity, has room for so many
abbrev pub IsRoom : {X : Type 0} → ℕ → List X → ℕ → Type 0
IsRoom count items capacity = (items ≡ []) × (count ≤ capacity)
