-- Where the objects of a plan stand in its history, and where its hops lead.
use Rattle.std.specs.Prelude.{ℕ, ◌≡◌, IsSomeAnd, Option, Some, None, slice_get}
use Rattle.tlm_types.specs.declared.words.ObjectNo.TheVariants.{Memory, Hop, Pool}
use Rattle.tlm_model.specs.declared.platform.Platform.{Platform}
use Rattle.tlm_model.specs.declared.platform.Target.{Target}
use Rattle.tlm_model.specs.declared.platform.Target.TheVariants as targets
use Rattle.tlm_model.specs.Plan.{Plan}
use Rattle.route_plan.specs.declared.ends.HopEnds.{HopEnds}
use Rattle.route_plan.specs.Routes.{ends_of}
use Rattle.cargo_model.specs.Known.{object_number}

-- the number in the history of an initiator's pool, of a hop, and of a memory
abbrev pub own_pool : Plan → ℕ → ℕ
own_pool p i = object_number p.platform (Pool i)

abbrev pub hop_place : Plan → ℕ → ℕ
hop_place p h = object_number p.platform (Hop h)

abbrev pub memory_place : Plan → ℕ → ℕ
memory_place p m = object_number p.platform (Memory m)

-- the hop by which an initiator is bound has the initiator's number
abbrev pub first_hop : Plan → ℕ → ℕ
first_hop p i = hop_place p i

-- hop h of the platform leads to this component
abbrev pub LeadsTo : Platform → ℕ → Target → Type 0
LeadsTo p h to = IsSomeAnd (slice_get (ends_of p) h) (λ (e : HopEnds). e.down ≡ to)

-- the number in the history of a component that is a memory
abbrev pub place_of_target : Plan → Target → Option ℕ
place_of_target p (targets.Memory m) = Some (memory_place p m)
place_of_target p (targets.Router r) = None

abbrev pub place_at_end : Plan → Option HopEnds → Option ℕ
place_at_end p None = None
place_at_end p (Some e) = place_of_target p e.down

-- the number in the history of the memory that a hop leads to, if it leads to one
abbrev pub memory_behind : Plan → ℕ → Option ℕ
memory_behind p h = place_at_end p (slice_get (ends_of p.platform) h)
