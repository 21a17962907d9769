-- Which known entries back an entry of a plan's history, and how its memories, hops and pools are built.
use Rattle.std.specs.Prelude.{ℕ, ◌≡◌, List, sum, take, IsSomeAnd, None, slice_get}
use Rattle.one_history.specs.declared.entry.Entry.{Entry}
use Rattle.tlm_types.specs.declared.entry.Content.{Content}
use Rattle.tlm_types.specs.declared.words.MemoryTraits.{MemoryTraits}
use Rattle.tlm_types.specs.declared.words.ObjectNo.TheVariants.{Memory, Hop, Pool}
use Rattle.tlm_model.specs.declared.platform.InitiatorRow.{InitiatorRow}
use Rattle.tlm_model.specs.declared.platform.MemoryRow.{MemoryRow}
use Rattle.tlm_model.specs.Plan.{Plan}
use Rattle.shared_object.specs.Written.{Built}
use Rattle.hop_object.specs.declared.call.HopTraits.{HopTraits}
use Rattle.payload_pool.specs.declared.pool.PoolMade.{PoolMade}
use Rattle.flow_model.specs.Backed.{IsBacked}
use Rattle.flow_model.specs.Platform.{hop_in, world_of}
use Rattle.cargo_model.specs.Known.{Known, event_of, object_number}
use Rattle.cargo_net.specs.Gates.{gates_at, gates_of}

-- the known entries back this one, in the world of the plan
abbrev pub Backs : Plan → List (Entry Content) → Entry Content → Type 0
Backs p known e = IsBacked (world_of p) (Known p.platform known) (event_of p.platform e)

-- a hop of the plan, with its number in the history: its lanes and modes are those of the components at its ends
pub record IsHopBuilt (p : Plan) (number : ℕ) (b : Built HopTraits) : Type 0 where
  pub hop : ℕ
  pub object : b.object ≡ Hop hop
  pub place : number ≡ object_number p.platform (Hop hop)
  pub lanes : b.made.lanes ≡ (hop_in p.platform hop).limit
  pub req : b.made.req ≡ (hop_in p.platform hop).req
  pub resp : b.made.resp ≡ (hop_in p.platform hop).resp

-- memory m of the plan, with this number in the history too: its traits are those of its row, its gates come after those of the memories before
-- it, and it has no second book
pub record IsMemoryBuilt (p : Plan) (m : ℕ) (b : Built MemoryTraits) : Type 0 where
  pub object : b.object ≡ Memory m
  pub row : IsSomeAnd (slice_get p.platform.memories m) (λ (row : MemoryRow). b.made ≡ row.traits)
  pub gates : b.gates ≡ (sum (take m (gates_of p.platform)), gates_at p.platform (Memory m))
  pub book : b.book ≡ None

-- the pool of an initiator of the plan, with its number in the history: it has as many slots as the row says, each with room for 4,096 bytes
pub record IsPoolBuilt (p : Plan) (number : ℕ) (b : Built PoolMade) : Type 0 where
  pub initiator : ℕ
  pub object : b.object ≡ Pool initiator
  pub place : number ≡ object_number p.platform (Pool initiator)
  pub row : IsSomeAnd (slice_get p.platform.initiators initiator) (λ (row : InitiatorRow). b.made.slots ≡ row.pool)
  pub room : b.made.room ≡ 4096
