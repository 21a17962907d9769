-- Laws of a pool's references.
use Rattle.std.specs.Prelude.{◌≡◌, ◌⊎◌, ℕ, ◌+◌, ◌<◌, ◌≤◌, ◌/◌, ◌%◌, Some}
use Rattle.tlm_types.specs.declared.words.ObjectNo.TheVariants.{Pool as pool_number}
use Rattle.tlm_types.specs.declared.entry.What.TheVariants.{Take}
use Rattle.view_lists.specs.Lists.{Has}
use Rattle.flow_model.specs.Events.{Among, Event, Finds}
use Rattle.flow_model.specs.Pools.{Life, slots_after}
use Rattle.flow_model.specs.Slots.{no_slots}
use Rattle.payload_pool.specs.Slots.{slot_at, reference_number, slot_place}
use Rattle.payload_pool.specs.Lives.{no_takes, takes_after}
use Rattle.payload_pool.specs.Pool.{PoolView}

-- a live slot has a life that began at the position that the name tells, and there the number is acquired and not released
pub record IsHeld (v : PoolView) (name : ℕ) : Type 0 where
  pub life : Life
  pub is : slots_after no_slots v.log.events (slot_place name v.slots) ≡ Some life
  pub position : takes_after no_takes v.log.events (slot_place name v.slots) ≡ name / 32
  pub txn : (slot_at v.slots (slot_place name v.slots)).txn ≡ life.txn
  pub number : (reference_number name < life.acquired) ⊎ (reference_number name ≡ 15)
  pub unreleased : ¬ Among life.released (reference_number name)
  pub own : 15 ≤ name % 32 → name % 32 ≡ 16 + life.acquired

-- the Take of the life of a reference, at the position that its name tells
pub record IsTakeBy (v : PoolView) (name : ℕ) (e : Event) : Type 0 where
  pub object : e.object ≡ pool_number v.initiator
  pub txn : (slot_at v.slots (slot_place name v.slots)).txn ≡ e.txn
  pub place : e.position ≡ name / 32
  pub what : e.what ≡ Take (slot_place name v.slots)

-- a reference that is out has its life in the log, and its Take, which is the only entry at its position
pub record NamesTransaction (v : PoolView) (name : ℕ) : Type 0 where
  pub held : IsHeld v name
  pub taken : Finds (Among v.log.events) (IsTakeBy v name)
  pub one : (e : Event) → Has v.log.events e → e.position ≡ name / 32 → IsTakeBy v name e
