-- What is planned of each object of a plan's history, and with what the history is made.
use Rattle.std.specs.Prelude.{ℕ, ◌≡◌, ◌+◌, List, length, map, Some, slice_get}
use Rattle.std.specs.List.{filter, range_with_len}
use Rattle.tlm_types.specs.declared.words.ObjectNo.{ObjectNo}
use Rattle.tlm_types.specs.declared.words.ObjectNo.TheVariants.{Memory, Hop, Pool}
use Rattle.tlm_model.specs.declared.platform.Platform.{Platform}
use Rattle.tlm_model.specs.Plan.{Plan}
use Rattle.one_history.specs.declared.view.Frame.{Frame}
use Rattle.route_plan.specs.Counted.{logged_share_at}
use Rattle.route_plan.specs.Planned.{planned_at}
use Rattle.route_plan.specs.Valid.{hop_count}
use Rattle.cargo_model.specs.Known.{is_used, objects_of}
use Rattle.cargo_net.specs.Gates.{gates_of}

-- the object with this number in the history
abbrev pub HasObject : Platform → ℕ → ObjectNo → Type 0
HasObject p n o = slice_get (objects_of p) n ≡ Some o

-- the bytes that an initiator may log at an object: no other than a memory logs any
abbrev pub bytes_at : Plan → ℕ → ObjectNo → ℕ
bytes_at p i (Memory m) = logged_share_at p i m
bytes_at p i (Hop h) = 0
bytes_at p i (Pool n) = 0

-- the number of the first pool
abbrev pub pools_start : Platform → ℕ
pools_start p = length p.memories + hop_count p

-- the pools of the first n initiators
abbrev pub pools_of : Platform → ℕ → List ObjectNo
pools_of p n = filter (is_used p) (map Pool (range_with_len 0 n))

-- the entries that are planned of each object
unfoldable pub planned_of : Plan → List ℕ
planned_of p = map (planned_at p) (objects_of p.platform)

-- a note for each initiator, each router and each memory
abbrev pub notes_of : Platform → ℕ
notes_of p = length p.initiators + length p.routers + length p.memories

-- what the history of a plan is made with
abbrev pub frame_of : Plan → Frame Plan
frame_of p = record { world = p; planned = planned_of p; gates = gates_of p.platform; notes = notes_of p.platform }
