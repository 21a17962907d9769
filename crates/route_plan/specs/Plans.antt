-- Walks of the initiators of a plan.
use Rattle.std.specs.Prelude.{ℕ, Option, Some, None, slice_get}
use Rattle.tlm_model.specs.declared.platform.Platform.{Platform}
use Rattle.tlm_model.specs.Plan.{Plan, Initiator, initiators_of}
use Rattle.tlm_model.specs.Route.{Walk, nowhere, walk_of}

abbrev pub walk_by : Platform → Option Initiator → ℕ → Walk
walk_by p None a = nowhere 0
walk_by p (Some i) a = walk_of p i a

-- the walk of an address of the initiator with this number, if it is there
abbrev pub walk_at : Plan → ℕ → ℕ → Walk
walk_at p n a = walk_by p.platform (slice_get (initiators_of p) n) a
