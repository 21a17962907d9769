-- All actors of a net, before their first steps.
use Rattle.std.specs.Prelude.{ℕ, ◌≡◌, ◌+◌, ◌<◌, false, List, [], length, Some, slice_get}
use Rattle.atomic_table.specs.Seated.{TableId}
use Rattle.one_history.specs.declared.view.Frame.{Frame}
use Rattle.one_history.specs.Held.{Held}
use Rattle.tlm_types.specs.declared.entry.Content.{Content}
use Rattle.tlm_model.specs.declared.platform.Platform.{Platform}
use Rattle.tlm_model.specs.Plan.{Plan, Initiator, initiators_of}
use Rattle.initiator_run.specs.Come.{HasCome}
use Rattle.plat_build.specs.Kept.{IsBlank}
use Rattle.stepped_actors.specs.declared.actor.SteppedActor.{SteppedActor}
use Rattle.stepped_actors.specs.declared.actor.SteppedActor.TheVariants.{Decoupled, FourPhase, Router, Memory}
use Rattle.stepped_actors.specs.Actors.{KeepsBy, is_node, number_of}

-- how many actors there are: the initiators, the routers and the memories
abbrev pub actors_of : Platform → ℕ
actors_of p = length p.initiators + length p.routers + length p.memories

-- a blocking or direct initiator is in its first round, and has not finished
abbrev pub IsFresh : SteppedActor → Type 0
IsFresh (Decoupled s) = (s.run.syncs ≡ 0) × (s.run.round ≡ 0) × (s.run.finished ≡ false)
IsFresh (FourPhase s) = Unit {0}
IsFresh (Router s) = Unit {0}
IsFresh (Memory s) = Unit {0}

-- a blocking or direct initiator is where a history leaves it that has no entries
abbrev pub IsAtStart : Plan → SteppedActor → Type 0
IsAtStart p (Decoupled s) = (i : Initiator) → slice_get (initiators_of p) s.run.engine.initiator ≡ Some i → HasCome p.platform i [] s.run
IsAtStart p (FourPhase s) = Unit {0}
IsAtStart p (Router s) = Unit {0}
IsAtStart p (Memory s) = Unit {0}

-- An actor that begins, by any note that has seen nothing: it has this number, which an initiator of the plan has unless it is a router or a memory.
pub record HasBegun (table tokens : TableId) (frame : Frame Plan) (number : ℕ) (a : SteppedActor) : Type 0 where
  pub number_is : number_of frame.world.platform a ≡ number
  pub among : is_node a ≡ false → number < length frame.world.platform.initiators
  pub fresh : IsFresh a
  pub at_start : IsAtStart frame.world a
  pub keeps : (note : Held Content Plan) → IsBlank table note → KeepsBy table tokens frame a note

-- the first actors begin
abbrev pub HaveBegun : TableId → TableId → Frame Plan → List SteppedActor → Type 0
HaveBegun table tokens frame actors = (k : ℕ) (a : SteppedActor) → slice_get actors k ≡ Some a → HasBegun table tokens frame k a
