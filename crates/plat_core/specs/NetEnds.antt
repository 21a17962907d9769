-- How far several initiators have come.
use Rattle.std.specs.Prelude.{ℕ, ◌≡◌, false, List, length, Some, slice_get}
use Rattle.tlm_types.specs.declared.ends.EndOf.{EndOf}
use Rattle.stepped_actors.specs.declared.actor.SteppedActor.{SteppedActor}
use Rattle.stepped_actors.specs.Actors.{is_node}
use Rattle.stepped_actors.specs.Ends.{IsSoFar}

abbrev pub AreInitiators : List SteppedActor → Type 0
AreInitiators actors = (k : ℕ) (a : SteppedActor) → slice_get actors k ≡ Some a → is_node a ≡ false

-- for each there is an end that tells how far it has come
pub record AreEndsOf (actors : List SteppedActor) (ends : List EndOf) : Type 0 where
  pub count : length ends ≡ length actors
  pub each : (k : ℕ) (a : SteppedActor) (end : EndOf) → slice_get actors k ≡ Some a → slice_get ends k ≡ Some end → IsSoFar a end
