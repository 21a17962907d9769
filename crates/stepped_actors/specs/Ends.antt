-- How far an initiator has come.
use Rattle.tlm_types.specs.declared.ends.EndOf.{EndOf}
use Rattle.initiator_run.specs.Run.{IsSoFar as RunIsSoFar}
use Rattle.port_model.specs.Ends.{IsEndOfPort}
use Rattle.stepped_actors.specs.declared.actor.SteppedActor.{SteppedActor}
use Rattle.stepped_actors.specs.declared.actor.SteppedActor.TheVariants.{Decoupled, FourPhase, Router, Memory}

-- an end tells how far an initiator has come, by what its style keeps; a router or a memory has no end
abbrev pub IsSoFar : SteppedActor → EndOf → Type 0
IsSoFar (Decoupled s) end = RunIsSoFar s.run end
IsSoFar (FourPhase s) end = IsEndOfPort s.state.port end
IsSoFar (Router s) end = ⊥
IsSoFar (Memory s) end = ⊥
