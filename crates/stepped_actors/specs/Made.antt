-- The entry of a step of an actor, and its run.
use Rattle.std.specs.Prelude.{Bool, true, false}
use Rattle.one_history.specs.declared.entry.Entry.{Entry}
use Rattle.tlm_types.specs.declared.entry.Content.{Content}
use Rattle.tlm_model.specs.Plan.{Plan}
use Rattle.initiator_run.specs.Moves.{Keeps}
use Rattle.initiator_run.specs.Run.{Run}
use Rattle.decoupled_run.specs.Stepped.{IsStepEntry}
use Rattle.stepped_actors.specs.declared.actor.SteppedActor.{SteppedActor}
use Rattle.stepped_actors.specs.declared.actor.SteppedActor.TheVariants.{Decoupled, FourPhase, Router, Memory}
use Rattle.stepped_actors.specs.Actors.{IsMadeBy}

-- with this entry a run has come on to that of a blocking or direct initiator
abbrev pub ComesOnBy : Plan → Run → SteppedActor → Entry Content → Type 0
ComesOnBy p r (Decoupled s) e = IsStepEntry p r s.run e
ComesOnBy p r (FourPhase s) e = ⊥
ComesOnBy p r (Router s) e = ⊥
ComesOnBy p r (Memory s) e = ⊥

-- The entry of a step from one to the other. With that of a blocking or direct initiator its run has come on, and the entry is of the round in which the
-- run is then; of any other actor it is one that such an actor makes.
abbrev pub IsStepOf : Plan → SteppedActor → SteppedActor → Entry Content → Type 0
IsStepOf p (Decoupled s) new e = ComesOnBy p s.run new e
IsStepOf p (FourPhase s) new e = IsMadeBy p (FourPhase s) e
IsStepOf p (Router s) new e = IsMadeBy p (Router s) e
IsStepOf p (Memory s) new e = IsMadeBy p (Memory s) e

-- a blocking or direct initiator
abbrev pub is_decoupled : SteppedActor → Bool
is_decoupled (Decoupled s) = true
is_decoupled (FourPhase s) = false
is_decoupled (Router s) = false
is_decoupled (Memory s) = false

-- the run of a blocking or direct initiator has made no entry
abbrev pub KeepsRun : Plan → SteppedActor → SteppedActor → Type 0
KeepsRun p (Decoupled s) (Decoupled t) = Keeps p s.run t.run
KeepsRun p old new = Unit {0}
