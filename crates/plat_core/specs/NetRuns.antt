-- How far the runs of a core have come, and when a blocking or direct initiator goes on, waits or finishes.
use Rattle.std.specs.Prelude.{ℕ, ◌≡◌, true, false, List, Some, slice_get}
use Rattle.std.specs.List.{filter}
use Rattle.one_history.specs.declared.entry.Entry.{Entry as HistoryEntry}
use Rattle.tlm_types.specs.declared.entry.Content.{Content}
use Rattle.tlm_types.specs.declared.entry.Entry.{Entry}
use Rattle.tlm_model.specs.Plan.{Plan, Initiator, initiators_of}
use Rattle.tlm_model.specs.Requests.{requests_of}
use Rattle.tlm_model.specs.Scripts.{is_answer}
use Rattle.good_history.specs.Good.{IsSound}
use Rattle.time_board.specs.declared.rounds.Member.{Member}
use Rattle.initiator_run.specs.Come.{HasCome, has_ended}
use Rattle.stepped_actors.specs.declared.actor.SteppedActor.{SteppedActor}
use Rattle.stepped_actors.specs.declared.actor.SteppedActor.TheVariants.{Decoupled, FourPhase, Router, Memory}
use Rattle.plat_core.specs.Rounds.{IsHeldBack, due_round, is_decoupled, is_decoupled_entry}

-- The entries of blocking and direct initiators. What such an initiator asks for next depends on its own entries alone.
abbrev pub decoupled_part : Plan → List Entry → List Entry
decoupled_part p h = filter (is_decoupled_entry p) h

abbrev pub OfInitiator : Plan → ℕ → (Initiator → Type 0) → Type 0
OfInitiator p n P = (i : Initiator) → slice_get (initiators_of p) n ≡ Some i → P i

-- the run of a blocking or direct initiator has come to where these entries leave it
abbrev pub HasComeBy : Plan → List Entry → SteppedActor → Type 0
HasComeBy p h (Decoupled s) = OfInitiator p s.run.engine.initiator (λ i. HasCome p.platform i (decoupled_part p h) s.run)
HasComeBy p h (FourPhase s) = Unit {0}
HasComeBy p h (Router s) = Unit {0}
HasComeBy p h (Memory s) = Unit {0}

-- the next entry of initiator n has a round that somebody has not come near to
abbrev pub IsHeld : Plan → List Entry → List Member → ℕ → Initiator → Type 0
IsHeld p h members n i = IsHeldBack members n (due_round p.platform i (decoupled_part p h))

-- its script has not ended, and nobody holds it back
pub record MayGoOn (p : Plan) (h : List Entry) (members : List Member) (n : ℕ) (i : Initiator) : Type 0 where
  pub unended : has_ended p.platform i (decoupled_part p h) ≡ false
  pub free : IsHeld p h members n i → ⊥

-- its script has ended, and nobody holds it back
pub record MayEnd (p : Plan) (h : List Entry) (members : List Member) (n : ℕ) (i : Initiator) : Type 0 where
  pub ended : has_ended p.platform i (decoupled_part p h) ≡ true
  pub free : IsHeld p h members n i → ⊥

-- A blocking or direct initiator makes an access, a debug read or an invalidation only where it may go on. A grant and a closing belong to what was
-- made before.
abbrev pub MayMake : Plan → List Entry → List Member → SteppedActor → HistoryEntry Content → Type 0
MayMake p h members (Decoupled s) e = is_answer e.content.what ≡ true → OfInitiator p s.run.engine.initiator (MayGoOn p h members s.run.engine.initiator)
MayMake p h members (FourPhase s) e = Unit {0}
MayMake p h members (Router s) e = Unit {0}
MayMake p h members (Memory s) e = Unit {0}

-- it waits only where it is held back
abbrev pub MayWait : Plan → List Entry → List Member → SteppedActor → Type 0
MayWait p h members (Decoupled s) = OfInitiator p s.run.engine.initiator (IsHeld p h members s.run.engine.initiator)
MayWait p h members (FourPhase s) = Unit {0}
MayWait p h members (Router s) = Unit {0}
MayWait p h members (Memory s) = Unit {0}

-- it finishes only where its script has ended
abbrev pub MayFinish : Plan → List Entry → List Member → SteppedActor → Type 0
MayFinish p h members (Decoupled s) = OfInitiator p s.run.engine.initiator (MayEnd p h members s.run.engine.initiator)
MayFinish p h members (FourPhase s) = Unit {0}
MayFinish p h members (Router s) = Unit {0}
MayFinish p h members (Memory s) = Unit {0}

-- what such an initiator asks for, whether its script has ended and the round of its next entry, by these entries and by all
pub record PartTells (p : Plan) (h : List Entry) (i : Initiator) : Type 0 where
  pub requests : requests_of p.platform i (decoupled_part p h) ≡ requests_of p.platform i h
  pub ended : has_ended p.platform i (decoupled_part p h) ≡ has_ended p.platform i h
  pub due : due_round p.platform i (decoupled_part p h) ≡ due_round p.platform i h

-- in a sound history nothing else answers such an initiator
abbrev pub PartIsEnough : Type 0
PartIsEnough = (p : Plan) (h : List Entry) (n : ℕ) (i : Initiator) → slice_get (initiators_of p) n ≡ Some i → is_decoupled i.row.style ≡ true → IsSound p h → PartTells p h i
