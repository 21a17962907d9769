-- What a turn of an initiator does to its run and to the memories.
use Rattle.std.specs.Prelude.{ℕ, ◌≡◌, ◌<◌, ◌≤◌, true, List, length, Some, IsSomeAnd, slice_get, slice_set}
use Rattle.tlm_model.specs.Plan.{Plan}
use Rattle.region_object.specs.Region.{LoggedMemory, with_logged}
use Rattle.route_plan.specs.declared.step.Route.{Route}
use Rattle.time_board.specs.declared.rounds.Member.{Member}
use Rattle.script_engine.specs.declared.part.Transfer.{Transfer}
use Rattle.script_engine.specs.Part.{is_fenced_kind}
use Rattle.initiator_run.specs.declared.turn.Turn.{Turn}
use Rattle.initiator_run.specs.declared.run.NextInvalidation.{NextInvalidation}
use Rattle.initiator_run.specs.declared.turn.Turn.TheVariants.{Made, Invalidates, Waits, Ended}
use Rattle.initiator_run.specs.Access.{bytes_back, entry_made}
use Rattle.initiator_run.specs.Board.{IsWaiting}
use Rattle.initiator_run.specs.Moves.{HasNoMore, HasReached, HasToInvalidate, Keeps}
use Rattle.initiator_run.specs.Run.{Run, accessed}

-- there is such a memory, and it has room for one more entry of so many bytes
abbrev pub HasRoomAt : List LoggedMemory → ℕ → ℕ → Type 0
HasRoomAt regions k bytes = IsSomeAnd (slice_get regions k) (λ m. (length m.log.entries < m.log.room) × (bytes ≤ m.log.room_bytes))

-- the run has moved to an access with a route, and made it: its memory has the entry, and the others are as before
pub record HasMadeAccess (p : Plan) (old new : Run) (before after : List LoggedMemory) (position : ℕ) : Type 0 where
  pub middle : Run
  pub transfer : Transfer
  pub route : Route
  pub region : LoggedMemory
  pub got : List ℕ
  pub keeps : Keeps p old middle
  pub finished : middle.finished ≡ old.finished
  pub reached : HasReached p middle transfer route
  pub through : middle.round ≡ middle.syncs
  pub was : slice_get before route.memory ≡ Some region
  pub now : after ≡ slice_set before route.memory (with_logged region (entry_made middle transfer region route position))
  pub told : is_fenced_kind transfer.kind ≡ true → got ≡ bytes_back middle transfer region route
  pub run : new ≡ accessed transfer route.latency got middle

-- the run has moved to an invalidation with a route, which its caller makes
pub record HasMovedToInvalidate (p : Plan) (old new : Run) (before after : List LoggedMemory) (x : NextInvalidation) : Type 0 where
  pub keeps : Keeps p old new
  pub finished : new.finished ≡ old.finished
  pub reached : HasToInvalidate p new x
  pub through : new.round ≡ new.syncs
  pub same : after ≡ before

-- the run has moved to the end of its script
pub record HasMovedToEnd (p : Plan) (old new : Run) (before after : List LoggedMemory) : Type 0 where
  pub keeps : Keeps p old new
  pub ended : HasNoMore new
  pub through : new.round ≡ new.syncs
  pub same : after ≡ before

-- the run has moved to a sync that isn't let through
pub record HasMovedToWait (p : Plan) (old new : Run) (members : List Member) (before after : List LoggedMemory) : Type 0 where
  pub keeps : Keeps p old new
  pub finished : new.finished ≡ old.finished
  pub waiting : IsWaiting members new
  pub same : after ≡ before

abbrev pub IsTurn : Plan → Run → Run → List Member → List LoggedMemory → List LoggedMemory → ℕ → Turn → Type 0
IsTurn p old new members before after position Made = HasMadeAccess p old new before after position
IsTurn p old new members before after position (Invalidates x) = HasMovedToInvalidate p old new before after x
IsTurn p old new members before after position Waits = HasMovedToWait p old new members before after
IsTurn p old new members before after position Ended = HasMovedToEnd p old new before after
