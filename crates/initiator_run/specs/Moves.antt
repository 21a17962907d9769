-- What a run's moves without an entry lead to.
use Rattle.std.specs.Prelude.{ℕ, ◌≡◌, ◌+◌, ◌-◌, ◌*◌, ◌^◌, ◌<◌, ◌≤◌, min, true, List, length, Some, MatchOption, slice_get}
use Rattle.tlm_types.specs.declared.entry.Entry.{Entry}
use Rattle.tlm_model.specs.Plan.{Plan, Initiator, initiators_of}
use Rattle.route_plan.specs.declared.step.Route.{Route}
use Rattle.time_board.specs.declared.rounds.Member.{Member}
use Rattle.script_engine.specs.declared.op.Op.TheVariants as next
use Rattle.script_engine.specs.declared.part.Part.{Part}
use Rattle.script_engine.specs.declared.part.Part.TheVariants.{Asks, Invalidates}
use Rattle.script_engine.specs.declared.part.Transfer.{Transfer}
use Rattle.script_engine.specs.State.{State, next_of, op_of}
use Rattle.script_engine.specs.Asking.{numbers_due}
use Rattle.initiator_run.specs.declared.run.Move.{Move}
use Rattle.initiator_run.specs.declared.run.Move.TheVariants.{Went, Reached, Ended}
use Rattle.initiator_run.specs.declared.run.Move.TheVariants as move
use Rattle.initiator_run.specs.declared.run.NextInvalidation.{NextInvalidation}
use Rattle.initiator_run.specs.declared.run.Stop.{Stop}
use Rattle.initiator_run.specs.declared.run.Stop.TheVariants as stop
use Rattle.initiator_run.specs.Access.{IsRouteOf}
use Rattle.initiator_run.specs.Board.{IsWaiting}
use Rattle.initiator_run.specs.Come.{HasCome}
use Rattle.initiator_run.specs.Left.{asks_left, bytes_left}
use Rattle.initiator_run.specs.Run.{Run}

-- a run of one of the plan's initiators, whose script is served
pub record IsUnderWay (p : Plan) (r : Run) : Type 0 where
  pub initiator : Initiator
  pub history : List Entry
  pub mine : slice_get (initiators_of p) r.engine.initiator ≡ Some initiator
  pub come : HasCome p.platform initiator history r

-- how many steps a script may still take
abbrev pub steps_left : State → ℕ
steps_left e = 2 * length e.remaining + numbers_due e.due

-- this transfer is next, and its address has this route
pub record HasReached (p : Plan) (r : Run) (x : Transfer) (route : Route) : Type 0 where
  pub next : next_of r.engine ≡ Asks x
  pub leads : MatchOption (slice_get (initiators_of p) r.engine.initiator) ⊥ (λ i. IsRouteOf p i x.address route)

-- what is next is an invalidation
abbrev pub IsInvalidation : Part → Type 0
IsInvalidation (Invalidates s a n) = Unit {0}
IsInvalidation part = ⊥

-- the last of n bytes from a first one on, as far as there can be bytes
abbrev pub last_byte : ℕ → ℕ → ℕ
last_byte first n = min (first + (n - 1)) (2 ^ 64 - 1)

-- An invalidation of so many bytes is next, and its address has this route: these are the bytes of the memory.
pub record HasToInvalidate (p : Plan) (r : Run) (x : NextInvalidation) : Type 0 where
  pub address : ℕ
  pub bytes : ℕ
  pub next : next_of r.engine ≡ Invalidates r.engine.seq address bytes
  pub leads : MatchOption (slice_get (initiators_of p) r.engine.initiator) ⊥ (λ i. IsRouteOf p i address x.route)
  pub first_is : x.first ≡ x.route.offset
  pub last_is : x.last ≡ last_byte x.route.offset bytes

-- a run whose script has ended has finished
pub record HasNoMore (r : Run) : Type 0 where
  pub done : op_of r.engine ≡ next.Done
  pub finished : r.finished ≡ true

-- a move goes on in the script, or stands at an access or an invalidation with a route, or at the end
abbrev pub IsMove : Plan → Run → Run → Move → Type 0
IsMove p old new Went = (steps_left new.engine < steps_left old.engine) × (new.finished ≡ old.finished)
IsMove p old new (Reached access) = HasReached p new access.transfer access.route × (new ≡ old)
IsMove p old new (move.Invalidates x) = HasToInvalidate p new x × (new ≡ old)
IsMove p old new Ended = HasNoMore new × (new ≡ record old { finished = true })

-- all moves lead to an access or an invalidation with a route, to the end, or to a sync that isn't let through
abbrev pub Advances : Plan → Run → Run → List Member → Stop → Type 0
Advances p old new members (stop.Reached access) = HasReached p new access.transfer access.route × (new.finished ≡ old.finished) × (new.round ≡ new.syncs)
Advances p old new members (stop.Invalidates x) = HasToInvalidate p new x × (new.finished ≡ old.finished) × (new.round ≡ new.syncs)
Advances p old new members stop.Waits = IsWaiting members new × (new.finished ≡ old.finished)
Advances p old new members stop.Ended = HasNoMore new × (new.round ≡ new.syncs)

-- what a run has come to in a history, the run that follows it has come to as well
pub record Keeps (p : Plan) (old new : Run) : Type 0 where
  pub initiator : new.engine.initiator ≡ old.engine.initiator
  pub come : (i : Initiator) (h : List Entry) → slice_get (initiators_of p) old.engine.initiator ≡ Some i → HasCome p.platform i h old → HasCome p.platform i h new
  -- it has all left to ask for that was left, and logs no more bytes
  pub left : (i : Initiator) (m : ℕ) → slice_get (initiators_of p) old.engine.initiator ≡ Some i → asks_left p i m new.engine ≡ asks_left p i m old.engine
  pub bytes : (i : Initiator) (m : ℕ) → bytes_left p i m new.engine ≤ bytes_left p i m old.engine

-- moves without an entry and before the end
pub record HasAdvanced (p : Plan) (old new : Run) : Type 0 where
  pub way : IsUnderWay p new
  pub keeps : Keeps p old new
  pub finished : new.finished ≡ old.finished
