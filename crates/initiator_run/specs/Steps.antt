-- One step of a script at a time.
use Rattle.std.specs.Prelude.{ℕ, zero, suc, ◌≡◌, ◌⊎◌, List}
use Rattle.tlm_model.specs.Plan.{Plan}
use Rattle.script_engine.specs.State.{State}
use Rattle.initiator_run.specs.Moves.{Keeps}
use Rattle.initiator_run.specs.Run.{Run, engine_after}

-- At most one step of a script: none, or the operation, or the access of one, that was next. Its payload came back with these
-- bytes.
pub record StepsOnce (old new : State) : Type 0 where
  pub got : List ℕ
  pub step : (new ≡ old) ⊎ (new ≡ engine_after old got)

-- so many moves without an entry, one after the other
abbrev pub MovesIn : ℕ → Plan → Run → Run → Type 0
MovesIn zero p old new = new ≡ old
MovesIn (suc n) p old new = (middle : Run) × MovesIn n p old middle × Keeps p middle new × StepsOnce middle.engine new.engine

-- some moves without an entry
pub record HasMoved (p : Plan) (old new : Run) : Type 0 where
  pub count : ℕ
  pub moves : MovesIn count p old new
