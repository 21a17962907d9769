-- What holds of an engine at all times.
use Rattle.std.specs.Prelude.{◌^◌, ◌<◌, ◌≤◌, length, Option, Some, None}
use Rattle.std.specs.List.{AllByRecursion}
use Rattle.traffic_script.specs.Proper.{IsProper}
use Rattle.script_engine.specs.State.{Due, State}
use Rattle.script_engine.specs.Asking.{numbers_at}

-- a write that is due has 1 to 4,096 bytes
abbrev pub HasBytes : Option Due → Type 0
HasBytes None = Unit {0}
HasBytes (Some w) = (1 ≤ length w.bytes) × (length w.bytes ≤ 4096)

-- its sequence numbers suffice, and its accesses have 1 to 4,096 bytes
pub record IsReady (e : State) : Type 0 where
  pub numbered : numbers_at e < 2 ^ 64
  pub due : HasBytes e.due
  pub proper : AllByRecursion IsProper e.remaining
