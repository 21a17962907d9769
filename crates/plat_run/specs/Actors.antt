-- The number of a job, and whether it is done, by its kind.
use Rattle.std.specs.Prelude.{ℕ, Bool, true, false}
use Rattle.plat_run.specs.declared.actor.Actor.{Actor}
use Rattle.plat_run.specs.declared.actor.Actor.TheVariants.{Decoupled, FourPhase, Memory, Router}

-- an initiator's job has the number of the initiator
abbrev pub number_of : {N : Type 0} → Actor N → ℕ
number_of (Decoupled job) = job.value.engine.initiator
number_of (FourPhase job) = job.value.port.port.engine.initiator
number_of (Memory job) = job.value
number_of (Router job) = job.value

-- a memory and a router are never done
abbrev pub is_done : {N : Type 0} → Actor N → Bool
is_done (Decoupled job) = job.value.finished
is_done (FourPhase job) = job.value.finished
is_done (Memory job) = false
is_done (Router job) = false

-- a job that is pumped: its turns may change hops and pools
abbrev pub is_pumped : {N : Type 0} → Actor N → Bool
is_pumped (Decoupled job) = false
is_pumped (FourPhase job) = true
is_pumped (Memory job) = true
is_pumped (Router job) = true
