-- The syncs of an initiator (IEEE 1666-2011, clause 16.2: the quantum keeper).
use Rattle.std.specs.Prelude.{ℕ, ◌+◌, ◌-◌, ◌*◌, ◌/◌, min, Bool, ◌||◌, List, [], ◌∷◌, if◌then◌else◌, ◌==◌, nat_le, nat_lt}
use Rattle.tlm_model.specs.declared.operation.Operation.{Operation}
use Rattle.tlm_model.specs.declared.platform.Platform.{Platform}
use Rattle.tlm_model.specs.declared.platform.Style.{Style}
use Rattle.tlm_model.specs.declared.platform.Style.TheVariants.{Blocking, Direct, FourPhase}
use Rattle.tlm_model.specs.Actions.{action_of, syncs_in}
use Rattle.tlm_model.specs.Plan.{Initiator}
use Rattle.tlm_model.specs.Route.{greatest_time}
use Rattle.tlm_model.specs.Requests.{time_after, numbers_of}

-- the next whole multiple of the quantum after now, or now for a quantum of 0
abbrev pub next_point : ℕ → ℕ → ℕ
next_point quantum now = if quantum == 0 then now else min ((now / quantum + 1) * quantum) greatest_time

abbrev pub is_sync : Operation → Bool
is_sync op = syncs_in (action_of op)

-- a sync stands after this operation, where now is the time of the last sync and t the time after it
abbrev pub syncs_after : ℕ → ℕ → ℕ → Operation → Bool
syncs_after quantum now t op = is_sync op || ((quantum == 0) || nat_le (next_point quantum now) t)

-- the syncs from these operations on, where now is the time of the last sync and t the current time
abbrev pub syncs_from : Platform → Initiator → ℕ → ℕ → List Operation → ℕ
syncs_from p i now t [] = 0
syncs_from p i now t (op ∷ ops) =
    if syncs_after p.quantum now (time_after p i t op) op
    then syncs_from p i (time_after p i t op) (time_after p i t op) ops + 1
    else syncs_from p i now (time_after p i t op) ops

abbrev pub syncs_by : Style → ℕ → ℕ
syncs_by Blocking n = n
syncs_by Direct n = n
syncs_by FourPhase n = 0

-- the syncs of an initiator: a four-phase one isn't decoupled, and has none
abbrev pub syncs_of : Platform → Initiator → ℕ
syncs_of p i = syncs_by i.row.style (syncs_from p i 0 0 i.script)

-- the syncs before the operation that asks for the s-th request from these on
abbrev pub rounds_from : Platform → Initiator → ℕ → ℕ → List Operation → ℕ → ℕ
rounds_from p i now t [] s = 0
rounds_from p i now t (op ∷ ops) s =
    if nat_lt s (numbers_of op) then 0 else
    (if syncs_after p.quantum now (time_after p i t op) op
    then rounds_from p i (time_after p i t op) (time_after p i t op) ops (s - numbers_of op) + 1
    else rounds_from p i now (time_after p i t op) ops (s - numbers_of op))

-- the round of request s of a blocking or direct initiator
abbrev pub round_of : Platform → Initiator → ℕ → ℕ
round_of p i s = rounds_from p i 0 0 i.script s
