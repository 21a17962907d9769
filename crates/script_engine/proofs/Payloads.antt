-- The payload of what is next.
use Rattle.std.proofs.Common.{◌≡◌, ℕ, List, length, Option, arith}
use Rattle.std.proofs.lemmas.Grind.{common_steps}
use Rattle.tlm_types.specs.declared.words.Command.TheVariants.{Read}
use Rattle.tlm_model.specs.declared.operation.Operation.{Operation}
use Rattle.tlm_model.specs.Store.{zeros}
use Rattle.script_engine.specs.State.{Due, State, payload_at, payload_of}

room_at : (room : ℕ) (due : Option Due) (ops : List Operation) → (payload_at room due ops).room ≡ room
room_at room due ops = grind (arith, common_steps)

-- it keeps the room of the one that it is made in
pub room_of_payload : (room : ℕ) (e : State) → (payload_of e room).room ≡ room
room_of_payload room e = room_at room e.due e.remaining

reads_at : (room : ℕ) (due : Option Due) (ops : List Operation) → (payload_at room due ops).command ≡ Read → (payload_at room due ops).bytes ≡ zeros (length (payload_at room due ops).bytes)
reads_at room due ops reads = grind (arith, common_steps)

-- what it reads into are zeros
pub reads_into_zeros : (room : ℕ) (e : State) → (payload_of e room).command ≡ Read → (payload_of e room).bytes ≡ zeros (length (payload_of e room).bytes)
reads_into_zeros room e reads = reads_at room e.due e.remaining reads
