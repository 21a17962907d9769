-- Laws over the definitions.
use Rattle.std.specs.Prelude.{ℕ, ◌≡◌, ◌<◌, ◌≤◌, ◌*◌, ◌%◌, false}
use Rattle.tlm_model.specs.declared.operation.Operation.{Operation}
use Rattle.tlm_model.specs.Rounds.{is_sync, next_point, syncs_after}
use Rattle.tlm_model.specs.Route.{greatest_time}
use Rattle.quantum_keeper.specs.Keeper.{Keeper, current_time, needs_sync, synced}

-- after an operation that is no sync, a sync stands in the script just where the keeper asks for one
abbrev pub AsksWhereScriptsSync : Type 0
AsksWhereScriptsSync = (k : Keeper) (op : Operation) → is_sync op ≡ false → needs_sync k ≡ syncs_after k.quantum k.last_sync (current_time k) op

abbrev pub NextPointIsLater : Type 0
NextPointIsLater = (quantum now : ℕ) → 0 < quantum → now < greatest_time → now < next_point quantum now

abbrev pub NextPointIsMultiple : Type 0
NextPointIsMultiple = (quantum now : ℕ) → 0 < quantum → next_point quantum now < greatest_time → next_point quantum now % quantum ≡ 0

-- no multiple of the quantum stands between now and the next point
abbrev pub NextPointIsFirst : Type 0
NextPointIsFirst = (quantum now n : ℕ) → 0 < quantum → now < n * quantum → next_point quantum now ≤ n * quantum

-- none is needed right after a sync
abbrev pub SyncsAreNotDoubled : Type 0
SyncsAreNotDoubled = (k : Keeper) → 0 < k.quantum → current_time k < greatest_time → needs_sync (synced k) ≡ false
