-- The points of grants of a closed history.
use Rattle.std.proofs.Common.{◌≡◌, ℕ, true, List, Option, Some, None, refl, sym, subst}
use Rattle.std.specs.Prelude.{All, slice_get}
use Rattle.std.proofs.lemmas.List.Elements.{All-weaker, filter_passes}
use Rattle.tlm_types.specs.declared.entry.Entry.{Entry}
use Rattle.tlm_types.specs.declared.words.ObjectNo.TheVariants.{Memory}
use Rattle.tlm_model.specs.declared.platform.MemoryRow.{MemoryRow}
use Rattle.tlm_model.specs.History.{entries_at, is_object}
use Rattle.tlm_model.specs.Plan.{Plan}
use Rattle.flow_model.specs.Events.{entries}
use Rattle.joined_traffic.specs.Parts.{KeepsGateLog}
use Rattle.joined_traffic.proofs.Gates.{same_object}
use Rattle.gate_logs.proofs.Logs.{keep_logs}
use Rattle.net_end.specs.Closed.{events_in}
use Rattle.net_end.specs.Laws.{HasGatesOf}
use Rattle.net_end.proofs.Leaving.{memories_leave_gates, objects_leave}
use Rattle.net_end.specs.GrantLaws.{ClosedHasGrants}
use Rattle.net_end.proofs.Places.{are_in_place, closes_last}
use Rattle.net_end.proofs.Wholes.{done_has_grants}

-- the entries at a memory are those of it
own_entries : (m : ℕ) (es : List Entry) → All (λ (e : Entry). e.object ≡ Memory m) (entries_at (Memory m) es)
own_entries m es =
    All-weaker (λ (e : Entry). is_object (Memory m) e.object ≡ true) (λ (e : Entry). e.object ≡ Memory m) (λ e itself. sym (same_object (Memory m) e.object itself)) (entries_at (Memory m) es)
    (filter_passes (λ (e : Entry). is_object (Memory m) e.object) es)

-- a log with the gates of a memory keeps what a history of grants asks of it
gate_log : (p : Plan) (m : ℕ) (row : Option MemoryRow) (log : List Entry) → slice_get p.platform.memories m ≡ row → All (λ (e : Entry). e.object ≡ Memory m) log → HasGatesOf row log → KeepsGateLog p log
gate_log p m None log at own nothing = subst (KeepsGateLog p) (sym nothing) (record { gates = tt; wholes = tt })
gate_log p m (Some row) log at own has = keep_logs p m row has.first log at own has.granted

pub closed_has_grants : ClosedHasGrants
closed_has_grants table frame seats notes all left end acyclic planned closed last are back finished =
    let p = frame.world in
    let h = events_in p.platform all in
    done_has_grants p h left end acyclic (objects_leave table frame seats notes all left planned closed are back) finished
    (λ m. gate_log p m (slice_get p.platform.memories m) (entries_at (Memory m) (entries h)) refl (own_entries m (entries h)) (memories_leave_gates table frame seats notes all left planned closed are back m))
    (are_in_place table frame seats notes all planned closed are) (closes_last table frame seats notes all planned closed are last)
