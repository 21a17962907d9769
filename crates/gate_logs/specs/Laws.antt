-- Laws of the logs of memories that give grants.
use Rattle.std.specs.Prelude.{ℕ, ◌≡◌, List, All, Some, slice_get}
use Rattle.tlm_types.specs.declared.words.MemoryTraits.{MemoryTraits}
use Rattle.tlm_types.specs.declared.words.ObjectNo.TheVariants.{Memory}
use Rattle.tlm_types.specs.declared.entry.Entry.{Entry}
use Rattle.tlm_model.specs.declared.platform.MemoryRow.{MemoryRow}
use Rattle.tlm_model.specs.Plan.{Plan}
use Rattle.joined_traffic.specs.GateLog.{TakesGatesInTurn}
use Rattle.joined_traffic.specs.Parts.{KeepsGateLog}
use Rattle.region_object.specs.Grants.{IsGrantLog}

-- a log whose grants and closings are those of its memory takes its gates in turn
abbrev pub MemoriesTakeGatesInTurn : Type 0
MemoriesTakeGatesInTurn = (first : ℕ) (m : MemoryTraits) (log : List Entry) → IsGrantLog first m log → TakesGatesInTurn first log

-- and where the memory is one of a plan, it keeps what a history of grants asks of it
abbrev pub MemoriesKeepGateLogs : Type 0
MemoriesKeepGateLogs =
    (p : Plan) (m : ℕ) (row : MemoryRow) (first : ℕ) (log : List Entry)
    → slice_get p.platform.memories m ≡ Some row
    → All (λ (e : Entry). e.object ≡ Memory m) log
    → IsGrantLog first row.traits log
    → KeepsGateLog p log
