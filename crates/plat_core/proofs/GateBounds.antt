-- How many gates memories have.
use Rattle.std.proofs.Common.{◌≡◌, ℕ, ◌<◌, ◌≤◌, List, length, get_or, All, ap, sym, subst, arith}
use Rattle.tlm_model.specs.declared.platform.MemoryRow.{MemoryRow}
use Rattle.tlm_model.specs.declared.platform.Platform.{Platform}
use Rattle.platform_model.specs.Bounded.{IsBounded, IsBoundedMemory}

-- a memory of a bounded platform has few gates, and there are few memories
pub few_gates_at : (p : Platform) (rows : List MemoryRow) (k : ℕ) (row : MemoryRow) → IsBounded p → rows ≡ p.memories → k < length rows → row ≡ get_or rows k row → (row.traits.gates ≤ 256) × (length rows ≤ 16)
few_gates_at p rows k row bounded same within is = (
  subst (λ (r : MemoryRow). r.traits.gates ≤ 256) (sym is) (subst (All IsBoundedMemory) (sym same) bounded.memories k row within).gates,
  omega (arith, ap length same, bounded.memory_count),
)
