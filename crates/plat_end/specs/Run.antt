-- A run of the core.
use Rattle.std.specs.Prelude.{ℕ, List, take}
use Rattle.tlm_types.specs.declared.entry.Entry.{Entry}
use Rattle.tlm_model.specs.Plan.{Plan}
use Rattle.good_history.specs.Good.{IsSound}

-- each beginning of the history is sound, so that each of its entries is an event of the core
abbrev pub IsCoreRun : Plan → List Entry → Type 0
IsCoreRun p h = (n : ℕ) → IsSound p (take n h)
