use Rattle.std.proofs.Common.{◌≡◌, ℕ, drop}
use Rattle.std.specs.List.{fold}
use Rattle.tlm_types.specs.declared.entry.Entry.{Entry}
use Rattle.flow_model.specs.ByRules.{response_end, response_end_by}
use Rattle.flow_check.proofs.checks.response_end.Given as goal

-- the entries from here on are still to be looked at
abbrev pub invariant-loop-entry : goal.invariant-loop-entry
invariant-loop-entry l = fold (λ (old : ℕ) (e : Entry). response_end_by old e.time e.what) l.end (drop l.entry-index l.log) ≡ response_end l.log
