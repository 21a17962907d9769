use Rattle.std.proofs.Common.{◌≡◌, true, take}
use Rattle.std.specs.List.{list_all}
use Rattle.initiator_run.specs.Run.{Run}
use Rattle.plat_core.proofs.steps.all_finished.Given as goal

abbrev pub invariant-loop-run : goal.invariant-loop-run
invariant-loop-run l = list_all (λ (r : Run). r.finished) (take l.run-index l.runs) ≡ true
