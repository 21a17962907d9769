use Rattle.std.proofs.Common.{◌≡◌, map, take}
use Rattle.std.specs.List.{enumerate_from}
use Rattle.platform_model.specs.Windows.{window_at}
use Rattle.route_plan.proofs.numbering.numbered.Given as goal

abbrev pub invariant-loop-index : goal.invariant-loop-index
invariant-loop-index l = l.windows.items ≡ map (λ w. window_at w.0 w.1) (enumerate_from 0 (take l.index l.rows))
