use Rattle.std.proofs.Common.{◌≡◌, false, nat_lt, take}
use Rattle.std.specs.List.{list_any}
use Rattle.platform_shape.specs.Walks.{walks_of}
use Rattle.platform_shape.proofs.paths.walks_on.Given as goal

abbrev pub invariant-loop-window : goal.invariant-loop-window
invariant-loop-window l = list_any (λ w. nat_lt 0 (walks_of l.walks l.windows l.platform w.to)) (take l.window-index l.leading) ≡ false
