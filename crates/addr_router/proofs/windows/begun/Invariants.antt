use Rattle.std.proofs.Common.{◌≡◌, ◌≤◌, count_by, leb, take}
use Rattle.addr_router.proofs.windows.begun.Given as goal

abbrev pub invariant-loop-window : goal.invariant-loop-window
invariant-loop-window l = (l.count ≡ count_by (λ w. leb w.first l.address) (take l.window-index l.windows)) × (l.count ≤ l.window-index)
