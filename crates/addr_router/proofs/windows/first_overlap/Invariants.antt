use Rattle.std.proofs.Common.{◌≡◌, [], take, drop}
use Rattle.addr_router.specs.Windows.{first_fault, overlap_fault}
use Rattle.addr_router.proofs.windows.first_overlap.Given as goal

abbrev pub invariant-loop-row : goal.invariant-loop-row
invariant-loop-row l = first_fault overlap_fault (take l.row l.rows) (drop l.row l.rows) ≡ first_fault overlap_fault [] l.rows
