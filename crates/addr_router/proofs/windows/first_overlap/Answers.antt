use Rattle.std.proofs.Common.{arith}
use Rattle.addr_router.specs.Windows.{overlap_fault}
use Rattle.addr_router.proofs.FaultLemmas.{fault_here, fault_later}
use Rattle.addr_router.proofs.windows.first_overlap.Goals as goal

pub returns-in-Some : goal.returns-in-Some
returns-in-Some c =
    fault_here overlap_fault c.args.rows.now c.loop-row.row _ c.in-Some.fault _ (omega arith) c.in-Some.ensures c.loop-row.invariant

pub loop-row-preserved : goal.loop-row-preserved
loop-row-preserved c =
    fault_later overlap_fault c.args.rows.now c.loop-row.row _ _ (omega arith) c.in_default.ensures c.loop-row.invariant
