use Rattle.trace_print.proofs.Putting.{puts-more}
use Rattle.trace_print.proofs.names.put_object.Goals as goal

pub returns-in-Pool : goal.returns-in-Pool
returns-in-Pool g c =
    let name = rw c.initiator_name.ensures at c.put_text-in-Pool.ensures in
    rw c.in-Pool.is (puts-more _ _ _ _ _ name c.put.ensures)
