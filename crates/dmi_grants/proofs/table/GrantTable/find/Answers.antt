use Rattle.std.proofs.Common.{length, ap, arith}
use Rattle.dmi_grants.proofs.table.GrantTable.find.Goals as goal

pub overflow_cast-result : goal.overflow_cast-result
overflow_cast-result c = omega (arith, c.in-Some.ensures.below, ap length c.deref.ensures.value)
