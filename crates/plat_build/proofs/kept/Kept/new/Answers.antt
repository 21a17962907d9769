use Rattle.std.proofs.Common.{subst}
use Rattle.tlm_model.specs.Plan.{Plan}
use Rattle.plat_build.specs.Kept.{AreStarts}
use Rattle.plat_build.proofs.kept.Kept.new.Goals as goal

pub invariant_of-result : goal.invariant_of-result
invariant_of-result g c = (
  subst (λ (p : Plan). AreStarts g.N.Naming.table g.N.Naming.tokens p c.in_ok-starts.starts.items) c.requires.plan c.in_ok-starts.ensures.starts,
  c.in_ok-router_notes.ensures.blank,
  c.in_ok-memory_notes.ensures.blank,
)
