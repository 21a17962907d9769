use Rattle.std.proofs.Common.{◌∙◌}
use Rattle.trace_print.proofs.names.Names.turn_to.Goals as goal

pub invariant_of-self : goal.invariant_of-self
invariant_of-self c = (c.turn_to.ensures ∙ c.self.invariant.0, c.turn_txns.ensures _ c.self.invariant.1, c.self.invariant.2, c.self.invariant.3)
