use Rattle.std.proofs.Common.{refl, sym, arith}
use Rattle.plat_core.specs.declared.steps.CoreStep.TheVariants.{Finished, Waits}
use Rattle.plat_core.proofs.CoreLemmas.{node_at, node_steps}
use Rattle.plat_core.proofs.steps.Core.step.Goals as goal

pub returns-then-has_finished : goal.returns-then-has_finished
returns-then-has_finished c =
    node_steps _ c.args.self.now c.args.actor Finished c.self.view_is
    (node_at c.self.inside.plan.now c.self.inside.runs.items c.self.inside.regions.items c.self.inside.made c.args.actor c.self.invariant.0 (omega (arith, c.if-index-len.false, c.len.ensures)))
    (sym c.if-has_finished.ensures.all, refl)

pub returns-else-has_finished : goal.returns-else-has_finished
returns-else-has_finished c =
    node_steps _ c.args.self.now c.args.actor Waits c.self.view_is
    (node_at c.self.inside.plan.now c.self.inside.runs.items c.self.inside.regions.items c.self.inside.made c.args.actor c.self.invariant.0 (omega (arith, c.if-index-len.false, c.len.ensures)))
    (sym c.if-has_finished.ensures.all, refl)
