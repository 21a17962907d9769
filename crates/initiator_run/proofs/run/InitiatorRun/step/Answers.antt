use Rattle.std.proofs.Common.{ap, sym, ◌∙◌}
use Rattle.script_engine.specs.Part.{part_of}
use Rattle.script_engine.specs.State.{op_of}
use Rattle.initiator_run.specs.Run.{Run}
use Rattle.initiator_run.proofs.InvalidationLemmas.{numbered_invalidation}
use Rattle.initiator_run.proofs.run.InitiatorRun.step.Goals as goal

pub returns-in-Pauses-clause-keeps : goal.returns-in-Pauses-clause-keeps
returns-in-Pauses-clause-keeps g c = c.pass.ensures.keeps c.args.plan.now

pub look_for-requires-clause-way : goal.look_for-requires-clause-way
look_for-requires-clause-way g c = c.requires.way

pub look_for-requires-clause-next : goal.look_for-requires-clause-next
look_for-requires-clause-next g c =
    numbered_invalidation c.args.self.now.engine c.in-Invalidates.seq c.in-Invalidates.address c.in-Invalidates.length
    (sym c.in-Invalidates.is ∙ (c.part.ensures ∙ ap part_of (c.next.ensures ∙ ap (λ (r : Run). op_of r.engine) c.self.view_is)))
