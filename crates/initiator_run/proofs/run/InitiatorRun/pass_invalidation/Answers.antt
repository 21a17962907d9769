use Rattle.std.proofs.Common.{ap, ◌∙◌}
use Rattle.script_engine.specs.State.{is_fenced, op_of}
use Rattle.initiator_run.specs.Run.{Run}
use Rattle.initiator_run.proofs.InvalidationLemmas.{unfenced_invalidation}
use Rattle.initiator_run.proofs.run.InitiatorRun.pass_invalidation.Goals as goal

pub passed-requires : goal.passed-requires
passed-requires c = ap (λ (r : Run). is_fenced (op_of r.engine)) c.self.view_is ∙ unfenced_invalidation c.args.self.now.engine c.requires.next
