use Rattle.std.proofs.Common.{ℕ, List, Option, arith}
use Rattle.command_words.specs.Commands.{texts}
use Rattle.outside.specs.StreamState.{collected, told_by}
use Rattle.plan_loads.specs.Files.{Files}
use Rattle.tlm_top.proofs.Serving.{explained_after, tells_in_all, written_after, emptied}
use Rattle.tlm_top.proofs.streams.serve.Goals as goal

pub returns-clause-answer : goal.returns-clause-answer
returns-clause-answer g c =
    let files : Files = record { holds = g.L.Library.holds c.args.lib.now; faults_before = g.L.Library.faults c.args.lib.now; faults_after = g.L.Library.faults c.run-exit.new.lib } in
    let before : Option (List ℕ) = told_by g.O.Stream.tells (collected c.args.out.now) in
    rw c.after_flush-exit.ensures.answer
    (explained_after c.run-exit.result c.finish-is_flushed.result files before _ _ _ _ _ (texts c.args.words.now)
    c.finish-is_flushed.ensures.same c.run-exit.ensures.later c.finish-is_flushed.ensures.later c.finish-is_flushed.ensures.failed c.run-exit.ensures.answer)

pub returns-clause-told : goal.returns-clause-told
returns-clause-told g c =
    rw c.after_flush-exit.ensures.answer
    (tells_in_all c.run-exit.result c.finish-is_flushed.result _ _ _ _ _ _ _ _ c.run-exit.ensures.told_later c.after_flush-exit.ensures.later c.finish.ensures.later c.finish.ensures.same c.run-exit.ensures.told c.after_flush-exit.ensures.told)

pub returns-clause-written : goal.returns-clause-written
returns-clause-written g c = rw c.after_flush-exit.ensures.answer (written_after c.run-exit.result c.finish-is_flushed.result _ c.finish-is_flushed.ensures.empty)

pub returns-clause-flushed : goal.returns-clause-flushed
returns-clause-flushed g c calm =
    emptied c.finish.result _ _ _ _ (omega (arith, c.run-exit.ensures.told_later, c.after_flush-exit.ensures.later)) c.finish.ensures.failed c.finish.ensures.empty calm
