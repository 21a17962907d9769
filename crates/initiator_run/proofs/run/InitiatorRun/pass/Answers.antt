use Rattle.std.proofs.Common.{◌≡◌, rules}
use Rattle.initiator_run.specs.Run.{passed}
use Rattle.initiator_run.proofs.RunLemmas.{Keeps-by_pass, fewer_by_pass}
use Rattle.initiator_run.proofs.run.InitiatorRun.pass.Goals as goal

pub returns-clause-keeps : goal.returns-clause-keeps
returns-clause-keeps c p =
    let run : c.finish_operation.new.self ≡ passed c.args.pause c.args.self.now = search rules in
    Keeps-by_pass p c.args.self.now c.finish_operation.new.self c.args.pause c.requires.next run

pub returns-clause-fewer : goal.returns-clause-fewer
returns-clause-fewer c =
    let run : c.finish_operation.new.self ≡ passed c.args.pause c.args.self.now = search rules in
    fewer_by_pass c.args.self.now c.finish_operation.new.self c.args.pause c.requires.next run
