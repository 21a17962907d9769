use Rattle.decoupled_run.proofs.StepLemmas.{stepped_finished}
use Rattle.decoupled_run.proofs.steps.SteppedInitiator.finish.Goals as goal

pub returns : goal.returns
returns g c =
    let n = g.N.Naming in
    stepped_finished n.table n.tokens n.frame c.args.self c.args.note.now c.requires.stepped c.requires.finished c.into_end.result c.into_end.ensures
