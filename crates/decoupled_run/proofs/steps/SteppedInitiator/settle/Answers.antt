use Rattle.decoupled_run.proofs.StepLemmas.{nothing_settled}
use Rattle.decoupled_run.proofs.steps.SteppedInitiator.settle.Goals as goal

pub returns-in-Nothing : goal.returns-in-Nothing
returns-in-Nothing g c =
    let n = g.N.Naming in
    nothing_settled n.table n.tokens n.frame c.args.self.now c.args.note c.requires c.in-Nothing.is
