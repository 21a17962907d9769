use Rattle.flow_model.proofs.Decoupled.{no_passage}
use Rattle.run_outcome.proofs.PlanLemmas.{no_fourphase}
use Rattle.run_tests.proofs.transports.none_passes.Goals as goal

pub returns : goal.returns
returns g c = λ x. no_passage c.args.net.now (no_fourphase c.args.net.now c.requires) x
