use Rattle.dmi_grants.proofs.Tickets.{roomy_pulled}
use Rattle.dmi_grants.proofs.made.take.Goals as goal

pub returns-clause-room : goal.returns-clause-room
returns-clause-room g c = roomy_pulled c.tickets.result.now c.args.wallet.now c.pull.new.self c.args.memory 0 c.pull.ensures.wallet c.requires.room
