use Rattle.decoupled_run.proofs.StepLemmas.{wish_may, wish_settled, wisher_below, wisher_passes, wishes}
use Rattle.decoupled_run.proofs.steps.SteppedInitiator.ask.Goals as goal

pub ask-asked-requires-clause-who : goal.ask-asked-requires-clause-who
ask-asked-requires-clause-who g c =
    let n = g.N.Naming in
    wisher_below n.table n.tokens n.frame c.args.self.now c.args.note c.requires.stepped c.args.command c.args.address c.args.txn c.args.at c.requires.owes c.initiator-who.result c.initiator-who.ensures

pub ask-asked-requires-clause-command : goal.ask-asked-requires-clause-command
ask-asked-requires-clause-command g c =
    let n = g.N.Naming in
    (wishes n.table n.tokens n.frame c.args.self.now c.args.note c.requires.stepped c.args.command c.args.address c.args.txn c.args.at c.requires.owes).2

pub ask-asked-requires-clause-passage : goal.ask-asked-requires-clause-passage
ask-asked-requires-clause-passage g c =
    let n = g.N.Naming in
    wisher_passes n.table n.tokens n.frame c.args.self.now c.args.note c.requires.stepped c.args.command c.args.address c.args.txn c.args.at c.requires.owes c.initiator-who.result c.initiator-who.ensures

pub ask-asked-requires-clause-note : goal.ask-asked-requires-clause-note
ask-asked-requires-clause-note g c = c.requires.stepped.note_of

pub ask-asked-requires-clause-wallet : goal.ask-asked-requires-clause-wallet
ask-asked-requires-clause-wallet g c = c.requires.stepped.wallet_of

pub ask-asked-requires-clause-may : goal.ask-asked-requires-clause-may
ask-asked-requires-clause-may g c =
    let n = g.N.Naming in
    wish_may n.table n.tokens n.frame c.args.self.now c.args.note c.requires.stepped c.args.command c.args.address c.args.txn c.args.at c.requires.owes c.initiator-who.result c.initiator-who.ensures

pub returns : goal.returns
returns g c =
    let n = g.N.Naming in
    let asked = c.ask-asked in
    wish_settled n.table n.tokens n.frame c.args.self.now c.args.note c.requires.stepped c.args.command c.args.address c.args.txn c.args.at c.requires.owes c.initiator-who.result c.initiator-who.ensures
    asked.result.1 asked.new.self asked.new.wallet asked.result.0 asked.ensures.asked asked.ensures.rooms asked.ensures.note asked.ensures.wallet c.is_held.result c.is_held.ensures
