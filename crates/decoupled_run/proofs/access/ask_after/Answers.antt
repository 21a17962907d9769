use Rattle.std.proofs.Common.{true, sym, subst}
use Rattle.std.specs.Prelude.{IsSomeAnd}
use Rattle.std.specs.Option.{ForSome}
use Rattle.tlm_types.specs.declared.words.Command.{Command}
use Rattle.route_plan.specs.declared.step.Route.{Route}
use Rattle.plat_net.specs.Calls.{route_at}
use Rattle.dmi_grants.specs.Asking.{HasAsked, MayAsk}
use Rattle.decoupled_run.specs.Moves.{IsLeft}
use Rattle.decoupled_run.proofs.MoveLemmas.{asker_below, may_wish, wished}
use Rattle.decoupled_run.proofs.access.ask_after.Goals as goal

pub ask-note-requires-clause-who : goal.ask-note-requires-clause-who
ask-note-requires-clause-who g c =
    let frame = g.N.Naming.frame in
    let next = c.args.next.now in
    let left : IsLeft true frame next.transfer next.route c.args.txn c.args.at c.args.run.now c.args.note.knows c.args.wallet.now c.args.grants.now = subst (λ b. IsLeft b frame next.transfer next.route c.args.txn c.args.at c.args.run.now c.args.note.knows c.args.wallet.now c.args.grants.now) c.if-not-wants.false c.requires.left in
    asker_below frame c.args.run.now next.transfer next.route c.args.txn c.args.at c.args.note.knows c.args.wallet.now c.args.grants.now left.0 c.initiator-who.result c.initiator-who.ensures

pub ask-note-requires-clause-may : goal.ask-note-requires-clause-may
ask-note-requires-clause-may g c =
    let frame = g.N.Naming.frame in
    let next = c.args.next.now in
    let left : IsLeft true frame next.transfer next.route c.args.txn c.args.at c.args.run.now c.args.note.knows c.args.wallet.now c.args.grants.now = subst (λ b. IsLeft b frame next.transfer next.route c.args.txn c.args.at c.args.run.now c.args.note.knows c.args.wallet.now c.args.grants.now) c.if-not-wants.false c.requires.left in
    subst (λ (k : Command). IsSomeAnd (route_at frame.world c.initiator-who.result next.transfer.address) (MayAsk frame.world k c.args.grants.now c.args.note.knows c.args.wallet.now)) (sym c.command_of-command.ensures)
    (may_wish frame c.args.run.now next.transfer next.route c.args.txn c.args.at c.args.note.knows c.args.wallet.now c.args.grants.now left.0 c.initiator-who.result c.initiator-who.ensures)

pub returns-clause-ease : goal.returns-clause-ease
returns-clause-ease g c =
    let frame = g.N.Naming.frame in
    let next = c.args.next.now in
    let left : IsLeft true frame next.transfer next.route c.args.txn c.args.at c.args.run.now c.args.note.knows c.args.wallet.now c.args.grants.now = subst (λ b. IsLeft b frame next.transfer next.route c.args.txn c.args.at c.args.run.now c.args.note.knows c.args.wallet.now c.args.grants.now) c.if-not-wants.false c.requires.left in
    let asked = c.ask-note in
    wished frame c.args.run.now next.transfer next.route c.args.txn c.args.at c.args.note.knows c.args.wallet.now c.args.grants.now left.0 c.initiator-who.result c.initiator-who.ensures asked.result.1.knows asked.new.self asked.new.wallet asked.result.0
    (subst (λ (k : Command). ForSome (route_at frame.world c.initiator-who.result next.transfer.address) (λ (y : Route). HasAsked frame c.initiator-who.result k next.transfer.address y c.args.txn c.args.at c.args.grants.now asked.new.self c.args.note.knows asked.result.1.knows c.args.wallet.now asked.new.wallet asked.result.0)) c.command_of-command.ensures asked.ensures.asked)
    asked.ensures.rooms
