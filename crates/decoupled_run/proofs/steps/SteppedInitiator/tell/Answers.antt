use Rattle.initiator_run.proofs.InvalidationLemmas.{is_invalidation}
use Rattle.decoupled_run.proofs.StepLemmas.{invalidation_told, telling_passes, telling_pays, telling_roomy, telling_there}
use Rattle.decoupled_run.proofs.steps.SteppedInitiator.tell.Goals as goal

pub begin_invalidation-note-requires-clause-memory : goal.begin_invalidation-note-requires-clause-memory
begin_invalidation-note-requires-clause-memory g c =
    let n = g.N.Naming in
    telling_there n.table n.tokens n.frame c.args.self.now c.args.note c.requires.stepped c.requires.owes c.requires.through c.args.next.now c.requires.reached

pub begin_invalidation-note-requires-clause-passage : goal.begin_invalidation-note-requires-clause-passage
begin_invalidation-note-requires-clause-passage g c =
    let n = g.N.Naming in
    telling_passes n.table n.tokens n.frame c.args.self.now c.args.note c.requires.stepped c.requires.owes c.requires.through c.args.next.now c.requires.reached c.next_txn-txn.result c.next_txn-txn.ensures

pub begin_invalidation-note-requires-clause-note : goal.begin_invalidation-note-requires-clause-note
begin_invalidation-note-requires-clause-note g c = c.requires.stepped.note_of

pub begin_invalidation-note-requires-clause-wallet : goal.begin_invalidation-note-requires-clause-wallet
begin_invalidation-note-requires-clause-wallet g c = c.requires.stepped.wallet_of

pub begin_invalidation-note-requires-clause-room : goal.begin_invalidation-note-requires-clause-room
begin_invalidation-note-requires-clause-room g c =
    let n = g.N.Naming in
    telling_roomy n.table n.tokens n.frame c.args.self.now c.args.note c.requires.stepped c.requires.owes c.requires.through c.args.next.now c.requires.reached

pub begin_invalidation-note-requires-clause-ticket : goal.begin_invalidation-note-requires-clause-ticket
begin_invalidation-note-requires-clause-ticket g c =
    let n = g.N.Naming in
    telling_pays n.table n.tokens n.frame c.args.self.now c.args.note c.requires.stepped c.requires.owes c.requires.through c.args.next.now c.requires.reached

pub pass_invalidation-requires : goal.pass_invalidation-requires
pass_invalidation-requires g c = record { next = is_invalidation g.N.Naming.frame.world c.args.self.now.run c.args.next.now c.requires.reached }

pub returns : goal.returns
returns g c =
    let n = g.N.Naming in
    let b = c.begin_invalidation-note in
    invalidation_told n.table n.tokens n.frame c.args.self.now c.args.note c.requires.stepped c.requires.owes c.requires.through c.args.next.now c.requires.reached
    c.next_txn-txn.result c.current-at.result c.next_txn-txn.ensures c.current-at.ensures b.result.0 b.ensures.is b.result.1 b.new.wallet c.pass_invalidation.new.self c.pass_invalidation.ensures
    b.ensures.note b.ensures.wallet b.ensures.keeps b.ensures.below b.ensures.revoking b.ensures.rooms (b.ensures.told c.requires.stepped.below)
