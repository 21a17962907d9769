use Rattle.tlm_types.specs.declared.entry.What.TheVariants.{Invalidated}
use Rattle.node_hops.specs.Steps.{IsAccessOf}
use Rattle.dmi_grants.specs.Revoking.{IsEntryFor}
use Rattle.dmi_grants.proofs.Revoking.{access_by, begins, new_as, telling_made}
use Rattle.dmi_grants.proofs.invalidation.begin_invalidation.Goals as goal

pub make_paid-position-requires-clause-memory : goal.make_paid-position-requires-clause-memory
make_paid-position-requires-clause-memory g c = c.requires.memory

pub make_paid-position-requires-clause-note : goal.make_paid-position-requires-clause-note
make_paid-position-requires-clause-note g c = c.requires.note

pub make_paid-position-requires-clause-may : goal.make_paid-position-requires-clause-may
make_paid-position-requires-clause-may g c = c.requires.passage

pub make_paid-position-requires-clause-of : goal.make_paid-position-requires-clause-of
make_paid-position-requires-clause-of g c = c.requires.wallet

pub make_paid-position-requires-clause-room : goal.make_paid-position-requires-clause-room
make_paid-position-requires-clause-room g c = c.requires.room

pub make_paid-position-requires-clause-left : goal.make_paid-position-requires-clause-left
make_paid-position-requires-clause-left g c = c.requires.ticket

pub returns-clause-note : goal.returns-clause-note
returns-clause-note g c = c.make_paid-position.ensures.note

pub returns-clause-wallet : goal.returns-clause-wallet
returns-clause-wallet g c = c.make_paid-position.ensures.of

pub returns-clause-room : goal.returns-clause-room
returns-clause-room g c = c.make_paid-position.ensures.room

pub returns-clause-rooms : goal.returns-clause-rooms
returns-clause-rooms g c = c.make_paid-position.ensures.rooms

pub returns-clause-revoking : goal.returns-clause-revoking
returns-clause-revoking g c =
    let made = c.make_paid-position in
    begins g.N.Naming.frame c.args.memory c.args.first c.args.last c.in-Some.position c.args.txn c.args.at c.args.note.knows made.result.2.knows c.args.wallet.now made.new.wallet made.result.1 made.result.0 c.in-Some.is made.ensures.made made.ensures.spent

pub returns-clause-told : goal.returns-clause-told
returns-clause-told g c = λ below.
    let made = c.make_paid-position in
    telling_made g.N.Naming.frame c.args.memory c.requires.memory c.args.txn c.args.at c.args.first c.args.last c.in-Some.position c.args.note.knows made.result.2.knows made.result.1 made.result.0 c.in-Some.is made.ensures.made below

pub returns-clause-adds : goal.returns-clause-adds
returns-clause-adds g c = λ below.
    let made = c.make_paid-position in
    let p = g.N.Naming.frame.world in
    new_as (IsEntryFor p c.args.memory c.args.txn c.args.at (Invalidated c.args.first c.args.last)) (IsAccessOf p c.args.txn.initiator) c.args.note.knows.known made.result.2.knows.known
    (access_by p c.args.memory c.args.txn c.args.at (Invalidated c.args.first c.args.last))
    (telling_made g.N.Naming.frame c.args.memory c.requires.memory c.args.txn c.args.at c.args.first c.args.last c.in-Some.position c.args.note.knows made.result.2.knows made.result.1 made.result.0 c.in-Some.is made.ensures.made below)

pub returns-clause-keeps : goal.returns-clause-keeps
returns-clause-keeps g c = c.make_paid-position.ensures.made.enters.knew

pub returns-clause-below : goal.returns-clause-below
returns-clause-below g c = c.make_paid-position.ensures.made.enters.below
