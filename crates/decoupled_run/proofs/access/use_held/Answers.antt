use Rattle.std.specs.Prelude.{IsTrue}
use Rattle.script_engine.specs.Part.{command_in}
use Rattle.dmi_grants.specs.Table.{covers}
use Rattle.dmi_grants.specs.declared.table.Held.{Held}
use Rattle.decoupled_run.proofs.Dropping.{drops_one}
use Rattle.decoupled_run.proofs.MoveLemmas.{comes_of, may_use_at, passes_none}
use Rattle.decoupled_run.proofs.access.use_held.Goals as goal

pub use_grant-requires-clause-held : goal.use_grant-requires-clause-held
use_grant-requires-clause-held g c =
    let n = g.N.Naming in
    may_use_at n.table n.tokens n.frame c.args.run.now c.args.next.now.transfer c.args.next.now.route c.args.payload c.args.note c.args.wallet.now c.args.grants.now c.requires.ready c.args.which c.requires.plain c.requires.which

pub use_grant-requires-clause-passage : goal.use_grant-requires-clause-passage
use_grant-requires-clause-passage g c =
    let n = g.N.Naming in
    passes_none n.table n.tokens n.frame c.args.run.now c.args.next.now.transfer c.args.next.now.route c.args.payload c.args.note c.args.wallet.now c.args.grants.now c.requires.ready c.next_txn-txn.result c.next_txn-txn.ensures

pub use_grant-requires-clause-note : goal.use_grant-requires-clause-note
use_grant-requires-clause-note g c = c.requires.ready.note_of

pub use_grant-requires-clause-wallet : goal.use_grant-requires-clause-wallet
use_grant-requires-clause-wallet g c = c.requires.ready.wallet_of

pub returns-clause-comes : goal.returns-clause-comes
returns-clause-comes g c =
    let n = g.N.Naming in
    comes_of n.table n.tokens n.frame c.args.run.now c.args.next.now.transfer c.args.next.now.route c.args.payload c.args.note c.args.wallet.now c.args.grants.now c.requires.ready c.args.which c.requires.plain c.requires.which
    c.next_txn-txn.result c.current-at.result c.use_grant.new.self c.use_grant.new.wallet c.use_grant.result c.next_txn-txn.ensures c.current-at.ensures c.use_grant.ensures.used c.use_grant.ensures.note c.use_grant.ensures.wallet

pub returns-clause-fewer : goal.returns-clause-fewer
returns-clause-fewer g c =
    let x = c.args.next.now.transfer in
    drops_one (λ (h : Held). IsTrue (covers x.address x.length (command_in x.kind) h)) g.N.Naming.frame c.args.which c.args.payload c.next_txn-txn.result c.current-at.result c.args.grants.now c.use_grant.new.self c.args.note.knows c.args.wallet.now c.use_grant.new.wallet c.use_grant.result c.requires.which c.use_grant.ensures.used
