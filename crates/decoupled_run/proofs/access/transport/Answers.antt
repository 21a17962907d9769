use Rattle.decoupled_run.proofs.MoveLemmas.{can_pay, carries, made_by_transport, passes_none, route_is, who_below}
use Rattle.decoupled_run.proofs.access.transport.Goals as goal

pub send-sent-requires-clause-who : goal.send-sent-requires-clause-who
send-sent-requires-clause-who g c =
    let n = g.N.Naming in
    who_below n.table n.tokens n.frame c.args.run.now c.args.next.now.transfer c.args.next.now.route c.args.payload c.args.note c.args.wallet.now c.args.grants.now c.requires.ready c.initiator-who.result c.initiator-who.ensures

pub send-sent-requires-clause-ticket : goal.send-sent-requires-clause-ticket
send-sent-requires-clause-ticket g c =
    let n = g.N.Naming in
    can_pay n.table n.tokens n.frame c.args.run.now c.args.next.now.transfer c.args.next.now.route c.args.payload c.args.note c.args.wallet.now c.args.grants.now c.requires.ready

pub send-sent-requires-clause-route : goal.send-sent-requires-clause-route
send-sent-requires-clause-route g c =
    let n = g.N.Naming in
    route_is n.table n.tokens n.frame c.args.run.now c.args.next.now.transfer c.args.next.now.route c.args.payload c.args.note c.args.wallet.now c.args.grants.now c.requires.ready c.initiator-who.result c.initiator-who.ensures

pub send-sent-requires-clause-carries : goal.send-sent-requires-clause-carries
send-sent-requires-clause-carries g c =
    let n = g.N.Naming in
    carries n.table n.tokens n.frame c.args.run.now c.args.next.now.transfer c.args.next.now.route c.args.payload c.args.note c.args.wallet.now c.args.grants.now c.requires.ready

pub send-sent-requires-clause-passage : goal.send-sent-requires-clause-passage
send-sent-requires-clause-passage g c =
    let n = g.N.Naming in
    passes_none n.table n.tokens n.frame c.args.run.now c.args.next.now.transfer c.args.next.now.route c.args.payload c.args.note c.args.wallet.now c.args.grants.now c.requires.ready c.next_txn-txn.result c.next_txn-txn.ensures

pub send-sent-requires-clause-note : goal.send-sent-requires-clause-note
send-sent-requires-clause-note g c = c.requires.ready.note_of

pub send-sent-requires-clause-wallet : goal.send-sent-requires-clause-wallet
send-sent-requires-clause-wallet g c = c.requires.ready.wallet_of

pub returns : goal.returns
returns g c =
    let n = g.N.Naming in
    let sent = c.send-sent in
    made_by_transport n.table n.tokens n.frame c.args.run.now c.args.next.now.transfer c.args.next.now.route c.args.payload c.args.note c.args.wallet.now c.args.grants.now c.requires.ready
    c.args.is_direct c.next_txn-txn.result c.current-at.result sent.result.payload sent.result.note sent.new.wallet c.wants_grant-wants.result c.requires.styled c.requires.none c.next_txn-txn.ensures c.current-at.ensures
    sent.ensures.entry sent.ensures.ticket sent.ensures.note sent.ensures.wallet sent.ensures.room c.wants_grant-wants.ensures
