use Rattle.std.proofs.Common.{ℕ, Option, subst, ap}
use Rattle.tlm_types.specs.declared.words.TxnId.{TxnId}
use Rattle.cargo_net.specs.Wallets.{IsTicketAt}
use Rattle.plat_net.specs.PoolCalls.{place_above}
use Rattle.plat_net.proofs.Given.{shape_of}
use Rattle.router_moves.proofs.Downs.{can_descend, down_is}
use Rattle.node_hops.proofs.Adds.{pool_adds}
use Rattle.plat_net.specs.Places.{own_pool}
use Rattle.node_hops.specs.Steps.{AddsAt}
use Rattle.router_moves.proofs.down.descend.Goals as goal

pub descend-cargo-requires-clause-can : goal.descend-cargo-requires-clause-can
descend-cargo-requires-clause-can g c =
    let shape = shape_of c.plan.result.now c.args.net.now g.N.Naming.frame.world c.platform.ensures.valid c.plan.ensures.plan c.plan.ensures.world in
    can_descend g.N.Naming.frame g.N.Naming.tokens c.args.note.knows.known shape c.args.router c.args.request c.requires.request c.args.way c.requires.way c.txn-txn.result.initiator c.args.accepts c.owed_above-above.result c.args.latency c.saturating_add-due.result
    (ap (λ (y : TxnId). y.initiator) c.txn-txn.ensures) c.requires.mode c.requires.router c.owed_above-above.ensures c.requires.latency c.saturating_add-due.ensures

pub returns-clause-down : goal.returns-clause-down
returns-clause-down g c =
    let shape = shape_of c.plan.result.now c.args.net.now g.N.Naming.frame.world c.platform.ensures.valid c.plan.ensures.plan c.plan.ensures.world in
    let can = can_descend g.N.Naming.frame g.N.Naming.tokens c.args.note.knows.known shape c.args.router c.args.request c.requires.request c.args.way c.requires.way c.txn-txn.result.initiator c.args.accepts c.owed_above-above.result c.args.latency c.saturating_add-due.result
    (ap (λ (y : TxnId). y.initiator) c.txn-txn.ensures) c.requires.mode c.requires.router c.owed_above-above.ensures c.requires.latency c.saturating_add-due.ensures in
    down_is g.N.Naming.frame g.N.Naming.tokens c.args.note.knows.known shape c.args.router c.args.request c.requires.request c.args.way c.requires.way c.descend-cargo.result.note.knows.known c.descend-cargo.ensures.knew c.txn-txn.result c.descend-cargo.result.kept
    c.descend-cargo.result.ticket c.descend-cargo.result.cargo c.args.latency c.saturating_add-due.result c.txn-txn.ensures c.descend-cargo.ensures.kept
    (subst (λ (o : Option ℕ). IsTicketAt g.N.Naming.tokens (place_above g.N.Naming.frame.world o) c.descend-cargo.result.ticket) can.above_is c.descend-cargo.ensures.ticket)
    c.requires.latency c.saturating_add-due.ensures (c.descend-cargo.ensures.descended can)

pub returns-clause-adds : goal.returns-clause-adds
returns-clause-adds g c =
    let a = c.descend-cargo.ensures.answer in
    subst (λ (x : TxnId). AddsAt (own_pool g.N.Naming.frame.world x.initiator) c.args.note.knows c.descend-cargo.result.note.knows) c.txn-txn.ensures (pool_adds g.N.Naming.frame g.N.Naming.tokens _ _ _ _ _ _ a.pooled tt)
