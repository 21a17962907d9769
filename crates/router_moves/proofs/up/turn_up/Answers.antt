use Rattle.std.proofs.Common.{◌+◌, ◌<◌, ℕ, sym, ◌∙◌, subst}
use Rattle.std.specs.Prelude.{IfSome}
use Rattle.atomic_table.specs.Seated.{TableId}
use Rattle.token_book.specs.Account.{Slip}
use Rattle.token_book.specs.Purse.{IsOf, left_of}
use Rattle.token_book.specs.Ticket.{IsTicket}
use Rattle.tlm_model.specs.Plan.{Plan}
use Rattle.cargo_net.proofs.PayloadWallets.{from_pull}
use Rattle.plat_net.specs.Net.{HasPool}
use Rattle.plat_net.specs.Places.{hop_place, own_pool}
use Rattle.plat_net.proofs.Given.{pool_numbered, shape_of}
use Rattle.router_moves.specs.Moves.{IsEndOf, PullsFor}
use Rattle.route_plan.specs.Valid.{hop_count}
use Rattle.router_moves.proofs.Hops.{on_plan}
use Rattle.router_moves.proofs.TurnsUp.{end_left, new_of, pool_there, release_left, turns}
use Rattle.router_moves.proofs.up.turn_up.Goals as goal

pub end_of-end-requires-clause-left : goal.end_of-end-requires-clause-left
end_of-end-requires-clause-left g c =
    subst (λ (q : Plan). IfSome c.args.back.leg (λ (l : Slip). 0 < left_of c.args.back.cargo.baton.wallet (hop_place q c.args.held.below))) (sym c.plan.ensures.world)
    (end_left g.N.Naming.frame g.N.Naming.tokens c.args.note.now.knows.known (shape_of c.plan.result.now c.args.net.now g.N.Naming.frame.world c.platform.ensures.valid c.plan.ensures.plan c.plan.ensures.world) c.args.held c.args.back c.requires.back)

pub pool-requires : goal.pool-requires
pool-requires g c =
    subst (λ (q : Plan). HasPool q.platform c.args.held.txn.initiator) (sym c.plan.ensures.world)
    (pool_there g.N.Naming.frame g.N.Naming.tokens c.args.note.now.knows.known (shape_of c.plan.result.now c.args.net.now g.N.Naming.frame.world c.platform.ensures.valid c.plan.ensures.plan c.plan.ensures.world) c.args.held c.args.back c.requires.back)

pub pull-ticket-requires-clause-of : goal.pull-ticket-requires-clause-of
pull-ticket-requires-clause-of g c =
    subst (λ (t : TableId). IsOf t c.end_of-end.new.baton.wallet) (sym c.tickets.ensures)
    (new_of g.N.Naming.frame g.N.Naming.tokens c.args.note.now.knows.known (shape_of c.plan.result.now c.args.net.now g.N.Naming.frame.world c.platform.ensures.valid c.plan.ensures.plan c.plan.ensures.world) c.args.held c.args.back c.requires.back c.end_of-end.new.baton (subst (λ (q : Plan). PullsFor g.N.Naming.tokens (hop_place q c.args.held.below) c.args.back.leg c.args.back.cargo.baton c.end_of-end.new.baton) c.plan.ensures.world c.end_of-end.ensures.pulls))

pub pull-ticket-requires-clause-left : goal.pull-ticket-requires-clause-left
pull-ticket-requires-clause-left g c =
    subst (λ (n : ℕ). 0 < left_of c.end_of-end.new.baton.wallet n) (sym (c.number.ensures ∙ pool_numbered c.args.net.now g.N.Naming.frame.world c.args.held.txn.initiator c.pool.result.now c.pool.ensures c.plan.ensures.world))
    (release_left g.N.Naming.frame g.N.Naming.tokens c.args.note.now.knows.known (shape_of c.plan.result.now c.args.net.now g.N.Naming.frame.world c.platform.ensures.valid c.plan.ensures.plan c.plan.ensures.world) c.args.held c.args.back c.requires.back c.end_of-end.new.baton (subst (λ (q : Plan). PullsFor g.N.Naming.tokens (hop_place q c.args.held.below) c.args.back.leg c.args.back.cargo.baton c.end_of-end.new.baton) c.plan.ensures.world c.end_of-end.ensures.pulls))

pub returns : goal.returns
returns g c =
    let release = from_pull g.N.Naming.tokens c.tickets.result.now (own_pool g.N.Naming.frame.world c.args.held.txn.initiator) c.number.result c.end_of-end.new.baton.wallet c.pull-ticket.new.self (c.number.ensures ∙ pool_numbered c.args.net.now g.N.Naming.frame.world c.args.held.txn.initiator c.pool.result.now c.pool.ensures c.plan.ensures.world) c.tickets.ensures c.pull-ticket.ensures.wallet c.pull-ticket.ensures.of c.pull-ticket.ensures.left c.pull-ticket.ensures.bytes in
    let ticket = subst (λ (t : TableId). IsTicket t (own_pool g.N.Naming.frame.world c.args.held.txn.initiator) c.pull-ticket.result) c.tickets.ensures (subst (λ (n : ℕ). IsTicket c.tickets.result.now n c.pull-ticket.result) (c.number.ensures ∙ pool_numbered c.args.net.now g.N.Naming.frame.world c.args.held.txn.initiator c.pool.result.now c.pool.ensures c.plan.ensures.world) c.pull-ticket.ensures.ticket) in
    let end = subst (λ (q : Plan). IsEndOf g.N.Naming.tokens (hop_place q c.args.held.below) c.args.back.leg c.args.back.at c.end_of-end.result) c.plan.ensures.world c.end_of-end.ensures.end in
    record {
      turned = turns g.N.Naming.frame g.N.Naming.tokens c.args.note.now.knows.known (shape_of c.plan.result.now c.args.net.now g.N.Naming.frame.world c.platform.ensures.valid c.plan.ensures.plan c.plan.ensures.world) c.args.held c.args.back c.requires.back c.end_of-end.new.baton (subst (λ (q : Plan). PullsFor g.N.Naming.tokens (hop_place q c.args.held.below) c.args.back.leg c.args.back.cargo.baton c.end_of-end.new.baton) c.plan.ensures.world c.end_of-end.ensures.pulls) c.requires.settled c.end_of-end.result c.pull-ticket.new.self c.pull-ticket.result end release ticket;
    }

pub end_of-end-requires-clause-hop : goal.end_of-end-requires-clause-hop
end_of-end-requires-clause-hop g c =
    let i = c.requires.back in
    let h = i.held in
    subst (λ (q : Plan). c.args.held.below < hop_count q.platform) (sym c.plan.ensures.world) (on_plan g.N.Naming.frame.world c.args.held.txn i.pass (i.hop + 1) c.args.held.below h.passes h.next h.below)
