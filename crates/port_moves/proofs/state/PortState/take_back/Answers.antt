use Rattle.std.proofs.Common.{◌≡◌, ◌<◌, ℕ, [], ◌∷◌, ◌++◌, sym, ap, ◌∙◌, subst}
use Rattle.atomic_table.specs.Seated.{TableId}
use Rattle.tlm_types.specs.declared.words.TxnId.{TxnId}
use Rattle.token_book.specs.Purse.{IsOf, Purse, empty_purse, left_of}
use Rattle.token_book.specs.Ticket.{IsTicket}
use Rattle.payload_pool.specs.declared.baton.Baton.{Baton}
use Rattle.cargo_model.specs.Tickets.{Pulls}
use Rattle.cargo_net.proofs.PayloadWallets.{from_pull}
use Rattle.plat_net.specs.Net.{HasPool}
use Rattle.port_moves.specs.Reach.{own_pool}
use Rattle.port_moves.specs.Returned.{IsTold, MayBeTold, TakesAll}
use Rattle.port_moves.specs.State.{StateView}
use Rattle.port_moves.proofs.Backs.{pool_is_there}
use Rattle.port_moves.proofs.TakesIn.{can_release, left_places, one_left, released_here, room_for, taken_of, two_left}
use Rattle.port_moves.proofs.TakenBack.{back_move, back_port, may_tell}
use Rattle.port_moves.proofs.WalletLemmas.{some_of}
use Rattle.port_moves.proofs.Adding.{release_adds}
use Rattle.port_moves.proofs.state.PortState.take_back.Goals as goal

pub pool_place-pool-requires : goal.pool_place-pool-requires
pool_place-pool-requires g c = subst (HasPool g.N.Naming.frame.world.platform) (sym (c.initiator-initiator.ensures ∙ ap (λ (t : StateView). t.port.engine.initiator) c.self.view_is)) (pool_is_there g.N.Naming.table g.N.Naming.tokens g.N.Naming.frame c.args.self.now c.args.note c.requires.port)

pub pull-ticket-requires-clause-of : goal.pull-ticket-requires-clause-of
pull-ticket-requires-clause-of g c = subst (λ (t : TableId). IsOf t c.args.cargo.baton.wallet) (sym c.tickets.ensures) (taken_of g.N.Naming.table g.N.Naming.tokens g.N.Naming.frame c.args.self.now c.args.note c.requires.port c.args.cargo c.args.end c.requires.ended)

pub pull-ticket-requires-clause-left : goal.pull-ticket-requires-clause-left
pull-ticket-requires-clause-left g c = subst (λ (n : ℕ). 0 < left_of c.args.cargo.baton.wallet n) (sym (c.pool_place-pool.ensures ∙ ap (own_pool g.N.Naming.frame.world) (c.initiator-initiator.ensures ∙ ap (λ (t : StateView). t.port.engine.initiator) c.self.view_is))) (some_of (two_left g.N.Naming.table g.N.Naming.tokens g.N.Naming.frame c.args.self.now c.args.note c.requires.port c.args.cargo c.args.end c.requires.ended))

pub release-note-requires-clause-can : goal.release-note-requires-clause-can
release-note-requires-clause-can g c = can_release g.N.Naming.table g.N.Naming.tokens g.N.Naming.frame c.args.self.now c.args.note c.requires.port c.args.cargo c.args.end c.requires.ended c.initiator-initiator.result (c.initiator-initiator.ensures ∙ ap (λ (t : StateView). t.port.engine.initiator) c.self.view_is)

pub pull-last-requires-clause-left : goal.pull-last-requires-clause-left
pull-last-requires-clause-left g c = subst (λ (n : ℕ). 0 < left_of c.pull-ticket.new.self n) (sym (c.pool_place-pool.ensures ∙ ap (own_pool g.N.Naming.frame.world) (c.initiator-initiator.ensures ∙ ap (λ (t : StateView). t.port.engine.initiator) c.self.view_is))) (one_left g.N.Naming.table g.N.Naming.tokens g.N.Naming.frame c.args.self.now c.args.note c.requires.port c.args.cargo c.args.end c.requires.ended c.pull-ticket.new.self (from_pull g.N.Naming.tokens c.tickets.result.now (own_pool g.N.Naming.frame.world c.args.self.now.port.engine.initiator) c.pool_place-pool.result c.args.cargo.baton.wallet c.pull-ticket.new.self (c.pool_place-pool.ensures ∙ ap (own_pool g.N.Naming.frame.world) (c.initiator-initiator.ensures ∙ ap (λ (t : StateView). t.port.engine.initiator) c.self.view_is)) c.tickets.ensures c.pull-ticket.ensures.wallet c.pull-ticket.ensures.of c.pull-ticket.ensures.left c.pull-ticket.ensures.bytes))

pub take_all-requires-clause-room : goal.take_all-requires-clause-room
take_all-requires-clause-room g c = room_for g.N.Naming.table g.N.Naming.tokens g.N.Naming.frame c.args.self.now c.args.note c.requires.port c.args.cargo c.args.end c.requires.ended c.pull-ticket.new.self c.pull-last.new.self (from_pull g.N.Naming.tokens c.tickets.result.now (own_pool g.N.Naming.frame.world c.args.self.now.port.engine.initiator) c.pool_place-pool.result c.args.cargo.baton.wallet c.pull-ticket.new.self (c.pool_place-pool.ensures ∙ ap (own_pool g.N.Naming.frame.world) (c.initiator-initiator.ensures ∙ ap (λ (t : StateView). t.port.engine.initiator) c.self.view_is)) c.tickets.ensures c.pull-ticket.ensures.wallet c.pull-ticket.ensures.of c.pull-ticket.ensures.left c.pull-ticket.ensures.bytes) (from_pull g.N.Naming.tokens c.tickets-2.result.now (own_pool g.N.Naming.frame.world c.args.self.now.port.engine.initiator) c.pool_place-pool.result c.pull-ticket.new.self c.pull-last.new.self (c.pool_place-pool.ensures ∙ ap (own_pool g.N.Naming.frame.world) (c.initiator-initiator.ensures ∙ ap (λ (t : StateView). t.port.engine.initiator) c.self.view_is)) c.tickets-2.ensures c.pull-last.ensures.wallet c.pull-last.ensures.of c.pull-last.ensures.left c.pull-last.ensures.bytes)

pub tell-requires : goal.tell-requires
tell-requires g c =
    let e = c.release-note.ensures in
    let s = c.args.self.now in
    let takes = subst (λ (t : TableId). TakesAll t s.wallet c.pull-last.new.self c.take_all.new.self.wallet) c.tickets-3.ensures c.take_all.ensures.takes in
    let may : MayBeTold s.port c.args.cargo.baton.txn.seq c.args.cargo.baton.payload.bytes =
    may_tell g.N.Naming.table g.N.Naming.tokens g.N.Naming.frame c.args.self.now c.args.note c.requires.port c.release-note.result.1 e.note e.knew e.below c.args.cargo c.args.end c.requires.ended c.pull-ticket.new.self c.pull-last.new.self c.take_all.new.self.wallet (from_pull g.N.Naming.tokens c.tickets.result.now (own_pool g.N.Naming.frame.world c.args.self.now.port.engine.initiator) c.pool_place-pool.result c.args.cargo.baton.wallet c.pull-ticket.new.self (c.pool_place-pool.ensures ∙ ap (own_pool g.N.Naming.frame.world) (c.initiator-initiator.ensures ∙ ap (λ (t : StateView). t.port.engine.initiator) c.self.view_is)) c.tickets.ensures c.pull-ticket.ensures.wallet c.pull-ticket.ensures.of c.pull-ticket.ensures.left c.pull-ticket.ensures.bytes) (from_pull g.N.Naming.tokens c.tickets-2.result.now (own_pool g.N.Naming.frame.world c.args.self.now.port.engine.initiator) c.pool_place-pool.result c.pull-ticket.new.self c.pull-last.new.self (c.pool_place-pool.ensures ∙ ap (own_pool g.N.Naming.frame.world) (c.initiator-initiator.ensures ∙ ap (λ (t : StateView). t.port.engine.initiator) c.self.view_is)) c.tickets-2.ensures c.pull-last.ensures.wallet c.pull-last.ensures.of c.pull-last.ensures.left c.pull-last.ensures.bytes) takes in
    record {
      may = subst (λ (t : StateView). MayBeTold t.port c.txn.result.seq c.args.cargo.baton.payload.bytes) (sym c.take_all.ensures.state)
          (subst (λ (x : TxnId). MayBeTold s.port x.seq c.args.cargo.baton.payload.bytes) (sym c.txn.ensures) may);
    }

first : (g : _) (c : goal.After-made g) → Pulls g.N.Naming.tokens (own_pool g.N.Naming.frame.world c.args.self.now.port.engine.initiator) 0 c.args.cargo.baton.wallet c.pull-ticket.new.self
first g c = (from_pull g.N.Naming.tokens c.tickets.result.now (own_pool g.N.Naming.frame.world c.args.self.now.port.engine.initiator) c.pool_place-pool.result c.args.cargo.baton.wallet c.pull-ticket.new.self (c.pool_place-pool.ensures ∙ ap (own_pool g.N.Naming.frame.world) (c.initiator-initiator.ensures ∙ ap (λ (t : StateView). t.port.engine.initiator) c.self.view_is)) c.tickets.ensures c.pull-ticket.ensures.wallet c.pull-ticket.ensures.of c.pull-ticket.ensures.left c.pull-ticket.ensures.bytes)

last : (g : _) (c : goal.After-made g) → Pulls g.N.Naming.tokens (own_pool g.N.Naming.frame.world c.args.self.now.port.engine.initiator) 0 c.pull-ticket.new.self c.pull-last.new.self
last g c = (from_pull g.N.Naming.tokens c.tickets-2.result.now (own_pool g.N.Naming.frame.world c.args.self.now.port.engine.initiator) c.pool_place-pool.result c.pull-ticket.new.self c.pull-last.new.self (c.pool_place-pool.ensures ∙ ap (own_pool g.N.Naming.frame.world) (c.initiator-initiator.ensures ∙ ap (λ (t : StateView). t.port.engine.initiator) c.self.view_is)) c.tickets-2.ensures c.pull-last.ensures.wallet c.pull-last.ensures.of c.pull-last.ensures.left c.pull-last.ensures.bytes)

takes : (g : _) (c : goal.After-made g) → TakesAll g.N.Naming.tokens c.args.self.now.wallet c.pull-last.new.self c.take_all.new.self.wallet
takes g c = subst (λ (t : TableId). TakesAll t c.args.self.now.wallet c.pull-last.new.self c.take_all.new.self.wallet) c.tickets-3.ensures c.take_all.ensures.takes

spent : (g : _) (c : goal.After-made g) → (let a = c.args.cargo.baton in ◌≡◌ {A = Baton} (record a { wallet = c.take_all.new.from }) (record a { wallet = empty_purse 12 }))
spent g c =
    let a = c.args.cargo.baton in
    ap (λ (w : Purse). record a { wallet = w }) (c.take_all.ensures.empty ∙ ap empty_purse (left_places g.N.Naming.table g.N.Naming.tokens g.N.Naming.frame c.args.self.now c.args.note c.requires.port c.args.cargo c.args.end c.requires.ended c.pull-ticket.new.self c.pull-last.new.self (first g c) (last g c)))

ticket : (g : _) (c : goal.After-made g) → IsTicket g.N.Naming.tokens (own_pool g.N.Naming.frame.world c.args.self.now.port.engine.initiator) c.pull-last.result
ticket g c = subst (λ (n : ℕ). IsTicket g.N.Naming.tokens n c.pull-last.result) (c.pool_place-pool.ensures ∙ ap (own_pool g.N.Naming.frame.world) (c.initiator-initiator.ensures ∙ ap (λ (t : StateView). t.port.engine.initiator) c.self.view_is)) (subst (λ (t : TableId). IsTicket t c.pool_place-pool.result c.pull-last.result) c.tickets-2.ensures c.pull-last.ensures.ticket)

told : (g : _) (c : goal.After-made g) → (let s = c.args.self.now in IsTold c.args.cargo.baton.txn.seq c.args.end c.args.cargo.baton.payload.bytes (record s { wallet = c.take_all.new.self.wallet }) c.tell.new.self)
told g c =
    subst (λ (t : StateView). IsTold c.args.cargo.baton.txn.seq c.args.end c.args.cargo.baton.payload.bytes t c.tell.new.self) c.take_all.ensures.state
    (subst (λ (x : TxnId). IsTold x.seq c.args.end c.args.cargo.baton.payload.bytes c.take_all.new.self c.tell.new.self) c.txn.ensures c.tell.ensures)

pub returns-clause-port : goal.returns-clause-port
returns-clause-port g c =
    let e = c.release-note.ensures in
    let a = c.args.cargo.baton in
    back_port g.N.Naming.table g.N.Naming.tokens g.N.Naming.frame c.args.self.now c.args.note c.requires.port c.release-note.result.1 e.note e.knew e.below c.args.cargo c.args.end c.requires.ended c.pull-ticket.new.self c.pull-last.new.self c.take_all.new.self.wallet (first g c) (last g c) (takes g c)
    (record a { wallet = c.take_all.new.from }) (spent g c) c.pull-last.result (ticket g c) c.tell.new.self c.turn_to.new.self (told g c) c.turn_to.ensures

pub returns-clause-back : goal.returns-clause-back
returns-clause-back g c =
    let e = c.release-note.ensures in
    let a = c.args.cargo.baton in
    back_move g.N.Naming.table g.N.Naming.tokens g.N.Naming.frame c.args.self.now c.args.note c.requires.port c.release-note.result.1 e.note e.knew e.below c.args.cargo c.args.end c.requires.ended c.pull-ticket.new.self c.pull-last.new.self c.take_all.new.self.wallet (first g c) (last g c) (takes g c)
    (record a { wallet = c.take_all.new.from }) (spent g c) c.pull-last.result (ticket g c) c.tell.new.self c.turn_to.new.self (told g c) c.turn_to.ensures c.release-note.result.0
    (released_here g.N.Naming.table g.N.Naming.tokens g.N.Naming.frame c.args.self.now c.args.note c.requires.port c.args.cargo c.args.end c.requires.ended c.initiator-initiator.result (c.initiator-initiator.ensures ∙ ap (λ (t : StateView). t.port.engine.initiator) c.self.view_is) c.release-note.result.0 c.release-note.result.1.knows.known e.released)
    (e.look ∙ ap (λ (n : ℕ). c.args.note.knows.looks ++ (own_pool g.N.Naming.frame.world n, 0) ∷ []) (c.initiator-initiator.ensures ∙ ap (λ (t : StateView). t.port.engine.initiator) c.self.view_is))

pub returns-clause-adds : goal.returns-clause-adds
returns-clause-adds g c = release_adds g.N.Naming.frame g.N.Naming.tokens c.initiator-initiator.result c.args.self.now.port.engine.initiator (c.initiator-initiator.ensures ∙ ap (λ (t : StateView). t.port.engine.initiator) c.self.view_is) c.args.note.knows c.release-note.result.1.knows c.requires.port.below _ _ c.release-note.ensures.answer
