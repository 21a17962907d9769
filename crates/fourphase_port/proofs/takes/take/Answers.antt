use Rattle.std.proofs.Common.{◌≡◌, ◌<◌, ◌⊎◌, ℕ, [], ◌∷◌, ◌++◌, length, sym, ap, ◌∙◌, subst, inl}
use Rattle.atomic_table.specs.Seated.{TableId}
use Rattle.view_lists.specs.Lists.{Has}
use Rattle.token_book.specs.Account.{amount_of}
use Rattle.token_book.specs.Purse.{HasPlace, HasRoom, IsOf, left_of}
use Rattle.token_book.specs.Ticket.{IsTicket}
use Rattle.token_book.specs.declared.ticket.Ticket.{Ticket}
use Rattle.region_object.specs.Call.{payload_cost}
use Rattle.payload_pool.specs.declared.baton.Baton.{Baton}
use Rattle.cargo_model.specs.Tickets.{Pulls}
use Rattle.cargo_net.specs.Pools.{HasTaken}
use Rattle.joined_traffic.specs.Accesses.{txn_of}
use Rattle.plat_net.specs.Net.{HasPool}
use Rattle.port_model.proofs.Ops.{seq_of}
use Rattle.script_engine.specs.State.{payload_of}
use Rattle.port_moves.specs.Loaded.{IsLoaded}
use Rattle.port_moves.specs.Reach.{own_pool}
use Rattle.port_moves.specs.State.{StateView}
use Rattle.port_moves.specs.Stocks.{MayStock}
use Rattle.port_moves.specs.Wallets.{Gets}
use Rattle.port_moves.proofs.Backs.{pool_is_there}
use Rattle.fourphase_port.proofs.TakesNext.{can_take, full_port, has_ticket, is_new, low_initiator, may_give, none_in, room_away, room_back, room_refused, taken_port, takes}
use Rattle.fourphase_port.proofs.Adding.{took_adds}
use Rattle.fourphase_port.proofs.takes.take.Goals as goal

pub pool_place-pool-requires : goal.pool_place-pool-requires
pool_place-pool-requires g c = subst (HasPool g.N.Naming.frame.world.platform) (sym c.initiator-initiator.ensures) (pool_is_there g.N.Naming.table g.N.Naming.tokens g.N.Naming.frame c.args.state.now c.args.note c.requires.port)

pub pull-ticket-requires-clause-left : goal.pull-ticket-requires-clause-left
pull-ticket-requires-clause-left g c = subst (λ (k : ℕ). 0 < left_of c.args.state.now.wallet k) (sym (c.pool_place-pool.ensures ∙ ap (own_pool g.N.Naming.frame.world) c.initiator-initiator.ensures)) (has_ticket g.N.Naming.table g.N.Naming.tokens g.N.Naming.frame c.args.state.now c.args.note c.requires.port c.args.transfer c.requires.next c.requires.may)

pub take-requires-clause-can : goal.take-requires-clause-can
take-requires-clause-can g c = can_take g.N.Naming.table g.N.Naming.tokens g.N.Naming.frame c.args.state.now c.args.note c.requires.port c.args.transfer c.requires.next c.requires.may c.initiator-initiator.result c.initiator-initiator.ensures

pub put_ticket-requires-clause-ticket : goal.put_ticket-requires-clause-ticket
put_ticket-requires-clause-ticket g c = (
  (subst (λ (t : Ticket). IsTicket c.tickets-in-Full.result.now c.pool_place-pool.result t) (sym c.in-Full.ensures.taken.0) (subst (λ (t : TableId). IsTicket t c.pool_place-pool.result c.pull-ticket.result) (c.tickets.ensures ∙ sym c.tickets-in-Full.ensures) c.pull-ticket.ensures.ticket)),
  subst (λ (k : ℕ). HasRoom c.pull-ticket.new.self.wallet k) (sym (c.pool_place-pool.ensures ∙ ap (own_pool g.N.Naming.frame.world) c.initiator-initiator.ensures)) (room_back g.N.Naming.table g.N.Naming.tokens g.N.Naming.frame c.args.state.now c.args.note c.requires.port c.args.transfer c.requires.next c.requires.may c.pull-ticket.new.self.wallet (subst (λ (k : ℕ). Pulls g.N.Naming.tokens k 0 c.args.state.now.wallet c.pull-ticket.new.self.wallet) (c.pool_place-pool.ensures ∙ ap (own_pool g.N.Naming.frame.world) c.initiator-initiator.ensures) (subst (λ (t : TableId). Pulls t c.pool_place-pool.result 0 c.args.state.now.wallet c.pull-ticket.new.self.wallet) c.tickets.ensures c.pull-ticket.ensures.pulls))),
  ap (λ (t : Ticket). amount_of t.bytes) c.in-Full.ensures.taken.0 ∙ c.pull-ticket.ensures.amount,
)

pub load-requires-clause-initiator : goal.load-requires-clause-initiator
load-requires-clause-initiator g c = subst (λ (t : StateView). t.port.engine.initiator < length g.N.Naming.frame.world.platform.initiators) (sym c.pull-ticket.ensures.state) (low_initiator g.N.Naming.table g.N.Naming.tokens g.N.Naming.frame c.args.state.now c.args.note c.requires.port c.args.transfer c.requires.next c.requires.may)

pub load-requires-clause-new : goal.load-requires-clause-new
load-requires-clause-new g c = subst (λ (t : StateView). Has t.port.away t.port.engine.seq → ⊥) (sym c.pull-ticket.ensures.state) (is_new g.N.Naming.table g.N.Naming.tokens g.N.Naming.frame c.args.state.now c.args.note c.requires.port c.args.transfer c.requires.next c.requires.may)

pub load-requires-clause-room : goal.load-requires-clause-room
load-requires-clause-room g c = subst (λ (t : StateView). (length t.port.away < t.room) × (length t.port.refused < t.room)) (sym c.pull-ticket.ensures.state) (room_away g.N.Naming.table g.N.Naming.tokens g.N.Naming.frame c.args.state.now c.args.note c.requires.port c.args.transfer c.requires.next c.requires.may, room_refused g.N.Naming.table g.N.Naming.tokens g.N.Naming.frame c.args.state.now c.args.note c.requires.port c.args.transfer c.requires.next c.requires.may)

pub load-requires-clause-tokens : goal.load-requires-clause-tokens
load-requires-clause-tokens g c = (
  subst (λ (t : TableId). IsOf t c.pull-ticket.new.self.wallet) c.tickets.ensures c.pull-ticket.ensures.pulls.of,
  none_in g.N.Naming.tokens c.in-Took.baton.wallet (ap (λ (b : Baton). b.wallet) c.in-Took.ensures.taken.0.baton),
)

pub load-requires-clause-may : goal.load-requires-clause-may
load-requires-clause-may g c =
    let u = c.pull-ticket.new.self.wallet in
    let may : MayStock g.N.Naming.frame.world c.args.state.now.port.engine.initiator c.args.transfer.address (payload_cost (payload_of c.args.state.now.port.engine 4096)) u = may_give g.N.Naming.table g.N.Naming.tokens g.N.Naming.frame c.args.state.now c.args.note c.requires.port c.args.transfer c.requires.next c.requires.may u (subst (λ (k : ℕ). Pulls g.N.Naming.tokens k 0 c.args.state.now.wallet c.pull-ticket.new.self.wallet) (c.pool_place-pool.ensures ∙ ap (own_pool g.N.Naming.frame.world) c.initiator-initiator.ensures) (subst (λ (t : TableId). Pulls t c.pool_place-pool.result 0 c.args.state.now.wallet c.pull-ticket.new.self.wallet) c.tickets.ensures c.pull-ticket.ensures.pulls)) in
    subst (λ (t : StateView). MayStock g.N.Naming.frame.world t.port.engine.initiator c.args.transfer.address (payload_cost (payload_of t.port.engine 4096)) u) (sym c.pull-ticket.ensures.state) may

pub returns-in-Full-clause-port : goal.returns-in-Full-clause-port
returns-in-Full-clause-port g c =
    full_port g.N.Naming.table g.N.Naming.tokens g.N.Naming.frame c.args.state.now c.args.note c.requires.port c.args.transfer c.requires.next c.requires.may c.in-Full.note c.in-Full.ensures.note c.in-Full.ensures.knew c.in-Full.ensures.below c.pull-ticket.new.self.wallet (subst (λ (k : ℕ). Pulls g.N.Naming.tokens k 0 c.args.state.now.wallet c.pull-ticket.new.self.wallet) (c.pool_place-pool.ensures ∙ ap (own_pool g.N.Naming.frame.world) c.initiator-initiator.ensures) (subst (λ (t : TableId). Pulls t c.pool_place-pool.result 0 c.args.state.now.wallet c.pull-ticket.new.self.wallet) c.tickets.ensures c.pull-ticket.ensures.pulls)) c.pull-ticket.ensures.within
    c.put_ticket.new.self.wallet (subst (λ (k : ℕ). Gets g.N.Naming.tokens k 1 0 c.pull-ticket.new.self.wallet c.put_ticket.new.self.wallet) (c.pool_place-pool.ensures ∙ ap (own_pool g.N.Naming.frame.world) c.initiator-initiator.ensures) (subst (λ (t : TableId). Gets t c.pool_place-pool.result 1 0 c.pull-ticket.new.self.wallet c.put_ticket.new.self.wallet) c.tickets-in-Full.ensures c.put_ticket.ensures.back)) (subst (λ (k : ℕ). (o : ℕ) → HasPlace c.put_ticket.new.self.wallet o → HasPlace c.pull-ticket.new.self.wallet o ⊎ (o ≡ k)) (c.pool_place-pool.ensures ∙ ap (own_pool g.N.Naming.frame.world) c.initiator-initiator.ensures) c.put_ticket.ensures.within) c.requires.free.0 c.put_ticket.new.self (c.put_ticket.ensures.state ∙ ap (λ (t : StateView). let w = c.put_ticket.new.self.wallet in record t { wallet = w }) c.pull-ticket.ensures.state)

pub returns-in-Took-clause-port : goal.returns-in-Took-clause-port
returns-in-Took-clause-port g c =
    taken_port g.N.Naming.table g.N.Naming.tokens g.N.Naming.frame c.args.state.now c.args.note c.requires.port c.args.transfer c.requires.next c.requires.may c.in-Took.note c.in-Took.ensures.note c.in-Took.ensures.knew c.in-Took.ensures.below c.pull-ticket.new.self.wallet (subst (λ (k : ℕ). Pulls g.N.Naming.tokens k 0 c.args.state.now.wallet c.pull-ticket.new.self.wallet) (c.pool_place-pool.ensures ∙ ap (own_pool g.N.Naming.frame.world) c.initiator-initiator.ensures) (subst (λ (t : TableId). Pulls t c.pool_place-pool.result 0 c.args.state.now.wallet c.pull-ticket.new.self.wallet) c.tickets.ensures c.pull-ticket.ensures.pulls)) c.pull-ticket.ensures.within c.in-Took.baton (subst (λ (a : ℕ). HasTaken g.N.Naming.frame g.N.Naming.tokens (txn_of c.args.state.now.port.engine.initiator c.args.state.now.port.engine.seq) a c.args.note.knows.seen c.in-Took.baton c.in-Took.note.knows.known) (c.time.ensures ∙ ap (λ (t : StateView). t.port.time) c.pull-ticket.ensures.state) (subst (λ (a : ℕ). HasTaken g.N.Naming.frame g.N.Naming.tokens (txn_of c.args.state.now.port.engine.initiator a) c.time.result c.args.note.knows.seen c.in-Took.baton c.in-Took.note.knows.known) (seq_of c.args.state.now.port.engine c.args.transfer c.requires.next) (subst (λ (a : ℕ). HasTaken g.N.Naming.frame g.N.Naming.tokens (txn_of a c.args.transfer.seq) c.time.result c.args.note.knows.seen c.in-Took.baton c.in-Took.note.knows.known) c.initiator-initiator.ensures c.in-Took.ensures.taken.0))) c.load.new.self (let s = c.args.state.now in subst (λ (t : StateView). IsLoaded g.N.Naming.tokens g.N.Naming.frame.world c.args.transfer c.in-Took.baton t c.load.new.self) c.pull-ticket.ensures.state c.load.ensures) c.requires.free.1

pub returns-in-Took-clause-taken : goal.returns-in-Took-clause-taken
returns-in-Took-clause-taken g c =
    inl (
      takes g.N.Naming.table g.N.Naming.tokens g.N.Naming.frame c.args.state.now c.args.note c.requires.port c.args.transfer c.requires.next c.requires.may c.in-Took.note c.in-Took.ensures.note c.in-Took.ensures.knew c.in-Took.ensures.below c.pull-ticket.new.self.wallet (subst (λ (k : ℕ). Pulls g.N.Naming.tokens k 0 c.args.state.now.wallet c.pull-ticket.new.self.wallet) (c.pool_place-pool.ensures ∙ ap (own_pool g.N.Naming.frame.world) c.initiator-initiator.ensures) (subst (λ (t : TableId). Pulls t c.pool_place-pool.result 0 c.args.state.now.wallet c.pull-ticket.new.self.wallet) c.tickets.ensures c.pull-ticket.ensures.pulls)) c.pull-ticket.ensures.within c.in-Took.baton (subst (λ (a : ℕ). HasTaken g.N.Naming.frame g.N.Naming.tokens (txn_of c.args.state.now.port.engine.initiator c.args.state.now.port.engine.seq) a c.args.note.knows.seen c.in-Took.baton c.in-Took.note.knows.known) (c.time.ensures ∙ ap (λ (t : StateView). t.port.time) c.pull-ticket.ensures.state) (subst (λ (a : ℕ). HasTaken g.N.Naming.frame g.N.Naming.tokens (txn_of c.args.state.now.port.engine.initiator a) c.time.result c.args.note.knows.seen c.in-Took.baton c.in-Took.note.knows.known) (seq_of c.args.state.now.port.engine c.args.transfer c.requires.next) (subst (λ (a : ℕ). HasTaken g.N.Naming.frame g.N.Naming.tokens (txn_of a c.args.transfer.seq) c.time.result c.args.note.knows.seen c.in-Took.baton c.in-Took.note.knows.known) c.initiator-initiator.ensures c.in-Took.ensures.taken.0))) c.load.new.self (let s = c.args.state.now in subst (λ (t : StateView). IsLoaded g.N.Naming.tokens g.N.Naming.frame.world c.args.transfer c.in-Took.baton t c.load.new.self) c.pull-ticket.ensures.state c.load.ensures) c.requires.free.1
          (c.in-Took.ensures.taken.1 ∙ ap (λ (k : ℕ). c.args.note.knows.looks ++ (own_pool g.N.Naming.frame.world k, 0) ∷ []) c.initiator-initiator.ensures),
      c.made.ensures,
    )

pub returns-in-Took-clause-adds : goal.returns-in-Took-clause-adds
returns-in-Took-clause-adds g c = λ entry. took_adds g.N.Naming.frame g.N.Naming.tokens c.initiator-initiator.result c.args.state.now.port.engine.initiator c.initiator-initiator.ensures c.args.note.knows c.in-Took.note.knows c.requires.port.below _ c.in-Took.baton c.in-Took.ensures.answer
