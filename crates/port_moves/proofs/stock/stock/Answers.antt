use Rattle.std.proofs.Common.{◌≡◌, ◌⊎◌, ℕ, ◌+◌, ◌*◌, ◌≤◌, length, Some, None, refl, sym, ap, subst}
use Rattle.std.specs.Prelude.{is_some}
use Rattle.atomic_table.specs.Seated.{TableId}
use Rattle.token_book.specs.Purse.{HasPlace, HasRoom, IsOf, bytes_of, left_of}
use Rattle.region_object.specs.Call.{payload_cost}
use Rattle.port_moves.specs.Reach.{own_pool}
use Rattle.port_moves.specs.Stocks.{hops_at}
use Rattle.port_moves.proofs.Stocked.{gets_as, gives_as, memory_bytes, memory_left, paid_none, paid_some, pool_enough, room_memory, room_pool, route_told, stocked_none, stocked_some}
use Rattle.port_moves.proofs.stock.stock.Goals as goal

pub hand_over-requires-clause-room : goal.hand_over-requires-clause-room
hand_over-requires-clause-room g c = subst (λ (n : ℕ). HasRoom c.stock_hops-hops.new.to n) (sym c.pool_place.ensures) (room_pool g.N.Naming.tokens g.N.Naming.frame.world c.args.initiator c.args.address (payload_cost c.args.payload.now) c.args.from.now c.args.to.now c.requires.may c.requires.empty c.stock_hops-hops.new.from c.stock_hops-hops.new.to c.stock_hops-hops.ensures.moved (subst (λ (k : ℕ). k ≤ 9) c.stock_hops-hops.ensures.count c.stock_hops-hops.ensures.few))

pub hand_over-requires-clause-left : goal.hand_over-requires-clause-left
hand_over-requires-clause-left g c =
    let from = c.stock_hops-hops.new.from in
    let n = g.N.Naming in
    let pool = own_pool n.frame.world c.args.initiator in
    let left = pool_enough n.tokens n.frame.world c.args.initiator c.args.address (payload_cost c.args.payload.now) c.args.from.now c.args.to.now c.requires.may c.requires.empty from c.stock_hops-hops.new.to c.stock_hops-hops.ensures.moved in
    subst (λ (o : ℕ). 2 * c.stock_hops-hops.result + 1 ≤ left_of from o) (sym c.pool_place.ensures) (subst (λ (k : ℕ). 2 * k + 1 ≤ left_of from pool) (sym c.stock_hops-hops.ensures.count) left)

pub returns-in_default-clause-paid : goal.returns-in_default-clause-paid
returns-in_default-clause-paid g c = paid_none g.N.Naming.tokens g.N.Naming.frame.world c.args.initiator c.args.address (payload_cost c.args.payload.now) c.args.from.now c.args.to.now c.requires.may c.requires.empty c.stock_hops-hops.new.from c.stock_hops-hops.new.to c.stock_hops-hops.ensures.moved c.hand_over.new.from c.hand_over.new.to (gives_as c.tickets.result.now g.N.Naming.tokens c.pool_place.result (own_pool g.N.Naming.frame.world c.args.initiator) (2 * c.stock_hops-hops.result + 1) (2 * length (hops_at g.N.Naming.frame.world c.args.initiator c.args.address) + 1) 0 0 c.stock_hops-hops.new.from c.hand_over.new.from c.tickets.ensures c.pool_place.ensures (ap (λ (k : ℕ). 2 * k + 1) c.stock_hops-hops.ensures.count) refl c.hand_over.ensures.from) (gets_as c.tickets.result.now g.N.Naming.tokens c.pool_place.result (own_pool g.N.Naming.frame.world c.args.initiator) (2 * c.stock_hops-hops.result + 1) (2 * length (hops_at g.N.Naming.frame.world c.args.initiator c.args.address) + 1) 0 0 c.stock_hops-hops.new.to c.hand_over.new.to c.tickets.ensures c.pool_place.ensures (ap (λ (k : ℕ). 2 * k + 1) c.stock_hops-hops.ensures.count) refl c.hand_over.ensures.to) c.hand_over.ensures.from_in (subst (λ (n : ℕ). (o : ℕ) → HasPlace c.hand_over.new.to o → HasPlace c.stock_hops-hops.new.to o ⊎ (o ≡ n)) c.pool_place.ensures c.hand_over.ensures.to_in) (route_told c.plan.result.now c.args.net.now g.N.Naming.frame.world c.args.initiator c.args.address c.route.result None c.plan.ensures.plan c.plan.ensures.world c.route.ensures c.in_default.is)

pub returns-in_default-clause-stocked : goal.returns-in_default-clause-stocked
returns-in_default-clause-stocked g c = stocked_none g.N.Naming.tokens g.N.Naming.frame.world c.args.initiator c.args.address (payload_cost c.args.payload.now) c.args.from.now c.args.to.now c.requires.may c.requires.empty c.stock_hops-hops.new.from c.stock_hops-hops.new.to c.stock_hops-hops.ensures.moved c.hand_over.new.from c.hand_over.new.to (gives_as c.tickets.result.now g.N.Naming.tokens c.pool_place.result (own_pool g.N.Naming.frame.world c.args.initiator) (2 * c.stock_hops-hops.result + 1) (2 * length (hops_at g.N.Naming.frame.world c.args.initiator c.args.address) + 1) 0 0 c.stock_hops-hops.new.from c.hand_over.new.from c.tickets.ensures c.pool_place.ensures (ap (λ (k : ℕ). 2 * k + 1) c.stock_hops-hops.ensures.count) refl c.hand_over.ensures.from) (gets_as c.tickets.result.now g.N.Naming.tokens c.pool_place.result (own_pool g.N.Naming.frame.world c.args.initiator) (2 * c.stock_hops-hops.result + 1) (2 * length (hops_at g.N.Naming.frame.world c.args.initiator c.args.address) + 1) 0 0 c.stock_hops-hops.new.to c.hand_over.new.to c.tickets.ensures c.pool_place.ensures (ap (λ (k : ℕ). 2 * k + 1) c.stock_hops-hops.ensures.count) refl c.hand_over.ensures.to) c.hand_over.ensures.from_in (subst (λ (n : ℕ). (o : ℕ) → HasPlace c.hand_over.new.to o → HasPlace c.stock_hops-hops.new.to o ⊎ (o ≡ n)) c.pool_place.ensures c.hand_over.ensures.to_in) (route_told c.plan.result.now c.args.net.now g.N.Naming.frame.world c.args.initiator c.args.address c.route.result None c.plan.ensures.plan c.plan.ensures.world c.route.ensures c.in_default.is)

pub hand_one-requires-clause-tables : goal.hand_one-requires-clause-tables
hand_one-requires-clause-tables g c =
    let gives = (gives_as c.tickets.result.now g.N.Naming.tokens c.pool_place.result (own_pool g.N.Naming.frame.world c.args.initiator) (2 * c.stock_hops-hops.result + 1) (2 * length (hops_at g.N.Naming.frame.world c.args.initiator c.args.address) + 1) 0 0 c.stock_hops-hops.new.from c.hand_over.new.from c.tickets.ensures c.pool_place.ensures (ap (λ (k : ℕ). 2 * k + 1) c.stock_hops-hops.ensures.count) refl c.hand_over.ensures.from) in
    let gets = (gets_as c.tickets.result.now g.N.Naming.tokens c.pool_place.result (own_pool g.N.Naming.frame.world c.args.initiator) (2 * c.stock_hops-hops.result + 1) (2 * length (hops_at g.N.Naming.frame.world c.args.initiator c.args.address) + 1) 0 0 c.stock_hops-hops.new.to c.hand_over.new.to c.tickets.ensures c.pool_place.ensures (ap (λ (k : ℕ). 2 * k + 1) c.stock_hops-hops.ensures.count) refl c.hand_over.ensures.to) in
    (subst (λ (t : TableId). IsOf t c.hand_over.new.from) (sym c.tickets-2.ensures) gives.of, subst (λ (t : TableId). IsOf t c.hand_over.new.to) (sym c.tickets-2.ensures) gets.of)

pub hand_one-requires-clause-left : goal.hand_one-requires-clause-left
hand_one-requires-clause-left g c = memory_left g.N.Naming.tokens g.N.Naming.frame.world c.args.initiator c.args.address (payload_cost c.args.payload.now) c.args.from.now c.args.to.now c.requires.may c.requires.empty c.stock_hops-hops.new.from c.stock_hops-hops.new.to c.stock_hops-hops.ensures.moved c.hand_over.new.from c.hand_over.new.to (gives_as c.tickets.result.now g.N.Naming.tokens c.pool_place.result (own_pool g.N.Naming.frame.world c.args.initiator) (2 * c.stock_hops-hops.result + 1) (2 * length (hops_at g.N.Naming.frame.world c.args.initiator c.args.address) + 1) 0 0 c.stock_hops-hops.new.from c.hand_over.new.from c.tickets.ensures c.pool_place.ensures (ap (λ (k : ℕ). 2 * k + 1) c.stock_hops-hops.ensures.count) refl c.hand_over.ensures.from) (gets_as c.tickets.result.now g.N.Naming.tokens c.pool_place.result (own_pool g.N.Naming.frame.world c.args.initiator) (2 * c.stock_hops-hops.result + 1) (2 * length (hops_at g.N.Naming.frame.world c.args.initiator c.args.address) + 1) 0 0 c.stock_hops-hops.new.to c.hand_over.new.to c.tickets.ensures c.pool_place.ensures (ap (λ (k : ℕ). 2 * k + 1) c.stock_hops-hops.ensures.count) refl c.hand_over.ensures.to) c.hand_over.ensures.from_in (subst (λ (n : ℕ). (o : ℕ) → HasPlace c.hand_over.new.to o → HasPlace c.stock_hops-hops.new.to o ⊎ (o ≡ n)) c.pool_place.ensures c.hand_over.ensures.to_in) c.in-Some.route (route_told c.plan.result.now c.args.net.now g.N.Naming.frame.world c.args.initiator c.args.address c.route.result (Some c.in-Some.route) c.plan.ensures.plan c.plan.ensures.world c.route.ensures c.in-Some.is)

pub hand_one-requires-clause-bytes : goal.hand_one-requires-clause-bytes
hand_one-requires-clause-bytes g c = subst (λ (k : ℕ). k ≤ bytes_of c.hand_over.new.from c.in-Some.route.memory) (sym c.payload_cost-cost.ensures) (memory_bytes g.N.Naming.tokens g.N.Naming.frame.world c.args.initiator c.args.address (payload_cost c.args.payload.now) c.args.from.now c.args.to.now c.requires.may c.requires.empty c.stock_hops-hops.new.from c.stock_hops-hops.new.to c.stock_hops-hops.ensures.moved c.hand_over.new.from c.hand_over.new.to (gives_as c.tickets.result.now g.N.Naming.tokens c.pool_place.result (own_pool g.N.Naming.frame.world c.args.initiator) (2 * c.stock_hops-hops.result + 1) (2 * length (hops_at g.N.Naming.frame.world c.args.initiator c.args.address) + 1) 0 0 c.stock_hops-hops.new.from c.hand_over.new.from c.tickets.ensures c.pool_place.ensures (ap (λ (k : ℕ). 2 * k + 1) c.stock_hops-hops.ensures.count) refl c.hand_over.ensures.from) (gets_as c.tickets.result.now g.N.Naming.tokens c.pool_place.result (own_pool g.N.Naming.frame.world c.args.initiator) (2 * c.stock_hops-hops.result + 1) (2 * length (hops_at g.N.Naming.frame.world c.args.initiator c.args.address) + 1) 0 0 c.stock_hops-hops.new.to c.hand_over.new.to c.tickets.ensures c.pool_place.ensures (ap (λ (k : ℕ). 2 * k + 1) c.stock_hops-hops.ensures.count) refl c.hand_over.ensures.to) c.hand_over.ensures.from_in (subst (λ (n : ℕ). (o : ℕ) → HasPlace c.hand_over.new.to o → HasPlace c.stock_hops-hops.new.to o ⊎ (o ≡ n)) c.pool_place.ensures c.hand_over.ensures.to_in) c.in-Some.route (route_told c.plan.result.now c.args.net.now g.N.Naming.frame.world c.args.initiator c.args.address c.route.result (Some c.in-Some.route) c.plan.ensures.plan c.plan.ensures.world c.route.ensures c.in-Some.is))

pub hand_one-requires-clause-room : goal.hand_one-requires-clause-room
hand_one-requires-clause-room g c = room_memory g.N.Naming.tokens g.N.Naming.frame.world c.args.initiator c.args.address (payload_cost c.args.payload.now) c.args.from.now c.args.to.now c.requires.may c.requires.empty c.stock_hops-hops.new.from c.stock_hops-hops.new.to c.stock_hops-hops.ensures.moved c.hand_over.new.from c.hand_over.new.to (gives_as c.tickets.result.now g.N.Naming.tokens c.pool_place.result (own_pool g.N.Naming.frame.world c.args.initiator) (2 * c.stock_hops-hops.result + 1) (2 * length (hops_at g.N.Naming.frame.world c.args.initiator c.args.address) + 1) 0 0 c.stock_hops-hops.new.from c.hand_over.new.from c.tickets.ensures c.pool_place.ensures (ap (λ (k : ℕ). 2 * k + 1) c.stock_hops-hops.ensures.count) refl c.hand_over.ensures.from) (gets_as c.tickets.result.now g.N.Naming.tokens c.pool_place.result (own_pool g.N.Naming.frame.world c.args.initiator) (2 * c.stock_hops-hops.result + 1) (2 * length (hops_at g.N.Naming.frame.world c.args.initiator c.args.address) + 1) 0 0 c.stock_hops-hops.new.to c.hand_over.new.to c.tickets.ensures c.pool_place.ensures (ap (λ (k : ℕ). 2 * k + 1) c.stock_hops-hops.ensures.count) refl c.hand_over.ensures.to) c.hand_over.ensures.from_in (subst (λ (n : ℕ). (o : ℕ) → HasPlace c.hand_over.new.to o → HasPlace c.stock_hops-hops.new.to o ⊎ (o ≡ n)) c.pool_place.ensures c.hand_over.ensures.to_in) c.in-Some.route (route_told c.plan.result.now c.args.net.now g.N.Naming.frame.world c.args.initiator c.args.address c.route.result (Some c.in-Some.route) c.plan.ensures.plan c.plan.ensures.world c.route.ensures c.in-Some.is) (subst (λ (k : ℕ). k ≤ 9) c.stock_hops-hops.ensures.count c.stock_hops-hops.ensures.few)

pub returns-clause-paid : goal.returns-clause-paid
returns-clause-paid g c = paid_some g.N.Naming.tokens g.N.Naming.frame.world c.args.initiator c.args.address (payload_cost c.args.payload.now) c.args.from.now c.args.to.now c.requires.may c.requires.empty c.stock_hops-hops.new.from c.stock_hops-hops.new.to c.stock_hops-hops.ensures.moved c.hand_over.new.from c.hand_over.new.to (gives_as c.tickets.result.now g.N.Naming.tokens c.pool_place.result (own_pool g.N.Naming.frame.world c.args.initiator) (2 * c.stock_hops-hops.result + 1) (2 * length (hops_at g.N.Naming.frame.world c.args.initiator c.args.address) + 1) 0 0 c.stock_hops-hops.new.from c.hand_over.new.from c.tickets.ensures c.pool_place.ensures (ap (λ (k : ℕ). 2 * k + 1) c.stock_hops-hops.ensures.count) refl c.hand_over.ensures.from) (gets_as c.tickets.result.now g.N.Naming.tokens c.pool_place.result (own_pool g.N.Naming.frame.world c.args.initiator) (2 * c.stock_hops-hops.result + 1) (2 * length (hops_at g.N.Naming.frame.world c.args.initiator c.args.address) + 1) 0 0 c.stock_hops-hops.new.to c.hand_over.new.to c.tickets.ensures c.pool_place.ensures (ap (λ (k : ℕ). 2 * k + 1) c.stock_hops-hops.ensures.count) refl c.hand_over.ensures.to) c.hand_over.ensures.from_in (subst (λ (n : ℕ). (o : ℕ) → HasPlace c.hand_over.new.to o → HasPlace c.stock_hops-hops.new.to o ⊎ (o ≡ n)) c.pool_place.ensures c.hand_over.ensures.to_in) c.in-Some.route (route_told c.plan.result.now c.args.net.now g.N.Naming.frame.world c.args.initiator c.args.address c.route.result (Some c.in-Some.route) c.plan.ensures.plan c.plan.ensures.world c.route.ensures c.in-Some.is) c.hand_one.new.from c.hand_one.new.to (gives_as c.tickets-2.result.now g.N.Naming.tokens c.in-Some.route.memory c.in-Some.route.memory 1 1 c.payload_cost-cost.result (payload_cost c.args.payload.now) c.hand_over.new.from c.hand_one.new.from c.tickets-2.ensures refl refl c.payload_cost-cost.ensures c.hand_one.ensures.from) (gets_as c.tickets-2.result.now g.N.Naming.tokens c.in-Some.route.memory c.in-Some.route.memory 1 1 c.payload_cost-cost.result (payload_cost c.args.payload.now) c.hand_over.new.to c.hand_one.new.to c.tickets-2.ensures refl refl c.payload_cost-cost.ensures c.hand_one.ensures.to) c.hand_one.ensures.from_in

pub returns-clause-stocked : goal.returns-clause-stocked
returns-clause-stocked g c = stocked_some g.N.Naming.tokens g.N.Naming.frame.world c.args.initiator c.args.address (payload_cost c.args.payload.now) c.args.from.now c.args.to.now c.requires.may c.requires.empty c.stock_hops-hops.new.from c.stock_hops-hops.new.to c.stock_hops-hops.ensures.moved c.hand_over.new.from c.hand_over.new.to (gives_as c.tickets.result.now g.N.Naming.tokens c.pool_place.result (own_pool g.N.Naming.frame.world c.args.initiator) (2 * c.stock_hops-hops.result + 1) (2 * length (hops_at g.N.Naming.frame.world c.args.initiator c.args.address) + 1) 0 0 c.stock_hops-hops.new.from c.hand_over.new.from c.tickets.ensures c.pool_place.ensures (ap (λ (k : ℕ). 2 * k + 1) c.stock_hops-hops.ensures.count) refl c.hand_over.ensures.from) (gets_as c.tickets.result.now g.N.Naming.tokens c.pool_place.result (own_pool g.N.Naming.frame.world c.args.initiator) (2 * c.stock_hops-hops.result + 1) (2 * length (hops_at g.N.Naming.frame.world c.args.initiator c.args.address) + 1) 0 0 c.stock_hops-hops.new.to c.hand_over.new.to c.tickets.ensures c.pool_place.ensures (ap (λ (k : ℕ). 2 * k + 1) c.stock_hops-hops.ensures.count) refl c.hand_over.ensures.to) c.hand_over.ensures.from_in (subst (λ (n : ℕ). (o : ℕ) → HasPlace c.hand_over.new.to o → HasPlace c.stock_hops-hops.new.to o ⊎ (o ≡ n)) c.pool_place.ensures c.hand_over.ensures.to_in) c.in-Some.route (route_told c.plan.result.now c.args.net.now g.N.Naming.frame.world c.args.initiator c.args.address c.route.result (Some c.in-Some.route) c.plan.ensures.plan c.plan.ensures.world c.route.ensures c.in-Some.is) c.hand_one.new.from c.hand_one.new.to (gives_as c.tickets-2.result.now g.N.Naming.tokens c.in-Some.route.memory c.in-Some.route.memory 1 1 c.payload_cost-cost.result (payload_cost c.args.payload.now) c.hand_over.new.from c.hand_one.new.from c.tickets-2.ensures refl refl c.payload_cost-cost.ensures c.hand_one.ensures.from) (gets_as c.tickets-2.result.now g.N.Naming.tokens c.in-Some.route.memory c.in-Some.route.memory 1 1 c.payload_cost-cost.result (payload_cost c.args.payload.now) c.hand_over.new.to c.hand_one.new.to c.tickets-2.ensures refl refl c.payload_cost-cost.ensures c.hand_one.ensures.to) c.hand_one.ensures.from_in

pub returns-in_default-clause-routed : goal.returns-in_default-clause-routed
returns-in_default-clause-routed g c = sym (ap is_some (route_told c.plan.result.now c.args.net.now g.N.Naming.frame.world c.args.initiator c.args.address c.route.result None c.plan.ensures.plan c.plan.ensures.world c.route.ensures c.in_default.is))

pub returns-clause-routed : goal.returns-clause-routed
returns-clause-routed g c = sym (ap is_some (route_told c.plan.result.now c.args.net.now g.N.Naming.frame.world c.args.initiator c.args.address c.route.result (Some c.in-Some.route) c.plan.ensures.plan c.plan.ensures.world c.route.ensures c.in-Some.is))
