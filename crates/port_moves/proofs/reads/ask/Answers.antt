use Rattle.std.proofs.Common.{Some, refl, sym, ◌∙◌, subst}
use Rattle.atomic_table.specs.Seated.{TableId}
use Rattle.token_book.specs.Purse.{IsOf}
use Rattle.region_object.specs.Call.{payload_cost}
use Rattle.plat_net.specs.Calls.{route_at}
use Rattle.port_moves.specs.Reads.{HasSpent}
use Rattle.port_moves.proofs.Asking.{asked_there, called_by, less_by, none_of, room_for_it, room_of_one, route_here, spent}
use Rattle.port_moves.proofs.Stocked.{gets_as, gives_as}
use Rattle.port_moves.proofs.reads.ask.Goals as goal

pub debug-requires-clause-wallet : goal.debug-requires-clause-wallet
debug-requires-clause-wallet g c = none_of g.N.Naming.tokens c.args.purse.now 1 c.requires.purse

pub hand_one-requires-clause-tables : goal.hand_one-requires-clause-tables
hand_one-requires-clause-tables g c = (subst (λ (t : TableId). IsOf t c.args.wallet.now) (sym c.tickets.ensures) c.requires.wallet, none_of c.tickets.result.now c.args.purse.now 1 c.requires.purse)

pub hand_one-requires-clause-room : goal.hand_one-requires-clause-room
hand_one-requires-clause-room g c = room_of_one c.args.purse.now c.in-Some.route.memory c.requires.purse

pub put_all-requires-clause-of : goal.put_all-requires-clause-of
put_all-requires-clause-of g c = (
  subst (λ (t : TableId). IsOf t c.hand_one.new.from) (c.tickets.ensures ∙ sym c.tickets-2.ensures) c.hand_one.ensures.from.of,
  subst (λ (t : TableId). IsOf t c.debug-carried.new.wallet) (sym c.tickets-2.ensures) c.debug-carried.ensures.wallet,
)

pub put_all-requires-clause-room : goal.put_all-requires-clause-room
put_all-requires-clause-room g c =
    let r = c.in-Some.route in
    let cost = payload_cost c.args.payload in
    let here = route_here c.plan.result.now c.args.net.now c.args.who c.args.payload.address c.address.result c.route.result (Some r) c.plan.ensures.plan c.address.ensures c.route.ensures c.in-Some.is in
    room_for_it g.N.Naming.tokens r.memory cost c.args.wallet.now c.args.purse.now c.hand_one.new.from c.hand_one.new.to c.requires.purse
    (gives_as c.tickets.result.now g.N.Naming.tokens r.memory r.memory 1 1 c.payload_cost-cost.result cost c.args.wallet.now c.hand_one.new.from c.tickets.ensures refl refl c.payload_cost-cost.ensures c.hand_one.ensures.from)
    c.hand_one.ensures.from_in
    (gets_as c.tickets.result.now g.N.Naming.tokens r.memory r.memory 1 1 c.payload_cost-cost.result cost c.args.purse.now c.hand_one.new.to c.tickets.ensures refl refl c.payload_cost-cost.ensures c.hand_one.ensures.to)
    c.requires.places c.debug-carried.new.wallet
    (less_by (route_at c.args.net.now c.args.who c.args.payload.address) r c.hand_one.new.to c.debug-carried.new.wallet c.debug-carried.new.wallet cost here c.debug-carried.ensures.ticket)

pub returns-clause-asked : goal.returns-clause-asked
returns-clause-asked g c =
    let r = c.in-Some.route in
    let cost = payload_cost c.args.payload in
    let here = route_here c.plan.result.now c.args.net.now c.args.who c.args.payload.address c.address.result c.route.result (Some r) c.plan.ensures.plan c.address.ensures c.route.ensures c.in-Some.is in
    let left : HasSpent g.N.Naming.tokens r.memory cost c.args.wallet.now c.put_all.new.self =
    spent g.N.Naming.tokens r.memory cost c.args.wallet.now c.args.purse.now c.hand_one.new.from c.hand_one.new.to c.requires.purse
    (gives_as c.tickets.result.now g.N.Naming.tokens r.memory r.memory 1 1 c.payload_cost-cost.result cost c.args.wallet.now c.hand_one.new.from c.tickets.ensures refl refl c.payload_cost-cost.ensures c.hand_one.ensures.from)
    c.hand_one.ensures.from_in
    (gets_as c.tickets.result.now g.N.Naming.tokens r.memory r.memory 1 1 c.payload_cost-cost.result cost c.args.purse.now c.hand_one.new.to c.tickets.ensures refl refl c.payload_cost-cost.ensures c.hand_one.ensures.to)
    c.requires.places c.debug-carried.new.wallet
    (less_by (route_at c.args.net.now c.args.who c.args.payload.address) r c.hand_one.new.to c.debug-carried.new.wallet c.debug-carried.new.wallet cost here c.debug-carried.ensures.ticket)
    c.put_all.new.self (subst (λ (t : TableId). IsOf t c.put_all.new.self) c.tickets-2.ensures c.put_all.ensures.of) c.put_all.ensures.places c.put_all.ensures.left c.put_all.ensures.bytes c.put_all.ensures.full in
    asked_there g.N.Naming.tokens c.args.net.now c.args.who c.args.txn c.args.at c.args.payload c.debug-carried.result.payload c.args.note c.debug-carried.result.note c.args.wallet.now c.put_all.new.self r here
    (called_by (route_at c.args.net.now c.args.who c.args.payload.address) r c.args.net.now c.args.txn c.args.at c.args.payload c.args.note.knows c.debug-carried.result.note.knows c.debug-carried.result.payload here c.debug-carried.ensures.entry) left

pub debug-requires-clause-who : goal.debug-requires-clause-who
debug-requires-clause-who g c = c.requires.who

pub debug-requires-clause-read : goal.debug-requires-clause-read
debug-requires-clause-read g c = c.requires.read

pub debug-requires-clause-passage : goal.debug-requires-clause-passage
debug-requires-clause-passage g c = c.requires.passage

pub debug-requires-clause-note : goal.debug-requires-clause-note
debug-requires-clause-note g c = c.requires.note

pub debug-carried-requires-clause-who : goal.debug-carried-requires-clause-who
debug-carried-requires-clause-who g c = c.requires.who

pub debug-carried-requires-clause-read : goal.debug-carried-requires-clause-read
debug-carried-requires-clause-read g c = c.requires.read

pub debug-carried-requires-clause-passage : goal.debug-carried-requires-clause-passage
debug-carried-requires-clause-passage g c = c.requires.passage

pub debug-carried-requires-clause-note : goal.debug-carried-requires-clause-note
debug-carried-requires-clause-note g c = c.requires.note

pub returns-in_default-clause-room : goal.returns-in_default-clause-room
returns-in_default-clause-room g c = c.debug.ensures.room

pub returns-in_default-clause-note : goal.returns-in_default-clause-note
returns-in_default-clause-note g c = c.debug.ensures.note

pub returns-in_default-clause-knew : goal.returns-in_default-clause-knew
returns-in_default-clause-knew g c = c.debug.ensures.knew

pub returns-in_default-clause-below : goal.returns-in_default-clause-below
returns-in_default-clause-below g c = c.debug.ensures.below

pub returns-clause-room : goal.returns-clause-room
returns-clause-room g c = c.debug-carried.ensures.room

pub returns-clause-note : goal.returns-clause-note
returns-clause-note g c = c.debug-carried.ensures.note

pub returns-clause-knew : goal.returns-clause-knew
returns-clause-knew g c = c.debug-carried.ensures.knew

pub returns-clause-below : goal.returns-clause-below
returns-clause-below g c = c.debug-carried.ensures.below
