use Rattle.std.proofs.Common.{◌<◌, ◌≤◌, ℕ, sym, ap, ◌∙◌, subst}
use Rattle.token_book.specs.Purse.{bytes_of, left_of}
use Rattle.region_object.specs.Call.{payload_cost}
use Rattle.joined_traffic.specs.Accesses.{txn_of}
use Rattle.port_moves.specs.State.{StateView}
use Rattle.fourphase_port.proofs.Reading.{after_steps, asked_as, filled_is, filled_state, low_for, moved_as, no_passage_for, read_as, read_new, reads_as, room_back, room_then, seq_is, ticket_for}
use Rattle.fourphase_port.proofs.onwards.read.Goals as goal

pub route-requires : goal.route-requires
route-requires g c = low_for g.N.Naming.table g.N.Naming.tokens g.N.Naming.frame c.args.state.now c.args.note c.requires.port c.args.transfer c.requires.next c.requires.settled c.requires.kind c.plan.result.now c.initiator-initiator.result (c.plan.ensures.plan ∙ c.plan.ensures.world) c.initiator-initiator.ensures

pub ask-payload-requires-clause-who : goal.ask-payload-requires-clause-who
ask-payload-requires-clause-who g c = low_for g.N.Naming.table g.N.Naming.tokens g.N.Naming.frame c.args.state.now c.args.note c.requires.port c.args.transfer c.requires.next c.requires.settled c.requires.kind c.args.net.now c.initiator-initiator.result c.plan.ensures.world c.initiator-initiator.ensures

pub ask-payload-requires-clause-passage : goal.ask-payload-requires-clause-passage
ask-payload-requires-clause-passage g c = no_passage_for g.N.Naming.table g.N.Naming.tokens g.N.Naming.frame c.args.state.now c.args.note c.requires.port c.args.transfer c.requires.next c.requires.settled c.requires.kind c.args.net.now (txn_of c.initiator-initiator.result c.args.transfer.seq) c.plan.ensures.world (ap (λ (k : ℕ). txn_of k c.args.transfer.seq) c.initiator-initiator.ensures ∙ ap (txn_of c.args.state.now.port.engine.initiator) (seq_is g.N.Naming.table g.N.Naming.tokens g.N.Naming.frame c.args.state.now c.args.note c.requires.port c.args.transfer c.requires.next c.requires.settled c.requires.kind))

pub ask-payload-requires-clause-ticket : goal.ask-payload-requires-clause-ticket
ask-payload-requires-clause-ticket g c = λ r here. subst (λ (t : StateView). (0 < left_of t.wallet r.memory) × (payload_cost c.fill.new.payload ≤ bytes_of t.wallet r.memory)) (sym c.take_payload-payload.ensures.state)
    (ticket_for g.N.Naming.table g.N.Naming.tokens g.N.Naming.frame c.args.state.now c.args.note c.requires.port c.args.transfer c.requires.next c.requires.settled c.requires.kind c.args.net.now c.initiator-initiator.result c.fill.new.payload c.plan.ensures.world c.initiator-initiator.ensures (filled_is g.N.Naming.table g.N.Naming.tokens g.N.Naming.frame c.args.state.now c.args.note c.requires.port c.args.transfer c.requires.next c.requires.settled c.requires.kind c.take_payload-payload.new.self c.take_payload-payload.result c.fill.new.payload c.take_payload-payload.ensures.state c.take_payload-payload.ensures.payload c.fill.ensures) r here)

pub note_read-requires-clause-initiator : goal.note_read-requires-clause-initiator
note_read-requires-clause-initiator g c = low_for g.N.Naming.table g.N.Naming.tokens g.N.Naming.frame c.args.state.now c.args.note c.requires.port c.args.transfer c.requires.next c.requires.settled c.requires.kind c.plan-2.result.now c.put_payload.new.self.port.engine.initiator (c.plan-2.ensures.plan ∙ c.plan-2.ensures.world) (ap (λ (t : StateView). t.port.engine.initiator) (filled_state g.N.Naming.table g.N.Naming.tokens g.N.Naming.frame c.args.state.now c.args.note c.requires.port c.args.transfer c.requires.next c.requires.settled c.requires.kind c.take_payload-payload.new.self c.ask-payload.new.self c.put_payload.new.self c.ask-payload.result.payload c.ask-payload.new.self.wallet c.take_payload-payload.ensures.state c.ask-payload.ensures.state c.put_payload.ensures))

pub note_read-requires-clause-room : goal.note_read-requires-clause-room
note_read-requires-clause-room g c = room_then g.N.Naming.table g.N.Naming.tokens g.N.Naming.frame c.args.state.now c.args.note c.requires.port c.args.transfer c.requires.next c.requires.settled c.requires.kind c.put_payload.new.self c.ask-payload.result.payload c.ask-payload.new.self.wallet (filled_state g.N.Naming.table g.N.Naming.tokens g.N.Naming.frame c.args.state.now c.args.note c.requires.port c.args.transfer c.requires.next c.requires.settled c.requires.kind c.take_payload-payload.new.self c.ask-payload.new.self c.put_payload.new.self c.ask-payload.result.payload c.ask-payload.new.self.wallet c.take_payload-payload.ensures.state c.ask-payload.ensures.state c.put_payload.ensures)

pub returns-clause-port : goal.returns-clause-port
returns-clause-port g c = read_as g.N.Naming.table g.N.Naming.tokens g.N.Naming.frame c.args.state.now c.args.note c.requires.port c.args.transfer c.requires.next c.requires.settled c.requires.kind c.ask-payload.result.note c.ask-payload.ensures.note c.ask-payload.ensures.knew (c.ask-payload.ensures.below c.requires.port.below) c.ask-payload.result.payload c.ask-payload.new.self.wallet
    (asked_as g.N.Naming.table g.N.Naming.tokens g.N.Naming.frame c.args.state.now c.args.note c.requires.port c.args.transfer c.requires.next c.requires.settled c.requires.kind c.args.net.now c.initiator-initiator.result (txn_of c.initiator-initiator.result c.args.transfer.seq) c.take_payload-payload.new.self.port.time c.fill.new.payload c.ask-payload.result.payload c.ask-payload.result.note c.take_payload-payload.new.self.wallet c.ask-payload.new.self.wallet c.plan.ensures.world c.initiator-initiator.ensures (ap (λ (k : ℕ). txn_of k c.args.transfer.seq) c.initiator-initiator.ensures ∙ ap (txn_of c.args.state.now.port.engine.initiator) (seq_is g.N.Naming.table g.N.Naming.tokens g.N.Naming.frame c.args.state.now c.args.note c.requires.port c.args.transfer c.requires.next c.requires.settled c.requires.kind))
    (ap (λ (t : StateView). t.port.time) c.take_payload-payload.ensures.state) (filled_is g.N.Naming.table g.N.Naming.tokens g.N.Naming.frame c.args.state.now c.args.note c.requires.port c.args.transfer c.requires.next c.requires.settled c.requires.kind c.take_payload-payload.new.self c.take_payload-payload.result c.fill.new.payload c.take_payload-payload.ensures.state c.take_payload-payload.ensures.payload c.fill.ensures) (ap (λ (t : StateView). t.wallet) c.take_payload-payload.ensures.state) c.ask-payload.ensures.asked)
    c.requires.free.0 (room_back g.N.Naming.table g.N.Naming.tokens g.N.Naming.frame c.args.state.now c.args.note c.requires.port c.args.transfer c.requires.next c.requires.settled c.requires.kind c.ask-payload.result.payload c.fill.new.payload (filled_is g.N.Naming.table g.N.Naming.tokens g.N.Naming.frame c.args.state.now c.args.note c.requires.port c.args.transfer c.requires.next c.requires.settled c.requires.kind c.take_payload-payload.new.self c.take_payload-payload.result c.fill.new.payload c.take_payload-payload.ensures.state c.take_payload-payload.ensures.payload c.fill.ensures) c.ask-payload.ensures.room) c.note_read.new.self
    (after_steps g.N.Naming.table g.N.Naming.tokens g.N.Naming.frame c.args.state.now c.args.note c.requires.port c.args.transfer c.requires.next c.requires.settled c.requires.kind c.plan-2.result.now (c.plan-2.ensures.plan ∙ c.plan-2.ensures.world) c.take_payload-payload.new.self c.ask-payload.new.self c.put_payload.new.self c.note_read.new.self c.ask-payload.result.payload c.ask-payload.new.self.wallet c.take_payload-payload.ensures.state c.ask-payload.ensures.state c.put_payload.ensures c.note_read.ensures)

pub returns-clause-read : goal.returns-clause-read
returns-clause-read g c = reads_as g.N.Naming.table g.N.Naming.tokens g.N.Naming.frame c.args.state.now c.args.note c.requires.port c.args.transfer c.requires.next c.requires.settled c.requires.kind c.ask-payload.result.note c.ask-payload.ensures.note c.ask-payload.ensures.knew (c.ask-payload.ensures.below c.requires.port.below) c.ask-payload.result.payload c.ask-payload.new.self.wallet
    (asked_as g.N.Naming.table g.N.Naming.tokens g.N.Naming.frame c.args.state.now c.args.note c.requires.port c.args.transfer c.requires.next c.requires.settled c.requires.kind c.args.net.now c.initiator-initiator.result (txn_of c.initiator-initiator.result c.args.transfer.seq) c.take_payload-payload.new.self.port.time c.fill.new.payload c.ask-payload.result.payload c.ask-payload.result.note c.take_payload-payload.new.self.wallet c.ask-payload.new.self.wallet c.plan.ensures.world c.initiator-initiator.ensures (ap (λ (k : ℕ). txn_of k c.args.transfer.seq) c.initiator-initiator.ensures ∙ ap (txn_of c.args.state.now.port.engine.initiator) (seq_is g.N.Naming.table g.N.Naming.tokens g.N.Naming.frame c.args.state.now c.args.note c.requires.port c.args.transfer c.requires.next c.requires.settled c.requires.kind))
    (ap (λ (t : StateView). t.port.time) c.take_payload-payload.ensures.state) (filled_is g.N.Naming.table g.N.Naming.tokens g.N.Naming.frame c.args.state.now c.args.note c.requires.port c.args.transfer c.requires.next c.requires.settled c.requires.kind c.take_payload-payload.new.self c.take_payload-payload.result c.fill.new.payload c.take_payload-payload.ensures.state c.take_payload-payload.ensures.payload c.fill.ensures) (ap (λ (t : StateView). t.wallet) c.take_payload-payload.ensures.state) c.ask-payload.ensures.asked)
    c.requires.free.0 (room_back g.N.Naming.table g.N.Naming.tokens g.N.Naming.frame c.args.state.now c.args.note c.requires.port c.args.transfer c.requires.next c.requires.settled c.requires.kind c.ask-payload.result.payload c.fill.new.payload (filled_is g.N.Naming.table g.N.Naming.tokens g.N.Naming.frame c.args.state.now c.args.note c.requires.port c.args.transfer c.requires.next c.requires.settled c.requires.kind c.take_payload-payload.new.self c.take_payload-payload.result c.fill.new.payload c.take_payload-payload.ensures.state c.take_payload-payload.ensures.payload c.fill.ensures) c.ask-payload.ensures.room) c.note_read.new.self
    (after_steps g.N.Naming.table g.N.Naming.tokens g.N.Naming.frame c.args.state.now c.args.note c.requires.port c.args.transfer c.requires.next c.requires.settled c.requires.kind c.plan-2.result.now (c.plan-2.ensures.plan ∙ c.plan-2.ensures.world) c.take_payload-payload.new.self c.ask-payload.new.self c.put_payload.new.self c.note_read.new.self c.ask-payload.result.payload c.ask-payload.new.self.wallet c.take_payload-payload.ensures.state c.ask-payload.ensures.state c.put_payload.ensures c.note_read.ensures)

pub returns-clause-moved : goal.returns-clause-moved
returns-clause-moved g c = moved_as g.N.Naming.table g.N.Naming.tokens g.N.Naming.frame c.args.state.now c.args.note c.requires.port c.args.transfer c.requires.next c.requires.settled c.requires.kind c.plan.result.now c.initiator-initiator.result c.route.result c.is_some-routed.result c.ends.result (c.plan.ensures.plan ∙ c.plan.ensures.world)
    c.initiator-initiator.ensures c.route.ensures c.is_some-routed.ensures c.ends.ensures

pub returns-clause-adds : goal.returns-clause-adds
returns-clause-adds g c = λ entry. read_new g.N.Naming.table g.N.Naming.tokens g.N.Naming.frame c.args.state.now c.args.note c.requires.port c.args.transfer c.requires.next c.requires.settled c.requires.kind c.ask-payload.result.note c.ask-payload.ensures.note c.ask-payload.ensures.knew (c.ask-payload.ensures.below c.requires.port.below) c.ask-payload.result.payload c.ask-payload.new.self.wallet
    (asked_as g.N.Naming.table g.N.Naming.tokens g.N.Naming.frame c.args.state.now c.args.note c.requires.port c.args.transfer c.requires.next c.requires.settled c.requires.kind c.args.net.now c.initiator-initiator.result (txn_of c.initiator-initiator.result c.args.transfer.seq) c.take_payload-payload.new.self.port.time c.fill.new.payload c.ask-payload.result.payload c.ask-payload.result.note c.take_payload-payload.new.self.wallet c.ask-payload.new.self.wallet c.plan.ensures.world c.initiator-initiator.ensures (ap (λ (k : ℕ). txn_of k c.args.transfer.seq) c.initiator-initiator.ensures ∙ ap (txn_of c.args.state.now.port.engine.initiator) (seq_is g.N.Naming.table g.N.Naming.tokens g.N.Naming.frame c.args.state.now c.args.note c.requires.port c.args.transfer c.requires.next c.requires.settled c.requires.kind))
    (ap (λ (t : StateView). t.port.time) c.take_payload-payload.ensures.state) (filled_is g.N.Naming.table g.N.Naming.tokens g.N.Naming.frame c.args.state.now c.args.note c.requires.port c.args.transfer c.requires.next c.requires.settled c.requires.kind c.take_payload-payload.new.self c.take_payload-payload.result c.fill.new.payload c.take_payload-payload.ensures.state c.take_payload-payload.ensures.payload c.fill.ensures) (ap (λ (t : StateView). t.wallet) c.take_payload-payload.ensures.state) c.ask-payload.ensures.asked)
    c.requires.free.0 (room_back g.N.Naming.table g.N.Naming.tokens g.N.Naming.frame c.args.state.now c.args.note c.requires.port c.args.transfer c.requires.next c.requires.settled c.requires.kind c.ask-payload.result.payload c.fill.new.payload (filled_is g.N.Naming.table g.N.Naming.tokens g.N.Naming.frame c.args.state.now c.args.note c.requires.port c.args.transfer c.requires.next c.requires.settled c.requires.kind c.take_payload-payload.new.self c.take_payload-payload.result c.fill.new.payload c.take_payload-payload.ensures.state c.take_payload-payload.ensures.payload c.fill.ensures) c.ask-payload.ensures.room) c.ends.result
    (moved_as g.N.Naming.table g.N.Naming.tokens g.N.Naming.frame c.args.state.now c.args.note c.requires.port c.args.transfer c.requires.next c.requires.settled c.requires.kind c.plan.result.now c.initiator-initiator.result c.route.result c.is_some-routed.result c.ends.result (c.plan.ensures.plan ∙ c.plan.ensures.world) c.initiator-initiator.ensures c.route.ensures c.is_some-routed.ensures c.ends.ensures c.args.transfer c.requires.next) entry
