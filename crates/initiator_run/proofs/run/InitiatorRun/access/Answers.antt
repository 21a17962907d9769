use Rattle.std.proofs.Common.{◌≤◌, ℕ, ap, subst, sym, ◌∙◌}
use Rattle.quantum_keeper.specs.Keeper.{current_time}
use Rattle.region_object.specs.Call.{payload_cost}
use Rattle.initiator_run.specs.Access.{call_at}
use Rattle.initiator_run.specs.Run.{Run}
use Rattle.initiator_run.proofs.SendLemmas.{call_is_next, call_is_sent, next_call_fits}
use Rattle.initiator_run.proofs.run.InitiatorRun.access.Goals as goal

pub send-requires-clause-fit : goal.send-requires-clause-fit
send-requires-clause-fit c =
    let next = c.args.next.now in
    let call = call_at next.transfer.kind c.next_txn-txn.result c.current-time.result next.route.before c.fill.new.payload in
    let same = call_is_next c.args.self.now next c.next_txn-txn.result c.current-time.result c.fill.new.payload c.next_txn-txn.ensures (c.current-time.ensures ∙ ap (λ (r : Run). current_time r.keeper) c.self.view_is) c.fill.ensures in
    next_call_fits c.args.self.now next.transfer next.route call same c.requires.next

pub send-requires-clause-room_bytes : goal.send-requires-clause-room_bytes
send-requires-clause-room_bytes c = subst (λ (n : ℕ). n ≤ c.args.region.now.log.room_bytes) (ap payload_cost (sym c.fill.ensures)) c.requires.room_bytes

pub complete-requires-clause-whole : goal.complete-requires-clause-whole
complete-requires-clause-whole c =
    let next = c.args.next.now in
    let call = call_at next.transfer.kind c.next_txn-txn.result c.current-time.result next.route.before c.fill.new.payload in
    let same = call_is_next c.args.self.now next c.next_txn-txn.result c.current-time.result c.fill.new.payload c.next_txn-txn.ensures (c.current-time.ensures ∙ ap (λ (r : Run). current_time r.keeper) c.self.view_is) c.fill.ensures in
    (call_is_sent c.args.self.now next.transfer c.args.region.now c.send.new.region next.route c.args.position call c.send.new.payload c.requires.next same c.send.ensures.memory c.send.ensures.payload).whole

pub returns : goal.returns
returns c =
    let next = c.args.next.now in
    let call = call_at next.transfer.kind c.next_txn-txn.result c.current-time.result next.route.before c.fill.new.payload in
    let same = call_is_next c.args.self.now next c.next_txn-txn.result c.current-time.result c.fill.new.payload c.next_txn-txn.ensures (c.current-time.ensures ∙ ap (λ (r : Run). current_time r.keeper) c.self.view_is) c.fill.ensures in
    let sent = call_is_sent c.args.self.now next.transfer c.args.region.now c.send.new.region next.route c.args.position call c.send.new.payload c.requires.next same c.send.ensures.memory c.send.ensures.payload in
    record { run = c.complete.ensures; memory = sent.logged; told = sent.bytes; roomy = sent.room }
