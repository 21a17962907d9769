use Rattle.std.proofs.Common.{◌≡◌, ℕ, ◌+◌, ◌-◌, ◌^◌, min, refl, ap, ◌∙◌, subst}
use Rattle.joined_traffic.specs.Accesses.{txn_of}
use Rattle.node_hops.specs.Steps.{HasNew, IsAccessOf}
use Rattle.script_engine.specs.State.{State}
use Rattle.fourphase_port.specs.Moves.{last_place}
use Rattle.fourphase_port.proofs.Closings.{closing_by, same_engine, tell_memory, tell_passage, tell_room, tell_ticket, tell_txn, tell_waits}
use Rattle.fourphase_port.proofs.closes.tell.Goals as goal

pub settle-requires-clause-hand : goal.settle-requires-clause-hand
settle-requires-clause-hand g c = c.requires.told.free

pub settle-requires-clause-free : goal.settle-requires-clause-free
settle-requires-clause-free g c = c.requires.told.alone

pub settle-requires-clause-waiting : goal.settle-requires-clause-waiting
settle-requires-clause-waiting g c = tell_waits g.N.Naming.frame.world c.args.state.now c.args.told c.requires.told

pub begin_invalidation-requires-clause-memory : goal.begin_invalidation-requires-clause-memory
begin_invalidation-requires-clause-memory g c = tell_memory g.N.Naming.table g.N.Naming.tokens g.N.Naming.frame c.args.state.now c.args.note c.requires.port c.args.told c.requires.told c.settle.new.self c.settle.ensures.settled (c.settle.ensures.port g.N.Naming.table g.N.Naming.tokens g.N.Naming.frame c.args.note c.requires.port)

pub begin_invalidation-requires-clause-passage : goal.begin_invalidation-requires-clause-passage
begin_invalidation-requires-clause-passage g c = tell_passage g.N.Naming.table g.N.Naming.tokens g.N.Naming.frame c.args.state.now c.args.note c.requires.port c.args.told c.requires.told c.settle.new.self c.settle.ensures.settled (c.settle.ensures.port g.N.Naming.table g.N.Naming.tokens g.N.Naming.frame c.args.note c.requires.port) (txn_of c.initiator-initiator.result c.args.told.seq) (tell_txn g.N.Naming.table g.N.Naming.tokens g.N.Naming.frame c.args.state.now c.args.note c.requires.port c.args.told c.requires.told c.settle.new.self c.settle.ensures.settled (c.settle.ensures.port g.N.Naming.table g.N.Naming.tokens g.N.Naming.frame c.args.note c.requires.port) c.initiator-initiator.result c.initiator-initiator.ensures)

pub begin_invalidation-requires-clause-room : goal.begin_invalidation-requires-clause-room
begin_invalidation-requires-clause-room g c = tell_room g.N.Naming.table g.N.Naming.tokens g.N.Naming.frame c.args.state.now c.args.note c.requires.port c.args.told c.requires.told c.settle.new.self c.settle.ensures.settled (c.settle.ensures.port g.N.Naming.table g.N.Naming.tokens g.N.Naming.frame c.args.note c.requires.port) c.wallet_mut-wallet.result.now c.wallet_mut-wallet.ensures.wallet

pub begin_invalidation-requires-clause-ticket : goal.begin_invalidation-requires-clause-ticket
begin_invalidation-requires-clause-ticket g c = tell_ticket g.N.Naming.table g.N.Naming.tokens g.N.Naming.frame c.args.state.now c.args.note c.requires.port c.args.told c.requires.told c.settle.new.self c.settle.ensures.settled (c.settle.ensures.port g.N.Naming.table g.N.Naming.tokens g.N.Naming.frame c.args.note c.requires.port) c.wallet_mut-wallet.result.now c.wallet_mut-wallet.ensures.wallet

pub returns-clause-closing : goal.returns-clause-closing
returns-clause-closing g c =
    let r = c.args.told.route in
    let e = c.begin_invalidation.ensures in
    let last : c.saturating_add-last.result ≡ last_place r.offset c.args.told.count = c.saturating_add-last.ensures ∙ ap (λ (k : ℕ). min (r.offset + k) (2 ^ 64 - 1)) c.saturating_sub.ensures in
    closing_by g.N.Naming.table g.N.Naming.tokens g.N.Naming.frame c.args.state.now c.args.note c.requires.port c.args.told c.requires.told c.settle.new.self c.settle.ensures.settled (c.settle.ensures.port g.N.Naming.table g.N.Naming.tokens g.N.Naming.frame c.args.note c.requires.port) _ c.begin_invalidation.new.wallet c.wallet_mut-wallet.result.now c.begin_invalidation.result.0 c.begin_invalidation.result.1 (txn_of c.initiator-initiator.result c.args.told.seq) c.time-at.result c.saturating_add-last.result
    refl c.wallet_mut-wallet.ensures.wallet (tell_txn g.N.Naming.table g.N.Naming.tokens g.N.Naming.frame c.args.state.now c.args.note c.requires.port c.args.told c.requires.told c.settle.new.self c.settle.ensures.settled (c.settle.ensures.port g.N.Naming.table g.N.Naming.tokens g.N.Naming.frame c.args.note c.requires.port) c.initiator-initiator.result c.initiator-initiator.ensures) c.time-at.ensures last e.is e.revoking e.wallet e.room

pub returns-clause-number : goal.returns-clause-number
returns-clause-number g c = same_engine g.N.Naming.table g.N.Naming.tokens g.N.Naming.frame c.args.state.now c.args.note c.requires.port c.args.told c.requires.told c.settle.new.self c.settle.ensures.settled (c.settle.ensures.port g.N.Naming.table g.N.Naming.tokens g.N.Naming.frame c.args.note c.requires.port)

pub returns-clause-adds : goal.returns-clause-adds
returns-clause-adds g c =
    subst (λ (k : ℕ). HasNew (IsAccessOf g.N.Naming.frame.world k) c.args.note.knows.known c.begin_invalidation.result.1.knows.known) (c.initiator-initiator.ensures ∙ ap (λ (e : State). e.initiator) (same_engine g.N.Naming.table g.N.Naming.tokens g.N.Naming.frame c.args.state.now c.args.note c.requires.port c.args.told c.requires.told c.settle.new.self c.settle.ensures.settled (c.settle.ensures.port g.N.Naming.table g.N.Naming.tokens g.N.Naming.frame c.args.note c.requires.port)))
    (c.begin_invalidation.ensures.adds c.requires.port.below)
