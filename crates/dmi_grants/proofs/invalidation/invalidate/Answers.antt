use Rattle.std.proofs.Common.{◌<◌, ℕ, length, sym, ap, subst, arith}
use Rattle.shared_object.specs.Written.{written_at}
use Rattle.token_book.specs.Purse.{left_of}
use Rattle.tlm_types.specs.declared.words.TxnId.{TxnId}
use Rattle.plat_net.specs.Calls.{HasNoPassage}
use Rattle.dmi_grants.specs.declared.invalidation.Revocation.{Revocation}
use Rattle.dmi_grants.specs.Made.{IsRoomyFor, unclosed}
use Rattle.dmi_grants.specs.Revoking.{HasRevoked}
use Rattle.dmi_grants.proofs.Revoking.{revoking_can_pay, revoking_is_told}
use Rattle.dmi_grants.proofs.invalidation.invalidate.Goals as goal

pub begin_invalidation-now-requires-clause-memory : goal.begin_invalidation-now-requires-clause-memory
begin_invalidation-now-requires-clause-memory g c = c.requires.memory

pub begin_invalidation-now-requires-clause-passage : goal.begin_invalidation-now-requires-clause-passage
begin_invalidation-now-requires-clause-passage g c = c.requires.passage

pub begin_invalidation-now-requires-clause-note : goal.begin_invalidation-now-requires-clause-note
begin_invalidation-now-requires-clause-note g c = c.requires.note

pub begin_invalidation-now-requires-clause-wallet : goal.begin_invalidation-now-requires-clause-wallet
begin_invalidation-now-requires-clause-wallet g c = c.requires.wallet

pub begin_invalidation-now-requires-clause-room : goal.begin_invalidation-now-requires-clause-room
begin_invalidation-now-requires-clause-room g c = c.requires.room

pub begin_invalidation-now-requires-clause-ticket : goal.begin_invalidation-now-requires-clause-ticket
begin_invalidation-now-requires-clause-ticket g c = let few = c.requires.tickets in omega arith

pub loop-init : goal.loop-init
loop-init g c =
    let begun = c.begin_invalidation-now in
    record {
      can = tt;
      finite = tt;
      note = begun.ensures.note;
      wallet = begun.ensures.wallet;
      room = subst (λ (n : ℕ). IsRoomyFor n begun.new.wallet) (sym (ap (λ (x : Revocation). x.memory) begun.ensures.is)) begun.ensures.room;
      rooms = begun.ensures.rooms;
      revoking = begun.ensures.revoking;
    }

pub loop-preserved : goal.loop-preserved
loop-preserved g c =
    let i = c.loop.invariant in
    let e = c.end_next_grant-ending in
    record {
      can = tt;
      finite = tt;
      note = e.ensures.note;
      wallet = e.ensures.wallet;
      room = e.ensures.room;
      rooms = λ k room. e.ensures.rooms k (i.rooms k room);
      revoking = e.ensures.more c.in_default.not-Returned c.args.note.knows c.args.wallet.now i.revoking;
    }

pub end_next_grant-ending-requires-clause-memory : goal.end_next_grant-ending-requires-clause-memory
end_next_grant-ending-requires-clause-memory g c =
    subst (λ (n : ℕ). n < length g.N.Naming.frame.world.platform.memories) (sym (ap (λ (x : Revocation). x.memory) c.begin_invalidation-now.ensures.is)) c.requires.memory

pub end_next_grant-ending-requires-clause-passage : goal.end_next_grant-ending-requires-clause-passage
end_next_grant-ending-requires-clause-passage g c =
    subst (λ (x : TxnId). HasNoPassage g.N.Naming.frame.world x) (sym (ap (λ (x : Revocation). x.txn) c.begin_invalidation-now.ensures.is)) c.requires.passage

pub end_next_grant-ending-requires-clause-note : goal.end_next_grant-ending-requires-clause-note
end_next_grant-ending-requires-clause-note g c = c.loop.invariant.note

pub end_next_grant-ending-requires-clause-told : goal.end_next_grant-ending-requires-clause-told
end_next_grant-ending-requires-clause-told g c =
    (revoking_is_told g.N.Naming.frame c.begin_invalidation-now.result.0 c.args.note.knows c.loop.now.knows c.args.wallet.now c.loop.wallet c.loop.invariant.revoking).1

pub end_next_grant-ending-requires-clause-wallet : goal.end_next_grant-ending-requires-clause-wallet
end_next_grant-ending-requires-clause-wallet g c = c.loop.invariant.wallet

pub end_next_grant-ending-requires-clause-room : goal.end_next_grant-ending-requires-clause-room
end_next_grant-ending-requires-clause-room g c = c.loop.invariant.room

pub end_next_grant-ending-requires-clause-tickets : goal.end_next_grant-ending-requires-clause-tickets
end_next_grant-ending-requires-clause-tickets g c =
    let frame = g.N.Naming.frame in
    let before = c.args.note.knows in
    let few = subst (λ (n : ℕ). unclosed frame.world n (written_at n before.known) < left_of c.args.wallet.now n) (sym (ap (λ (x : Revocation). x.memory) c.begin_invalidation-now.ensures.is)) c.requires.tickets in
    revoking_can_pay frame c.begin_invalidation-now.result.0 before c.loop.now.knows c.args.wallet.now c.loop.wallet few c.loop.invariant.revoking

pub returns-in-Returned-clause-invalidated : goal.returns-in-Returned-clause-invalidated
returns-in-Returned-clause-invalidated g c =
    let e = c.end_next_grant-ending in
    subst (λ (x : Revocation). HasRevoked g.N.Naming.frame x c.args.note.knows e.result.1.knows c.args.wallet.now e.new.wallet) c.begin_invalidation-now.ensures.is
    (e.ensures.all c.in-Returned.is c.args.note.knows c.args.wallet.now c.loop.invariant.revoking)

pub returns-in-Returned-clause-note : goal.returns-in-Returned-clause-note
returns-in-Returned-clause-note g c = c.end_next_grant-ending.ensures.note

pub returns-in-Returned-clause-wallet : goal.returns-in-Returned-clause-wallet
returns-in-Returned-clause-wallet g c = c.end_next_grant-ending.ensures.wallet

pub returns-in-Returned-clause-room : goal.returns-in-Returned-clause-room
returns-in-Returned-clause-room g c = subst (λ (n : ℕ). IsRoomyFor n c.end_next_grant-ending.new.wallet) (ap (λ (x : Revocation). x.memory) c.begin_invalidation-now.ensures.is) c.end_next_grant-ending.ensures.room

pub returns-in-Returned-clause-rooms : goal.returns-in-Returned-clause-rooms
returns-in-Returned-clause-rooms g c = λ k room. c.end_next_grant-ending.ensures.rooms k (c.loop.invariant.rooms k room)
