use Rattle.std.proofs.Common.{ℕ, refl, ap, sym, subst}
use Rattle.atomic_table.specs.Seated.{TableId}
use Rattle.token_book.specs.Purse.{IsOf, Purse, empty_purse}
use Rattle.tlm_types.specs.declared.words.TxnId.{TxnId}
use Rattle.node_hops.specs.Steps.{HasNew, IsAccessOf}
use Rattle.dmi_grants.specs.Made.{IsRoomyFor}
use Rattle.dmi_grants.specs.Revoking.{IsRevoking}
use Rattle.port_moves.specs.Returned.{TakesAll}
use Rattle.fourphase_port.proofs.Revoked.{room_for_none}
use Rattle.fourphase_port.proofs.Closings.{close_memory, close_passage, close_tickets, close_told, closed_port, closes_on}
use Rattle.fourphase_port.proofs.closes.end_next.Goals as goal

pub end_next_grant-ending-requires-clause-memory : goal.end_next_grant-ending-requires-clause-memory
end_next_grant-ending-requires-clause-memory g c = close_memory g.N.Naming.table g.N.Naming.tokens g.N.Naming.frame c.args.state.now c.args.revocation.now c.args.note c.requires.closing

pub end_next_grant-ending-requires-clause-passage : goal.end_next_grant-ending-requires-clause-passage
end_next_grant-ending-requires-clause-passage g c = close_passage g.N.Naming.table g.N.Naming.tokens g.N.Naming.frame c.args.state.now c.args.revocation.now c.args.note c.requires.closing

pub end_next_grant-ending-requires-clause-told : goal.end_next_grant-ending-requires-clause-told
end_next_grant-ending-requires-clause-told g c = close_told g.N.Naming.table g.N.Naming.tokens g.N.Naming.frame c.args.state.now c.args.revocation.now c.args.note c.requires.closing

pub end_next_grant-ending-requires-clause-tickets : goal.end_next_grant-ending-requires-clause-tickets
end_next_grant-ending-requires-clause-tickets g c = close_tickets g.N.Naming.table g.N.Naming.tokens g.N.Naming.frame c.args.state.now c.args.revocation.now c.args.note c.requires.closing c.wallet_mut-wallet.result.now c.wallet_mut-wallet.ensures.wallet

pub end_next_grant-ending-requires-clause-wallet : goal.end_next_grant-ending-requires-clause-wallet
end_next_grant-ending-requires-clause-wallet g c = subst (IsOf g.N.Naming.tokens) (sym c.wallet_mut-wallet.ensures.wallet) c.requires.closing.wallet_of

pub end_next_grant-ending-requires-clause-room : goal.end_next_grant-ending-requires-clause-room
end_next_grant-ending-requires-clause-room g c = subst (IsRoomyFor c.args.revocation.now.memory) (sym c.wallet_mut-wallet.ensures.wallet) c.requires.closing.room

pub tidy-requires-clause-of : goal.tidy-requires-clause-of
tidy-requires-clause-of g c = subst (λ (t : TableId). IsOf t c.end_next_grant-ending.new.wallet) (sym c.tickets.ensures) c.end_next_grant-ending.ensures.wallet

pub tidy-requires-clause-room : goal.tidy-requires-clause-room
tidy-requires-clause-room g c = room_for_none c.args.revocation.now.memory c.end_next_grant-ending.new.wallet c.end_next_grant-ending.ensures.room

pub returns-in-Returned-clause-port : goal.returns-in-Returned-clause-port
returns-in-Returned-clause-port g c =
    let r = c.args.revocation.now in
    let e = c.end_next_grant-ending.ensures in
    let i = c.requires.closing in
    let back = c.end_next_grant-ending.result.1 in
    let revoking = subst (λ (w : Purse). IsRevoking g.N.Naming.frame r i.began.knows c.args.note.knows i.start w) (sym c.wallet_mut-wallet.ensures.wallet) i.revoking in
    let takes = subst (λ (t : TableId). TakesAll t c.end_next_grant-ending.new.wallet (empty_purse 1) c.tidy.new.self.wallet) c.tickets.ensures c.tidy.ensures.takes in
    λ returned. closed_port g.N.Naming.table g.N.Naming.tokens g.N.Naming.frame c.args.state.now c.args.revocation.now c.args.note c.requires.closing back e.note c.end_next_grant-ending.new.wallet c.tidy.new.self.wallet (e.all returned i.began.knows i.start revoking) takes c.tidy.new.self c.go_past.new.self c.tidy.ensures.state c.go_past.ensures

pub returns : goal.returns
returns g c =
    let r = c.args.revocation.now in
    let e = c.end_next_grant-ending.ensures in
    let i = c.requires.closing in
    let back = c.end_next_grant-ending.result.1 in
    let revoking = subst (λ (w : Purse). IsRevoking g.N.Naming.frame r i.began.knows c.args.note.knows i.start w) (sym c.wallet_mut-wallet.ensures.wallet) i.revoking in
    record {
      more = λ other. closes_on g.N.Naming.table g.N.Naming.tokens g.N.Naming.frame c.args.state.now c.args.revocation.now c.args.note c.requires.closing _ back c.end_next_grant-ending.new.wallet refl (e.more other i.began.knows i.start revoking) e.wallet e.room;
      port = λ returned. absurd (c.in_default.not-Returned returned);
      number = refl;
      adds = λ closed. subst (λ (k : ℕ). HasNew (IsAccessOf g.N.Naming.frame.world k) c.args.note.knows.known back.knows.known) (ap (λ (x : TxnId). x.initiator) i.txn) (e.adds closed);
      note = e.note;
      knew = e.keeps;
      below = e.below;
    }
