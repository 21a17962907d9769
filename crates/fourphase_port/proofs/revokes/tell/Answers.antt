use Rattle.std.proofs.Common.{◌≡◌, ℕ, ◌+◌, ◌-◌, ◌^◌, min, ap, ◌∙◌, subst}
use Rattle.atomic_table.specs.Seated.{TableId}
use Rattle.token_book.specs.Purse.{Purse, empty_purse}
use Rattle.dmi_grants.specs.Invalidating.{HasInvalidated}
use Rattle.port_moves.specs.Returned.{TakesAll}
use Rattle.fourphase_port.specs.Moves.{last_place}
use Rattle.fourphase_port.proofs.Revoked.{room_for_none}
use Rattle.fourphase_port.proofs.revokes.tell.Goals as goal

pub tidy-requires-clause-room : goal.tidy-requires-clause-room
tidy-requires-clause-room g c = room_for_none c.args.route.memory c.invalidate-note.new.wallet c.invalidate-note.ensures.room

pub returns-clause-revoked : goal.returns-clause-revoked
returns-clause-revoked g c =
    let r = c.args.route in
    let spent = c.invalidate-note.new.wallet in
    let last : c.saturating_add-last.result ≡ last_place r.offset c.args.count = c.saturating_add-last.ensures ∙ ap (λ (k : ℕ). min (r.offset + k) (2 ^ 64 - 1)) c.saturating_sub.ensures in
    record {
      spent = spent;
      called = subst (λ (w : Purse). HasInvalidated g.N.Naming.frame r.memory c.args.txn c.args.state.now.port.time r.offset (last_place r.offset c.args.count) c.args.note.knows c.invalidate-note.result.knows w spent) c.wallet_mut-wallet.ensures.wallet
          (subst (λ (t : ℕ). HasInvalidated g.N.Naming.frame r.memory c.args.txn t r.offset (last_place r.offset c.args.count) c.args.note.knows c.invalidate-note.result.knows c.wallet_mut-wallet.result.now spent) c.time-at.ensures
          (subst (λ (k : ℕ). HasInvalidated g.N.Naming.frame r.memory c.args.txn c.time-at.result r.offset k c.args.note.knows c.invalidate-note.result.knows c.wallet_mut-wallet.result.now spent) last c.invalidate-note.ensures.invalidated));
      takes = subst (λ (t : TableId). TakesAll t spent (empty_purse 1) c.tidy.new.self.wallet) c.tickets.ensures c.tidy.ensures.takes;
    }

pub returns-clause-knew : goal.returns-clause-knew
returns-clause-knew g c = let d = c.invalidate-note.ensures.invalidated in λ e has. d.all.last_look.enters.knew e (d.all.ended.keeps e (d.made.enters.knew e has))
