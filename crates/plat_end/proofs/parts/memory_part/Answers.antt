use Rattle.std.proofs.Common.{ℕ, ◌<◌, ◌^◌, ap, subst, sym}
use Rattle.std.proofs.lemmas.List.Elements.{All-same}
use Rattle.entry_log.specs.Log.{LogView}
use Rattle.std.specs.Prelude.{All}
use Rattle.atomic_table.specs.Seated.{TableId}
use Rattle.token_book.specs.Purse.{IsOf}
use Rattle.tlm_types.specs.declared.entry.Entry.{Entry}
use Rattle.plat_end.specs.Taking.{HaveSameBut}
use Rattle.plat_end.proofs.TicketLemmas.{paid_by}
use Rattle.plat_end.proofs.PartLemmas.{memory_bytes, memory_left}
use Rattle.plat_end.proofs.parts.memory_part.Goals as goal

pub returns-clause-left : goal.returns-clause-left
returns-clause-left g c =
    let n = g.N.Naming in
    let e = c.into_parts-region.ensures in
    let parts = c.into_parts-log.ensures in
    memory_left n.table n.tokens n.frame c.args.memory c.into_parts-region.result.1 c.into_parts-region.result.0 c.requires.numbers e.built c.into_parts-log.result.0 parts.log e.seat parts.lawful c.log.ensures.granted c.log.ensures.own (All-same (λ (x : Entry). x.time < 2 ^ 64) _ _ (sym (ap (λ (l : LogView). l.entries) c.log.ensures.log)) c.len.ensures.timed)

pub returns-clause-bytes : goal.returns-clause-bytes
returns-clause-bytes g c =
    let n = g.N.Naming in
    let e = c.into_parts-region.ensures in
    let parts = c.into_parts-log.ensures in
    memory_bytes n.table n.tokens n.frame c.args.memory c.into_parts-region.result.1 c.into_parts-region.result.0 c.requires.numbers e.built c.into_parts-log.result.0 c.into_parts-log.result.1 parts.log parts.bytes

pub returns-clause-paid : goal.returns-clause-paid
returns-clause-paid g c =
    let n = g.N.Naming in
    let e = c.into_parts-region.ensures in
    paid_by n.table n.tokens n.frame c.args.memory.number _ _ _ c.into_parts-region.result.1 c.into_parts-region.result.2 c.args.wallets.now e.seat e.planned e.book c.hand_back_all.ensures.few

pub returns-clause-others : goal.returns-clause-others
returns-clause-others g c = subst (λ (k : ℕ). HaveSameBut k c.args.wallets.now c.hand_back_all.new.wallets) c.into_parts-region.ensures.book.owner c.hand_back_all.ensures.others

pub hand_back_all-requires-clause-of : goal.hand_back_all-requires-clause-of
hand_back_all-requires-clause-of g c = subst (λ (t : TableId). All (IsOf t) c.args.wallets.now) (sym c.requires.tickets) c.requires.of

pub returns-clause-of : goal.returns-clause-of
returns-clause-of g c = subst (λ (t : TableId). All (IsOf t) c.hand_back_all.new.wallets) c.requires.tickets c.hand_back_all.ensures.of
