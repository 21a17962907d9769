use Rattle.std.proofs.Common.{ℕ, ◌<◌, ◌^◌, subst, sym}
use Rattle.std.proofs.lemmas.List.Elements.{All-same}
use Rattle.std.specs.Prelude.{All}
use Rattle.atomic_table.specs.Seated.{TableId}
use Rattle.token_book.specs.Purse.{IsOf}
use Rattle.tlm_types.specs.declared.entry.Entry.{Entry}
use Rattle.plat_end.specs.Taking.{HaveSameBut}
use Rattle.plat_end.proofs.TicketLemmas.{paid_by}
use Rattle.plat_end.proofs.PartLemmas.{hop_left}
use Rattle.plat_end.proofs.parts.hop_part.Goals as goal

pub returns-clause-left : goal.returns-clause-left
returns-clause-left g c =
    let n = g.N.Naming in
    let e = c.into_parts-hop.ensures in
    hop_left n.table n.tokens n.frame c.args.hop c.into_parts-hop.result.1 c.into_parts-hop.result.0 c.into_log.result c.requires.numbers e.built e.seat c.log.ensures.follows (All-same (λ (x : Entry). x.time < 2 ^ 64) _ _ (sym c.log.ensures.entries) c.len.ensures.timed) c.into_log.ensures.entries

pub returns-clause-paid : goal.returns-clause-paid
returns-clause-paid g c =
    let n = g.N.Naming in
    let e = c.into_parts-hop.ensures in
    paid_by n.table n.tokens n.frame c.args.hop.number _ _ _ c.into_parts-hop.result.1 c.into_parts-hop.result.2 c.args.wallets.now e.seat e.planned e.book c.hand_back_all.ensures.few

pub returns-clause-others : goal.returns-clause-others
returns-clause-others g c = subst (λ (k : ℕ). HaveSameBut k c.args.wallets.now c.hand_back_all.new.wallets) c.into_parts-hop.ensures.book.owner c.hand_back_all.ensures.others

pub hand_back_all-requires-clause-of : goal.hand_back_all-requires-clause-of
hand_back_all-requires-clause-of g c = subst (λ (t : TableId). All (IsOf t) c.args.wallets.now) (sym c.requires.tickets) c.requires.of

pub returns-clause-of : goal.returns-clause-of
returns-clause-of g c = subst (λ (t : TableId). All (IsOf t) c.hand_back_all.new.wallets) c.requires.tickets c.hand_back_all.ensures.of
