use Rattle.std.proofs.Common.{◌≡◌, All, List, length, sym, subst}
use Rattle.token_book.specs.Purse.{IsOf, Purse}
use Rattle.net_end.specs.Closed.{AreHandedBack}
use Rattle.plat_end.specs.Apart.{left_by}
use Rattle.plat_build.specs.Kept.{HasNoOthers}
use Rattle.plat_end.specs.End.{HaveAllLeft}
use Rattle.plat_end.proofs.WholeLemmas.{are_notes, wallets_no_others, wallets_of}
use Rattle.plat_run.proofs.running.end_run.Goals as goal

pub take_apart-apart-requires-clause-of : goal.take_apart-apart-requires-clause-of
take_apart-apart-requires-clause-of g c =
    let n = g.N.Naming in
    let in_all = c.args.handed in
    subst (All (IsOf n.tokens)) (sym c.deref_mut.ensures.value) (wallets_of n.table n.tokens n.frame.world (length n.frame.world.platform.initiators) in_all.ends.items in_all.wallets.items in_all.notes.items c.requires.finished)

pub take_apart-apart-requires-clause-no_others : goal.take_apart-apart-requires-clause-no_others
take_apart-apart-requires-clause-no_others g c =
    let n = g.N.Naming in
    let in_all = c.args.handed in
    subst (All (HasNoOthers n.frame.world.platform)) (sym c.deref_mut.ensures.value) (wallets_no_others n.table n.tokens n.frame.world (length n.frame.world.platform.initiators) in_all.ends.items in_all.wallets.items in_all.notes.items c.requires.finished)

pub seal-requires-clause-left : goal.seal-requires-clause-left
seal-requires-clause-left g c =
    let n = g.N.Naming in
    let in_all = c.args.handed in
    let apart = c.take_apart-apart in
    let value : c.deref_mut.result.now ≡ in_all.wallets.items = c.deref_mut.ensures.value in
    let all_left : HaveAllLeft n.table n.tokens n.frame in_all.ends.items in_all.notes.items apart.result.logs.items apart.result.stores.items apart.result.seats.items = record {
      wallets = in_all.wallets.items;
      finished = c.requires.finished;
      left = apart.ensures.left;
      logs_left = apart.ensures.logs;
      stores_are = apart.ensures.stores;
      handed_back = subst (λ (ws : List Purse). AreHandedBack n.frame apart.result.seats.items (left_by n.frame.world.platform ws)) value apart.ensures.handed_back;
    } in
    record {
      kept = in_all.notes.items;
      left = all_left;
      of = are_notes n.table n.tokens n.frame.world (length n.frame.world.platform.initiators) in_all.ends.items in_all.wallets.items in_all.notes.items c.requires.finished;
      told = λ k note at. (k, at);
    }
