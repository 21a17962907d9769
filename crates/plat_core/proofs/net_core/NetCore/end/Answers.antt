use Rattle.std.proofs.Common.{◌≡◌, All, List, [], ◌∷◌, ◌++◌, length, replicate, ap, sym, subst, ◌∙◌}
use Rattle.one_history.specs.Held.{Held}
use Rattle.token_book.specs.Purse.{IsOf, Purse}
use Rattle.tlm_types.specs.declared.entry.Content.{Content}
use Rattle.tlm_model.specs.Plan.{Plan}
use Rattle.net_end.specs.Closed.{AreHandedBack}
use Rattle.plat_end.specs.Apart.{left_by}
use Rattle.plat_build.specs.Kept.{HasNoOthers}
use Rattle.plat_end.specs.End.{HaveAllLeft}
use Rattle.plat_end.proofs.WholeLemmas.{wallets_no_others, wallets_of}
use Rattle.plat_core.specs.NetCore.{known_by}
use Rattle.plat_core.specs.NetOutcome.{HaveLeftBy, TellsOf}
use Rattle.plat_core.proofs.NetEnding.{are_finished_by, note_of_one, tells_of, told_by_one}
use Rattle.plat_core.proofs.net_core.NetCore.end.Goals as goal

pub take_apart-apart-requires-clause-of : goal.take_apart-apart-requires-clause-of
take_apart-apart-requires-clause-of g c =
    let n = g.N.Naming in
    let count = length n.frame.world.platform.initiators in
    let note = c.into_initiators-net.result.2 in
    let ends = c.hand_in.new.ends.items in
    let wallets = c.hand_in.new.wallets.items in
    let left : HaveLeftBy n.table n.tokens n.frame.world count note ends wallets = subst (λ k. HaveLeftBy n.table n.tokens n.frame.world k note ends wallets) c.into_initiators-net.ensures.count c.hand_in.ensures in
    subst (All (IsOf n.tokens)) (sym c.deref_mut.ensures.value) (wallets_of n.table n.tokens n.frame.world count ends wallets (replicate count note) (are_finished_by n.table n.tokens n.frame.world count note ends wallets left))

pub take_apart-apart-requires-clause-no_others : goal.take_apart-apart-requires-clause-no_others
take_apart-apart-requires-clause-no_others g c =
    let n = g.N.Naming in
    let count = length n.frame.world.platform.initiators in
    let note = c.into_initiators-net.result.2 in
    let ends = c.hand_in.new.ends.items in
    let wallets = c.hand_in.new.wallets.items in
    let left : HaveLeftBy n.table n.tokens n.frame.world count note ends wallets = subst (λ k. HaveLeftBy n.table n.tokens n.frame.world k note ends wallets) c.into_initiators-net.ensures.count c.hand_in.ensures in
    subst (All (HasNoOthers n.frame.world.platform)) (sym c.deref_mut.ensures.value) (wallets_no_others n.table n.tokens n.frame.world count ends wallets (replicate count note) (are_finished_by n.table n.tokens n.frame.world count note ends wallets left))

pub seal-outcome-requires-clause-left : goal.seal-outcome-requires-clause-left
seal-outcome-requires-clause-left g c =
    let n = g.N.Naming in
    let count = length n.frame.world.platform.initiators in
    let note = c.into_initiators-net.result.2 in
    let ends = c.hand_in.new.ends.items in
    let wallets = c.hand_in.new.wallets.items in
    let left : HaveLeftBy n.table n.tokens n.frame.world count note ends wallets = subst (λ k. HaveLeftBy n.table n.tokens n.frame.world k note ends wallets) c.into_initiators-net.ensures.count c.hand_in.ensures in
    let apart = c.take_apart-apart in
    let value : c.deref_mut.result.now ≡ wallets = c.deref_mut.ensures.value in
    let notes : c.push_reserved.new.self.items ≡ note ∷ [] = c.push_reserved.ensures.items ∙ ap (λ (l : List (Held Content Plan)). l ++ note ∷ []) c.requires.room.no_note in
    let all_left : HaveAllLeft n.table n.tokens n.frame ends (replicate count note) apart.result.logs.items apart.result.stores.items apart.result.seats.items = record {
      wallets = wallets;
      finished = are_finished_by n.table n.tokens n.frame.world count note ends wallets left;
      left = apart.ensures.left;
      logs_left = apart.ensures.logs;
      stores_are = apart.ensures.stores;
      handed_back = subst (λ (ws : List Purse). AreHandedBack n.frame apart.result.seats.items (left_by n.frame.world.platform ws)) value apart.ensures.handed_back;
    } in
    record {
      kept = replicate count note;
      left = all_left;
      of = note_of_one n.table note c.push_reserved.new.self.items notes c.into_initiators-net.ensures.is_note;
      told = told_by_one count note c.push_reserved.new.self.items notes;
    }

pub returns-clause-tells : goal.returns-clause-tells
returns-clause-tells g c =
    let n = g.N.Naming in
    let p = n.frame.world.platform in
    let note = c.into_initiators-net.result.2 in
    let notes : c.push_reserved.new.self.items ≡ note ∷ [] = c.push_reserved.ensures.items ∙ ap (λ (l : List (Held Content Plan)). l ++ note ∷ []) c.requires.room.no_note in
    let e = c.seal-outcome.ensures in
    subst (λ o. TellsOf p (known_by o) c.seal-outcome.result.0.history.entries) (sym c.into_initiators-net.ensures.note)
    (tells_of p note c.push_reserved.new.self.items c.seal-outcome.result.1.entries c.seal-outcome.result.0.history.entries notes e.numbered e.told e.sealed)
