use Rattle.std.proofs.Common.{◌≡◌, ◌∙◌, ap, sym}
use Rattle.std.specs.Prelude.{slice_get}
use Rattle.run_outcome.specs.Places.{MergedView}
use Rattle.run_outcome.proofs.ListLemmas.{has_element}
use Rattle.store_replay.proofs.StoreLemmas.{gone_more}
use Rattle.store_replay.proofs.replay.replay_all.Goals as goal

pub loop-position-preserved : goal.loop-position-preserved
loop-position-preserved c =
    let h = c.args.history.now.entries in
    let k = c.loop-position.position in
    let e = has_element c.at-index.result.0.now.entries c.at-index.result.1 c.at-index.ensures.within in
    let at = sym c.at-index.ensures.same ∙ e.at in
    let same : c.loop-position.reader.entries ≡ h = ap (λ (v : MergedView). v.entries) c.loop-position.invariant.1 in
    let there = ap (λ (l : _). slice_get l k) (sym same) ∙ at in (
      gone_more h k e.element c.args.stores.now.items c.loop-position.stores.items c.replay_entry.new.stores.items there c.loop-position.invariant.0 (c.replay_entry.ensures e.element e.at),
      c.at-index.ensures.entries ∙ c.loop-position.invariant.1,
    )
