use Rattle.std.proofs.Common.{◌≡◌, ◌<◌, ◌∷◌, ◌++◌, suc, length, take, drop, sym, ap, ◌∙◌}
use Rattle.std.proofs.lemmas.List.{set_split}
use Rattle.hop_object.specs.declared.lane.Lane.{Lane}
use Rattle.hop_object.specs.Lanes.{step_lane}
use Rattle.hop_object.proofs.Places.{split_at, read_twice}
use Rattle.hop_object.proofs.lane.change.Goals as goal

pub returns-clause-lanes : goal.returns-clause-lanes
returns-clause-lanes g c = λ lane e.
    let xs = c.args.lanes.now.items in
    let i = c.args.index in
    let h : i < length xs = c.requires in
    let same : c.index_mut-lane.result.now ≡ lane = read_twice xs i c.index_mut-lane.result.now lane h c.index_mut-lane.ensures.value e in
    record {
      here = split_at xs i lane h ∙ ap (λ (l : Lane g.row.T.Denot). take i xs ++ l ∷ drop (suc i) xs) (sym e);
      after = rw (c.replace.ensures.after, same) (set_split xs i (step_lane lane c.args.state c.args.last c.args.latest c.args.item) h);
      carried = c.replace.ensures.value ∙ ap (λ (l : Lane g.row.T.Denot). l.item) same;
    }
