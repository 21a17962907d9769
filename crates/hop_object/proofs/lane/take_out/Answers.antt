use Rattle.std.proofs.Common.{◌≡◌, ◌<◌, ◌∷◌, ◌++◌, suc, length, take, drop, sym, ap, ◌∙◌}
use Rattle.hop_object.specs.declared.lane.Lane.{Lane}
use Rattle.hop_object.proofs.Places.{split_at, read_twice}
use Rattle.hop_object.proofs.lane.take_out.Goals as goal

pub returns-clause-lanes : goal.returns-clause-lanes
returns-clause-lanes g c = λ lane e.
    let xs = c.args.lanes.now.items in
    let i = c.args.index in
    let h : i < length xs = c.requires in
    let same : c.take_from-item.result ≡ lane = read_twice xs i c.take_from-item.result lane h c.take_from-item.ensures.value e in
    record {
      here = split_at xs i lane h ∙ ap (λ (l : Lane g.row.T.Denot). take i xs ++ l ∷ drop (suc i) xs) (sym e);
      after = c.take_from-item.ensures.items;
      carried = ap (λ (l : Lane g.row.T.Denot). l.item) same;
    }
