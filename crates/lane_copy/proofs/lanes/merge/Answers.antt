use Rattle.std.proofs.Common.{length, ◌≡◌, rules}
use Rattle.lane_copy.proofs.Merged.{merged-no_enables}
use Rattle.lane_copy.proofs.lanes.merge.Goals as goal

pub returns-then-is_empty : goal.returns-then-is_empty
returns-then-is_empty c =
    let none : length c.args.enables.now ≡ 0 = search rules in
    rw c.copy.ensures (merged-no_enables c.args.dst.now c.args.src.now c.args.enables.now none c.requires)
