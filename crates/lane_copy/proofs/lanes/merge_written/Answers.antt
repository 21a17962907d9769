use Rattle.std.proofs.Common.{◌≡◌, ℕ, ◌-◌, ◌%◌, ◌<◌, length, take, ap, ◌∙◌, arith}
use Rattle.std.proofs.Math.Nat.{mod-le, mod-lt}
use Rattle.std.proofs.lemmas.List.{length-take-le}
use Rattle.lane_copy.specs.Lanes.{expanded, merged}
use Rattle.lane_copy.proofs.Repeats.{merged_by_written, whole_times}
use Rattle.lane_copy.proofs.lanes.merge_written.Goals as goal

pub returns : goal.returns
returns c =
    let dst = c.args.dst.now in
    let src = c.args.src.now in
    let enables = c.args.enables.now in
    let all = length c.args.room.now in
    let m = length enables in
    let n = all - all % m in
    let below : all % m < m = mod-lt all c.requires.some in
    let some : 0 < n = omega (arith, below, c.requires.few, c.requires.some) in
    let long : length (take n c.args.room.now) ≡ n = length-take-le n c.args.room.now (omega (arith, mod-le all m)) in
    c.merge_stretches.ensures
    ∙ ap (merged dst src) (c.expand.ensures ∙ ap (λ (k : ℕ). expanded k enables) long)
    ∙ merged_by_written n dst src enables c.requires.some some (whole_times all m)
