use Rattle.std.proofs.Common.{◌≡◌, ℕ, ◌+◌, ◌-◌, ◌%◌, ◌<◌, inl, inr, length, ap, ◌∙◌, arith}
use Rattle.std.proofs.Math.Nat.{add-mod_right}
use Rattle.std.proofs.lemmas.Bool.{cases_lt}
use Rattle.lane_copy.specs.Lanes.{merged_byte}
use Rattle.lane_copy.proofs.Merged.{merged_from_bytes}
use Rattle.lane_copy.proofs.Stretches.{get_or-put_mid_above, get_or-put_mid_at, get_or-put_mid_below, stretch_byte}
use Rattle.lane_copy.proofs.lanes.merge_stretches.Goals as goal

pub loop-done-preserved : goal.loop-done-preserved
loop-done-preserved c =
    let l = c.loop-done in
    let m = length c.args.enables.now in
    let n = c.min-count.result in
    let test = c.loop-done-test.true in
    let same : length l.dst ≡ length c.args.src.now = omega (arith, l.auto.dst, c.requires.same) in
    let ys = c.merge_stretch.new.dst in
    record {
      within = omega (arith, c.min-count.ensures, test);
      first = λ more. ap (λ (k : ℕ). (l.done + k) % m) (let whole : n ≡ m = omega (arith, c.min-count.ensures, more) in whole) ∙ add-mod_right l.done m ∙ l.invariant.first test;
      copied = λ j below. elim (cases_lt j l.done) [
        | inl before ↦ get_or-put_mid_below l.done _ l.dst ys j (omega (arith, same, test)) before ∙ l.invariant.copied j before
        | inr from ↦
            let there : l.done + (j - l.done) ≡ j = omega (arith, from) in
            let short : j - l.done < n = omega (arith, from, below) in
            get_or-put_mid_at l.done _ l.dst ys j (omega (arith, same, test)) from (omega (arith, from, below, c.merge_stretch.auto.dst))
            ∙ stretch_byte c.args.dst.now l.dst c.args.src.now c.args.enables.now ys l.done _ _ (j - l.done) (omega (arith, short)) (omega (arith, short)) (omega (arith, short, c.min-count.ensures)) (l.invariant.first test)
            (l.invariant.rest (l.done + (j - l.done)) (omega (arith, there, from))) (c.merge_stretch.ensures (j - l.done) (omega (arith, short, same, c.min-count.ensures)))
            ∙ ap (λ (k : ℕ). merged_byte c.args.dst.now c.args.src.now c.args.enables.now k) there
      ];
      rest = λ j above. get_or-put_mid_above l.done _ l.dst ys j (omega (arith, same, c.min-count.ensures, test)) (omega (arith, c.merge_stretch.auto.dst)) (omega (arith, above)) ∙ l.invariant.rest j (omega (arith, above));
    }

pub returns : goal.returns
returns c =
    merged_from_bytes c.args.dst.now c.args.src.now c.args.enables.now _ (omega arith) (λ k within. c.loop-done.invariant.copied k (omega arith))
