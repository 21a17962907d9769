use Rattle.std.proofs.Common.{◌≡◌, ℕ, ◌+◌, ◌-◌, ◌%◌, ◌<◌, inl, inr, List, ◌++◌, drop, length, get_or, ap, sym, ◌∙◌, arith, rules}
use Rattle.std.proofs.Math.Nat.{mod-eq_of_lt, mod_self}
use Rattle.std.proofs.lemmas.Bool.{cases_lt}
use Rattle.std.proofs.lemmas.List.{get_or-take, get_or_append_left}
use Rattle.std.proofs.lemmas.List.FromFn.{fill_by_all}
use Rattle.lane_copy.proofs.Repeats.{governed}
use Rattle.lane_copy.proofs.lanes.expand.Goals as goal

pub loop-done-init : goal.loop-done-init
loop-done-init c =
    let out = c.args.out.now in
    let enables = c.args.enables.now in
    let n = c.min-done.result in
    let copied : length c.copy_from_slice.new.self ≡ n = search rules in
    let all : length (c.copy_from_slice.new.self ++ drop n out) ≡ length out = search rules in
    record {
      within = omega (arith, c.min-done.ensures, all);
      some = λ more. omega (arith, c.min-done.ensures, c.requires, more, all);
      first = λ more. (let whole : n ≡ length enables = omega (arith, c.min-done.ensures, more, all) in ap (λ (k : ℕ). k % length enables) whole) ∙ mod_self (length enables);
      written = λ j below.
          let governs : j % length enables ≡ j = mod-eq_of_lt (omega (arith, below, c.min-done.ensures)) in
          get_or_append_left c.copy_from_slice.new.self (drop n out) 0 j (omega (arith, below, copied))
          ∙ ap (λ (xs : List ℕ). get_or xs j 0) c.copy_from_slice.ensures.after
          ∙ get_or-take n enables j 0 below
          ∙ ap (λ (k : ℕ). get_or enables k 0) (sym governs);
    }

pub loop-done-preserved : goal.loop-done-preserved
loop-done-preserved c =
    let l = c.loop-done in
    let m = length c.args.enables.now in
    let n = c.min-count.result in
    let test = c.loop-done-test.true in
    let some = l.invariant.some test in
    let long : length c.repeat.new.out ≡ length l.out = search rules in
    record {
      within = omega (arith, c.min-count.ensures, test, long);
      some = λ more. omega (arith, some);
      first = λ more. (let whole : l.done + n ≡ l.done + l.done = omega (arith, c.min-count.ensures, more, long, test) in ap (λ (k : ℕ). k % m) whole) ∙ governed m l.done l.done (l.invariant.first test) ∙ l.invariant.first test;
      written = λ j below. elim (cases_lt j l.done) [
        | inl before ↦ c.repeat.ensures.kept j before ∙ l.invariant.written j before
        | inr from ↦
            let there : l.done + (j - l.done) ≡ j = omega (arith, from) in
            let short : j - l.done < n = omega (arith, from, below) in
            let near : j - l.done < l.done = omega (arith, short, c.min-count.ensures) in
            ap (λ (k : ℕ). get_or c.repeat.new.out k 0) (sym there)
            ∙ c.repeat.ensures.copied (j - l.done) short
            ∙ l.invariant.written (j - l.done) near
            ∙ ap (λ (k : ℕ). get_or c.args.enables.now k 0) (sym (governed m l.done (j - l.done) (l.invariant.first test)) ∙ ap (λ (k : ℕ). k % m) there)
      ];
    }

pub returns : goal.returns
returns c =
    let enables = c.args.enables.now in
    fill_by_all (λ (k : ℕ). get_or enables (k % length enables) 0) _ _ 0 (omega arith) (λ k within. c.loop-done.invariant.written k (omega arith))
