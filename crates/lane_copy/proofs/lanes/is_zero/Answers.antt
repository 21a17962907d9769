use Rattle.std.proofs.Common.{◌+◌, ◌-◌, ◌≤◌, inl, inr, length, arith}
use Rattle.std.proofs.lemmas.Bool.{cases_lt}
use Rattle.lane_copy.proofs.Vectors.{zeros_in_part, zeros_joined, zeros_of_part}
use Rattle.lane_copy.proofs.lanes.is_zero.Goals as goal

pub loop-done-preserved : goal.loop-done-preserved
loop-done-preserved c =
    let line = c.args.line.now in
    let done = c.loop-done.done in
    let room : done + 32 ≤ length line = omega (arith, c.loop-done-test.true, c.loop-done.invariant.within) in
    record {
      within = room;
      zeros = λ j below. elim (cases_lt j done) [
        | inl before ↦ c.loop-done.invariant.zeros j before
        | inr from ↦ zeros_of_part line done (done + 32 - done) (omega (arith, room)) (c.is_zero_vector.ensures.0 c.if-not-is_zero_vector.false) j 0 from (omega (arith, below))
      ];
    }

pub returns : goal.returns
returns c =
    let line = c.args.line.now in
    let within = c.loop-done.invariant.within in (
      λ rest. zeros_joined line c.loop-done.done within c.loop-done.invariant.zeros (c.is_zero_rest.ensures.0 rest),
      λ zeros. c.is_zero_rest.ensures.1 (zeros_in_part line c.loop-done.done (length line - c.loop-done.done) (omega (arith, within)) zeros),
    )
