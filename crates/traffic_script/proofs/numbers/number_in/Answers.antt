use Rattle.std.proofs.Common.{sym, ◌∙◌, ◌≡◌, ◌+◌, ◌*◌, get_or, arith}
use Rattle.std.specs.Char.{digit_value}
use Rattle.std.proofs.lemmas.Bool.Decides.{nat_tests}
use Rattle.traffic_script.proofs.NumberLemmas.{number_large, digits_more, value_more}
use Rattle.traffic_script.proofs.numbers.number_in.Goals as goal

pub returns-in_default-next_total : goal.returns-in_default-next_total
returns-in_default-next_total c =
    let digit = c.in-Some.ensures.value in
    sym (number_large c.args.base c.args.digits.now c.loop-byte.byte-index c.loop-byte.total (omega arith) (omega arith) c.loop-byte.invariant.value (rw digit.1 at c.in_default-next_total.ensures))

pub loop-byte-preserved : goal.loop-byte-preserved
loop-byte-preserved c =
    let digit = c.in-Some.ensures.value in
    let next = c.in-Some-next_total.ensures in
    let total : c.in-Some-next_total.next ≡ c.loop-byte.total * c.args.base + digit_value (get_or c.args.digits.now c.loop-byte.byte-index 0) = rw digit.1 at next.1 in
    record {
      digits = digits_more c.args.base c.args.digits.now c.loop-byte.byte-index (omega arith) c.loop-byte.invariant.digits (grind (arith, nat_tests));
      value = total ∙ value_more c.args.base c.args.digits.now c.loop-byte.byte-index c.loop-byte.total (omega arith) c.loop-byte.invariant.value;
      fits = omega arith;
    }
