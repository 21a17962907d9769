use Rattle.std.proofs.Common.{ℕ, List, ◌/◌, ◌%◌, ◌++◌, ap, arith, sym, ◌∙◌}
use Rattle.std.specs.Fmt.{decimal}
use Rattle.line_text.proofs.Adding.{adds-as, adds-more}
use Rattle.itoa.proofs.Decimal.{decimal_four, length_four, pair}
use Rattle.line_text.proofs.pieces.write_eight_decimal.Goals as goal

pub write_few_decimal-place-requires : goal.write_few_decimal-place-requires
write_few_decimal-place-requires c = (omega (arith, c.requires.0), omega (arith, c.requires.1, length_four c.args.number c.if-number-lt10000.false (omega arith)))

pub write_word-last-requires : goal.write_word-last-requires
write_word-last-requires c =
    omega (arith, c.requires.1, c.write_few_decimal-place.ensures.ends, c.write_few_decimal-place.auto.bytes, length_four c.args.number c.if-number-lt10000.false (omega arith))

pub write_word-requires : goal.write_word-requires
write_word-requires c =
    omega (arith, c.requires.1, c.write_few_decimal-place.ensures.ends, c.write_word-last.ensures.ends, c.write_word-last.auto.bytes, c.write_few_decimal-place.auto.bytes, length_four c.args.number c.if-number-lt10000.false (omega arith))

pub returns : goal.returns
returns c =
    let first = decimal (c.args.number / 10000) in
    let text = ap (λ (l : List ℕ). first ++ (l ++ c.decimal_pair-2.result)) c.decimal_pair.ensures
    ∙ (ap (λ (l : List ℕ). first ++ (pair (c.args.number % 10000 / 100) ++ l)) c.decimal_pair-2.ensures ∙ sym (decimal_four c.args.number c.if-number-lt10000.false (omega arith))) in
    adds-as _ _ _ _ _ _ (adds-more _ _ _ _ _ _ _ _ c.write_few_decimal-place.ensures (adds-more _ _ _ _ _ _ _ _ c.write_word-last.ensures c.write_word.ensures)) text
