use Rattle.std.proofs.Common.{ℕ, List, ◌/◌, ◌++◌, ap, arith, sym, ◌∙◌}
use Rattle.std.specs.Fmt.{decimal}
use Rattle.itoa.proofs.Decimal.{decimal_pair, length_pair}
use Rattle.line_text.proofs.Adding.{adds-as, adds-more}
use Rattle.line_text.proofs.pieces.write_few_decimal.Goals as goal

pub write_short_decimal-place-requires : goal.write_short_decimal-place-requires
write_short_decimal-place-requires c = (omega (arith, c.requires.0), omega (arith, c.requires.1, length_pair c.args.number c.if-number-lt100.false (omega arith)))

pub write_word-requires : goal.write_word-requires
write_word-requires c =
    omega (arith, c.requires.1, length_pair c.args.number c.if-number-lt100.false (omega arith), c.write_short_decimal-place.ensures.ends, c.write_short_decimal-place.auto.bytes)

pub returns : goal.returns
returns c =
    adds-as _ _ _ _ _ _ (adds-more _ _ _ _ _ _ _ _ c.write_short_decimal-place.ensures c.write_word.ensures)
    (ap (λ (l : List ℕ). decimal (c.args.number / 100) ++ l) c.decimal_pair.ensures ∙ sym (decimal_pair c.args.number c.if-number-lt100.false (omega arith)))
