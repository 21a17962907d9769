use Rattle.std.proofs.Common.{arith, sym, ◌∙◌}
use Rattle.std.proofs.lemmas.Fmt.{decimal_digit, length-decimal-le}
use Rattle.itoa.proofs.Decimal.{decimal_two}
use Rattle.line_text.proofs.Adding.{adds-as}
use Rattle.line_text.proofs.pieces.write_number.Goals as goal

pub returns-then-number-lt10-clause-adds : goal.returns-then-number-lt10-clause-adds
returns-then-number-lt10-clause-adds c = adds-as _ _ _ _ _ _ c.write_word.ensures (sym (decimal_digit c.args.number c.if-number-lt10.true))

pub returns-then-number-lt100-clause-adds : goal.returns-then-number-lt100-clause-adds
returns-then-number-lt100-clause-adds c =
    adds-as _ _ _ _ _ _ c.write_word-then-number-lt100.ensures (c.decimal_pair.ensures ∙ sym (decimal_two c.args.number c.if-number-lt10.false c.if-number-lt100.true))

pub write_decimal-requires : goal.write_decimal-requires
write_decimal-requires c = omega (arith, c.requires, length-decimal-le 20 c.args.number (omega arith) (omega arith) (omega arith))

pub returns-else-number-lt100-clause-within : goal.returns-else-number-lt100-clause-within
returns-else-number-lt100-clause-within c = omega (arith, c.write_decimal.ensures.ends, length-decimal-le 20 c.args.number (omega arith) (omega arith) (omega arith))
