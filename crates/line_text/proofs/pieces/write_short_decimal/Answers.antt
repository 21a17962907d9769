use Rattle.std.proofs.Common.{arith, sym, ◌∙◌}
use Rattle.std.proofs.lemmas.Fmt.{decimal_digit}
use Rattle.itoa.proofs.Decimal.{decimal_two, length_one, length_two}
use Rattle.line_text.proofs.Adding.{adds-as}
use Rattle.line_text.proofs.pieces.write_short_decimal.Goals as goal

pub write_word-requires : goal.write_word-requires
write_word-requires c = omega (arith, c.requires.1, length_one c.args.number c.if-number-lt10.true)

pub returns-then-number-lt10 : goal.returns-then-number-lt10
returns-then-number-lt10 c = adds-as _ _ _ _ _ _ c.write_word.ensures (sym (decimal_digit c.args.number c.if-number-lt10.true))

pub write_word-requires-else-number-lt10 : goal.write_word-requires-else-number-lt10
write_word-requires-else-number-lt10 c = omega (arith, c.requires.1, length_two c.args.number c.if-number-lt10.false c.requires.0)

pub returns-else-number-lt10 : goal.returns-else-number-lt10
returns-else-number-lt10 c =
    adds-as _ _ _ _ _ _ c.write_word-else-number-lt10.ensures (c.decimal_pair.ensures ∙ sym (decimal_two c.args.number c.if-number-lt10.false c.requires.0))
