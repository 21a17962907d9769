use Rattle.std.proofs.Common.{arith}
use Rattle.std.proofs.lemmas.Fmt.{length-decimal-le}
use Rattle.line_text.proofs.Adding.{adds-more}
use Rattle.line_text.proofs.pieces.write_count.Goals as goal

pub write_eight_decimal-end-requires : goal.write_eight_decimal-end-requires
write_eight_decimal-end-requires c = (c.if-number-lt100000000.true, omega (arith, c.requires, length-decimal-le 8 c.args.number (omega arith) (omega arith) (omega (arith, c.if-number-lt100000000.true))))

pub write_word-requires : goal.write_word-requires
write_word-requires c =
    omega (arith, c.requires, c.write_eight_decimal-end.ensures.ends, c.write_eight_decimal-end.auto.bytes, length-decimal-le 8 c.args.number (omega arith) (omega arith) (omega (arith, c.if-number-lt100000000.true)))

pub returns-then-number-lt100000000-clause-adds : goal.returns-then-number-lt100000000-clause-adds
returns-then-number-lt100000000-clause-adds c = adds-more _ _ _ _ _ _ _ _ c.write_eight_decimal-end.ensures c.write_word.ensures

pub returns-then-number-lt100000000-clause-within : goal.returns-then-number-lt100000000-clause-within
returns-then-number-lt100000000-clause-within c =
    omega (arith, c.write_eight_decimal-end.ensures.ends, c.write_word.ensures.ends, length-decimal-le 8 c.args.number (omega arith) (omega arith) (omega (arith, c.if-number-lt100000000.true)))
