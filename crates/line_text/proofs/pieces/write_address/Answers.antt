use Rattle.std.proofs.Common.{arith}
use Rattle.line_text.proofs.Adding.{adds-more}
use Rattle.line_text.proofs.HexLemmas.{length-within}
use Rattle.line_text.proofs.pieces.write_address.Goals as goal

pub write_few_hex-requires : goal.write_few_hex-requires
write_few_hex-requires c =
    (c.if-address-lt65536.true, omega (arith, c.requires, (length-within c.args.address (omega arith)).1, c.write_word-place.ensures.ends, c.write_word-place.auto.bytes))

pub write_hex-requires : goal.write_hex-requires
write_hex-requires c = omega (arith, c.requires, (length-within c.args.address (omega arith)).1, c.write_word-place.ensures.ends, c.write_word-place.auto.bytes)

pub returns-then-address-lt65536-clause-adds : goal.returns-then-address-lt65536-clause-adds
returns-then-address-lt65536-clause-adds c = adds-more _ _ _ _ _ _ _ _ c.write_word-place.ensures c.write_few_hex.ensures

pub returns-then-address-lt65536-clause-within : goal.returns-then-address-lt65536-clause-within
returns-then-address-lt65536-clause-within c =
    omega (arith, (length-within c.args.address (omega arith)).1, c.write_word-place.ensures.ends, c.write_few_hex.ensures.ends)

pub returns-else-address-lt65536-clause-adds : goal.returns-else-address-lt65536-clause-adds
returns-else-address-lt65536-clause-adds c = adds-more _ _ _ _ _ _ _ _ c.write_word-place.ensures c.write_hex.ensures

pub returns-else-address-lt65536-clause-within : goal.returns-else-address-lt65536-clause-within
returns-else-address-lt65536-clause-within c =
    omega (arith, (length-within c.args.address (omega arith)).1, c.write_word-place.ensures.ends, c.write_hex.ensures.ends)
