use Rattle.std.proofs.Common.{ℕ, [], ◌∷◌, false, ap, arith, sym, ◌∙◌}
use Rattle.std.proofs.lemmas.Fmt.{hex_one_digit}
use Rattle.line_text.proofs.Adding.{adds-as}
use Rattle.line_text.proofs.HexLemmas.{digits-two, length-one, length-two}
use Rattle.line_text.proofs.pieces.write_short_hex.Goals as goal

pub write_word-requires : goal.write_word-requires
write_word-requires c = omega (arith, c.requires.1, length-one c.args.number c.if-number-lt16.true)

pub returns-then-number-lt16 : goal.returns-then-number-lt16
returns-then-number-lt16 c =
    adds-as _ _ _ _ _ _ c.write_word.ensures (ap (λ (x : ℕ). x ∷ []) c.glyph.ensures ∙ sym (hex_one_digit false c.args.number c.if-number-lt16.true))

pub write_word-requires-else-number-lt16 : goal.write_word-requires-else-number-lt16
write_word-requires-else-number-lt16 c = omega (arith, c.requires.1, length-two c.args.number c.if-number-lt16.false c.requires.0)

pub returns-else-number-lt16 : goal.returns-else-number-lt16
returns-else-number-lt16 c =
    adds-as _ _ _ _ _ _ c.write_word-else-number-lt16.ensures (c.pair_of.ensures ∙ sym (digits-two c.args.number c.if-number-lt16.false c.requires.0))
