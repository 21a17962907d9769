use Rattle.std.proofs.Common.{ℕ, List, ◌/◌, ◌++◌, false, ap, arith, sym, ◌∙◌}
use Rattle.std.specs.Fmt.{digits}
use Rattle.line_text.proofs.Adding.{adds-as, adds-more}
use Rattle.line_text.proofs.HexLemmas.{digits-pair, length-pair}
use Rattle.line_text.proofs.pieces.write_few_hex.Goals as goal

pub write_short_hex-place-requires : goal.write_short_hex-place-requires
write_short_hex-place-requires c = (omega (arith, c.requires.0), omega (arith, c.requires.1, length-pair c.args.number c.if-number-lt256.false (omega arith)))

pub write_word-requires : goal.write_word-requires
write_word-requires c =
    omega (arith, c.requires.1, length-pair c.args.number c.if-number-lt256.false (omega arith), c.write_short_hex-place.ensures.ends, c.write_short_hex-place.auto.bytes)

pub returns : goal.returns
returns c =
    adds-as _ _ _ _ _ _ (adds-more _ _ _ _ _ _ _ _ c.write_short_hex-place.ensures c.write_word.ensures)
    (ap (λ (l : List ℕ). digits 16 false (c.args.number / 256) ++ l) c.pair_of.ensures ∙ sym (digits-pair c.args.number c.if-number-lt256.false (omega arith)))
