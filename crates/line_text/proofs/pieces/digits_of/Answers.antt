use Rattle.std.proofs.Common.{ℕ, ◌<◌, false, get_or, refl, ap, subst, sym, ◌∙◌, arith}
use Rattle.std.specs.Fmt.{digit_glyph}
use Rattle.std.proofs.Math.Nat.{mod-lt}
use Rattle.std.proofs.lemmas.Nat.{and_mask}
use Rattle.std.proofs.lemmas.Simd.{Each1-get_or}
use Rattle.line_text.proofs.VectorLemmas.{lane_with, spread}
use Rattle.line_text.proofs.pieces.digits_of.Goals as goal

pub glyphs-high-requires : goal.glyphs-high-requires
glyphs-high-requires c k within =
    let bytes = c.args.bytes in
    let small = (Each1-get_or _ bytes k 0 (omega (arith, c.fits-bytes.0, within)) c.fits-bytes.1).fits in
    subst (λ (n : ℕ). n < 16) (sym (lane_with _ bytes 4 k c.fits-bytes.0 within)) (omega (arith, small))

pub glyphs-low-requires : goal.glyphs-low-requires
glyphs-low-requires c k within =
    let bytes = c.args.bytes in
    let byte = get_or bytes k 0 in
    subst (λ (n : ℕ). n < 16) (sym (lane_with _ bytes 15 k c.fits-bytes.0 within ∙ and_mask byte 4)) (mod-lt byte (omega arith))

pub returns-clause-long : goal.returns-clause-long
returns-clause-long c = (refl, refl)

pub returns-clause-digits : goal.returns-clause-digits
returns-clause-digits c =
    let bytes = c.args.bytes in
    let long = c.fits-bytes.0 in
    spread bytes c.glyphs-high.result c.glyphs-low.result long c.glyphs-high.ensures.long
    (λ k within. c.glyphs-high.ensures.each k within ∙ ap (digit_glyph false) (lane_with _ bytes 4 k long within))
    (λ k within. c.glyphs-low.ensures.each k within ∙ ap (digit_glyph false) (lane_with _ bytes 15 k long within ∙ and_mask (get_or bytes k 0) 4))
