use Rattle.std.proofs.Common.{ℕ, ◌+◌, ◌%◌, get_or, ap, sym, ◌∙◌, arith}
use Rattle.std.proofs.lemmas.Simd.{get_or-zip2, length-zip2}
use Rattle.line_text.proofs.VectorLemmas.{chosen_long, further, glyph_lane, lane_with, with_long}
use Rattle.line_text.proofs.pieces.glyphs.Goals as goal

abbrev add : ℕ → ℕ → ℕ
add a b = (a + b) % 256

pub returns-clause-long : goal.returns-clause-long
returns-clause-long c =
    let long = c.fits-digits.0 in
    let first = with_long add c.args.digits 48 long in
    length-zip2 add _ (further c.args.digits) (first ∙ sym (chosen_long c.args.digits long)) ∙ first

pub returns-clause-each : goal.returns-clause-each
returns-clause-each c k within =
    let digits = c.args.digits in
    let long = c.fits-digits.0 in
    get_or-zip2 add _ (further digits) k 0 0 0 (omega (arith, with_long add digits 48 long, within)) (omega (arith, chosen_long digits long, within))
    ∙ ap (λ (n : ℕ). add n (get_or (further digits) k 0)) (lane_with add digits 48 k long within)
    ∙ glyph_lane digits k long (c.requires k within) within
