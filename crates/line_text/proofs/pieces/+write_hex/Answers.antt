use Rattle.std.proofs.Common.{ℕ, List, ◌/◌, ◌%◌, ◌++◌, false, ap, arith, sym, ◌∙◌}
use Rattle.std.specs.Fmt.{digits}
use Rattle.line_text.specs.Pieces.{Adds}
use Rattle.line_text.proofs.Adding.{adds-as, adds-more}
use Rattle.line_text.proofs.HexLemmas.{digits-four, length-four, pair}
use Rattle.line_text.proofs.pieces.+write_hex.Goals as goal
use Rattle.line_text.proofs.pieces.+write_hex.Goals.{then-high-lt65536, else-high-lt65536}

pub write_few_hex-place-requires : goal.write_few_hex-place-requires
write_few_hex-place-requires t c = (c.if-high-lt65536.true, omega (arith, c.requires, length-four c.args.number c.if-number-lt65536.false (omega arith)))

pub write_hex-place-requires : goal.write_hex-place-requires
write_hex-place-requires t c = (omega (arith, c.decreases, c.if-number-lt65536.false), omega (arith, c.requires, length-four c.args.number c.if-number-lt65536.false (omega arith)))

pub write_word-last-requires : goal.write_word-last-requires
write_word-last-requires t c =
    let high : Adds c.args.bytes.now c.if-high-lt65536.bytes c.args.start c.if-high-lt65536.place (digits 16 false (c.args.number / 65536)) =
    elim c.if-high-lt65536.branch [
      | then-high-lt65536 w ↦ rw (w.bytes-is, w.place-is) w.write_few_hex-place.ensures
      | else-high-lt65536 w ↦ rw (w.bytes-is, w.place-is) w.write_hex-place.ensures
    ] in
    omega (arith, c.requires, high.ends, c.if-high-lt65536.auto.bytes, length-four c.args.number c.if-number-lt65536.false (omega arith))

pub write_word-requires : goal.write_word-requires
write_word-requires t c =
    let high : Adds c.args.bytes.now c.if-high-lt65536.bytes c.args.start c.if-high-lt65536.place (digits 16 false (c.args.number / 65536)) =
    elim c.if-high-lt65536.branch [
      | then-high-lt65536 w ↦ rw (w.bytes-is, w.place-is) w.write_few_hex-place.ensures
      | else-high-lt65536 w ↦ rw (w.bytes-is, w.place-is) w.write_hex-place.ensures
    ] in
    omega (arith, c.requires, high.ends, c.write_word-last.ensures.ends, c.write_word-last.auto.bytes, c.if-high-lt65536.auto.bytes, length-four c.args.number c.if-number-lt65536.false (omega arith))

pub returns : goal.returns
returns t c =
    let high : Adds c.args.bytes.now c.if-high-lt65536.bytes c.args.start c.if-high-lt65536.place (digits 16 false (c.args.number / 65536)) =
    elim c.if-high-lt65536.branch [
      | then-high-lt65536 w ↦ rw (w.bytes-is, w.place-is) w.write_few_hex-place.ensures
      | else-high-lt65536 w ↦ rw (w.bytes-is, w.place-is) w.write_hex-place.ensures
    ] in
    let first = digits 16 false (c.args.number / 65536) in
    let text = ap (λ (l : List ℕ). first ++ (l ++ c.pair_of-2.result)) c.pair_of.ensures
    ∙ (ap (λ (l : List ℕ). first ++ (pair (c.args.number % 65536 / 256) ++ l)) c.pair_of-2.ensures ∙ sym (digits-four c.args.number c.if-number-lt65536.false (omega arith))) in
    adds-as _ _ _ _ _ _ (adds-more _ _ _ _ _ _ _ _ high (adds-more _ _ _ _ _ _ _ _ c.write_word-last.ensures c.write_word.ensures)) text
