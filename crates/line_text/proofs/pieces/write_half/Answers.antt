use Rattle.std.specs.Simd.Lanes.{put_chunk}
use Rattle.std.proofs.Common.{◌≡◌, ℕ, ◌*◌, List, ◌++◌, length, take, replicate, ap, ◌∙◌, arith, length-append}
use Rattle.std.proofs.lemmas.Simd.{length-replicate, pick_l_whole, take_more_put_chunk}
use Rattle.std.proofs.lemmas.List.{take_all}
use Rattle.tlm_model.specs.Text.{hex_of}
use Rattle.line_text.proofs.VectorLemmas.{half_digits}
use Rattle.line_text.proofs.pieces.write_half.Goals as goal

pub returns : goal.returns
returns c =
    let bytes = c.args.bytes.now in
    let d = c.digits_of.ensures in
    let rest = replicate {A = ℕ} 8 0 in
    let whole : take 8 bytes ≡ bytes = take_all 8 bytes (omega (arith, c.requires.bytes)) in
    let size : length (take 8 bytes ++ rest) ≡ 16 = omega (arith, length-append (take 8 bytes) rest, length-replicate {A = ℕ} 8 0, ap length whole, c.requires.bytes) in
    ap (λ (n : ℕ). take (2 * n) (put_chunk 0 c.args.digits.now c.digits_of.result.0)) c.requires.bytes
    ∙ take_more_put_chunk 0 c.args.digits.now c.digits_of.result.0 16 (omega (arith, d.long.0)) (omega (arith, c.requires))
    ∙ half_digits bytes rest c.digits_of.result.0 c.digits_of.result.1 c.requires.bytes d.long.0
    (d.digits ∙ ap hex_of (pick_l_whole 0 (take 8 bytes ++ rest) 16 size ∙ ap (λ (xs : List ℕ). xs ++ rest) whole))
