use Rattle.std.proofs.Common.{ap, ◌∙◌, arith}
use Rattle.std.proofs.lemmas.List.{take_all}
use Rattle.tlm_model.specs.Text.{hex_of}
use Rattle.line_text.proofs.VectorLemmas.{laid}
use Rattle.line_text.proofs.pieces.write_vector.Goals as goal

pub returns : goal.returns
returns c =
    let d = c.digits_of.ensures in
    laid c.args.digits.now c.digits_of.result.0 c.digits_of.result.1 c.requires.digits d.long.0 d.long.1
    ∙ d.digits
    ∙ ap hex_of (take_all 16 c.args.bytes.now (omega (arith, c.requires.bytes)))
