use Rattle.std.proofs.Common.{◌+◌, length, drop, arith}
use Rattle.std.proofs.lemmas.Grind.{common_steps}
use Rattle.line_text.proofs.Adding.{adds-word}
use Rattle.line_text.proofs.pieces.write_bytes.Goals as goal

pub returns : goal.returns
returns c =
    let rest = drop (c.args.start + length c.args.word.now) c.args.bytes.now in
    adds-word c.args.bytes.now _ c.args.word.now rest c.args.start (omega arith) (grind (arith, common_steps, c.copy_from_slice.ensures.after))
