use Rattle.std.proofs.Common.{arith, refl}
use Rattle.line_text.proofs.NumberLemmas.{hex-pairs-at}
use Rattle.line_text.proofs.pieces.pair_of.Goals as goal

pub returns : goal.returns
returns c =
    let p = hex-pairs-at c.args.byte (omega arith) in
    rw (p.0, p.1) refl
