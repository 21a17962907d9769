use Rattle.std.proofs.Common.{refl}
use Rattle.line_text.proofs.NumberLemmas.{decimal-pairs-at}
use Rattle.line_text.proofs.pieces.decimal_pair.Goals as goal

pub returns : goal.returns
returns c =
    let p = decimal-pairs-at c.args.number c.requires in
    rw (p.0, p.1) refl
