use Rattle.std.proofs.Common.{ℕ, List, get_or, ap, arith}
use Rattle.line_text.proofs.WordLemmas.{pairs-more}
use Rattle.line_text.proofs.pieces.write_few_pairs.Goals as goal

pub loop-k-preserved : goal.loop-k-preserved
loop-k-preserved c =
    let l = c.loop-k in
    let high = ap (λ (d : List ℕ). get_or d 0 0) c.pair_of.ensures in
    let low = ap (λ (d : List ℕ). get_or d 1 0) c.pair_of.ensures in
    pairs-more c.args.bytes.now l.digits l.k (get_or c.pair_of.result 0 0) (get_or c.pair_of.result 1 0) (omega arith) (omega arith) high low l.invariant
