use Rattle.std.proofs.Common.{ℕ, ◌+◌, ◌*◌, take, ap, arith}
use Rattle.traffic_script.specs.Pieces.{written_out}
use Rattle.route_plan.specs.Counted.{Counted, counted_in, counted_of}
use Rattle.route_plan.proofs.CountLemmas.{both_more, pieces_more, proper_piece}
use Rattle.route_plan.proofs.counts.Tally.add_pieces.Goals as goal

pub add_operations-requires : goal.add_operations-requires
add_operations-requires c =
    proper_piece c.args.pieces.now c.loop-piece.piece-index c.piece-item.result c.as_slice.result.now c.loop-piece-test.true c.piece-item.is c.requires c.as_slice.ensures

pub loop-piece-preserved : goal.loop-piece-preserved
loop-piece-preserved c =
    let p = c.args.self.now.routes.now in
    let n = c.args.self.now.initiator in
    let i = c.loop-piece.piece-index in
    let pieces = c.args.pieces.now in
    let piece = c.piece-item.result in
    both_more (λ (k : Counted) (m : ℕ). counted_in k p n m (written_out (take i pieces))) (λ (k : Counted) (m : ℕ). counted_in k p n m c.as_slice.result.now * piece.times)
    (λ (k : Counted) (m : ℕ). counted_in k p n m (written_out (take (i + 1) pieces))) c.args.counts.now c.loop-piece.counts c.add_operations.new.counts c.loop-piece.auto.counts
    (λ k m. let same = ap (λ ops. counted_in k p n m ops * piece.times) c.as_slice.ensures in
    omega (arith, same, pieces_more (counted_of k p n m) pieces i piece c.loop-piece-test.true c.piece-item.is))
    c.loop-piece.invariant c.add_operations.ensures
