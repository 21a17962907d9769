use Rattle.std.proofs.Common.{ℕ, take}
use Rattle.traffic_script.specs.Pieces.{written_out}
use Rattle.route_plan.specs.Counted.{Counted, counted_in}
use Rattle.route_plan.specs.Counts.{AreMore}
use Rattle.route_plan.proofs.counts.Tally.add_pieces.Given as goal

abbrev pub invariant-loop-piece : goal.invariant-loop-piece
invariant-loop-piece l =
    AreMore (λ (c : Counted) (m : ℕ). counted_in c l.self.routes.now l.self.initiator m (written_out (take l.piece-index l.pieces))) l.initial.counts l.counts
