use Rattle.std.proofs.Common.{sym, ◌∙◌}
use Rattle.traffic_script.proofs.PlaceLemmas.{piece_here, copied_get, first_left, none_left}
use Rattle.traffic_script.proofs.place.operation_at.Goals as goal

pub returns-in_err-piece : goal.returns-in_err-piece
returns-in_err-piece c =
    rw c.from_residual.ensures (sym (none_left c.args.pieces.now c.args.at.piece c.args.at.rounds c.args.at.operation c.in_err-piece.ensures.lookup.3))

pub returns : goal.returns
returns c =
    let found = c.in_ok-piece.ensures.lookup in
    let here = piece_here c.args.pieces.now c.args.at.piece c.in_ok-piece.piece.now found.3.0 found.1 in
    copied_get c.in_ok-piece.piece.now.operations c.args.at.operation c.get-2.result (rw c.as_slice.ensures at c.get-2.ensures.lookup)
    ∙ first_left c.args.pieces.now c.args.at.piece c.args.at.rounds c.args.at.operation c.in_ok-piece.piece.now here c.requires
