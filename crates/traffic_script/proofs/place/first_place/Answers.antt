use Rattle.traffic_script.proofs.PlaceLemmas.{piece_here, first_is_left}
use Rattle.traffic_script.proofs.place.first_place.Goals as goal

pub returns-in-Some-clause-rest : goal.returns-in-Some-clause-rest
returns-in-Some-clause-rest c =
    let found = c.in-Some.ensures.lookup in
    first_is_left c.args.pieces.now c.args.piece c.in-Some.first.now (piece_here c.args.pieces.now c.args.piece c.in-Some.first.now found.3.0 found.1)
