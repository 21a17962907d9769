use Rattle.std.proofs.Common.{◌≡◌, ◌∙◌, arith}
use Rattle.traffic_script.proofs.PlaceLemmas.{piece_here, within_piece, next_in_piece, next_round, next_piece}
use Rattle.traffic_script.proofs.place.next_place.Goals as goal

pub returns-then-at-operations-clause-rest : goal.returns-then-at-operations-clause-rest
returns-then-at-operations-clause-rest c =
    let here = piece_here c.args.pieces.now c.args.at.piece c.index-pieces-at.result c.requires.there c.index-pieces-at.is in
    let within = within_piece c.args.pieces.now c.args.at.piece c.args.at.operation c.index-pieces-at.result here c.requires.within in
    next_in_piece c.args.pieces.now c.args.at.piece c.args.at.rounds c.args.at.operation c.index-pieces-at.result here within

pub returns-then-at-gt0-clause-rest : goal.returns-then-at-gt0-clause-rest
returns-then-at-gt0-clause-rest c =
    let here = piece_here c.args.pieces.now c.args.at.piece c.index-pieces-at.result c.requires.there c.index-pieces-at.is in
    let within = within_piece c.args.pieces.now c.args.at.piece c.args.at.operation c.index-pieces-at.result here c.requires.within in
    let same : c.as_slice-operations.result.now ≡ c.index-pieces-at.result.operations = cc in
    next_round c.args.pieces.now c.args.at.piece c.args.at.rounds c.args.at.operation c.index-pieces-at.result here within (rw same at c.if-at-operations.false) (omega arith)

pub returns-clause-rest : goal.returns-clause-rest
returns-clause-rest c =
    let here = piece_here c.args.pieces.now c.args.at.piece c.index-pieces-at.result c.requires.there c.index-pieces-at.is in
    let within = within_piece c.args.pieces.now c.args.at.piece c.args.at.operation c.index-pieces-at.result here c.requires.within in
    let same : c.as_slice-operations.result.now ≡ c.index-pieces-at.result.operations = cc in
    c.first_place.ensures.rest ∙ next_piece c.args.pieces.now c.args.at.piece c.args.at.rounds c.args.at.operation c.index-pieces-at.result here within (rw same at c.if-at-operations.false) (omega arith)
