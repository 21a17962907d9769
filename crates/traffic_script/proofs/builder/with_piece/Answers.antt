use Rattle.std.proofs.Common.{◌≡◌, List, ◌++◌, length, sym, ap, ◌∙◌, arith, append-nil}
use Rattle.std.proofs.lemmas.Bool.Decides.{nat_tests}
use Rattle.tlm_model.specs.declared.operation.Operation.{Operation}
use Rattle.traffic_script.specs.Pieces.{repeated, written_out}
use Rattle.traffic_script.proofs.PiecesLemmas.{repeated-none, written_out-push}
use Rattle.traffic_script.proofs.builder.with_piece.Goals as goal

pub returns-then-is_empty : goal.returns-then-is_empty
returns-then-is_empty c =
    let test = c.if-is_empty.ensures in
    let items = c.args.operations.ok.0 in
    let none : length c.args.operations.items ≡ 0 = grind (arith, nat_tests) in
    rw (repeated-none c.args.times c.args.operations.items none) (sym (append-nil (written_out c.args.pieces.items)))

pub returns : goal.returns
returns c =
    let before = written_out c.args.pieces.items in
    ap written_out c.in_ok-push.ensures.items ∙ (written_out-push c.args.pieces.items _ ∙ ap (λ (ops : List Operation). before ++ repeated c.args.times ops) c.from_vec.ensures)
