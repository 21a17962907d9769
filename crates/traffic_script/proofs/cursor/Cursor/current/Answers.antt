use Rattle.std.proofs.Common.{◌≡◌, ◌∙◌}
use Rattle.std.specs.Arc.{arc_value}
use Rattle.traffic_script.specs.Pieces.{written_out}
use Rattle.traffic_script.specs.Progress.{left_from}
use Rattle.traffic_script.proofs.PlaceLemmas.{asked_proper, next_of_whole}
use Rattle.traffic_script.proofs.cursor.Cursor.current.Goals as goal

pub returns-clause-asked : goal.returns-clause-asked
returns-clause-asked c =
    let fields = c.self.inside in
    let pieces = (arc_value fields.pieces).items in
    let e : c.as_slice.result.now ≡ pieces = rw c.deref.ensures at c.as_slice.ensures.value in
    let found = rw e at c.operation_at.ensures in
    asked_proper pieces fields.place fields.count fields.done c.operation_at.result c.self.invariant (found ∙ next_of_whole (left_from fields.place pieces) (written_out pieces) fields.done c.self.invariant.rest)
