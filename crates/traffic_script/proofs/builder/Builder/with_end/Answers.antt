use Rattle.std.proofs.Common.{◌≡◌, ◌∙◌, length, arith}
use Rattle.traffic_script.specs.Pieces.{written_out}
use Rattle.traffic_script.proofs.BuildLemmas.{count_of-draft_of, ended_count}
use Rattle.traffic_script.proofs.builder.Builder.with_end.Goals as goal

pub invariant_of-result : goal.invariant_of-result
invariant_of-result c =
    let fields = c.self.inside in
    let before = written_out fields.pieces.items in
    let counted = c.self.invariant ∙ count_of-draft_of before fields.last.items fields.repeat in
    let items = fields.last.ok.0 in
    let same : c.len-length.result ≡ length fields.last.items = omega (arith, c.len-length.ensures) in
    ended_count before fields.last.items (written_out c.in_ok-pieces.pieces.items) c.new.result.items fields.count c.len-length.result c.in-Some.field-0.times counted same c.in_ok-pieces.ensures c.new.ensures.items
