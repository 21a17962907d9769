use Rattle.std.proofs.Common.{ap, sym, ◌∙◌, ◌<◌, length, subst, slice_get}
use Rattle.run_outcome.specs.Merge.{merged}
use Rattle.run_outcome.specs.Places.{MergedView, entries_of_logs}
use Rattle.run_outcome.proofs.ListLemmas.{at_taken}
use Rattle.run_outcome.proofs.PlaceLemmas.{stands_same, stands_whole}
use Rattle.run_outcome.proofs.merge.LogReader.at.Goals as goal

pub returns-clause-whole : goal.returns-clause-whole
returns-clause-whole c = stands_whole c.self.inside.logs.now c.args.position c.place_of-place.result c.index-logs-place.result c.place_of-place.ensures c.index-logs-place.is c.self.invariant.2

pub returns-clause-same : goal.returns-clause-same
returns-clause-same c =
    let logs = c.self.inside.logs.now in
    let below = subst (λ (v : MergedView). c.args.position < length v.entries) (sym c.self.view_is) c.requires in
    stands_same logs c.args.position c.place_of-place.result c.index-logs-place.result c.place_of-place.ensures c.index-logs-place.is
    ∙ sym (at_taken c.self.inside.count (merged (entries_of_logs logs)) c.args.position below)
    ∙ ap (λ (v : MergedView). slice_get v.entries c.args.position) c.self.view_is
