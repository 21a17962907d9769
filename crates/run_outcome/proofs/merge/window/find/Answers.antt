use Rattle.std.proofs.Common.{arith}
use Rattle.std.proofs.lemmas.List.{length-map}
use Rattle.entry_log.specs.Log.{LogView}
use Rattle.run_outcome.specs.Places.{entries_of_logs}
use Rattle.run_outcome.proofs.PlaceLemmas.{log_at, none_in_more, placed_at, some_has}
use Rattle.run_outcome.proofs.merge.window.find.Goals as goal

pub returns-in-Some : goal.returns-in-Some
returns-in-Some c =
    let here = log_at c.args.logs.now c.loop-log.log c.index-logs-log.result c.loop-log-test.true c.index-logs-log.is in
    placed_at (entries_of_logs c.args.logs.now) c.args.position (record { log = c.loop-log.log; index = c.in-Some.index }) c.index-logs-log.result.entries c.requires.numbered here c.in-Some.ensures.found

pub loop-log-preserved : goal.loop-log-preserved
loop-log-preserved c =
    let here = log_at c.args.logs.now c.loop-log.log c.index-logs-log.result c.loop-log-test.true c.index-logs-log.is in
    none_in_more (entries_of_logs c.args.logs.now) c.args.position c.loop-log.log c.index-logs-log.result.entries c.loop-log.invariant here c.in_default.ensures.none

pub unreachable-requires : goal.unreachable-requires
unreachable-requires c =
    some_has (entries_of_logs c.args.logs.now) c.args.position c.loop-log.log c.requires.numbered c.requires.within (omega (arith, length-map c.args.logs.now (λ (x : LogView). x.entries), c.loop-log-test.false)) c.loop-log.invariant
