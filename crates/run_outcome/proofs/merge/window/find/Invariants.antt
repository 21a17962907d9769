use Rattle.run_outcome.specs.Places.{HaveNoneBefore, entries_of_logs}
use Rattle.run_outcome.proofs.merge.window.find.Given as goal

abbrev pub invariant-loop-log : goal.invariant-loop-log
invariant-loop-log l = HaveNoneBefore (entries_of_logs l.logs) l.position l.log
