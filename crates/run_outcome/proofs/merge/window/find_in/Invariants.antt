use Rattle.run_outcome.specs.Places.{HasNoneBefore}
use Rattle.run_outcome.proofs.merge.window.find_in.Given as goal

abbrev pub invariant-loop-index : goal.invariant-loop-index
invariant-loop-index l = HasNoneBefore l.log.entries l.position l.index
