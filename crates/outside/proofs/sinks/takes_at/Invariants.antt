use Rattle.std.proofs.Common.{◌≡◌, drop}
use Rattle.outside.specs.SinkState.{takes_of}
use Rattle.outside.proofs.sinks.takes_at.Given as goal

abbrev pub invariant-loop-entry : goal.invariant-loop-entry
invariant-loop-entry l = takes_of (drop l.entry-index l.failing) l.number ≡ takes_of l.failing l.number
