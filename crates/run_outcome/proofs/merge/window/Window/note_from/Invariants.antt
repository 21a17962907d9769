use Rattle.std.proofs.Common.{◌≡◌}
use Rattle.run_outcome.proofs.merge.window.Window.note_from.Given as goal

abbrev pub invariant-loop-number : goal.invariant-loop-number
invariant-loop-number l = l.self.first ≡ l.position
