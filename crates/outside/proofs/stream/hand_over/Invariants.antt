use Rattle.std.proofs.Common.{◌-◌, ◌≤◌, length, take}
use Rattle.std.specs.Io.KnownBytes.{Appends}
use Rattle.outside.proofs.stream.hand_over.Given as goal

abbrev pub invariant-loop-taken : goal.invariant-loop-taken
invariant-loop-taken g l = (l.taken ≤ length l.bytes) × Appends (g.W.Write.contents l.initial.stream) (g.W.Write.contents l.stream) (take l.taken l.bytes)

abbrev pub decreases-loop-taken : goal.decreases-loop-taken
decreases-loop-taken g l = length l.bytes - l.taken
