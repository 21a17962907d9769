use Rattle.std.proofs.Common.{◌≡◌, replicate}
use Rattle.time_board.specs.Rounds.{new_member}
use Rattle.time_board.proofs.rounds.make_members.Given as goal

abbrev pub invariant-loop-k : goal.invariant-loop-k
invariant-loop-k l = l.members.items ≡ replicate l._k new_member
