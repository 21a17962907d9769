use Rattle.std.proofs.Common.{◌≡◌}
use Rattle.store_replay.proofs.replay.in_rows.Given as goal

abbrev pub invariant-loop-store : goal.invariant-loop-store
invariant-loop-store l = l.rows.items ≡ l.yielded
