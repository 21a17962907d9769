use Rattle.std.proofs.Common.{◌≡◌, take}
use Rattle.store_replay.specs.Replay.{HaveGoneOn}
use Rattle.store_replay.proofs.replay.replay_all.Given as goal

abbrev pub invariant-loop-position : goal.invariant-loop-position
invariant-loop-position l = HaveGoneOn (take l.position l.history.entries) l.initial.stores.items l.stores.items × (l.reader ≡ l.history)
