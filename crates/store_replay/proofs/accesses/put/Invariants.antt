use Rattle.std.proofs.Common.{◌≡◌, drop}
use Rattle.tlm_model.specs.Store.{put_from}
use Rattle.store_replay.specs.Replay.{access_in}
use Rattle.store_replay.proofs.accesses.put.Given as goal

-- the bytes from k on are still to be put
abbrev pub invariant-loop-k : goal.invariant-loop-k
invariant-loop-k l = put_from (access_in l.access) l.k (drop l.k l.bytes) l.store ≡ put_from (access_in l.access) 0 l.bytes l.initial.store
