use Rattle.std.proofs.Common.{◌∙◌, arith}
use Rattle.store_replay.specs.Replay.{access_in}
use Rattle.generic_payload.proofs.Moves.{put_from_more}
use Rattle.store_replay.proofs.accesses.put.Goals as goal

pub loop-k-preserved : goal.loop-k-preserved
loop-k-preserved c =
    put_from_more (access_in c.args.access.now) c.loop-k.k c.args.bytes.now c.loop-k.store c.put_byte.new.store (omega arith) c.put_byte.ensures ∙ c.loop-k.invariant
