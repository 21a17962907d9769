use Rattle.std.proofs.Common.{◌+◌, ◌-◌, ◌≤◌, length, drop, arith, length-take}
use Rattle.outside.proofs.Known.{Appends-take_more}
use Rattle.outside.proofs.stream.hand_over.Goals as goal

pub loop-taken-preserved : goal.loop-taken-preserved
loop-taken-preserved g c =
    let bytes = c.args.bytes.now in
    let taken = c.loop-taken.taken in
    let most = length-take (length bytes - taken) (drop taken bytes) in
    let fits : taken + c.write_once-count.result ≤ length bytes = omega (arith, c.write_once-count.ensures.bound) in
    (fits, Appends-take_more _ _ _ bytes taken _ fits c.loop-taken.invariant.1 c.write_once-count.ensures.taken)
