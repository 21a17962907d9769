use Rattle.std.proofs.Common.{ℕ, length, length-append, ap, arith}
use Rattle.run_queue.proofs.jobs.join.Goals as goal

pub push_back_reserved-requires : goal.push_back_reserved-requires
push_back_reserved-requires c =
    let order = c.loop-k.order in
    let parked = c.loop-k.parked in
    let first = c.args.order.now in
    let second = c.args.parked.now in
    omega (
      arith,
      ap (length {A = ℕ}) c.loop-k.invariant.line,
      length-append order.items parked.items,
      length-append first.items second.items,
      c.requires,
      c.loop-k.invariant.left,
      c.loop-k.invariant.room,
      order.ok.0,
      second.ok.0,
      c.loop-k-test.true,
      c.len-k-end.ensures,
    )
