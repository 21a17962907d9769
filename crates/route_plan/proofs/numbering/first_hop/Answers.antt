use Rattle.std.proofs.Common.{◌+◌, ◌^◌, ◌<◌, ap, length, take, arith}
use Rattle.route_plan.proofs.NumberLemmas.{hop_sum_fits}
use Rattle.route_plan.proofs.numbering.first_hop.Goals as goal

pub overflow_add-hop : goal.overflow_add-hop
overflow_add-hop c =
    let fits : c.loop-row.hop + length c.as_slice-in-loop-row.result.now < 2 ^ 32 =
    hop_sum_fits c.args.platform.now c.args.router c.loop-row.row-index c.loop-row.hop (length c.as_slice-in-loop-row.result.now) (take c.args.router c.as_slice-2.result.now) c.row-item.result c.requires.bounded
    (ap (take c.args.router) c.as_slice-2.ensures) c.loop-row-test.true c.row-item.is c.loop-row.invariant (ap length c.as_slice-in-loop-row.ensures) in
    omega (arith, fits)
