use Rattle.std.proofs.Common.{◌≤◌, ◌-◌, length}
use Rattle.port_moves.specs.Stocks.{HasMoved, hops_at, place_at}
use Rattle.port_moves.proofs.stock.stock_hops.Given as goal

abbrev pub invariant-loop-hop : goal.invariant-loop-hop
invariant-loop-hop g l = record {
  below : l.index ≤ length (hops_at g.N.Naming.frame.world l.initiator l.address);
  moved : HasMoved g.N.Naming.tokens (place_at g.N.Naming.frame.world l.initiator l.address) l.index l.fn.from l.fn.to l.from l.to;
}

abbrev pub decreases-loop-hop : goal.decreases-loop-hop
decreases-loop-hop g l = length (hops_at g.N.Naming.frame.world l.initiator l.address) - l.index
