use Rattle.std.proofs.Common.{◌≡◌, ◌+◌, length}
use Rattle.stepped_actors.specs.Begin.{HaveBegun}
use Rattle.stepped_actors.proofs.begin.begin_routers.Given as goal

abbrev pub invariant-loop-router : goal.invariant-loop-router
invariant-loop-router g l = record {
  begun : HaveBegun g.N.Naming.table g.N.Naming.tokens g.N.Naming.frame l.actors.items;
  count : length l.actors.items ≡ length l.net.platform.initiators + l.router;
}
