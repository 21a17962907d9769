use Rattle.std.proofs.Common.{◌≡◌, ◌+◌, length}
use Rattle.stepped_actors.specs.Begin.{HaveBegun}
use Rattle.stepped_actors.proofs.begin.begin_memories.Given as goal

abbrev pub invariant-loop-memory : goal.invariant-loop-memory
invariant-loop-memory g l = record {
  begun : HaveBegun g.N.Naming.table g.N.Naming.tokens g.N.Naming.frame l.actors.items;
  count : length l.actors.items ≡ length l.net.platform.initiators + length l.net.platform.routers + l.memory;
}
