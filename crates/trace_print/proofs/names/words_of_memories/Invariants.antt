use Rattle.std.proofs.Common.{◌≡◌, length}
use Rattle.trace_print.specs.Hops.{AreEach, IsMemoryWord}
use Rattle.trace_print.proofs.names.words_of_memories.Given as goal

abbrev pub invariant-loop-memory : goal.invariant-loop-memory
invariant-loop-memory l = record {
  named : AreEach (IsMemoryWord l.platform) l.rows.items;
  count : length l.rows.items ≡ l.memory;
}
