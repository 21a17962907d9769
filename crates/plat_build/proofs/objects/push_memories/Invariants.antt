use Rattle.std.proofs.Common.{◌≡◌, ◌++◌, map}
use Rattle.std.specs.List.{range_with_len}
use Rattle.tlm_types.specs.declared.words.ObjectNo.TheVariants.{Memory}
use Rattle.plat_build.proofs.objects.push_memories.Given as goal

abbrev pub invariant-loop-memory : goal.invariant-loop-memory
invariant-loop-memory l = l.objects.items ≡ l.initial.objects.items ++ map Memory (range_with_len 0 l.memory)
