use Rattle.std.proofs.Common.{◌≡◌, ℕ, ◌*◌, ◌≤◌, length, take, sum}
use mathlib.Core.Option.{some}
use lib.ListN.{get_elem?}
use Rattle.shared_object.specs.Standing.{Numbers}
use Rattle.cargo_net.specs.Gates.{gates_of}
use Rattle.plat_net.specs.Net.{memory_numbers}
use Rattle.plat_build.proofs.memories.make_memories.Given as goal

abbrev pub invariant-loop-number : goal.invariant-loop-number
invariant-loop-number g l = record {
  next : l.supplies ≡ l.number;
  gate : l.first_gate ≡ sum (take l.number (gates_of l.plan.platform));
  few_gates : l.first_gate ≤ 256 * l.number;
  count : length l.memories.items ≡ l.number;
  each : (m : ℕ) (s : Numbers) → get_elem? l.memories.items m ≡ some s → s ≡ memory_numbers m;
}
