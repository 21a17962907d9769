use Rattle.std.proofs.Common.{◌*◌, ◌≤◌}
use Rattle.plat_core.specs.Fresh.{AreFresh}
use Rattle.plat_core.proofs.steps.begin_regions.Given as goal

-- the memories so far are fresh, and a memory has 256 gates at most
abbrev pub invariant-loop-number : goal.invariant-loop-number
invariant-loop-number l = record {
  fresh : AreFresh l.plan l.regions.items l.number;
  gates : l.first_gate ≤ 256 * l.number;
}
