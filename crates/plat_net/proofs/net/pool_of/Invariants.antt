use Rattle.std.proofs.Common.{◌≢◌, ◌≡◌, ℕ, ◌<◌}
use mathlib.Core.Option.{some}
use lib.ListN.{get_elem?}
use Rattle.shared_object.specs.Standing.{Numbers}
use Rattle.plat_net.proofs.net.pool_of.Given as goal

abbrev pub invariant-loop-pool : goal.invariant-loop-pool
invariant-loop-pool g l = (k : ℕ) (s : Numbers) → k < l.pool-index → get_elem? l.pools k ≡ some s → s.own ≢ l.initiator
