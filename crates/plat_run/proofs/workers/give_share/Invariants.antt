use Rattle.std.proofs.Common.{◌≡◌}
use Rattle.plat_run.specs.Actors.{number_of}
use Rattle.plat_run.proofs.workers.give_share.Given as goal

abbrev pub invariant-loop-turn : goal.invariant-loop-turn
invariant-loop-turn g l = number_of l.job ≡ number_of l.initial.job
