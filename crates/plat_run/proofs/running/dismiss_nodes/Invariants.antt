use Rattle.std.proofs.Common.{length}
use Rattle.plat_run.specs.Actors.{is_done, number_of}
use Rattle.plat_run.proofs.GatherLemmas.{StillEnough}
use Rattle.plat_run.proofs.running.dismiss_nodes.Given as goal

abbrev pub invariant-nodes : goal.invariant-nodes
invariant-nodes g l = StillEnough number_of is_done l.count l.jobs.items

abbrev pub decreases-nodes : goal.decreases-nodes
decreases-nodes g l = length l.jobs.items
