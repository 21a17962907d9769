use Rattle.std.proofs.lemmas.Bool.{false≢true}
use Rattle.plat_run.proofs.port_job.PortJob.new.Goals as goal

pub invariant_of-result : goal.invariant_of-result
invariant_of-result g c = record { number_is = c.requires.number; below = c.requires.below; ended = λ f. absurd (false≢true f) }
