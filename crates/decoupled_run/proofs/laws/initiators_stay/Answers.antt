use Rattle.decoupled_run.proofs.MoreLemmas.{job_stays, stepped_stays}
use Rattle.decoupled_run.proofs.laws.initiators_stay.Goals as goal

pub returns-clause-job : goal.returns-clause-job
returns-clause-job c = job_stays

pub returns-clause-stepped : goal.returns-clause-stepped
returns-clause-stepped c = stepped_stays
