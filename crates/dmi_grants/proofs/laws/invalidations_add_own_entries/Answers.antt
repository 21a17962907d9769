use Rattle.dmi_grants.proofs.Points.{invalidation_keeps_points}
use Rattle.dmi_grants.proofs.Telling.{invalidation_adds}
use Rattle.dmi_grants.proofs.laws.invalidations_add_own_entries.Goals as goal

pub returns-clause-adds : goal.returns-clause-adds
returns-clause-adds c = invalidation_adds

pub returns-clause-keeps : goal.returns-clause-keeps
returns-clause-keeps c = invalidation_keeps_points
