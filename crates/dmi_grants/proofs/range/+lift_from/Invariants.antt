use Rattle.dmi_grants.proofs.range.+lift_from.Given as goal

abbrev pub decreases-lift_from : goal.decreases-lift_from
decreases-lift_from l = l.left
