use Rattle.std.proofs.Common.{◌≡◌, map, subst}
use Rattle.time_board.specs.declared.rounds.Member.{Member}
use Rattle.plat_core.specs.Core.{CoreView, history_of}
use Rattle.plat_core.proofs.RoundsKept.{flags_agree}
use Rattle.plat_core.proofs.steps.Core.initiators.Goals as goal

pub returns-clause-rounds : goal.returns-clause-rounds
returns-clause-rounds c =
    subst (λ (v : CoreView). map (λ (m : Member). m.finished) v.rounds ≡ v.finished) c.self.view_is
    (flags_agree c.self.inside.plan.now (history_of c.self.inside.regions.items) c.self.inside.runs.items c.self.inside.rounds c.self.invariant.1)
