use Rattle.std.proofs.Common.{ap, subst}
use Rattle.one_history.specs.declared.view.Frame.{Frame}
use Rattle.tlm_model.specs.Plan.{Plan}
use Rattle.run_outcome.specs.Outcome.{IsWhole}
use Rattle.plat_core.proofs.net_schedule.run_opened_in_order.Goals as goal

pub returns : goal.returns
returns g c = subst (λ (p : Plan). IsWhole p c.end.result) (ap (λ (f : Frame Plan). f.world) c.requires.frame) c.end.ensures.whole
