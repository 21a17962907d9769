use Rattle.std.proofs.Common.{refl, ap, get_or}
use Rattle.std.proofs.lemmas.Result.{IfOk-weaker}
use Rattle.one_history.specs.declared.view.Frame.{Frame}
use Rattle.tlm_model.specs.Plan.{Plan}
use Rattle.plat_core.specs.NetOutcome.{IsCut, IsScheduledBy}
use Rattle.plat_core.proofs.NetFollow.{net_followed_next, net_scheduled}
use Rattle.plat_core.proofs.net_schedule.run_opened.Goals as goal

pub loop-number-init : goal.loop-number-init
loop-number-init g c = refl

pub loop-number-preserved : goal.loop-number-preserved
loop-number-preserved g c =
    let n = g.N.Naming in
    net_followed_next n.table n.tokens n.frame c.in_ok-core.core c.loop-number.core c.take_number.new.self c.args.schedule.now c.loop-number.number-index (get_or c.args.schedule.now c.loop-number.number-index 0) c.loop-number-test.true refl c.loop-number.invariant c.take_number.ensures c.keep-in-loop-number.ensures

pub returns : goal.returns
returns g c =
    let n = g.N.Naming in
    IfOk-weaker c.into_outcome.result (IsCut n.frame.world c.loop-number.core) (IsScheduledBy c.args.plan.now c.args.schedule.now)
    (λ o is. net_scheduled n.table n.tokens n.frame c.args.plan.now c.args.schedule.now c.loop-number.number-index c.in_ok-core.core c.loop-number.core o (ap (λ (f : Frame Plan). f.world) c.requires.frame) c.loop-number-test.false c.in_ok-core.ensures c.keep.ensures c.loop-number.invariant is)
    c.into_outcome.ensures
