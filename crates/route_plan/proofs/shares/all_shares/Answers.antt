use Rattle.std.proofs.Common.{◌≡◌, length, ap, ◌∙◌, arith}
use Rattle.tlm_model.specs.declared.platform.Platform.{Platform}
use Rattle.platform_shape.proofs.WalkLemmas.{values_more}
use Rattle.route_plan.specs.Shares.{initiator_shares, with_scripts}
use Rattle.route_plan.proofs.ShareLemmas.{shares_counted}
use Rattle.route_plan.proofs.shares.all_shares.Goals as goal

pub loop-initiator-preserved : goal.loop-initiator-preserved
loop-initiator-preserved c =
    let plan = with_scripts c.args.routes.now c.args.scripts.now in
    let count : length c.as_slice-initiator-end.result.now ≡ length c.args.routes.now.initiators = ap length c.as_slice-initiator-end.ensures ∙ ap (λ (p : Platform). length p.initiators) c.platform.ensures.same in
    values_more (initiator_shares plan) c.loop-initiator.rows.items c.push.new.self.items c.loop-initiator.initiator c.in_ok-row.row
    (c.in_ok-row.ensures ∙ shares_counted plan c.loop-initiator.initiator c.index-scripts-initiator.result (omega arith) (omega arith) c.index-scripts-initiator.is) c.in_ok-push.ensures.items c.loop-initiator.invariant
