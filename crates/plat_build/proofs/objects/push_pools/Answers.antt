use Rattle.std.proofs.Common.{ap, ◌∙◌}
use Rattle.tlm_model.specs.declared.platform.Platform.{Platform}
use Rattle.plat_net.proofs.Lookups.{row_at}
use Rattle.plat_net.proofs.ObjectLemmas.{pools_more}
use Rattle.plat_build.proofs.objects.push_pools.Goals as goal

pub loop-number-preserved : goal.loop-number-preserved
loop-number-preserved c =
    let p = c.args.plan.now.platform in
    let rows = c.as_slice-row-items.ensures ∙ ap (λ (x : Platform). x.initiators) c.platform.ensures.same in
    let at = row_at c.as_slice-row-items.result.now p.initiators c.loop-number.number c.row-item.result rows c.loop-number-test.true c.row-item.is in
    pools_more p c.args.objects.now.items c.loop-number.objects.items c.push_pool.new.objects.items c.loop-number.number c.row-item.result at c.loop-number.invariant c.in_ok-push_pool.ensures
