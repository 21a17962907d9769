use Rattle.std.proofs.Common.{◌≡◌, ◌+◌, length, ap, ◌∙◌, arith, subst}
use Rattle.one_history.specs.declared.view.Frame.{Frame}
use Rattle.tlm_model.specs.declared.platform.Platform.{Platform}
use Rattle.tlm_model.specs.Plan.{Plan}
use Rattle.plat_net.specs.Net.{ArePoolsTo}
use Rattle.plat_net.proofs.ObjectLemmas.{count_of, count_planned}
use Rattle.plat_build.proofs.PoolLemmas.{pools_long}
use Rattle.plat_build.proofs.pools.make_pools.Goals as goal

pub returns-clause-next : goal.returns-clause-next
returns-clause-next g c =
    let p = c.args.plan.now in
    let i = c.loop-number.invariant in
    let rows = ap length (c.as_slice-row-items.ensures ∙ ap (λ (x : Platform). x.initiators) c.platform.ensures.same) in
    let end : c.loop-number.number ≡ length p.platform.initiators = (let a = c.loop-number-test.false in let b = c.loop-number.auto.number-end in omega (arith, rows)) in
    let all : ArePoolsTo p.platform (length p.platform.initiators) c.loop-number.pools.items = subst (λ (n : _). ArePoolsTo p.platform n c.loop-number.pools.items) end i.pools_are in
    omega (arith, i.next, pools_long p.platform (length p.platform.initiators) c.loop-number.pools.items all, count_of p.platform, count_planned p, ap (λ (f : Frame Plan). length f.planned) c.requires.frame)
