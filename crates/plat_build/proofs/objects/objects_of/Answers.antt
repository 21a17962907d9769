use Rattle.std.proofs.Common.{◌≤◌, List, length, sym, subst}
use Rattle.std.specs.Prelude.{All}
use Rattle.tlm_types.specs.declared.words.ObjectNo.{ObjectNo}
use Rattle.route_plan.specs.Valid.{IsObject}
use Rattle.plat_net.proofs.ObjectLemmas.{all_there, few_objects}
use Rattle.plat_build.proofs.OpenLemmas.{objects_pushed}
use Rattle.plat_build.proofs.objects.objects_of.Goals as goal

pub returns-clause-objects : goal.returns-clause-objects
returns-clause-objects c = objects_pushed c.args.plan.now.platform c.new-objects.result.items c.push_memories.new.objects.items c.push_hops.new.objects.items c.push_pools.new.objects.items c.new-objects.ensures.items c.in_ok-push_memories.ensures c.in_ok-push_hops.ensures c.in_ok-push_pools.ensures

pub returns-clause-there : goal.returns-clause-there
returns-clause-there c =
    let p = c.args.plan.now.platform in
    let all = objects_pushed p c.new-objects.result.items c.push_memories.new.objects.items c.push_hops.new.objects.items c.push_pools.new.objects.items c.new-objects.ensures.items c.in_ok-push_memories.ensures c.in_ok-push_hops.ensures c.in_ok-push_pools.ensures in
    subst (λ (l : List ObjectNo). All (IsObject p) l) (sym all) (all_there p)

pub returns-clause-few : goal.returns-clause-few
returns-clause-few c =
    let p = c.args.plan.now.platform in
    let all = objects_pushed p c.new-objects.result.items c.push_memories.new.objects.items c.push_hops.new.objects.items c.push_pools.new.objects.items c.new-objects.ensures.items c.in_ok-push_memories.ensures c.in_ok-push_hops.ensures c.in_ok-push_pools.ensures in
    subst (λ (l : List ObjectNo). length l ≤ 336) (sym all) (few_objects p c.platform.ensures.valid.shape.bounded)
