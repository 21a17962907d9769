use Rattle.std.proofs.Common.{◌<◌, arith, rules}
use Rattle.tlm_types.specs.declared.words.ObjectNo.TheVariants.{Hop}
use Rattle.route_plan.specs.Valid.{hop_count}
use Rattle.plat_net.proofs.ObjectLemmas.{few_hops, pushed_more}
use Rattle.plat_build.proofs.objects.push_hops.Goals as goal

pub overflow_add-hop : goal.overflow_add-hop
overflow_add-hop c =
    let few = few_hops c.args.plan.now.platform c.platform.ensures.valid.shape.bounded in
    let below : c.hops.hop < hop_count c.args.plan.now.platform = c.hop_ends.ensures.there.0 (search (rules, c.is_some.ensures, c.hops-test.true)) in
    omega (arith, few, below)

pub hops-preserved : goal.hops-preserved
hops-preserved c =
    let below : c.hops.hop < hop_count c.args.plan.now.platform = c.hop_ends.ensures.there.0 (search (rules, c.is_some.ensures, c.hops-test.true)) in
    record {
      objects_are = pushed_more Hop c.args.objects.now.items c.hops.objects.items c.push.new.self.items c.hops.hop c.hops.invariant.objects_are c.in_ok-push.ensures.items;
      below = omega (arith, below);
    }
