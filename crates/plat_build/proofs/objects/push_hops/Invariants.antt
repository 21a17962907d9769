use Rattle.std.proofs.Common.{◌≡◌, ◌-◌, ◌≤◌, ◌++◌, map}
use Rattle.std.specs.List.{range_with_len}
use Rattle.tlm_types.specs.declared.words.ObjectNo.TheVariants.{Hop}
use Rattle.route_plan.specs.Valid.{hop_count}
use Rattle.plat_build.proofs.objects.push_hops.Given as goal

abbrev pub invariant-hops : goal.invariant-hops
invariant-hops l = record {
  objects_are : l.objects.items ≡ l.initial.objects.items ++ map Hop (range_with_len 0 l.hop);
  below : l.hop ≤ hop_count l.plan.platform;
}

abbrev pub decreases-hops : goal.decreases-hops
decreases-hops l = hop_count l.plan.platform - l.hop
