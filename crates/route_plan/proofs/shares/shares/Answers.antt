use Rattle.std.proofs.Common.{◌≡◌, ◌<◌, map, ap, ◌∙◌, arith}
use Rattle.std.specs.List.{range_with_len}
use Rattle.platform_shape.proofs.WalkLemmas.{values_more}
use Rattle.route_plan.specs.Places.{object_count}
use Rattle.route_plan.specs.Shares.{object_shares, shares_of, with_scripts}
use Rattle.route_plan.proofs.ShareLemmas.{object_by_rows, rows_reach}
use Rattle.route_plan.proofs.shares.shares.Goals as goal

pub object_shares-requires : goal.object_shares-requires
object_shares-requires c =
    let plan = with_scripts c.args.routes.now c.args.scripts.now in
    let there : c.loop-place.place < object_count c.args.routes.now = omega (arith, c.loop-place-test.true, c.objects-place-end.ensures) in
    rows_reach plan c.as_slice.result.now c.loop-place.place (c.as_slice.ensures.value ∙ c.in_ok-rows.ensures) there

pub loop-place-preserved : goal.loop-place-preserved
loop-place-preserved c =
    let plan = with_scripts c.args.routes.now c.args.scripts.now in
    let there : c.loop-place.place < object_count c.args.routes.now = omega (arith, c.loop-place-test.true, c.objects-place-end.ensures) in
    values_more (object_shares plan) c.loop-place.shares.items c.push.new.self.items c.loop-place.place c.in_ok-more.more
    (object_by_rows plan c.as_slice.result.now c.loop-place.place c.in_ok-more.more (c.as_slice.ensures.value ∙ c.in_ok-rows.ensures) there c.in_ok-more.ensures) c.in_ok-push.ensures.items c.loop-place.invariant

pub returns : goal.returns
unfolding shares_of
returns c =
    let plan = with_scripts c.args.routes.now c.args.scripts.now in
    let all : c.loop-place.place ≡ object_count c.args.routes.now = omega (arith, c.objects-place-end.ensures) in
    c.from_vec.ensures ∙ c.loop-place.invariant ∙ ap (λ k. map (object_shares plan) (range_with_len 0 k)) all
