use Rattle.std.proofs.Common.{◌<◌, ap, ◌∙◌, arith}
use Rattle.tlm_model.specs.declared.platform.Platform.{Platform}
use Rattle.platform_shape.proofs.WalkLemmas.{values_more}
use Rattle.route_plan.specs.Counts.{count_in}
use Rattle.route_plan.specs.Places.{object_count}
use Rattle.route_plan.specs.Shares.{share_in}
use Rattle.route_plan.proofs.ShareLemmas.{few_within, place_within, share_of_count}
use Rattle.route_plan.proofs.shares.script_shares.Goals as goal

pub index-requires : goal.index-requires
index-requires c =
    let lt : c.loop-place.place < object_count c.args.routes.now = omega (arith, c.loop-place-test.true, c.objects-place-end.ensures) in
    let there = place_within c.args.routes.now c.args.initiator c.loop-place.place c.args.script.now c.in_ok-counts.counts.items c.in_ok-counts.ensures.counted lt in
    omega (arith, there)

pub counted_share-requires-clause-few : goal.counted_share-requires-clause-few
counted_share-requires-clause-few c =
    let lt : c.loop-place.place < object_count c.args.routes.now = omega (arith, c.loop-place-test.true, c.objects-place-end.ensures) in
    few_within c.args.routes.now c.args.initiator c.loop-place.place c.args.script.now c.in_ok-counts.counts.items c.index.result.now c.in_ok-counts.ensures.few c.in_ok-counts.ensures.counted lt c.index.ensures

pub loop-place-preserved : goal.loop-place-preserved
loop-place-preserved c =
    let p = c.args.routes.now in
    let n = c.args.initiator in
    let script = c.args.script.now in
    let k = c.loop-place.place in
    let lt : k < object_count p = omega (arith, c.loop-place-test.true, c.objects-place-end.ensures) in
    values_more (λ k. share_in p n k (count_in p n script k)) c.loop-place.shares.items c.push.new.self.items k c.in_ok-share.share
    (c.in_ok-share.ensures ∙ ap (λ (p : Platform). share_in p n k c.index.result.now) c.platform-platform.ensures.same
    ∙ share_of_count p n k script c.in_ok-counts.counts.items c.index.result.now c.in_ok-counts.ensures.counted lt c.index.ensures) c.in_ok-push.ensures.items c.loop-place.invariant
