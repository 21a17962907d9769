use Rattle.std.proofs.Common.{◌≡◌, ◌++◌, List, length, take, drop, replicate, sym, ap, subst, ◌∙◌, arith}
use Rattle.std.proofs.Math.Seq.{take-append_seam}
use Rattle.tlm_model.specs.declared.operation.Operation.{Operation}
use Rattle.route_plan.specs.declared.counts.Count.{Count}
use Rattle.route_plan.specs.Counted.{Counted, counted_in}
use Rattle.route_plan.specs.Counts.{AreMore, no_count}
use Rattle.route_plan.proofs.CountLemmas.{all_counted, few_counted}
use Rattle.route_plan.proofs.counts.counts.Goals as goal

pub returns-clause-counted : goal.returns-clause-counted
returns-clause-counted c =
    let p = c.args.routes.now in
    let n = c.args.initiator in
    let places = c.objects.result in
    let after = c.add_pieces.new.counts in
    let size : length after ≡ c.in_ok-counts.counts.len = omega (arith, c.add_pieces.auto.counts, c.as_mut_slice.ensures.len) in
    let empty : c.as_mut_slice.result.now ≡ replicate places no_count =
    c.as_mut_slice.ensures.value ∙ c.in_ok-counts.ensures.items_if_clones_equal (λ y e. e) ∙ ap (λ (none : Count). replicate places none) c.of_entries-none.ensures in
    let more : AreMore (λ (x : Counted) k. counted_in x p n k c.args.script.now) c.as_mut_slice.result.now after =
    subst (λ (script : List Operation). AreMore (λ (x : Counted) k. counted_in x p n k script) c.as_mut_slice.result.now after) c.pieces.ensures.written c.add_pieces.ensures in
    let rest = drop (length after) c.in_ok-counts.counts.items in
    ap (λ k. take k (after ++ rest)) (sym size) ∙ take-append_seam after rest
    ∙ all_counted p n places c.args.script.now c.as_mut_slice.result.now after c.platform.ensures.shape c.pieces.ensures.proper c.objects.ensures empty c.add_pieces.auto.counts more

pub returns-clause-few : goal.returns-clause-few
returns-clause-few c = few_counted c.args.routes.now c.args.initiator c.args.script.now _ c.platform.ensures.shape c.pieces.ensures.proper (returns-clause-counted c)
