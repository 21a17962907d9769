use Rattle.std.proofs.Common.{◌+◌, ap, sym, ◌∙◌, arith}
use Rattle.plat_build.specs.Kept.{Waiting}
use Rattle.plat_run.specs.Actors.{number_of}
use Rattle.plat_build.proofs.StartLemmas.{counted_more, routers_still_wait}
use Rattle.plat_run.proofs.BeginLemmas.{numbered_more}
use Rattle.plat_run.proofs.begin.begin_routers.Goals as goal

pub loop-router-preserved : goal.loop-router-preserved
loop-router-preserved g c =
    let before = c.loop-router in
    let pushed = c.in_ok-push.ensures.items in
    let number = c.in_ok-job.ensures.number in
    let count = before.invariant.count in
    record {
      waiting = λ k late below. routers_still_wait before.kept c.begin_router.new.kept before.router k c.begin_router.ensures.kept late (before.invariant.waiting k (omega arith) below);
      numbered = numbered_more number_of before.jobs.items c.push.new.self.items _ before.invariant.numbered pushed (number ∙ sym count);
      count = omega (arith, counted_more before.jobs.items c.push.new.self.items _ (c.args.first + before.router) count pushed);
      memories = ap (λ (w : Waiting). w.memories) c.begin_router.ensures.kept ∙ before.invariant.memories;
    }
