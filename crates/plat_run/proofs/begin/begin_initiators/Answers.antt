use Rattle.std.proofs.Common.{ap, sym, ◌∙◌, arith}
use Rattle.plat_build.specs.Kept.{Waiting}
use Rattle.plat_run.specs.Actors.{number_of}
use Rattle.plat_build.proofs.StartLemmas.{counted_more, starts_still_wait}
use Rattle.plat_run.proofs.BeginLemmas.{numbered_more}
use Rattle.plat_run.proofs.begin.begin_initiators.Goals as goal

pub loop-number-preserved : goal.loop-number-preserved
loop-number-preserved g c =
    let before = c.loop-number in
    let pushed = c.in_ok-push.ensures.items in
    record {
      waiting = λ k late below. starts_still_wait before.kept c.start-start.new.self before.number k c.start-start.ensures.kept late (before.invariant.waiting k (omega arith) below);
      numbered = numbered_more number_of before.jobs.items c.push.new.self.items _ before.invariant.numbered pushed (c.in_ok-job.ensures ∙ sym before.invariant.count);
      count = counted_more before.jobs.items c.push.new.self.items _ before.number before.invariant.count pushed;
      routers = ap (λ (w : Waiting). w.routers) c.start-start.ensures.kept ∙ before.invariant.routers;
      memories = ap (λ (w : Waiting). w.memories) c.start-start.ensures.kept ∙ before.invariant.memories;
    }
