use Rattle.std.proofs.Common.{◌+◌, sym, ◌∙◌, arith}
use Rattle.plat_run.specs.Actors.{number_of}
use Rattle.plat_build.proofs.StartLemmas.{counted_more, memories_still_wait}
use Rattle.plat_run.proofs.BeginLemmas.{numbered_more}
use Rattle.plat_run.proofs.begin.begin_memories.Goals as goal

pub loop-memory-preserved : goal.loop-memory-preserved
loop-memory-preserved g c =
    let before = c.loop-memory in
    let pushed = c.in_ok-push.ensures.items in
    let number = c.in_ok-job.ensures.number in
    let count = before.invariant.count in
    record {
      waiting = λ k late below. memories_still_wait before.kept c.begin_memory.new.kept before.memory k c.begin_memory.ensures.kept late (before.invariant.waiting k (omega arith) below);
      numbered = numbered_more number_of before.jobs.items c.push.new.self.items _ before.invariant.numbered pushed (number ∙ sym count);
      count = omega (arith, counted_more before.jobs.items c.push.new.self.items _ (c.args.first + before.memory) count pushed);
    }
