use Rattle.std.proofs.Common.{ap, ◌∙◌, arith}
use Rattle.plat_build.specs.Kept.{Waiting}
use Rattle.plat_build.proofs.StartLemmas.{starts_still_wait}
use Rattle.stepped_actors.proofs.begin.begin_initiators.Goals as goal

pub loop-number-preserved : goal.loop-number-preserved
loop-number-preserved g c =
    let before = c.loop-number in
    let kept = c.push_initiator-in-loop-number.ensures.kept in
    let made = c.in_ok-note-2.ensures in
    record {
      waiting = λ k late below. starts_still_wait before.kept c.push_initiator-in-loop-number.new.kept before.number k kept late (before.invariant.waiting k (omega arith) below);
      begun = made.begun;
      count = made.count;
      note = made.note;
      routers = ap (λ (w : Waiting). w.routers) kept ∙ before.invariant.routers;
      memories = ap (λ (w : Waiting). w.memories) kept ∙ before.invariant.memories;
    }
