use Rattle.std.proofs.Common.{◌≡◌, ◌<◌, length, true, sym, ◌∙◌, arith}
use Rattle.std.proofs.Math.Seq.{map-set_same}
use Rattle.std.proofs.lemmas.List.Elements.{AllWithin-more_set}
use Rattle.plat_run.specs.Actors.{is_done, number_of}
use Rattle.plat_run.proofs.workers.give_round.Goals as goal
use Rattle.plat_run.proofs.workers.give_round.Goals.{then-visit, else-visit}

pub loop-job-preserved : goal.loop-job-preserved
loop-job-preserved g c =
    let l = c.loop-job in
    let within : l.job-index < length l.jobs = omega arith in
    record {
      numbers = map-set_same number_of l.jobs l.job-index c.visit.new.self c.job-item.result c.visit.ensures.number ∙ l.invariant.numbers;
      more = λ none. elim c.if-visit.branch [
        | then-visit w ↦ let is = w.more-is in cc
        | else-visit w ↦ AllWithin-more_set l.jobs l.job-index c.visit.new.self within (λ job. number_of job < c.args.count → is_done job ≡ true) (l.invariant.more (sym w.more-is ∙ none)) (c.visit.ensures.more w.if-visit.false)
      ];
    }
