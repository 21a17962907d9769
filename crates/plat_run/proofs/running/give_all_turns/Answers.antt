use Rattle.std.proofs.Common.{◌≡◌, ◌≤◌, List, length, ap, subst, sym, ◌∙◌, map, arith}
use Rattle.std.specs.Prelude.{count_by}
use Rattle.std.specs.Vec.{with_items}
use Rattle.std.proofs.lemmas.List.{length-map, with_items_is}
use Rattle.run_queue.specs.Queue.{AreNumbered}
use Rattle.plat_run.specs.declared.actor.Actor.{Actor}
use Rattle.plat_run.specs.Actors.{is_done, number_of}
use Rattle.plat_run.proofs.GatherLemmas.{numbered_again, numbered_pass}
use Rattle.plat_run.proofs.running.give_all_turns.Goals as goal

pub returns-clause-numbered : goal.returns-clause-numbered
returns-clause-numbered g c =
    let jobs = c.args.jobs in
    let after = c.work_alone.new.jobs in
    let kept : (with_items jobs after).items ≡ after = with_items_is jobs after (omega (arith, c.work_alone.auto.jobs, c.deref_mut.ensures.len)) in
    let same : map number_of after ≡ map number_of jobs.items = c.work_alone.ensures.numbers ∙ ap (map number_of) c.deref_mut.ensures.value in
    subst (AreNumbered number_of) (sym kept) (numbered_again number_of jobs.items after same c.requires.numbered)

pub returns-clause-enough : goal.returns-clause-enough
returns-clause-enough g c =
    let jobs = c.args.jobs in
    let after = c.work_alone.new.jobs in
    let kept : (with_items jobs after).items ≡ after = with_items_is jobs after (omega (arith, c.work_alone.auto.jobs, c.deref_mut.ensures.len)) in
    let same : map number_of after ≡ map number_of jobs.items = c.work_alone.ensures.numbers ∙ ap (map number_of) c.deref_mut.ensures.value in
    let long : length after ≡ length jobs.items = sym (length-map after number_of) ∙ (ap length same ∙ length-map jobs.items number_of) in
    let many : c.args.count ≤ length after = (let m = c.requires.many in omega arith) in
    subst (λ (l : List (Actor g.row.N.Denot)). c.args.count ≤ count_by is_done l) (sym kept)
    (numbered_pass number_of is_done c.args.count after (numbered_again number_of jobs.items after same c.requires.numbered) c.work_alone.ensures.done many)
