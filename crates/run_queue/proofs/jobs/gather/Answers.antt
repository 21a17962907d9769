use Rattle.std.proofs.Common.{◌≡◌, List, ◌≤◌, length, subst, sym, ap, ◌∙◌, arith, rules}
use Rattle.std.proofs.lemmas.Iterator.Adapters.{YieldsList-from_vec}
use Rattle.std.proofs.lemmas.Iterator.Consumers.{YieldsList-turn}
use Rattle.run_queue.specs.Queue.{Gathers, job_of}
use Rattle.run_queue.proofs.Places.{gathers_more}
use Rattle.run_queue.proofs.jobs.gather.Goals as goal

pub loop-place-preserved : goal.loop-place-preserved
loop-place-preserved g c =
    let places = c.args.places.items in
    let e = c.into_iter-place-iterator.ensures.into_iter_gives in
    let t = YieldsList-turn (YieldsList-from_vec places e.0 (e.1 ∙ c.args.places.ok.0)) c.loop-place.yielded c.loop-place.place-iterator c.loop-place.yielded_by c.next.result c.next.new.self c.in-Some.place c.in-Some.is c.next.ensures.steps in
    let job = c.in_ok-job.job in
    let at : job_of c.in-Some.place ≡ Rattle.std.proofs.Common.Some job = search rules in
    record {
      gathers = subst (Gathers g.J.Job.number_of g.J.Job.is_done _) (sym c.push_reserved.ensures.items)
          (gathers_more g.J.Job.number_of g.J.Job.is_done places c.requires.placed c.loop-place.yielded c.loop-place.room.items c.in-Some.place job t.0 t.1 at c.loop-place.invariant.gathers);
      fits = omega (arith, c.push_reserved.ensures.capacity, c.loop-place.invariant.fits);
    }
