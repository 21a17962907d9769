use Rattle.std.proofs.Common.{ℕ, List, ◌++◌, length-append, subst, sym, arith}
use Rattle.std.proofs.lemmas.List.Sums.{count_by-le-length}
use Rattle.run_queue.specs.Queue.{waits}
use Rattle.run_queue.specs.Sound.{IsSound}
use Rattle.run_queue.proofs.Places.{sound_woken}
use Rattle.run_queue.proofs.jobs.Jobs.wake.Goals as goal

pub join-requires : goal.join-requires
join-requires g c =
    let s = c.self.inside in
    let i = c.self.invariant in
    let few = count_by-le-length (waits {J = g.row.J.Denot}) s.places.items in
    record { fits = omega (arith, i.0.counted, few, i.2.0, length-append s.order.items (s.parked.items ++ s.resting.items), length-append s.parked.items s.resting.items) }

pub invariant_of-self : goal.invariant_of-self
invariant_of-self g c =
    let s = c.self.inside in
    let i = c.self.invariant in
    let e = c.join.ensures in
    let sound = sound_woken g.J.Job.number_of g.J.Job.is_done s.places.items s.order.items s.parked.items s.resting.items i.0 in (
      subst (λ (l : List ℕ). IsSound g.J.Job.number_of g.J.Job.is_done s.places.items (l ++ (s.parked.items ++ c.join.new.parked.items))) (sym e.order)
          (subst (λ (l : List ℕ). IsSound g.J.Job.number_of g.J.Job.is_done s.places.items ((s.order.items ++ s.resting.items) ++ (s.parked.items ++ l))) (sym e.parked) sound),
      i.1,
      (omega (arith, i.2.0, e.room), i.2.1, omega (arith, i.2.2, e.parked_room)),
      i.3,
      i.4,
    )
