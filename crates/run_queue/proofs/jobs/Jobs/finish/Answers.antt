use Rattle.std.proofs.Common.{ℕ, ◌+◌, List, ◌++◌, ap, subst, sym, ◌∙◌, arith, length-set}
use Rattle.run_queue.specs.declared.jobs.JobState.{JobState}
use Rattle.run_queue.specs.declared.jobs.JobState.TheVariants.{Finished}
use Rattle.run_queue.specs.Queue.{IsOut}
use Rattle.run_queue.proofs.Places.{sound_ended, finished_ended}
use Rattle.run_queue.proofs.jobs.Jobs.finish.Goals as goal

pub invariant_of-self : goal.invariant_of-self
invariant_of-self g c =
    let places = c.self.inside.places.items in
    let order = c.self.inside.order.items in
    let parked = c.self.inside.parked.items ++ c.self.inside.resting.items in
    let n = c.number-number.result in
    let job = c.args.job in
    let inv = c.self.invariant in
    let out : IsOut places n = subst (λ (xs : List (JobState g.row.J.Denot)). IsOut xs n) c.deref.ensures.value (c.is_out.ensures.0 c.if-is_out.true) in
    let number = sym c.number-number.ensures in
    let length_new = length-set places n (Finished job) in (
      sound_ended g.J.Job.number_of g.J.Job.is_done places (order ++ parked) inv.0 n job out.0 out.1 number c.requires,
      ap (λ (m : ℕ). m + 1) inv.1 ∙ sym (finished_ended g.J.Job.number_of g.J.Job.is_done places (order ++ parked) inv.0 n job out.0 out.1 number),
      (omega (arith, inv.2.0), omega (arith, inv.2.1), omega (arith, inv.2.2)),
      inv.3,
      omega (arith, inv.4),
    )
