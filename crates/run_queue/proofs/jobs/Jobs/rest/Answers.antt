use Rattle.std.proofs.Common.{ℕ, List, [], ◌∷◌, ◌++◌, append_assoc, ap, set, subst, sym, ◌∙◌, arith, length-set, length-append}
use Rattle.run_queue.specs.declared.jobs.JobState.{JobState}
use Rattle.run_queue.specs.declared.jobs.JobState.TheVariants.{Waiting}
use Rattle.run_queue.specs.Queue.{IsOut}
use Rattle.run_queue.specs.Sound.{IsSound}
use Rattle.run_queue.proofs.Places.{sound_given, given_fits, finished_given}
use Rattle.run_queue.proofs.jobs.Jobs.rest.Goals as goal

pub push_back_reserved-requires : goal.push_back_reserved-requires
push_back_reserved-requires g c =
    let places = c.self.inside.places.items in
    let n = c.number-number.result in
    let inv = c.self.invariant in
    let out : IsOut places n = subst (λ (xs : List (JobState g.row.J.Denot)). IsOut xs n) c.deref.ensures.value (c.is_out.ensures.0 c.if-is_out.true) in
    let order = c.self.inside.order.items in
    let parked = c.self.inside.parked.items ++ c.self.inside.resting.items in
    let fits = given_fits g.J.Job.number_of g.J.Job.is_done places (order ++ parked) inv.0 n c.args.job out.0 out.1 (sym c.number-number.ensures) in
    omega (arith, inv.2.2, c.self.inside.resting.ok.0, length-append order parked, length-append c.self.inside.parked.items c.self.inside.resting.items)

pub invariant_of-self : goal.invariant_of-self
invariant_of-self g c =
    let places = c.self.inside.places.items in
    let order = c.self.inside.order.items in
    let parked = c.self.inside.parked.items ++ c.self.inside.resting.items in
    let n = c.number-number.result in
    let job = c.args.job in
    let inv = c.self.invariant in
    let out : IsOut places n = subst (λ (xs : List (JobState g.row.J.Denot)). IsOut xs n) c.deref.ensures.value (c.is_out.ensures.0 c.if-is_out.true) in
    let number = sym c.number-number.ensures in
    let length_new = length-set places n (Waiting job) in (
      subst (IsSound g.J.Job.number_of g.J.Job.is_done (set places n (Waiting job)))
          (append_assoc order parked (n ∷ []) ∙ ap (λ (l : List ℕ). order ++ l) (append_assoc c.self.inside.parked.items c.self.inside.resting.items (n ∷ []) ∙ ap (λ (l : List ℕ). c.self.inside.parked.items ++ l) (sym c.push_back_reserved.ensures.items)))
          (sound_given g.J.Job.number_of g.J.Job.is_done places (order ++ parked) inv.0 n job out.0 out.1 number),
      inv.1 ∙ sym (finished_given g.J.Job.number_of g.J.Job.is_done places (order ++ parked) inv.0 n job out.0 out.1 number),
      (omega (arith, inv.2.0), omega (arith, inv.2.1), omega (arith, inv.2.2, c.push_back_reserved.ensures.capacity)),
      inv.3,
      omega (arith, inv.4),
    )
