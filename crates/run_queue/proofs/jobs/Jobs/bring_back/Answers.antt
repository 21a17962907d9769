use Rattle.std.proofs.Common.{◌≡◌, ℕ, ◌+◌, ◌<◌, ◌≤◌, Bool, List, [], ◌++◌, append_assoc, length, length-append, ap, subst, sym, ◌∙◌, arith}
use Rattle.std.proofs.lemmas.Bool.Decides.{nat_tests}
use Rattle.std.proofs.lemmas.List.Sums.{count_by-le-length}
use Rattle.run_queue.specs.declared.jobs.JobState.{JobState}
use Rattle.run_queue.specs.Queue.{Queue, brought_back, waits}
use Rattle.run_queue.specs.Sound.{IsSound}
use Rattle.run_queue.proofs.jobs.Jobs.bring_back.Goals as goal

module _ {J : Type 0} where
  -- those in line and those that are parked have room
  fits_all : (number_of : J → ℕ) (is_done : J → Bool) (places : List (JobState J)) (order parked resting : List ℕ) (room : ℕ) → IsSound number_of is_done places (order ++ (parked ++ resting)) → length places ≤ room → length order + length parked ≤ room
  fits_all number_of is_done places order parked resting room sound few =
      omega (arith, sound.counted, count_by-le-length (waits {J = J}) places, few, length-append order (parked ++ resting), length-append parked resting)

  not_brought : (q : Queue J) (round : ℕ) → round ≤ q.reached → q ≡ brought_back q round
  not_brought q round known = grind (arith, nat_tests)

  brought : (q : Queue J) (round : ℕ) (order parked : List ℕ) → q.reached < round → order ≡ q.order ++ q.parked → parked ≡ [] → record q { order = order; parked = parked; reached = round } ≡ brought_back q round
  brought q round order parked above joined none = grind (arith, nat_tests)

pub join-requires : goal.join-requires
join-requires g c =
    let s = c.self.inside in
    record { fits = fits_all g.J.Job.number_of g.J.Job.is_done s.places.items s.order.items s.parked.items s.resting.items _ c.self.invariant.0 c.self.invariant.2.0 }

pub invariant_of-self : goal.invariant_of-self
invariant_of-self g c =
    let s = c.self.inside in
    let i = c.self.invariant in
    let e = c.join.ensures in (
      subst (λ (l : List ℕ). IsSound g.J.Job.number_of g.J.Job.is_done s.places.items l)
          (sym (append_assoc s.order.items s.parked.items s.resting.items) ∙ (ap (λ (l : List ℕ). l ++ s.resting.items) (sym e.order) ∙ ap (λ (l : List ℕ). c.join.new.order.items ++ (l ++ s.resting.items)) (sym e.parked)))
          i.0,
      i.1,
      (subst (λ (n : ℕ). length s.places.items ≤ n) (sym e.room) i.2.0, subst (λ (n : ℕ). length s.places.items ≤ n) (sym e.parked_room) i.2.1, i.2.2),
      i.3,
      i.4,
    )

pub returns-else-self-round : goal.returns-else-self-round
returns-else-self-round g c =
    let s = c.self.inside in
    subst (λ (q : Queue g.row.J.Denot). q ≡ brought_back q c.args.round) c.self.view_is
    (not_brought (record { places = s.places.items; order = s.order.items; parked = s.parked.items; reached = s.reached; resting = s.resting.items; moves = s.moves; unfinished = s.unfinished }) c.args.round c.if-self-round.false)

pub returns-then-self-round : goal.returns-then-self-round
returns-then-self-round g c =
    let s = c.self.inside in
    let was : Queue g.row.J.Denot = record { places = s.places.items; order = s.order.items; parked = s.parked.items; reached = s.reached; resting = s.resting.items; moves = s.moves; unfinished = s.unfinished } in
    brought was c.args.round c.join.new.order.items c.join.new.parked.items c.if-self-round.true c.join.ensures.order c.join.ensures.parked ∙ ap (λ (q : Queue g.row.J.Denot). brought_back q c.args.round) c.self.view_is
