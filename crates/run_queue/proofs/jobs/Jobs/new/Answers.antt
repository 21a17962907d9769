use Rattle.std.proofs.Common.{◌≡◌, ℕ, List, [], ◌++◌, append-nil, length, map, ap, subst, sym, ◌∙◌, arith}
use Rattle.std.proofs.lemmas.List.{length-map}
use Rattle.std.specs.List.{range_with_len}
use Rattle.run_queue.specs.declared.jobs.JobState.{JobState}
use Rattle.run_queue.specs.declared.jobs.JobState.TheVariants.{Waiting}
use Rattle.run_queue.specs.Queue.{finished_count}
use Rattle.run_queue.specs.Sound.{IsSound}
use Rattle.run_queue.proofs.Places.{sound_new, finished_count-map}
use Rattle.run_queue.proofs.jobs.Jobs.new.Goals as goal

pub invariant_of-result : goal.invariant_of-result
invariant_of-result g c =
    let jobs = c.args.jobs.items in
    let count : c.len-count.result ≡ length jobs = c.len-count.ensures ∙ c.args.jobs.ok.0 in
    let places : c.in_ok-places.places.items ≡ map Waiting jobs = c.in_ok-places.ensures in
    let order : c.in_ok-order.order.items ≡ range_with_len 0 (length jobs) = c.in_ok-order.ensures.order ∙ ap (range_with_len 0) count in
    let aside : c.in_ok-parked.parked.items ++ c.in_ok-resting.resting.items ≡ [] = ap (λ (l : List ℕ). l ++ c.in_ok-resting.resting.items) c.in_ok-parked.ensures.items ∙ c.in_ok-resting.ensures.items in
    let waiting : c.in_ok-order.order.items ++ (c.in_ok-parked.parked.items ++ c.in_ok-resting.resting.items) ≡ range_with_len 0 (length jobs) =
    ap (λ (l : List ℕ). c.in_ok-order.order.items ++ l) aside ∙ append-nil c.in_ok-order.order.items ∙ order in
    let length_places : length c.in_ok-places.places.items ≡ length jobs = ap (length {A = JobState g.row.J.Denot}) places ∙ length-map jobs (λ (j : g.row.J.Denot). Waiting j) in (
      subst (λ (ps : List (JobState g.row.J.Denot)). IsSound g.J.Job.number_of g.J.Job.is_done ps (c.in_ok-order.order.items ++ (c.in_ok-parked.parked.items ++ c.in_ok-resting.resting.items))) (sym places)
          (subst (IsSound g.J.Job.number_of g.J.Job.is_done (map Waiting jobs)) (sym waiting) (sound_new g.J.Job.number_of g.J.Job.is_done jobs c.requires)),
      sym (ap (finished_count {J = g.row.J.Denot}) places ∙ finished_count-map jobs),
      (omega (arith, c.in_ok-order.ensures.room), omega (arith, c.in_ok-parked.ensures.capacity), omega (arith, c.in_ok-resting.ensures.capacity)),
      c.in_ok-room.ensures.items,
      omega (arith, c.in_ok-room.ensures.exact),
    )
