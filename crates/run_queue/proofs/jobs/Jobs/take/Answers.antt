use Rattle.std.proofs.Common.{◌≡◌, ℕ, ◌<◌, ◌≤◌, List, [], ◌∷◌, ◌++◌, set, refl, ap, subst, sym, ◌∙◌, arith, length-set}
use Rattle.run_queue.specs.declared.jobs.JobState.{JobState}
use Rattle.run_queue.specs.declared.jobs.JobState.TheVariants.{Waiting, Out}
use Rattle.run_queue.specs.declared.jobs.TakenJob.{TakenJob}
use Rattle.run_queue.specs.declared.jobs.TakenJob.TheVariants.{Took, Nothing, AllDone}
use Rattle.run_queue.specs.Queue.{IsLine, Queue, job_place, waits, job_of, finished_count}
use Rattle.run_queue.specs.Sound.{IsSound}
use Rattle.run_queue.proofs.Places.{first_waits, waits_within, waits_is, place_of_read, sound_taken, finished_taken}
use Rattle.run_queue.proofs.jobs.Jobs.take.Goals as goal

-- which answer it was
module _ {J : Type 0} where
  took_done : (job : J) (done unfinished : ℕ) → done < unfinished → (Took job ≡ AllDone → unfinished ≤ done) × (unfinished ≤ done → Took job ≡ AllDone)
  took_done job done unfinished few = (λ e. absurd (apart e), λ enough. absurd (omega (arith, few, enough)))
    where
      apart : Took job ≡ AllDone → ⊥
      apart e = cc

  took_nothing : (job : J) (n : ℕ) (order rest : List ℕ) (done unfinished : ℕ) → order ≡ n ∷ rest → (Took job ≡ Nothing → (order ≡ []) × (done < unfinished)) × ((order ≡ []) × (done < unfinished) → Took job ≡ Nothing)
  took_nothing job n order rest done unfinished first = (λ e. absurd (apart e), λ none. absurd (filled none.0))
    where
      apart : Took job ≡ Nothing → ⊥
      apart e = cc

      filled : order ≡ [] → ⊥
      filled none = cc

  nothing_done : (done unfinished : ℕ) → done < unfinished → (◌≡◌ {A = TakenJob J} Nothing AllDone → unfinished ≤ done) × (unfinished ≤ done → ◌≡◌ {A = TakenJob J} Nothing AllDone)
  nothing_done done unfinished few = (λ e. absurd (apart e), λ enough. absurd (omega (arith, few, enough)))
    where
      apart : ◌≡◌ {A = TakenJob J} Nothing AllDone → ⊥
      apart e = cc

  done_nothing : (order : List ℕ) (done unfinished : ℕ) → unfinished ≤ done → (◌≡◌ {A = TakenJob J} AllDone Nothing → (order ≡ []) × (done < unfinished)) × ((order ≡ []) × (done < unfinished) → ◌≡◌ {A = TakenJob J} AllDone Nothing)
  done_nothing order done unfinished enough = (λ e. absurd (apart e), λ none. absurd (omega (arith, enough, none.1)))
    where
      apart : ◌≡◌ {A = TakenJob J} AllDone Nothing → ⊥
      apart e = cc

pub index_mut-requires : goal.index_mut-requires
index_mut-requires g c =
    let places = c.self.inside.places.items in
    let parked = c.self.inside.parked.items ++ c.self.inside.resting.items in
    let n = c.in-Some.number in
    let waiting = first_waits g.J.Job.number_of g.J.Job.is_done places (c.self.inside.order.items ++ parked) c.self.invariant.0 n _ (ap (λ (l : List ℕ). l ++ parked) c.in-Some.ensures.items) in
    let within = waits_within places n waiting in
    omega (arith, c.self.inside.places.ok.0)

pub unreachable-requires : goal.unreachable-requires
unreachable-requires g c =
    let places = c.self.inside.places.items in
    let parked = c.self.inside.parked.items ++ c.self.inside.resting.items in
    let n = c.in-Some.number in
    let waiting = first_waits g.J.Job.number_of g.J.Job.is_done places (c.self.inside.order.items ++ parked) c.self.invariant.0 n _ (ap (λ (l : List ℕ). l ++ parked) c.in-Some.ensures.items) in
    let here = place_of_read places n c.index_mut.result.now (waits_within places n waiting) c.index_mut.ensures.value in
    waits_is c.replace.result (ap waits c.replace.ensures.value ∙ ap waits (sym here) ∙ waiting) c.in_default-replace.not-Waiting

pub invariant_of-self-2 : goal.invariant_of-self-2
invariant_of-self-2 g c =
    let places = c.self.inside.places.items in
    let parked = c.self.inside.parked.items ++ c.self.inside.resting.items in
    let waiting = c.self.inside.order.items ++ parked in
    let line = ap (λ (l : List ℕ). l ++ parked) c.in-Some.ensures.items in
    let n = c.in-Some.number in
    let inv = c.self.invariant in
    let out = sym c.replace.ensures.after in
    let length_new = length-set places n c.replace.new.dest in (
      subst (λ (p : JobState g.row.J.Denot). IsSound g.J.Job.number_of g.J.Job.is_done (set places n p) (c.pop_front.new.self.items ++ parked)) out
          (sound_taken g.J.Job.number_of g.J.Job.is_done places waiting inv.0 n _ line),
      inv.1 ∙ sym (finished_taken g.J.Job.number_of g.J.Job.is_done places waiting inv.0 n _ line) ∙ ap (λ (p : JobState g.row.J.Denot). finished_count (set places n p)) out,
      (omega (arith, inv.2.0, c.in-Some.ensures.capacity), omega (arith, inv.2.1), omega (arith, inv.2.2)),
      inv.3,
      omega (arith, inv.4),
    )

pub returns-clause-took : goal.returns-clause-took
returns-clause-took g c =
    let places = c.self.inside.places.items in
    let parked = c.self.inside.parked.items ++ c.self.inside.resting.items in
    let n = c.in-Some.number in
    let job = c.in-Waiting.job in
    let inv = c.self.invariant in
    let waiting = first_waits g.J.Job.number_of g.J.Job.is_done places (c.self.inside.order.items ++ parked) inv.0 n _ (ap (λ (l : List ℕ). l ++ parked) c.in-Some.ensures.items) in
    let read = place_of_read places n c.index_mut.result.now (waits_within places n waiting) c.index_mut.ensures.value in
    let here : job_place places n ≡ Waiting job = read ∙ sym c.replace.ensures.value ∙ c.in-Waiting.is in
    let number : g.J.Job.number_of job ≡ n = inv.0.placed.numbered n job (ap job_of here) in
    let seen = c.self.view_is in
    let left = c.pop_front.new.self.items in
    let was : Queue g.row.J.Denot = record {
      places = places;
      order = c.self.inside.order.items;
      parked = c.self.inside.parked.items;
      reached = c.self.inside.reached;
      resting = c.self.inside.resting.items;
      moves = c.self.inside.moves;
      unfinished = c.self.inside.unfinished;
    } in
    record {
      first = ap (λ (q : Queue g.row.J.Denot). q.order) (sym seen) ∙ c.in-Some.ensures.items ∙ ap (λ (m : ℕ). m ∷ c.pop_front.new.self.items) (sym number);
      waited = ap (λ (q : Queue g.row.J.Denot). job_place q.places (g.J.Job.number_of job)) (sym seen) ∙ ap (job_place places) number ∙ here;
      out =
          ap (λ (p : JobState g.row.J.Denot). record was { places = set places n p; order = left }) c.replace.ensures.after
          ∙ ap (λ (m : ℕ). record was { places = set places m Out; order = left }) (sym number)
          ∙ ap (λ (q : Queue g.row.J.Denot). record q { places = set q.places (g.J.Job.number_of job) Out; order = left }) seen;
    }

pub returns-clause-all_done : goal.returns-clause-all_done
returns-clause-all_done g c =
    let few : finished_count c.args.self.now.places < c.args.self.now.unfinished = subst (λ (q : Queue g.row.J.Denot). finished_count q.places < q.unfinished) c.self.view_is (subst (λ (n : ℕ). n < c.self.inside.unfinished) c.self.invariant.1 c.if-self.false) in
    took_done c.in-Waiting.job (finished_count c.args.self.now.places) c.args.self.now.unfinished few

pub returns-clause-nothing : goal.returns-clause-nothing
returns-clause-nothing g c =
    took_nothing c.in-Waiting.job c.in-Some.number c.args.self.now.order c.pop_front.new.self.items (finished_count c.args.self.now.places) c.args.self.now.unfinished (ap (λ (q : Queue g.row.J.Denot). q.order) (sym c.self.view_is) ∙ c.in-Some.ensures.items)

pub returns-clause-line : goal.returns-clause-line
returns-clause-line g c = subst (λ (q : Queue g.row.J.Denot). IsLine q) c.self.view_is c.self.invariant.0.line

pub returns-in_default-clause-all_done : goal.returns-in_default-clause-all_done
returns-in_default-clause-all_done g c =
    let few : finished_count c.args.self.now.places < c.args.self.now.unfinished = subst (λ (q : Queue g.row.J.Denot). finished_count q.places < q.unfinished) c.self.view_is (subst (λ (n : ℕ). n < c.self.inside.unfinished) c.self.invariant.1 c.if-self.false) in
    nothing_done (finished_count c.args.self.now.places) c.args.self.now.unfinished few

pub returns-in_default-clause-line : goal.returns-in_default-clause-line
returns-in_default-clause-line g c = subst (λ (q : Queue g.row.J.Denot). IsLine q) c.self.view_is c.self.invariant.0.line

pub returns-then-self-clause-all_done : goal.returns-then-self-clause-all_done
returns-then-self-clause-all_done g c =
    let enough : c.args.self.now.unfinished ≤ finished_count c.args.self.now.places = subst (λ (q : Queue g.row.J.Denot). q.unfinished ≤ finished_count q.places) c.self.view_is (subst (λ (n : ℕ). c.self.inside.unfinished ≤ n) c.self.invariant.1 c.if-self.true) in
    (λ e. enough, λ is. refl)

pub returns-then-self-clause-nothing : goal.returns-then-self-clause-nothing
returns-then-self-clause-nothing g c =
    let enough : c.args.self.now.unfinished ≤ finished_count c.args.self.now.places = subst (λ (q : Queue g.row.J.Denot). q.unfinished ≤ finished_count q.places) c.self.view_is (subst (λ (n : ℕ). c.self.inside.unfinished ≤ n) c.self.invariant.1 c.if-self.true) in
    done_nothing c.args.self.now.order (finished_count c.args.self.now.places) c.args.self.now.unfinished enough

pub returns-then-self-clause-line : goal.returns-then-self-clause-line
returns-then-self-clause-line g c = subst (λ (q : Queue g.row.J.Denot). IsLine q) c.self.view_is c.self.invariant.0.line

pub returns-then-self-clause-unchanged : goal.returns-then-self-clause-unchanged
returns-then-self-clause-unchanged g c = refl

pub returns-in_default-clause-unchanged : goal.returns-in_default-clause-unchanged
returns-in_default-clause-unchanged g c =
    let s = c.self.inside in
    ap (λ (l : List ℕ). record { places = s.places.items; order = l; parked = s.parked.items; reached = s.reached; resting = s.resting.items; moves = s.moves; unfinished = s.unfinished }) (sym c.in_default.ensures.items) ∙ c.self.view_is
