-- What a step of one job does to the places and the order.
use Rattle.std.proofs.Common.{◌≡◌, ◌≢◌, ℕ, zero, suc, ◌+◌, ◌<◌, ◌≤◌, Bool, true, false, cond, eqb, List, [], ◌∷◌, ◌++◌, length, get_or, set, map, Some, None, count_by, refl, sym, ap, subst, ◌∙◌, ⊎_elim, append-nil, arith}
use Rattle.std.specs.List.{range_with_len}
use Rattle.std.proofs.lemmas.Bool.{eq-eqb, ne_eqb, cases_lt, cases_eq, cases_Bool, false≢true}
use Rattle.std.proofs.lemmas.List.{get_or_past, get_or-set_same, get_or-set_other, get_or_default, get_or_append_left, get_or_push, get_or-map, length-set, length-map, length-append, length_push, map-id}
use Rattle.std.proofs.lemmas.List.Sums.{sum_by-set, sum_by-cons, sum_by-append, sum_by_push, count_by-le-length}
use Rattle.std.proofs.lemmas.List.FromFn.{length-range_with_len, map-range_with_len_more}
use Rattle.run_queue.specs.declared.jobs.JobState.{JobState}
use Rattle.run_queue.specs.declared.jobs.JobState.TheVariants.{Waiting, Out, Finished}
use Rattle.run_queue.specs.Queue.{job_place, waits, has_finished, job_of, finished_count, AreNumbered, Gathers}
use Rattle.run_queue.specs.Sound.{ArePlaced, IsSound}

abbrev one_if : Bool → ℕ
one_if b = cond b 1 0

-- how often a number stands in the order
abbrev times : ℕ → List ℕ → ℕ
times k order = count_by (λ n. eqb n k) order

one_if-same : (n : ℕ) → one_if (eqb n n) ≡ 1
one_if-same n = ap one_if (eq-eqb n n refl)

one_if-other : (m n : ℕ) → m ≢ n → one_if (eqb m n) ≡ 0
one_if-other m n other = ap one_if (ne_eqb m n other)

times-cons : (k n : ℕ) (order : List ℕ) → times k (n ∷ order) ≡ one_if (eqb n k) + times k order
times-cons k n order = sum_by-cons (λ m. one_if (eqb m k)) n order

times-push : (k n : ℕ) (order : List ℕ) → times k (order ++ n ∷ []) ≡ times k order + one_if (eqb n k)
times-push k n order = sum_by_push (λ m. one_if (eqb m k)) order n

times-append : (k : ℕ) (a b : List ℕ) → times k (a ++ b) ≡ times k a + times k b
times-append k a b = sum_by-append (λ m. one_if (eqb m k)) a b

times-below : (count from k : ℕ) → k < from → times k (range_with_len from count) ≡ 0
times-below zero from k below = refl
times-below (suc n) from k below =
    let here = one_if-other from k (λ same. omega arith) in
    omega (arith, times-cons k from (range_with_len (from + 1) n), times-below n (from + 1) k (omega arith))

times-above : (count from k : ℕ) → from + count ≤ k → times k (range_with_len from count) ≡ 0
times-above zero from k above = refl
times-above (suc n) from k above =
    let here = one_if-other from k (λ same. omega arith) in
    omega (arith, times-cons k from (range_with_len (from + 1) n), times-above n (from + 1) k (omega arith))

times-within : (count from k : ℕ) → from ≤ k → k < from + count → times k (range_with_len from count) ≡ 1
times-within zero from k low high = absurd (omega arith)
times-within (suc n) from k low high =
    ⊎_elim
    (λ (same : from ≡ k).
    let here : one_if (eqb from k) ≡ 1 = ap one_if (eq-eqb from k same) in
    omega (arith, times-cons k from (range_with_len (from + 1) n), times-below n (from + 1) k (omega arith)))
    (λ (other : from ≢ k).
    let here = one_if-other from k other in
    omega (arith, times-cons k from (range_with_len (from + 1) n), times-within n (from + 1) k (omega arith) (omega arith)))
    (cases_eq from k)

-- one number more
pub range_with_len-more : (n : ℕ) → range_with_len 0 (n + 1) ≡ range_with_len 0 n ++ n ∷ []
range_with_len-more n =
    sym (map-id (range_with_len 0 (n + 1))) ∙ map-range_with_len_more (λ (x : ℕ). x) 0 n n (omega arith)
    ∙ ap (λ (l : List ℕ). l ++ n ∷ []) (map-id (range_with_len 0 n))

module _ {J : Type 0} where
  waits_not_finished : (place : JobState J) → waits place ≡ true → has_finished place ≡ false
  waits_not_finished (Waiting job) waiting = refl
  waits_not_finished Out waiting = refl
  waits_not_finished (Finished job) waiting = absurd (false≢true waiting)

  -- what waits is a waiting job
  pub waits_is : (place : JobState J) → waits place ≡ true → ((job : J) → place ≡ Waiting job → ⊥) → ⊥
  waits_is (Waiting job) waiting none = none job refl
  waits_is Out waiting none = false≢true waiting
  waits_is (Finished job) waiting none = false≢true waiting

  -- who waits is one of the jobs
  pub waits_within : (places : List (JobState J)) (n : ℕ) → waits (job_place places n) ≡ true → n < length places
  waits_within places n waiting =
      ⊎_elim (λ (within : n < length places). within)
      (λ (past : length places ≤ n). absurd (false≢true (sym (ap waits (get_or_past places n Out past)) ∙ waiting)))
      (cases_lt n (length places))

  -- what was read at a number is its place
  pub place_of_read : (places : List (JobState J)) (n : ℕ) (x : JobState J) → n < length places → x ≡ get_or places n x → job_place places n ≡ x
  place_of_read places n x within is = get_or_default places n Out x within ∙ sym is

  -- what holds of the new place and of each other one holds of each after the change
  each_set : (P : ℕ → JobState J → Type 0) (places : List (JobState J)) (n : ℕ) (new : JobState J) → n < length places → P n new → ((k : ℕ) → k ≢ n → P k (job_place places k)) → (k : ℕ) → P k (job_place (set places n new) k)
  each_set P places n new within here others k =
      ⊎_elim
      (λ (same : k ≡ n). subst (P k) (sym (ap (job_place (set places n new)) same ∙ get_or-set_same places n new Out within)) (subst (λ (m : ℕ). P m new) (sym same) here))
      (λ (other : k ≢ n). subst (P k) (sym (get_or-set_other places n k new Out other)) (others k other))
      (cases_eq k n)

  -- a count after one place has changed
  count_set : (p : JobState J → Bool) (places : List (JobState J)) (n : ℕ) (new : JobState J) → n < length places → count_by p (set places n new) + one_if (p (job_place places n)) ≡ count_by p places + one_if (p new)
  count_set p places n new within = sum_by-set (λ (x : JobState J). one_if (p x)) places n new Out within

  -- jobs that all wait
  waits-map : (jobs : List J) (k : ℕ) → k < length jobs → waits (job_place (map Waiting jobs) k) ≡ true
  waits-map [] k within = absurd (omega arith)
  waits-map (j ∷ js) zero within = refl
  waits-map (j ∷ js) (suc k) within = waits-map js k (omega arith)

  waits-map_past : (jobs : List J) (k : ℕ) → length jobs ≤ k → waits (job_place (map Waiting jobs) k) ≡ false
  waits-map_past jobs k past = ap waits (get_or_past (map Waiting jobs) k Out (omega (arith, length-map jobs (λ (j : J). Waiting j))))

  count-waits-map : (jobs : List J) → count_by waits (map Waiting jobs) ≡ length jobs
  count-waits-map [] = refl
  count-waits-map (j ∷ js) = omega (arith, sum_by-cons (λ (x : JobState J). one_if (waits x)) (Waiting j) (map Waiting js), count-waits-map js)

  pub finished_count-map : (jobs : List J) → finished_count (map Waiting jobs) ≡ 0
  finished_count-map [] = refl
  finished_count-map (j ∷ js) = omega (arith, sum_by-cons (λ (x : JobState J). one_if (has_finished x)) (Waiting j) (map Waiting js), finished_count-map js)

  Some_is : (a b : J) → Some a ≡ Some b → a ≡ b
  Some_is a b same = cc

module _ {J : Type 0} (number_of : J → ℕ) (is_done : J → Bool) where
  -- new jobs
  placed_new : (jobs : List J) → AreNumbered number_of jobs → ArePlaced number_of is_done (map Waiting jobs)
  placed_new jobs numbered =
      record {
        numbered =
            λ k job at.
            ⊎_elim
            (λ (within : k < length jobs).
            let here : job_place (map Waiting jobs) k ≡ Waiting (get_or jobs k job) = get_or-map Waiting jobs k job Out within in
            ap number_of (Some_is job (get_or jobs k job) (sym at ∙ ap job_of here)) ∙ numbered k job within)
            (λ (past : length jobs ≤ k).
            let here : job_place (map Waiting jobs) k ≡ Out = get_or_past (map Waiting jobs) k Out (omega (arith, length-map jobs (λ (j : J). Waiting j))) in
            let none : None ≡ Some job = sym (ap job_of here) ∙ at in
            absurd (cc))
            (cases_lt k (length jobs));
        done =
            λ k job at.
            let ended : has_finished (job_place (map Waiting jobs) k) ≡ true = ap has_finished at in
            absurd (⊎_elim
            (λ (within : k < length jobs). false≢true (sym (waits_not_finished (job_place (map Waiting jobs) k) (waits-map jobs k within)) ∙ ended))
            (λ (past : length jobs ≤ k). false≢true (sym (ap has_finished (get_or_past (map Waiting jobs) k Out (omega (arith, length-map jobs (λ (j : J). Waiting j))))) ∙ ended))
            (cases_lt k (length jobs)));
      }

  pub sound_new : (jobs : List J) → AreNumbered number_of jobs → IsSound number_of is_done (map Waiting jobs) (range_with_len 0 (length jobs))
  sound_new jobs numbered =
      record {
        placed = placed_new jobs numbered;
        line =
            λ k.
            ⊎_elim
            (λ (within : k < length jobs). times-within (length jobs) 0 k (omega arith) (omega arith) ∙ sym (ap one_if (waits-map jobs k within)))
            (λ (past : length jobs ≤ k). times-above (length jobs) 0 k (omega arith) ∙ sym (ap one_if (waits-map_past jobs k past)))
            (cases_lt k (length jobs));
        counted = length-range_with_len 0 (length jobs) ∙ sym (count-waits-map jobs);
      }

  -- the same numbers in another order
  pub sound_behind : (places : List (JobState J)) (order parked : List ℕ) (n : ℕ) → IsSound number_of is_done places ((order ++ parked) ++ n ∷ []) → IsSound number_of is_done places ((order ++ n ∷ []) ++ parked)
  sound_behind places order parked n sound =
      record {
        placed = sound.placed;
        line =
            λ k.
            (omega (arith, times-append k (order ++ n ∷ []) parked, times-push k n order, times-push k n (order ++ parked), times-append k order parked))
            ∙ sound.line k;
        counted = omega (arith, sound.counted, length-append (order ++ n ∷ []) parked, length_push order n, length_push (order ++ parked) n, length-append order parked);
      }

  -- one more is parked, before those that rest
  pub sound_parked : (places : List (JobState J)) (order parked resting : List ℕ) (n : ℕ) → IsSound number_of is_done places ((order ++ (parked ++ resting)) ++ n ∷ []) → IsSound number_of is_done places (order ++ ((parked ++ n ∷ []) ++ resting))
  sound_parked places order parked resting n sound =
      record {
        placed = sound.placed;
        line =
            λ k.
            (omega (arith, times-append k order ((parked ++ n ∷ []) ++ resting), times-append k (parked ++ n ∷ []) resting, times-push k n parked, times-push k n (order ++ (parked ++ resting)), times-append k order (parked ++ resting), times-append k parked resting))
            ∙ sound.line k;
        counted = omega (arith, sound.counted, length-append order ((parked ++ n ∷ []) ++ resting), length-append (parked ++ n ∷ []) resting, length_push parked n, length_push (order ++ (parked ++ resting)) n, length-append order (parked ++ resting), length-append parked resting);
      }

  -- those that rest come before those that are parked
  pub sound_woken : (places : List (JobState J)) (order parked resting : List ℕ) → IsSound number_of is_done places (order ++ (parked ++ resting)) → IsSound number_of is_done places ((order ++ resting) ++ (parked ++ []))
  sound_woken places order parked resting sound =
      record {
        placed = sound.placed;
        line =
            λ k.
            (omega (arith, times-append k (order ++ resting) (parked ++ []), times-append k order resting, ap (times k) (append-nil parked), times-append k order (parked ++ resting), times-append k parked resting))
            ∙ sound.line k;
        counted = omega (arith, sound.counted, length-append (order ++ resting) (parked ++ []), length-append order resting, ap (length {A = ℕ}) (append-nil parked), length-append order (parked ++ resting), length-append parked resting);
      }

  module _ (places : List (JobState J)) (order : List ℕ) (sound : IsSound number_of is_done places order) where
    -- the first number of the order waits
    pub first_waits : (n : ℕ) (rest : List ℕ) → order ≡ n ∷ rest → waits (job_place places n) ≡ true
    first_waits n rest is =
        let line : times n (n ∷ rest) ≡ one_if (waits (job_place places n)) = sym (ap (times n) is) ∙ sound.line n in
        let here = one_if-same n in
        ⊎_elim (λ (waiting : waits (job_place places n) ≡ true). waiting)
        (λ (idle : waits (job_place places n) ≡ false).
        let none : one_if (waits (job_place places n)) ≡ 0 = ap one_if idle in
        absurd (omega (arith, times-cons n n rest)))
        (cases_Bool (waits (job_place places n)))

    placed_set : (n : ℕ) (new : JobState J) → n < length places → ((job : J) → job_of new ≡ Some job → number_of job ≡ n) → ((job : J) → new ≡ Finished job → is_done job ≡ true) → ArePlaced number_of is_done (set places n new)
    placed_set n new within number done =
        record {
          numbered = each_set (λ k place. (job : J) → job_of place ≡ Some job → number_of job ≡ k) places n new within number (λ k other. sound.placed.numbered k);
          done = each_set (λ k place. (job : J) → place ≡ Finished job → is_done job ≡ true) places n new within done (λ k other. sound.placed.done k);
        }

    -- the first job goes out
    pub sound_taken : (n : ℕ) (rest : List ℕ) → order ≡ n ∷ rest → IsSound number_of is_done (set places n Out) rest
    sound_taken n rest is =
        let waiting = first_waits n rest is in
        let within = waits_within places n waiting in
        let old : one_if (waits (job_place places n)) ≡ 1 = ap one_if waiting in
        let whole : (k : ℕ) → one_if (eqb n k) + times k rest ≡ one_if (waits (job_place places k)) = λ k. sym (times-cons k n rest) ∙ sym (ap (times k) is) ∙ sound.line k in
        record {
          placed = placed_set n Out within (λ job at. absurd (cc)) (λ job at. absurd (cc));
          line =
              each_set (λ k place. times k rest ≡ one_if (waits place)) places n Out within
              (let here = one_if-same n in omega (arith, whole n))
              (λ k other. (let here = one_if-other n k (λ same. other (sym same)) in omega (arith, whole k)));
          counted = omega (arith, count_set waits places n Out within, sound.counted, ap (length {A = ℕ}) is);
        }

    pub finished_taken : (n : ℕ) (rest : List ℕ) → order ≡ n ∷ rest → finished_count (set places n Out) ≡ finished_count places
    finished_taken n rest is =
        let waiting = first_waits n rest is in
        let old : one_if (has_finished (job_place places n)) ≡ 0 = ap one_if (waits_not_finished (job_place places n) waiting) in
        omega (arith, count_set has_finished places n Out (waits_within places n waiting))

    module _ (n : ℕ) (job : J) (within : n < length places) (out : job_place places n ≡ Out) (number : number_of job ≡ n) where
      -- a job comes back
      pub sound_given : IsSound number_of is_done (set places n (Waiting job)) (order ++ n ∷ [])
      sound_given =
          let idle : one_if (waits (job_place places n)) ≡ 0 = ap (λ (p : JobState J). one_if (waits p)) out in
          record {
            placed = placed_set n (Waiting job) within (λ other at. ap number_of (sym (Some_is job other at)) ∙ number) (λ other at. absurd (cc));
            line =
                each_set (λ k place. times k (order ++ n ∷ []) ≡ one_if (waits place)) places n (Waiting job) within
                (let here = one_if-same n in omega (arith, times-push n n order, sound.line n))
                (λ k other. (let here = one_if-other n k (λ same. other (sym same)) in omega (arith, times-push k n order, sound.line k)));
            counted = omega (arith, count_set waits places n (Waiting job) within, sound.counted, length_push order n);
          }

      -- and there is room for its number
      pub given_fits : length order + 1 ≤ length places
      given_fits =
          omega (arith, sound_given.counted, length_push order n, count_by-le-length waits (set places n (Waiting job)), length-set places n (Waiting job))

      pub finished_given : finished_count (set places n (Waiting job)) ≡ finished_count places
      finished_given =
          let old : one_if (has_finished (job_place places n)) ≡ 0 = ap (λ (p : JobState J). one_if (has_finished p)) out in
          omega (arith, count_set has_finished places n (Waiting job) within)

      -- a job finishes
      pub sound_ended : is_done job ≡ true → IsSound number_of is_done (set places n (Finished job)) order
      sound_ended done =
          let idle : one_if (waits (job_place places n)) ≡ 0 = ap (λ (p : JobState J). one_if (waits p)) out in
          record {
            placed = placed_set n (Finished job) within (λ other at. ap number_of (sym (Some_is job other at)) ∙ number) (λ other at. (let same : job ≡ other = cc in ap is_done (sym same) ∙ done));
            line =
                each_set (λ k place. times k order ≡ one_if (waits place)) places n (Finished job) within
                (omega (arith, sound.line n))
                (λ k other. sound.line k);
            counted = omega (arith, count_set waits places n (Finished job) within, sound.counted);
          }

      pub finished_ended : finished_count (set places n (Finished job)) ≡ finished_count places + 1
      finished_ended =
          let old : one_if (has_finished (job_place places n)) ≡ 0 = ap (λ (p : JobState J). one_if (has_finished p)) out in
          omega (arith, count_set has_finished places n (Finished job) within)

  -- the jobs gathered so far, and the next one
  numbered_more : (room : List J) (job : J) → AreNumbered number_of room → number_of job ≡ length room → AreNumbered number_of (room ++ job ∷ [])
  numbered_more room job numbered number k d within =
      ⊎_elim
      (λ (before : k < length room). ap number_of (get_or_append_left room (job ∷ []) d k before) ∙ numbered k d before)
      (λ (here : length room ≤ k).
      let last : length room ≡ k = omega (arith, length_push room job) in
      ap number_of (get_or_push room job d k last) ∙ number ∙ last)
      (cases_lt k (length room))

  finished_is_done : (place : JobState J) (job : J) → job_of place ≡ Some job → ((other : J) → place ≡ Finished other → is_done other ≡ true) → one_if (has_finished place) ≤ one_if (is_done job)
  finished_is_done (Waiting other) job at done = omega arith
  finished_is_done Out job at done = omega arith
  finished_is_done (Finished other) job at done =
      let one : one_if (is_done job) ≡ 1 = ap (λ (j : J). one_if (is_done j)) (sym (Some_is other job at)) ∙ ap one_if (done other refl) in
      omega arith

  pub gathers_more : (places : List (JobState J)) → ArePlaced number_of is_done places → (passed : List (JobState J)) (room : List J) (place : JobState J) (job : J) → length passed < length places → place ≡ get_or places (length passed) place → job_of place ≡ Some job → Gathers number_of is_done passed room → Gathers number_of is_done (passed ++ place ∷ []) (room ++ job ∷ [])
  gathers_more places placed passed room place job within is at so_far =
      let here : job_place places (length passed) ≡ place = get_or_default places (length passed) Out place within ∙ sym is in
      let number : number_of job ≡ length passed = placed.numbered (length passed) job (ap job_of here ∙ at) in
      let done = finished_is_done place job at (λ other same. placed.done (length passed) other (here ∙ same)) in
      record {
        numbered = numbered_more room job so_far.numbered (number ∙ sym so_far.all);
        all = omega (arith, length_push room job, length_push passed place, so_far.all);
        enough = omega (arith, sum_by_push (λ (x : JobState J). one_if (has_finished x)) passed place, sum_by_push (λ (j : J). one_if (is_done j)) room job, so_far.enough);
      }
