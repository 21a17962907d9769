-- Jobs before their first turns.
use Rattle.std.proofs.Common.{◌≡◌, ℕ, ◌<◌, ◌≤◌, List, [], ◌∷◌, ◌++◌, length, ap, sym, subst, ◌∙◌, ⊎_elim, arith}
use Rattle.std.proofs.lemmas.Bool.{cases_lt}
use Rattle.std.proofs.lemmas.List.{get_or_append_left, get_or_push, length_push}
use Rattle.run_queue.specs.Queue.{AreNumbered}

-- one more job, with the next number
pub numbered_more : {J : Type 0} (number_of : J → ℕ) (jobs after : List J) (job : J) → AreNumbered number_of jobs → after ≡ jobs ++ job ∷ [] → number_of job ≡ length jobs → AreNumbered number_of after
numbered_more {J} number_of jobs after job numbered pushed number = subst (AreNumbered number_of) (sym pushed) (λ k d within.
    ⊎_elim
    (λ (before : k < length jobs). ap number_of (get_or_append_left jobs (job ∷ []) d k before) ∙ numbered k d before)
    (λ (here : length jobs ≤ k).
    let last : length jobs ≡ k = omega (arith, length_push jobs job) in
    ap number_of (get_or_push jobs job d k last) ∙ number ∙ last)
    (cases_lt k (length jobs)))
