-- What is always true of the jobs.
use Rattle.std.specs.Prelude.{◌≡◌, ℕ, Bool, true, List, Some, length, count_by}
use Rattle.run_queue.specs.declared.jobs.JobState.{JobState}
use Rattle.run_queue.specs.declared.jobs.JobState.TheVariants.{Finished}
use Rattle.run_queue.specs.Queue.{job_place, waits, job_of, IsLineOf}

module _ {J : Type 0} (number_of : J → ℕ) (is_done : J → Bool) where
  -- each job is at its number, and who has finished is done
  pub record ArePlaced (places : List (JobState J)) : Type 0 where
    pub numbered : (k : ℕ) (job : J) → job_of (job_place places k) ≡ Some job → number_of job ≡ k
    pub done : (k : ℕ) (job : J) → job_place places k ≡ Finished job → is_done job ≡ true

  -- besides, these are just the numbers that wait
  pub record IsSound (places : List (JobState J)) (waiting : List ℕ) : Type 0 where
    pub placed : ArePlaced places
    pub line : IsLineOf places waiting
    pub counted : length waiting ≡ count_by waits places
