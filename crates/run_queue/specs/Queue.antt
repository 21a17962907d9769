-- What is seen of the jobs.
use Rattle.std.specs.Prelude.{◌≡◌, ◌+◌, ◌-◌, ◌^◌, ◌==◌, ◌&&◌, ◌<◌, ◌≤◌, min, nat_lt, ℕ, Bool, true, false, List, [], ◌∷◌, ◌++◌, Option, Some, None, length, count_by, slice_index_or, slice_set, if◌then◌else◌}
use Rattle.run_queue.specs.declared.jobs.JobState.{JobState}
use Rattle.run_queue.specs.declared.jobs.JobState.TheVariants.{Waiting, Out, Finished}
use Rattle.run_queue.specs.declared.jobs.TakenJob.{TakenJob}
use Rattle.run_queue.specs.declared.jobs.TakenJob.TheVariants.{Took, Nothing, AllDone}

-- where the job of each number is, the numbers in line in the order in which they are taken, those that are parked until a later
-- round, the greatest round that the queue was told has been reached, those that rest until another job has moved, how often it was
-- told that one has, and how many jobs have to finish
pub record Queue (J : Type 0) : Type 0 where
  pub places : List (JobState J)
  pub order : List ℕ
  pub parked : List ℕ
  pub reached : ℕ
  pub resting : List ℕ
  pub moves : ℕ
  pub unfinished : ℕ

module _ {J : Type 0} where
  -- the place of a number; a number that no job has counts as out
  abbrev pub job_place : List (JobState J) → ℕ → JobState J
  job_place places number = slice_index_or places number Out

  -- a job's number is out
  abbrev pub IsOut : List (JobState J) → ℕ → Type 0
  IsOut places number = (number < length places) × (job_place places number ≡ Out)

  -- does the job wait, in line or parked
  abbrev pub waits : JobState J → Bool
  waits (Waiting job) = true
  waits Out = false
  waits (Finished job) = false

  -- has the job finished
  abbrev pub has_finished : JobState J → Bool
  has_finished (Waiting job) = false
  has_finished Out = false
  has_finished (Finished job) = true

  -- the job that is there
  abbrev pub job_of : JobState J → Option J
  job_of (Waiting job) = Some job
  job_of Out = None
  job_of (Finished job) = Some job

  -- how many jobs have finished
  abbrev pub finished_count : List (JobState J) → ℕ
  finished_count places = count_by has_finished places

  -- the numbers that wait are these, once each, and no others are
  abbrev pub IsLineOf : List (JobState J) → List ℕ → Type 0
  IsLineOf places order = (k : ℕ) → count_by (λ n. n == k) order ≡ (if waits (job_place places k) then 1 else 0)

  -- each number that waits is in line, parked or at rest, once
  abbrev pub IsLine : Queue J → Type 0
  IsLine q = IsLineOf q.places (q.order ++ (q.parked ++ q.resting))

  -- after the job of a number has come back to wait in line
  abbrev pub given_back : Queue J → ℕ → J → Queue J
  given_back q number job = record q { places = slice_set q.places number (Waiting job); order = q.order ++ number ∷ [] }

  -- after the job of a number has come back to wait until a round above this one is reached; where that is known already,
  -- it waits in line
  abbrev pub set_aside : Queue J → ℕ → J → ℕ → Queue J
  set_aside q number job round =
      if nat_lt round q.reached then given_back q number job
      else record q { places = slice_set q.places number (Waiting job); parked = q.parked ++ number ∷ [] }

  -- after the queue was told that a round has been reached: where none at or above it was told before, all that are parked
  -- wait in line, behind those that do
  abbrev pub brought_back : Queue J → ℕ → Queue J
  brought_back q round =
      if nat_lt q.reached round then record q { order = q.order ++ q.parked; parked = []; reached = round } else q

  -- after the job of a number has come back to rest until more moves are told than these; where they are already, it waits in line
  abbrev pub laid_down : Queue J → ℕ → J → ℕ → Queue J
  laid_down q number job moves =
      if nat_lt moves q.moves then given_back q number job
      else record q { places = slice_set q.places number (Waiting job); resting = q.resting ++ number ∷ [] }

  -- after the queue was told that a job has moved: all that rest wait in line, behind those that do
  abbrev pub woken : Queue J → Queue J
  woken q = record q { order = q.order ++ q.resting; resting = []; moves = min (q.moves + 1) (2 ^ 64 - 1) }

  -- no job is in line, and none is out: those that haven't finished are parked or at rest
  abbrev pub is_stuck : Queue J → Bool
  is_stuck q = (length q.order == 0) && (length q.places - finished_count q.places == length q.parked + length q.resting)

  -- after those that rest were woken where the queue is stuck
  abbrev pub roused : Queue J → Queue J
  roused q = if is_stuck q then woken q else q

  -- after the job of a number has finished
  abbrev pub ended : Queue J → ℕ → J → Queue J
  ended q number job = record q { places = slice_set q.places number (Finished job) }

  -- a fact of the job that was taken, if one was
  abbrev pub IfTook : TakenJob J → (J → Type 0) → Type 0
  IfTook (Took job) fact = fact job
  IfTook Nothing fact = Unit {0}
  IfTook AllDone fact = Unit {0}

  -- a fact that holds where no job was taken
  abbrev pub UnlessTook : TakenJob J → Type 0 → Type 0
  UnlessTook (Took job) fact = Unit {0}
  UnlessTook Nothing fact = fact
  UnlessTook AllDone fact = fact

module _ {J : Type 0} (number_of : J → ℕ) where
  -- the job at each place has the place's number
  abbrev pub AreNumbered : List J → Type 0
  AreNumbered jobs = (k : ℕ) (d : J) → k < length jobs → number_of (slice_index_or jobs k d) ≡ k

  -- the job that was first in the order has gone out, and nothing else has changed
  pub record Takes (old new : Queue J) (job : J) : Type 0 where
    pub first : old.order ≡ number_of job ∷ new.order
    pub waited : job_place old.places (number_of job) ≡ Waiting job
    pub out : new ≡ record old { places = slice_set old.places (number_of job) Out; order = new.order }

  -- these are the jobs of all places by number, and at least those that have finished are done
  pub record Gathers (is_done : J → Bool) (places : List (JobState J)) (jobs : List J) : Type 0 where
    pub numbered : AreNumbered jobs
    pub all : length jobs ≡ length places
    pub enough : finished_count places ≤ count_by is_done jobs
