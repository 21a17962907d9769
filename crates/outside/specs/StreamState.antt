-- What is seen of a sink over a stream.
use Rattle.std.specs.Prelude.{ℕ, ◌≡◌, ◌≤◌, Bool, true, false, if◌then◌else◌, List, length, take, Option, Some, None}
use Rattle.std.specs.Io.KnownBytes.{append_known, Appends}
use Rattle.outside.specs.Causes.{next_count}

-- what the stream holds, where that is known; the bytes that wait to be written to it; whether it has
-- failed; and how many calls have failed
pub record StreamState : Type 0 where
  pub held : Option (List ℕ)
  pub waiting : List ℕ
  pub failed : Bool
  pub faults : ℕ

-- all that was taken: what the stream holds, and then what waits
abbrev pub collected : StreamState → Option (List ℕ)
collected s = append_known s.held s.waiting

-- known bytes grew by a prefix of the piece
abbrev pub AppendsPrefix : Option (List ℕ) → Option (List ℕ) → List ℕ → Type 0
AppendsPrefix old new bytes = (n : ℕ) × (n ≤ length bytes) × Appends old new (take n bytes)

-- the calls to come hand it nothing more: it holds what it held, and the same bytes wait
abbrev pub HasStopped : StreamState → StreamState → Type 0
HasStopped old new = (new.held ≡ old.held) × (new.waiting ≡ old.waiting)

-- known bytes where they are told, and nothing where they aren't
abbrev pub told_by : Bool → Option (List ℕ) → Option (List ℕ)
told_by true known = known
told_by false known = None

-- where bytes are told they are known
abbrev pub IsToldBy : Bool → Option (List ℕ) → Type 0
IsToldBy true None = ⊥
IsToldBy true (Some bytes) = Unit {0}
IsToldBy false known = Unit {0}

-- What came of a write of these bytes, which was done or not. What waits follows what the stream holds, where that is known.
pub record Wrote (old new : StreamState) (bytes : List ℕ) (done : Bool) : Type 0 where
  pub gathered : done ≡ true → Appends (collected old) (collected new) bytes
  pub cut_short : done ≡ false → AppendsPrefix (collected old) (collected new) bytes
  pub bounded : length new.waiting ≤ 65536
  pub stopped : old.failed ≡ true → HasStopped old new
  pub counted : new.faults ≡ (if done then old.faults else next_count old.faults)
  pub marked : new.failed ≡ (if done then old.failed else true)
