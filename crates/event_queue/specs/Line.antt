-- What waits in a line, in the order of times, and what is early, together.
use Rattle.std.specs.Prelude.{ℕ, ◌≤◌, ◌<◌, List, [], ◌∷◌, if◌then◌else◌, nat_lt}
use Rattle.std.specs.List.{AllByRecursion}

module _ {T : Type 0} where
  -- `joined (e ∷ es)`, where `rest` is `joined es`
  abbrev pub joined_at : ℕ × T → List (ℕ × T) → (List (ℕ × T) → List (ℕ × T)) → List (ℕ × T) → List (ℕ × T)
  joined_at e es rest [] = e ∷ es
  joined_at e es rest (x ∷ xs) = if nat_lt x.0 e.0 then x ∷ joined_at e es rest xs else e ∷ rest (x ∷ xs)

  -- a line and what is early, in the order in which they are given: of the two that are first, the one of the line, unless the other's time is below its own
  abbrev pub joined : List (ℕ × T) → List (ℕ × T) → List (ℕ × T)
  joined [] = λ xs. xs
  joined (e ∷ es) = joined_at e es (joined es)

  -- each is at most as late as those behind it
  abbrev pub Ascends : List (ℕ × T) → Type 0
  Ascends [] = Unit {0}
  Ascends (e ∷ es) = AllByRecursion (λ (f : ℕ × T). e.0 ≤ f.0) es × Ascends es

  -- the time of the last, or else this one
  abbrev pub last_or : ℕ → List (ℕ × T) → ℕ
  last_or time [] = time
  last_or time (e ∷ es) = last_or e.0 es

  -- the time of the last, or else 0
  abbrev pub last_time : List (ℕ × T) → ℕ
  last_time line = last_or 0 line

  -- a line is in the order of its times, and what is early comes before its last
  pub record AreSplit (line early : List (ℕ × T)) : Type 0 where
    pub ascends : Ascends line
    pub before : AllByRecursion (λ (e : ℕ × T). e.0 < last_time line) early
