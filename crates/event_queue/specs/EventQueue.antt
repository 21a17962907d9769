-- What is seen of an event queue.
use Rattle.std.specs.Prelude.{ℕ, List, [], ◌∷◌, Option, Some, None, nat_lt, insert}
use Rattle.std.specs.List.{position_or_len}

-- its entries, each a time in picoseconds and an item, in the order in which they are given, and for how many it has room
pub record Events (T : Type 0) : Type 0 where
  pub entries : List (ℕ × T)
  pub room : ℕ

module _ {T : Type 0} where
  -- the place of the first entry that is later than a time, or else the end
  abbrev pub place_after : List (ℕ × T) → ℕ → ℕ
  place_after entries at = position_or_len (λ (e : ℕ × T). nat_lt at e.0) entries

  -- the entries with one more, which stands behind all whose time is at most its own
  abbrev pub notified : List (ℕ × T) → T → ℕ → List (ℕ × T)
  notified entries item at = insert entries (place_after entries at) (at, item)

  -- the time of the first entry
  abbrev pub first_time : List (ℕ × T) → Option ℕ
  first_time [] = None
  first_time (e ∷ es) = Some e.0
