-- Items that wait, in the order in which they are given.
use Rattle.std.specs.Prelude.{ℕ, ◌+◌, ◌*◌, ◌^◌, ◌<◌, ◌==◌, List, [], ◌∷◌, map, if◌then◌else◌, nat_lt}
use Rattle.std.specs.Cmp.{IsTotalOrder, back_total, nat_cmp_total, on_total, then_total}
use Rattle.std.specs.List.{AllByRecursion, IsDistinct}
use Rattle.std.specs.Ordering.{nat_cmp, ordering_then}
use Rattle.std.specs.declared.cmp.Ordering.{Ordering}
use Rattle.event_queue.specs.declared.waiting.Waiting.{Waiting}

module _ {T : Type 0} where
  -- how two compare in a heap, whose greatest is given first: by earlier times, and then by earlier notification
  abbrev pub given_sooner : Waiting T → Waiting T → Ordering
  given_sooner x y = ordering_then (nat_cmp y.at x.at) (nat_cmp y.order x.order)

  pub sooner_total : IsTotalOrder given_sooner
  sooner_total = then_total (on_total (λ (w : Waiting T). w.at) (back_total nat_cmp_total)) (on_total (λ (w : Waiting T). w.order) (back_total nat_cmp_total))

  -- a number that rises with the time, and among equal times with the order of notification
  abbrev pub rank : Waiting T → ℕ
  rank w = w.at * 2 ^ 64 + w.order

  abbrev pub put : Waiting T → List (Waiting T) → List (Waiting T)
  put w [] = w ∷ []
  put w (x ∷ xs) = if nat_lt (rank w) (rank x) then w ∷ x ∷ xs else x ∷ put w xs

  -- in the order in which they are given
  abbrev pub in_order : List (Waiting T) → List (Waiting T)
  in_order [] = []
  in_order (w ∷ ws) = put w (in_order ws)

  -- what is given of one: its time and its item
  abbrev pub given : Waiting T → ℕ × T
  given w = (w.at, w.item)

  -- what is given of all
  abbrev pub given_in_order : List (Waiting T) → List (ℕ × T)
  given_in_order ws = map given (in_order ws)

  -- each has a number below the next one, and a rank of its own
  pub record AreNumbered (next : ℕ) (ws : List (Waiting T)) : Type 0 where
    pub each : AllByRecursion (λ (w : Waiting T). w.order < next) ws
    pub own : IsDistinct (λ (x y : Waiting T). rank x == rank y) ws
