-- The history of the tests of gates: a keeper with one gate, and two visitors, each with room for three entries.
use Rattle.std.specs.Prelude.{ℕ, ◌≡◌, [], ◌∷◌, Some, true}
use Rattle.one_history.specs.declared.view.Frame.{Frame}
use Rattle.one_history.specs.Held.{Held, Opened}
use Rattle.one_history.specs.Moves.{number_of}

abbrev pub IsFramed : {G : Type 0} → Frame G → Type 0
IsFramed frame = (frame.planned ≡ 3 ∷ 3 ∷ 3 ∷ []) × (frame.gates ≡ 1 ∷ 0 ∷ 0 ∷ [])

module _ {E G : Type 0} where
  -- the seat of an object
  abbrev pub IsSeated : Opened G → ℕ → Held E G → Type 0
  IsSeated past number seat = (seat.table ≡ past.table) × (seat.knows.frame ≡ Some past.frame) × (number_of seat.knows ≡ number)

  -- and between two steps, with no note and no stay
  abbrev pub IsChair : Opened G → ℕ → Held E G → Type 0
  IsChair past number seat =
      (seat.table ≡ past.table)
      × (seat.knows.frame ≡ Some past.frame)
      × (number_of seat.knows ≡ number)
      × (seat.knows.stays ≡ [])
      × (seat.knows.notes ≡ 0)

  -- a note that stands for one and is inside no gate
  abbrev pub IsLeaf : Opened G → Held E G → Type 0
  IsLeaf past note = (note.table ≡ past.table) × (note.knows.notes ≡ 1) × (note.knows.stays ≡ [])

  -- a note that stands for one and is inside the gate
  abbrev pub IsInsideLeaf : Opened G → Held E G → Type 0
  IsInsideLeaf past note = (note.table ≡ past.table) × (note.knows.notes ≡ 1) × (note.knows.stays ≡ record { gate = 0; inside = true } ∷ [])
