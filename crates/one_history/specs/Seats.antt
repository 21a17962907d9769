-- The seats and notes that `new` gives and `close` takes.
use Rattle.std.specs.Prelude.{◌≡◌, ℕ, ◌≤◌, List, Some}
use mathlib.Core.Option.{some}
use lib.ListN.{get_elem?}
use Rattle.atomic_table.specs.Seated.{TableId}
use Rattle.view_lists.specs.Lists.{Has, Within}
use Rattle.one_history.specs.declared.entry.Entry.{Entry}
use Rattle.one_history.specs.declared.view.Frame.{Frame}
use Rattle.one_history.specs.declared.view.Owned.{Owned}
use Rattle.one_history.specs.Held.{Held}
use Rattle.one_history.specs.Moves.{fresh, number_of, own_of}
use Rattle.one_history.specs.Lists.{entries_at}
use Rattle.one_history.specs.Closing.{Numbered}

-- an object with these entries
abbrev pub owned : {E : Type 0} → ℕ → List (Entry E) → Owned E
owned o own = record { number = o; own = own }

module _ {E G : Type 0} where
  -- the seats stand in the order of their objects, and know nothing
  abbrev pub AreFresh : TableId → Frame G → List (Held E G) → Type 0
  AreFresh table key seats = (o : ℕ) (s : Held E G) → get_elem? seats o ≡ some s → (s.table ≡ table) × (s.knows ≡ fresh key o)

  -- the seats are of this history, in the order of their objects
  abbrev pub AreSeats : TableId → Frame G → List (Held E G) → Type 0
  AreSeats table key seats = (o : ℕ) (s : Held E G) → get_elem? seats o ≡ some s → (s.table ≡ table) × (s.knows.frame ≡ Some key) × (number_of s.knows ≡ o)

  -- the notes are of this history
  abbrev pub AreNotes : TableId → List (Held E G) → Type 0
  AreNotes table notes = (k : ℕ) (n : Held E G) → get_elem? notes k ≡ some n → n.table ≡ table

  -- from the given place on, what each seat has of its own stands among the objects
  abbrev pub Gathers : List (Held E G) → ℕ → List (Owned E) → Type 0
  Gathers seats from objects = (o : ℕ) (s : Held E G) → from ≤ o → get_elem? seats o ≡ some s → Has objects (owned o (own_of s.knows))

  -- from the given place on, what each note knows stands in the list
  abbrev pub Tell : List (Held E G) → ℕ → List (Entry E) → Type 0
  Tell notes from log = (k : ℕ) (n : Held E G) → from ≤ k → get_elem? notes k ≡ some n → Within n.knows.known log

  -- the merge by position of what the seats have of their own
  abbrev pub IsMerge : List (Held E G) → List (Entry E) → Type 0
  IsMerge seats log = Numbered log × ((o : ℕ) (s : Held E G) → get_elem? seats o ≡ some s → entries_at o log ≡ own_of s.knows)
