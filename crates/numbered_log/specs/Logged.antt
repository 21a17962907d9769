-- A log whose entries have numbers: those of the references that they acquire or release, or the marks of calls.
use Rattle.std.specs.Prelude.{ℕ, ◌≡◌, ◌<◌, ◌≤◌, true, List, [], ◌∷◌, ◌++◌, length}
use Rattle.tlm_types.specs.declared.entry.Entry.{Entry}
use Rattle.entry_log.specs.Log.{LogView}
use Rattle.shared_object.specs.Written.{Written, noted}
use Rattle.flow_model.specs.Events.{Event}

-- its entries with their numbers, in order, and for how many it has room
pub record LoggedView : Type 0 where
  pub events : List Event
  pub room : ℕ

-- the entry with its number
abbrev pub event_of : Entry → ℕ → Event
event_of e n = record { entry = e; number = n }

-- each entry with the number at its place
abbrev pub events_of : List Entry → List ℕ → List Event
events_of [] ns = []
events_of (e ∷ es) [] = event_of e 0 ∷ events_of es []
events_of (e ∷ es) (n ∷ ns) = event_of e n ∷ events_of es ns

-- the log with one more
abbrev pub with_event : LoggedView → Event → LoggedView
with_event log e = record log { events = log.events ++ e ∷ [] }

-- what was written, of an entry with its number
abbrev pub written_by : Event → Written
written_by e = noted e.number e.entry

-- an entry stands before another in the history
abbrev pub IsBefore : Event → Event → Type 0
IsBefore d e = d.position < e.position

-- each entry has a number, there is room for as many numbers as entries, and all entries are in store
pub record IsNumbered (log : LogView) (numbers capacity : ℕ) : Type 0 where
  pub same : length log.entries ≡ numbers
  pub roomy : log.room ≤ capacity
  pub whole : log.whole ≡ true
