-- Where the entries of a history stand in its logs.
use Rattle.std.specs.Prelude.{ℕ, ◌≡◌, ◌≢◌, ◌<◌, Bool, List, map, Option, Some, slice_get}
use Rattle.std.specs.List.{list_all}
use Rattle.std.specs.Option.{option_and_then}
use Rattle.tlm_types.specs.declared.entry.Entry.{Entry}
use Rattle.entry_log.specs.Log.{LogView}
use Rattle.run_outcome.specs.declared.merge.window.Place.{Place}
use Rattle.run_outcome.specs.Merge.{merged}

-- what is seen of a merged log: its entries in order, and whether all its logs have theirs in store
pub record MergedView : Type 0 where
  pub entries : List Entry
  pub whole : Bool

abbrev pub are_whole : List LogView → Bool
are_whole logs = list_all (λ (log : LogView). log.whole) logs

abbrev pub entries_of_logs : List LogView → List (List Entry)
entries_of_logs logs = map (λ (log : LogView). log.entries) logs

-- the entry that stands at a place
abbrev pub entry_at : List (List Entry) → Place → Option Entry
entry_at logs place = option_and_then (λ (log : List Entry). slice_get log place.index) (slice_get logs place.log)

-- the entry of a history at a position stands at this place
pub record StandsAt (logs : List (List Entry)) (position : ℕ) (place : Place) : Type 0 where
  pub entry : Entry
  pub at : slice_get (merged logs) position ≡ Some entry
  pub there : entry_at logs place ≡ Some entry

-- the entry at this index has this position
pub record HasAt (entries : List Entry) (position index : ℕ) : Type 0 where
  pub entry : Entry
  pub at : slice_get entries index ≡ Some entry
  pub is : entry.position ≡ position

-- no entry before this index has this position
abbrev pub HasNoneBefore : List Entry → ℕ → ℕ → Type 0
HasNoneBefore entries position index = (i : ℕ) (e : Entry) → i < index → slice_get entries i ≡ Some e → e.position ≢ position

-- no entry of the logs before this one has this position
abbrev pub HaveNoneBefore : List (List Entry) → ℕ → ℕ → Type 0
HaveNoneBefore logs position number = (place : Place) (e : Entry) → place.log < number → entry_at logs place ≡ Some e → e.position ≢ position
