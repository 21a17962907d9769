-- How the note of an invalidating initiator tells that all grants before its invalidation are closed.
use Rattle.std.specs.Prelude.{ℕ, ◌≡◌, ◌<◌, ◌≤◌, IsTrue, List, ◌++◌}
use mathlib.Core.Option.{some}
use lib.ListN.{get_elem?}
use Rattle.tlm_types.specs.declared.entry.Entry.{Entry}
use Rattle.tlm_model.specs.History.{entries_at}
use Rattle.good_history.specs.Grants.{is_cut_by}
use Rattle.joined_traffic.specs.Parts.{HasReturned, KnowsClosing}

-- The invalidation has a place in its memory's log, and at each place before it an entry is known: where it is a grant
-- that is overlapped, it is known to be closed.
pub record KnowsPlaces (h : List Entry) (limit : ℕ) (y : Entry) : Type 0 where
  pub place : ℕ
  pub here : get_elem? (entries_at y.object h) place ≡ some y
  pub each : (k : ℕ) → k < place → (x : Entry) × (get_elem? (entries_at y.object h) k ≡ some x) × (IsTrue (is_cut_by x y) → KnowsClosing h limit x.what)

abbrev pub PlacesTellReturn : Type 0
PlacesTellReturn = (h : List Entry) (limit : ℕ) (y : Entry) → KnowsPlaces h limit y → HasReturned h limit y

-- what has returned stays so, as the history grows and its initiator goes on
abbrev pub ReturnStays : Type 0
ReturnStays = (h m : List Entry) (limit more : ℕ) (y : Entry) → limit ≤ more → HasReturned h limit y → HasReturned (h ++ m) more y
