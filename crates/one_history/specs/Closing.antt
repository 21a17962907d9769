-- What the history is at its end.
use Rattle.std.specs.Prelude.{◌≡◌, ℕ, ◌≤◌, List, length, take, slice_index_or, Some}
use mathlib.Core.Option.{some}
use lib.ListN.{get_elem?}
use Rattle.atomic_table.specs.Table.{Step, Me}
use Rattle.one_history.specs.declared.entry.Entry.{Entry}
use Rattle.one_history.specs.declared.view.Frame.{Frame}
use Rattle.one_history.specs.declared.view.Owned.{Owned}
use Rattle.one_history.specs.declared.view.View.{View}
use Rattle.view_lists.specs.Lists.{Has, Within}
use Rattle.one_history.specs.Lists.{entries_at}
use Rattle.one_history.specs.Gates.{NoneAfterClosed}
use Rattle.one_history.specs.Moves.{learnt}

module _ {E : Type 0} where
  -- the entry at each place has that position
  abbrev pub Numbered : List (Entry E) → Type 0
  Numbered log = (p : ℕ) (e : Entry E) → get_elem? log p ≡ some e → e.position ≡ p

module _ {E G : Type 0} where
  -- each entry is backed by those before it
  abbrev pub AreBacked : (G → List (Entry E) → Entry E → Type 0) → G → List (Entry E) → Type 0
  AreBacked backs world log = (p : ℕ) (e : Entry E) → get_elem? log p ≡ some e → backs world (take p log) e

  -- no object has more entries than its planned number
  abbrev pub ArePlanned : Frame G → List (Entry E) → Type 0
  ArePlanned key log = (o : ℕ) → length (entries_at o log) ≤ slice_index_or key.planned o 0

  -- the seat knows the whole history, as long as the number found
  pub record Learned (backs : G → List (Entry E) → Entry E → Type 0) (st : Step ℕ) (m : Me ℕ (View E G)) (found : ℕ) (m' : Me ℕ (View E G)) : Type 0 where
    pub slots : m'.1 ≡ m.1
    pub frame : m'.0.frame ≡ m.0.frame
    pub objects : m'.0.objects ≡ m.0.objects
    pub count : found ≡ length m'.0.known
    pub keeps : Within m.0.known m'.0.known
    pub numbered : Numbered m'.0.known
    pub owns : (x : Owned E) → Has m'.0.objects x → x.own ≡ entries_at x.number m'.0.known
    pub backed : (key : Frame G) → m.0.frame ≡ Some key → AreBacked backs key.world m'.0.known
    pub planned : (key : Frame G) → m.0.frame ≡ Some key → ArePlanned key m'.0.known
    pub last : NoneAfterClosed m'.0.known
    pub is : m'.0 ≡ learnt m.0 m'.0.known
