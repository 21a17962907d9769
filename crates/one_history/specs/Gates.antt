-- The gates of a history, and the part of the rule that speaks of them.
use Rattle.std.specs.Prelude.{◌≡◌, ℕ, ◌+◌, ◌<◌, ◌≤◌, ◌==◌, Bool, true, cond, List, length, take, sum, slice_index, slice_index_or}
use Rattle.std.specs.List.{sum_by}
use mathlib.Core.Option.{some}
use lib.ListN.{get_elem?}
use Rattle.atomic_table.specs.Table.{State}
use Rattle.view_lists.specs.Lists.{Has}
use Rattle.one_history.specs.declared.entry.Entry.{Entry}
use Rattle.one_history.specs.declared.entry.Sign.{Sign}
use Rattle.one_history.specs.declared.entry.Sign.TheVariants.{Granted, Direct, Invalidated, Closed}
use Rattle.one_history.specs.declared.view.Frame.{Frame}
use Rattle.one_history.specs.declared.view.Stay.{Stay}
use Rattle.one_history.specs.declared.view.View.{View}

-- the top bit, which marks a gate
abbrev pub top_bit : ℕ
top_bit = 9223372036854775808

abbrev pub mark_word : Bool → ℕ
mark_word b = cond b 9223372036854775808 0

-- 1 for a stay at this gate
abbrev pub stay_at : ℕ → Stay → ℕ
stay_at g x = cond (x.gate == g) 1 0

-- 1 for a stay inside it
abbrev pub inside_at : ℕ → Stay → ℕ
inside_at g x = cond (x.gate == g) (cond x.inside 1 0) 0

-- the gate is marked, and nobody is inside
pub record IsShut (mark : ℕ → Bool) (inside : ℕ → ℕ) (g : ℕ) : Type 0 where
  pub marked : mark g ≡ true
  pub empty : inside g ≡ 0

module _ {E : Type 0} where
  -- the grant of the gate stands in the log before an overlapping invalidation of its object
  pub record IsRevoked (log : List (Entry E)) (g : ℕ) : Type 0 where
    pub grant : Entry E
    pub cut : Entry E
    pub first : ℕ
    pub last : ℕ
    pub from : ℕ
    pub to : ℕ
    pub has_grant : Has log grant
    pub has_cut : Has log cut
    pub is_grant : grant.sign ≡ Granted g first last
    pub is_cut : cut.sign ≡ Invalidated from to
    pub later : grant.position < cut.position
    pub object : grant.object ≡ cut.object
    pub meet : (from ≤ last) × (first ≤ to)

  -- no direct access through a gate stands after its closing
  abbrev pub NoneAfterClosed : List (Entry E) → Type 0
  NoneAfterClosed log = (p q : ℕ) (a b : Entry E) → get_elem? log p ≡ some a → get_elem? log q ≡ some b → (g : ℕ) → a.sign ≡ Closed g → b.sign ≡ Direct g → q < p

  -- what marks and closings say
  pub record Ends (log : List (Entry E)) (mark : ℕ → Bool) (inside : ℕ → ℕ) : Type 0 where
    pub marked : (g : ℕ) → mark g ≡ true → IsRevoked log g
    pub closed : (p : ℕ) (e : Entry E) → get_elem? log p ≡ some e → (g : ℕ) → e.sign ≡ Closed g → IsShut mark inside g
    pub last : NoneAfterClosed log

module _ {G : Type 0} where
  -- how many gates the history has
  abbrev pub total_gates : Frame G → ℕ
  total_gates key = sum key.gates

  -- the gate is one of this object's: gates are numbered through the objects in order
  abbrev pub IsGateOf : Frame G → ℕ → ℕ → Type 0
  IsGateOf key o g = (sum (take o key.gates) ≤ g) × (g < sum (take o key.gates) + slice_index_or key.gates o 0)

  -- a gate that is given or closed is one of this object's
  abbrev pub NamesOwn : Frame G → ℕ → Sign → Type 0
  NamesOwn key o (Granted g first last) = IsGateOf key o g
  NamesOwn key o (Closed g) = IsGateOf key o g
  NamesOwn key o sign = Unit {0}

module _ {E G : Type 0} where
  -- how many stays at the gate a view has
  abbrev pub stays_of : ℕ → View E G → ℕ
  stays_of g v = sum_by (stay_at g) v.stays

  -- how many of them are inside
  abbrev pub inside_of : ℕ → View E G → ℕ
  inside_of g v = sum_by (inside_at g) v.stays

  -- how many stays inside the gate there are in all views
  abbrev pub inside_all : List (View E G) → ℕ → ℕ
  inside_all views g = sum_by (inside_of g) views

  -- the view has no more stays than notes, and its void and drained gates are so
  pub record Behaves (log : List (Entry E)) (mark : ℕ → Bool) (inside : ℕ → ℕ) (v : View E G) : Type 0 where
    pub few : length v.stays ≤ v.notes
    pub void : (g : ℕ) → Has v.void g → IsRevoked log g
    pub drained : (g : ℕ) → Has v.drained g → IsShut mark inside g

  -- the second part of the rule: a gate's word is its mark and the number of stays at it, a marked gate is revoked, and a closed or
  -- drained one is marked and empty
  pub record KeepsGates (key : Frame G) (log : List (Entry E)) (s : State ℕ (View E G)) : Type 0 where
    pub mark : ℕ → Bool
    pub many : length s.words ≡ 1 + total_gates key
    pub notes : key.notes < 4294967296
    pub word : (g : ℕ) → g < total_gates key → slice_index s.words (1 + g) ≡ mark_word (mark g) + sum_by (stays_of g) s.views
    pub each : (i : ℕ) (v : View E G) → get_elem? s.views i ≡ some v → Behaves log mark (inside_all s.views) v
    pub own : (p : ℕ) (e : Entry E) → get_elem? log p ≡ some e → NamesOwn key e.object e.sign
    pub ends : Ends log mark (inside_all s.views)
