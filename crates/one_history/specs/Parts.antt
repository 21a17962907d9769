-- The parts of the rule, in words of the views alone.
use Rattle.std.specs.Prelude.{◌≡◌, ℕ, ◌⊎◌, ◌+◌, ◌<◌, ◌≤◌, List, length, Some, None, slice_index, slice_index_or, AllPairs}
use Rattle.std.specs.List.{sum_by}
use mathlib.Core.Option.{some}
use lib.ListN.{get_elem?}
use Rattle.atomic_table.specs.Table.{State}
use Rattle.view_lists.specs.Lists.{Has, Within}
use Rattle.one_history.specs.declared.entry.Entry.{Entry}
use Rattle.one_history.specs.declared.entry.Sign.TheVariants.{Direct, Closed}
use Rattle.one_history.specs.declared.view.Frame.{Frame}
use Rattle.one_history.specs.declared.view.Owned.{Owned}
use Rattle.one_history.specs.declared.view.View.{View}
use Rattle.one_history.specs.Lists.{entries_at}
use Rattle.one_history.specs.Gates.{top_bit, total_gates, stays_of, inside_all, IsRevoked, NamesOwn}
use Rattle.one_history.specs.Rule.{spent_view}
use Rattle.one_history.specs.Closing.{Numbered, AreBacked}

module _ {E : Type 0} where
  -- the one stands at an earlier position than the other
  abbrev pub IsBefore : Entry E → Entry E → Type 0
  IsBefore a b = a.position < b.position

module _ {E G : Type 0} where
  -- view i is a seat of this object
  abbrev pub Sits : List (View E G) → ℕ → Owned E → Type 0
  Sits views i x = (v : View E G) × (get_elem? views i ≡ some v) × Has v.objects x

  -- the entry is one of object o's own, whose seat is view i
  abbrev pub Owns : List (View E G) → ℕ → ℕ → Entry E → Type 0
  Owns views i o e = (x : Owned E) × Sits views i x × (x.number ≡ o) × Has x.own e

  -- each position below the count stands in just one object's own entries, and no other position does
  pub record StandsOnce (count : ℕ) (views : List (View E G)) : Type 0 where
    pub one : (p : ℕ) → p < count → (i : ℕ) × (o : ℕ) × (e : Entry E) × Owns views i o e × (e.position ≡ p)
    pub below : (i o : ℕ) (e : Entry E) → Owns views i o e → e.position < count
    pub same : (i j o q : ℕ) (d e : Entry E) → Owns views i o d → Owns views j q e → d.position ≡ e.position → (i ≡ j) × (o ≡ q) × (d ≡ e)

  -- no view has seen past the count, and what it knows stands in the history below what it has seen
  pub record KnowsHistory (count : ℕ) (views : List (View E G)) : Type 0 where
    pub seen : (i : ℕ) (v : View E G) → get_elem? views i ≡ some v → v.seen ≤ count
    pub known : (i : ℕ) (v : View E G) (e : Entry E) → get_elem? views i ≡ some v → Has v.known e → (e.position < v.seen) × (j : ℕ) × Owns views j e.object e

  -- no object has two seats, and a seat knows its own entries, which are its object's, rise by position, and are no more than planned;
  -- a gate that they give or close is one of the object's
  pub record HasOneSeat (key : Frame G) (views : List (View E G)) : Type 0 where
    pub one : (i j : ℕ) (x y : Owned E) → Sits views i x → Sits views j y → x.number ≡ y.number → (i ≡ j) × (x.own ≡ y.own)
    pub own : (i o : ℕ) (e : Entry E) → Owns views i o e → e.object ≡ o
    pub rising : (i : ℕ) (x : Owned E) → Sits views i x → AllPairs IsBefore x.own
    pub known : (i : ℕ) (v : View E G) (x : Owned E) → get_elem? views i ≡ some v → Has v.objects x → Within x.own v.known
    pub gates : (i o : ℕ) (e : Entry E) → Owns views i o e → NamesOwn key o e.sign
    pub planned : (i : ℕ) (x : Owned E) → Sits views i x → length x.own ≤ slice_index_or key.planned x.number 0
    pub counter : (i j m n : ℕ) (v w : View E G) → get_elem? views i ≡ some v → get_elem? views j ≡ some w → v.counts ≡ Some m → w.counts ≡ Some n → i ≡ j
    pub below : (i j n : ℕ) (v : View E G) (x : Owned E) → get_elem? views i ≡ some v → v.counts ≡ Some n → Sits views j x → x.number < n

  -- all views together stand for the number of notes that was given, and a spent one knows nothing
  pub record SharesNotes (key : Frame G) (views : List (View E G)) : Type 0 where
    pub total : sum_by (λ v. v.notes) views ≡ key.notes
    pub spent : (i : ℕ) (v : View E G) → get_elem? views i ≡ some v → v.frame ≡ None → v ≡ spent_view
    pub framed : (i : ℕ) (v : View E G) (f : Frame G) → get_elem? views i ≡ some v → v.frame ≡ Some f → f ≡ key

  -- the own entries merge into one list by position, in which each entry is backed by those before it
  pub record MergesBacked (backs : G → List (Entry E) → Entry E → Type 0) (key : Frame G) (count : ℕ) (views : List (View E G)) : Type 0 where
    pub log : List (Entry E)
    pub long : length log ≡ count
    pub numbered : Numbered log
    pub own : (i : ℕ) (x : Owned E) → Sits views i x → x.own ≡ entries_at x.number log
    pub whole : (e : Entry E) → Has log e → (i : ℕ) × Owns views i e.object e
    pub backed : AreBacked backs key.world log

  -- the word of a gate
  abbrev pub gate_word : State ℕ (View E G) → ℕ → ℕ
  gate_word s g = slice_index s.words (1 + g)

  -- the gate has its mark
  abbrev pub HasMark : State ℕ (View E G) → ℕ → Type 0
  HasMark s g = top_bit ≤ gate_word s g

  -- an object's own entries have the gate's grant, and after it an overlapping invalidation
  abbrev pub IsRevokedAt : List (View E G) → ℕ → Type 0
  IsRevokedAt views g = (i : ℕ) × (x : Owned E) × Sits views i x × IsRevoked x.own g

  -- a gate's word is its mark, which is 0 or the top bit, and the number of stays at it in all views, which is below the top bit; no
  -- view has more stays than it stands for notes
  pub record CountsStays (key : Frame G) (s : State ℕ (View E G)) : Type 0 where
    pub word : (g : ℕ) → g < total_gates key → (gate_word s g ≡ sum_by (stays_of g) s.views) ⊎ (gate_word s g ≡ top_bit + sum_by (stays_of g) s.views)
    pub below : (g : ℕ) → sum_by (stays_of g) s.views < top_bit
    pub few : (i : ℕ) (v : View E G) → get_elem? s.views i ≡ some v → length v.stays ≤ v.notes

  -- a gate that is marked, or void to a view, is revoked
  pub record MarksRevoked (key : Frame G) (s : State ℕ (View E G)) : Type 0 where
    pub marked : (g : ℕ) → g < total_gates key → HasMark s g → IsRevokedAt s.views g
    pub void : (g i : ℕ) (v : View E G) → get_elem? s.views i ≡ some v → Has v.void g → IsRevokedAt s.views g

  -- a gate that is drained to a view, or whose closing stands among an object's own entries, is marked, and no view is inside it
  pub record KeepsShut (key : Frame G) (s : State ℕ (View E G)) : Type 0 where
    pub drained : (g i : ℕ) (v : View E G) → g < total_gates key → get_elem? s.views i ≡ some v → Has v.drained g → HasMark s g × (inside_all s.views g ≡ 0)
    pub closed : (g i o : ℕ) (e : Entry E) → g < total_gates key → Owns s.views i o e → e.sign ≡ Closed g → HasMark s g × (inside_all s.views g ≡ 0)

  -- each direct access through a gate stands before its closing
  abbrev pub EndsDirect : List (View E G) → Type 0
  EndsDirect views = (g i j o q : ℕ) (d c : Entry E) → Owns views i o d → Owns views j q c → d.sign ≡ Direct g → c.sign ≡ Closed g → d.position < c.position

  -- all parts of the rule
  pub record IsKept (backs : G → List (Entry E) → Entry E → Type 0) (key : Frame G) (s : State ℕ (View E G)) : Type 0 where
    pub drawn : StandsOnce (slice_index s.words 0) s.views
    pub seen : KnowsHistory (slice_index s.words 0) s.views
    pub seated : HasOneSeat key s.views
    pub counted : CountsStays key s
    pub marked : MarksRevoked key s
    pub drained : KeepsShut key s
    pub revoked : EndsDirect s.views
    pub spent : SharesNotes key s.views
    pub backed : MergesBacked backs key (slice_index s.words 0) s.views
