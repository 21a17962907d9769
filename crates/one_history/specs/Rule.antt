-- The rule of the history.
use Rattle.std.specs.Prelude.{◌≡◌, ℕ, ◌<◌, ◌≤◌, List, [], length, take, Some, None, slice_index, slice_index_or}
use mathlib.Core.Option.{some}
use lib.ListN.{get_elem?}
use Rattle.std.specs.List.{sum_by}
use Rattle.atomic_table.specs.Table.{State}
use Rattle.one_history.specs.declared.entry.Entry.{Entry}
use Rattle.one_history.specs.declared.view.Frame.{Frame}
use Rattle.one_history.specs.declared.view.Key.{Key}
use Rattle.one_history.specs.declared.view.Owned.{Owned}
use Rattle.one_history.specs.declared.view.View.{View}
use Rattle.view_lists.specs.Lists.{Has, Within}
use Rattle.one_history.specs.Lists.{entries_at}
use Rattle.one_history.specs.Gates.{KeepsGates}

-- the fixed facts of a history, as plain data
abbrev pub plain : {G : Type 0} → Key G → Frame G
plain k = record { world = k.world.value; planned = k.planned.items; gates = k.gates.items; notes = k.notes }

module _ {E G : Type 0} where
  -- what the seat of a joined note knows
  abbrev pub spent_view : View E G
  spent_view = record { frame = None; notes = 0; seen = 0; known = []; looks = []; objects = []; counts = None; stays = []; void = []; drained = [] }

  -- what the first note of a history knows
  abbrev pub first_view : Frame G → View E G
  first_view key = record { frame = Some key; notes = key.notes; seen = 0; known = []; looks = []; objects = []; counts = Some 0; stays = []; void = []; drained = [] }

  -- what the rule says of view i
  pub record Fits (key : Frame G) (log : List (Entry E)) (place : ℕ → ℕ) (counter made : ℕ) (i : ℕ) (v : View E G) : Type 0 where
    pub framed : (f : Frame G) → v.frame ≡ Some f → f ≡ key
    pub spent : v.frame ≡ None → v ≡ spent_view
    pub seen : v.seen ≤ length log
    pub known : (e : Entry E) → Has v.known e → (e.position < v.seen) × (get_elem? log e.position ≡ some e)
    pub owns : (x : Owned E) → Has v.objects x → (place x.number ≡ i) × (x.number < made) × (x.own ≡ entries_at x.number log) × Within x.own v.known
    pub counts : (n : ℕ) → v.counts ≡ Some n → (i ≡ counter) × (n ≡ made)

  -- the object has a seat
  abbrev pub Seated : List (View E G) → (ℕ → ℕ) → ℕ → Type 0
  Seated views place o = (u : View E G) × (x : Owned E) × (get_elem? views (place o) ≡ some u) × Has u.objects x × (x.number ≡ o)

  -- the first part of the rule: all views speak of this log, and the first word counts it
  pub record HasLog (backs : G → List (Entry E) → Entry E → Type 0) (key : Frame G) (log : List (Entry E)) (s : State ℕ (View E G)) : Type 0 where
    pub place : ℕ → ℕ
    pub counter : ℕ
    pub made : ℕ
    pub words : 0 < length s.words
    pub count : slice_index s.words 0 ≡ length log
    pub numbered : (p : ℕ) (e : Entry E) → get_elem? log p ≡ some e → e.position ≡ p
    pub backed : (p : ℕ) (e : Entry E) → get_elem? log p ≡ some e → backs key.world (take p log) e
    pub planned : (o : ℕ) → length (entries_at o log) ≤ slice_index_or key.planned o 0
    pub unmade : (o : ℕ) → made ≤ o → entries_at o log ≡ []
    pub homes : (o : ℕ) → o < made → Seated s.views place o
    pub fits : (i : ℕ) (v : View E G) → get_elem? s.views i ≡ some v → Fits key log place counter made i v
    pub notes : sum_by (λ v. v.notes) s.views ≡ key.notes

  -- the rule: there is one log of which all views speak, and the gates' words go with it
  pub record IsOneLog (backs : G → List (Entry E) → Entry E → Type 0) (key : Frame G) (s : State ℕ (View E G)) : Type 0 where
    pub log : List (Entry E)
    pub counted : HasLog backs key log s
    pub gated : KeepsGates key log s
