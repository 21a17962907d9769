-- What a note knows, as the definitions of a platform read it.
use Rattle.std.specs.Prelude.{ℕ, ◌≡◌, ◌<◌, List, map}
use mathlib.Core.Option.{some}
use lib.ListN.{get_elem?}
use Rattle.view_lists.specs.Lists.{Has, Within}
use Rattle.one_history.specs.declared.entry.Entry.{Entry as HistoryEntry}
use Rattle.one_history.specs.declared.view.View.{View}
use Rattle.tlm_types.specs.declared.entry.Content.{Content}
use Rattle.tlm_types.specs.declared.entry.Entry.{Entry}
use Rattle.tlm_types.specs.declared.words.ObjectNo.TheVariants.{Memory}
use Rattle.tlm_model.specs.declared.platform.Platform.{Platform}
use Rattle.tlm_model.specs.History.{IsNumbered, entries_at}
use Rattle.tlm_model.specs.Plan.{Plan}
use Rattle.good_history.specs.Kept.{GivesGatesInOrder}
use Rattle.cargo_model.specs.Known.{event_of}

-- the number of an object says which memory, hop or pool it is
abbrev pub entry_read : Platform → HistoryEntry Content → Entry
entry_read p e = (event_of p e).entry

abbrev pub entries_read : Platform → List (HistoryEntry Content) → List Entry
entries_read p es = map (entry_read p) es

-- the entries that a note with this view knows
abbrev pub known_to : Plan → View Content Plan → List Entry
known_to p v = entries_read p.platform v.known

-- where an entry stands
abbrev pub position_of : Entry → ℕ
position_of e = e.position

-- all of these stand below a position
abbrev pub AreBelow : List Entry → ℕ → Type 0
AreBelow es n = (e : Entry) → Has es e → e.position < n

-- A history has all that a note with this view knows; it is numbered, and each gate is given in order. What the note knows of a memory stands in
-- that memory's log at its number.
pub record HasAllOf (p : Plan) (v : View Content Plan) (h : List Entry) : Type 0 where
  pub within : Within (known_to p v) h
  pub numbered : IsNumbered h
  pub gates : GivesGatesInOrder h
  pub places : (m : ℕ) (e : HistoryEntry Content) → Has v.known e → (entry_read p.platform e).object ≡ Memory m → get_elem? (entries_at (Memory m) h) e.content.number ≡ some (entry_read p.platform e)
