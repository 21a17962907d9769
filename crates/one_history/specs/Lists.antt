-- The entries of one object, and entries below a position.
use Rattle.std.specs.Prelude.{ℕ, ◌<◌, List}
use Rattle.view_lists.specs.Lists.{Has, of_key}
use Rattle.one_history.specs.declared.entry.Entry.{Entry}

module _ {E : Type 0} where
  -- the object of an entry
  abbrev pub object_of : Entry E → ℕ
  object_of e = e.object

  -- the entries of one object, in order
  abbrev pub entries_at : ℕ → List (Entry E) → List (Entry E)
  entries_at o es = of_key object_of o es

  -- they all stand below this position
  abbrev pub StandBelow : List (Entry E) → ℕ → Type 0
  StandBelow es n = (e : Entry E) → Has es e → e.position < n
