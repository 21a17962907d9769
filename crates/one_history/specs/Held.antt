-- What contracts see of a history, of a seat or a note, and of a sealed history.
use Rattle.std.specs.Prelude.{List}
use Rattle.atomic_table.specs.Seated.{TableId}
use Rattle.one_history.specs.declared.entry.Entry.{Entry}
use Rattle.one_history.specs.declared.view.Frame.{Frame}
use Rattle.one_history.specs.declared.view.View.{View}

-- a history: in which table it is, and what `new` was given
pub record Opened (G : Type 0) : Type 0 where
  pub table : TableId
  pub frame : Frame G

-- a seat or a note: in which table it is, and what it knows
pub record Held (E G : Type 0) : Type 0 where
  pub table : TableId
  pub knows : View E G

-- a history that has ended: in which table it was, its world, and its entries
pub record Ended (E G : Type 0) : Type 0 where
  pub table : TableId
  pub world : G
  pub entries : List (Entry E)
