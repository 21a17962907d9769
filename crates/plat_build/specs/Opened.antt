-- What is seen of a history and its tokens before the net of a plan is built.
use Rattle.std.specs.Prelude.{◌≡◌, ◌*◌, ◌≤◌, List, [], length}
use Rattle.atomic_table.specs.Seated.{TableId}
use Rattle.one_history.specs.declared.view.Frame.{Frame}
use Rattle.one_history.specs.Held.{Held}
use Rattle.one_history.specs.Moves.{counting}
use Rattle.one_history.specs.Seats.{AreFresh}
use Rattle.token_book.specs.Account.{Account, AreFresh as AreFreshBooks}
use Rattle.tlm_types.specs.declared.entry.Content.{Content}
use Rattle.tlm_model.specs.Plan.{Plan}
use Rattle.tlm_model.specs.declared.platform.Platform.{Platform}
use Rattle.cargo_model.specs.Known.{objects_of}
use Rattle.plat_net.specs.Objects.{frame_of, notes_of}
use Rattle.plat_build.specs.Kept.{AreFreshFrom, AreFreshBooksFrom}

-- the table of the history, with what it was made with, and the table of the tokens
pub record OpenedView : Type 0 where
  pub table : TableId
  pub frame : Frame Plan
  pub tokens : TableId

-- the history was made of a plan; each object has its seat and its two books, the second ones after all first ones
pub record IsOpened (table tokens : TableId) (frame : Frame Plan) (seats : List (Held Content Plan)) (note : Held Content Plan) (books : List Account) : Type 0 where
  pub made : frame ≡ frame_of frame.world
  pub seat_count : length seats ≡ length frame.planned
  pub seats_fresh : AreFresh table frame seats
  pub note_of : note.table ≡ table
  pub note_knows : note.knows ≡ counting frame (length frame.planned)
  pub book_count : length books ≡ 2 * length frame.planned
  pub books_fresh : AreFreshBooks tokens books

-- the seats and the books of all objects of a plan: nothing was drawn, and nothing is out
pub record AreAllSupplies (table tokens : TableId) (frame : Frame Plan) (p : Plan) (seats : List (Held Content Plan)) (books : List Account) : Type 0 where
  pub planned : length seats ≡ length frame.planned
  pub places : length seats ≡ length (objects_of p.platform)
  pub fresh_seats : AreFreshFrom table frame 0 seats
  pub fresh_books : AreFreshBooksFrom tokens 0 books
  pub twice : length books ≡ 2 * length frame.planned
  pub few : length frame.planned ≤ 336

-- a note that stands for those of all initiators, routers and memories, and has seen nothing
pub record IsFirstNote (table : TableId) (p : Platform) (note : Held Content Plan) : Type 0 where
  pub note_of : note.table ≡ table
  pub notes : note.knows.notes ≡ notes_of p
  pub unseen : note.knows.seen ≡ 0
  pub unknown : note.knows.known ≡ []
  pub unlooked : note.knows.looks ≡ []
  pub outside : note.knows.stays ≡ []
