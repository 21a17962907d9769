-- Memories and routers that are given turns.
use Rattle.std.specs.Prelude.{◌≡◌, List, Option, Some}
use Rattle.atomic_table.specs.Seated.{TableId}
use Rattle.one_history.specs.declared.entry.Entry.{Entry}
use Rattle.one_history.specs.Held.{Held}
use Rattle.one_history.specs.Lists.{StandBelow}
use Rattle.shared_object.specs.Steps.{IsNote}
use Rattle.tlm_types.specs.declared.entry.Content.{Content}
use Rattle.tlm_model.specs.Plan.{Plan}

-- a memory or a router keeps what its kind keeps, by what its note knows
pub record IsNode {K : Type 0} (table : TableId) (keeps : K → List (Entry Content) → Type 0) (node : K) (note : Held Content Plan) : Type 0 where
  pub note_of : IsNote table note
  pub below : StandBelow note.knows.known note.knows.seen
  pub is : keeps node note.knows.known

-- between its turns, its note is with it
pub record IsAtRest {K : Type 0} (table : TableId) (keeps : K → List (Entry Content) → Type 0) (node : K) (note : Option (Held Content Plan)) : Type 0 where
  pub its_note : Held Content Plan
  pub has_note : note ≡ Some its_note
  pub is_node : IsNode table keeps node its_note
