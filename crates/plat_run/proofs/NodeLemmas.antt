-- A node that has done nothing.
use Rattle.std.proofs.Common.{◌≡◌, List, Option, Some, sym, subst}
use Rattle.atomic_table.specs.Seated.{TableId}
use Rattle.view_lists.proofs.Members.{has_none}
use Rattle.one_history.specs.declared.entry.Entry.{Entry}
use Rattle.one_history.specs.Held.{Held}
use Rattle.one_history.specs.Lists.{StandBelow}
use Rattle.tlm_types.specs.declared.entry.Content.{Content}
use Rattle.tlm_model.specs.Plan.{Plan}
use Rattle.plat_build.specs.Kept.{IsBlank}
use Rattle.plat_run.specs.Nodes.{IsAtRest, IsNode}
use Rattle.decoupled_run.proofs.PassLemmas.{one_value}

-- what a note that has seen nothing knows stands below what it has seen
stands_below : (table : TableId) (note : Held Content Plan) → IsBlank table note → StandBelow note.knows.known note.knows.seen
stands_below table note blank = subst (λ (es : List (Entry Content)). StandBelow es note.knows.seen) (sym blank.known) (λ e has. absurd (has_none e has))

pub node_begun : {K : Type 0} (table : TableId) (keeps : K → List (Entry Content) → Type 0) (node : K) (note : Held Content Plan) → ((known : List (Entry Content)) → keeps node known) → IsBlank table note → IsNode table keeps node note
node_begun table keeps node note new blank = record { note_of = blank.is_note; below = stands_below table note blank; is = new note.knows.known }

-- one at rest whose note was taken out of it
pub node_out : {K : Type 0} (table : TableId) (keeps : K → List (Entry Content) → Type 0) (node : K) (place : Option (Held Content Plan)) (note : Held Content Plan) → IsAtRest table keeps node place → place ≡ Some note → IsNode table keeps node note
node_out table keeps node place note rest taken = subst (IsNode table keeps node) (one_value place rest.its_note note rest.has_note taken) rest.is_node
