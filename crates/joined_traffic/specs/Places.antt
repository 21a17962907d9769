-- Where the entries of memories stand in a whole history.
use Rattle.std.specs.Prelude.{ℕ, ◌≡◌, List}
use mathlib.Core.Option.{some}
use lib.ListN.{get_elem?}
use Rattle.view_lists.specs.Lists.{Has}
use Rattle.tlm_types.specs.declared.words.ObjectNo.TheVariants.{Memory}
use Rattle.tlm_model.specs.History.{entries_at}
use Rattle.flow_model.specs.Events.{Event, entries}

-- each entry of a memory stands in that memory's log at its number
abbrev pub AreInPlace : List Event → Type 0
AreInPlace h = (m : ℕ) (e : Event) → Has h e → e.object ≡ Memory m → get_elem? (entries_at (Memory m) (entries h)) e.number ≡ some e.entry
