use Rattle.std.proofs.Common.{◌≡◌, ℕ, List, map, set, Bool, false, Option, Some, ap, subst, ◌∙◌}
use Rattle.std.specs.Prelude.{is_some, slice_get, slice_set}
use mathlib.Core.Option.{some}
use lib.ListN.{get_elem?}
use Rattle.one_history.specs.Held.{Held}
use Rattle.tlm_types.specs.declared.entry.Content.{Content}
use Rattle.tlm_model.specs.Plan.{Plan}
use Rattle.plat_build.specs.Kept.{IsBlank, Waiting}
use Rattle.plat_net.proofs.Lookups.{Waits, at_read, map-set, waits}
use Rattle.plat_build.proofs.KeptLemmas.{taken_kept}
use Rattle.plat_build.proofs.kept.Kept.router_note.Goals as goal

pub invariant_of-self : goal.invariant_of-self
invariant_of-self g c =
    let items : List (Option (Held Content Plan)) = c.self.inside.router_notes.items in
    let k : ℕ = c.args.router in
    let taken : (j : ℕ) (x : Held Content Plan) → get_elem? (set items k c.take_note.new.place) j ≡ some (Some x) → IsBlank g.N.Naming.table x =
    λ j x at. taken_kept (λ i y. IsBlank g.N.Naming.table y) items k c.self.invariant.1 j x (subst (λ (o : Option (Held Content Plan)). get_elem? (set items k o) j ≡ some (Some x)) c.take_note.ensures.gone at) in
    (c.self.invariant.0, taken, c.self.invariant.2)

pub returns-clause-note : goal.returns-clause-note
returns-clause-note g c =
    let items : List (Option (Held Content Plan)) = c.self.inside.router_notes.items in
    let k : ℕ = c.args.router in
    let there : Waits items k = waits items k (ap (λ (w : Waiting). slice_get w.routers k) c.self.view_is ∙ c.requires) in
    c.self.invariant.1 k c.take_note.result (at_read items k c.index_mut.result.now there.within c.index_mut.ensures.value ∙ ap some c.take_note.ensures.note)

pub returns-clause-kept : goal.returns-clause-kept
returns-clause-kept g c =
    let items : List (Option (Held Content Plan)) = c.self.inside.router_notes.items in
    let k : ℕ = c.args.router in
    let f : Option (Held Content Plan) → Bool = λ note. is_some note in
    let notes : map f (set items k c.take_note.new.place) ≡ set (map f items) k false = map-set f items k c.take_note.new.place ∙ ap (λ (o : Option (Held Content Plan)). set (map f items) k (f o)) c.take_note.ensures.gone in
    let with_notes : List Bool → Waiting = λ l. record { starts = map (λ start. is_some start) c.self.inside.starts.items; routers = l; memories = map (λ note. is_some note) c.self.inside.memory_notes.items } in
    ap with_notes notes ∙ ap (λ (w : Waiting). record w { routers = slice_set w.routers k false }) c.self.view_is
