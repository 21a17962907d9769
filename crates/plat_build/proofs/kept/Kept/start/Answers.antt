use Rattle.std.proofs.Common.{◌≡◌, ℕ, List, map, set, Bool, false, Option, Some, sym, ap, subst, ◌∙◌}
use Rattle.std.specs.Prelude.{is_some, slice_get, slice_set}
use mathlib.Core.Option.{some}
use lib.ListN.{get_elem?}
use Rattle.plat_build.specs.declared.kept.Start.{Start}
use Rattle.plat_build.specs.Kept.{IsStart, Waiting}
use Rattle.plat_net.proofs.Lookups.{Waits, at_read, map-set, waits}
use Rattle.plat_build.proofs.KeptLemmas.{taken_kept}
use Rattle.plat_build.proofs.kept.Kept.start.Goals as goal

pub invariant_of-self : goal.invariant_of-self
invariant_of-self g c =
    let items : List (Option Start) = c.self.inside.starts.items in
    let k : ℕ = c.args.initiator in (
      λ j s at. taken_kept (λ i x. IsStart g.N.Naming.table g.N.Naming.tokens g.N.Naming.frame.world i x) items k c.self.invariant.0 j s
          (subst (λ (o : Option Start). get_elem? (set items k o) j ≡ some (Some s)) c.take.ensures.after at),
      c.self.invariant.1,
      c.self.invariant.2,
    )

pub returns-clause-start : goal.returns-clause-start
returns-clause-start g c =
    let items : List (Option Start) = c.self.inside.starts.items in
    let k : ℕ = c.args.initiator in
    let there : Waits items k = waits items k (ap (λ (w : Waiting). slice_get w.starts k) c.self.view_is ∙ c.requires) in
    c.self.invariant.0 k c.in-Some.start (at_read items k c.index_mut-place.result.now there.within c.index_mut-place.ensures.value ∙ ap some (sym c.take.ensures.value ∙ c.in-Some.is))

pub returns-clause-kept : goal.returns-clause-kept
returns-clause-kept g c =
    let items : List (Option Start) = c.self.inside.starts.items in
    let k : ℕ = c.args.initiator in
    let f : Option Start → Bool = λ start. is_some start in
    let starts : map f (set items k c.take.new.self) ≡ set (map f items) k false = map-set f items k c.take.new.self ∙ ap (λ (o : Option Start). set (map f items) k (f o)) c.take.ensures.after in
    let with_starts : List Bool → Waiting = λ l. record { starts = l; routers = map (λ note. is_some note) c.self.inside.router_notes.items; memories = map (λ note. is_some note) c.self.inside.memory_notes.items } in
    ap with_starts starts ∙ ap (λ (w : Waiting). record w { starts = slice_set w.starts k false }) c.self.view_is
