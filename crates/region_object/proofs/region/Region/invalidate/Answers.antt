use Rattle.std.proofs.Common.{◌≡◌, ◌++◌, ◌∷◌, [], sym, ap, ◌∙◌}
use Rattle.tlm_types.specs.declared.words.ObjectNo.TheVariants.{Memory}
use Rattle.tlm_types.specs.declared.entry.What.TheVariants.{Invalidated}
use Rattle.tlm_types.specs.Entries.{entry_at}
use Rattle.entry_log.specs.Log.{LogView}
use Rattle.tlm_types.specs.declared.entry.Head.{Head}
use Rattle.region_object.specs.Region.{LoggedMemory}
use Rattle.region_object.proofs.Consistent.{tells_invalidation}
use Rattle.region_object.proofs.region.Region.invalidate.Goals as goal

pub invariant_of-self : goal.invariant_of-self
invariant_of-self c =
    let s = c.self.inside in
    let head = c.head-head.result in
    let log : c.tell.new.log.entries ≡ s.log.entries ++ entry_at head (Invalidated c.args.first c.args.last) ∷ [] = ap (λ (l : LogView). l.entries) c.tell.ensures in
    let here = ap (λ (h : Head). h.object) c.head-head.ensures ∙ ap (λ (m : LoggedMemory). Memory m.number) (sym c.self.view_is) in
    rw log (tells_invalidation s.number s.traits s.store.items s.gates s.log.entries c.self.invariant head here c.args.first c.args.last)
