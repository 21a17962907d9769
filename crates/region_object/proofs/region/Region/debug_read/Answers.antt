use Rattle.std.proofs.Common.{◌≡◌, ◌++◌, ◌∷◌, [], length, refl, sym, ap, ◌∙◌}
use Rattle.tlm_types.specs.declared.words.ObjectNo.TheVariants.{Memory}
use Rattle.tlm_types.specs.declared.words.Way.TheVariants.{Debug}
use Rattle.tlm_types.specs.Entries.{entry_at}
use Rattle.region_object.specs.Call.{debug_access}
use Rattle.region_object.specs.Region.{LoggedMemory, answered}
use Rattle.region_object.proofs.Consistent.{IsConsistent-push}
use Rattle.region_object.proofs.Told.{take-debugged, length-debugged}
use Rattle.region_object.proofs.region.Region.debug_read.Goals as goal

pub invariant_of-self : goal.invariant_of-self
invariant_of-self c =
    let s = c.self.inside in
    let p = c.args.payload.now in
    let a = debug_access p.address (length p.bytes) in
    let log : c.log_debug.new.log.entries ≡ s.log.entries ++ entry_at c.args.head (answered s.traits s.log.entries Debug a) ∷ [] = rw (c.log_debug.ensures, c.set_status.ensures, c.debug_from-moved.ensures.moved, c.debug_from-moved.ensures.payload, c.deref.ensures.value, length-debugged p s.store.items, take-debugged p s.store.items, c.self.invariant.bytes_are) refl in
    rw log (IsConsistent-push s.number s.traits s.store.items s.store.items s.gates s.log.entries c.args.head Debug a (c.requires.head ∙ ap (λ (m : LoggedMemory). Memory m.number) (sym c.self.view_is)) c.self.invariant refl refl)
