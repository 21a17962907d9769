use Rattle.std.proofs.Common.{◌≡◌, ◌++◌, ◌∷◌, [], false, IsTrue, sym, ap, ◌∙◌, subst, arith}
use Rattle.tlm_types.specs.declared.words.ObjectNo.TheVariants.{Memory}
use Rattle.tlm_types.specs.declared.entry.Head.{Head}
use Rattle.tlm_types.specs.declared.entry.What.TheVariants.{Closed}
use Rattle.tlm_types.specs.Entries.{entry_at}
use Rattle.entry_log.specs.Log.{LogView}
use Rattle.region_object.specs.Grants.{is_given, is_closed}
use Rattle.region_object.specs.Region.{LoggedMemory}
use Rattle.region_object.proofs.Consistent.{tells_closing}
use Rattle.region_object.proofs.Granted.{granted_in}
use Rattle.region_object.proofs.region.Region.close.Goals as goal

pub shut-requires : goal.shut-requires
shut-requires c =
    let s = c.self.inside in
    let f = c.requires.fit in
    let given : IsTrue (is_given c.args.gate s.log.entries) = subst (λ (m : LoggedMemory). IsTrue (is_given c.args.gate m.log.entries)) (sym c.self.view_is) (granted_in c.args.self.now.log.entries c.args.gate f.first f.last f.kind f.granted) in
    let w = c.self.invariant.holds.within c.args.gate given in
    let l = c.self.invariant.holds.long in
    let n = c.self.invariant.holds.few in
    record { own = (w.0, omega arith) }

pub invariant_of-self : goal.invariant_of-self
invariant_of-self c =
    let s = c.self.inside in
    let f = c.requires.fit in
    let head = c.head-head.result in
    let given : IsTrue (is_given c.args.gate s.log.entries) = subst (λ (m : LoggedMemory). IsTrue (is_given c.args.gate m.log.entries)) (sym c.self.view_is) (granted_in c.args.self.now.log.entries c.args.gate f.first f.last f.kind f.granted) in
    let fresh : is_closed c.args.gate s.log.entries ≡ false = ap (λ (m : LoggedMemory). is_closed c.args.gate m.log.entries) c.self.view_is ∙ sym c.is_closed.ensures ∙ c.if-is_closed.false in
    let log : c.tell.new.log.entries ≡ s.log.entries ++ entry_at head (Closed c.args.gate) ∷ [] = ap (λ (l : LogView). l.entries) c.tell.ensures in
    let here = ap (λ (h : Head). h.object) c.head-head.ensures ∙ ap (λ (m : LoggedMemory). Memory m.number) (sym c.self.view_is) in
    rw (log, c.shut.ensures) (tells_closing s.number s.traits s.store.items s.gates s.log.entries c.self.invariant head here c.args.gate given fresh)
