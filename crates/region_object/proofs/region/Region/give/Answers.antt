use Rattle.std.proofs.Common.{◌≡◌, ◌<◌, ◌+◌, ◌-◌, ◌++◌, ◌∷◌, [], length, true, refl, sym, ap, ◌∙◌, arith}
use Rattle.tlm_types.specs.declared.words.ObjectNo.TheVariants.{Memory}
use Rattle.tlm_types.specs.declared.entry.Head.{Head}
use Rattle.tlm_types.specs.declared.entry.What.TheVariants.{Granted}
use Rattle.tlm_types.specs.Entries.{entry_at}
use Rattle.tlm_types.specs.Traits.{allowed_kind}
use Rattle.region_object.specs.Grants.{grants_in}
use Rattle.region_object.specs.Region.{LoggedMemory}
use Rattle.region_object.proofs.Consistent.{tells_grant}
use Rattle.region_object.proofs.region.Region.give.Goals as goal

pub invariant_of-self : goal.invariant_of-self
invariant_of-self c =
    let s = c.self.inside in
    let head = c.head-head.result in
    let log : c.tell.new.log.entries ≡ s.log.entries ++ entry_at head (Granted (s.gates.first + s.gates.given) 0 (s.traits.size - 1) (allowed_kind s.traits.readable s.traits.writable)) ∷ [] = rw (c.tell.ensures, c.give-gate.ensures.gate, c.saturating_sub-last.ensures, c.kind_of-kind.ensures) refl in
    let here = ap (λ (h : Head). h.object) c.head-head.ensures ∙ ap (λ (m : LoggedMemory). Memory m.number) (sym c.self.view_is) in
    let few : grants_in s.log.entries < s.traits.gates = let l = ap (λ (m : LoggedMemory). grants_in m.log.entries) c.self.view_is in let g = ap (λ (m : LoggedMemory). m.traits.gates) c.self.view_is in let left = c.requires.left in omega arith in
    let left : s.gates.given < length s.gates.gates = let n = c.self.invariant.holds.count in let l = c.self.invariant.holds.long in omega arith in
    let dmi : s.traits.dmi ≡ true = ap (λ (m : LoggedMemory). m.traits.dmi) c.self.view_is ∙ c.requires.dmi in
    let position : head.position ≡ c.args.position = ap (λ (h : Head). h.position) c.head-head.ensures in
    rw (log, c.give-gate.ensures.given, ← position) (tells_grant s.number s.traits s.store.items s.gates s.log.entries c.self.invariant head here dmi left)
