use Rattle.std.proofs.Common.{◌≡◌, ℕ, ◌+◌, ◌<◌, sym, ap, ◌∙◌, arith}
use Rattle.std.specs.Prelude.{◌%◌}
use Rattle.payload_pool.specs.Slots.{SlotView}
use Rattle.payload_pool.proofs.Names.{has_hold, has_own}
use Rattle.payload_pool.proofs.slot.Slot.has.Goals as goal

pub returns-then-part-lt-OWN : goal.returns-then-part-lt-OWN
returns-then-part-lt-OWN c =
    let at = sym c.from.ensures ∙ (c.if-from-self.false ∙ ap (λ (s : SlotView). s.position) c.self.view_is) in
    c.holds.ensures ∙ has_hold c.args.self.now c.args.name at c.if-part-lt-OWN.true

pub returns-then-part-saturating_add : goal.returns-then-part-saturating_add
returns-then-part-saturating_add c =
    let at = sym c.from.ensures ∙ (c.if-from-self.false ∙ ap (λ (s : SlotView). s.position) c.self.view_is) in
    let count = ap (λ (s : SlotView). s.acquired) c.self.view_is in
    c.holds-then-part-saturating_add.ensures ∙ has_own c.args.self.now c.args.name at (omega arith)
