use Rattle.std.proofs.Common.{ℕ, List, Option, ap, ◌∙◌}
use Rattle.std.specs.List.{list_any, position}
use Rattle.std.specs.Option.{is_some}
use Rattle.payload_pool.specs.Slots.{SlotView, is_free}
use Rattle.payload_pool.specs.Pool.{PoolView}
use Rattle.payload_pool.proofs.Found.{some_place}
use Rattle.payload_pool.proofs.pool.Pool.has_free.Goals as goal

pub returns : goal.returns
returns c =
    c.is_some.ensures
    ∙ ap (λ (o : Option ℕ). is_some o) (c.free_place.ensures ∙ ap (λ (l : List SlotView). position is_free l) c.deref.ensures.value)
    ∙ some_place is_free c.self.inside.slots.items
    ∙ ap (λ (v : PoolView). list_any is_free v.slots) c.self.view_is
