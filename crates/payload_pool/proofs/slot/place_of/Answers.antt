use Rattle.std.proofs.Common.{◌<◌, ◌≤◌, ℕ, ◌≡◌, ◌∙◌, List, true, length, sym, ap, arith}
use Rattle.std.specs.List.{list_any, position_or_len}
use Rattle.payload_pool.specs.Slots.{SlotView, has_name}
use Rattle.view_lists.proofs.Searches.{fails_in_front, passes_first}
use Rattle.payload_pool.proofs.Found.{first_within}
use Rattle.payload_pool.proofs.slot.place_of.Goals as goal

within : (name : ℕ) (slots : List SlotView) (place : ℕ) → list_any (has_name name) slots ≡ true → place ≤ position_or_len (has_name name) slots → place < length slots
within name slots place any on = let w = first_within (has_name name) slots any in omega (arith, on, w)

pub offset_bounds-slots-place : goal.offset_bounds-slots-place
offset_bounds-slots-place c = let w = within c.args.name c.args.slots.now c.loop-place.place c.requires c.loop-place.invariant in omega (arith, w)

pub bounds-slots-place : goal.bounds-slots-place
bounds-slots-place c = within c.args.name c.args.slots.now c.loop-place.place c.requires c.loop-place.invariant

pub overflow_add-place : goal.overflow_add-place
overflow_add-place c = let w = within c.args.name c.args.slots.now c.loop-place.place c.requires c.loop-place.invariant in omega (arith, w)

pub loop-place-smaller : goal.loop-place-smaller
loop-place-smaller c = let w = within c.args.name c.args.slots.now c.loop-place.place c.requires c.loop-place.invariant in omega (arith, w)

pub loop-place-preserved : goal.loop-place-preserved
loop-place-preserved c =
    let slot = c.index-slots-place.result in
    fails_in_front (has_name c.args.name) c.args.slots.now c.loop-place.place slot (first_within (has_name c.args.name) c.args.slots.now c.requires) c.loop-place.invariant (ap (has_name c.args.name) (sym c.index-slots-place.is) ∙ sym c.has.ensures ∙ c.loop-place-test.true)

pub returns : goal.returns
returns c =
    let slot = c.index-slots-place.result in
    passes_first (has_name c.args.name) c.args.slots.now c.loop-place.place slot (first_within (has_name c.args.name) c.args.slots.now c.requires) c.loop-place.invariant (ap (has_name c.args.name) (sym c.index-slots-place.is) ∙ sym c.has.ensures ∙ c.loop-place-test.false)
