use Rattle.std.proofs.Common.{◌≡◌, ℕ, ◌<◌, ◌≤◌, ◌==◌, ◌∙◌, List, get_or, length, arith}
use Rattle.std.specs.List.{position_or_len}
use Rattle.std.proofs.lemmas.Bool.{eq-eqb, lt-ltb, ne_eqb}
use Rattle.payload_pool.specs.Slots.{tally}
use Rattle.view_lists.proofs.Searches.{fails_in_front, passes_first}
use Rattle.payload_pool.proofs.Found.{any_count, first_within}
use Rattle.payload_pool.proofs.slot.place_in.Goals as goal

first : (number : ℕ) (numbers : List ℕ) → 1 ≤ tally number numbers → position_or_len (λ (m : ℕ). m == number) numbers < length numbers
first number numbers out = first_within (λ (m : ℕ). m == number) numbers (any_count (λ (m : ℕ). m == number) numbers ∙ lt-ltb 0 (tally number numbers) (omega arith))

within : (number : ℕ) (numbers : List ℕ) (place : ℕ) → 1 ≤ tally number numbers → place ≤ position_or_len (λ (m : ℕ). m == number) numbers → place < length numbers
within number numbers place out on = let w = first number numbers out in omega (arith, on, w)

pub offset_bounds-numbers-place : goal.offset_bounds-numbers-place
offset_bounds-numbers-place c = let w = within c.args.number c.args.numbers.now c.loop-place.place c.requires c.loop-place.invariant in omega (arith, w)

pub bounds-numbers-place : goal.bounds-numbers-place
bounds-numbers-place c = within c.args.number c.args.numbers.now c.loop-place.place c.requires c.loop-place.invariant

pub overflow_add-place : goal.overflow_add-place
overflow_add-place c = let w = within c.args.number c.args.numbers.now c.loop-place.place c.requires c.loop-place.invariant in omega (arith, w)

pub loop-place-smaller : goal.loop-place-smaller
loop-place-smaller c = let w = within c.args.number c.args.numbers.now c.loop-place.place c.requires c.loop-place.invariant in omega (arith, w)

pub loop-place-preserved : goal.loop-place-preserved
loop-place-preserved c =
    let numbers = c.args.numbers.now in
    fails_in_front (λ (m : ℕ). m == c.args.number) numbers c.loop-place.place 0 (first c.args.number numbers c.requires) c.loop-place.invariant (ne_eqb (get_or numbers c.loop-place.place 0) c.args.number c.loop-place-test.true)

pub returns : goal.returns
returns c =
    let numbers = c.args.numbers.now in
    passes_first (λ (m : ℕ). m == c.args.number) numbers c.loop-place.place 0 (first c.args.number numbers c.requires) c.loop-place.invariant (eq-eqb (get_or numbers c.loop-place.place 0) c.args.number c.loop-place-test.false)
