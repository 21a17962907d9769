use Rattle.std.proofs.Common.{◌≡◌, ℕ, List, [], Some, None, sym, ap, ◌∙◌}
use Rattle.std.specs.Ordering.{nat_cmp}
use Rattle.std.specs.FinMap as map
use Rattle.std.specs.FinMap.{get-empty}
use Rattle.token_book.specs.Pocket.{Pocket}
use Rattle.token_book.specs.Purse.{left_in, bytes_left_in}
use Rattle.token_book.proofs.places.Places.new.Goals as goal

nothing : (items : List (ℕ × Pocket)) (o : ℕ) → items ≡ [] → map.get (map.from_entries {R = nat_cmp} items) o ≡ None
nothing items o none = ap (λ (l : List (ℕ × Pocket)). map.get (map.from_entries {R = nat_cmp} l) o) none ∙ get-empty nat_cmp o

pub returns-clause-empty : goal.returns-clause-empty
returns-clause-empty c o =
    let none = nothing c.in_ok-with_capacity.field-0.items o c.in_ok-with_capacity.ensures.items in
    (ap left_in none, ap bytes_left_in none)

pub returns-clause-of : goal.returns-clause-of
returns-clause-of c table o p is =
    let e : None ≡ Some p = sym (nothing c.in_ok-with_capacity.field-0.items o c.in_ok-with_capacity.ensures.items) ∙ is in
    absurd (cc (e))
