-- What is seen of a list of refused requests.
use Rattle.std.specs.Prelude.{ℕ, List}
use Rattle.tlm_types.specs.declared.ends.RefusedItem.{RefusedItem}

-- its items, and for how many it has room
pub record Refusals : Type 0 where
  pub items : List RefusedItem
  pub room : ℕ
