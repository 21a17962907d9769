-- Room for what the objects of a net leave, made before any is taken apart.
use Rattle.std.specs.Prelude.{ℕ, ◌≡◌, ◌≤◌, [], vec_capacity}
use Rattle.plat_end.specs.declared.apart.Apart.{Apart}

-- the lists hold what so many objects leave, of which so many are memories, and take no memory for it
pub record Fits (objects memories : ℕ) (a : Apart) : Type 0 where
  pub logs : objects ≤ vec_capacity a.logs
  pub stores : memories ≤ vec_capacity a.stores
  pub seats : objects ≤ vec_capacity a.seats

-- nothing is left yet, and there is room for what so many objects leave, of which so many are memories
pub record HasRoom (objects memories : ℕ) (a : Apart) : Type 0 where
  pub no_log : a.logs.items ≡ []
  pub no_store : a.stores.items ≡ []
  pub no_seat : a.seats.items ≡ []
  pub fits : Fits objects memories a
