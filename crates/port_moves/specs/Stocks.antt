-- The tickets of an access, on their way from a port's wallet into its payload's.
use Rattle.std.specs.Prelude.{ℕ, ◌≡◌, ◌⊎◌, ◌+◌, ◌*◌, ◌<◌, ◌≤◌, List, length, get_or, Some}
use Rattle.atomic_table.specs.Seated.{TableId}
use Rattle.tlm_model.specs.Plan.{Plan}
use Rattle.token_book.specs.Purse.{Purse, HasPlace, IsOf, bytes_of, left_of}
use Rattle.route_plan.specs.Plans.{walk_at}
use Rattle.route_plan.specs.Valid.{hop_count}
use Rattle.route_plan.specs.declared.step.Route.{Route}
use Rattle.plat_net.specs.Calls.{route_at}
use Rattle.plat_net.specs.Net.{HasPool}
use Rattle.port_moves.specs.Reach.{first_hop, own_pool}

-- the hops that an address of an initiator passes, and where the j-th stands in the history
abbrev pub hops_at : Plan → ℕ → ℕ → List ℕ
hops_at p n a = (walk_at p n a).hops

abbrev pub place_at : Plan → ℕ → ℕ → ℕ → ℕ
place_at p n a j = first_hop p (get_or (hops_at p n a) j 0)

-- four tickets of each of the first k hops went from one wallet into another one, and nothing else
pub record HasMoved (tokens : TableId) (hop : ℕ → ℕ) (k : ℕ) (old_from old_to from to : Purse) : Type 0 where
  pub of_from : IsOf tokens from
  pub of_to : IsOf tokens to
  pub from_places : from.places ≡ old_from.places
  pub to_places : to.places ≡ old_to.places
  pub given : (j : ℕ) → j < k → left_of from (hop j) + 4 ≡ left_of old_from (hop j)
  pub got : (j : ℕ) → j < k → left_of to (hop j) ≡ left_of old_to (hop j) + 4
  pub from_others : (o : ℕ) → ((j : ℕ) → j < k → o ≡ hop j → ⊥) → left_of from o ≡ left_of old_from o
  pub to_others : (o : ℕ) → ((j : ℕ) → j < k → o ≡ hop j → ⊥) → left_of to o ≡ left_of old_to o
  pub from_bytes : (o : ℕ) → bytes_of from o ≡ bytes_of old_from o
  pub to_bytes : (o : ℕ) → bytes_of to o ≡ bytes_of old_to o
  pub from_in : (o : ℕ) → HasPlace from o → HasPlace old_from o
  pub to_in : (o : ℕ) → HasPlace to o → HasPlace old_to o ⊎ ((j : ℕ) × (j < k) × (o ≡ hop j))

-- what the way of an address needs: no hop twice, each one of the platform, and four tickets of each
pub record MayMove (p : Plan) (n a : ℕ) (from : Purse) : Type 0 where
  pub apart : (j k : ℕ) → j < length (hops_at p n a) → k < length (hops_at p n a) → place_at p n a j ≡ place_at p n a k → j ≡ k
  pub there : (j : ℕ) → j < length (hops_at p n a) → get_or (hops_at p n a) j 0 < hop_count p.platform
  pub enough : (j : ℕ) → j < length (hops_at p n a) → 4 ≤ left_of from (place_at p n a j)

-- The tickets of the whole access: besides them those of the pool, but for that of its Take, and where the address has a route that of the memory, for so
-- many bytes.
pub record MayStock (p : Plan) (n a cost : ℕ) (from : Purse) : Type 0 where
  pub moves : MayMove p n a from
  pub has_pool : HasPool p.platform n
  pub apart_pool : (j : ℕ) → j < length (hops_at p n a) → place_at p n a j ≡ own_pool p n → ⊥
  pub apart_memory : (j : ℕ) (r : Route) → route_at p n a ≡ Some r → j < length (hops_at p n a) → place_at p n a j ≡ r.memory → ⊥
  pub apart : (r : Route) → route_at p n a ≡ Some r → own_pool p n ≡ r.memory → ⊥
  pub pooled : 2 * length (hops_at p n a) + 1 ≤ left_of from (own_pool p n)
  pub served : (r : Route) → route_at p n a ≡ Some r → (0 < left_of from r.memory) × (cost ≤ bytes_of from r.memory)

-- an object with this number gets no entry of the access
pub record IsApart (p : Plan) (n a o : ℕ) : Type 0 where
  pub hops : (j : ℕ) → j < length (hops_at p n a) → o ≡ place_at p n a j → ⊥
  pub pool : o ≡ own_pool p n → ⊥
  pub memory : (r : Route) → route_at p n a ≡ Some r → o ≡ r.memory → ⊥

-- they left this wallet
pub record HasPaid (tokens : TableId) (p : Plan) (n a cost : ℕ) (old new : Purse) : Type 0 where
  pub of : IsOf tokens new
  pub places : new.places ≡ old.places
  pub within : (o : ℕ) → HasPlace new o → HasPlace old o
  pub hops : (j : ℕ) → j < length (hops_at p n a) → left_of new (place_at p n a j) + 4 ≡ left_of old (place_at p n a j)
  pub pool : left_of new (own_pool p n) + (2 * length (hops_at p n a) + 1) ≡ left_of old (own_pool p n)
  pub memory : (r : Route) → route_at p n a ≡ Some r → (left_of new r.memory + 1 ≡ left_of old r.memory) × (bytes_of new r.memory + cost ≡ bytes_of old r.memory)
  pub others : (o : ℕ) → IsApart p n a o → left_of new o ≡ left_of old o
  pub other_bytes : (o : ℕ) → ((r : Route) → route_at p n a ≡ Some r → o ≡ r.memory → ⊥) → bytes_of new o ≡ bytes_of old o

-- and are in this one, which has nothing else
pub record IsStocked (tokens : TableId) (p : Plan) (n a cost : ℕ) (w : Purse) : Type 0 where
  pub of : IsOf tokens w
  pub places : w.places ≡ 12
  pub hops : (j : ℕ) → j < length (hops_at p n a) → left_of w (place_at p n a j) ≡ 4
  pub pool : left_of w (own_pool p n) ≡ 2 * length (hops_at p n a) + 1
  pub memory : (r : Route) → route_at p n a ≡ Some r → (left_of w r.memory ≡ 1) × (bytes_of w r.memory ≡ cost)
  pub none : (o : ℕ) → IsApart p n a o → left_of w o ≡ 0
  pub no_bytes : (o : ℕ) → ((r : Route) → route_at p n a ≡ Some r → o ≡ r.memory → ⊥) → bytes_of w o ≡ 0
