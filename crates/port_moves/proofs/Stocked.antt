-- The tickets of an access have moved.
use Rattle.std.proofs.Common.{◌≡◌, ◌⊎◌, ℕ, suc, ◌+◌, ◌*◌, ◌<◌, ◌≤◌, ◌∷◌, length, Option, Some, None, refl, sym, ap, ◌∙◌, subst, inl, inr, arith}
use Rattle.std.specs.Ordering.{nat_cmp}
use Rattle.std.specs.FinMap.{get-empty}
use Rattle.atomic_table.specs.Seated.{TableId}
use Rattle.view_lists.specs.Lists.{Has}
use Rattle.token_book.specs.Purse.{HasPlace, HasRoom, Purse, bytes_left_in, bytes_of, empty_purse, left_in, left_of}
use Rattle.tlm_model.specs.Plan.{Plan}
use Rattle.route_plan.specs.declared.step.Route.{Route}
use Rattle.plat_net.specs.Calls.{route_at}
use Rattle.port_moves.specs.Reach.{own_pool}
use Rattle.port_moves.specs.Stocks.{HasMoved, HasPaid, IsStocked, MayStock, hops_at, place_at}
use Rattle.port_moves.specs.Wallets.{Gets, Gives}
use Rattle.port_moves.proofs.Stocking.{among_moved, gave_bytes, gave_bytes_else, gave_bytes_here, gave_else, gave_here, got_bytes, got_bytes_else, got_bytes_here, got_else, got_here, places_count, places_up, room_more}

nothing_left : (o : ℕ) → left_of (empty_purse 12) o ≡ 0
nothing_left o = ap left_in (get-empty nat_cmp o)

no_bytes_left : (o : ℕ) → bytes_of (empty_purse 12) o ≡ 0
no_bytes_left o = ap bytes_left_in (get-empty nat_cmp o)

one_route : (q r : Route) → Some q ≡ Some r → q ≡ r
one_route q r e = cc

no_route : {A : Type 0} (o : Option Route) (r : Route) → o ≡ None → o ≡ Some r → A
no_route o r e f = cc

pub gives_as : (t x : TableId) (o k n m b d : ℕ) (v w : Purse) → t ≡ x → o ≡ k → n ≡ m → b ≡ d → Gives t o n b v w → Gives x k m d v w
gives_as t x o k n m b d v w first second third fourth g =
    subst (λ (y : TableId). Gives y k m d v w) first (subst (λ (i : ℕ). Gives t i m d v w) second (subst (λ (i : ℕ). Gives t o i d v w) third (subst (λ (i : ℕ). Gives t o n i v w) fourth g)))

pub gets_as : (t x : TableId) (o k n m b d : ℕ) (v w : Purse) → t ≡ x → o ≡ k → n ≡ m → b ≡ d → Gets t o n b v w → Gets x k m d v w
gets_as t x o k n m b d v w first second third fourth g =
    subst (λ (y : TableId). Gets y k m d v w) first (subst (λ (i : ℕ). Gets t i m d v w) second (subst (λ (i : ℕ). Gets t o i d v w) third (subst (λ (i : ℕ). Gets t o n i v w) fourth g)))

-- where a plan says that an address leads
pub route_told : (q r w : Plan) (n a : ℕ) (o e : Option Route) → q ≡ r → r ≡ w → o ≡ route_at q n a → o ≡ e → route_at w n a ≡ e
route_told q r w n a o e first second told is = ap (λ (x : Plan). route_at x n a) (sym (first ∙ second)) ∙ (sym told ∙ is)

module _ (tokens : TableId) (p : Plan) (n a cost : ℕ) (u v : Purse) (may : MayStock p n a cost u) (empty : v ≡ empty_purse 12) (f1 t1 : Purse) (m : HasMoved tokens (place_at p n a) (length (hops_at p n a)) u v f1 t1) where
  abbrev pub hops : ℕ
  hops = length (hops_at p n a)

  abbrev pub pool : ℕ
  pool = own_pool p n

  was_none : (o : ℕ) → left_of v o ≡ 0
  was_none o = ap (λ (x : Purse). left_of x o) empty ∙ nothing_left o

  had_none : (o : ℕ) → bytes_of v o ≡ 0
  had_none o = ap (λ (x : Purse). bytes_of x o) empty ∙ no_bytes_left o

  pool_now : left_of f1 pool ≡ left_of u pool
  pool_now = m.from_others pool (λ j l e. may.apart_pool j l (sym e))

  pub pool_enough : 2 * hops + 1 ≤ left_of f1 pool
  pool_enough = let e = pool_now in let l = may.pooled in omega (arith, e, l)

  pub room_pool : hops ≤ 9 → HasRoom t1 pool
  room_pool few =
      let c = places_count (place_at p n a) hops in
      let q : t1.places ≡ 12 = m.to_places ∙ ap (λ (x : Purse). x.places) empty in
      room_more t1 (places_up (place_at p n a) hops) pool (omega (arith, c, q, few)) (among_moved tokens (place_at p n a) hops u v f1 t1 m empty)

  module _ (f2 t2 : Purse) (gives : Gives tokens pool (2 * hops + 1) 0 f1 f2) (gets : Gets tokens pool (2 * hops + 1) 0 t1 t2) (from_in : (o : ℕ) → HasPlace f2 o → HasPlace f1 o) (to_in : (o : ℕ) → HasPlace t2 o → HasPlace t1 o ⊎ (o ≡ pool)) where
    abbrev size : ℕ
    size = 2 * hops + 1

    hop_paid : (j : ℕ) → j < hops → left_of f2 (place_at p n a j) + 4 ≡ left_of u (place_at p n a j)
    hop_paid j l = let e = gave_else tokens pool size 0 f1 f2 gives (place_at p n a j) (may.apart_pool j l) in let g = m.given j l in omega (arith, e, g)

    pool_paid : left_of f2 pool + size ≡ left_of u pool
    pool_paid = gave_here tokens pool size 0 f1 f2 gives ∙ pool_now

    others_paid : (o : ℕ) → ((j : ℕ) → j < hops → o ≡ place_at p n a j → ⊥) → (o ≡ pool → ⊥) → left_of f2 o ≡ left_of u o
    others_paid o no_hop no_pool = gave_else tokens pool size 0 f1 f2 gives o no_pool ∙ m.from_others o no_hop

    bytes_paid : (o : ℕ) → bytes_of f2 o ≡ bytes_of u o
    bytes_paid o = gave_bytes tokens pool size f1 f2 gives o ∙ m.from_bytes o

    within : (o : ℕ) → HasPlace f2 o → HasPlace u o
    within o has = m.from_in o (from_in o has)

    hop_stocked : (j : ℕ) → j < hops → left_of t2 (place_at p n a j) ≡ 4
    hop_stocked j l = let e = got_else tokens pool size 0 t1 t2 gets (place_at p n a j) (may.apart_pool j l) in let g = m.got j l in let z = was_none (place_at p n a j) in omega (arith, e, g, z)

    pool_stocked : left_of t2 pool ≡ size
    pool_stocked = let e = got_here tokens pool size 0 t1 t2 gets in let g = m.to_others pool (λ j l e. may.apart_pool j l (sym e)) in let z = was_none pool in omega (arith, e, g, z)

    none_stocked : (o : ℕ) → ((j : ℕ) → j < hops → o ≡ place_at p n a j → ⊥) → (o ≡ pool → ⊥) → left_of t2 o ≡ 0
    none_stocked o no_hop no_pool = gave o no_hop no_pool ∙ was_none o
      where
        gave : (o : ℕ) → ((j : ℕ) → j < hops → o ≡ place_at p n a j → ⊥) → (o ≡ pool → ⊥) → left_of t2 o ≡ left_of v o
        gave o no_hop no_pool = got_else tokens pool size 0 t1 t2 gets o no_pool ∙ m.to_others o no_hop

    bytes_stocked : (o : ℕ) → bytes_of t2 o ≡ 0
    bytes_stocked o = got_bytes tokens pool size t1 t2 gets o ∙ (m.to_bytes o ∙ had_none o)

    places_now : t2.places ≡ 12
    places_now = gets.places ∙ (m.to_places ∙ ap (λ (x : Purse). x.places) empty)

    -- without a route that is all
    pub paid_none : route_at p n a ≡ None → HasPaid tokens p n a cost u f2
    paid_none none = record {
      of = gives.of;
      places = gives.places ∙ m.from_places;
      within = within;
      hops = hop_paid;
      pool = pool_paid;
      memory = λ r e. no_route (route_at p n a) r none e;
      others = λ o apart. others_paid o apart.hops apart.pool;
      other_bytes = λ o apart. bytes_paid o;
    }

    pub stocked_none : route_at p n a ≡ None → IsStocked tokens p n a cost t2
    stocked_none none = record {
      of = gets.of;
      places = places_now;
      hops = hop_stocked;
      pool = pool_stocked;
      memory = λ r e. no_route (route_at p n a) r none e;
      none = λ o apart. none_stocked o apart.hops apart.pool;
      no_bytes = λ o apart. bytes_stocked o;
    }

    module _ (r : Route) (routed : route_at p n a ≡ Some r) where
      no_hop : (j : ℕ) → j < hops → r.memory ≡ place_at p n a j → ⊥
      no_hop j l e = may.apart_memory j r routed l (sym e)

      no_pool : r.memory ≡ pool → ⊥
      no_pool e = may.apart r routed (sym e)

      pub memory_left : 0 < left_of f2 r.memory
      memory_left = let e = others_paid r.memory no_hop no_pool in let s = (may.served r routed).0 in omega (arith, e, s)

      pub memory_bytes : cost ≤ bytes_of f2 r.memory
      memory_bytes = let e = bytes_paid r.memory in let s = (may.served r routed).1 in omega (arith, e, s)

      pub room_memory : hops ≤ 9 → HasRoom t2 r.memory
      room_memory few =
          let c = places_count (place_at p n a) hops in
          let q = places_now in
          room_more t2 (pool ∷ places_up (place_at p n a) hops) r.memory (omega (arith, c, q, few)) (λ o has. elim (to_in o has) [
            | inl there ↦ (let h = among_moved tokens (place_at p n a) hops u v f1 t1 m empty o there in (suc h.0, h.1))
            | inr same ↦ subst (Has (pool ∷ places_up (place_at p n a) hops)) (sym same) (0, refl)
          ])

      module _ (f3 t3 : Purse) (gives3 : Gives tokens r.memory 1 cost f2 f3) (gets3 : Gets tokens r.memory 1 cost t2 t3) (from_in3 : (o : ℕ) → HasPlace f3 o → HasPlace f2 o) where
        same_memory : (q : Route) → route_at p n a ≡ Some q → r ≡ q
        same_memory q e = one_route r q (sym routed ∙ e)

        pub paid_some : HasPaid tokens p n a cost u f3
        paid_some = record {
          of = gives3.of;
          places = gives3.places ∙ (gives.places ∙ m.from_places);
          within = λ o has. within o (from_in3 o has);
          hops = λ j l. (let e = gave_else tokens r.memory 1 cost f2 f3 gives3 (place_at p n a j) (may.apart_memory j r routed l) in let g = hop_paid j l in omega (arith, e, g));
          pool = (let e = gave_else tokens r.memory 1 cost f2 f3 gives3 pool (may.apart r routed) in let g = pool_paid in omega (arith, e, g));
          memory = λ q e. subst (λ (k : Route). (left_of f3 k.memory + 1 ≡ left_of u k.memory) × (bytes_of f3 k.memory + cost ≡ bytes_of u k.memory)) (same_memory q e)
              (gave_here tokens r.memory 1 cost f2 f3 gives3 ∙ others_paid r.memory no_hop no_pool, gave_bytes_here tokens r.memory 1 cost f2 f3 gives3 ∙ bytes_paid r.memory);
          others = λ o apart. gave_else tokens r.memory 1 cost f2 f3 gives3 o (apart.memory r routed) ∙ others_paid o apart.hops apart.pool;
          other_bytes = λ o apart. gave_bytes_else tokens r.memory 1 cost f2 f3 gives3 o (apart r routed) ∙ bytes_paid o;
        }

        pub stocked_some : IsStocked tokens p n a cost t3
        stocked_some = record {
          of = gets3.of;
          places = gets3.places ∙ places_now;
          hops = λ j l. got_else tokens r.memory 1 cost t2 t3 gets3 (place_at p n a j) (may.apart_memory j r routed l) ∙ hop_stocked j l;
          pool = got_else tokens r.memory 1 cost t2 t3 gets3 pool (may.apart r routed) ∙ pool_stocked;
          memory = λ q e. subst (λ (k : Route). (left_of t3 k.memory ≡ 1) × (bytes_of t3 k.memory ≡ cost)) (same_memory q e) (
            (let e = got_here tokens r.memory 1 cost t2 t3 gets3 in let z = none_stocked r.memory no_hop no_pool in omega (arith, e, z)),
            (let e = got_bytes_here tokens r.memory 1 cost t2 t3 gets3 in let z = bytes_stocked r.memory in omega (arith, e, z)),
          );
          none = λ o apart. got_else tokens r.memory 1 cost t2 t3 gets3 o (apart.memory r routed) ∙ none_stocked o apart.hops apart.pool;
          no_bytes = λ o apart. got_bytes_else tokens r.memory 1 cost t2 t3 gets3 o (apart r routed) ∙ bytes_stocked o;
        }
