-- A four-phase initiator has no share of an object that isn't there, so a wallet that has its share of each object has no other tickets.
use Rattle.std.proofs.Common.{◌≡◌, ◌⊎◌, ℕ, zero, suc, ◌+◌, ◌*◌, ◌<◌, ◌≤◌, ◌==◌, if◌then◌else◌, Bool, true, false, not, cond, List, [], ◌∷◌, length, get_or, Option, Some, None, IsSome, refl, sym, ap, ◌∙◌, subst, inl, inr, arith}
use Rattle.std.specs.Prelude.{count_by, slice_get, sum_by}
use Rattle.std.specs.FinMap as map
use Rattle.std.specs.List.{position_or_len}
use Rattle.std.proofs.lemmas.Bool.{eqb-true}
use Rattle.std.proofs.lemmas.List.Sums.{sum_by-cons}
use Rattle.std.proofs.lemmas.Option.{slice_get_within}
use Rattle.tlm_types.specs.declared.words.ObjectNo.{ObjectNo}
use Rattle.tlm_types.specs.declared.words.ObjectNo.TheVariants.{Memory, Hop, Pool}
use Rattle.tlm_model.specs.declared.ask.Ask.{Ask}
use Rattle.tlm_model.specs.declared.ask.Ask.TheVariants.{Access as AnAccess, DebugRead as ADebugRead, Invalidation as AnInvalidation}
use Rattle.tlm_model.specs.declared.platform.MemoryRow.{MemoryRow}
use Rattle.tlm_model.specs.declared.platform.Style.{Style}
use Rattle.tlm_model.specs.declared.platform.Style.TheVariants.{FourPhase}
use Rattle.tlm_model.specs.History.{is_object}
use Rattle.tlm_model.specs.Plan.{Plan, Initiator, initiators_of}
use Rattle.tlm_model.specs.Route.{Route, hops_of, route_of}
use Rattle.token_book.specs.Pocket.{Pocket}
use Rattle.token_book.specs.Purse.{HasPlace, Purse, left_in, left_of}
use Rattle.platform_shape.specs.Paths.{once}
use Rattle.route_plan.specs.Counted.{share_at, share_by}
use Rattle.route_plan.specs.Planned.{asks_in, at_gates, at_hop, at_memory, at_pool, by_fourphase, gates_by, is_routed_to, leads_to, share_of}
use Rattle.flow_model.specs.Events.{Among}
use Rattle.cargo_model.specs.Known.{object_number, objects_of}
use Rattle.cargo_model.specs.Origins.{AreThere}
use Rattle.cargo_model.proofs.Origins.{is_self, is_that, stands}
use Rattle.cargo_model.proofs.There.{there_law}
use Rattle.joined_traffic.specs.Accesses.{txn_of}
use Rattle.plat_net.specs.Objects.{HasObject}
use Rattle.plat_net.proofs.NumberLemmas.{memory_there}
use Rattle.port_moves.specs.State.{left_at}

decide : (o : ObjectNo) (os : List ObjectNo) → Among os o ⊎ (Among os o → ⊥)
decide o [] = inr (λ a. a)
decide o (q ∷ os) = by (is_object o q) refl (decide o os)
  where
    not_it : is_object o q ≡ false → q ≡ o → ⊥
    not_it e same = let t : is_object o q ≡ true = ap (is_object o) same ∙ is_self o in cc

    by : (b : Bool) → is_object o q ≡ b → Among os o ⊎ (Among os o → ⊥) → Among (q ∷ os) o ⊎ (Among (q ∷ os) o → ⊥)
    by true e rest = inl (inl (is_that o q e))
    by false e (inl a) = inl (inr a)
    by false e (inr missing) = inr (neither missing)
      where
        neither : (Among os o → ⊥) → Among (q ∷ os) o → ⊥
        neither missing (inl same) = not_it e same
        neither missing (inr a) = missing a

-- what isn't there is past all
past : (o : ObjectNo) (os : List ObjectNo) → (Among os o → ⊥) → length os ≤ position_or_len (is_object o) os
past o [] missing = omega arith
past o (q ∷ os) missing = go (is_object o q) refl (past o os (λ a. missing (inr a)))
  where
    go : (b : Bool) → is_object o q ≡ b → length os ≤ position_or_len (is_object o) os → suc (length os) ≤ cond (not b) (1 + position_or_len (is_object o) os) 0
    go true e rest = absurd (missing (inl (is_that o q e)))
    go false e rest = omega (arith, rest)

none_held : (w : Purse) (k : ℕ) → (HasPlace w k → ⊥) → left_of w k ≡ 0
none_held w k missing = by (map.get w.held k) missing
  where
    by : (q : Option Pocket) → (IsSome q → ⊥) → left_in q ≡ 0
    by None missing = refl
    by (Some pocket) missing = absurd (missing refl)

among_at : (os : List ObjectNo) (k : ℕ) (o : ObjectNo) → slice_get os k ≡ Some o → Among os o
among_at [] k o e = cc
among_at (q ∷ os) zero o e = inl (same q o e)
  where
    same : (a b : ObjectNo) → Some a ≡ Some b → a ≡ b
    same a b e = cc
among_at (q ∷ os) (suc k) o e = inr (among_at os k o e)

none_counted : (hops : List ℕ) (h : ℕ) → ((j : ℕ) → j < length hops → get_or hops j 0 ≡ h → ⊥) → count_by (λ k. k == h) hops ≡ 0
none_counted [] h missing = refl
none_counted (k ∷ hops) h missing = by (k == h) refl (none_counted hops h (λ j l e. missing (suc j) (omega (arith, l)) e))
  where
    by : (b : Bool) → (k == h) ≡ b → count_by (λ i. i == h) hops ≡ 0 → count_by (λ i. i == h) (k ∷ hops) ≡ 0
    by true e rest = absurd (missing 0 (omega arith) (eqb-true k h e))
    by false e rest = sum_by-cons (λ (i : ℕ). cond (i == h) 1 0) k hops ∙ (ap (λ (b : Bool). cond {A = ℕ} b 1 0 + count_by (λ i. i == h) hops) e ∙ ap (λ (i : ℕ). 0 + i) rest)

none_summed : {X : Type 0} (f : X → ℕ) → ((x : X) → f x ≡ 0) → (xs : List X) → sum_by f xs ≡ 0
none_summed f none [] = refl
none_summed f none (x ∷ xs) = omega (arith, sum_by-cons f x xs, none x, none_summed f none xs)

module _ (p : Plan) (i : Initiator) (its : slice_get (initiators_of p) i.number ≡ Some i) (style : i.row.style ≡ FourPhase) where
  there_at : (a : ℕ) → AreThere p (txn_of i.number 0) (record { hops = hops_of p.platform i a; routed = true }) (route_of p.platform i a)
  there_at a = there_law p (txn_of i.number 0) i a true its style

  not_led : (m a : ℕ) → (Among (objects_of p.platform) (Memory m) → ⊥) → once (is_routed_to p i m a) ≡ 0
  not_led m a missing = by (route_of p.platform i a) refl
    where
      by : (route : Option Route) → route_of p.platform i a ≡ route → once (leads_to route m) ≡ 0
      by None q = refl
      by (Some r) q = other (r.memory == m) refl
        where
          other : (b : Bool) → (r.memory == m) ≡ b → once b ≡ 0
          other false e = refl
          other true e = absurd (missing (subst (λ (k : ℕ). Among (objects_of p.platform) (Memory k)) (eqb-true r.memory m e) ((there_at a).memory r q)))

  no_memory : (m : ℕ) → (Among (objects_of p.platform) (Memory m) → ⊥) → (ask : Ask) → at_memory p i m ask ≡ 0
  no_memory m missing (AnAccess a n) = not_led m a missing
  no_memory m missing (ADebugRead a n) = not_led m a missing
  no_memory m missing (AnInvalidation a) = not_led m a missing

  no_gates : (m : ℕ) → (Among (objects_of p.platform) (Memory m) → ⊥) → at_gates p i m ≡ 0
  no_gates m missing = by (slice_get p.platform.memories m) refl
    where
      by : (row : Option MemoryRow) → slice_get p.platform.memories m ≡ row → gates_by p i m row ≡ 0
      by None q = refl
      by (Some row) q = absurd (missing (among_at (objects_of p.platform) m (Memory m) (memory_there p.platform m (slice_get_within p.platform.memories m row q))))

  no_hop : (h : ℕ) → (Among (objects_of p.platform) (Hop h) → ⊥) → (ask : Ask) → at_hop p i h ask ≡ 0
  no_hop h missing (AnAccess a n) =
      let none = none_counted (hops_of p.platform i a) h (λ j l e. missing (subst (λ (k : ℕ). Among (objects_of p.platform) (Hop k)) e ((there_at a).hops j l))) in
      ap (λ (t : Style). by_fourphase t (4 * count_by (λ k. k == h) (hops_of p.platform i a))) style ∙ ap (λ (k : ℕ). 4 * k) none
  no_hop h missing (ADebugRead a n) = refl
  no_hop h missing (AnInvalidation a) = refl

  no_pool : (k : ℕ) → (Among (objects_of p.platform) (Pool k) → ⊥) → (ask : Ask) → at_pool p i k ask ≡ 0
  no_pool k missing (AnAccess a n) = by (i.number == k) refl
    where
      by : (b : Bool) → (i.number == k) ≡ b → (if b then by_fourphase i.row.style (2 + 2 * length (hops_of p.platform i a)) else 0) ≡ 0
      by false e = refl
      by true e = absurd (missing (subst (λ (j : ℕ). Among (objects_of p.platform) (Pool j)) (eqb-true i.number k e) (there_at a).pool))
  no_pool k missing (ADebugRead a n) = refl
  no_pool k missing (AnInvalidation a) = refl

  no_share : (o : ObjectNo) → (Among (objects_of p.platform) o → ⊥) → share_of p i o ≡ 0
  unfolding share_of
  no_share (Memory m) missing = let asked = none_summed (at_memory p i m) (no_memory m missing) (asks_in i) in let gates = no_gates m missing in omega (arith, asked, gates)
  no_share (Hop h) missing = none_summed (at_hop p i h) (no_hop h missing) (asks_in i)
  no_share (Pool k) missing = none_summed (at_pool p i k) (no_pool k missing) (asks_in i)

  pub all_left : (w : Purse) → ((o : ℕ) → HasPlace w o → o < length (objects_of p.platform)) → ((k : ℕ) (o : ObjectNo) → HasObject p.platform k o → left_of w k ≡ share_at p i.number o)
      → (o : ObjectNo) → left_at p w o ≡ share_at p i.number o
  all_left w few left o = by (decide o (objects_of p.platform))
    where
      by : Among (objects_of p.platform) o ⊎ (Among (objects_of p.platform) o → ⊥) → left_at p w o ≡ share_at p i.number o
      by (inl a) = left (object_number p.platform o) o (stands o (objects_of p.platform) a)
      by (inr missing) =
          let far = past o (objects_of p.platform) missing in
          none_held w (object_number p.platform o) (λ has. let low = few (object_number p.platform o) has in absurd (omega (arith, far, low))) ∙ sym (ap (share_by p o) its ∙ no_share o missing)
