-- The addresses that lead into a range: only one way leads from an initiator to a memory.
use Rattle.std.proofs.Common.{◌≡◌, ℕ, zero, suc, ◌+◌, ◌-◌, ◌<◌, ◌≤◌, Bool, true, false, List, [], ◌∷◌, length, map, get_or, sum_by, Option, Some, None, slice_get, Result, Ok, eqb, nat_lt, true≢false, refl, sym, ap, subst, ◌∙◌, ⊎_elim, zero-add, arith, cond}
use Rattle.std.specs.Prelude.{IsSomeAnd, option_and_then, min, max, nat_le}
use Rattle.std.specs.List.{AllByRecursion, IsDistinct, list_any}
use Rattle.std.proofs.lemmas.Bool.{and_parts, cases_eq, cases_lt, cases_Bool, cond-true, cond-false, eq-eqb, eqb-true, leb-true, le-leb, lt-ltb, ltb-false, and_from, or_parts, or_cases}
use Rattle.std.proofs.lemmas.List.Folds.{fold-map}
use Rattle.std.proofs.lemmas.List.Sums.{get_or-le-sum_by, sum_by-cons, sum_by-le-sum_by}
use Rattle.std.proofs.lemmas.Map.Keys.{IsDistinct-cons}
use Rattle.std.proofs.lemmas.Map.Steps.{length-le_from_distinct_below}
use Rattle.std.proofs.lemmas.Option.{get_or_from_slice_get, slice_get_within}
use Rattle.addr_router.specs.declared.window.Window.{Window}
use Rattle.addr_router.specs.Windows.{AreApart, cut_up}
use Rattle.platform_model.specs.Bounded.{IsBounded, IsBoundedRouter}
use Rattle.platform_model.specs.Reading.{PlatformRefusal, rows_from}
use Rattle.platform_model.specs.Windows.{window_at}
use Rattle.platform_model.proofs.ReadLemmas.{bind_ok, unless_ok}
use Rattle.tlm_model.specs.declared.platform.InitiatorRow.{InitiatorRow}
use Rattle.tlm_model.specs.declared.platform.MemoryRow.{MemoryRow}
use Rattle.tlm_model.specs.declared.platform.Platform.{Platform}
use Rattle.tlm_model.specs.declared.platform.RouterRow.{RouterRow}
use Rattle.tlm_model.specs.declared.platform.Target.{Target}
use Rattle.tlm_model.specs.declared.platform.Target.TheVariants.{Router, Memory}
use Rattle.tlm_model.specs.declared.platform.WindowRow.{WindowRow}
use Rattle.tlm_model.specs.Plan.{Plan}
use Rattle.tlm_model.specs.Route.{Found, Walk, later, walk, window_has, window_of}
use Rattle.tlm_model.specs.Route as model
use Rattle.platform_shape.specs.Paths.{has_path, is_on_cycle, once, paths_to, reaches, targets_of}
use Rattle.platform_shape.specs.Shape.{IsShape, checked_acyclic, checked_depth, checked_memory_named, checked_router_named, checked_shape, checked_single, checked_windowed, has_two_paths}
use Rattle.platform_shape.proofs.PathLemmas.{along, any-some, number_found, reaches-some}
use Rattle.route_plan.specs.declared.step.Route.{Route}
use Rattle.route_plan.specs.Plans.{walk_at}
use Rattle.route_plan.specs.Routes.{bound_walk, route_by, route_seen, row_walk}
use Rattle.route_plan.specs.Valid.{IsValid as IsValidPlan}
use Rattle.route_plan.proofs.NumberLemmas.{window_is_found}
use Rattle.route_plan.proofs.PlanLemmas.{walk_of_row}
use Rattle.plat_net.specs.Calls.{route_at}
use Rattle.dmi_grants.specs.Ranges.{AreAddressesOf, lifted, lifted_at, lifted_by}
use Rattle.dmi_grants.proofs.Lifting.{EndsAt, into_end, lifted_over, mapped_at, route_end, window_has_it}

-- the test that a row passed, by its number
row_passed : {X : Type 0} (test : ℕ → X → Result (Unit {0}) PlatformRefusal) (i : ℕ) (xs : List X) (done : List (Unit {0})) → rows_from test i xs ≡ Ok done
    → (k n : ℕ) (x : X) → slice_get xs k ≡ Some x → i + k ≡ n → test n x ≡ Ok tt
unfolding rows_from
row_passed test i [] done h k n x at same = absurd (cc (at))
row_passed test i (y ∷ xs) done h zero n x at same =
    bind_ok (test i y) _ _ h (λ a first h1.
    let here : i ≡ n = omega arith in
    let is : y ≡ x = cc (at) in
    subst (λ (m : ℕ). test m x ≡ Ok tt) here (subst (λ z. test i z ≡ Ok tt) is first))
row_passed test i (y ∷ xs) done h (suc k) n x at same =
    bind_ok (test i y) _ _ h (λ a first h1. bind_ok (rows_from test (i + 1) xs) _ _ h1 (λ more rest h2.
    row_passed test (i + 1) xs more rest k n x at (omega arith)))

-- what the tests of a shape say of cycles and of second ways
record IsTested (p : Platform) : Type 0 where
  acyclic : (r : ℕ) (row : RouterRow) → slice_get p.routers r ≡ Some row → is_on_cycle p r ≡ false
  single : (n : ℕ) (row : InitiatorRow) → slice_get p.initiators n ≡ Some row → has_two_paths p row ≡ false

tested : (p : Platform) → checked_shape p ≡ Ok tt → IsTested p
unfolding checked_shape
tested p h =
    bind_ok (rows_from checked_windowed 0 p.routers) _ _ h (λ windowed windowed_read h1.
    bind_ok (rows_from (checked_router_named p) 0 p.routers) _ _ h1 (λ routers routers_read h2.
    bind_ok (rows_from (checked_memory_named p) 0 p.memories) _ _ h2 (λ memories memories_read h3.
    bind_ok (rows_from (checked_acyclic p) 0 p.routers) _ _ h3 (λ acyclic acyclic_read h4.
    bind_ok (rows_from (checked_depth p) 0 p.initiators) _ _ h4 (λ depth depth_read h5.
    bind_ok (rows_from (checked_single p) 0 p.initiators) _ _ h5 (λ single single_read h6.
    record {
      acyclic = λ r row at. (unless_ok (is_on_cycle p r) _ (Ok tt) tt (row_passed (checked_acyclic p) 0 p.routers acyclic acyclic_read r r row at (zero-add r))).0;
      single = λ n row at. (unless_ok (has_two_paths p row) _ (Ok tt) tt (row_passed (checked_single p) 0 p.initiators single single_read n n row at (zero-add n))).0;
    }))))))

-- more windows allow no fewer paths
paths_to-le : (k m : ℕ) (p : Platform) (t c : Target) → k ≤ m → paths_to k p t c ≤ paths_to m p t c
paths_to-le zero zero p t c le = omega arith
paths_to-le zero (suc m) p t c le = omega arith
paths_to-le (suc k) zero p t c le = absurd (omega (arith, le))
paths_to-le (suc k) (suc m) p t c le =
    let more = sum_by-le-sum_by (λ u. paths_to k p u c) (λ u. paths_to m p u c) (targets_of p t) (λ u. paths_to-le k m p u c (omega (arith, le))) in
    omega (arith, more)

two_in : {X : Type 0} (f : X → ℕ) (xs : List X) (i j : ℕ) (d : X) → i < j → j < length xs → f (get_or xs i d) + f (get_or xs j d) ≤ sum_by f xs
two_in f [] i j d lt below = absurd (omega (arith, below))
two_in f (x ∷ xs) zero zero d lt below = absurd (omega (arith, lt))
two_in f (x ∷ xs) zero (suc j) d lt below = let q = get_or-le-sum_by f xs j d (omega (arith, below)) in omega (arith, sum_by-cons f x xs, q)
two_in f (x ∷ xs) (suc i) zero d lt below = absurd (omega (arith, lt))
two_in f (x ∷ xs) (suc i) (suc j) d lt below = let q = two_in f xs i j d (omega (arith, lt)) (omega (arith, below)) in omega (arith, sum_by-cons f x xs, q)

-- a sum over where the windows of a router lead
over_windows : (g : Target → ℕ) (p : Platform) (s : ℕ) (row : RouterRow) → slice_get p.routers s ≡ Some row → sum_by g (targets_of p (Router s)) ≡ sum_by (λ (v : WindowRow). g v.to) row.windows
over_windows g p s row at = ap (sum_by g) (along p s row at) ∙ fold-map (λ a u. a + g u) (λ (v : WindowRow). v.to) 0 row.windows

-- what a window leads to counts
led_counts : (g : Target → ℕ) (p : Platform) (r k : ℕ) (row : RouterRow) (w : WindowRow) → slice_get p.routers r ≡ Some row → slice_get row.windows k ≡ Some w → g w.to ≤ sum_by g (targets_of p (Router r))
led_counts g p r k row w there at =
    let one = get_or-le-sum_by (λ (v : WindowRow). g v.to) row.windows k w (slice_get_within row.windows k w at) in
    let same : g (get_or row.windows k w).to ≡ g w.to = ap (λ (v : WindowRow). g v.to) (get_or_from_slice_get row.windows k w w at) in
    omega (arith, one, same, over_windows g p r row there)

-- two windows that lead on to a component make two paths
two_lead : (p : Platform) (K r i j : ℕ) (row : RouterRow) (v w : WindowRow) (c : Target) → slice_get p.routers r ≡ Some row → slice_get row.windows i ≡ Some v → slice_get row.windows j ≡ Some w → i < j
    → 1 ≤ paths_to K p v.to c → 1 ≤ paths_to K p w.to c → paths_to (suc K) p (Router r) c ≤ 1 → ⊥
two_lead p K r i j row v w c there at_i at_j lt one two few =
    let g : WindowRow → ℕ = λ x. paths_to K p x.to c in
    let both = two_in g row.windows i j w lt (slice_get_within row.windows j w at_j) in
    let first : g (get_or row.windows i w) ≡ g v = ap g (get_or_from_slice_get row.windows i v w at_i) in
    let second : g (get_or row.windows j w) ≡ g w = ap g (get_or_from_slice_get row.windows j w w at_j) in
    absurd (omega (arith, both, first, second, one, two, few, over_windows (λ u. paths_to K p u c) p r row there))

-- how a walk goes through a router, and how many hops it passes
record IsThrough (k : ℕ) (p : Platform) (r a m off hops : ℕ) : Type 0 where
  row : RouterRow
  there : slice_get p.routers r ≡ Some row
  f : Found
  found : window_of 0 row.windows a ≡ Some f
  late : ℕ
  ends : EndsAt (walk k p f.window.to (a - f.window.first + f.window.base) late) m off
  more : hops ≡ suc (length (walk k p f.window.to (a - f.window.first + f.window.base) late).hops)

module _ (k : ℕ) (p : Platform) (r a m off : ℕ) where
  through_window : (row : RouterRow) (late : ℕ) (o : Option Found) → slice_get p.routers r ≡ Some row → window_of 0 row.windows a ≡ o → EndsAt (model.into_window p r o a late (λ t b c. walk k p t b c)) m off → IsThrough k p r a m off (length (model.into_window p r o a late (λ t b c. walk k p t b c)).hops)
  through_window row late None there is ends = absurd (cc (ends))
  through_window row late (Some f) there is ends = record { row = row; there = there; f = f; found = is; late = late; ends = ends; more = refl }

  through_router : (before : ℕ) (o : Option RouterRow) → slice_get p.routers r ≡ o → EndsAt (model.into_router p r o a before (λ t b c. walk k p t b c)) m off → IsThrough k p r a m off (length (model.into_router p r o a before (λ t b c. walk k p t b c)).hops)
  through_router before None is ends = absurd (cc (ends))
  through_router before (Some row) is ends = through_window row (later before row.latency) (window_of 0 row.windows a) is refl ends

  through : (before : ℕ) → EndsAt (walk (suc k) p (Router r) a before) m off → IsThrough k p r a m off (length (walk (suc k) p (Router r) a before).hops)
  through before ends = through_router before (slice_get p.routers r) refl ends

-- the routers that a walk to memory m visits from t on: n of them, none twice
record IsWalked (p : Platform) (t : Target) (m n : ℕ) : Type 0 where
  rs : List ℕ
  count : length rs ≡ n
  own : IsDistinct eqb rs
  there : (q : ℕ) → list_any (eqb q) rs ≡ true → q < length p.routers
  reached : (q : ℕ) → list_any (eqb q) rs ≡ true → 1 ≤ paths_to n p t (Router q)
  ends : 1 ≤ paths_to n p t (Memory m)
  memory : m < length p.memories

no_more : IsDistinct eqb []
unfolding IsDistinct
no_more = tt

apart : (s : ℕ) (rs : List ℕ) → list_any (eqb s) rs ≡ false → AllByRecursion (λ y. eqb s y ≡ false) rs
apart s [] h = tt
apart s (r ∷ rs) h = let q = or_parts (eqb s r) (list_any (eqb s) rs) h in (q.0, apart s rs q.1)

few_walked : (p : Platform) (t : Target) (m n : ℕ) → IsWalked p t m n → n ≤ length p.routers
few_walked p t m n w = omega (arith, length-le_from_distinct_below w.rs (length p.routers) w.own w.there, w.count)

walked_memory : (p : Platform) (o : Option MemoryRow) (n a before m off : ℕ) → slice_get p.memories n ≡ o → EndsAt (model.into_memory o n a before) m off → IsWalked p (Memory n) m (length (model.into_memory o n a before).hops)
walked_memory p None n a before m off is ends = absurd (cc (ends))
walked_memory p (Some row) n a before m off is ends =
    let x : model.Route = record { memory = n; offset = a } in
    let y : model.Route = record { memory = m; offset = off } in
    let e : x ≡ y = cc (ends) in
    let same : n ≡ m = ap (λ (z : model.Route). z.memory) e in
    let one = ap once (eq-eqb n m same) in
    record {
      rs = [];
      count = refl;
      own = no_more;
      there = λ q h. absurd (cc (h));
      reached = λ q h. absurd (cc (h));
      ends = omega (arith, one);
      memory = (let below = slice_get_within p.memories n row is in omega (arith, below, same));
    }

module _ (p : Platform) (tests : IsTested p) where
  walked_up : (r k m n : ℕ) (row : RouterRow) (w : WindowRow) → slice_get p.routers r ≡ Some row → slice_get row.windows k ≡ Some w → IsWalked p w.to m n → IsWalked p (Router r) m (suc n)
  walked_up r k m n row w there at d =
      let below : r < length p.routers = slice_get_within p.routers r row there in
      let few = few_walked p w.to m n d in
      let cycle : list_any (eqb r) d.rs ≡ true → ⊥ = λ met.
      let back = d.reached r met in
      let more = paths_to-le n (length p.routers) p w.to (Router r) few in
      let over = led_counts (λ u. paths_to (length p.routers) p u (Router r)) p r k row w there at in
      let counted = any-some (λ u. reaches (length p.routers) p u (Router r)) (λ u. paths_to (length p.routers) p u (Router r)) (λ u. reaches-some (length p.routers) p u (Router r)) (targets_of p (Router r)) in
      let none = ltb-false 0 (sum_by (λ u. paths_to (length p.routers) p u (Router r)) (targets_of p (Router r))) (sym counted ∙ tests.acyclic r row there) in
      absurd (omega (arith, back, more, over, none)) in
      let unmet : list_any (eqb r) d.rs ≡ false = ⊎_elim (λ (met : list_any (eqb r) d.rs ≡ true). absurd (cycle met)) (λ (no' : list_any (eqb r) d.rs ≡ false). no') (cases_Bool (list_any (eqb r) d.rs)) in
      record {
        rs = r ∷ d.rs;
        count = (let c = d.count in omega arith);
        own = IsDistinct-cons eqb r d.rs (apart r d.rs unmet) d.own;
        there = λ q h. ⊎_elim (λ (e : eqb q r ≡ true). let same = eqb-true q r e in omega (arith, below, same)) (λ (e : list_any (eqb q) d.rs ≡ true). d.there q e) (or_cases (eqb q r) (list_any (eqb q) d.rs) h);
        reached = λ q h. ⊎_elim
            (λ (e : eqb q r ≡ true). let one = ap once (eq-eqb r q (sym (eqb-true q r e))) in omega (arith, one))
            (λ (e : list_any (eqb q) d.rs ≡ true). let over = led_counts (λ u. paths_to n p u (Router q)) p r k row w there at in let old = d.reached q e in omega (arith, over, old))
            (or_cases (eqb q r) (list_any (eqb q) d.rs) h);
        ends = (let over = led_counts (λ u. paths_to n p u (Memory m)) p r k row w there at in let old = d.ends in omega (arith, over, old));
        memory = d.memory;
      }

  walked : (k : ℕ) (t : Target) (a before m off : ℕ) → EndsAt (walk k p t a before) m off → IsWalked p t m (length (walk k p t a before).hops)
  walked zero t a before m off ends = absurd (cc (ends))
  walked (suc k) (Memory n) a before m off ends = walked_memory p (slice_get p.memories n) n a before m off refl ends
  walked (suc k) (Router r) a before m off ends =
      let th = through k p r a m off before ends in
      let d = walked k th.f.window.to (a - th.f.window.first + th.f.window.base) th.late m off th.ends in
      subst (λ (n : ℕ). IsWalked p (Router r) m n) (sym th.more)
      (walked_up r th.f.index m (length (walk k p th.f.window.to (a - th.f.window.first + th.f.window.base) th.late).hops) th.row th.f.window th.there (window_is_found th.row.windows a th.f th.found) d)

-- the range at a router, by that behind the window
record IsCut (w : WindowRow) (o : Option (ℕ × ℕ)) (low high : ℕ) : Type 0 where
  r : ℕ × ℕ
  inner : o ≡ Some r
  some : max r.0 w.base ≤ min r.1 (w.last - w.first + w.base)
  low_is : low ≡ max r.0 w.base - w.base + w.first
  high_is : high ≡ min r.1 (w.last - w.first + w.base) - w.base + w.first

cut_by : (n : ℕ) (w : WindowRow) (r : ℕ × ℕ) (low high : ℕ) (b : Bool) → nat_le (max r.0 w.base) (min r.1 (w.last - w.first + w.base)) ≡ b
    → cond {A = Option (ℕ × ℕ)} b (Some (max r.0 w.base - w.base + w.first, min r.1 (w.last - w.first + w.base) - w.base + w.first)) None ≡ Some (low, high) → IsCut w (Some r) low high
cut_by n w r low high false test is = absurd (cc (is))
cut_by n w r low high true test is =
    let up : ℕ × ℕ = (max r.0 w.base - w.base + w.first, min r.1 (w.last - w.first + w.base) - w.base + w.first) in
    let pair : up ≡ (low, high) = cc (is) in
    record {
      r = r;
      inner = refl;
      some = leb-true (max r.0 w.base) (min r.1 (w.last - w.first + w.base)) test;
      low_is = sym (ap (λ (x : ℕ × ℕ). x.0) pair);
      high_is = sym (ap (λ (x : ℕ × ℕ). x.1) pair);
    }

cut : (n : ℕ) (w : WindowRow) (o : Option (ℕ × ℕ)) (low high : ℕ) → option_and_then (λ (x : ℕ × ℕ). cut_up (window_at n w) x.0 x.1) o ≡ Some (low, high) → IsCut w o low high
cut n w None low high is = absurd (cc (is))
cut n w (Some r) low high is = cut_by n w r low high (nat_le (max r.0 w.base) (min r.1 (w.last - w.first + w.base))) refl is

-- the window that an address takes, by one that takes it
same_window : (p : Platform) (K r : ℕ) (row : RouterRow) (f g : Found) (c : Target) → slice_get p.routers r ≡ Some row → slice_get row.windows f.index ≡ Some f.window → slice_get row.windows g.index ≡ Some g.window
    → 1 ≤ paths_to K p f.window.to c → 1 ≤ paths_to K p g.window.to c → paths_to (suc K) p (Router r) c ≤ 1 → f.window ≡ g.window
same_window p K r row f g c there at_f at_g one two few = ⊎_elim
    (λ (same : f.index ≡ g.index). let e : Some f.window ≡ Some g.window = sym at_f ∙ ap (slice_get row.windows) same ∙ at_g in cc (e))
    (λ (other : f.index ≡ g.index → ⊥). ⊎_elim
    (λ (lt : f.index < g.index). absurd (two_lead p K r f.index g.index row f.window g.window c there at_f at_g lt one two few))
    (λ (ge : g.index ≤ f.index). absurd (two_lead p K r g.index f.index row g.window f.window c there at_g at_f (omega (arith, ge, other)) two one few))
    (cases_lt f.index g.index))
    (cases_eq f.index g.index)

one_row : (p : Platform) (r : ℕ) (x y : RouterRow) → slice_get p.routers r ≡ Some x → slice_get p.routers r ≡ Some y → x ≡ y
one_row p r x y at_x at_y = let e : Some x ≡ Some y = sym at_x ∙ at_y in cc (e)

module _ (p : Platform) (tests : IsTested p) (m first last : ℕ) where
  -- an address that leads into the range is one of those to which it is translated up
  only_way : (k : ℕ) (t : Target) (a b before_a before_b off_a off_b low high K : ℕ) → EndsAt (walk k p t a before_a) m off_a → EndsAt (walk k p t b before_b) m off_b
      → length (walk k p t a before_a).hops ≤ K → length (walk k p t b before_b).hops ≤ K → paths_to K p t (Memory m) ≤ 1 → lifted k p t a (first, last) ≡ Some (low, high) → first ≤ off_b → off_b ≤ last → (low ≤ b) × (b ≤ high)
  unfolding lifted
  only_way zero t a b before_a before_b off_a off_b low high K ends_a ends_b short_a short_b few up from to = absurd (cc (ends_a))
  only_way (suc k) (Memory n) a b before_a before_b off_a off_b low high K ends_a ends_b short_a short_b few up from to =
      let same : b ≡ off_b = into_end (slice_get p.memories n) n b before_b m off_b ends_b in
      let pair : (first, last) ≡ (low, high) = cc (up) in
      let l = ap (λ (x : ℕ × ℕ). x.0) pair in
      let h = ap (λ (x : ℕ × ℕ). x.1) pair in
      (omega (arith, same, l, from), omega (arith, same, h, to))
  only_way (suc k) (Router r) a b before_a before_b off_a off_b low high zero ends_a ends_b short_a short_b few up from to =
      let th = through k p r a m off_a before_a ends_a in
      let more = th.more in
      absurd (omega (arith, more, short_a))
  only_way (suc k) (Router r) a b before_a before_b off_a off_b low high (suc K) ends_a ends_b short_a short_b few up from to =
      let th = through k p r a m off_a before_a ends_a in
      let tb = through k p r b m off_b before_b ends_b in
      let wa = walked p tests k th.f.window.to (a - th.f.window.first + th.f.window.base) th.late m off_a th.ends in
      let wb = walked p tests k tb.f.window.to (b - tb.f.window.first + tb.f.window.base) tb.late m off_b tb.ends in
      let more_a = th.more in
      let more_b = tb.more in
      let na : ℕ = length (walk k p th.f.window.to (a - th.f.window.first + th.f.window.base) th.late).hops in
      let nb : ℕ = length (walk k p tb.f.window.to (b - tb.f.window.first + tb.f.window.base) tb.late).hops in
      let less_a : na ≤ K = omega (arith, more_a, short_a) in
      let less_b : nb ≤ K = omega (arith, more_b, short_b) in
      let le_a = paths_to-le na K p th.f.window.to (Memory m) less_a in
      let le_b = paths_to-le nb K p tb.f.window.to (Memory m) less_b in
      let ea = wa.ends in
      let eb = wb.ends in
      let row : tb.row ≡ th.row = one_row p r tb.row th.row tb.there th.there in
      let at_a = window_is_found th.row.windows a th.f th.found in
      let at_b = subst (λ (x : RouterRow). slice_get x.windows tb.f.index ≡ Some tb.f.window) row (window_is_found tb.row.windows b tb.f tb.found) in
      let w : th.f.window ≡ tb.f.window = same_window p K r th.row th.f tb.f (Memory m) th.there at_a at_b (omega (arith, le_a, ea)) (omega (arith, le_b, eb)) few in
      let has_b = subst (λ (x : WindowRow). (x.first ≤ b) × (b ≤ x.last)) (sym w) (window_has_it 0 tb.row.windows b tb.f tb.found) in
      let b_first = has_b.0 in
      let b_last = has_b.1 in
      let inner = cut th.f.index th.f.window (lifted k p th.f.window.to (a - th.f.window.first + th.f.window.base) (first, last)) low high
      (sym (lifted_over p (Router r) r a (suc k) k th.row th.f (first, last) (omega arith) refl th.there th.found) ∙ up) in
      let less = led_counts (λ u. paths_to K p u (Memory m)) p r th.f.index th.row th.f.window th.there at_a in
      let step : (inner.r.0 ≤ b - th.f.window.first + th.f.window.base) × (b - th.f.window.first + th.f.window.base ≤ inner.r.1) =
      only_way k th.f.window.to (a - th.f.window.first + th.f.window.base) (b - th.f.window.first + th.f.window.base) th.late tb.late off_a off_b inner.r.0 inner.r.1 K th.ends
      (subst (λ (x : WindowRow). EndsAt (walk k p x.to (b - x.first + x.base) tb.late) m off_b) (sym w) tb.ends) less_a
      (subst (λ (x : WindowRow). length (walk k p x.to (b - x.first + x.base) tb.late).hops ≤ K) (sym w) less_b)
      (omega (arith, less, few)) inner.inner from to in
      let s0 = step.0 in
      let s1 = step.1 in
      let li = inner.low_is in
      let hi = inner.high_is in
      let so = inner.some in
      (omega (arith, s0, s1, li, hi, so, b_first, b_last), omega (arith, s0, s1, li, hi, so, b_first, b_last))

-- no address lies in two of the windows
abbrev AreWindowsApart : List WindowRow → Type 0
AreWindowsApart ws = (i j : ℕ) (v w : WindowRow) (a : ℕ) → i < j → slice_get ws i ≡ Some v → slice_get ws j ≡ Some w → v.first ≤ a → a ≤ v.last → w.first ≤ a → a ≤ w.last → ⊥

windows_apart : (p : Platform) (r : ℕ) (row : RouterRow) → IsBounded p → slice_get p.routers r ≡ Some row → AreWindowsApart row.windows
windows_apart p r row bounded there i j v w a lt at_v at_w v_first v_last w_first w_last =
    let head : r < length p.routers = slice_get_within p.routers r row there in
    let router : IsBoundedRouter p row = subst (IsBoundedRouter p) (get_or_from_slice_get p.routers r row row there) (bounded.routers r row head) in
    let xs : List Window = map (window_at 0) row.windows in
    let d : Window = window_at 0 w in
    let mv : slice_get xs i ≡ Some (window_at 0 v) = mapped_at (window_at 0) row.windows i v at_v in
    let mw : slice_get xs j ≡ Some (window_at 0 w) = mapped_at (window_at 0) row.windows j w at_w in
    let pair : AreApart (get_or xs i d) (get_or xs j d) = router.windows.apart i j d lt (slice_get_within xs j (window_at 0 w) mw) in
    let both : AreApart (window_at 0 v) (window_at 0 w) = subst (λ (x : Window). AreApart x (window_at 0 w)) (get_or_from_slice_get xs i (window_at 0 v) d mv) (subst (λ (x : Window). AreApart (get_or xs i d) x) (get_or_from_slice_get xs j (window_at 0 w) d mw) pair) in
    both a (and_from (nat_le v.first a) (nat_le a v.last) (le-leb v.first a v_first) (le-leb a v.last v_last)) (and_from (nat_le w.first a) (nat_le a w.last) (le-leb w.first a w_first) (le-leb a w.last w_last))

place_by : (n : ℕ) (x : WindowRow) (xs : List WindowRow) (a : ℕ) (f : Found) → (window_of (n + 1) xs a ≡ Some f → (j : ℕ) × (slice_get xs j ≡ Some f.window)) → (b : Bool) → window_has x a ≡ b
    → cond b (Some (record { index = n; window = x })) (window_of (n + 1) xs a) ≡ Some f → (j : ℕ) × (slice_get (x ∷ xs) j ≡ Some f.window)
place_by n x xs a f next true has is =
    let g : Found = record { index = n; window = x } in
    let e : g ≡ f = cc (is) in
    (0, ap (λ (h : Found). Some h.window) e)
place_by n x xs a f next false has is = let r = next is in (suc r.0, r.1)

place_of : (n : ℕ) (ws : List WindowRow) (a : ℕ) (f : Found) → window_of n ws a ≡ Some f → (j : ℕ) × (slice_get ws j ≡ Some f.window)
place_of n [] a f is = absurd (cc (is))
place_of n (x ∷ xs) a f is = place_by n x xs a f (place_of (n + 1) xs a f) (window_has x a) refl is

again_by : (n : ℕ) (x : WindowRow) (xs : List WindowRow) (a b : ℕ) (f : Found) → AreWindowsApart (x ∷ xs) → f.window.first ≤ b → b ≤ f.window.last → (window_of (n + 1) xs a ≡ Some f → window_of (n + 1) xs b ≡ Some f) → (t : Bool) → window_has x a ≡ t
    → cond t (Some (record { index = n; window = x })) (window_of (n + 1) xs a) ≡ Some f → window_of n (x ∷ xs) b ≡ Some f
again_by n x xs a b f pairs from to next true has is =
    let g : Found = record { index = n; window = x } in
    let e : g ≡ f = cc (is) in
    let w : x ≡ f.window = ap (λ (h : Found). h.window) e in
    let x_from : x.first ≤ b = subst (λ (v : WindowRow). v.first ≤ b) (sym w) from in
    let x_to : b ≤ x.last = subst (λ (v : WindowRow). b ≤ v.last) (sym w) to in
    cond-true (window_has x b) (Some g) (window_of (n + 1) xs b) (and_from (nat_le x.first b) (nat_le b x.last) (le-leb x.first b x_from) (le-leb b x.last x_to)) ∙ is
again_by n x xs a b f pairs from to next false has is =
    let g : Found = record { index = n; window = x } in
    let place = place_of (n + 1) xs a f is in
    let without : window_has x b ≡ false = ⊎_elim
    (λ (yes' : window_has x b ≡ true).
    let both = and_parts (nat_le x.first b) (nat_le b x.last) yes' in
    absurd (pairs 0 (suc place.0) x f.window b (omega arith) refl place.1 (leb-true x.first b both.0) (leb-true b x.last both.1) from to))
    (λ (no' : window_has x b ≡ false). no')
    (cases_Bool (window_has x b)) in
    cond-false (window_has x b) (Some g) (window_of (n + 1) xs b) without ∙ next is

-- another address of the window takes it, too
taken_again : (n : ℕ) (ws : List WindowRow) (a b : ℕ) (f : Found) → AreWindowsApart ws → f.window.first ≤ b → b ≤ f.window.last → window_of n ws a ≡ Some f → window_of n ws b ≡ Some f
taken_again n [] a b f pairs from to is = absurd (cc (is))
taken_again n (x ∷ xs) a b f pairs from to is =
    again_by n x xs a b f pairs from to (taken_again (n + 1) xs a b f (λ i j v w c lt. pairs (suc i) (suc j) v w c (omega (arith, lt))) from to) (window_has x a) refl is

ends_memory : (o : Option MemoryRow) (n a b before late m off : ℕ) → EndsAt (model.into_memory o n a before) m off → EndsAt (model.into_memory o n b late) m b
ends_memory None n a b before late m off is = absurd (cc (is))
ends_memory (Some row) n a b before late m off is =
    let x : model.Route = record { memory = n; offset = a } in
    let y : model.Route = record { memory = m; offset = off } in
    let e : x ≡ y = cc (is) in
    ap (λ (k : ℕ). Some (let z : model.Route = record { memory = k; offset = b } in z)) (ap (λ (z : model.Route). z.memory) e)

walk_through : (k : ℕ) (p : Platform) (r b before m off : ℕ) (row : RouterRow) (f : Found) → slice_get p.routers r ≡ Some row → window_of 0 row.windows b ≡ Some f
    → EndsAt (walk k p f.window.to (b - f.window.first + f.window.base) (later before row.latency)) m off → EndsAt (walk (suc k) p (Router r) b before) m off
walk_through k p r b before m off row f there found ends =
    ap (λ (o : Option RouterRow). (model.into_router p r o b before (λ t c d. walk k p t c d)).end) there
    ∙ ap (λ (o : Option Found). (model.into_window p r o b (later before row.latency) (λ t c d. walk k p t c d)).end) found
    ∙ ends

-- the addresses to which a range is translated up lead into it, each as far on as it is from the first
leads : (k : ℕ) (p : Platform) (t : Target) (a b before late m off first last low high : ℕ) → IsBounded p → EndsAt (walk k p t a before) m off → lifted k p t a (first, last) ≡ Some (low, high) → low ≤ b → b ≤ high
    → (x : ℕ) × EndsAt (walk k p t b late) m x × (x + a ≡ off + b)
unfolding lifted
leads zero p t a b before late m off first last low high bounded ends up from to = absurd (cc (ends))
leads (suc k) p (Memory n) a b before late m off first last low high bounded ends up from to =
    let same : a ≡ off = into_end (slice_get p.memories n) n a before m off ends in
    (b, ends_memory (slice_get p.memories n) n a b before late m off ends, omega (arith, same))
leads (suc k) p (Router r) a b before late m off first last low high bounded ends up from to =
    let th = through k p r a m off before ends in
    let w : WindowRow = th.f.window in
    let has_a = window_has_it 0 th.row.windows a th.f th.found in
    let a_first = has_a.0 in
    let a_last = has_a.1 in
    let inner = cut th.f.index w (lifted k p w.to (a - w.first + w.base) (first, last)) low high
    (sym (lifted_over p (Router r) r a (suc k) k th.row th.f (first, last) (omega arith) refl th.there th.found) ∙ up) in
    let li = inner.low_is in
    let hi = inner.high_is in
    let so = inner.some in
    let b_first : w.first ≤ b = omega (arith, li, from) in
    let b_last : b ≤ w.last = omega (arith, hi, so, to, a_first, a_last) in
    let found_b = taken_again 0 th.row.windows a b th.f (windows_apart p r th.row bounded th.there) b_first b_last th.found in
    let rest = leads k p w.to (a - w.first + w.base) (b - w.first + w.base) th.late (later late th.row.latency) m off first last inner.r.0 inner.r.1 bounded th.ends inner.inner
    (omega (arith, li, so, from, b_first)) (omega (arith, hi, so, to, b_first)) in
    let sum = rest.2 in
    (rest.0, walk_through k p r b late m rest.0 th.row th.f th.there found_b rest.1, omega (arith, sum, a_first, b_first))

-- an initiator has one path to a memory
one_path : (p : Platform) (row : InitiatorRow) (m : ℕ) → has_two_paths p row ≡ false → m < length p.memories → paths_to (length p.routers) p row.bind (Memory m) ≤ 1
one_path p row m single there = ⊎_elim
    (λ (two : 1 < paths_to (length p.routers) p row.bind (Memory m)).
    let parts = or_parts _ _ single in
    let found = number_found (λ m. nat_lt 1 (paths_to (length p.routers) p row.bind (Memory m))) (length p.memories) m there (lt-ltb 1 (paths_to (length p.routers) p row.bind (Memory m)) two) in
    absurd (true≢false (found ∙ parts.1)))
    (λ (few : paths_to (length p.routers) p row.bind (Memory m) ≤ 1). few)
    (cases_lt 1 (paths_to (length p.routers) p row.bind (Memory m)))

module _ (p : Platform) (shape : IsShape p) (who a m off first last low high : ℕ) where
  row_others : (o : Option InitiatorRow) → slice_get p.initiators who ≡ o → EndsAt (row_walk p who o a) m off → lifted_by p o a (first, last) ≡ Some (low, high) → (b x : ℕ) → EndsAt (row_walk p who o b) m x → first ≤ x → x ≤ last → (low ≤ b) × (b ≤ high)
  row_others None at ends up b x ends_b from to = absurd (cc (ends))
  row_others (Some row) at ends up b x ends_b from to =
      let tests = tested p shape.checked in
      let wa = walked p tests 9 row.bind a 0 m off ends in
      let wb = walked p tests 9 row.bind b 0 m x ends_b in
      only_way p tests m first last 9 row.bind a b 0 0 off x low high (length p.routers) ends ends_b (few_walked p row.bind m _ wa) (few_walked p row.bind m _ wb)
      (one_path p row m (tests.single who row at) wa.memory) up from to

  row_led : (o : Option InitiatorRow) → EndsAt (row_walk p who o a) m off → lifted_by p o a (first, last) ≡ Some (low, high) → (b : ℕ) → low ≤ b → b ≤ high → (x : ℕ) × EndsAt (row_walk p who o b) m x × (x + a ≡ off + b)
  row_led None ends up b from to = absurd (cc (ends))
  row_led (Some row) ends up b from to = leads 9 p row.bind a b 0 0 m off first last low high shape.bounded ends up from to

some_route : (w : Walk) (m off x : ℕ) → EndsAt w m off → off ≡ x → IsSomeAnd (route_by w) (λ (r : Route). (r.memory ≡ m) × (r.offset ≡ x))
some_route w m off x ends same =
    let is : route_by w ≡ Some (record { memory = m; offset = off; before = w.before; latency = w.latency }) = ap (route_seen w.before w.latency) ends in
    subst (λ (o : Option Route). IsSomeAnd o (λ (r : Route). (r.memory ≡ m) × (r.offset ≡ x))) (sym is) (refl, same)

-- the addresses to which the range of a grant is translated up are all that lead into it
pub all_addresses : (plan : Plan) (who a first last low high base : ℕ) (route : Route) → IsValidPlan plan → route_at plan who a ≡ Some route → lifted_at plan who a (first, last) ≡ Some (low, high) → low ≤ a → base + (a - low) ≡ route.offset
    → AreAddressesOf plan who route.memory first last low high base
all_addresses plan who a first last low high base route valid at up within start =
    let p = plan.platform in
    let same : (b : ℕ) → walk_at plan who b ≡ bound_walk p who b = λ b. sym (walk_of_row plan who b valid.scripts) in
    let ends : EndsAt (bound_walk p who a) route.memory route.offset = subst (λ (w : Walk). EndsAt w route.memory route.offset) (same a) (route_end (walk_at plan who a) route at (walk_at plan who a).end refl) in
    record {
      led = λ b from to.
          let r = row_led p valid.shape who a route.memory route.offset first last low high (slice_get p.initiators who) ends up b from to in
          let sum = r.2 in
          subst (λ (w : Walk). IsSomeAnd (route_by w) (λ (y : Route). (y.memory ≡ route.memory) × (y.offset ≡ base + (b - low)))) (sym (same b)) (some_route (bound_walk p who b) route.memory r.0 (base + (b - low)) r.1 (omega (arith, sum, start, within, from)));
      others = λ b r at_b memory from to.
          let ends_b : EndsAt (bound_walk p who b) r.memory r.offset = subst (λ (w : Walk). EndsAt w r.memory r.offset) (same b) (route_end (walk_at plan who b) r at_b (walk_at plan who b).end refl) in
          row_others p valid.shape who a route.memory route.offset first last low high (slice_get p.initiators who) refl ends up b r.offset
          (subst (λ (n : ℕ). EndsAt (bound_walk p who b) n r.offset) memory ends_b) from to;
    }

-- where an address leads, a path leads
pub walked_has_path : (p : Platform) → IsShape p → (row : InitiatorRow) (a m off : ℕ) → EndsAt (walk 9 p row.bind a 0) m off → has_path p row (Memory m) ≡ true
walked_has_path p shape row a m off ends =
    let n : ℕ = length (walk 9 p row.bind a 0).hops in
    let w : IsWalked p row.bind m n = walked p (tested p shape.checked) 9 row.bind a 0 m off ends in
    let more = paths_to-le n (length p.routers) p row.bind (Memory m) (few_walked p row.bind m n w) in
    let one = w.ends in
    reaches-some (length p.routers) p row.bind (Memory m) ∙ lt-ltb 0 (paths_to (length p.routers) p row.bind (Memory m)) (omega (arith, more, one))
