-- No two windows of a router of a good shape lead to one component: some initiator has a path to each router.
use Rattle.std.proofs.Common.{◌≡◌, ◌≢◌, ◌⊎◌, ℕ, zero, suc, ◌+◌, ◌<◌, ◌≤◌, Bool, true, false, ◌||◌, List, [], ◌∷◌, length, get_or, sum_by, Option, Some, None, slice_get, Result, Ok, eqb, nat_lt, true≢false, refl, sym, ap, subst, ◌∙◌, inl, inr, ⊎_elim, zero-add, arith}
use Rattle.std.specs.List.{AllByRecursion, AllPairs, IsDistinct, list_any}
use Rattle.std.proofs.lemmas.Bool.{eq-eqb, eqb-true, lt-ltb, ltb-false, ltb-true, or_parts}
use Rattle.std.proofs.lemmas.List.Folds.{Any-from_list_any, fold-map}
use Rattle.std.proofs.lemmas.List.Sums.{get_or-le-sum_by, sum_by-cons, sum_by-le-sum_by}
use Rattle.std.proofs.lemmas.Map.Keys.{IsDistinct-cons}
use Rattle.std.proofs.lemmas.Map.Steps.{length-le_from_distinct_below}
use Rattle.std.proofs.lemmas.Option.{get_or_from_slice_get, slice_get-get_or, slice_get_within}
use Rattle.platform_model.specs.Bounded.{IsBoundedRouter, is_there}
use Rattle.platform_model.specs.Reading.{PlatformRefusal, rows_from}
use Rattle.platform_model.proofs.ReadLemmas.{bind_ok, if_ok, unless_ok}
use Rattle.tlm_model.specs.declared.platform.InitiatorRow.{InitiatorRow}
use Rattle.tlm_model.specs.declared.platform.Platform.{Platform}
use Rattle.tlm_model.specs.declared.platform.RouterRow.{RouterRow}
use Rattle.tlm_model.specs.declared.platform.WindowRow.{WindowRow}
use Rattle.tlm_model.specs.declared.platform.Target.{Target}
use Rattle.tlm_model.specs.declared.platform.Target.TheVariants.{Router, Memory}
use Rattle.platform_shape.specs.Paths.{is_named, is_on_cycle, is_target, once, paths_to, reaches, targets_of}
use Rattle.platform_shape.specs.Shape.{IsShape, checked_acyclic, checked_depth, checked_memory_named, checked_router_named, checked_shape, checked_single, checked_windowed, has_two_paths}
use Rattle.platform_shape.proofs.PathLemmas.{along, any-some, number_found, reaches-some}

pub some_same : {A : Type 0} (x y : A) → ◌≡◌ {A = Option A} (Some x) (Some y) → x ≡ y
some_same x y h = cc

pub not_none : {A : Type 0} (x : A) → ◌≡◌ {A = Option A} None (Some x) → ⊥
not_none x h = cc

-- the test that a row passed, by its number
row_passed : {X : Type 0} (test : ℕ → X → Result (Unit {0}) PlatformRefusal) (i : ℕ) (xs : List X) (done : List (Unit {0})) → rows_from test i xs ≡ Ok done
    → (k n : ℕ) (x : X) → slice_get xs k ≡ Some x → i + k ≡ n → test n x ≡ Ok tt
unfolding rows_from
row_passed test i [] done h k n x at same = absurd (not_none x at)
row_passed test i (y ∷ xs) done h zero n x at same =
    bind_ok (test i y) _ _ h (λ a first h1.
    let here : i ≡ n = omega arith in
    subst (λ (m : ℕ). test m x ≡ Ok tt) here (subst (λ z. test i z ≡ Ok tt) (some_same y x at) first))
row_passed test i (y ∷ xs) done h (suc k) n x at same =
    bind_ok (test i y) _ _ h (λ a first h1. bind_ok (rows_from test (i + 1) xs) _ _ h1 (λ more rest h2.
    row_passed test (i + 1) xs more rest k n x at (omega arith)))

-- what the tests of a shape say of its routers and initiators
record IsTested (p : Platform) : Type 0 where
  named : (r : ℕ) (row : RouterRow) → slice_get p.routers r ≡ Some row → is_named p (Router r) ≡ true
  acyclic : (r : ℕ) (row : RouterRow) → slice_get p.routers r ≡ Some row → is_on_cycle p r ≡ false
  single : (n : ℕ) (row : InitiatorRow) → slice_get p.initiators n ≡ Some row → has_two_paths p row ≡ false

tested : (p : Platform) → checked_shape p ≡ Ok tt → IsTested p
unfolding checked_shape
tested p h =
    bind_ok (rows_from checked_windowed 0 p.routers) _ _ h (λ windowed windowed_read h1.
    bind_ok (rows_from (checked_router_named p) 0 p.routers) _ _ h1 (λ routers routers_read h2.
    bind_ok (rows_from (checked_memory_named p) 0 p.memories) _ _ h2 (λ memories memories_read h3.
    bind_ok (rows_from (checked_acyclic p) 0 p.routers) _ _ h3 (λ acyclic acyclic_read h4.
    bind_ok (rows_from (checked_depth p) 0 p.initiators) _ _ h4 (λ depth depth_read h5.
    bind_ok (rows_from (checked_single p) 0 p.initiators) _ _ h5 (λ single single_read h6.
    record {
      named = λ r row at. (if_ok (is_named p (Router r)) tt _ tt (row_passed (checked_router_named p) 0 p.routers routers routers_read r r row at (zero-add r))).0;
      acyclic = λ r row at. (unless_ok (is_on_cycle p r) _ (Ok tt) tt (row_passed (checked_acyclic p) 0 p.routers acyclic acyclic_read r r row at (zero-add r))).0;
      single = λ n row at. (unless_ok (has_two_paths p row) _ (Ok tt) tt (row_passed (checked_single p) 0 p.initiators single single_read n n row at (zero-add n))).0;
    }))))))

pub or_true : (x y : Bool) → (x || y) ≡ true → (x ≡ true) ⊎ (y ≡ true)
or_true true y h = inl refl
or_true false y h = inr h

any_at : {X : Type 0} (f : X → Bool) (xs : List X) → list_any f xs ≡ true → (k : ℕ) × (x : X) × (slice_get xs k ≡ Some x) × (k < length xs) × (get_or xs k x ≡ x) × (f x ≡ true)
any_at f xs h =
    let a = Any-from_list_any f xs h in
    (a.0, a.1, slice_get-get_or xs a.0 a.1 a.2 ∙ ap (λ x. Some x) a.3, a.2, a.3, a.4)

target_is : (t : Target) (r : ℕ) → is_target t (Router r) ≡ true → t ≡ Router r
target_is (Router s) r h = ap Router (eqb-true s r h)
target_is (Memory m) r h = cc

target_same : (t : Target) → is_target t t ≡ true
target_same (Router r) = eq-eqb r r refl
target_same (Memory m) = eq-eqb m m refl

-- more windows allow no fewer paths
paths_to-le : (k m : ℕ) (p : Platform) (t c : Target) → k ≤ m → paths_to k p t c ≤ paths_to m p t c
paths_to-le zero zero p t c le = omega arith
paths_to-le zero (suc m) p t c le = omega arith
paths_to-le (suc k) zero p t c le = absurd (omega (arith, le))
paths_to-le (suc k) (suc m) p t c le =
    let more = sum_by-le-sum_by (λ u. paths_to k p u c) (λ u. paths_to m p u c) (targets_of p t) (λ u. paths_to-le k m p u c (omega (arith, le))) in
    omega (arith, more)

two_in : {X : Type 0} (f : X → ℕ) (xs : List X) (i j : ℕ) (d : X) → i < j → j < length xs → f (get_or xs i d) + f (get_or xs j d) ≤ sum_by f xs
two_in f [] i j d lt below = absurd (omega (arith, below))
two_in f (x ∷ xs) zero zero d lt below = absurd (omega (arith, lt))
two_in f (x ∷ xs) zero (suc j) d lt below = let q = get_or-le-sum_by f xs j d (omega (arith, below)) in omega (arith, sum_by-cons f x xs, q)
two_in f (x ∷ xs) (suc i) zero d lt below = absurd (omega (arith, lt))
two_in f (x ∷ xs) (suc i) (suc j) d lt below = let q = two_in f xs i j d (omega (arith, lt)) (omega (arith, below)) in omega (arith, sum_by-cons f x xs, q)

-- a sum over where the windows of a router lead
over_windows : (g : Target → ℕ) (p : Platform) (s : ℕ) (row : RouterRow) → slice_get p.routers s ≡ Some row → sum_by g (targets_of p (Router s)) ≡ sum_by (λ (v : WindowRow). g v.to) row.windows
over_windows g p s row at = ap (sum_by g) (along p s row at) ∙ fold-map (λ a u. a + g u) (λ (v : WindowRow). v.to) 0 row.windows

-- a window of router s leads to router r
record IsLed (p : Platform) (r s : ℕ) : Type 0 where
  row : RouterRow
  there : slice_get p.routers s ≡ Some row
  place : ℕ
  window : WindowRow
  within : place < length row.windows
  at : get_or row.windows place window ≡ window
  leads : window.to ≡ Router r

led_counts : (g : Target → ℕ) (p : Platform) (r s : ℕ) → IsLed p r s → g (Router r) ≤ sum_by g (targets_of p (Router s))
led_counts g p r s led =
    let one = get_or-le-sum_by (λ (v : WindowRow). g v.to) led.row.windows led.place led.window led.within in
    let same : g (get_or led.row.windows led.place led.window).to ≡ g (Router r) = ap (λ (v : WindowRow). g v.to) led.at ∙ ap g led.leads in
    omega (arith, one, same, over_windows g p s led.row led.there)

-- an initiator is bound to router r
record IsBoundTo (p : Platform) (r : ℕ) : Type 0 where
  number : ℕ
  row : InitiatorRow
  there : slice_get p.initiators number ≡ Some row
  leads : row.bind ≡ Router r

named_by : (p : Platform) (r : ℕ) → is_named p (Router r) ≡ true → IsBoundTo p r ⊎ ((s : ℕ) × IsLed p r s)
named_by p r h =
    ⊎_elim
    (λ (bound : list_any (λ (i : InitiatorRow). is_target i.bind (Router r)) p.initiators ≡ true).
    let a = any_at (λ (i : InitiatorRow). is_target i.bind (Router r)) p.initiators bound in
    inl (record { number = a.0; row = a.1; there = a.2; leads = target_is a.1.bind r a.5 }))
    (λ (led : list_any (λ (row : RouterRow). list_any (λ (w : WindowRow). is_target w.to (Router r)) row.windows) p.routers ≡ true).
    let a = any_at (λ (row : RouterRow). list_any (λ (w : WindowRow). is_target w.to (Router r)) row.windows) p.routers led in
    let b = any_at (λ (w : WindowRow). is_target w.to (Router r)) a.1.windows a.5 in
    inr (a.0, record { row = a.1; there = a.2; place = b.0; window = b.1; within = b.3; at = b.4; leads = target_is b.1.to r b.5 }))
    (or_true (list_any (λ (i : InitiatorRow). is_target i.bind (Router r)) p.initiators) (list_any (λ (row : RouterRow). list_any (λ (w : WindowRow). is_target w.to (Router r)) row.windows) p.routers) h)

-- Up from a router to router r over k windows, by these routers, from where two paths lead to c: no router is
-- met twice.
record IsClimb (p : Platform) (c : Target) (k r : ℕ) (rs : List ℕ) : Type 0 where
  count : length rs ≡ suc k
  own : IsDistinct eqb rs
  head : r < length p.routers
  there : (q : ℕ) → list_any (eqb q) rs ≡ true → q < length p.routers
  reached : (q : ℕ) → list_any (eqb q) rs ≡ true → 1 ≤ paths_to k p (Router r) (Router q)
  twice : 2 ≤ paths_to (suc k) p (Router r) c

-- two paths lead from an initiator to c
record IsTwiceLed (p : Platform) (c : Target) : Type 0 where
  number : ℕ
  row : InitiatorRow
  there : slice_get p.initiators number ≡ Some row
  twice : 2 ≤ paths_to (length p.routers) p row.bind c

few_climbed : (p : Platform) (c : Target) (k r : ℕ) (rs : List ℕ) → IsClimb p c k r rs → suc k ≤ length p.routers
few_climbed p c k r rs climb = omega (arith, length-le_from_distinct_below rs (length p.routers) climb.own climb.there, climb.count)

at_initiator : (p : Platform) (c : Target) (k r : ℕ) (rs : List ℕ) → IsClimb p c k r rs → IsBoundTo p r → IsTwiceLed p c
at_initiator p c k r rs climb bound =
    let more = paths_to-le (suc k) (length p.routers) p (Router r) c (few_climbed p c k r rs climb) in
    let two : 2 ≤ paths_to (length p.routers) p (Router r) c = omega (arith, more, climb.twice) in
    record { number = bound.number; row = bound.row; there = bound.there; twice = subst (λ (t : Target). 2 ≤ paths_to (length p.routers) p t c) (sym bound.leads) two }

apart : (s : ℕ) (rs : List ℕ) → list_any (eqb s) rs ≡ false → AllByRecursion (λ y. eqb s y ≡ false) rs
apart s [] h = tt
apart s (r ∷ rs) h = let p = or_parts (eqb s r) (list_any (eqb s) rs) h in (p.0, apart s rs p.1)

-- a router that leads on to r isn't met before: no router is on a cycle
not_met : (p : Platform) → IsTested p → (c : Target) (k r : ℕ) (rs : List ℕ) → IsClimb p c k r rs → (s : ℕ) → IsLed p r s → (met : Bool) → list_any (eqb s) rs ≡ met → list_any (eqb s) rs ≡ false
not_met p tests c k r rs climb s led false is = is
not_met p tests c k r rs climb s led true is =
    let n : ℕ = length p.routers in
    let few = few_climbed p c k r rs climb in
    let back = climb.reached s is in
    let more = paths_to-le k n p (Router r) (Router s) (omega (arith, few)) in
    let over = led_counts (λ u. paths_to n p u (Router s)) p r s led in
    let counted = any-some (λ u. reaches n p u (Router s)) (λ u. paths_to n p u (Router s)) (λ u. reaches-some n p u (Router s)) (targets_of p (Router s)) in
    let none = ltb-false 0 (sum_by (λ u. paths_to n p u (Router s)) (targets_of p (Router s))) (sym counted ∙ tests.acyclic s led.row led.there) in
    absurd (omega (arith, back, more, over, none))

one_up : (p : Platform) → IsTested p → (c : Target) (k r : ℕ) (rs : List ℕ) → IsClimb p c k r rs → (s : ℕ) → IsLed p r s → IsClimb p c (suc k) s (s ∷ rs)
one_up p tests c k r rs climb s led =
    let below : s < length p.routers = slice_get_within p.routers s led.row led.there in
    record {
      count = omega (arith, climb.count);
      own = IsDistinct-cons eqb s rs (apart s rs (not_met p tests c k r rs climb s led (list_any (eqb s) rs) refl)) climb.own;
      head = below;
      there = λ q h. ⊎_elim (λ (e : eqb q s ≡ true). let same = eqb-true q s e in omega (arith, below, same)) (λ (e : list_any (eqb q) rs ≡ true). climb.there q e) (or_true (eqb q s) (list_any (eqb q) rs) h);
      reached = λ q h. ⊎_elim
          (λ (e : eqb q s ≡ true). let one = ap once (eq-eqb s q (sym (eqb-true q s e))) in omega (arith, one))
          (λ (e : list_any (eqb q) rs ≡ true). let over = led_counts (λ u. paths_to k p u (Router q)) p r s led in let old = climb.reached q e in omega (arith, over, old))
          (or_true (eqb q s) (list_any (eqb q) rs) h);
      twice = let over = led_counts (λ u. paths_to (suc k) p u c) p r s led in let old = climb.twice in omega (arith, over, old);
    }

climb_up : (p : Platform) → IsTested p → (c : Target) (left k r : ℕ) (rs : List ℕ) → length p.routers ≤ k + left → IsClimb p c k r rs → IsTwiceLed p c
climb_up p tests c zero k r rs le climb = absurd (omega (arith, le, few_climbed p c k r rs climb))
climb_up p tests c (suc left) k r rs le climb =
    let known : (row : RouterRow) × (slice_get p.routers r ≡ Some row) = found p.routers r climb.head in
    ⊎_elim
    (λ (bound : IsBoundTo p r). at_initiator p c k r rs climb bound)
    (λ (more : (s : ℕ) × IsLed p r s). climb_up p tests c left (suc k) more.0 (more.0 ∷ rs) (omega (arith, le)) (one_up p tests c k r rs climb more.0 more.1))
    (named_by p r (tests.named r known.0 known.1))
  where
    found : {X : Type 0} (xs : List X) (k : ℕ) → k < length xs → (x : X) × (slice_get xs k ≡ Some x)
    found [] k lt = absurd (omega (arith, lt))
    found (x ∷ xs) zero lt = (x, refl)
    found (x ∷ xs) (suc k) lt = found xs k (omega (arith, lt))

no_more : IsDistinct eqb []
unfolding IsDistinct
no_more = tt

twice_at : (p : Platform) (r : ℕ) (row : RouterRow) → slice_get p.routers r ≡ Some row → (i j : ℕ) (d : WindowRow) → i < j → j < length row.windows → (get_or row.windows i d).to ≡ (get_or row.windows j d).to
    → IsClimb p (get_or row.windows j d).to zero r (r ∷ [])
twice_at p r row at i j d lt below same =
    let c : Target = (get_or row.windows j d).to in
    let head : r < length p.routers = slice_get_within p.routers r row at in
    let two = two_in (λ (v : WindowRow). once (is_target v.to c)) row.windows i j d lt below in
    let second = ap once (target_same c) in
    let first = ap (λ (t : Target). once (is_target t c)) same in
    let over = over_windows (λ u. once (is_target u c)) p r row at in
    record {
      count = refl;
      own = IsDistinct-cons eqb r [] tt no_more;
      head = head;
      there = λ q h. let e = only q h in omega (arith, e, head);
      reached = λ q h. let one = ap once (eq-eqb r q (sym (only q h))) in omega (arith, one);
      twice = omega (arith, two, first, second, over);
    }
  where
    only : (q : ℕ) → list_any (eqb q) (r ∷ []) ≡ true → q ≡ r
    only q h = ⊎_elim (λ (e : eqb q r ≡ true). eqb-true q r e) (λ (e : false ≡ true). cc) (or_true (eqb q r) false h)

-- no initiator has two paths to a component that is there
none_twice : (p : Platform) → IsTested p → (c : Target) → is_there p c ≡ true → IsTwiceLed p c → ⊥
none_twice p tests (Router r) there led =
    let n : ℕ = length p.routers in
    let two : 1 < paths_to n p led.row.bind (Router r) = omega (arith, led.twice) in
    let parts = or_parts _ _ (tests.single led.number led.row led.there) in
    let found = number_found (λ r. nat_lt 1 (paths_to n p led.row.bind (Router r))) n r (ltb-true r n there) (lt-ltb 1 (paths_to n p led.row.bind (Router r)) two) in
    true≢false (found ∙ parts.0)
none_twice p tests (Memory m) there led =
    let n : ℕ = length p.routers in
    let two : 1 < paths_to n p led.row.bind (Memory m) = omega (arith, led.twice) in
    let parts = or_parts _ _ (tests.single led.number led.row led.there) in
    let found = number_found (λ m. nat_lt 1 (paths_to n p led.row.bind (Memory m))) (length p.memories) m (ltb-true m (length p.memories) there) (lt-ltb 1 (paths_to n p led.row.bind (Memory m)) two) in
    true≢false (found ∙ parts.1)

pub windows_apart : (p : Platform) → IsShape p → (r : ℕ) (row : RouterRow) → slice_get p.routers r ≡ Some row → AllPairs (λ (v w : WindowRow). v.to ≢ w.to) row.windows
windows_apart p shape r row at i j d lt below same =
    let tests = tested p shape.checked in
    let bounded = shape.bounded in
    let head : r < length p.routers = slice_get_within p.routers r row at in
    let router : IsBoundedRouter p row = subst (IsBoundedRouter p) (get_or_from_slice_get p.routers r row row at) (bounded.routers r row head) in
    let c : Target = (get_or row.windows j d).to in
    none_twice p tests c (router.targets j d below) (climb_up p tests c (length p.routers) zero r (r ∷ []) (omega arith) (twice_at p r row at i j d lt below same))
