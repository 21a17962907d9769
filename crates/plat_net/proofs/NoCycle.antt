-- A platform of a good shape has no cycle: who goes back along one meets no router twice, and there are only so many.
use Rattle.std.proofs.Common.{◌≡◌, ◌⊎◌, ℕ, zero, suc, ◌+◌, ◌<◌, ◌≤◌, Bool, true, false, ◌||◌, List, [], ◌∷◌, length, map, Option, Some, None, Result, Ok, eqb, true≢false, refl, sym, ap, subst, ◌∙◌, inl, inr, ⊎_elim, zero-add, arith}
use Rattle.std.specs.Prelude.{slice_get}
use Rattle.std.specs.List.{AllByRecursion, IsDistinct, list_any}
use Rattle.std.proofs.lemmas.Bool.{eq-eqb, eqb-true, or_parts}
use Rattle.std.proofs.lemmas.Map.Keys.{IsDistinct-cons}
use Rattle.std.proofs.lemmas.Map.Steps.{length-le_from_distinct_below}
use Rattle.std.proofs.lemmas.Option.{slice_get_within}
use Rattle.platform_model.specs.Reading.{PlatformRefusal, rows_from}
use Rattle.platform_model.proofs.ReadLemmas.{bind_ok, unless_ok}
use Rattle.tlm_model.specs.declared.platform.Platform.{Platform}
use Rattle.tlm_model.specs.declared.platform.RouterRow.{RouterRow}
use Rattle.tlm_model.specs.declared.platform.Target.{Target}
use Rattle.tlm_model.specs.declared.platform.Target.TheVariants.{Router}
use Rattle.tlm_model.specs.declared.platform.WindowRow.{WindowRow}
use Rattle.flow_model.specs.Valid.{LeadsOver, LeadsTo}
use Rattle.platform_shape.specs.Paths.{is_on_cycle, is_target, reaches, targets_of}
use Rattle.platform_shape.specs.Shape.{checked_acyclic, checked_memory_named, checked_router_named, checked_shape, checked_windowed}
use Rattle.platform_shape.proofs.PathLemmas.{along}
use Rattle.plat_net.specs.Laws.{ShapesHaveNoCycle}

not_none : {A : Type 0} (x : A) → ◌≡◌ {A = Option A} None (Some x) → ⊥
not_none x h = cc

some_same : {A : Type 0} (x y : A) → ◌≡◌ {A = Option A} (Some x) (Some y) → x ≡ y
some_same x y h = cc

-- the test that a row passed, by its number
row_passed : {X : Type 0} (test : ℕ → X → Result (Unit {0}) PlatformRefusal) (i : ℕ) (xs : List X) (done : List (Unit {0})) → rows_from test i xs ≡ Ok done
    → (k n : ℕ) (x : X) → slice_get xs k ≡ Some x → i + k ≡ n → test n x ≡ Ok tt
unfolding rows_from
row_passed test i [] done h k n x at same = absurd (not_none x at)
row_passed test i (y ∷ xs) done h zero n x at same =
    bind_ok (test i y) _ _ h (λ a first h1.
    let here : i ≡ n = omega arith in
    subst (λ (m : ℕ). test m x ≡ Ok tt) here (subst (λ z. test i z ≡ Ok tt) (some_same y x at) first))
row_passed test i (y ∷ xs) done h (suc k) n x at same =
    bind_ok (test i y) _ _ h (λ a first h1. bind_ok (rows_from test (i + 1) xs) _ _ h1 (λ more rest h2.
    row_passed test (i + 1) xs more rest k n x at (omega arith)))

-- no router was found on a cycle
acyclic : (p : Platform) → checked_shape p ≡ Ok tt → (r : ℕ) (row : RouterRow) → slice_get p.routers r ≡ Some row → is_on_cycle p r ≡ false
unfolding checked_shape
acyclic p h r row at =
    bind_ok (rows_from checked_windowed 0 p.routers) _ _ h (λ windowed windowed_read h1.
    bind_ok (rows_from (checked_router_named p) 0 p.routers) _ _ h1 (λ routers routers_read h2.
    bind_ok (rows_from (checked_memory_named p) 0 p.memories) _ _ h2 (λ memories memories_read h3.
    bind_ok (rows_from (checked_acyclic p) 0 p.routers) _ _ h3 (λ tests tests_read h4.
    (unless_ok (is_on_cycle p r) _ (Ok tt) tt (row_passed (checked_acyclic p) 0 p.routers tests tests_read r r row at (zero-add r))).0))))

or_left : (x y : Bool) → x ≡ true → (x || y) ≡ true
or_left true y h = refl
or_left false y h = cc

or_right : (x y : Bool) → y ≡ true → (x || y) ≡ true
or_right true y h = refl
or_right false y h = h

or_true : (x y : Bool) → (x || y) ≡ true → (x ≡ true) ⊎ (y ≡ true)
or_true true y h = inl refl
or_true false y h = inr h

apart : (s : ℕ) (rs : List ℕ) → list_any (eqb s) rs ≡ false → AllByRecursion (λ y. eqb s y ≡ false) rs
apart s [] h = tt
apart s (r ∷ rs) h = let p = or_parts (eqb s r) (list_any (eqb s) rs) h in (p.0, apart s rs p.1)

-- what holds of where a window leads holds of some window
any_in : (f : Target → Bool) (ws : List WindowRow) (i : ℕ) (w : WindowRow) → slice_get ws i ≡ Some w → f w.to ≡ true → list_any f (map (λ (v : WindowRow). v.to) ws) ≡ true
any_in f [] i w q h = cc
any_in f (v ∷ ws) zero w q h = or_left (f v.to) (list_any f (map (λ (v : WindowRow). v.to) ws)) (ap (λ (u : WindowRow). f u.to) (some_same v w q) ∙ h)
any_in f (v ∷ ws) (suc i) w q h = or_right (f v.to) (list_any f (map (λ (v : WindowRow). v.to) ws)) (any_in f ws i w q h)

led_any : (p : Platform) (f : Target → Bool) (s r : ℕ) → LeadsTo p s r → f (Router r) ≡ true → list_any f (targets_of p (Router s)) ≡ true
led_any p f s r l h =
    ap (list_any f) (along p s l.row l.is) ∙ any_in f l.row.windows l.index l.window l.there (ap f l.to ∙ h)

reaches_self : (p : Platform) (m s : ℕ) → reaches m p (Router s) (Router s) ≡ true
reaches_self p zero s = eq-eqb s s refl
reaches_self p (suc m) s = or_left (is_target (Router s) (Router s)) (list_any (λ u. reaches m p u (Router s)) (targets_of p (Router s))) (eq-eqb s s refl)

-- the last window of a path
last_window : (p : Platform) (n a b : ℕ) → LeadsOver p (suc n) a b → (s : ℕ) × LeadsOver p n a s × LeadsTo p s b
last_window p zero a b l = (a, refl, subst (λ (q : ℕ). LeadsTo p a q) l.2 l.1)
last_window p (suc n) a b l = let r = last_window p n l.0 b l.2 in (r.0, (l.0, l.1, r.1), r.2)

module _ (p : Platform) (free : (r : ℕ) (row : RouterRow) → slice_get p.routers r ≡ Some row → is_on_cycle p r ≡ false) (n : ℕ) where
  -- back along a cycle to router r, by these routers, each once
  record IsClimb (k r : ℕ) (rs : List ℕ) : Type 0 where
    count : length rs ≡ suc k
    own : IsDistinct eqb rs
    there : (q : ℕ) → list_any (eqb q) rs ≡ true → q < length p.routers
    reached : (q m : ℕ) → list_any (eqb q) rs ≡ true → k ≤ m → reaches m p (Router r) (Router q) ≡ true
    back : LeadsOver p (suc n) r r

  few : (k r : ℕ) (rs : List ℕ) → IsClimb k r rs → suc k ≤ length p.routers
  few k r rs climb = omega (arith, length-le_from_distinct_below rs (length p.routers) climb.own climb.there, climb.count)

  -- a router that leads on to r isn't met before
  not_met : (k r : ℕ) (rs : List ℕ) → IsClimb k r rs → (s : ℕ) → LeadsTo p s r → (met : Bool) → list_any (eqb s) rs ≡ met → list_any (eqb s) rs ≡ false
  not_met k r rs climb s l false is = is
  not_met k r rs climb s l true is =
      let short = few k r rs climb in
      let around : is_on_cycle p s ≡ true = led_any p (λ u. reaches (length p.routers) p u (Router s)) s r l (climb.reached s (length p.routers) is (omega (arith, short))) in
      absurd (true≢false (sym around ∙ free s l.row l.is))

  one_back : (k r : ℕ) (rs : List ℕ) → IsClimb k r rs → (s : ℕ) → LeadsTo p s r → LeadsOver p n r s → IsClimb (suc k) s (s ∷ rs)
  one_back k r rs climb s l over =
      let below : s < length p.routers = slice_get_within p.routers s l.row l.is in
      record {
        count = omega (arith, climb.count);
        own = IsDistinct-cons eqb s rs (apart s rs (not_met k r rs climb s l (list_any (eqb s) rs) refl)) climb.own;
        there = λ q h. ⊎_elim (λ (e : eqb q s ≡ true). let same = eqb-true q s e in omega (arith, below, same)) (λ (e : list_any (eqb q) rs ≡ true). climb.there q e) (or_true (eqb q s) (list_any (eqb q) rs) h);
        reached = λ q m h long. ⊎_elim
            (λ (e : eqb q s ≡ true). subst (λ (t : ℕ). reaches m p (Router s) (Router t) ≡ true) (sym (eqb-true q s e)) (reaches_self p m s))
            (λ (e : list_any (eqb q) rs ≡ true). further q m e long)
            (or_true (eqb q s) (list_any (eqb q) rs) h);
        back = (r, l, over);
      }
    where
      further : (q m : ℕ) → list_any (eqb q) rs ≡ true → suc k ≤ m → reaches m p (Router s) (Router q) ≡ true
      further q zero e long = absurd (omega (arith, long))
      further q (suc m) e long =
          or_right (is_target (Router s) (Router q)) (list_any (λ u. reaches m p u (Router q)) (targets_of p (Router s)))
          (led_any p (λ u. reaches m p u (Router q)) s r l (climb.reached q m e (omega (arith, long))))

  no_climb : (left k r : ℕ) (rs : List ℕ) → length p.routers ≤ k + left → IsClimb k r rs → ⊥
  no_climb zero k r rs le climb = let short = few k r rs climb in omega (arith, le, short)
  no_climb (suc left) k r rs le climb =
      let w = last_window p n r r climb.back in
      no_climb left (suc k) w.0 (w.0 ∷ rs) (omega (arith, le)) (one_back k r rs climb w.0 w.2 w.1)

  no_more : IsDistinct eqb []
  unfolding IsDistinct
  no_more = tt

  only : (q r : ℕ) → list_any (eqb q) (r ∷ []) ≡ true → q ≡ r
  only q r h = ⊎_elim (λ (e : eqb q r ≡ true). eqb-true q r e) (λ (e : false ≡ true). cc) (or_true (eqb q r) false h)

  none_back : (r : ℕ) → LeadsOver p (suc n) r r → ⊥
  none_back r back =
      let l = back.1 in
      let below : r < length p.routers = slice_get_within p.routers r l.row l.is in
      no_climb (length p.routers) zero r (r ∷ []) (omega arith) (record {
        count = refl;
        own = IsDistinct-cons eqb r [] tt no_more;
        there = λ q h. let e = only q r h in omega (arith, e, below);
        reached = λ q m h long. subst (λ (t : ℕ). reaches m p (Router r) (Router t) ≡ true) (sym (only q r h)) (reaches_self p m r);
        back = back;
      })

pub shapes_law : ShapesHaveNoCycle
shapes_law p shape n r back = none_back p (acyclic p shape.checked) n r back
