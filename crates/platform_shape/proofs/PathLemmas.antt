-- Tests of paths by counts of walks.
use Rattle.std.proofs.Common.{◌≡◌, ℕ, zero, suc, ◌+◌, ◌<◌, ◌≤◌, Bool, true, false, ◌||◌, List, [], ◌∷◌, ◌++◌, length, map, get_or, sum_by, Some, None, slice_get, nat_lt, refl, sym, ap, ◌∙◌, zero-add, arith}
use Rattle.std.specs.List.{list_any, range_with_len}
use Rattle.std.proofs.lemmas.Bool.Decides.{nat_tests}
use Rattle.std.proofs.lemmas.List.{map-id}
use Rattle.std.proofs.lemmas.List.FromFn.{map-range_with_len_more, length-range_with_len, get_or-range_with_len}
use Rattle.std.proofs.lemmas.List.Folds.{list_any_at, list_any-append}
use Rattle.std.proofs.lemmas.List.Sums.{sum_by-cons}
use Rattle.std.proofs.lemmas.Option.{slice_get_read, slice_get_past}
use Rattle.tlm_model.specs.declared.platform.Platform.{Platform}
use Rattle.tlm_model.specs.declared.platform.RouterRow.{RouterRow}
use Rattle.tlm_model.specs.declared.platform.WindowRow.{WindowRow}
use Rattle.tlm_model.specs.declared.platform.Target.{Target}
use Rattle.tlm_model.specs.declared.platform.Target.TheVariants.{Router, Memory}
use Rattle.platform_shape.specs.declared.walks.Component.{Component}
use Rattle.platform_shape.specs.declared.walks.Component.TheVariants as component
use Rattle.platform_shape.specs.declared.walks.Walks.TheVariants.{To, Long}
use Rattle.platform_shape.specs.Paths.{once, is_target, targets_of, reaches, is_deeper, paths_to, is_on_cycle}
use Rattle.platform_shape.specs.Walks.{seen, long_walks, walks_of, few}

pub some-once : (b : Bool) → b ≡ nat_lt 0 (once b)
some-once true = refl
some-once false = refl

some-add : (a b : ℕ) → (nat_lt 0 a || nat_lt 0 b) ≡ nat_lt 0 (a + b)
some-add a b = grind (arith, nat_tests)

-- a test holds at some element where a count isn't 0 there
pub any-some : {X : Type 0} (f : X → Bool) (g : X → ℕ) → ((x : X) → f x ≡ nat_lt 0 (g x)) → (xs : List X) → list_any f xs ≡ nat_lt 0 (sum_by g xs)
any-some f g h [] = refl
any-some f g h (x ∷ xs) =
    ap (λ b. b || list_any f xs) (h x) ∙ ap (λ b. nat_lt 0 (g x) || b) (any-some f g h xs) ∙ some-add (g x) (sum_by g xs) ∙ ap (nat_lt 0) (sym (sum_by-cons g x xs))

-- what is reached has a path
pub reaches-some : (k : ℕ) (p : Platform) (t c : Target) → reaches k p t c ≡ nat_lt 0 (paths_to k p t c)
reaches-some zero p t c = some-once (is_target t c)
reaches-some (suc k) p t c =
    ap (λ b. b || list_any (λ u. reaches k p u c) (targets_of p t)) (some-once (is_target t c))
    ∙ ap (λ b. nat_lt 0 (once (is_target t c)) || b) (any-some (λ u. reaches k p u c) (λ u. paths_to k p u c) (λ u. reaches-some k p u c) (targets_of p t))
    ∙ some-add (once (is_target t c)) (sum_by (λ u. paths_to k p u c) (targets_of p t))

-- a path that visits more than k routers has k windows between routers
pub is_deeper-some : (k : ℕ) (p : Platform) (t : Target) → is_deeper k p t ≡ nat_lt 0 (long_walks k p t)
unfolding long_walks
is_deeper-some zero p (Router r) = refl
is_deeper-some zero p (Memory m) = refl
is_deeper-some (suc k) p (Memory m) = refl
is_deeper-some (suc k) p (Router r) = any-some (λ u. is_deeper k p u) (λ u. long_walks k p u) (λ u. is_deeper-some k p u) (targets_of p (Router r))

-- tests of a count where two stand for any more
pub few-some : (n m : ℕ) → n ≡ few m → nat_lt 0 n ≡ nat_lt 0 m
few-some n m e = grind (arith, nat_tests)

pub few-two : (n m : ℕ) → n ≡ few m → nat_lt 1 n ≡ nat_lt 1 m
few-two n m e = grind (arith, nat_tests)

pub deeper_counted : (k : ℕ) (p : Platform) (t : Target) (n : ℕ) → n ≡ few (walks_of Long k p t) → nat_lt 0 n ≡ is_deeper k p t
unfolding walks_of
deeper_counted k p t n e = few-some n (long_walks k p t) e ∙ sym (is_deeper-some k p t)

pub twice_counted : (k : ℕ) (p : Platform) (t : Target) (c : Component) (n : ℕ) → n ≡ few (walks_of (To c) k p t) → nat_lt 1 n ≡ nat_lt 1 (paths_to k p t (seen c))
unfolding walks_of
twice_counted k p t c n e = few-two n (paths_to k p t (seen c)) e

any-map : {X Y : Type 0} (f : Y → Bool) (h : X → Y) (xs : List X) → list_any f (map h xs) ≡ list_any (λ x. f (h x)) xs
any-map f h [] = refl
any-map f h (x ∷ xs) = ap (λ b. f (h x) || b) (any-map f h xs)

any-same : {X : Type 0} (f g : X → Bool) → ((x : X) → f x ≡ g x) → (xs : List X) → list_any f xs ≡ list_any g xs
any-same f g h [] = refl
any-same f g h (x ∷ xs) = ap (λ b. b || list_any f xs) (h x) ∙ ap (λ b. g x || b) (any-same f g h xs)

pub along : (p : Platform) (r : ℕ) (row : RouterRow) → slice_get p.routers r ≡ Some row → targets_of p (Router r) ≡ map (λ (v : WindowRow). v.to) row.windows
along p r row e = rw e refl

-- a router is on a cycle where its windows lead on to it
pub cycle_counted : (p : Platform) (r : ℕ) (row : RouterRow) (c : Component) → seen c ≡ Router r → slice_get p.routers r ≡ Some row
    → list_any (λ (w : WindowRow). nat_lt 0 (walks_of (To c) (length p.routers) p w.to)) row.windows ≡ is_on_cycle p r
unfolding walks_of
cycle_counted p r row c named e =
    let n : ℕ = length p.routers in
    let each : list_any (λ (w : WindowRow). nat_lt 0 (paths_to n p w.to (seen c))) row.windows ≡ list_any (λ (w : WindowRow). reaches n p w.to (Router r)) row.windows =
    any-same (λ (w : WindowRow). nat_lt 0 (paths_to n p w.to (seen c))) (λ (w : WindowRow). reaches n p w.to (Router r)) (λ (w : WindowRow). ap (λ t. nat_lt 0 (paths_to n p w.to t)) named ∙ sym (reaches-some n p w.to (Router r))) row.windows in
    each ∙ sym (any-map (λ u. reaches n p u (Router r)) (λ (v : WindowRow). v.to) row.windows) ∙ ap (list_any (λ u. reaches n p u (Router r))) (sym (along p r row e))

-- a router that isn't there is on no cycle
pub no_cycle : (p : Platform) (r : ℕ) → slice_get p.routers r ≡ None → is_on_cycle p r ≡ false
no_cycle p r e = rw e refl

-- the answer at a router that is there
pub cycle_found : (p : Platform) (r : ℕ) (row : RouterRow) (rows : List RouterRow) (b : Bool) → rows ≡ p.routers → r < length rows → row ≡ get_or rows r row
    → b ≡ list_any (λ (w : WindowRow). nat_lt 0 (walks_of (To (component.Router r)) (length rows) p w.to)) row.windows → b ≡ is_on_cycle p r
cycle_found p r row rows b same lt at e =
    let there : slice_get p.routers r ≡ Some row = ap (λ xs. slice_get xs r) (sym same) ∙ slice_get_read rows (length rows) r row refl lt at in
    e ∙ ap (λ xs. list_any (λ (w : WindowRow). nat_lt 0 (walks_of (To (component.Router r)) (length xs) p w.to)) row.windows) same ∙ cycle_counted p r row (component.Router r) refl there

pub cycle_past : (p : Platform) (r : ℕ) (rows : List RouterRow) → rows ≡ p.routers → length rows ≤ r → false ≡ is_on_cycle p r
cycle_past p r rows same le = sym (no_cycle p r (ap (λ xs. slice_get xs r) (sym same) ∙ slice_get_past rows r le))

-- loops that look for a number which passes
range-more : (n : ℕ) → range_with_len 0 (n + 1) ≡ range_with_len 0 n ++ n ∷ []
range-more n = sym (map-id (range_with_len 0 (n + 1))) ∙ map-range_with_len_more (λ (x : ℕ). x) 0 n n (zero-add n) ∙ ap (λ xs. xs ++ n ∷ []) (map-id (range_with_len 0 n))

or-false : (b : Bool) → (b || false) ≡ b
or-false true = refl
or-false false = refl

pub number_found : (f : ℕ → Bool) (n i : ℕ) → i < n → f i ≡ true → true ≡ list_any f (range_with_len 0 n)
number_found f n i lt e =
    let at : get_or (range_with_len 0 n) i 0 ≡ i = get_or-range_with_len 0 n i 0 lt ∙ zero-add i in
    sym (list_any_at f (range_with_len 0 n) i 0 (omega (arith, length-range_with_len 0 n)) (ap f at ∙ e))

pub number_more : (f : ℕ → Bool) (i : ℕ) → f i ≡ false → list_any f (range_with_len 0 i) ≡ false → list_any f (range_with_len 0 (i + 1)) ≡ false
number_more f i e so_far =
    ap (list_any f) (range-more i) ∙ list_any-append f (range_with_len 0 i) (i ∷ []) ∙ ap (λ b. b || (f i || false)) so_far ∙ or-false (f i) ∙ e

pub path_counted : (k : ℕ) (p : Platform) (t : Target) (c : Component) (n : ℕ) → n ≡ few (walks_of (To c) k p t) → nat_lt 0 n ≡ reaches k p t (seen c)
unfolding walks_of
path_counted k p t c n e = few-some n (paths_to k p t (seen c)) e ∙ sym (reaches-some k p t (seen c))
