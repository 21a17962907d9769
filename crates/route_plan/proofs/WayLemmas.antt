-- What walks pass and lead to is there, and what hops add at each place.
use Rattle.std.proofs.Common.{◌≡◌, ℕ, zero, suc, ◌+◌, ◌-◌, ◌*◌, ◌<◌, ◌≤◌, Bool, true, false, ◌==◌, List, [], ◌∷◌, length, take, get_or, sum_by, count_by, cond, Option, Some, None, slice_get, refl, sym, ap, ◌∙◌, arith}
use Rattle.std.specs.Prelude.{if◌then◌else◌}
use Rattle.std.specs.List.{AllByRecursion}
use Rattle.std.proofs.lemmas.Bool.{eq-eqb, eqb-true, ne_eqb}
use Rattle.std.proofs.lemmas.List.Sums.{sum_by-cons, sum_by_more_le}
use Rattle.std.proofs.lemmas.Option.{get_or_from_slice_get, slice_get_within}
use Rattle.tlm_types.specs.declared.words.ObjectNo.TheVariants.{Hop, Pool}
use Rattle.tlm_model.specs.declared.platform.InitiatorRow.{InitiatorRow}
use Rattle.tlm_model.specs.declared.platform.MemoryRow.{MemoryRow}
use Rattle.tlm_model.specs.declared.platform.Platform.{Platform}
use Rattle.tlm_model.specs.declared.platform.RouterRow.{RouterRow}
use Rattle.tlm_model.specs.declared.platform.Style.{Style}
use Rattle.tlm_model.specs.declared.platform.Style.TheVariants.{Blocking, Direct, FourPhase}
use Rattle.tlm_model.specs.declared.platform.Target.{Target}
use Rattle.tlm_model.specs.declared.platform.Target.TheVariants as target
use Rattle.tlm_model.specs.Route.{Found, Walk, into_memory, into_router, into_window, later, nowhere, over_hop, walk, window_hop, window_of}
use Rattle.platform_shape.specs.Paths.{once}
use Rattle.route_plan.specs.Counted.{added_by_hop, added_by_hops}
use Rattle.route_plan.specs.Places.{object_place}
use Rattle.route_plan.specs.Planned.{by_fourphase, leads_to}
use Rattle.route_plan.specs.Routes.{bound_walk, row_walk}
use Rattle.route_plan.specs.Valid.{hop_count}
use Rattle.route_plan.proofs.NumberLemmas.{window_is_found}

-- a walk passes hops that there are, and leads to no place past the memories
pub record IsWithin (p : Platform) (w : Walk) : Type 0 where
  pub hops : AllByRecursion (λ h. h < hop_count p) w.hops
  pub end : (k : ℕ) → length p.memories ≤ k → leads_to w.end k ≡ false

nowhere_within : (p : Platform) (before : ℕ) → IsWithin p (nowhere before)
nowhere_within p before = record { hops = tt; end = λ k past. refl }

memory_within : (p : Platform) (m a before : ℕ) (o : Option MemoryRow) → slice_get p.memories m ≡ o → IsWithin p (into_memory o m a before)
memory_within p m a before None there = nowhere_within p before
memory_within p m a before (Some row) there =
    let lt : m < length p.memories = slice_get_within p.memories m row there in
    record { hops = tt; end = λ k past. ne_eqb m k (λ e. omega (arith, e, lt, past)) }

over_hop_within : (p : Platform) (h : ℕ) (w : Walk) → h < hop_count p → IsWithin p w → IsWithin p (over_hop h w)
over_hop_within p h w lt is = record { hops = (lt, is.hops); end = is.end }

-- a window of a router is a hop
window_hop_there : (p : Platform) (r i : ℕ) (row : RouterRow) → slice_get p.routers r ≡ Some row → i < length row.windows → window_hop p r i < hop_count p
window_hop_there p r i row there lt =
    let f : RouterRow → ℕ = λ row. length row.windows in
    let one : sum_by f (take r p.routers) + f (get_or p.routers r row) ≤ sum_by f p.routers = sum_by_more_le f p.routers r row (slice_get_within p.routers r row there) in
    let here : f (get_or p.routers r row) ≡ length row.windows = ap f (get_or_from_slice_get p.routers r row row there) in
    omega (arith, one, here, lt)

window_within : (n : ℕ) (p : Platform) (r a before : ℕ) (row : RouterRow) (o : Option Found) → slice_get p.routers r ≡ Some row → window_of 0 row.windows a ≡ o
    → ((t : Target) (b c : ℕ) → IsWithin p (walk n p t b c)) → IsWithin p (into_window p r o a before (λ t b c. walk n p t b c))
window_within n p r a before row None there found rest = nowhere_within p before
window_within n p r a before row (Some f) there found rest =
    over_hop_within p (window_hop p r f.index) _ (window_hop_there p r f.index row there (slice_get_within row.windows f.index f.window (window_is_found row.windows a f found)))
    (rest f.window.to (a - f.window.first + f.window.base) before)

router_within : (n : ℕ) (p : Platform) (r a before : ℕ) (o : Option RouterRow) → slice_get p.routers r ≡ o → ((t : Target) (b c : ℕ) → IsWithin p (walk n p t b c))
    → IsWithin p (into_router p r o a before (λ t b c. walk n p t b c))
router_within n p r a before None there rest = nowhere_within p before
router_within n p r a before (Some row) there rest = window_within n p r a (later before row.latency) row (window_of 0 row.windows a) there refl rest

pub walk_within : (n : ℕ) (p : Platform) (t : Target) (a before : ℕ) → IsWithin p (walk n p t a before)
walk_within zero p t a before = nowhere_within p before
walk_within (suc n) p (target.Memory m) a before = memory_within p m a before (slice_get p.memories m) refl
walk_within (suc n) p (target.Router r) a before = router_within n p r a before (slice_get p.routers r) refl (λ t b c. walk_within n p t b c)

row_within : (p : Platform) (n a : ℕ) (o : Option InitiatorRow) → slice_get p.initiators n ≡ o → IsWithin p (row_walk p n o a)
row_within p n a None there = nowhere_within p 0
row_within p n a (Some row) there = over_hop_within p n _ (omega (arith, slice_get_within p.initiators n row there)) (walk_within 9 p row.bind a 0)

pub bound_within : (p : Platform) (n a : ℕ) → IsWithin p (bound_walk p n a)
bound_within p n a = row_within p n a (slice_get p.initiators n) refl

-- nothing is added up
pub none_in : {X : Type 0} (f : X → ℕ) → ((x : X) → f x ≡ 0) → (xs : List X) → sum_by f xs ≡ 0
none_in f none [] = refl
none_in f none (x ∷ xs) = omega (arith, sum_by-cons f x xs, none x, none_in f none xs)

-- what a hop adds, by whether its own place and the pool's are asked for
added : (p : Platform) (n k h : ℕ) (own pool : Bool) → (object_place p (Hop h) == k) ≡ own → (object_place p (Pool n) == k) ≡ pool → added_by_hop p n k h ≡ 4 * once own + 2 * once pool
added p n k h own pool at there = ap (λ (b : Bool). 4 * once b + 2 * once (object_place p (Pool n) == k)) at ∙ ap (λ (b : Bool). 4 * once own + 2 * once b) there

added_in_all : (p : Platform) (n k : ℕ) (hops : List ℕ) (pool : Bool) (sum : ℕ) → (object_place p (Pool n) == k) ≡ pool → sum_by (added_by_hop p n k) hops ≡ sum → added_by_hops p n k hops ≡ 2 * once pool + sum
added_in_all p n k hops pool sum there all = ap (λ (b : Bool). 2 * once b + sum_by (added_by_hop p n k) hops) there ∙ ap (λ s. 2 * once pool + s) all

-- hops add nothing to a memory
pub added_at_memory : (p : Platform) (n k : ℕ) (hops : List ℕ) → k < length p.memories → added_by_hops p n k hops ≡ 0
added_at_memory p n k hops lt =
    let pool : (object_place p (Pool n) == k) ≡ false = ne_eqb _ _ (λ e. omega (arith, e, lt)) in
    added_in_all p n k hops false 0 pool (none_in (added_by_hop p n k) (λ h. added p n k h false false (ne_eqb _ _ (λ e. omega (arith, e, lt))) pool) hops)

as_true : (b c : Bool) → (b ≡ true → c ≡ true) → (c ≡ true → b ≡ true) → b ≡ c
as_true true true f g = refl
as_true true false f g = sym (f refl)
as_true false true f g = g refl
as_true false false f g = refl

same_test : (a g h : ℕ) → (a + g == a + h) ≡ (g == h)
same_test a g h = as_true (a + g == a + h) (g == h) (λ e. eq-eqb g h (omega (arith, eqb-true (a + g) (a + h) e))) (λ e. eq-eqb (a + g) (a + h) (omega (arith, eqb-true g h e)))

-- four to a hop for each time that it is passed
hop_sum : (p : Platform) (n h : ℕ) → (object_place p (Pool n) == length p.memories + h) ≡ false → (hops : List ℕ) → sum_by (added_by_hop p n (length p.memories + h)) hops ≡ 4 * count_by (λ k. k == h) hops
hop_sum p n h pool [] = refl
hop_sum p n h pool (g ∷ hops) =
    let f : ℕ → ℕ = added_by_hop p n (length p.memories + h) in
    let one : f g ≡ 4 * once (g == h) + 2 * once false = added p n (length p.memories + h) g (g == h) false (same_test (length p.memories) g h) pool in
    let more : count_by (λ k. k == h) (g ∷ hops) ≡ once (g == h) + count_by (λ k. k == h) hops = sum_by-cons (λ k. cond (k == h) 1 0) g hops in
    summed (once (g == h)) (f g) (sum_by f hops) (count_by (λ k. k == h) hops) (sum_by f (g ∷ hops)) (count_by (λ k. k == h) (g ∷ hops)) one (hop_sum p n h pool hops) (sum_by-cons f g hops) more
  where
    summed : (x y s c all count : ℕ) → y ≡ 4 * x + 2 * once false → s ≡ 4 * c → all ≡ y + s → count ≡ x + c → all ≡ 4 * count
    summed x y s c all count one rest here more = omega (arith, one, rest, here, more)

pub added_at_hop : (p : Platform) (n h : ℕ) (hops : List ℕ) → h < hop_count p → added_by_hops p n (length p.memories + h) hops ≡ 4 * count_by (λ k. k == h) hops
added_at_hop p n h hops lt =
    let pool : (object_place p (Pool n) == length p.memories + h) ≡ false = ne_eqb _ _ (λ e. omega (arith, e, lt)) in
    added_in_all p n (length p.memories + h) hops false (4 * count_by (λ k. k == h) hops) pool (hop_sum p n h pool hops) ∙ plain (4 * count_by (λ k. k == h) hops)
  where
    plain : (s : ℕ) → 2 * once false + s ≡ s
    plain s = omega arith

-- two to the pool for each hop
pool_sum : (p : Platform) (n j : ℕ) (own : Bool) → (object_place p (Pool n) == length p.memories + hop_count p + j) ≡ own → (hops : List ℕ) → AllByRecursion (λ h. h < hop_count p) hops
    → sum_by (added_by_hop p n (length p.memories + hop_count p + j)) hops ≡ 2 * once own * length hops
pool_sum p n j true pool [] within = refl
pool_sum p n j false pool [] within = refl
pool_sum p n j own pool (g ∷ hops) within =
    let k : ℕ = length p.memories + hop_count p + j in
    let apart : (object_place p (Hop g) == k) ≡ false = ne_eqb _ _ (λ e. omega (arith, e, within.0)) in
    summed own (added_by_hop p n k g) (sum_by (added_by_hop p n k) hops) (length hops) (sum_by (added_by_hop p n k) (g ∷ hops)) (added p n k g false own apart pool) (pool_sum p n j own pool hops within.1) (sum_by-cons (added_by_hop p n k) g hops)
  where
    summed : (own : Bool) (y s n all : ℕ) → y ≡ 4 * once false + 2 * once own → s ≡ 2 * once own * n → all ≡ y + s → all ≡ 2 * once own * suc n
    summed true y s n all one rest here = omega (arith, one, rest, here)
    summed false y s n all one rest here = omega (arith, one, rest, here)

pub added_at_pool : (p : Platform) (n j : ℕ) (hops : List ℕ) → AllByRecursion (λ h. h < hop_count p) hops → added_by_hops p n (length p.memories + hop_count p + j) hops ≡ (if n == j then 2 + 2 * length hops else 0)
added_at_pool p n j hops within =
    let pool : (object_place p (Pool n) == length p.memories + hop_count p + j) ≡ (n == j) = same_test (length p.memories + hop_count p) n j in
    added_in_all p n (length p.memories + hop_count p + j) hops (n == j) (2 * once (n == j) * length hops) pool (pool_sum p n j (n == j) pool hops within) ∙ plain (n == j) (length hops)
  where
    plain : (own : Bool) (n : ℕ) → 2 * once own + 2 * once own * n ≡ (if own then 2 + 2 * n else 0)
    plain true n = omega arith
    plain false n = omega arith

-- few hops add few entries
pub few_added : (p : Platform) (n k : ℕ) (hops : List ℕ) → length hops ≤ 9 → added_by_hops p n k hops ≤ 64
few_added p n k hops few =
    omega (arith, few, few_once (object_place p (Pool n) == k), all hops)
  where
    few_once : (b : Bool) → once b ≤ 1
    few_once true = omega arith
    few_once false = omega arith

    summed : (x y s n all : ℕ) → x ≤ 1 → y ≤ 1 → s ≤ 6 * n → all ≡ 4 * x + 2 * y + s → all ≤ 6 * suc n
    summed x y s n all one two rest here = omega (arith, one, two, rest, here)

    all : (hops : List ℕ) → sum_by (added_by_hop p n k) hops ≤ 6 * length hops
    all [] = omega arith
    all (h ∷ hops) =
        let sum : sum_by (added_by_hop p n k) (h ∷ hops) ≡ added_by_hop p n k h + sum_by (added_by_hop p n k) hops = sum_by-cons (added_by_hop p n k) h hops in
        summed (once (object_place p (Hop h) == k)) (once (object_place p (Pool n) == k)) (sum_by (added_by_hop p n k) hops) (length hops) (sum_by (added_by_hop p n k) (h ∷ hops)) (few_once (object_place p (Hop h) == k)) (few_once (object_place p (Pool n) == k)) (all hops) sum

-- entries of four phases
pub fourphase_none : (s : Style) (n : ℕ) → n ≡ 0 → by_fourphase s n ≡ 0
fourphase_none Blocking n none = refl
fourphase_none Direct n none = refl
fourphase_none FourPhase n none = none

pub fourphase_if : (s : Style) (b : Bool) (n : ℕ) → by_fourphase s (if b then n else 0) ≡ (if b then by_fourphase s n else 0)
fourphase_if Blocking true n = refl
fourphase_if Blocking false n = refl
fourphase_if Direct true n = refl
fourphase_if Direct false n = refl
fourphase_if FourPhase true n = refl
fourphase_if FourPhase false n = refl

pub fourphase_le : (s : Style) (n : ℕ) → by_fourphase s n ≤ n
fourphase_le Blocking n = omega arith
fourphase_le Direct n = omega arith
fourphase_le FourPhase n = omega arith
