-- Walks, a step at a time.
use Rattle.std.proofs.Common.{◌≡◌, ℕ, zero, suc, ◌+◌, ◌-◌, ◌^◌, ◌<◌, ◌≤◌, Bool, false, List, [], ◌∷◌, length, map, Option, Some, None, slice_get, get_or, option_map, Ok, refl, sym, ap, subst, ◌∙◌, zero-add, arith}
use Rattle.std.specs.Prelude.{All}
use Rattle.std.specs.List.{list_any}
use Rattle.std.proofs.lemmas.Bool.{or_parts, false≢true}
use Rattle.std.proofs.lemmas.Option.{same_Some, none-some, some_pair_parts, slice_get_read, get_or_from_slice_get, slice_get_within}
use Rattle.std.proofs.lemmas.List.{get_or-map, length-take}
use Rattle.std.proofs.lemmas.List.FromFn.{get_or-map-range_with_len, length-map-range_with_len}
use Rattle.addr_router.specs.declared.window.Window.{Window}
use Rattle.addr_router.specs.Windows.{decoded}
use Rattle.tlm_model.specs.declared.platform.InitiatorRow.{InitiatorRow}
use Rattle.tlm_model.specs.declared.platform.MemoryRow.{MemoryRow}
use Rattle.tlm_model.specs.declared.platform.Platform.{Platform}
use Rattle.tlm_model.specs.declared.platform.RouterRow.{RouterRow}
use Rattle.tlm_model.specs.declared.platform.WindowRow.{WindowRow}
use Rattle.tlm_model.specs.declared.platform.Target.{Target}
use Rattle.tlm_model.specs.declared.platform.Target.TheVariants.{Router, Memory}
use Rattle.tlm_model.specs.Route.{Found, Walk, into_memory, into_window, into_router, later, nowhere, over_hop, walk, window_hop, window_of}
use Rattle.platform_model.specs.Bounded.{IsBounded, IsBoundedRouter}
use Rattle.platform_model.specs.Reading.{rows_from}
use Rattle.platform_model.proofs.ReadLemmas.{bind_ok, unless_ok, rows_passed}
use Rattle.platform_shape.specs.Paths.{targets_of, is_deeper}
use Rattle.platform_shape.specs.Shape.{IsShape, checked_shape, checked_windowed, checked_router_named, checked_memory_named, checked_acyclic, checked_depth}
use Rattle.route_plan.specs.declared.step.Step.{Step}
use Rattle.route_plan.specs.Routes.{first_hops, first_step, next_step, numbered_windows, route_by, step_from, step_over, step_through, bound_walk, row_walk, walk_on}
use Rattle.route_plan.proofs.NumberLemmas.{decoded_numbered, seen_by, window_hop-le, window_is_found}

over_window : (k : ℕ) (p : Platform) (r a before : ℕ) (o : Option Found) (s : Step) → step_over p r a before o ≡ Some s → into_window p r o a before (λ t b c. walk k p t b c) ≡ over_hop s.hop (walk_on k p s)
over_window k p r a before None s h = absurd (none-some s h)
over_window k p r a before (Some f) s h = ap (λ (s : Step). over_hop s.hop (walk_on k p s)) (same_Some _ s h)

over_router : (k : ℕ) (p : Platform) (r a before : ℕ) (o : Option RouterRow) (s : Step) → step_through p r a before o ≡ Some s → into_router p r o a before (λ t b c. walk k p t b c) ≡ over_hop s.hop (walk_on k p s)
over_router k p r a before None s h = absurd (none-some s h)
over_router k p r a before (Some row) s h = over_window k p r a (later before row.latency) (window_of 0 row.windows a) s h

over_target : (k : ℕ) (p : Platform) (t : Target) (a before : ℕ) (s : Step) → step_from p t a before ≡ Some s → walk (suc k) p t a before ≡ over_hop s.hop (walk_on k p s)
over_target k p (Memory m) a before s h = absurd (none-some s h)
over_target k p (Router r) a before s h = over_router k p r a before (slice_get p.routers r) s h

-- a walk goes on by its next step
pub step_taken : (k : ℕ) (p : Platform) (s s' : Step) → next_step p s ≡ Some s' → walk_on (suc k) p s ≡ over_hop s'.hop (walk_on k p s')
step_taken k p s s' h = over_target k p s.target s.address s.before s' h

at_memory : (o : Option MemoryRow) (m a before : ℕ) → (into_memory o m a before).hops ≡ []
at_memory None m a before = refl
at_memory (Some row) m a before = refl

no_window : (k : ℕ) (p : Platform) (r a before : ℕ) (o : Option Found) → step_over p r a before o ≡ None → into_window p r o a before (λ t b c. walk k p t b c) ≡ nowhere before
no_window k p r a before None h = refl
no_window k p r a before (Some f) h = absurd (none-some _ (sym h))

record Stops (w : Walk) : Type 0 where
  pub hops : w.hops ≡ []
  pub route : route_by w ≡ None

stops_nowhere : (before : ℕ) → Stops (nowhere before)
stops_nowhere before = record { hops = refl; route = refl }

no_router : (k : ℕ) (p : Platform) (r a before : ℕ) (o : Option RouterRow) → step_through p r a before o ≡ None → Stops (into_router p r o a before (λ t b c. walk k p t b c))
no_router k p r a before None h = stops_nowhere before
no_router k p r a before (Some row) h = subst Stops (sym (no_window k p r a (later before row.latency) (window_of 0 row.windows a) h)) (stops_nowhere (later before row.latency))

no_hops : (k : ℕ) (p : Platform) (t : Target) (a before : ℕ) → step_from p t a before ≡ None → (walk (suc k) p t a before).hops ≡ []
no_hops k p (Memory m) a before h = at_memory (slice_get p.memories m) m a before
no_hops k p (Router r) a before h = (no_router k p r a before (slice_get p.routers r) h).hops

-- where no step comes next, no hop does
pub stopped_hops : (k : ℕ) (p : Platform) (s : Step) → next_step p s ≡ None → (walk_on (suc k) p s).hops ≡ []
stopped_hops k p s h = no_hops k p s.target s.address s.before h

-- nor does the walk end at a memory, where it has come to a router
stopped_at : (k : ℕ) (p : Platform) (t : Target) (r a before : ℕ) → t ≡ Router r → step_from p t a before ≡ None → route_by (walk (suc k) p t a before) ≡ None
stopped_at k p t r a before same h =
    let here : step_from p (Router r) a before ≡ None = subst (λ (t : Target). step_from p t a before ≡ None) same h in
    ap (λ (t : Target). route_by (walk (suc k) p t a before)) same ∙ (no_router k p r a before (slice_get p.routers r) here).route

pub stopped_route : (k : ℕ) (p : Platform) (s : Step) (r : ℕ) → s.target ≡ Router r → next_step p s ≡ None → route_by (walk_on (suc k) p s) ≡ None
stopped_route k p s r same h = stopped_at k p s.target r s.address s.before same h

pub arrived : (k : ℕ) (p : Platform) (s : Step) (m : ℕ) → s.target ≡ Memory m → route_by (walk_on (suc k) p s) ≡ route_by (into_memory (slice_get p.memories m) m s.address s.before)
arrived k p s m same = ap (λ (t : Target). route_by (walk (suc k) p t s.address s.before)) same

-- the first step of a walk
started_by : (p : Platform) (o : Option InitiatorRow) (n a : ℕ) (s : Step) → Some s ≡ first_step o n a → row_walk p n o a ≡ over_hop s.hop (walk_on 9 p s)
started_by p None n a s h = absurd (none-some s (sym h))
started_by p (Some row) n a s h = ap (λ (s : Step). over_hop s.hop (walk_on 9 p s)) (sym (same_Some s _ h))

pub started : (p : Platform) (n a : ℕ) (s : Step) → Some s ≡ first_step (slice_get p.initiators n) n a → bound_walk p n a ≡ over_hop s.hop (walk_on 9 p s)
started p n a s h = started_by p (slice_get p.initiators n) n a s h

-- walks pass at most so many windows as routers stand on a path
any_none : {X : Type 0} (f : X → Bool) (xs : List X) (k : ℕ) (x : X) → list_any f xs ≡ false → slice_get xs k ≡ Some x → f x ≡ false
any_none f [] k x none at = absurd (none-some x at)
any_none f (y ∷ ys) zero x none at = ap f (sym (same_Some y x at)) ∙ (or_parts (f y) (list_any f ys) none).0
any_none f (y ∷ ys) (suc k) x none at = any_none f ys k x (or_parts (f y) (list_any f ys) none).1 at

any_window : (f : Target → Bool) (ws : List WindowRow) (k : ℕ) (w : WindowRow) → list_any f (map (λ (v : WindowRow). v.to) ws) ≡ false → slice_get ws k ≡ Some w → f w.to ≡ false
any_window f [] k w none at = absurd (none-some w at)
any_window f (v ∷ ws) zero w none at = ap (λ (v : WindowRow). f v.to) (sym (same_Some v w at)) ∙ (or_parts (f v.to) (list_any f (map (λ (v : WindowRow). v.to) ws)) none).0
any_window f (v ∷ ws) (suc k) w none at = any_window f ws k w (or_parts (f v.to) (list_any f (map (λ (v : WindowRow). v.to) ws)) none).1 at

few_windows : (k n : ℕ) (p : Platform) (r a before : ℕ) (row : RouterRow) (o : Option Found) → window_of 0 row.windows a ≡ o → list_any (λ u. is_deeper k p u) (map (λ (v : WindowRow). v.to) row.windows) ≡ false
    → ((t : Target) (b c : ℕ) → is_deeper k p t ≡ false → length (walk n p t b c).hops ≤ k) → length (into_window p r o a before (λ t b c. walk n p t b c)).hops ≤ suc k
few_windows k n p r a before row None found none rest = omega arith
few_windows k n p r a before row (Some f) found none rest =
    let flat : is_deeper k p f.window.to ≡ false = any_window (λ u. is_deeper k p u) row.windows f.index f.window none (window_is_found row.windows a f found) in
    omega (arith, rest f.window.to (a - f.window.first + f.window.base) before flat)

few_in_router : (k n : ℕ) (p : Platform) (r a before : ℕ) (o : Option RouterRow) → slice_get p.routers r ≡ o → list_any (λ u. is_deeper k p u) (targets_of p (Router r)) ≡ false
    → ((t : Target) (b c : ℕ) → is_deeper k p t ≡ false → length (walk n p t b c).hops ≤ k) → length (into_router p r o a before (λ t b c. walk n p t b c)).hops ≤ suc k
few_in_router k n p r a before None there none rest = omega arith
few_in_router k n p r a before (Some row) there none rest =
    let leads : targets_of p (Router r) ≡ map (λ (v : WindowRow). v.to) row.windows = rw there refl in
    few_windows k n p r a (later before row.latency) row (window_of 0 row.windows a) refl (ap (list_any (λ u. is_deeper k p u)) (sym leads) ∙ none) rest

few_hops : (k n : ℕ) (p : Platform) (t : Target) (a before : ℕ) → is_deeper k p t ≡ false → length (walk n p t a before).hops ≤ k
few_hops k zero p t a before flat = omega arith
few_hops k (suc n) p (Memory m) a before flat = omega (arith, ap length (at_memory (slice_get p.memories m) m a before))
few_hops zero (suc n) p (Router r) a before flat = absurd (false≢true (sym flat))
few_hops (suc k) (suc n) p (Router r) a before flat = few_in_router k n p r a before (slice_get p.routers r) refl flat (λ t b c h. few_hops k n p t b c h)

-- no path of a shape has more than 8 routers
depths : (p : Platform) → checked_shape p ≡ Ok tt → All (λ (i : InitiatorRow). is_deeper 8 p i.bind ≡ false) p.initiators
unfolding checked_shape
depths p h =
    bind_ok (rows_from checked_windowed 0 p.routers) _ _ h (λ _ _ h1.
    bind_ok (rows_from (checked_router_named p) 0 p.routers) _ _ h1 (λ _ _ h2.
    bind_ok (rows_from (checked_memory_named p) 0 p.memories) _ _ h2 (λ _ _ h3.
    bind_ok (rows_from (checked_acyclic p) 0 p.routers) _ _ h3 (λ _ _ h4.
    bind_ok (rows_from (checked_depth p) 0 p.initiators) _ _ h4 (λ done passed h5.
    rows_passed (λ (i : InitiatorRow). is_deeper 8 p i.bind ≡ false) (checked_depth p) (λ n i ok. (unless_ok (is_deeper 8 p i.bind) _ _ tt ok).0) 0 p.initiators done passed)))))

few_by : (p : Platform) (n a : ℕ) (o : Option InitiatorRow) → slice_get p.initiators n ≡ o → All (λ (i : InitiatorRow). is_deeper 8 p i.bind ≡ false) p.initiators → length (row_walk p n o a).hops ≤ 9
few_by p n a None there flat = omega arith
few_by p n a (Some row) there flat =
    let here : is_deeper 8 p row.bind ≡ false = subst (λ (i : InitiatorRow). is_deeper 8 p i.bind ≡ false) (get_or_from_slice_get p.initiators n row row there) (flat n row (slice_get_within p.initiators n row there)) in
    omega (arith, few_hops 8 9 p row.bind a 0 here)

pub few_hops_at : (p : Platform) (n a : ℕ) → IsShape p → length (bound_walk p n a).hops ≤ 9
few_hops_at p n a h = few_by p n a (slice_get p.initiators n) refl (depths p h.checked)

pub router_there : (p : Platform) (rows : List RouterRow) (r : ℕ) (row : RouterRow) → rows ≡ p.routers → r < length rows → row ≡ get_or rows r row → slice_get p.routers r ≡ Some row
router_there p rows r row same below at = ap (λ xs. slice_get xs r) (sym same) ∙ slice_get_read rows (length rows) r row refl below at

-- what the windows that are kept for a router decode
pub decoded_by_row : (p : Platform) (r : ℕ) (row : RouterRow) (kept : List (List Window)) (ws : List Window) (a : ℕ) (o : Option (ℕ × ℕ)) → slice_get p.routers r ≡ Some row
    → kept ≡ map numbered_windows p.routers → ws ≡ get_or kept r ws → o ≡ decoded ws a → o ≡ option_map (seen_by a) (window_of 0 row.windows a)
decoded_by_row p r row kept ws a o there made at h =
    let below : r < length p.routers = slice_get_within p.routers r row there in
    let is_row : get_or p.routers r row ≡ row = get_or_from_slice_get p.routers r row row there in
    let is_kept : ws ≡ numbered_windows row = at ∙ ap (λ xs. get_or xs r ws) made ∙ get_or-map numbered_windows p.routers r row ws below ∙ ap numbered_windows is_row in
    h ∙ ap (λ xs. decoded xs a) is_kept ∙ decoded_numbered 0 row.windows a

-- the step through a router that is there
through_row : (p : Platform) (s : Step) (r : ℕ) (row : RouterRow) → s.target ≡ Router r → slice_get p.routers r ≡ Some row
    → next_step p s ≡ step_over p r s.address (later s.before row.latency) (window_of 0 row.windows s.address)
through_row p s r row leads there = ap (λ (t : Target). step_from p t s.address s.before) leads ∙ ap (step_through p r s.address s.before) there

no_step_over : (p : Platform) (r a b before : ℕ) (o : Option Found) → None ≡ option_map (seen_by b) o → step_over p r a before o ≡ None
no_step_over p r a b before None h = refl
no_step_over p r a b before (Some f) h = absurd (none-some _ h)

pub no_step : (p : Platform) (s : Step) (r : ℕ) (row : RouterRow) → s.target ≡ Router r → slice_get p.routers r ≡ Some row → None ≡ option_map (seen_by s.address) (window_of 0 row.windows s.address) → next_step p s ≡ None
no_step p s r row leads there h = through_row p s r row leads there ∙ no_step_over p r s.address s.address (later s.before row.latency) (window_of 0 row.windows s.address) h

pub no_router_step : (p : Platform) (s : Step) (r : ℕ) → s.target ≡ Router r → slice_get p.routers r ≡ None → next_step p s ≡ None
no_router_step p s r leads there = ap (λ (t : Target). step_from p t s.address s.before) leads ∙ ap (step_through p r s.address s.before) there

pub no_memory_step : (p : Platform) (s : Step) (m : ℕ) → s.target ≡ Memory m → next_step p s ≡ None
no_memory_step p s m leads = ap (λ (t : Target). step_from p t s.address s.before) leads

-- the window that was found for an address
pub record IsSeen (ws : List WindowRow) (a port seen : ℕ) (o : Option Found) (f : Found) : Type 0 where
  pub found : o ≡ Some f
  pub at : slice_get ws port ≡ Some f.window
  pub index : port ≡ f.index
  pub address : seen ≡ a - f.window.first + f.window.base

seen_at_window : (ws : List WindowRow) (a port seen : ℕ) (o : Option Found) → window_of 0 ws a ≡ o → Some (port, seen) ≡ option_map (seen_by a) o → (f : Found) × IsSeen ws a port seen o f
seen_at_window ws a port seen None is h = absurd (none-some _ (sym h))
seen_at_window ws a port seen (Some f) is h =
    let parts = some_pair_parts port f.index seen (a - f.window.first + f.window.base) h in
    (f, record { found = refl; at = ap (slice_get ws) parts.0 ∙ window_is_found ws a f is; index = parts.0; address = parts.1 })

pub port_is_there : (ws : List WindowRow) (a port seen : ℕ) → Some (port, seen) ≡ option_map (seen_by a) (window_of 0 ws a) → port < length ws
port_is_there ws a port seen h =
    let w = seen_at_window ws a port seen (window_of 0 ws a) refl h in
    slice_get_within ws port w.0.window w.1.at

pub stepped : (p : Platform) (s : Step) (r port seen first sum before : ℕ) (row : RouterRow) (ws : List WindowRow) (d : WindowRow) → s.target ≡ Router r → slice_get p.routers r ≡ Some row
    → Some (port, seen) ≡ option_map (seen_by s.address) (window_of 0 row.windows s.address) → first ≡ window_hop p r 0 → sum ≡ first + port → ws ≡ row.windows → before ≡ later s.before row.latency
    → ◌≡◌ {A = Option Step} (Some (record { hop = sum; target = (get_or ws port d).to; address = seen; before = before })) (next_step p s)
stepped p s r port seen first sum before row ws d leads there h is_first is_sum same is_before =
    let found = seen_at_window row.windows s.address port seen (window_of 0 row.windows s.address) refl h in
    let f : Found = found.0 in
    let w : WindowRow = get_or ws port d in
    let window : w ≡ f.window = ap (λ xs. get_or xs port d) same ∙ get_or_from_slice_get row.windows port f.window d found.1.at in
    let hop : sum ≡ window_hop p r f.index = omega (arith, is_first, found.1.index) in
    let made : ℕ → Target → ℕ → ℕ → Option Step = λ h t a b. Some (record { hop = h; target = t; address = a; before = b }) in
    ap (λ (h : ℕ). made h w.to seen before) hop ∙ ap (λ (v : WindowRow). made (window_hop p r f.index) v.to seen before) window
    ∙ ap (λ (a : ℕ). made (window_hop p r f.index) f.window.to a before) found.1.address
    ∙ ap (λ (b : ℕ). made (window_hop p r f.index) f.window.to (s.address - f.window.first + f.window.base) b) is_before
    ∙ ap (step_over p r s.address (later s.before row.latency)) (sym found.1.found) ∙ sym (through_row p s r row leads there)

-- the number of a router's first window is kept
pub first_kept : (p : Platform) (r first : ℕ) (kept : List ℕ) → r < length p.routers → kept ≡ first_hops p → first ≡ get_or kept r first → first ≡ window_hop p r 0
first_kept p r first kept below made at = at ∙ ap (λ xs. get_or xs r first) made ∙ get_or-map-range_with_len (λ k. window_hop p k 0) 0 (length p.routers) r r first below (zero-add r)

pub length-first_hops : (p : Platform) → length (first_hops p) ≡ length p.routers
length-first_hops p = length-map-range_with_len (λ k. window_hop p k 0) 0 (length p.routers)

pub hop_fits : (p : Platform) (r port : ℕ) (row : RouterRow) → IsBounded p → slice_get p.routers r ≡ Some row → port < length row.windows → window_hop p r 0 + port < 2 ^ 32
hop_fits p r port row h there below =
    let in' : r < length p.routers = slice_get_within p.routers r row there in
    let b : IsBoundedRouter p row = subst (IsBoundedRouter p) (get_or_from_slice_get p.routers r row row there) (h.routers r row in') in
    omega (arith, length-take r p.routers, window_hop-le p r h, h.router_count, b.window_count)

-- the route of a walk, a step at a time
pub route_taken : (p : Platform) (n a visited : ℕ) (s s' : Step) → visited < 9 → next_step p s ≡ Some s' → route_by (bound_walk p n a) ≡ route_by (walk_on (9 - visited) p s) → route_by (bound_walk p n a) ≡ route_by (walk_on (9 - (visited + 1)) p s')
route_taken p n a visited s s' below next so_far =
    let left : 9 - visited ≡ suc (9 - (visited + 1)) = omega arith in
    so_far ∙ ap (λ k. route_by (walk_on k p s)) left ∙ ap route_by (step_taken (9 - (visited + 1)) p s s' next)

-- the hops of a walk, a step at a time
pub hop_started : (p : Platform) (n a index : ℕ) (s : Step) → Some s ≡ first_step (slice_get p.initiators n) n a → slice_get (bound_walk p n a).hops index ≡ slice_get (s.hop ∷ (walk_on 9 p s).hops) (index - 0)
hop_started p n a index s h =
    let same : index ≡ index - 0 = omega arith in
    ap (λ (w : Walk). slice_get w.hops index) (started p n a s h) ∙ ap (slice_get (s.hop ∷ (walk_on 9 p s).hops)) same

hop_later : (hop left : ℕ) (hops : List ℕ) → slice_get (hop ∷ hops) (suc left) ≡ slice_get hops left
hop_later hop left hops = refl

pub hop_taken : (p : Platform) (all : List ℕ) (index passed : ℕ) (s s' : Step) → passed < 9 → passed ≤ index → (passed ≡ index → ⊥) → next_step p s ≡ Some s'
    → slice_get all index ≡ slice_get (s.hop ∷ (walk_on (9 - passed) p s).hops) (index - passed) → slice_get all index ≡ slice_get (s'.hop ∷ (walk_on (9 - (passed + 1)) p s').hops) (index - (passed + 1))
hop_taken p all index passed s s' below before other next so_far =
    let left : 9 - passed ≡ suc (9 - (passed + 1)) = omega arith in
    let place : index - passed ≡ suc (index - (passed + 1)) = omega arith in
    so_far ∙ ap (λ k. slice_get (s.hop ∷ (walk_on k p s).hops) (index - passed)) left ∙ ap (slice_get (s.hop ∷ (walk_on (suc (9 - (passed + 1))) p s).hops)) place
    ∙ ap (λ (w : Walk). slice_get w.hops (index - (passed + 1))) (step_taken (9 - (passed + 1)) p s s' next)

pub hop_stopped : (p : Platform) (all : List ℕ) (index passed : ℕ) (s : Step) → passed < 9 → passed ≤ index → (passed ≡ index → ⊥) → next_step p s ≡ None
    → slice_get all index ≡ slice_get (s.hop ∷ (walk_on (9 - passed) p s).hops) (index - passed) → slice_get all index ≡ None
hop_stopped p all index passed s below before other next so_far =
    let left : 9 - passed ≡ suc (9 - (passed + 1)) = omega arith in
    let place : index - passed ≡ suc (index - (passed + 1)) = omega arith in
    so_far ∙ ap (λ k. slice_get (s.hop ∷ (walk_on k p s).hops) (index - passed)) left ∙ ap (slice_get (s.hop ∷ (walk_on (suc (9 - (passed + 1))) p s).hops)) place
    ∙ ap (λ hops. slice_get hops (index - (passed + 1))) (stopped_hops (9 - (passed + 1)) p s next)

pub hop_found : (all hops : List ℕ) (hop index passed : ℕ) → passed ≡ index → slice_get all index ≡ slice_get (hop ∷ hops) (index - passed) → Some hop ≡ slice_get all index
hop_found all hops hop index passed same so_far =
    let place : index - passed ≡ 0 = omega arith in
    sym (so_far ∙ ap (slice_get (hop ∷ hops)) place)
