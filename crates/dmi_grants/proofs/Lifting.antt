-- How a range is translated up along the way of an address.
use Rattle.std.proofs.Common.{◌≡◌, ℕ, zero, suc, ◌+◌, ◌-◌, ◌<◌, ◌≤◌, ◌&&◌, Bool, true, false, IsTrue, List, [], ◌∷◌, length, map, find, get_or, Option, Some, None, option_map, slice_get, cond, refl, sym, ap, ◌∙◌, subst, zero-add, arith}
use Rattle.std.specs.Prelude.{option_and_then, min, max, nat_le, ◌==◌}
use Rattle.std.specs.List.{enumerate_from}
use Rattle.std.proofs.lemmas.Bool.{and_parts, cond-true, cond-false, eq-eqb, ne_eqb, leb-true, le-leb, ltb-true}
use Rattle.std.proofs.lemmas.Option.{get_or_from_slice_get, slice_get_within}
use Rattle.addr_router.specs.declared.window.Window.{Window}
use Rattle.addr_router.specs.Windows.{HasOneWindow, cut_up, decoded, translated_up}
use Rattle.addr_router.specs.Laws.{HasWindowOfEachRow, PortsAreRows}
use Rattle.platform_model.specs.Bounded.{IsBounded, IsBoundedRouter, is_there}
use Rattle.platform_model.specs.Windows.{window_at}
use Rattle.tlm_model.specs.declared.platform.InitiatorRow.{InitiatorRow}
use Rattle.tlm_model.specs.declared.platform.MemoryRow.{MemoryRow}
use Rattle.tlm_model.specs.declared.platform.Platform.{Platform}
use Rattle.tlm_model.specs.declared.platform.RouterRow.{RouterRow}
use Rattle.tlm_model.specs.declared.platform.Target.{Target}
use Rattle.tlm_model.specs.declared.platform.Target.TheVariants.{Router, Memory}
use Rattle.tlm_model.specs.declared.platform.WindowRow.{WindowRow}
use Rattle.tlm_model.specs.Plan.{Plan}
use Rattle.tlm_model.specs.Route.{Found, Walk, later, walk, window_of}
use Rattle.tlm_model.specs.Route as model
use Rattle.route_plan.specs.declared.step.Route.{Route}
use Rattle.route_plan.specs.Plans.{walk_at}
use Rattle.route_plan.specs.Routes.{bound_walk, numbered_windows, route_by, route_seen, row_walk}
use Rattle.route_plan.specs.Valid.{IsValid as IsValidPlan}
use Rattle.route_plan.proofs.PlanLemmas.{walk_of_row}
use Rattle.plat_net.specs.Calls.{route_at}
use Rattle.route_plan.proofs.StepLemmas.{router_there}
use Rattle.route_plan.proofs.NumberLemmas.{decoded_numbered, seen_by, window_is_found}
use Rattle.dmi_grants.specs.Ranges.{lifted, lifted_at, lifted_by, over_router, over_window}

pub mapped_at : {X Y : Type 0} (f : X → Y) (xs : List X) (k : ℕ) (x : X) → slice_get xs k ≡ Some x → slice_get (map f xs) k ≡ Some (f x)
mapped_at f [] k x at = absurd (cc (at))
mapped_at f (y ∷ ys) zero x at = let same : y ≡ x = cc (at) in ap (λ z. Some (f z)) same
mapped_at f (y ∷ ys) (suc k) x at = mapped_at f ys k x at

-- the windows that a plan keeps for a router
pub kept_for : (p : Platform) (r : ℕ) (row : RouterRow) (ws : List Window) → slice_get p.routers r ≡ Some row → slice_get (map numbered_windows p.routers) r ≡ Some ws → ws ≡ numbered_windows row
kept_for p r row ws there kept = let e = mapped_at numbered_windows p.routers r row there in cc

-- the window that an address was decoded by
pub record IsDecoded (row : RouterRow) (a port seen : ℕ) (f : Found) : Type 0 where
  pub found : window_of 0 row.windows a ≡ Some f
  pub index : port ≡ f.index
  pub address : seen ≡ a - f.window.first + f.window.base
  pub at : slice_get row.windows port ≡ Some f.window

decoded_by : (row : RouterRow) (a port seen : ℕ) (o : Option Found) → window_of 0 row.windows a ≡ o → option_map (seen_by a) o ≡ Some (port, seen) → (f : Found) × IsDecoded row a port seen f
decoded_by row a port seen None is same = absurd (cc (same))
decoded_by row a port seen (Some f) is same =
    let pair : (f.index, a - f.window.first + f.window.base) ≡ (port, seen) = cc (same) in
    let index : port ≡ f.index = sym (ap (λ (x : ℕ × ℕ). x.0) pair) in (
      f,
      record {
        found = is;
        index = index;
        address = sym (ap (λ (x : ℕ × ℕ). x.1) pair);
        at = ap (slice_get row.windows) index ∙ window_is_found row.windows a f is;
      },
    )

pub decoded_at : (row : RouterRow) (ws : List Window) (a port seen : ℕ) → ws ≡ numbered_windows row → decoded ws a ≡ Some (port, seen) → (f : Found) × IsDecoded row a port seen f
decoded_at row ws a port seen kept is =
    decoded_by row a port seen (window_of 0 row.windows a) refl (sym (decoded_numbered 0 row.windows a) ∙ ap (λ (v : List Window). decoded v a) (sym kept) ∙ is)

none_by : (a : ℕ) (o : Option Found) → option_map (seen_by a) o ≡ None → o ≡ None
none_by a None same = refl
none_by a (Some f) same = absurd (cc (same))

pub not_decoded : (row : RouterRow) (ws : List Window) (a : ℕ) → ws ≡ numbered_windows row → decoded ws a ≡ None → window_of 0 row.windows a ≡ None
not_decoded row ws a kept is = none_by a (window_of 0 row.windows a) (sym (decoded_numbered 0 row.windows a) ∙ ap (λ (v : List Window). decoded v a) (sym kept) ∙ is)

port_found : (n : ℕ) (rows : List WindowRow) (k port : ℕ) (w : WindowRow) → port ≡ n + k → slice_get rows k ≡ Some w → find (λ (v : Window). v.port == port) (map (λ (w : ℕ × WindowRow). window_at w.0 w.1) (enumerate_from n rows)) ≡ Some (window_at port w)
port_found n [] k port w is at = absurd (cc (at))
port_found n (x ∷ xs) zero port w is at =
    let same : x ≡ w = cc (at) in
    let here : n ≡ port = omega arith in
    cond-true (n == port) (Some (window_at n x)) _ (eq-eqb n port here) ∙ ap (λ (k : ℕ). Some (window_at k x)) here ∙ ap (λ (v : WindowRow). Some (window_at port v)) same
port_found n (x ∷ xs) (suc k) port w is at =
    cond-false (n == port) (Some (window_at n x)) _ (ne_eqb n port (λ same. omega (arith, same))) ∙ port_found (n + 1) xs k port w (omega arith) at

pub up_by : (row : RouterRow) (ws : List Window) (a port seen first last : ℕ) (f : Found) → ws ≡ numbered_windows row → IsDecoded row a port seen f → translated_up ws first last port ≡ cut_up (window_at f.index f.window) first last
up_by row ws a port seen first last f kept d =
    ap (λ (v : List Window). translated_up v first last port) kept
    ∙ ap (λ (o : Option Window). option_and_then (λ (w : Window). cut_up w first last) o) (port_found 0 row.windows port port f.window (sym (zero-add port)) d.at)
    ∙ ap (λ (k : ℕ). cut_up (window_at k f.window) first last) d.index

ports_from : (n : ℕ) (rows : List WindowRow) (k : ℕ) (d : Window) → k < length (map (λ (w : ℕ × WindowRow). window_at w.0 w.1) (enumerate_from n rows)) → (get_or (map (λ (w : ℕ × WindowRow). window_at w.0 w.1) (enumerate_from n rows)) k d).port ≡ n + k
ports_from n [] k d below = absurd (omega (arith, below))
ports_from n (x ∷ xs) zero d below = omega arith
ports_from n (x ∷ xs) (suc k) d below = let rest = ports_from (n + 1) xs k d (omega (arith, below)) in omega (arith, rest)

numbered_length : (n : ℕ) (rows : List WindowRow) → length (map (λ (w : ℕ × WindowRow). window_at w.0 w.1) (enumerate_from n rows)) ≡ length rows
numbered_length n [] = refl
numbered_length n (x ∷ xs) = let rest = numbered_length (n + 1) xs in omega (arith, rest)

pub one_window : HasWindowOfEachRow → (row : RouterRow) (ws : List Window) (a port seen : ℕ) (f : Found) → ws ≡ numbered_windows row → IsDecoded row a port seen f → HasOneWindow ws port
one_window each row ws a port seen f kept d =
    let rows : PortsAreRows (numbered_windows row) = λ k w below. ports_from 0 row.windows k w below ∙ zero-add k in
    let below : port < length row.windows = slice_get_within row.windows port f.window d.at in
    subst (λ (v : List Window). HasOneWindow v port) (sym kept) (each (numbered_windows row) port rows (omega (arith, below, numbered_length 0 row.windows)))

-- where a window leads is there
pub leads_there : (p : Platform) (r : ℕ) (row : RouterRow) (port : ℕ) (w : WindowRow) → IsBounded p → slice_get p.routers r ≡ Some row → slice_get row.windows port ≡ Some w → IsTrue (is_there p w.to)
leads_there p r row port w bounded there at =
    let head : r < length p.routers = slice_get_within p.routers r row there in
    let router : IsBoundedRouter p row = subst (IsBoundedRouter p) (get_or_from_slice_get p.routers r row row there) (bounded.routers r row head) in
    let below : port < length row.windows = slice_get_within row.windows port w at in
    subst (λ (v : WindowRow). IsTrue (is_there p v.to)) (get_or_from_slice_get row.windows port w w at) (router.targets port w below)

pub lifted_none : (p : Platform) (t : Target) (a left : ℕ) (range : ℕ × ℕ) → left ≡ 0 → lifted left p t a range ≡ None
unfolding lifted
lifted_none p t a zero range is = refl
lifted_none p t a (suc k) range is = absurd (omega arith)

pub lifted_memory : (p : Platform) (t : Target) (m a left : ℕ) (range : ℕ × ℕ) → 0 < left → t ≡ Memory m → lifted left p t a range ≡ Some range
unfolding lifted
lifted_memory p t m a zero range some is = absurd (omega arith)
lifted_memory p t m a (suc k) range some is = ap (λ (u : Target). lifted (suc k) p u a range) is

pub lifted_nowhere : (p : Platform) (t : Target) (r a left : ℕ) (row : RouterRow) (range : ℕ × ℕ) → 0 < left → t ≡ Router r → slice_get p.routers r ≡ Some row → window_of 0 row.windows a ≡ None → lifted left p t a range ≡ None
unfolding lifted
lifted_nowhere p t r a zero row range some is there none = absurd (omega arith)
lifted_nowhere p t r a (suc k) row range some is there none =
    ap (λ (u : Target). lifted (suc k) p u a range) is
    ∙ ap (λ (o : Option RouterRow). over_router o a (λ t b. lifted k p t b range)) there
    ∙ ap (λ (o : Option Found). over_window o a (λ t b. lifted k p t b range)) none

pub lifted_over : (p : Platform) (t : Target) (r a left rest : ℕ) (row : RouterRow) (f : Found) (range : ℕ × ℕ) → left ≡ rest + 1 → t ≡ Router r → slice_get p.routers r ≡ Some row → window_of 0 row.windows a ≡ Some f
    → lifted left p t a range ≡ option_and_then (λ (x : ℕ × ℕ). cut_up (window_at f.index f.window) x.0 x.1) (lifted rest p f.window.to (a - f.window.first + f.window.base) range)
unfolding lifted
lifted_over p t r a zero rest row f range one is there found = absurd (omega arith)
lifted_over p t r a (suc k) rest row f range one is there found =
    let same : k ≡ rest = omega arith in
    ap (λ (u : Target). lifted (suc k) p u a range) is
    ∙ ap (λ (o : Option RouterRow). over_router o a (λ t b. lifted k p t b range)) there
    ∙ ap (λ (o : Option Found). over_window o a (λ t b. lifted k p t b range)) found
    ∙ ap (λ (n : ℕ). option_and_then (λ (x : ℕ × ℕ). cut_up (window_at f.index f.window) x.0 x.1) (lifted n p f.window.to (a - f.window.first + f.window.base) range)) same

pub lifted_default : (p : Platform) (t : Target) (a left : ℕ) (range : ℕ × ℕ) → 0 < left → ((r : ℕ) → t ≡ Router r → ⊥) → lifted left p t a range ≡ Some range
lifted_default p (Memory m) a left range some no_router = lifted_memory p (Memory m) m a left range some refl
lifted_default p (Router r) a left range some no_router = absurd (no_router r refl)

-- the router that a target is
pub router_at : (p : Platform) (t : Target) (r : ℕ) (rows : List RouterRow) (row : RouterRow) → IsTrue (is_there p t) → t ≡ Router r → rows ≡ p.routers → row ≡ get_or rows r row → slice_get p.routers r ≡ Some row
router_at p t r rows row there is same at =
    let below : r < length p.routers = ltb-true r (length p.routers) (subst (λ (u : Target). IsTrue (is_there p u)) is there) in
    router_there p rows r row same (let l = ap length same in omega arith) at

-- the range at a router, of that behind the window that the address takes
pub lifted_through : (p : Platform) (t : Target) (r a left : ℕ) (row : RouterRow) (f : Found) (range : ℕ × ℕ) (port seen : ℕ) (ws : List WindowRow) (d : WindowRow) (o : Option (ℕ × ℕ)) → 0 < left → t ≡ Router r → slice_get p.routers r ≡ Some row
    → IsDecoded row a port seen f → ws ≡ row.windows → o ≡ lifted (left - 1) p (get_or ws port d).to seen range → option_and_then (λ (x : ℕ × ℕ). cut_up (window_at f.index f.window) x.0 x.1) o ≡ lifted left p t a range
lifted_through p t r a left row f range port seen ws d o some is there decoded_ same rest =
    let window : get_or ws port d ≡ f.window = ap (λ (xs : List WindowRow). get_or xs port d) same ∙ get_or_from_slice_get row.windows port f.window d decoded_.at in
    ap (λ (x : Option (ℕ × ℕ)). option_and_then (λ (y : ℕ × ℕ). cut_up (window_at f.index f.window) y.0 y.1) x)
    (rest ∙ ap (λ (w : WindowRow). lifted (left - 1) p w.to seen range) window ∙ ap (λ (b : ℕ). lifted (left - 1) p f.window.to b range) decoded_.address)
    ∙ sym (lifted_over p t r a left (left - 1) row f range (omega arith) is there decoded_.found)

-- what a range that was translated up says of the address that leads into it
pub record IsLifted (r : ℕ × ℕ) (a off first last : ℕ) : Type 0 where
  pub low : r.0 ≤ a
  pub high : a ≤ r.1
  pub from : first + (a - r.0) ≤ off
  pub to : off + (r.1 - a) ≤ last

-- one hop up: the address has a place in the window
up_part : (low high base w_first w_last a : ℕ) (off first last : ℕ) → w_first ≤ a → a ≤ w_last → IsLifted (low, high) (a - w_first + base) off first last
    → (max low base ≤ min high (w_last - w_first + base)) × IsLifted (max low base - base + w_first, min high (w_last - w_first + base) - base + w_first) a off first last
up_part low high base w_first w_last a off first last from to l =
    let lo = l.low in
    let hi = l.high in
    let f = l.from in
    let t = l.to in (omega arith, record { low = omega arith; high = omega arith; from = omega arith; to = omega arith })

pub cut_part : (w : Window) (r : ℕ × ℕ) (a off first last : ℕ) → w.first ≤ a → a ≤ w.last → IsLifted r (a - w.first + w.base) off first last → (s : ℕ × ℕ) × (cut_up w r.0 r.1 ≡ Some s) × IsLifted s a off first last
cut_part w r a off first last from to l =
    let part = up_part r.0 r.1 w.base w.first w.last a off first last from to l in
    let low = max r.0 w.base in
    let high = min r.1 (w.last - w.first + w.base) in
    ((low - w.base + w.first, high - w.base + w.first), cond-true (nat_le low high) (Some (low - w.base + w.first, high - w.base + w.first)) None (le-leb low high part.0), part.1)

-- the window that was found for an address has it
abbrev HasIt : Found → ℕ → Type 0
HasIt f a = (f.window.first ≤ a) × (a ≤ f.window.last)

has_by_test : (n : ℕ) (w : WindowRow) (a : ℕ) (rest : Option Found) (f : Found) → (rest ≡ Some f → HasIt f a) → (b : Bool) → (nat_le w.first a && nat_le a w.last) ≡ b → cond b (Some (record { index = n; window = w })) rest ≡ Some f → HasIt f a
has_by_test n w a rest f next true has same =
    let found : Found = record { index = n; window = w } in
    let e : found ≡ f = cc (same) in
    let both = and_parts (nat_le w.first a) (nat_le a w.last) has in
    subst (λ (g : Found). HasIt g a) e (leb-true w.first a both.0, leb-true a w.last both.1)
has_by_test n w a rest f next false has same = next same

pub window_has_it : (n : ℕ) (ws : List WindowRow) (a : ℕ) (f : Found) → window_of n ws a ≡ Some f → (f.window.first ≤ a) × (a ≤ f.window.last)
window_has_it n [] a f is = absurd (cc (is))
window_has_it n (w ∷ ws) a f is = has_by_test n w a (window_of (n + 1) ws a) f (window_has_it (n + 1) ws a f) (nat_le w.first a && nat_le a w.last) refl is

pub into_end : (o : Option MemoryRow) (n a before m off : ℕ) → (model.into_memory o n a before).end ≡ Some (record { memory = m; offset = off }) → a ≡ off
into_end None n a before m off is = absurd (cc (is))
into_end (Some row) n a before m off is = let r : model.Route = record { memory = n; offset = a } in let s : model.Route = record { memory = m; offset = off } in let e : r ≡ s = cc (is) in ap (λ (x : model.Route). x.offset) e

-- a range that was translated up, and has the address
abbrev pub HasLifted : Option (ℕ × ℕ) → ℕ → ℕ → ℕ → ℕ → Type 0
HasLifted o a off first last = (r : ℕ × ℕ) × (o ≡ Some r) × IsLifted r a off first last

-- where a walk ends at a memory
abbrev pub EndsAt : Walk → ℕ → ℕ → Type 0
EndsAt w m off = w.end ≡ Some (record { memory = m; offset = off })

module _ (p : Platform) (r a m off first last : ℕ) (walks : Target → ℕ → ℕ → Walk) (lifts_to : Target → ℕ → Option (ℕ × ℕ)) (next : (t : Target) (b before : ℕ) → EndsAt (walks t b before) m off → HasLifted (lifts_to t b) b off first last) where
  through_window : (o : Option Found) (late : ℕ) → ((f : Found) → o ≡ Some f → HasIt f a) → EndsAt (model.into_window p r o a late walks) m off → HasLifted (over_window o a lifts_to) a off first last
  through_window None late has is = absurd (cc (is))
  through_window (Some f) late has is =
      let inner = next f.window.to (a - f.window.first + f.window.base) late is in
      let inside = has f refl in
      let w : Window = window_at f.index f.window in
      let part = cut_part w inner.0 a off first last inside.0 inside.1 inner.2 in
      (part.0, ap (λ (o : Option (ℕ × ℕ)). option_and_then (λ (x : ℕ × ℕ). cut_up w x.0 x.1) o) inner.1 ∙ part.1, part.2)

  through_router : (o : Option RouterRow) (before : ℕ) → EndsAt (model.into_router p r o a before walks) m off → HasLifted (over_router o a lifts_to) a off first last
  through_router None before is = absurd (cc (is))
  through_router (Some row) before is = through_window (window_of 0 row.windows a) (later before row.latency) (λ f found. window_has_it 0 row.windows a f found) is

-- the range translated up is there, and has the address
pub lifts : (k : ℕ) (p : Platform) (t : Target) (a before m off first last : ℕ) → EndsAt (walk k p t a before) m off → first ≤ off → off ≤ last → HasLifted (lifted k p t a (first, last)) a off first last
unfolding lifted
lifts zero p t a before m off first last is from to = absurd (cc (is))
lifts (suc k) p (Memory n) a before m off first last is from to =
    let same : a ≡ off = into_end (slice_get p.memories n) n a before m off is in
    ((first, last), refl, record { low = omega arith; high = omega arith; from = omega arith; to = omega arith })
lifts (suc k) p (Router r) a before m off first last is from to =
    through_router p r a m off first last (λ t b c. walk k p t b c) (λ t b. lifted k p t b (first, last)) (λ t b c ends. lifts k p t b c m off first last ends from to) (slice_get p.routers r) before is

-- the same for an address of an initiator
by_row : (p : Platform) (n a m off first last : ℕ) (o : Option InitiatorRow) → EndsAt (row_walk p n o a) m off → first ≤ off → off ≤ last → HasLifted (lifted_by p o a (first, last)) a off first last
by_row p n a m off first last None is from to = absurd (cc (is))
by_row p n a m off first last (Some row) is from to = lifts 9 p row.bind a 0 m off first last is from to

pub route_end : (w : Walk) (route : Route) → route_by w ≡ Some route → (o : Option model.Route) → w.end ≡ o → EndsAt w route.memory route.offset
route_end w route is None ends = absurd (let e : route_seen w.before w.latency None ≡ Some route = ap (route_seen w.before w.latency) (sym ends) ∙ is in cc (e))
route_end w route is (Some x) ends =
    let made : Route = record { memory = x.memory; offset = x.offset; before = w.before; latency = w.latency } in
    let e : ◌≡◌ {A = Option Route} (Some made) (Some route) = ap (route_seen w.before w.latency) (sym ends) ∙ is in
    let same : made ≡ route = cc (e) in
    ends ∙ ap (λ (y : Route). Some (let z : model.Route = record { memory = y.memory; offset = y.offset } in z)) same

pub lifts_at : (plan : Plan) (who a : ℕ) (route : Route) (first last : ℕ) → IsValidPlan plan → route_at plan who a ≡ Some route → first ≤ route.offset → route.offset ≤ last → HasLifted (lifted_at plan who a (first, last)) a route.offset first last
lifts_at plan who a route first last valid is from to =
    let same : bound_walk plan.platform who a ≡ walk_at plan who a = walk_of_row plan who a valid.scripts in
    by_row plan.platform who a route.memory route.offset first last (slice_get plan.platform.initiators who)
    (subst (λ (w : Walk). EndsAt w route.memory route.offset) (sym same) (route_end (walk_at plan who a) route is (walk_at plan who a).end refl)) from to

-- the range that was translated up, by its value
pub lifted_is : (o : Option (ℕ × ℕ)) (low high a off first last : ℕ) → HasLifted o a off first last → Some (low, high) ≡ o → IsLifted (low, high) a off first last
lifted_is o low high a off first last has is =
    let e : ◌≡◌ {A = Option (ℕ × ℕ)} (Some has.0) (Some (low, high)) = sym has.1 ∙ sym is in
    let same : has.0 ≡ (low, high) = cc (e) in
    subst (λ (x : ℕ × ℕ). IsLifted x a off first last) same has.2
