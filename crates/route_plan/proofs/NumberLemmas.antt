-- Lists whose elements are numbered.
use Rattle.std.proofs.Common.{◌≡◌, ℕ, zero, suc, ◌+◌, ◌-◌, ◌*◌, ◌^◌, ◌<◌, ◌≤◌, Bool, true, false, List, [], ◌∷◌, ◌++◌, length, map, take, get_or, sum_by, Option, Some, option_map, find, cond, slice_get, length-append, refl, sym, ap, subst, ◌∙◌, append_assoc, add-zero, zero-add, arith}
use Rattle.std.specs.Prelude.{All, IsSome, ◌↔◌}
use Rattle.std.specs.List.{enumerate_from, flat_map}
use Rattle.std.proofs.lemmas.Bool.{false≢true}
use Rattle.std.proofs.lemmas.Option.{same_Some, none-some}
use Rattle.std.proofs.lemmas.List.{map-append, length-map, append-nil, get_or-map, get_or_default, take_more, take_all, length-take, length-take-le}
use Rattle.std.proofs.lemmas.Grind.{flat_map-append}
use Rattle.std.proofs.lemmas.List.Sums.{sum_by-cons, sum_by-le, sum_by_more_le}
use Rattle.std.proofs.lemmas.List.FromFn.{length-enumerate_from}
use Rattle.std.proofs.lemmas.List.Elements.{All-take, All-weaker}
use Rattle.addr_router.specs.declared.window.Window.{Window}
use Rattle.addr_router.specs.Windows.{IsProper, IsValid, AreApart, decoded, is_within, seen_at}
use Rattle.platform_model.specs.Windows.{window_at, windows_of}
use Rattle.platform_model.specs.Bounded.{IsBounded, IsBoundedRouter}
use Rattle.tlm_model.specs.declared.platform.Platform.{Platform}
use Rattle.tlm_model.specs.declared.platform.RouterRow.{RouterRow}
use Rattle.tlm_model.specs.declared.platform.WindowRow.{WindowRow}
use Rattle.tlm_model.specs.Route.{Found, window_of, window_hop}
use Rattle.tlm_model.specs.Route as model
use Rattle.route_plan.specs.declared.ends.HopEnds.{HopEnds}
use Rattle.route_plan.specs.Routes.{binding_ends, ends_of, numbered_windows, router_ends, window_ends}
use Rattle.route_plan.specs.Places.{object_count}
use Rattle.route_plan.specs.Valid.{hop_count}

enumerate-push : {X : Type 0} (n : ℕ) (xs : List X) (x : X) → enumerate_from n (xs ++ x ∷ []) ≡ enumerate_from n xs ++ (n + length xs, x) ∷ []
enumerate-push n [] x = ap (λ k. (k, x) ∷ []) (sym (add-zero n))
enumerate-push n (y ∷ ys) x =
    let place : n + 1 + length ys ≡ n + length (y ∷ ys) = omega arith in
    ap (λ es. (n, y) ∷ es) (enumerate-push (n + 1) ys x ∙ ap (λ k. enumerate_from (n + 1) ys ++ (k, x) ∷ []) place)

enumerate-more : {X : Type 0} (xs : List X) (i : ℕ) (x : X) → i < length xs → x ≡ get_or xs i x → enumerate_from 0 (take (i + 1) xs) ≡ enumerate_from 0 (take i xs) ++ (i, x) ∷ []
enumerate-more xs i x below at =
    let more : take (i + 1) xs ≡ take i xs ++ x ∷ [] = take_more xs i x below ∙ ap (λ y. take i xs ++ y ∷ []) (sym at) in
    let place : 0 + length (take i xs) ≡ i = zero-add (length (take i xs)) ∙ length-take-le i xs (omega arith) in
    ap (enumerate_from 0) more ∙ enumerate-push 0 (take i xs) x ∙ ap (λ k. enumerate_from 0 (take i xs) ++ (k, x) ∷ []) place

-- one more element is added with its number
pub numbered_more : {X Y : Type 0} (f : ℕ × X → Y) (xs : List X) (ys ys' : List Y) (i : ℕ) (x : X) (y : Y) → i < length xs → x ≡ get_or xs i x → y ≡ f (i, x) → ys' ≡ ys ++ y ∷ []
    → ys ≡ map f (enumerate_from 0 (take i xs)) → ys' ≡ map f (enumerate_from 0 (take (i + 1) xs))
numbered_more f xs ys ys' i x y below at here pushed so_far =
    pushed ∙ ap (λ zs. zs ++ y ∷ []) so_far ∙ ap (λ z. map f (enumerate_from 0 (take i xs)) ++ z ∷ []) here
    ∙ sym (map-append f (enumerate_from 0 (take i xs)) ((i, x) ∷ [])) ∙ ap (map f) (sym (enumerate-more xs i x below at))

pub numbered_all : {X Y : Type 0} (f : ℕ × X → Y) (xs rows : List X) (ys : List Y) (i : ℕ) → xs ≡ rows → length xs ≤ i → ys ≡ map f (enumerate_from 0 (take i xs)) → ys ≡ map f (enumerate_from 0 rows)
numbered_all f xs rows ys i same le so_far = so_far ∙ ap (λ zs. map f (enumerate_from 0 zs)) (take_all i xs le ∙ same)

one_joined : {X Y : Type 0} (f : X → List Y) (x : X) → flat_map f (x ∷ []) ≡ f x
one_joined f x = append-nil (f x)

-- the same, where the element is read as it is added
pub numbered_more_at : {X Y : Type 0} (f : ℕ × X → Y) (xs : List X) (ys ys' : List Y) (i : ℕ) (d : X) (y : Y) → i < length xs → y ≡ f (i, get_or xs i d) → ys' ≡ ys ++ y ∷ []
    → ys ≡ map f (enumerate_from 0 (take i xs)) → ys' ≡ map f (enumerate_from 0 (take (i + 1) xs))
numbered_more_at f xs ys ys' i d y below here pushed so_far = numbered_more f xs ys ys' i (get_or xs i d) y below (get_or_default xs i d (get_or xs i d) below) here pushed so_far

-- one more list is added for an element with its number
pub joined_more : {X Y : Type 0} (f : ℕ × X → List Y) (front : List Y) (xs : List X) (ys ys' more : List Y) (i : ℕ) (x : X) → i < length xs → x ≡ get_or xs i x → more ≡ f (i, x) → ys' ≡ ys ++ more
    → ys ≡ front ++ flat_map f (enumerate_from 0 (take i xs)) → ys' ≡ front ++ flat_map f (enumerate_from 0 (take (i + 1) xs))
joined_more f front xs ys ys' more i x below at here pushed so_far =
    let es = enumerate_from 0 (take i xs) in
    let one : flat_map f ((i, x) ∷ []) ≡ f (i, x) = one_joined f (i, x) in
    let all : flat_map f (enumerate_from 0 (take (i + 1) xs)) ≡ flat_map f es ++ f (i, x) = ap (flat_map f) (enumerate-more xs i x below at) ∙ flat_map-append f es ((i, x) ∷ []) ∙ ap (λ zs. flat_map f es ++ zs) one in
    pushed ∙ ap (λ zs. zs ++ more) so_far ∙ ap (λ zs. (front ++ flat_map f es) ++ zs) here ∙ append_assoc front (flat_map f es) (f (i, x)) ∙ ap (λ zs. front ++ zs) (sym all)

pub joined_all : {X Y : Type 0} (f : ℕ × X → List Y) (front : List Y) (xs rows : List X) (ys : List Y) (i : ℕ) → xs ≡ rows → length xs ≤ i → ys ≡ front ++ flat_map f (enumerate_from 0 (take i xs)) → ys ≡ front ++ flat_map f (enumerate_from 0 rows)
joined_all f front xs rows ys i same le so_far = so_far ∙ ap (λ zs. front ++ flat_map f (enumerate_from 0 zs)) (take_all i xs le ∙ same)

pub kept_windows : (r : RouterRow) (rows : List WindowRow) (ws : List Window) → rows ≡ r.windows → ws ≡ map (λ (w : ℕ × WindowRow). window_at w.0 w.1) (enumerate_from 0 rows) → ws ≡ numbered_windows r
kept_windows r rows ws same made = made ∙ ap (λ rs. map (λ (w : ℕ × WindowRow). window_at w.0 w.1) (enumerate_from 0 rs)) same

-- the windows of a router for their faults are valid, and so are those with their numbers
abbrev as_first : Window → Window
as_first w = record w { port = 0 }

as_first-numbered : (n : ℕ) (ws : List WindowRow) → map as_first (map (λ (w : ℕ × WindowRow). window_at w.0 w.1) (enumerate_from n ws)) ≡ map (window_at 0) ws
as_first-numbered n [] = refl
as_first-numbered n (w ∷ ws) = ap (λ xs. window_at 0 w ∷ xs) (as_first-numbered (n + 1) ws)

proper_of_first : (w : Window) → IsProper (as_first w) → IsProper w
proper_of_first w h = record { not_empty = h.not_empty; last_fits = h.last_fits; seen_fits = h.seen_fits }

valid_of_first : (xs : List Window) → IsValid (map as_first xs) → IsValid xs
valid_of_first xs h =
    let count : length (map as_first xs) ≡ length xs = length-map xs as_first in
    let at : (k : ℕ) (d : Window) → k < length xs → get_or (map as_first xs) k (as_first d) ≡ as_first (get_or xs k d) = λ k d below. get_or-map as_first xs k d (as_first d) below in
    record {
      each = λ k d below. proper_of_first (get_or xs k d) (subst IsProper (at k d below) (h.each k (as_first d) (omega arith)));
      apart = λ i j d before below.
          let left = at i d (omega arith) in
          let right = at j d below in
          subst (λ (w : Window). AreApart (as_first (get_or xs i d)) w) right (subst (λ (v : Window). AreApart v (get_or (map as_first xs) j (as_first d))) left (h.apart i j (as_first d) before (omega arith)));
    }

pub numbered_are_valid : (r : RouterRow) → IsValid (windows_of r) → IsValid (numbered_windows r)
numbered_are_valid r h = valid_of_first (numbered_windows r) (subst IsValid (sym (as_first-numbered 0 r.windows)) h)

-- an address decodes by the window that it finds
abbrev pub seen_by : ℕ → Found → ℕ × ℕ
seen_by a f = (f.index, a - f.window.first + f.window.base)

by_test : (b : Bool) (a : ℕ) (w : Window) (f : Found) (ws : Option Window) (fs : Option Found) → (w.port, seen_at w a) ≡ seen_by a f → option_map (λ (w : Window). (w.port, seen_at w a)) ws ≡ option_map (seen_by a) fs
    → option_map (λ (w : Window). (w.port, seen_at w a)) (cond b (Some w) ws) ≡ option_map (seen_by a) (cond b (Some f) fs)
by_test true a w f ws fs here rest = ap Some here
by_test false a w f ws fs here rest = rest

pub decoded_numbered : (n : ℕ) (ws : List WindowRow) (a : ℕ) → decoded (map (λ (w : ℕ × WindowRow). window_at w.0 w.1) (enumerate_from n ws)) a ≡ option_map (seen_by a) (window_of n ws a)
decoded_numbered n [] a = refl
decoded_numbered n (w ∷ ws) a =
    by_test (is_within (window_at n w) a) a (window_at n w) (record { index = n; window = w }) (find (λ (v : Window). is_within v a) (map (λ (w : ℕ × WindowRow). window_at w.0 w.1) (enumerate_from (n + 1) ws))) (window_of (n + 1) ws a) refl (decoded_numbered (n + 1) ws a)

-- a window that is found stands at its index
found_by : (b : Bool) (n : ℕ) (w : WindowRow) (ws : List WindowRow) (rest : Option Found) (f : Found) → (rest ≡ Some f → (n + 1 ≤ f.index) × (slice_get ws (f.index - (n + 1)) ≡ Some f.window))
    → cond b (Some (record { index = n; window = w })) rest ≡ Some f → (n ≤ f.index) × (slice_get (w ∷ ws) (f.index - n) ≡ Some f.window)
found_by true n w ws rest f next h =
    let found : Found = record { index = n; window = w } in
    let same : found ≡ f = same_Some found f h in
    let index : n ≡ f.index = ap (λ (g : Found). g.index) same in
    let window : w ≡ f.window = ap (λ (g : Found). g.window) same in
    let none : f.index - n ≡ 0 = omega arith in
    (omega arith, ap (slice_get (w ∷ ws)) none ∙ ap (λ (v : WindowRow). Some v) window)
found_by false n w ws rest f next h =
    let later = next h in
    let low : n + 1 ≤ f.index = later.0 in
    let place : f.index - n ≡ suc (f.index - (n + 1)) = omega arith in
    (omega arith, ap (slice_get (w ∷ ws)) place ∙ later.1)

found_at : (n : ℕ) (ws : List WindowRow) (a : ℕ) (f : Found) → window_of n ws a ≡ Some f → (n ≤ f.index) × (slice_get ws (f.index - n) ≡ Some f.window)
found_at n [] a f h = absurd (none-some f h)
found_at n (w ∷ ws) a f h = found_by (model.window_has w a) n w ws (window_of (n + 1) ws a) f (λ rest. found_at (n + 1) ws a f rest) h

pub window_is_found : (ws : List WindowRow) (a : ℕ) (f : Found) → window_of 0 ws a ≡ Some f → slice_get ws f.index ≡ Some f.window
window_is_found ws a f h =
    let place : f.index - 0 ≡ f.index = omega arith in
    ap (slice_get ws) (sym place) ∙ (found_at 0 ws a f h).1

-- the numbers of hops are small
pub window_hop-le : (p : Platform) (r : ℕ) → IsBounded p → window_hop p r 0 ≤ 32 + length (take r p.routers) * 16
window_hop-le p r h =
    let few : All (λ (row : RouterRow). length row.windows ≤ 16) p.routers = All-weaker (IsBoundedRouter p) (λ (row : RouterRow). length row.windows ≤ 16) (λ row b. b.window_count) p.routers h.routers in
    let sum : sum_by (λ (row : RouterRow). length row.windows) (take r p.routers) ≤ length (take r p.routers) * 16 = sum_by-le (λ (row : RouterRow). length row.windows) 16 (take r p.routers) (All-take (λ (row : RouterRow). length row.windows ≤ 16) r p.routers few) in
    omega (arith, h.initiator_count)

-- the hops of the routers so far, and those of one more
pub hop_sum_fits : (p : Platform) (r i hop more : ℕ) (earlier : List RouterRow) (row : RouterRow) → IsBounded p → earlier ≡ take r p.routers → i < length earlier → row ≡ get_or earlier i row
    → hop ≡ length p.initiators + sum_by (λ (row : RouterRow). length row.windows) (take i earlier) → more ≡ length row.windows → hop + more < 2 ^ 32
hop_sum_fits p r i hop more earlier row h same below at so_far is_more =
    let f : RouterRow → ℕ = λ row. length row.windows in
    let one : sum_by f (take i earlier) + f (get_or earlier i row) ≤ sum_by f earlier = sum_by_more_le f earlier i row below in
    let here : f row ≡ f (get_or earlier i row) = ap f at in
    let all : sum_by f earlier ≡ sum_by f (take r p.routers) = ap (sum_by f) same in
    omega (arith, one, here, all, window_hop-le p r h, length-take r p.routers, h.router_count)

-- how many hops there are
router_ends_count : (n : ℕ) (rows : List RouterRow) → length (flat_map router_ends (enumerate_from n rows)) ≡ sum_by (λ (row : RouterRow). length row.windows) rows
router_ends_count n [] = refl
router_ends_count n (row ∷ rows) =
    let f : RouterRow → ℕ = λ row. length row.windows in
    let one : length (router_ends (n, row)) ≡ length row.windows = length-map (enumerate_from 0 row.windows) (window_ends n) ∙ length-enumerate_from 0 row.windows in
    let both : length (router_ends (n, row) ++ flat_map router_ends (enumerate_from (n + 1) rows)) ≡ length (router_ends (n, row)) + length (flat_map router_ends (enumerate_from (n + 1) rows)) = length-append (router_ends (n, row)) (flat_map router_ends (enumerate_from (n + 1) rows)) in
    let rest : length (flat_map router_ends (enumerate_from (n + 1) rows)) ≡ sum_by f rows = router_ends_count (n + 1) rows in
    let sum : sum_by f (row ∷ rows) ≡ length row.windows + sum_by f rows = sum_by-cons f row rows in
    omega (arith, one, both, rest, sum)

pub length-ends_of : (p : Platform) → length (ends_of p) ≡ hop_count p
unfolding ends_of
length-ends_of p =
    let bindings : List HopEnds = map binding_ends (enumerate_from 0 p.initiators) in
    let windows : List HopEnds = flat_map router_ends (enumerate_from 0 p.routers) in
    let both : length (bindings ++ windows) ≡ length bindings + length windows = length-append bindings windows in
    let one : length bindings ≡ length p.initiators = length-map (enumerate_from 0 p.initiators) binding_ends ∙ length-enumerate_from 0 p.initiators in
    let rest : length windows ≡ sum_by (λ (row : RouterRow). length row.windows) p.routers = router_ends_count 0 p.routers in
    omega (arith, both, one, rest)

-- the objects are few
pub few_objects : (p : Platform) → IsBounded p → object_count p ≤ 336
few_objects p h =
    let f : RouterRow → ℕ = λ row. length row.windows in
    let few : All (λ (row : RouterRow). length row.windows ≤ 16) p.routers = All-weaker (IsBoundedRouter p) (λ (row : RouterRow). length row.windows ≤ 16) (λ row b. b.window_count) p.routers h.routers in
    let sum : sum_by f p.routers ≤ length p.routers * 16 = sum_by-le f 16 p.routers few in
    omega (arith, sum, h.initiator_count, h.router_count, h.memory_count)

within_some : {X : Type 0} (xs : List X) (i : ℕ) → IsSome (slice_get xs i) → i < length xs
within_some [] i h = absurd (false≢true h)
within_some (x ∷ xs) zero h = omega arith
within_some (x ∷ xs) (suc i) h = omega (arith, within_some xs i h)

some_within : {X : Type 0} (xs : List X) (i : ℕ) → i < length xs → IsSome (slice_get xs i)
some_within [] i h = absurd (omega arith)
some_within (x ∷ xs) zero h = refl
some_within (x ∷ xs) (suc i) h = some_within xs i (omega arith)

-- a hop has ends where its number is one
pub ends_are_there : (p : Platform) (hop : ℕ) (o : Option HopEnds) → o ≡ slice_get (ends_of p) hop → IsSome o ↔ (hop < hop_count p)
ends_are_there p hop o e = (
  λ some. let below : hop < length (ends_of p) = within_some (ends_of p) hop (subst IsSome e some) in omega (arith, length-ends_of p),
  λ below. subst IsSome (sym e) (some_within (ends_of p) hop (omega (arith, length-ends_of p))),
)
