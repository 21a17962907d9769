-- What is counted for an initiator is what the definitions plan for it.
use Rattle.std.proofs.Common.{◌≡◌, ℕ, zero, suc, ◌+◌, ◌*◌, ◌<◌, ◌≤◌, Bool, ◌&&◌, ◌==◌, List, [], ◌∷◌, length, map, get_or, sum_by, Option, Some, None, slice_get, nat_lt, refl, sym, ap, subst, ◌∙◌, zero-add, arith}
use Rattle.std.specs.Prelude.{if◌then◌else◌}
use Rattle.std.specs.List.{All, AllByRecursion, flat_map, list_any, range_with_len}
use Rattle.std.proofs.lemmas.List.Elements.{All-from_get_or, All-get_or, All-map}
use Rattle.std.proofs.lemmas.List.FromFn.{get_or-map-range_with_len, length-map-range_with_len}
use Rattle.std.proofs.lemmas.Option.{same_Some, none-some, slice_get_past, slice_get_read}
use Rattle.tlm_types.specs.declared.words.ObjectNo.TheVariants as object
use Rattle.tlm_model.specs.declared.operation.Operation.{Operation}
use Rattle.tlm_model.specs.declared.platform.InitiatorRow.{InitiatorRow}
use Rattle.tlm_model.specs.declared.platform.MemoryRow.{MemoryRow}
use Rattle.tlm_model.specs.declared.platform.Platform.{Platform}
use Rattle.tlm_model.specs.declared.platform.Target.TheVariants.{Memory}
use Rattle.tlm_model.specs.declared.ask.Ask.{Ask}
use Rattle.tlm_model.specs.declared.ask.Ask.TheVariants.{Access as AnAccess, DebugRead as ADebugRead, Invalidation as AnInvalidation}
use Rattle.tlm_model.specs.Actions.{asks_of}
use Rattle.tlm_model.specs.Plan.{Plan, Initiator, initiators_from, initiators_of}
use Rattle.tlm_model.specs.Route.{hops_of}
use Rattle.platform_shape.specs.Paths.{has_path, once}
use Rattle.platform_shape.proofs.PathLemmas.{any-some, some-once}
use Rattle.route_plan.specs.declared.counts.Count.{Count}
use Rattle.route_plan.specs.declared.shares.Share.{Share}
use Rattle.route_plan.specs.Counted.Counted.{Entries, Logged, Invalidations}
use Rattle.route_plan.specs.Counted.{added_by_hops, counted_in, counted_of, is_granted_at, is_granted_by, is_led_to, logged_share_at, logged_share_by, passed_at, passed_by, share_at, share_by}
use Rattle.route_plan.specs.Counts.{count_in, counts_of}
use Rattle.route_plan.specs.Places.{object_at, object_count}
use Rattle.route_plan.specs.Planned.{asks_in, at_gates, at_hop, at_memory, at_pool, by_fourphase, gates_by, invalidates, is_direct, is_routed_to, leads_to, logged_at, logged_share, share_of}
use Rattle.route_plan.specs.Routes.{row_walk}
use Rattle.route_plan.specs.Shares.{gates_in, gates_of, initiator_shares, no_share, object_shares, pair_share, script_shares, share_in, shares_by_initiator}
use Rattle.route_plan.specs.Valid.{hop_count}
use Rattle.route_plan.proofs.PlaceLemmas.{IsPlace, hop_at, memory_at, of_hop, of_memory, of_pool, place_is, pool_at}
use Rattle.route_plan.proofs.WayLemmas.{added_at_hop, added_at_memory, added_at_pool, bound_within, fourphase_if, fourphase_none}

abbrev pub numbered : ℕ → InitiatorRow → List Operation → Initiator
numbered n row script = record { number = n; row = row; script = script }

initiator_from : (n k : ℕ) (rows : List InitiatorRow) (scripts : List (List Operation)) (row : InitiatorRow) (script : List Operation) → slice_get rows k ≡ Some row → slice_get scripts k ≡ Some script
    → slice_get (initiators_from n rows scripts) k ≡ Some (numbered (n + k) row script)
initiator_from n k [] scripts row script here there = absurd (none-some row here)
initiator_from n k (r ∷ rows) [] row script here there = absurd (none-some script there)
initiator_from n zero (r ∷ rows) (s ∷ scripts) row script here there =
    let place : n ≡ n + 0 = omega arith in
    ap (λ (m : ℕ). Some (numbered m r s)) place ∙ ap (λ (x : InitiatorRow). Some (numbered (n + 0) x s)) (same_Some r row here) ∙ ap (λ (x : List Operation). Some (numbered (n + 0) row x)) (same_Some s script there)
initiator_from n (suc k) (r ∷ rows) (s ∷ scripts) row script here there =
    let place : n + 1 + k ≡ n + suc k = omega arith in
    initiator_from (n + 1) k rows scripts row script here there ∙ ap (λ (m : ℕ). Some (numbered m row script)) place

-- the initiator at a number
pub initiator_at : (plan : Plan) (n : ℕ) (row : InitiatorRow) (script : List Operation) → slice_get plan.platform.initiators n ≡ Some row → slice_get plan.scripts n ≡ Some script
    → slice_get (initiators_of plan) n ≡ Some (numbered n row script)
initiator_at plan n row script here there =
    initiator_from 0 n plan.platform.initiators plan.scripts row script here there ∙ ap (λ (m : ℕ). Some (numbered m row script)) (zero-add n)

pub count_initiators : (n : ℕ) (rows : List InitiatorRow) (scripts : List (List Operation)) → length scripts ≡ length rows → length (initiators_from n rows scripts) ≡ length rows
count_initiators n [] scripts same = refl
count_initiators n (r ∷ rows) [] same = absurd (omega arith)
count_initiators n (r ∷ rows) (s ∷ scripts) same = let rest = count_initiators (n + 1) rows scripts (omega arith) in omega (arith, rest)

-- an address of the initiator leads where its binding leads
led : (plan : Plan) (n m a : ℕ) (row : InitiatorRow) (script : List Operation) → slice_get plan.platform.initiators n ≡ Some row → is_led_to plan.platform n m a ≡ is_routed_to plan (numbered n row script) m a
led plan n m a row script here = ap (λ (o : Option InitiatorRow). leads_to (row_walk plan.platform n o a).end m) here

-- what an access of a row's initiator adds on its way
passed : (plan : Plan) (n k a : ℕ) (row : InitiatorRow) (script : List Operation) → slice_get plan.platform.initiators n ≡ Some row
    → passed_at plan.platform n k a ≡ by_fourphase row.style (added_by_hops plan.platform n k (hops_of plan.platform (numbered n row script) a))
passed plan n k a row script here = ap (λ (o : Option InitiatorRow). passed_by o (added_by_hops plan.platform n k (row_walk plan.platform n o a).hops)) here

-- an address leads to no place past the memories
not_led : (plan : Plan) (n k a : ℕ) → length plan.platform.memories ≤ k → once (is_led_to plan.platform n k a) ≡ 0
not_led plan n k a past = ap once ((bound_within plan.platform n a).end k past)

-- the hops of an initiator's access are there
hops_there : (plan : Plan) (n a : ℕ) (row : InitiatorRow) (script : List Operation) → slice_get plan.platform.initiators n ≡ Some row → AllByRecursion (λ h. h < hop_count plan.platform) (hops_of plan.platform (numbered n row script) a)
hops_there plan n a row script here = subst (λ (o : Option InitiatorRow). AllByRecursion (λ h. h < hop_count plan.platform) (row_walk plan.platform n o a).hops) here (bound_within plan.platform n a).hops

entries_of_ask : (plan : Plan) (n m : ℕ) (row : InitiatorRow) (script : List Operation) → m < length plan.platform.memories → slice_get plan.platform.initiators n ≡ Some row
    → (ask : Ask) → counted_of Entries plan.platform n m ask ≡ at_memory plan (numbered n row script) m ask
entries_of_ask plan n m row script lt here (AnAccess a b) =
    let i = numbered n row script in
    let way : passed_at plan.platform n m a ≡ 0 = passed plan n m a row script here ∙ fourphase_none row.style _ (added_at_memory plan.platform n m (hops_of plan.platform i a) lt) in
    let to : once (is_led_to plan.platform n m a) ≡ once (is_routed_to plan i m a) = ap once (led plan n m a row script here) in
    omega (arith, way, to)
entries_of_ask plan n m row script lt here (ADebugRead a b) = ap once (led plan n m a row script here)
entries_of_ask plan n m row script lt here (AnInvalidation a) = ap once (led plan n m a row script here)

hop_entries_of_ask : (plan : Plan) (n h : ℕ) (row : InitiatorRow) (script : List Operation) → h < hop_count plan.platform → slice_get plan.platform.initiators n ≡ Some row
    → (ask : Ask) → counted_of Entries plan.platform n (length plan.platform.memories + h) ask ≡ at_hop plan (numbered n row script) h ask
hop_entries_of_ask plan n h row script lt here (AnAccess a b) =
    let i = numbered n row script in
    let k : ℕ = length plan.platform.memories + h in
    let way : passed_at plan.platform n k a ≡ at_hop plan i h (AnAccess a b) =
    passed plan n k a row script here ∙ ap (by_fourphase row.style) (added_at_hop plan.platform n h (hops_of plan.platform i a) lt) in
    let past : once (is_led_to plan.platform n k a) ≡ 0 = not_led plan n k a (omega arith) in
    ap (λ x. x + passed_at plan.platform n k a) past ∙ zero-add (passed_at plan.platform n k a) ∙ way
hop_entries_of_ask plan n h row script lt here (ADebugRead a b) = not_led plan n (length plan.platform.memories + h) a (omega arith)
hop_entries_of_ask plan n h row script lt here (AnInvalidation a) = not_led plan n (length plan.platform.memories + h) a (omega arith)

pool_entries_of_ask : (plan : Plan) (n j : ℕ) (row : InitiatorRow) (script : List Operation) → slice_get plan.platform.initiators n ≡ Some row
    → (ask : Ask) → counted_of Entries plan.platform n (length plan.platform.memories + hop_count plan.platform + j) ask ≡ at_pool plan (numbered n row script) j ask
pool_entries_of_ask plan n j row script here (AnAccess a b) =
    let i = numbered n row script in
    let k : ℕ = length plan.platform.memories + hop_count plan.platform + j in
    let hops = hops_of plan.platform i a in
    let way : passed_at plan.platform n k a ≡ at_pool plan i j (AnAccess a b) =
    passed plan n k a row script here ∙ ap (by_fourphase row.style) (added_at_pool plan.platform n j hops (hops_there plan n a row script here)) ∙ fourphase_if row.style (n == j) (2 + 2 * length hops) in
    let past : once (is_led_to plan.platform n k a) ≡ 0 = not_led plan n k a (omega arith) in
    ap (λ x. x + passed_at plan.platform n k a) past ∙ zero-add (passed_at plan.platform n k a) ∙ way
pool_entries_of_ask plan n j row script here (ADebugRead a b) = not_led plan n (length plan.platform.memories + hop_count plan.platform + j) a (omega arith)
pool_entries_of_ask plan n j row script here (AnInvalidation a) = not_led plan n (length plan.platform.memories + hop_count plan.platform + j) a (omega arith)

bytes_of_ask : (plan : Plan) (n m : ℕ) (row : InitiatorRow) (script : List Operation) → slice_get plan.platform.initiators n ≡ Some row → (ask : Ask) → counted_of Logged plan.platform n m ask ≡ logged_at plan (numbered n row script) m ask
bytes_of_ask plan n m row script here (AnAccess a k) = ap (λ b. k * once b) (led plan n m a row script here)
bytes_of_ask plan n m row script here (ADebugRead a k) = ap (λ b. k * once b) (led plan n m a row script here)
bytes_of_ask plan n m row script here (AnInvalidation a) = refl

closed_by_ask : (plan : Plan) (n m : ℕ) (row : InitiatorRow) (script : List Operation) → slice_get plan.platform.initiators n ≡ Some row
    → (ask : Ask) → invalidates plan (numbered n row script) m ask ≡ nat_lt 0 (counted_of Invalidations plan.platform n m ask)
closed_by_ask plan n m row script here (AnAccess a k) = refl
closed_by_ask plan n m row script here (ADebugRead a k) = refl
closed_by_ask plan n m row script here (AnInvalidation a) = sym (led plan n m a row script here) ∙ some-once (is_led_to plan.platform n m a)

granted : (plan : Plan) (n m : ℕ) (row : InitiatorRow) → slice_get plan.platform.initiators n ≡ Some row → is_granted_at plan.platform n m ≡ (is_direct row.style && has_path plan.platform row (Memory m))
granted plan n m row here = ap (is_granted_by plan.platform m) here

closed : (plan : Plan) (n m : ℕ) (row : InitiatorRow) (script : List Operation) → slice_get plan.platform.initiators n ≡ Some row
    → nat_lt 0 (counted_in Invalidations plan.platform n m script) ≡ list_any (invalidates plan (numbered n row script) m) (asks_in (numbered n row script))
closed plan n m row script here =
    sym (any-some (invalidates plan (numbered n row script) m) (counted_of Invalidations plan.platform n m) (closed_by_ask plan n m row script here) (flat_map asks_of script))

gates_of_row : (plan : Plan) (n m : ℕ) (row : InitiatorRow) (script : List Operation) → slice_get plan.platform.initiators n ≡ Some row
    → (o : Option MemoryRow) → gates_of plan.platform n m (counted_in Invalidations plan.platform n m script) o ≡ gates_by plan (numbered n row script) m o
gates_of_row plan n m row script here None = refl
gates_of_row plan n m row script here (Some memory) =
    ap (λ (b : Bool). if memory.traits.dmi then memory.traits.gates * (once b + once (nat_lt 0 (counted_in Invalidations plan.platform n m script))) else 0) (granted plan n m row here)
    ∙ ap (λ (b : Bool). if memory.traits.dmi then memory.traits.gates * (once (is_direct row.style && has_path plan.platform row (Memory m)) + once b) else 0) (closed plan n m row script here)

-- what is counted of a script, ask by ask
counted_as : (plan : Plan) (n k : ℕ) (script : List Operation) (f : Ask → ℕ) → ((ask : Ask) → counted_of Entries plan.platform n k ask ≡ f ask) → counted_in Entries plan.platform n k script ≡ sum_by f (flat_map asks_of script)
counted_as plan n k script f each = ap (λ (f : Ask → ℕ). sum_by f (flat_map asks_of script)) (λ j ask. each ask j)

memory_entries : (plan : Plan) (n m : ℕ) (row : InitiatorRow) (script : List Operation) → m < length plan.platform.memories → slice_get plan.platform.initiators n ≡ Some row
    → counted_in Entries plan.platform n m script + gates_in plan.platform n m (counted_in Invalidations plan.platform n m script) ≡ share_of plan (numbered n row script) (object.Memory m)
unfolding share_of
memory_entries plan n m row script lt here =
    let i = numbered n row script in
    let counted : counted_in Entries plan.platform n m script ≡ sum_by (at_memory plan i m) (asks_in i) = counted_as plan n m script (at_memory plan i m) (entries_of_ask plan n m row script lt here) in
    let gates : gates_in plan.platform n m (counted_in Invalidations plan.platform n m script) ≡ at_gates plan i m = gates_of_row plan n m row script here (slice_get plan.platform.memories m) in
    ap (λ (x : ℕ). x + gates_in plan.platform n m (counted_in Invalidations plan.platform n m script)) counted ∙ ap (λ (x : ℕ). sum_by (at_memory plan i m) (asks_in i) + x) gates

-- no gates are past the memories
no_gates : (plan : Plan) (n k counted invalidations : ℕ) → length plan.platform.memories ≤ k → counted + gates_in plan.platform n k invalidations ≡ counted
no_gates plan n k counted invalidations past =
    let none : gates_in plan.platform n k invalidations ≡ 0 = ap (gates_of plan.platform n k invalidations) (slice_get_past plan.platform.memories k past) in
    omega (arith, none)

hop_entries : (plan : Plan) (n h : ℕ) (row : InitiatorRow) (script : List Operation) → h < hop_count plan.platform → slice_get plan.platform.initiators n ≡ Some row
    → counted_in Entries plan.platform n (length plan.platform.memories + h) script ≡ share_of plan (numbered n row script) (object.Hop h)
unfolding share_of
hop_entries plan n h row script lt here = counted_as plan n (length plan.platform.memories + h) script (at_hop plan (numbered n row script) h) (hop_entries_of_ask plan n h row script lt here)

pool_entries : (plan : Plan) (n j : ℕ) (row : InitiatorRow) (script : List Operation) → slice_get plan.platform.initiators n ≡ Some row
    → counted_in Entries plan.platform n (length plan.platform.memories + hop_count plan.platform + j) script ≡ share_of plan (numbered n row script) (object.Pool j)
unfolding share_of
pool_entries plan n j row script here =
    counted_as plan n (length plan.platform.memories + hop_count plan.platform + j) script (at_pool plan (numbered n row script) j) (pool_entries_of_ask plan n j row script here)

entries_by : (plan : Plan) (n k : ℕ) (row : InitiatorRow) (script : List Operation) → IsPlace plan.platform k → slice_get plan.platform.initiators n ≡ Some row
    → counted_in Entries plan.platform n k script + gates_in plan.platform n k (counted_in Invalidations plan.platform n k script) ≡ share_of plan (numbered n row script) (object_at plan.platform k)
entries_by plan n k row script (of_memory lt) here = memory_entries plan n k row script lt here ∙ ap (share_of plan (numbered n row script)) (sym (memory_at plan.platform k lt))
entries_by plan n k row script (of_hop h lt at) here =
    no_gates plan n k (counted_in Entries plan.platform n k script) (counted_in Invalidations plan.platform n k script) (omega (arith, at)) ∙ ap (λ (k : ℕ). counted_in Entries plan.platform n k script) at
    ∙ hop_entries plan n h row script lt here ∙ ap (share_of plan (numbered n row script)) (sym (hop_at plan.platform h lt) ∙ ap (object_at plan.platform) (sym at))
entries_by plan n k row script (of_pool j at) here =
    no_gates plan n k (counted_in Entries plan.platform n k script) (counted_in Invalidations plan.platform n k script) (omega (arith, at)) ∙ ap (λ (k : ℕ). counted_in Entries plan.platform n k script) at
    ∙ pool_entries plan n j row script here ∙ ap (share_of plan (numbered n row script)) (sym (pool_at plan.platform j) ∙ ap (object_at plan.platform) (sym at))

entries_are : (plan : Plan) (n k : ℕ) (row : InitiatorRow) (script : List Operation) → slice_get plan.platform.initiators n ≡ Some row → slice_get plan.scripts n ≡ Some script
    → counted_in Entries plan.platform n k script + gates_in plan.platform n k (counted_in Invalidations plan.platform n k script) ≡ share_at plan n (object_at plan.platform k)
entries_are plan n k row script here there =
    entries_by plan n k row script (place_is plan.platform k) here ∙ sym (ap (share_by plan (object_at plan.platform k)) (initiator_at plan n row script here there))

bytes_are : (plan : Plan) (n m : ℕ) (row : InitiatorRow) (script : List Operation) → slice_get plan.platform.initiators n ≡ Some row → slice_get plan.scripts n ≡ Some script
    → counted_in Logged plan.platform n m script ≡ logged_share_at plan n m
unfolding logged_share
bytes_are plan n m row script here there =
    ap (λ (f : Ask → ℕ). sum_by f (flat_map asks_of script)) (λ j ask. bytes_of_ask plan n m row script here ask j)
    ∙ sym (ap (logged_share_by plan m) (initiator_at plan n row script here there))

-- what is counted for an initiator is its share
pub share_is : (plan : Plan) (n m : ℕ) (row : InitiatorRow) (script : List Operation) → slice_get plan.platform.initiators n ≡ Some row → slice_get plan.scripts n ≡ Some script
    → share_in plan.platform n m (count_in plan.platform n script m) ≡ pair_share plan m n
share_is plan n m row script here there =
    let entries = entries_are plan n m row script here there in
    let bytes = bytes_are plan n m row script here there in
    λ j. record { entries = entries j; logged = bytes j }

some_at : {X : Type 0} (xs : List X) (n : ℕ) → n < length xs → (x : X) × (slice_get xs n ≡ Some x)
some_at [] n lt = absurd (omega arith)
some_at (x ∷ xs) zero lt = (x, refl)
some_at (x ∷ xs) (suc n) lt = some_at xs n (omega arith)

-- the same at each place, where the script is read
pub shares_counted : (plan : Plan) (n : ℕ) (script : List Operation) → n < length plan.platform.initiators → n < length plan.scripts → script ≡ get_or plan.scripts n script
    → script_shares plan.platform n script ≡ initiator_shares plan n
shares_counted plan n script lt below at =
    let found = some_at plan.platform.initiators n lt in
    let there = slice_get_read plan.scripts (length plan.scripts) n script refl below at in
    ap (λ (f : ℕ → Share). map f (range_with_len 0 (object_count plan.platform))) (λ j k. share_is plan n k found.0 script found.1 there j)

-- each place has a count
pub place_within : (p : Platform) (n k : ℕ) (script : List Operation) (counts : List Count) → counts ≡ counts_of p n script → k < object_count p → k < length counts
place_within p n k script counts all lt =
    let long = ap length all ∙ length-map-range_with_len (count_in p n script) 0 (object_count p) in
    omega (arith, long, lt)

-- and few entries are counted there
pub few_within : (p : Platform) (n k : ℕ) (script : List Operation) (counts : List Count) (count : Count) → All (λ (count : Count). count.entries ≤ 1638400000) counts → counts ≡ counts_of p n script → k < object_count p
    → count ≡ get_or counts k count → count.entries ≤ 1638400000
few_within p n k script counts count few all lt at =
    subst (λ (count : Count). count.entries ≤ 1638400000) (sym at) (All-get_or (λ (count : Count). count.entries ≤ 1638400000) counts k count (place_within p n k script counts all lt) few)

-- the share of what is counted at a place
pub share_of_count : (p : Platform) (n k : ℕ) (script : List Operation) (counts : List Count) (count : Count) → counts ≡ counts_of p n script → k < object_count p → count ≡ get_or counts k count
    → share_in p n k count ≡ share_in p n k (count_in p n script k)
share_of_count p n k script counts count all lt at =
    let here : count ≡ count_in p n script k =
    at ∙ ap (λ (xs : List Count). get_or xs k count) all ∙ get_or-map-range_with_len (count_in p n script) 0 (object_count p) k k count lt (zero-add k) in
    ap (share_in p n k) here

-- the shares of each initiator have all places
pub rows_reach : (plan : Plan) (rows : List (List Share)) (k : ℕ) → rows ≡ shares_by_initiator plan → k < object_count plan.platform → All (λ row. k < length row) rows
rows_reach plan rows k same lt =
    let initiators = range_with_len 0 (length plan.platform.initiators) in
    let long : (n : ℕ) → k < length (initiator_shares plan n) = λ n. let count = length-map-range_with_len (λ k. pair_share plan k n) 0 (object_count plan.platform) in omega (arith, count) in
    subst (All (λ (row : List Share). k < length row)) (sym same)
    (All-map (λ (row : List Share). k < length row) (initiator_shares plan) initiators (All-from_get_or (λ n. k < length (initiator_shares plan n)) initiators 0 (λ i lt. long (get_or initiators i 0))))

map-again : {X Y Z : Type 0} (f : Y → Z) (g : X → Y) (xs : List X) → map f (map g xs) ≡ map (λ x. f (g x)) xs
map-again f g [] = refl
map-again f g (x ∷ xs) = ap (λ ys. f (g x) ∷ ys) (map-again f g xs)

-- what stands there are the shares of that object
pub object_by_rows : (plan : Plan) (rows : List (List Share)) (k : ℕ) (shares : List Share) → rows ≡ shares_by_initiator plan → k < object_count plan.platform → shares ≡ map (λ row. get_or row k no_share) rows → shares ≡ object_shares plan k
unfolding object_shares
object_by_rows plan rows k shares same lt read =
    let initiators = range_with_len 0 (length plan.platform.initiators) in
    let at : (n : ℕ) → get_or (initiator_shares plan n) k no_share ≡ pair_share plan k n = λ n. get_or-map-range_with_len (λ k. pair_share plan k n) 0 (object_count plan.platform) k k no_share lt (zero-add k) in
    read ∙ ap (map (λ (row : List Share). get_or row k no_share)) same ∙ map-again (λ (row : List Share). get_or row k no_share) (initiator_shares plan) initiators ∙ ap (λ (f : ℕ → Share). map f initiators) (λ j n. at n j)
