-- The objects of a plan are there, are few, and have few planned entries.
use Rattle.std.proofs.Common.{◌≡◌, ℕ, ◌+◌, ◌<◌, ◌≤◌, Bool, cond, append_assoc, not, List, [], ◌∷◌, ◌++◌, length, map, take, get_or, sum, sum_by, Some, slice_get, refl, sym, ap, subst, ◌∙◌, zero-add, arith, length-append}
use Rattle.std.specs.Prelude.{All, Ok}
use Rattle.std.specs.List.{filter, range_with_len}
use Rattle.std.proofs.lemmas.List.{length-map, take_more, take_all, get_or-map, get_or_append_left, length-take}
use Rattle.std.proofs.lemmas.List.Elements.{All-append, All-filter, All-map}
use Rattle.std.proofs.lemmas.List.Filters.{length-filter_both, sum_by-filter_both}
use Rattle.std.proofs.lemmas.List.FromFn.{filter_of_map_range_with_len_more, get_or-range_with_len, length-range_with_len, map-range_with_len_more}
use Rattle.std.proofs.lemmas.List.Sums.{sum_by-append, sum_by-cons, sum-map}
use Rattle.tlm_types.specs.declared.words.ObjectNo.{ObjectNo}
use Rattle.tlm_types.specs.declared.words.ObjectNo.TheVariants.{Memory, Hop, Pool}
use Rattle.tlm_model.specs.declared.platform.InitiatorRow.{InitiatorRow}
use Rattle.tlm_model.specs.declared.platform.MemoryRow.{MemoryRow}
use Rattle.tlm_model.specs.declared.platform.Platform.{Platform}
use Rattle.tlm_model.specs.declared.platform.RouterRow.{RouterRow}
use Rattle.tlm_model.specs.Plan.{Plan}
use Rattle.platform_model.specs.Bounded.{IsBounded}
use Rattle.route_plan.specs.Planned.{planned_at}
use Rattle.route_plan.specs.Valid.{IsObject, checked_plan, hop_count, planned_in_all}
use Rattle.route_plan.proofs.NumberLemmas.{window_hop-le}
use Rattle.route_plan.proofs.TotalLemmas.{few_in_all}
use Rattle.cargo_model.specs.Known.{has_pool, is_used, objects_of, row_has_pool}
use Rattle.cargo_net.specs.Gates.{gates_at, gates_of, row_gates}
use Rattle.plat_net.specs.Objects.{HasObject, planned_of, pools_of}
use Rattle.plat_net.proofs.Lookups.{short_at}
use Rattle.std.proofs.lemmas.Option.{get_or_from_slice_get}

below_range : (n : ℕ) → All (λ k. k < n) (range_with_len 0 n)
below_range n i d within =
    let below : i < n = omega (arith, within, length-range_with_len 0 n) in
    subst (λ (k : ℕ). k < n) (sym (get_or-range_with_len 0 n i d below)) (omega arith)

-- each object of the history is one of the plan
pub all_there : (p : Platform) → All (IsObject p) (objects_of p)
unfolding objects_of
all_there p =
    let P : ObjectNo → Type 0 = λ o. IsObject p o in
    let memories = range_with_len 0 (length p.memories) in
    let hops = range_with_len 0 (hop_count p) in
    let pools = range_with_len 0 (length p.initiators) in
    All-append P (map Memory memories ++ map Hop hops) (pools_of p (length p.initiators))
    (All-append P (map Memory memories) (map Hop hops) (All-map P Memory memories (below_range (length p.memories))) (All-map P Hop hops (below_range (hop_count p))))
    (All-filter (is_used p) P (map Pool pools) (All-map P Pool pools (below_range (length p.initiators))))

-- the object of a number is one of the plan
pub object_there : (p : Platform) (k : ℕ) (o : ObjectNo) → HasObject p k o → IsObject p o
object_there p k o at = subst (IsObject p) (get_or_from_slice_get (objects_of p) k o o at) (all_there p k o (short_at (objects_of p) k o at))

pub few_hops : (p : Platform) → IsBounded p → hop_count p ≤ 288
few_hops p h =
    let f : RouterRow → ℕ = λ row. length row.windows in
    let n : ℕ = length p.routers in
    let whole : sum_by f (take n p.routers) ≡ sum_by f p.routers = ap (sum_by f) (take_all n p.routers (omega arith)) in
    let bound = window_hop-le p n h in
    omega (arith, bound, whole, length-take n p.routers, h.router_count)

pub count_of : (p : Platform) → length (objects_of p) ≡ length p.memories + hop_count p + length (pools_of p (length p.initiators))
unfolding objects_of
count_of p =
    let m = map Memory (range_with_len 0 (length p.memories)) in
    let h = map Hop (range_with_len 0 (hop_count p)) in
    let mh : length m ≡ length p.memories = length-map (range_with_len 0 (length p.memories)) Memory ∙ length-range_with_len 0 (length p.memories) in
    let hh : length h ≡ hop_count p = length-map (range_with_len 0 (hop_count p)) Hop ∙ length-range_with_len 0 (hop_count p) in
    length-append (m ++ h) (pools_of p (length p.initiators)) ∙ ap (λ (k : ℕ). k + length (pools_of p (length p.initiators))) (length-append m h ∙ ap (λ (k : ℕ). k + length h) mh ∙ ap (λ (k : ℕ). length p.memories + k) hh)

few_pools : (p : Platform) → length (pools_of p (length p.initiators)) ≤ length p.initiators
few_pools p =
    let pools = map Pool (range_with_len 0 (length p.initiators)) in
    let both = length-filter_both (is_used p) (λ o. not (is_used p o)) (λ o. refl) pools in
    let all : length pools ≡ length p.initiators = length-map (range_with_len 0 (length p.initiators)) Pool ∙ length-range_with_len 0 (length p.initiators) in
    omega (arith, both, all)

-- there are few objects, and all memories are among them
pub few_objects : (p : Platform) → IsBounded p → length (objects_of p) ≤ 336
few_objects p h = omega (arith, count_of p, few_hops p h, few_pools p, h.memory_count, h.initiator_count)

pub more_objects : (p : Platform) → length p.memories ≤ length (objects_of p)
more_objects p = omega (arith, count_of p)

pub sum_by-map : {X Y : Type 0} (f : Y → ℕ) (g : X → Y) (xs : List X) → sum_by f (map g xs) ≡ sum_by (λ x. f (g x)) xs
sum_by-map f g [] = refl
sum_by-map f g (x ∷ xs) = omega (arith, sum_by-cons f (g x) (map g xs), sum_by-cons (λ x. f (g x)) x xs, sum_by-map f g xs)

-- the planned entries of all objects are no more than those of the plan
pub few_planned : (p : Plan) → checked_plan p ≡ Ok tt → sum (planned_of p) ≤ 1000000
unfolding objects_of planned_of planned_in_all
few_planned p limits =
    let f : ObjectNo → ℕ = λ o. planned_at p o in
    let m = range_with_len 0 (length p.platform.memories) in
    let h = range_with_len 0 (hop_count p.platform) in
    let i = range_with_len 0 (length p.platform.initiators) in
    let all = (few_in_all p limits).0 in
    let pools = sum_by-filter_both (is_used p.platform) (λ o. not (is_used p.platform o)) (λ o. refl) f (map Pool i) in
    omega (
      arith,
      all,
      pools,
      sum-map f (map Memory m ++ map Hop h ++ filter (is_used p.platform) (map Pool i)),
      sum_by-append f (map Memory m ++ map Hop h) (filter (is_used p.platform) (map Pool i)),
      sum_by-append f (map Memory m) (map Hop h),
      sum_by-map f Memory m,
      sum_by-map f Hop h,
      sum_by-map f Pool i,
    )

-- at a memory's place stands the memory
pub memory_at : (p : Platform) (m : ℕ) (d : ObjectNo) → m < length p.memories → get_or (objects_of p) m d ≡ Memory m
unfolding objects_of
memory_at p m d below =
    let r = range_with_len 0 (length p.memories) in
    let ms = map Memory r in
    let hs = map Hop (range_with_len 0 (hop_count p)) in
    let ps = pools_of p (length p.initiators) in
    let count : m < length r = omega (arith, length-range_with_len 0 (length p.memories)) in
    let more : m < length ms = omega (arith, length-map r Memory, count) in
    let most : m < length (ms ++ hs) = omega (arith, length-append ms hs, more) in
    get_or_append_left (ms ++ hs) ps d m most
    ∙ (get_or_append_left ms hs d m more
    ∙ (get_or-map Memory r m 0 d count
    ∙ ap Memory (get_or-range_with_len 0 (length p.memories) m 0 below ∙ zero-add m)))

number_at : (p : Platform) (f : ObjectNo → ℕ) (m : ℕ) → m < length p.memories → get_or (map f (objects_of p)) m 0 ≡ f (Memory m)
number_at p f m below =
    let within : m < length (objects_of p) = omega (arith, more_objects p) in
    get_or-map f (objects_of p) m (Memory m) 0 within ∙ ap f (memory_at p m (Memory m) below)

-- what is planned of the object of a number
pub planned_at_object : (p : Plan) (k : ℕ) (o : ObjectNo) → HasObject p.platform k o → get_or (planned_of p) k 0 ≡ planned_at p o
unfolding planned_of
planned_at_object p k o at =
    get_or-map (planned_at p) (objects_of p.platform) k o 0 (short_at (objects_of p.platform) k o at) ∙ ap (planned_at p) (get_or_from_slice_get (objects_of p.platform) k o o at)

-- the number at a memory's place
pub planned_at_memory : (p : Plan) (m : ℕ) → m < length p.platform.memories → get_or (planned_of p) m 0 ≡ planned_at p (Memory m)
unfolding planned_of
planned_at_memory p m below = number_at p.platform (λ o. planned_at p o) m below

pub gates_at_memory : (p : Platform) (m : ℕ) → m < length p.memories → get_or (gates_of p) m 0 ≡ gates_at p (Memory m)
unfolding gates_of
gates_at_memory p m below = number_at p (λ o. gates_at p o) m below

pub gates_at_object : (p : Platform) (k : ℕ) (o : ObjectNo) → HasObject p k o → get_or (gates_of p) k 0 ≡ gates_at p o
unfolding gates_of
gates_at_object p k o at = get_or-map (gates_at p) (objects_of p) k o 0 (short_at (objects_of p) k o at) ∙ ap (gates_at p) (get_or_from_slice_get (objects_of p) k o o at)

pub count_gates : (p : Platform) → length (gates_of p) ≡ length (objects_of p)
unfolding gates_of
count_gates p = length-map (objects_of p) (gates_at p)

pub count_planned : (p : Plan) → length (planned_of p) ≡ length (objects_of p.platform)
unfolding planned_of
count_planned p = length-map (objects_of p.platform) (planned_at p)

-- the first gate after those of one memory more
pub gates_more : (p : Platform) (m : ℕ) (row : MemoryRow) → slice_get p.memories m ≡ Some row → m < length p.memories → sum (take (m + 1) (gates_of p)) ≡ sum (take m (gates_of p)) + row.traits.gates
gates_more p m row is below =
    let gates = gates_of p in
    let within : m < length gates = omega (arith, count_gates p, more_objects p) in
    let here : get_or gates m 0 ≡ row.traits.gates = gates_at_memory p m below ∙ ap row_gates is in
    let more : sum (take (m + 1) gates) ≡ sum (take m gates ++ get_or gates m 0 ∷ []) = ap sum (take_more gates m 0 within) in
    omega (arith, more, here, sum_by-append (λ (x : ℕ). x) (take m gates) (get_or gates m 0 ∷ []), sum_by-cons (λ (x : ℕ). x) (get_or gates m 0) [])

-- one object more
pub pushed_more : (f : ℕ → ObjectNo) (front xs ys : List ObjectNo) (n : ℕ) → xs ≡ front ++ map f (range_with_len 0 n) → ys ≡ xs ++ f n ∷ [] → ys ≡ front ++ map f (range_with_len 0 (n + 1))
pushed_more f front xs ys n so_far pushed =
    pushed
    ∙ (ap (λ (l : List ObjectNo). l ++ f n ∷ []) so_far
    ∙ (append_assoc front (map f (range_with_len 0 n)) (f n ∷ [])
    ∙ ap (λ (l : List ObjectNo). front ++ l) (sym (map-range_with_len_more f 0 n n (zero-add n)))))

-- an initiator has a pool by its style
pub pool_at : (p : Platform) (n : ℕ) (row : InitiatorRow) → slice_get p.initiators n ≡ Some row → is_used p (Pool n) ≡ has_pool row.style
pool_at p n row at = ap row_has_pool at

-- one pool more, if the initiator has one
pub pools_more : (p : Platform) (front xs ys : List ObjectNo) (n : ℕ) (row : InitiatorRow) → slice_get p.initiators n ≡ Some row → xs ≡ front ++ pools_of p n → ys ≡ xs ++ cond (has_pool row.style) (Pool n ∷ []) [] → ys ≡ front ++ pools_of p (n + 1)
pools_more p front xs ys n row at so_far pushed =
    let more : List ObjectNo = cond (has_pool row.style) (Pool n ∷ []) [] in
    let one : cond (is_used p (Pool n)) (Pool n ∷ []) [] ≡ more = ap (λ (b : Bool). cond b (Pool n ∷ []) []) (pool_at p n row at) in
    let all : pools_of p (n + 1) ≡ pools_of p n ++ more =
    filter_of_map_range_with_len_more (is_used p) Pool 0 n n (zero-add n) ∙ ap (λ (l : List ObjectNo). pools_of p n ++ l) one in
    pushed
    ∙ (ap (λ (l : List ObjectNo). l ++ more) so_far
    ∙ (append_assoc front (pools_of p n) more
    ∙ ap (λ (l : List ObjectNo). front ++ l) (sym all)))
