-- What all initiators of a plan add up to, and its limits.
use Rattle.std.proofs.Common.{◌≡◌, ℕ, ◌+◌, ◌*◌, ◌<◌, ◌≤◌, Bool, false, List, [], ◌∷◌, length, get_or, sum_by, Option, Some, slice_get, nat_lt, Result, Ok, Err, refl, sym, ap, subst, ◌∙◌, add-one, mul-zero, zero-add, arith}
use Rattle.std.specs.Prelude.{codes, if◌then◌else◌}
use Rattle.std.specs.List.{range_with_len}
use Rattle.std.proofs.lemmas.Bool.{ltb-false}
use Rattle.std.proofs.lemmas.List.Folds.{fold-map}
use Rattle.std.proofs.lemmas.List.FromFn.{get_or-map-range_with_len, get_or-range_with_len, length-map-range_with_len, length-range_with_len}
use Rattle.std.proofs.lemmas.List.Sums.{get_or-le-sum_by, sum_by-cons}
use Rattle.platform_model.specs.declared.fault.PlatformCode.TheVariants.{TooManyEntries, TooMuchData}
use Rattle.platform_model.specs.declared.fault.PlatformFault.{PlatformFault}
use Rattle.platform_model.specs.declared.fault.PlatformFault.TheVariants as fault
use Rattle.platform_model.specs.declared.place.Place.TheVariants as place
use Rattle.platform_model.specs.Reading.{Fails, PlatformRefusal, refusal}
use Rattle.tlm_types.specs.Reading.{◌>>=◌}
use Rattle.platform_model.proofs.ReadLemmas.{unless_ok}
use Rattle.tlm_types.specs.declared.words.ObjectNo.{ObjectNo}
use Rattle.tlm_types.specs.declared.words.ObjectNo.TheVariants.{Memory, Hop, Pool}
use Rattle.tlm_model.specs.declared.operation.Operation.{Operation}
use Rattle.tlm_model.specs.declared.platform.Platform.{Platform}
use Rattle.tlm_model.specs.declared.ask.Ask.{Ask}
use Rattle.tlm_model.specs.declared.ask.Ask.TheVariants.{Access as AnAccess, DebugRead as ADebugRead, Invalidation as AnInvalidation}
use Rattle.tlm_model.specs.Plan.{Plan, Initiator, initiators_of}
use Rattle.platform_shape.specs.Paths.{once}
use Rattle.route_plan.specs.declared.shares.Share.{Share}
use Rattle.route_plan.specs.Counted.{logged_share_at, logged_share_by, share_at, share_by}
use Rattle.route_plan.specs.Places.{object_at, object_count}
use Rattle.route_plan.specs.Planned.{asks_in, is_routed_to, logged_at, logged_bytes, logged_share, planned_at}
use Rattle.route_plan.specs.Shares.{checked_shares, entries_in, logged_in, object_shares, pair_share, shares_of, with_scripts}
use Rattle.route_plan.specs.Valid.{IsObject, checked_plan, hop_count, logged_in_all, most_entries, most_logged, planned, planned_in_all}
use Rattle.route_plan.proofs.PlaceLemmas.{hop_at, memory_at, pool_at, shifted, sum_places}
use Rattle.route_plan.proofs.ShareLemmas.{count_initiators}
use Rattle.route_plan.proofs.WayLemmas.{none_in, walk_within}

-- a sum over the numbers of elements is one over the elements
by_number : {X : Type 0} (f : Option X → ℕ) (xs : List X) → sum_by (λ k. f (slice_get xs k)) (range_with_len 0 (length xs)) ≡ sum_by (λ x. f (Some x)) xs
by_number f [] = refl
by_number f (x ∷ xs) =
    let g : ℕ → ℕ = λ k. f (slice_get (x ∷ xs) k) in
    let h : ℕ → ℕ = λ k. f (slice_get xs k) in
    sum_by-cons g 0 (range_with_len 1 (length xs)) ∙ ap (λ s. f (Some x) + s) (shifted g h (λ k. ap g (add-one k)) 0 (length xs) ∙ by_number f xs) ∙ sym (sum_by-cons (λ y. f (Some y)) x xs)

-- the shares of an object add up
pub shares_add_up : (plan : Plan) (o : ObjectNo) → length plan.scripts ≡ length plan.platform.initiators
    → sum_by (λ n. share_at plan n o) (range_with_len 0 (length plan.platform.initiators)) ≡ planned_at plan o
unfolding planned_at
shares_add_up plan o same =
    ap (λ k. sum_by (λ n. share_at plan n o) (range_with_len 0 k)) (sym (count_initiators 0 plan.platform.initiators plan.scripts same)) ∙ by_number (share_by plan o) (initiators_of plan)

pub bytes_add_up : (plan : Plan) (m : ℕ) → length plan.scripts ≡ length plan.platform.initiators
    → sum_by (λ n. logged_share_at plan n m) (range_with_len 0 (length plan.platform.initiators)) ≡ logged_bytes plan m
unfolding logged_bytes
bytes_add_up plan m same =
    ap (λ k. sum_by (λ n. logged_share_at plan n m) (range_with_len 0 k)) (sym (count_initiators 0 plan.platform.initiators plan.scripts same)) ∙ by_number (logged_share_by plan m) (initiators_of plan)

pub entries_at : (plan : Plan) (k : ℕ) → length plan.scripts ≡ length plan.platform.initiators → entries_in (object_shares plan k) ≡ planned_at plan (object_at plan.platform k)
unfolding object_shares
entries_at plan k same =
    fold-map (λ (a : ℕ) (s : Share). a + s.entries) (pair_share plan k) 0 (range_with_len 0 (length plan.platform.initiators)) ∙ shares_add_up plan (object_at plan.platform k) same

pub bytes_at : (plan : Plan) (k : ℕ) → length plan.scripts ≡ length plan.platform.initiators → logged_in (object_shares plan k) ≡ logged_bytes plan k
unfolding object_shares
bytes_at plan k same =
    fold-map (λ (a : ℕ) (s : Share). a + s.logged) (pair_share plan k) 0 (range_with_len 0 (length plan.platform.initiators)) ∙ bytes_add_up plan k same

-- no bytes are logged past the memories
no_bytes : (plan : Plan) (k : ℕ) → length plan.platform.memories ≤ k → logged_bytes plan k ≡ 0
unfolding logged_bytes logged_share
no_bytes plan k past = none_in (λ i. logged_share plan i k) (λ i. none_in (logged_at plan i k) (of_ask i) (asks_in i)) (initiators_of plan)
  where
    not_routed : (i : Initiator) (a b : ℕ) → b * once (is_routed_to plan i k a) ≡ 0
    not_routed i a b = let no : is_routed_to plan i k a ≡ false = (walk_within 9 plan.platform i.row.bind a 0).end k past in ap (λ (r : Bool). b * once r) no ∙ mul-zero b

    of_ask : (i : Initiator) (ask : Ask) → logged_at plan i k ask ≡ 0
    of_ask i (AnAccess a b) = not_routed i a b
    of_ask i (ADebugRead a b) = not_routed i a b
    of_ask i (AnInvalidation a) = refl

-- the shares of all objects add up to what is planned in all
entries_of_all : (plan : Plan) → length plan.scripts ≡ length plan.platform.initiators → sum_by entries_in (shares_of plan) ≡ planned_in_all plan
unfolding shares_of planned_in_all
entries_of_all plan same =
    let p = plan.platform in
    let places = range_with_len 0 (object_count p) in
    fold-map (λ (a : ℕ) (s : List Share). a + entries_in s) (object_shares plan) 0 places ∙ ap (λ (f : ℕ → ℕ). sum_by f places) (λ j k. entries_at plan k same j)
    ∙ sum_places p (λ k. planned_at plan (object_at p k)) (λ m. planned_at plan (Memory m)) (λ h. planned_at plan (Hop h)) (λ i. planned_at plan (Pool i)) (λ m lt. ap (planned_at plan) (memory_at p m lt))
    (λ h lt. ap (planned_at plan) (hop_at p h lt)) (λ i lt. ap (planned_at plan) (pool_at p i))

bytes_of_all : (plan : Plan) → length plan.scripts ≡ length plan.platform.initiators → sum_by logged_in (shares_of plan) ≡ logged_in_all plan
unfolding shares_of logged_in_all
bytes_of_all plan same =
    let p = plan.platform in
    let places = range_with_len 0 (object_count p) in
    let all : sum_by (logged_bytes plan) places ≡ sum_by (λ m. logged_bytes plan m) (range_with_len 0 (length p.memories)) + sum_by (λ h. 0) (range_with_len 0 (hop_count p)) + sum_by (λ i. 0) (range_with_len 0 (length p.initiators)) =
    sum_places p (logged_bytes plan) (λ m. logged_bytes plan m) (λ h. 0) (λ i. 0) (λ m lt. refl) (λ h lt. no_bytes plan (length p.memories + h) (omega arith))
    (λ i lt. no_bytes plan (length p.memories + hop_count p + i) (omega arith)) in
    fold-map (λ (a : ℕ) (s : List Share). a + logged_in s) (object_shares plan) 0 places ∙ ap (λ (f : ℕ → ℕ). sum_by f places) (λ j k. bytes_at plan k same j)
    ∙ omega (arith, all, none_in (λ (h : ℕ). 0) (λ h. refl) (range_with_len 0 (hop_count p)), none_in (λ (i : ℕ). 0) (λ i. refl) (range_with_len 0 (length p.initiators)))

abbrev checked_counts : ℕ → ℕ → Result (Unit {0}) PlatformRefusal
checked_counts entries bytes =
    if nat_lt most_entries entries then Err (refusal TooManyEntries place.Top (codes "-")) else if nat_lt most_logged bytes then Err (refusal TooMuchData place.Top (codes "-")) else Ok tt

-- the limits of a plan are those of its shares
pub checked_is : (plan : Plan) → length plan.scripts ≡ length plan.platform.initiators → checked_shares (shares_of plan) ≡ checked_plan plan
unfolding checked_shares checked_plan
checked_is plan same = ap (λ n. checked_counts n (sum_by logged_in (shares_of plan))) (entries_of_all plan same) ∙ ap (checked_counts (planned_in_all plan)) (bytes_of_all plan same)

pub limits_by_shares : (p : Platform) (scripts : List (List Operation)) (kept seen : List (List Share)) → length scripts ≡ length p.initiators → kept ≡ shares_of (with_scripts p scripts) → seen ≡ kept
    → checked_shares seen ≡ checked_plan (with_scripts p scripts)
limits_by_shares p scripts kept seen same counted at = ap checked_shares (at ∙ counted) ∙ checked_is (with_scripts p scripts) same

-- the answer of a plan whose counts are tested
pub planned_ok : (plan : Plan) → checked_plan plan ≡ Ok tt → planned plan ≡ Ok plan
unfolding planned
planned_ok plan h = ap (λ (r : Result (Unit {0}) PlatformRefusal). r >>= λ _. Ok plan) h

pub planned_fails : (f : PlatformFault) (plan : Plan) → Fails f (checked_plan plan) → Fails f (planned plan)
unfolding planned
planned_fails fault.Memory plan h = tt
planned_fails (fault.Refused code table key) plan h = ap (λ (r : Result (Unit {0}) PlatformRefusal). r >>= λ _. Ok plan) h

pub few_in_all : (plan : Plan) → checked_plan plan ≡ Ok tt → (planned_in_all plan ≤ 1000000) × (logged_in_all plan ≤ 67108864)
unfolding checked_plan
few_in_all plan h =
    let p = unless_ok (nat_lt most_entries (planned_in_all plan)) _ _ tt h in
    let q = unless_ok (nat_lt most_logged (logged_in_all plan)) _ _ tt p.1 in
    (ltb-false 1000000 (planned_in_all plan) p.0, ltb-false 67108864 (logged_in_all plan) q.0)

part_le : (f : ℕ → ℕ) (n k : ℕ) → k < n → f k ≤ sum_by f (range_with_len 0 n)
part_le f n k lt =
    let at : get_or (range_with_len 0 n) k 0 ≡ k = get_or-range_with_len 0 n k 0 lt ∙ zero-add k in
    let within : k < length (range_with_len 0 n) = omega (arith, length-range_with_len 0 n) in
    subst (λ (j : ℕ). f j ≤ sum_by f (range_with_len 0 n)) at (get_or-le-sum_by f (range_with_len 0 n) k 0 within)

object_le : (plan : Plan) (o : ObjectNo) → IsObject plan.platform o → planned_at plan o ≤ planned_in_all plan
unfolding planned_in_all
object_le plan (Memory m) there = omega (arith, part_le (λ m. planned_at plan (Memory m)) (length plan.platform.memories) m there)
object_le plan (Hop h) there = omega (arith, part_le (λ h. planned_at plan (Hop h)) (hop_count plan.platform) h there)
object_le plan (Pool n) there = omega (arith, part_le (λ i. planned_at plan (Pool i)) (length plan.platform.initiators) n there)

pub few_entries : (plan : Plan) (o : ObjectNo) → checked_plan plan ≡ Ok tt → IsObject plan.platform o → planned_at plan o ≤ 1000000
few_entries plan o limits there = omega (arith, object_le plan o there, (few_in_all plan limits).0)

pub few_bytes : (plan : Plan) (m : ℕ) → checked_plan plan ≡ Ok tt → m < length plan.platform.memories → logged_bytes plan m ≤ 67108864
unfolding logged_in_all
few_bytes plan m limits there = omega (arith, part_le (λ m. logged_bytes plan m) (length plan.platform.memories) m there, (few_in_all plan limits).1)

pub share_le : (plan : Plan) (n : ℕ) (o : ObjectNo) → length plan.scripts ≡ length plan.platform.initiators → n < length plan.platform.initiators → share_at plan n o ≤ planned_at plan o
share_le plan n o same lt = omega (arith, part_le (λ n. share_at plan n o) (length plan.platform.initiators) n lt, shares_add_up plan o same)

pub bytes_le : (plan : Plan) (n m : ℕ) → length plan.scripts ≡ length plan.platform.initiators → n < length plan.platform.initiators → logged_share_at plan n m ≤ logged_bytes plan m
bytes_le plan n m same lt = omega (arith, part_le (λ n. logged_share_at plan n m) (length plan.platform.initiators) n lt, bytes_add_up plan m same)

-- what is kept
pub count_objects : (plan : Plan) → length (shares_of plan) ≡ object_count plan.platform
unfolding shares_of
count_objects plan = length-map-range_with_len (object_shares plan) 0 (object_count plan.platform)

pub count_shares : (plan : Plan) (k : ℕ) → length (object_shares plan k) ≡ length plan.platform.initiators
unfolding object_shares
count_shares plan k = length-map-range_with_len (pair_share plan k) 0 (length plan.platform.initiators)

pub object_kept : (plan : Plan) (kept : List (List Share)) (k : ℕ) (row : List Share) → kept ≡ shares_of plan → k < object_count plan.platform → row ≡ get_or kept k row → row ≡ object_shares plan k
unfolding shares_of
object_kept plan kept k row same lt at =
    at ∙ ap (λ (rows : List (List Share)). get_or rows k row) same ∙ get_or-map-range_with_len (object_shares plan) 0 (object_count plan.platform) k k row lt (zero-add k)

pub share_kept : (plan : Plan) (k n : ℕ) (d : Share) → n < length plan.platform.initiators → get_or (object_shares plan k) n d ≡ pair_share plan k n
unfolding object_shares
share_kept plan k n d lt = get_or-map-range_with_len (pair_share plan k) 0 (length plan.platform.initiators) n n d lt (zero-add n)
