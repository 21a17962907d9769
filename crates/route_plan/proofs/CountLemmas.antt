-- What is counted of scripts.
use Rattle.std.proofs.Common.{◌≡◌, ℕ, zero, suc, ◌+◌, ◌-◌, ◌*◌, ◌<◌, ◌≤◌, Bool, true, false, List, [], ◌∷◌, ◌++◌, length, take, replicate, get_or, sum_by, Option, Some, None, slice_get, refl, sym, ap, subst, ◌∙◌, zero-add, append_assoc, length-append, add-mul, arith}
use Rattle.std.specs.List.{All, flat_map, range_with_len, AllByRecursion}
use Rattle.std.proofs.lemmas.Grind.{common_steps, flat_map-append}
use Rattle.std.proofs.lemmas.List.{take_more, append-nil, ext_get_or, get_or-replicate, length-replicate}
use Rattle.std.proofs.lemmas.List.Elements.{All-from_get_or, All-map}
use Rattle.std.proofs.lemmas.List.FromFn.{get_or-map-range_with_len, length-map-range_with_len}
use Rattle.std.proofs.lemmas.List.Sums.{sum_by-append, sum_by-cons}
use Rattle.tlm_model.specs.declared.operation.Operation.{Operation}
use Rattle.tlm_model.specs.declared.platform.InitiatorRow.{InitiatorRow}
use Rattle.tlm_model.specs.declared.platform.Platform.{Platform}
use Rattle.tlm_model.specs.declared.ask.Ask.{Ask}
use Rattle.tlm_model.specs.declared.ask.Ask.TheVariants.{Access as AnAccess, DebugRead as ADebugRead, Invalidation as AnInvalidation}
use Rattle.tlm_model.specs.Actions.{asks_of}
use Rattle.tlm_model.specs.Route.{Walk}
use Rattle.traffic_script.specs.declared.piece.Piece.{Piece}
use Rattle.traffic_script.specs.Pieces.{repeated, written_out}
use Rattle.traffic_script.specs.Proper.{IsProper, AreProper}
use Rattle.platform_shape.specs.Paths.{once}
use Rattle.platform_shape.specs.Shape.{IsShape}
use Rattle.route_plan.specs.declared.counts.Count.{Count}
use Rattle.route_plan.specs.declared.step.Step.{Step}
use Rattle.route_plan.specs.Counted.{Counted, added_by_hop, added_by_hops, counted_in, counted_of, is_led_to, passed_at, passed_by}
use Rattle.route_plan.specs.Counted.Counted.{Entries, Logged, Invalidations}
use Rattle.route_plan.specs.Counts.{AreMore, capped, count_in, counts_of, entries_only, kept_at, no_count, counted_number}
use Rattle.route_plan.specs.Places.{object_count}
use Rattle.route_plan.specs.Routes.{bound_walk, next_step, walk_on}
use Rattle.route_plan.proofs.StepLemmas.{few_hops_at, step_taken, stopped_hops}
use Rattle.route_plan.proofs.WayLemmas.{few_added, fourphase_le}

-- what is counted of operations, one after another
abbrev total : (Ask → ℕ) → List Operation → ℕ
total f operations = sum_by f (flat_map asks_of operations)

total-append : (f : Ask → ℕ) (xs ys : List Operation) → total f (xs ++ ys) ≡ total f xs + total f ys
total-append f xs ys = ap (sum_by f) (flat_map-append asks_of xs ys) ∙ sum_by-append f (flat_map asks_of xs) (flat_map asks_of ys)

total-one : (f : Ask → ℕ) (x : Operation) → total f (x ∷ []) ≡ sum_by f (asks_of x)
total-one f x = ap (sum_by f) (append-nil (asks_of x))

-- one operation more
pub total_more : (f : Ask → ℕ) (xs : List Operation) (i : ℕ) (x : Operation) → i < length xs → x ≡ get_or xs i x → total f (take (i + 1) xs) ≡ total f (take i xs) + sum_by f (asks_of x)
total_more f xs i x below at =
    ap (total f) (take_more xs i x below ∙ ap (λ y. take i xs ++ y ∷ []) (sym at)) ∙ total-append f (take i xs) (x ∷ []) ∙ ap (λ k. total f (take i xs) + k) (total-one f x)

-- so many rounds
total-repeated : (f : Ask → ℕ) (n : ℕ) (xs : List Operation) → total f (repeated n xs) ≡ total f xs * n
total-repeated f zero xs = grind arith
total-repeated f (suc n) xs = let rest = total-repeated f n xs in let both = total-append f xs (repeated n xs) in grind (arith, rest, both)

written-push : (pieces : List Piece) (p : Piece) → written_out (pieces ++ p ∷ []) ≡ written_out pieces ++ repeated p.times p.operations
written-push [] p = append-nil (repeated p.times p.operations)
written-push (q ∷ pieces) p =
    ap (λ ops. repeated q.times q.operations ++ ops) (written-push pieces p) ∙ sym (append_assoc (repeated q.times q.operations) (written_out pieces) (repeated p.times p.operations))

written_more : (pieces : List Piece) (i : ℕ) (p : Piece) → i < length pieces → p ≡ get_or pieces i p → written_out (take (i + 1) pieces) ≡ written_out (take i pieces) ++ repeated p.times p.operations
written_more pieces i p below at =
    ap written_out (take_more pieces i p below ∙ ap (λ (q : Piece). take i pieces ++ q ∷ []) (sym at)) ∙ written-push (take i pieces) p

-- parts of proper operations
each-front : (xs ys : List Operation) → AllByRecursion IsProper (xs ++ ys) → AllByRecursion IsProper xs
each-front [] ys h = tt
each-front (x ∷ xs) ys h = (h.0, each-front xs ys h.1)

each-back : (xs ys : List Operation) → AllByRecursion IsProper (xs ++ ys) → AllByRecursion IsProper ys
each-back [] ys h = h
each-back (x ∷ xs) ys h = each-back xs ys h.1

proper-front : (xs ys : List Operation) → AreProper (xs ++ ys) → AreProper xs
proper-front xs ys h = record { few = omega (arith, h.few, length-append xs ys); each = each-front xs ys h.each }

proper-back : (xs ys : List Operation) → AreProper (xs ++ ys) → AreProper ys
proper-back xs ys h = record { few = omega (arith, h.few, length-append xs ys); each = each-back xs ys h.each }

proper_round : (n : ℕ) (xs : List Operation) → 0 < n → AreProper (repeated n xs) → AreProper xs
proper_round zero xs some h = absurd (omega arith)
proper_round (suc n) xs some h = proper-front xs (repeated n xs) h

proper_pieces : (pieces : List Piece) (i : ℕ) (p : Piece) → i < length pieces → p ≡ get_or pieces i p → AreProper (written_out pieces) → AreProper (repeated p.times p.operations)
proper_pieces [] i p below at h = absurd (omega arith)
proper_pieces (q ∷ pieces) zero p below at h = rw at (proper-front (repeated q.times q.operations) (written_out pieces) h)
proper_pieces (q ∷ pieces) (suc i) p below at h = proper_pieces pieces i p (omega arith) at (proper-back (repeated q.times q.operations) (written_out pieces) h)

-- the operations of each piece of proper pieces are proper
pub proper_piece : (pieces : List Piece) (i : ℕ) (p : Piece) (operations : List Operation) → i < length pieces → p ≡ get_or pieces i p → AreProper (written_out pieces) → operations ≡ p.operations → AllByRecursion IsProper operations
proper_piece pieces i p operations below at h same =
    subst (AllByRecursion IsProper) (sym same) (proper_round p.times p.operations p.repeated (proper_pieces pieces i p below at h)).each

-- one piece more, which is counted once
pub pieces_more : (f : Ask → ℕ) (pieces : List Piece) (i : ℕ) (p : Piece) → i < length pieces → p ≡ get_or pieces i p → total f (written_out (take (i + 1) pieces)) ≡ total f (written_out (take i pieces)) + total f p.operations * p.times
pieces_more f pieces i p below at =
    ap (total f) (written_more pieces i p below at) ∙ total-append f (written_out (take i pieces)) (repeated p.times p.operations)
    ∙ ap (λ k. total f (written_out (take i pieces)) + k) (total-repeated f p.times p.operations)

-- one is added, and then the other
pub both_more : (f g h : Counted → ℕ → ℕ) (before between after : List Count) → length between ≡ length before → ((c : Counted) (m : ℕ) → h c m ≡ f c m + g c m) → AreMore f before between → AreMore g between after → AreMore h before after
both_more f g h before between after same sum first next c m lt =
    let here = sum c m in let a = first c m lt in let b = next c m (omega (arith, same)) in omega (arith, here, a, b)

-- what hops add, of a count of entries
abbrev pub hops_add : Platform → ℕ → ℕ → List ℕ → Counted → ℕ → ℕ
hops_add p n times hops c k = entries_only c (sum_by (added_by_hop p n k) hops) * times

-- so much of all is still to be counted
abbrev pub AreLeft : (Counted → ℕ → ℕ) → (Counted → ℕ → ℕ) → List Count → List Count → Type 0
AreLeft left all before now = (c : Counted) (k : ℕ) → k < length before → capped (kept_at now c k + left c k) ≡ capped (kept_at before c k + all c k)

pub all_left : (p : Platform) (n times : ℕ) (all first : List ℕ) (before : List Count) → all ≡ first → AreLeft (hops_add p n times first) (hops_add p n times all) before before
all_left p n times all first before same c k lt = ap (λ (hops : List ℕ). capped (kept_at before c k + hops_add p n times hops c k)) (sym same)

hop_more : (c : Counted) (x y times : ℕ) → entries_only c (x + y) * times ≡ entries_only c x * times + entries_only c y * times
hop_more Entries x y times = grind arith
hop_more Logged x y times = grind arith
hop_more Invalidations x y times = grind arith

-- one hop fewer is left
pub hop_counted : (p : Platform) (n times h : ℕ) (rest all : List ℕ) (before now next : List Count) → length now ≡ length before → AreLeft (hops_add p n times (h ∷ rest)) (hops_add p n times all) before now
    → AreMore (λ c k. entries_only c (added_by_hop p n k h) * times) now next → AreLeft (hops_add p n times rest) (hops_add p n times all) before next
hop_counted p n times h rest all before now next same left more c k lt =
    let sum : hops_add p n times (h ∷ rest) c k ≡ entries_only c (added_by_hop p n k h) * times + hops_add p n times rest c k =
    ap (λ s. entries_only c s * times) (sum_by-cons (added_by_hop p n k) h rest) ∙ hop_more c (added_by_hop p n k h) (sum_by (added_by_hop p n k) rest) times in
    counted (kept_at next c k) (kept_at now c k) (entries_only c (added_by_hop p n k h) * times) (hops_add p n times rest c k) (hops_add p n times (h ∷ rest) c k) (capped (kept_at before c k + hops_add p n times all c k)) sum
    (more c k (omega (arith, same, lt))) (left c k lt)
  where
    counted : (next now one rest both whole : ℕ) → both ≡ one + rest → capped next ≡ capped (now + one) → capped (now + both) ≡ whole → capped (next + rest) ≡ whole
    counted next now one rest both whole sum more left = omega (arith, sum, more, left)

-- the hops of a walk, a step at a time
hops_on : (p : Platform) (passed : ℕ) (s s' : Step) → passed < 9 → next_step p s ≡ Some s' → (walk_on (9 - passed) p s).hops ≡ s'.hop ∷ (walk_on (9 - (passed + 1)) p s').hops
hops_on p passed s s' below next =
    let left : 9 - passed ≡ suc (9 - (passed + 1)) = omega arith in
    ap (λ k. (walk_on k p s).hops) left ∙ ap (λ (w : Walk). w.hops) (step_taken (9 - (passed + 1)) p s s' next)

pub hops_end : (p : Platform) (passed : ℕ) (s : Step) → passed < 9 → next_step p s ≡ None → (walk_on (9 - passed) p s).hops ≡ []
hops_end p passed s below next =
    let left : 9 - passed ≡ suc (9 - (passed + 1)) = omega arith in
    ap (λ k. (walk_on k p s).hops) left ∙ stopped_hops (9 - (passed + 1)) p s next

-- one hop more was passed
pub hop_passed : (p : Platform) (passed all : ℕ) (s s' : Step) → passed < 9 → next_step p s ≡ Some s' → all ≡ passed + length (s.hop ∷ (walk_on (9 - passed) p s).hops)
    → all ≡ passed + 1 + length (s'.hop ∷ (walk_on (9 - (passed + 1)) p s').hops)
hop_passed p passed all s s' below next so_far = omega (arith, so_far, ap length (hops_on p passed s s' below next))

pub hop_on : (p : Platform) (n times passed : ℕ) (s s' : Step) (all : List ℕ) (before now next : List Count) → passed < 9 → next_step p s ≡ Some s' → length now ≡ length before
    → AreLeft (hops_add p n times (s.hop ∷ (walk_on (9 - passed) p s).hops)) (hops_add p n times all) before now → AreMore (λ c k. entries_only c (added_by_hop p n k s.hop) * times) now next
    → AreLeft (hops_add p n times (s'.hop ∷ (walk_on (9 - (passed + 1)) p s').hops)) (hops_add p n times all) before next
hop_on p n times passed s s' all before now next below on same left more =
    subst (λ (rest : List ℕ). AreLeft (hops_add p n times rest) (hops_add p n times all) before next) (hops_on p passed s s' below on)
    (hop_counted p n times s.hop (walk_on (9 - passed) p s).hops all before now next same left more)

nothing_added : (c : Counted) (times : ℕ) → entries_only c 0 * times ≡ 0
nothing_added Entries times = omega arith
nothing_added Logged times = omega arith
nothing_added Invalidations times = omega arith

-- nothing is left
pub none_left : (p : Platform) (n times : ℕ) (rest all : List ℕ) (before now : List Count) → rest ≡ [] → AreLeft (hops_add p n times rest) (hops_add p n times all) before now → AreMore (hops_add p n times all) before now
none_left p n times rest all before now none left c k lt =
    let nothing : hops_add p n times rest c k ≡ 0 = ap (λ (hops : List ℕ). hops_add p n times hops c k) none ∙ nothing_added c times in
    let here = left c k lt in
    omega (arith, nothing, here)

-- an access is counted where it leads, and on its way
pub access_both : (c : Counted) (p : Platform) (n k a b times : ℕ) → counted_of c p n k (AnAccess a b) * times ≡ counted_of c p n k (ADebugRead a b) * times + entries_only c (passed_at p n k a) * times
access_both Entries p n k a b times = add-mul (once (is_led_to p n k a)) (passed_at p n k a) times
access_both Logged p n k a b times = omega arith
access_both Invalidations p n k a b times = omega arith

-- what is counted of a script is far from the greatest number
once_le : (k : ℕ) (b : Bool) → k * once b ≤ k
once_le k true = omega arith
once_le k false = omega arith

-- the hops of each access are few
abbrev AreFew : Platform → ℕ → Type 0
AreFew p n = (a : ℕ) → length (bound_walk p n a).hops ≤ 9

passed_le : (o : Option InitiatorRow) (x : ℕ) → passed_by o x ≤ x
passed_le None x = omega arith
passed_le (Some row) x = fourphase_le row.style x

way_le : (p : Platform) (n k a : ℕ) → AreFew p n → passed_at p n k a ≤ 64
way_le p n k a few =
    omega (arith, passed_le (slice_get p.initiators n) (added_by_hops p n k (bound_walk p n a).hops), few_added p n k (bound_walk p n a).hops (few a))

debug_le : (c : Counted) (p : Platform) (n k a b : ℕ) → b ≤ 8192 → counted_of c p n k (ADebugRead a b) ≤ 8192
debug_le Entries p n k a b le = omega (arith, once_le 1 (is_led_to p n k a))
debug_le Logged p n k a b le = omega (arith, once_le b (is_led_to p n k a))
debug_le Invalidations p n k a b le = omega arith

access_le : (c : Counted) (p : Platform) (n k a b : ℕ) → AreFew p n → b ≤ 8192 → counted_of c p n k (AnAccess a b) ≤ 8192
access_le Entries p n k a b few le = omega (arith, once_le 1 (is_led_to p n k a), way_le p n k a few)
access_le Logged p n k a b few le = debug_le Logged p n k a b le
access_le Invalidations p n k a b few le = omega arith

invalidation_le : (c : Counted) (p : Platform) (n k a : ℕ) → counted_of c p n k (AnInvalidation a) ≤ 8192
invalidation_le Entries p n k a = omega (arith, once_le 1 (is_led_to p n k a))
invalidation_le Logged p n k a = omega arith
invalidation_le Invalidations p n k a = omega (arith, once_le 1 (is_led_to p n k a))

operation_le : (c : Counted) (p : Platform) (n k : ℕ) (x : Operation) → AreFew p n → IsProper x → sum_by (counted_of c p n k) (asks_of x) ≤ 16384
operation_le c p n k x few h =
    let access : (a b : ℕ) → b ≤ 8192 → counted_of c p n k (AnAccess a b) ≤ 8192 = λ a b le. access_le c p n k a b few le in
    grind (arith, common_steps, access, debug_le, invalidation_le)

total_le : (c : Counted) (p : Platform) (n k : ℕ) (xs : List Operation) → AreFew p n → AllByRecursion IsProper xs → counted_in c p n k xs ≤ 16384 * length xs
total_le c p n k [] few h = omega arith
total_le c p n k (x ∷ xs) few h =
    let sum : counted_in c p n k (x ∷ xs) ≡ sum_by (counted_of c p n k) (asks_of x) + counted_in c p n k xs = sum_by-append (counted_of c p n k) (asks_of x) (flat_map asks_of xs) in
    omega (arith, sum, operation_le c p n k x few h.0, total_le c p n k xs few h.1)

script_le : (c : Counted) (p : Platform) (n k : ℕ) (script : List Operation) → AreFew p n → AreProper script → counted_in c p n k script ≤ 1638400000
script_le c p n k script few h = omega (arith, total_le c p n k script few h.each, h.few)

-- what was added to nothing is what is counted
counted_at : (p : Platform) (n k : ℕ) (script : List Operation) (before after : List Count) (c : Counted) → AreFew p n → AreProper script → get_or before k no_count ≡ no_count → k < length before
    → AreMore (λ c k. counted_in c p n k script) before after → kept_at after c k ≡ counted_in c p n k script
counted_at p n k script before after c few proper none lt all =
    let start : kept_at before c k ≡ counted_number c no_count = ap (counted_number c) none in
    let zero_there : counted_number c no_count ≡ 0 = nothing c in
    let here = all c k lt in
    let below = script_le c p n k script few proper in
    omega (arith, start, zero_there, here, below)
  where
    nothing : (c : Counted) → counted_number c no_count ≡ 0
    nothing Entries = refl
    nothing Logged = refl
    nothing Invalidations = refl

pub all_counted : (p : Platform) (n places : ℕ) (script : List Operation) (before after : List Count) → IsShape p → AreProper script → places ≡ object_count p → before ≡ replicate places no_count → length after ≡ length before
    → AreMore (λ c k. counted_in c p n k script) before after → after ≡ counts_of p n script
all_counted p n places script before after shape proper count none same all =
    let few : AreFew p n = λ a. few_hops_at p n a shape in
    let long : length before ≡ object_count p = ap length none ∙ length-replicate places no_count ∙ count in
    let at : (k : ℕ) → k < length after → get_or after k no_count ≡ count_in p n script k = λ k lt.
    let empty : get_or before k no_count ≡ no_count = ap (λ (xs : List Count). get_or xs k no_count) none ∙ get_or-replicate places k no_count no_count (omega (arith, long, same, count)) in
    let counted = λ (c : Counted). counted_at p n k script before after c few proper empty (omega (arith, same)) all in
    λ j. record { entries = counted Entries j; logged = counted Logged j; invalidations = counted Invalidations j } in
    ext_get_or no_count after (counts_of p n script) (same ∙ long ∙ sym (length-map-range_with_len (count_in p n script) 0 (object_count p)))
    (λ k lt. at k lt ∙ sym (get_or-map-range_with_len (count_in p n script) 0 (object_count p) k k no_count (omega (arith, same, long)) (zero-add k)))

-- the entries that are counted are few
pub few_counted : (p : Platform) (n : ℕ) (script : List Operation) (counts : List Count) → IsShape p → AreProper script → counts ≡ counts_of p n script → All (λ (count : Count). count.entries ≤ 1638400000) counts
few_counted p n script counts shape proper same =
    subst (All (λ (count : Count). count.entries ≤ 1638400000)) (sym same)
    (All-map (λ (count : Count). count.entries ≤ 1638400000) (count_in p n script) (range_with_len 0 (object_count p))
    (All-from_get_or (λ k. counted_in Entries p n k script ≤ 1638400000) (range_with_len 0 (object_count p)) 0
    (λ i lt. script_le Entries p n (get_or (range_with_len 0 (object_count p)) i 0) script (λ a. few_hops_at p n a shape) proper)))
