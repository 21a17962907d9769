-- The objects of a platform at their places.
use Rattle.std.proofs.Common.{◌≡◌, ℕ, zero, suc, ◌+◌, ◌-◌, ◌<◌, Bool, length, sum_by, nat_lt, ⊎_elim, refl, sym, ap, ◌∙◌, zero-add, arith}
use Rattle.std.specs.Prelude.{if◌then◌else◌}
use Rattle.std.specs.List.{range_with_len}
use Rattle.std.proofs.lemmas.Bool.{cases_lt, le-ltb, lt-ltb}
use Rattle.std.proofs.lemmas.List.Sums.{sum_by-cons}
use Rattle.tlm_types.specs.declared.words.ObjectNo.{ObjectNo}
use Rattle.tlm_types.specs.declared.words.ObjectNo.TheVariants.{Memory, Hop, Pool}
use Rattle.tlm_model.specs.declared.platform.Platform.{Platform}
use Rattle.route_plan.specs.Places.{object_at, object_count, object_place}
use Rattle.route_plan.specs.Valid.{IsObject, hop_count}

-- the object at a place of the hops and pools
abbrev past_memories : Platform → ℕ → ObjectNo
past_memories p k = if nat_lt k (length p.memories + hop_count p) then Hop (k - length p.memories) else Pool (k - (length p.memories + hop_count p))

pub memory_at : (p : Platform) (k : ℕ) → k < length p.memories → object_at p k ≡ Memory k
memory_at p k lt = ap (λ (b : Bool). if b then Memory k else past_memories p k) (lt-ltb k (length p.memories) lt)

pub hop_at : (p : Platform) (h : ℕ) → h < hop_count p → object_at p (length p.memories + h) ≡ Hop h
hop_at p h lt =
    let m : ℕ = length p.memories in
    let own : m + h - m ≡ h = omega arith in
    ap (λ (b : Bool). if b then Memory (m + h) else past_memories p (m + h)) (le-ltb (m + h) m (omega arith))
    ∙ ap (λ (b : Bool). if b then Hop (m + h - m) else Pool (m + h - (m + hop_count p))) (lt-ltb (m + h) (m + hop_count p) (omega arith)) ∙ ap Hop own

pub pool_at : (p : Platform) (n : ℕ) → object_at p (length p.memories + hop_count p + n) ≡ Pool n
pool_at p n =
    let m : ℕ = length p.memories in
    let k : ℕ = m + hop_count p + n in
    let own : k - (m + hop_count p) ≡ n = omega arith in
    ap (λ (b : Bool). if b then Memory k else past_memories p k) (le-ltb k m (omega arith))
    ∙ ap (λ (b : Bool). if b then Hop (k - m) else Pool (k - (m + hop_count p))) (le-ltb k (m + hop_count p) (omega arith)) ∙ ap Pool own

-- the object at its place
pub object_of_place : (p : Platform) (o : ObjectNo) → IsObject p o → object_at p (object_place p o) ≡ o
object_of_place p (Memory m) there = memory_at p m there
object_of_place p (Hop h) there = hop_at p h there
object_of_place p (Pool n) there = pool_at p n

pub place_there : (p : Platform) (o : ObjectNo) → IsObject p o → object_place p o < object_count p
place_there p (Memory m) there = omega (arith, there)
place_there p (Hop h) there = omega (arith, there)
place_there p (Pool n) there = omega (arith, there)

-- what stands at a place: a memory, a hop or a pool
pub data IsPlace (p : Platform) (k : ℕ) : Type 0 where
  of_memory : k < length p.memories → IsPlace p k
  of_hop : (h : ℕ) → h < hop_count p → k ≡ length p.memories + h → IsPlace p k
  of_pool : (n : ℕ) → k ≡ length p.memories + hop_count p + n → IsPlace p k

pub place_is : (p : Platform) (k : ℕ) → IsPlace p k
place_is p k =
    ⊎_elim of_memory
    (λ past. ⊎_elim
    (λ lt. of_hop (k - length p.memories) (omega (arith, past, lt)) (omega (arith, past)))
    (λ le. of_pool (k - (length p.memories + hop_count p)) (omega (arith, le)))
    (cases_lt k (length p.memories + hop_count p)))
    (cases_lt k (length p.memories))

-- sums over numbers from one on, and over all from 0 on
pub shifted : (g h : ℕ → ℕ) → ((k : ℕ) → g (k + 1) ≡ h k) → (a n : ℕ) → sum_by g (range_with_len (a + 1) n) ≡ sum_by h (range_with_len a n)
shifted g h e a zero = refl
shifted g h e a (suc n) =
    sum_by-cons g (a + 1) (range_with_len (a + 1 + 1) n) ∙ ap (λ s. g (a + 1) + s) (shifted g h e (a + 1) n) ∙ ap (λ s. s + sum_by h (range_with_len (a + 1) n)) (e a)
    ∙ sym (sum_by-cons h a (range_with_len (a + 1) n))

pub sum_range : (f g : ℕ → ℕ) (a n : ℕ) → ((k : ℕ) → k < n → f (a + k) ≡ g k) → sum_by f (range_with_len a n) ≡ sum_by g (range_with_len 0 n)
sum_range f g a zero same = refl
sum_range f g a (suc n) same =
    let start : a ≡ a + 0 = omega arith in
    let on : (k : ℕ) → a + 1 + k ≡ a + (k + 1) = λ k. omega arith in
    let first : f a ≡ g 0 = ap f start ∙ same 0 (omega arith) in
    let rest : sum_by f (range_with_len (a + 1) n) ≡ sum_by (λ k. g (k + 1)) (range_with_len 0 n) = sum_range f (λ k. g (k + 1)) (a + 1) n (λ k lt. ap f (on k) ∙ same (k + 1) (omega (arith, lt))) in
    sum_by-cons f a (range_with_len (a + 1) n) ∙ ap (λ s. f a + s) (rest ∙ sym (shifted g (λ k. g (k + 1)) (λ k. refl) 0 n)) ∙ ap (λ s. s + sum_by g (range_with_len (0 + 1) n)) first
    ∙ sym (sum_by-cons g 0 (range_with_len (0 + 1) n))

pub sum_split : (f : ℕ → ℕ) (a m n : ℕ) → sum_by f (range_with_len a (m + n)) ≡ sum_by f (range_with_len a m) + sum_by f (range_with_len (a + m) n)
sum_split f a zero n =
    let start : a ≡ a + 0 = omega arith in
    ap (λ k. sum_by f (range_with_len a k)) (zero-add n) ∙ ap (λ b. sum_by f (range_with_len b n)) start ∙ sym (zero-add (sum_by f (range_with_len (a + 0) n)))
sum_split f a (suc m) n =
    let count : suc m + n ≡ suc (m + n) = omega arith in
    let start : a + 1 + m ≡ a + suc m = omega arith in
    let left : ℕ = sum_by f (range_with_len (a + 1) m) in
    let right : ℕ = sum_by f (range_with_len (a + suc m) n) in
    let rest : sum_by f (range_with_len (a + 1) (m + n)) ≡ left + right = sum_split f (a + 1) m n ∙ ap (λ b. left + sum_by f (range_with_len b n)) start in
    let three : f a + (left + right) ≡ f a + left + right = omega arith in
    ap (λ k. sum_by f (range_with_len a k)) count ∙ sum_by-cons f a (range_with_len (a + 1) (m + n)) ∙ ap (λ s. f a + s) rest ∙ three
    ∙ ap (λ s. s + right) (sym (sum_by-cons f a (range_with_len (a + 1) m)))

-- a sum over all places is one over the memories, one over the hops and one over the pools
pub sum_places : (p : Platform) (f g h i : ℕ → ℕ) → ((k : ℕ) → k < length p.memories → f k ≡ g k) → ((k : ℕ) → k < hop_count p → f (length p.memories + k) ≡ h k)
    → ((k : ℕ) → k < length p.initiators → f (length p.memories + hop_count p + k) ≡ i k)
    → sum_by f (range_with_len 0 (object_count p)) ≡ sum_by g (range_with_len 0 (length p.memories)) + sum_by h (range_with_len 0 (hop_count p)) + sum_by i (range_with_len 0 (length p.initiators))
sum_places p f g h i memories hops pools =
    let m : ℕ = length p.memories in
    let n : ℕ = hop_count p in
    let first : sum_by f (range_with_len 0 m) ≡ sum_by g (range_with_len 0 m) = sum_range f g 0 m (λ k lt. ap f (zero-add k) ∙ memories k lt) in
    let second : sum_by f (range_with_len (0 + m) n) ≡ sum_by h (range_with_len 0 n) = ap (λ a. sum_by f (range_with_len a n)) (zero-add m) ∙ sum_range f h m n hops in
    let third : sum_by f (range_with_len (0 + (m + n)) (length p.initiators)) ≡ sum_by i (range_with_len 0 (length p.initiators)) =
    ap (λ a. sum_by f (range_with_len a (length p.initiators))) (zero-add (m + n)) ∙ sum_range f i (m + n) (length p.initiators) pools in
    sum_split f 0 (m + n) (length p.initiators) ∙ ap (λ s. s + sum_by f (range_with_len (0 + (m + n)) (length p.initiators))) (sum_split f 0 m n)
    ∙ omega (arith, first, second, third)
