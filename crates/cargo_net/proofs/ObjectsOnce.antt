-- No object stands at two places of the history's objects.
use Rattle.std.proofs.Common.{◌≡◌, ℕ, zero, suc, ◌+◌, ◌≤◌, cond, not, List, [], ◌∷◌, ◌++◌, length, get_or, map, Bool, true, false, Some, refl, sym, ◌∙◌, ap, arith, subst}
use Rattle.std.specs.Prelude.{slice_get, sum_by}
use Rattle.std.specs.List.{filter, position_or_len, range_with_len}
use Rattle.tlm_types.specs.declared.words.ObjectNo.{ObjectNo}
use Rattle.tlm_types.specs.declared.words.ObjectNo.TheVariants.{Memory, Hop, Pool}
use Rattle.tlm_model.specs.declared.platform.Platform.{Platform}
use Rattle.tlm_model.specs.declared.platform.RouterRow.{RouterRow}
use Rattle.tlm_model.specs.History.{is_object}
use Rattle.cargo_model.proofs.Origins.{is_self, is_that}
use Rattle.cargo_model.specs.Known.{is_used, object_number, objects_of}

one_more : (n : ℕ) → 1 + n ≡ suc n
one_more n = omega arith

-- Objects in an order: memories, then hops, then pools, each by their numbers.
module _ (memories hops : ℕ) where
  abbrev order_of : ObjectNo → ℕ
  order_of (Memory m) = m
  order_of (Hop h) = memories + h
  order_of (Pool n) = (memories + hops) + n

  -- they rise from one place on, and end before another
  abbrev Rises : ℕ → ℕ → List ObjectNo → Type 0
  Rises from to [] = from ≤ to
  Rises from to (o ∷ os) = (from ≤ order_of o) × Rises (order_of o + 1) to os

  from_before : (b from to : ℕ) (os : List ObjectNo) → b ≤ from → Rises from to os → Rises b to os
  from_before b from to [] l r = omega (arith, l, r)
  from_before b from to (o ∷ os) l r = (let m = r.0 in omega (arith, l, m), r.1)

  rises_on : (from mid to : ℕ) (xs ys : List ObjectNo) → Rises from mid xs → Rises mid to ys → Rises from to (xs ++ ys)
  rises_on from mid to [] ys r s = from_before from mid to ys r s
  rises_on from mid to (x ∷ xs) ys r s = (r.0, rises_on (order_of x + 1) mid to xs ys r.1 s)

  rises_some : (P : ObjectNo → Bool) (from to : ℕ) (xs : List ObjectNo) → Rises from to xs → Rises from to (filter P xs)
  rises_some P from to [] r = r
  rises_some P from to (x ∷ xs) r = go (P x) r.0 (rises_some P (order_of x + 1) to xs r.1)
    where
      go : (b : Bool) → from ≤ order_of x → Rises (order_of x + 1) to (filter P xs) → Rises from to (cond b (x ∷ filter P xs) (filter P xs))
      go true l s = (l, s)
      go false l s = from_before from (order_of x + 1) to (filter P xs) (omega (arith, l)) s

  rises_range : (f : ℕ → ObjectNo) (c : ℕ) → ((n : ℕ) → order_of (f n) ≡ c + n) → (n a : ℕ) → Rises (c + a) (c + (a + n)) (map f (range_with_len a n))
  rises_range f c at zero a = omega arith
  rises_range f c at (suc n) a =
      let q = at a in
      let r = rises_range f c at n (a + 1) in
      let from : order_of (f a) + 1 ≤ c + (a + 1) = omega (arith, q) in
      let to : c + ((a + 1) + n) ≡ c + (a + suc n) = omega arith in
      (omega (arith, q), from_before (order_of (f a) + 1) (c + (a + 1)) (c + (a + suc n)) _ from (subst (λ (e : ℕ). Rises (c + (a + 1)) e (map f (range_with_len (a + 1) n))) to r))

  above : (from to : ℕ) (os : List ObjectNo) (i : ℕ) (o : ObjectNo) → Rises from to os → slice_get os i ≡ Some o → from ≤ order_of o
  above from to [] i o r q = cc
  above from to (z ∷ os) zero o r q = subst (λ (y : ObjectNo). from ≤ order_of y) (same z o q) r.0
    where
      same : (a b : ObjectNo) → Some a ≡ Some b → a ≡ b
      same a b e = cc
  above from to (z ∷ os) (suc i) o r q = let l = above (order_of z + 1) to os i o r.1 q in let m = r.0 in omega (arith, l, m)

  -- an object stands where it is found first
  once : (from to : ℕ) (os : List ObjectNo) (i : ℕ) (o : ObjectNo) → Rises from to os → slice_get os i ≡ Some o → i ≡ position_or_len (is_object o) os
  once from to [] i o r q = cc
  once from to (z ∷ os) zero o r q = sym (ap (λ (b : Bool). cond (not b) (1 + position_or_len (is_object o) os) 0) (ap (is_object o) (same z o q) ∙ is_self o))
    where
      same : (a b : ObjectNo) → Some a ≡ Some b → a ≡ b
      same a b e = cc
  once from to (z ∷ os) (suc i) o r q = go (once (order_of z + 1) to os i o r.1 q) (is_object o z) refl
    where
      go : i ≡ position_or_len (is_object o) os → (b : Bool) → is_object o z ≡ b → suc i ≡ cond (not (is_object o z)) (1 + position_or_len (is_object o) os) 0
      go rest true e = let l = above (order_of z + 1) to os i o r.1 q in let m = ap order_of (is_that o z e) in absurd (omega (arith, l, m))
      go rest false e =
          sym (one_more i) ∙ ap (λ (n : ℕ). 1 + n) rest ∙ sym (ap (λ (b : Bool). cond (not b) (1 + position_or_len (is_object o) os) 0) e)

-- what is read at a place beyond the last is the default
read_some : (os : List ObjectNo) (i : ℕ) (o d : ObjectNo) → get_or os i d ≡ o → ¬ (d ≡ o) → slice_get os i ≡ Some o
read_some [] i o d q n = absurd (n q)
read_some (z ∷ os) zero o d q n = ap (λ (y : ObjectNo). Some y) q
read_some (z ∷ os) (suc i) o d q n = read_some os i o d q n

module _ (p : Platform) where
  abbrev hop_total : ℕ
  hop_total = length p.initiators + sum_by (λ (r : RouterRow). length r.windows) p.routers

  all_rise : Rises (length p.memories) hop_total 0 ((length p.memories + hop_total) + (0 + length p.initiators)) (objects_of p)
  unfolding objects_of
  all_rise =
      rises_on (length p.memories) hop_total 0 (length p.memories + (0 + hop_total)) ((length p.memories + hop_total) + (0 + length p.initiators)) _ _
      (rises_on (length p.memories) hop_total 0 (0 + (0 + length p.memories)) (length p.memories + (0 + hop_total)) (map Memory (range_with_len 0 (length p.memories))) (map Hop (range_with_len 0 hop_total))
      (rises_range (length p.memories) hop_total Memory 0 (λ n. omega arith) (length p.memories) 0)
      (from_before (length p.memories) hop_total (0 + (0 + length p.memories)) (length p.memories + 0) (length p.memories + (0 + hop_total)) (map Hop (range_with_len 0 hop_total)) (omega arith)
      (rises_range (length p.memories) hop_total Hop (length p.memories) (λ n. refl) hop_total 0)))
      (from_before (length p.memories) hop_total (length p.memories + (0 + hop_total)) ((length p.memories + hop_total) + 0) ((length p.memories + hop_total) + (0 + length p.initiators)) (filter (is_used p) (map Pool (range_with_len 0 (length p.initiators)))) (omega arith)
      (rises_some (length p.memories) hop_total (is_used p) ((length p.memories + hop_total) + 0) ((length p.memories + hop_total) + (0 + length p.initiators)) (map Pool (range_with_len 0 (length p.initiators)))
      (rises_range (length p.memories) hop_total Pool (length p.memories + hop_total) (λ n. refl) (length p.initiators) 0)))

  -- an object stands at its number alone
  pub stands_once : (i : ℕ) (o : ObjectNo) → slice_get (objects_of p) i ≡ Some o → i ≡ object_number p o
  stands_once i o q = once (length p.memories) hop_total 0 ((length p.memories + hop_total) + (0 + length p.initiators)) (objects_of p) i o all_rise q

  -- where a pool is read, that is its number
  pub pool_number : (i n : ℕ) → get_or (objects_of p) i (Hop 0) ≡ Pool n → i ≡ object_number p (Pool n)
  pool_number i n q = stands_once i (Pool n) (read_some (objects_of p) i (Pool n) (Hop 0) q no_hop)
    where
      no_hop : ¬ (Hop 0 ≡ Pool n)
      no_hop e = cc
