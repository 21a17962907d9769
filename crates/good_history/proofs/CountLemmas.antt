-- Own lists that are as many as the whole list has are all of it.
use Rattle.std.proofs.Common.{◌≡◌, ◌⊎◌, ℕ, zero, suc, ◌+◌, ◌<◌, Bool, true, false, cond, List, [], ◌∷◌, ◌++◌, length, refl, sym, ap, ◌∙◌, subst, inl, inr, ⊎_elim, arith, length-append}
use Rattle.std.specs.List.{filter}
use mathlib.Core.Option.{some, some-injective}
use Rattle.view_lists.specs.Lists.{AreDistinct, Has, Within}
use Rattle.view_lists.proofs.Distinct.{within-distinct}
use Rattle.view_lists.proofs.Members.{has_either, has_later, has_none}
use Rattle.good_history.specs.Counting.{AreAll, IsRising, lengths_of}

module _ {A : Type 0} where
  -- an item of a list is its first or one of the others
  pub has_first : (x : A) (xs : List A) (y : A) → Has (x ∷ xs) y → (x ≡ y) ⊎ Has xs y
  has_first x xs y (zero, e) = inl (some-injective x y e)
  has_first x xs y (suc k, e) = inr (k, e)

  AreDistinct-append : (xs ys : List A) → AreDistinct xs → AreDistinct ys → ((z : A) → Has xs z → Has ys z → ⊥) → AreDistinct (xs ++ ys)
  AreDistinct-append [] ys first second apart = second
  AreDistinct-append (x ∷ xs) ys first second apart = (
    λ has. ⊎_elim (λ (l : Has xs x). first.0 l) (λ (r : Has ys x). apart x (0, refl) r) (has_either xs ys x has),
    AreDistinct-append xs ys first.1 second (λ z l r. apart z (has_later x xs z l) r),
  )

  module _ (position : A → ℕ) where
    pub IsRising-distinct : (xs : List A) → IsRising position xs → AreDistinct xs
    IsRising-distinct [] rising = tt
    IsRising-distinct (x ∷ xs) rising = (λ has. let late = rising.0 x has in omega arith, IsRising-distinct xs rising.1)

    -- one more item, past all others
    pub IsRising-push : (xs : List A) (y : A) → IsRising position xs → ((x : A) → Has xs x → position x < position y) → IsRising position (xs ++ y ∷ [])
    IsRising-push [] y rising past = (λ z has. absurd (has_none z has), tt)
    IsRising-push (x ∷ xs) y rising past = (
      λ z has. ⊎_elim (λ (l : Has xs z). rising.0 z l) (λ (r : Has (y ∷ []) z). ⊎_elim (λ (same : y ≡ z). subst (λ (w : A). position x < position w) same (past x (0, refl))) (λ (none : Has [] z). absurd (has_none z none)) (has_first y [] z r)) (has_either xs (y ∷ []) z has),
      IsRising-push xs y rising.1 (λ z has. past z (has_later x xs z has)),
    )

    rest_within : (x : A) (xs ys : List A) → IsRising position (x ∷ xs) → Within (x ∷ xs) (x ∷ ys) → Within xs ys
    rest_within x xs ys rising within z has =
        ⊎_elim
        (λ (same : x ≡ z). let late = rising.0 z has in let here : position x ≡ position z = ap position same in absurd (omega arith))
        (λ (other : Has ys z). other)
        (has_first x ys z (within z (has_later x xs z has)))

    -- two lists that rise and have the same items are the same
    pub rising_same : (xs ys : List A) → IsRising position xs → IsRising position ys → Within xs ys → Within ys xs → xs ≡ ys
    rising_same [] [] first second to back = refl
    rising_same [] (y ∷ ys) first second to back = absurd (has_none y (back y (0, refl)))
    rising_same (x ∷ xs) [] first second to back = absurd (has_none x (to x (0, refl)))
    rising_same (x ∷ xs) (y ∷ ys) first second to back =
        let same : x ≡ y = head (has_first y ys x (to x (0, refl))) (has_first x xs y (back y (0, refl))) in
        let second' : IsRising position (x ∷ ys) = subst (λ (z : A). IsRising position (z ∷ ys)) (sym same) second in
        let to' : Within (x ∷ xs) (x ∷ ys) = subst (λ (z : A). Within (x ∷ xs) (z ∷ ys)) (sym same) to in
        let back' : Within (x ∷ ys) (x ∷ xs) = subst (λ (z : A). Within (z ∷ ys) (x ∷ xs)) (sym same) back in
        ap (λ (l : List A). x ∷ l) (rising_same xs ys first.1 second.1 (rest_within x xs ys first to') (rest_within x ys xs second' back')) ∙ ap (λ (z : A). z ∷ ys) same
      where
        head : (y ≡ x) ⊎ Has ys x → (x ≡ y) ⊎ Has xs y → x ≡ y
        head (inl is) other = sym is
        head (inr late) (inl is) = is
        head (inr late) (inr early) = let a = second.0 x late in let b = first.0 y early in absurd (omega arith)

    module _ (owner : A → ℕ) (mine : ℕ → List A) where
      -- the items of the first n owners
      all_of : ℕ → List A
      all_of zero = []
      all_of (suc n) = all_of n ++ mine n

      length-all_of : (n : ℕ) → length (all_of n) ≡ lengths_of mine n
      unfolding all_of
      length-all_of zero = refl
      length-all_of (suc n) = length-append (all_of n) (mine n) ∙ ap (λ (k : ℕ). k + length (mine n)) (length-all_of n)

      record HasOwner (n : ℕ) (x : A) : Type 0 where
        pub number : ℕ
        pub below : number < n
        pub has : Has (mine number) x

      has_owner : (n : ℕ) (x : A) → Has (all_of n) x → HasOwner n x
      unfolding all_of
      has_owner zero x has = absurd (has_none x has)
      has_owner (suc n) x has =
          ⊎_elim
          (λ (early : Has (all_of n) x). let o = has_owner n x early in record { number = o.number; below = (let b = o.below in omega arith); has = o.has })
          (λ (last : Has (mine n) x). record { number = n; below = omega arith; has = last })
          (has_either (all_of n) (mine n) x has)

      distinct_all : (n : ℕ) → ((k : ℕ) → k < n → IsRising position (mine k)) → ((k : ℕ) (x : A) → k < n → Has (mine k) x → owner x ≡ k) → AreDistinct (all_of n)
      unfolding all_of
      distinct_all zero rising own = tt
      distinct_all (suc n) rising own =
          AreDistinct-append (all_of n) (mine n)
          (distinct_all n (λ k less. rising k (omega arith)) (λ k x less has. own k x (omega arith) has))
          (IsRising-distinct (mine n) (rising n (omega arith)))
          (λ z early last.
          let o = has_owner n z early in
          let b = o.below in
          let first : owner z ≡ o.number = own o.number z (omega arith) o.has in
          let second : owner z ≡ n = own n z (omega arith) last in
          omega arith)

      within_all : (n : ℕ) (all : List A) → ((k : ℕ) → k < n → Within (mine k) all) → Within (all_of n) all
      within_all n all within x has = let o = has_owner n x has in within o.number o.below x o.has

      -- each item is its owner's
      pub each_owned : (n : ℕ) (all : List A) → AreAll position owner mine n all → (x : A) → Has all x → (owner x < n) × Has (mine (owner x)) x
      each_owned n all are x has =
          let o = has_owner n x (within-distinct (all_of n) all (distinct_all n are.rising are.own) (within_all n all are.within) (let m = are.many in omega (arith, length-all_of n)) x has) in
          let is : owner x ≡ o.number = are.own o.number x o.below o.has in
          (subst (λ (k : ℕ). k < n) (sym is) o.below, subst (λ (k : ℕ). Has (mine k) x) (sym is) o.has)

module _ {A : Type 0} (test : A → Bool) where
  -- what a filter keeps stands in the list, and passes
  pub has_kept : (xs : List A) (y : A) → Has (filter test xs) y → Has xs y × (test y ≡ true)
  has_kept [] y has = absurd (has_none y has)
  has_kept (x ∷ xs) y has = by_test (test x) refl (λ rest. has_kept xs y rest) has
    where
      by_test : (b : Bool) → test x ≡ b → (Has (filter test xs) y → Has xs y × (test y ≡ true)) → Has (cond b (x ∷ filter test xs) (filter test xs)) y → Has (x ∷ xs) y × (test y ≡ true)
      by_test true passes more has =
          ⊎_elim
          (λ (same : x ≡ y). ((0, ap some same), ap test (sym same) ∙ passes))
          (λ (other : Has (filter test xs) y). let rest = more other in (has_later x xs y rest.0, rest.1))
          (has_first x (filter test xs) y has)
      by_test false fails more has = let rest = more has in (has_later x xs y rest.0, rest.1)

  -- what stands in the list and passes is kept
  pub kept_has : (xs : List A) (y : A) → Has xs y → test y ≡ true → Has (filter test xs) y
  kept_has [] y has passes = absurd (has_none y has)
  kept_has (x ∷ xs) y has passes =
      ⊎_elim
      (λ (same : x ≡ y). by_first (test x) (ap test same ∙ passes) same)
      (λ (other : Has xs y). by_test (test x) (kept_has xs y other passes))
      (has_first x xs y has)
    where
      by_first : (b : Bool) → b ≡ true → x ≡ y → Has (cond b (x ∷ filter test xs) (filter test xs)) y
      by_first true is same = (0, ap some same)
      by_first false is same = cc

      by_test : (b : Bool) → Has (filter test xs) y → Has (cond b (x ∷ filter test xs) (filter test xs)) y
      by_test true has = has_later x (filter test xs) y has
      by_test false has = has

  pub IsRising-filter : (position : A → ℕ) (xs : List A) → IsRising position xs → IsRising position (filter test xs)
  IsRising-filter position [] rising = tt
  IsRising-filter position (x ∷ xs) rising = by_test (test x) (IsRising-filter position xs rising.1)
    where
      by_test : (b : Bool) → IsRising position (filter test xs) → IsRising position (cond b (x ∷ filter test xs) (filter test xs))
      by_test true rest = (λ y has. rising.0 y (has_kept xs y has).0, rest)
      by_test false rest = rest
