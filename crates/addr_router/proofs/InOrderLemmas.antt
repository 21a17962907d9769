-- Windows in order: what is found there is what is found in the rows.
use Rattle.std.proofs.Common.{◌≡◌, ℕ, zero, suc, ◌+◌, ◌-◌, ◌<◌, ◌≤◌, Bool, true, false, cond, leb, List, [], ◌∷◌, length, get_or, Option, None, Some, All, find, count_by, refl, sym, ◌∙◌, ap, arith}
use Rattle.std.specs.List.Sorted.{IsNonDecreasingBy, IsPartitionPoint, IsPermutation}
use Rattle.std.proofs.lemmas.Bool.{cond-false, false_from_ne_true, le-leb, leb-true}
use Rattle.std.proofs.lemmas.List.{get_or_default}
use Rattle.std.proofs.lemmas.List.Sorted.{All-permutation, IsPermutation-sym, sum_by-IsPermutation}
use Rattle.std.proofs.lemmas.Option.{none-some}
use Rattle.addr_router.specs.declared.window.Window.{Window}
use Rattle.addr_router.specs.InOrder.{IsInOrder, IsOrderOf}
use Rattle.addr_router.specs.Windows.{IsProper, IsValid, is_within}
use Rattle.addr_router.proofs.FaultLemmas.{within_from, within_parts}
use Rattle.addr_router.proofs.FindLemmas.{All-found, IsFound, PassesOnce, count_no, count_yes, find_at, find_found, once_from_count}

-- nothing is found where no element passes
pub find_none : {A : Type 0} (p : A → Bool) (xs : List A) (d : A) → ((k : ℕ) → k < length xs → p (get_or xs k d) ≡ false) → find p xs ≡ None
find_none p [] d none = refl
find_none p (x ∷ xs) d none = cond-false (p x) (Some x) (find p xs) (none 0 (omega arith)) ∙ find_none p xs d (λ k h. none (suc k) (omega arith))

pub none_found : {A : Type 0} (p : A → Bool) (xs : List A) (x : A) → find p xs ≡ None → IsFound p xs x → ⊥
none_found p [] x none h = let i = h.inside in omega arith
none_found p (y ∷ xs) x none h = at (p y) refl none (λ rest found. none_found p xs x rest found) h.place h.inside h.is h.passes
  where
    at : (b : Bool) → p y ≡ b → cond b (Some y) (find p xs) ≡ None → (find p xs ≡ None → IsFound p xs x → ⊥) → (k : ℕ) → k < length (y ∷ xs) → get_or (y ∷ xs) k x ≡ x → p x ≡ true → ⊥
    at true is none later k inside same passes = none-some y (sym none)
    at false is none later zero inside same passes = (let e : false ≡ true = sym is ∙ ap p same ∙ passes in cc e)
    at false is none later (suc k) inside same passes = later none (record { place = k; inside = omega arith; is = same; passes = passes })

-- no two pass: at most one is counted
count_none : {A : Type 0} (p : A → Bool) (xs : List A) (d : A) → ((k : ℕ) → k < length xs → p (get_or xs k d) ≡ false) → count_by p xs ≡ 0
count_none p [] d none = refl
count_none p (x ∷ xs) d none = count_no p x xs (none 0 (omega arith)) ∙ count_none p xs d (λ k h. none (suc k) (omega arith))

pub count_once : {A : Type 0} (p : A → Bool) (xs : List A) → PassesOnce p xs → count_by p xs ≤ 1
count_once p [] once = omega arith
count_once p (x ∷ xs) once = by (p x) refl (count_once p xs (λ i j d below inside. once (suc i) (suc j) d (omega arith) (omega arith)))
  where
    by : (b : Bool) → p x ≡ b → count_by p xs ≤ 1 → count_by p (x ∷ xs) ≤ 1
    by true is few = (
        let rest = count_none p xs x (λ k h. false_from_ne_true (p (get_or xs k x)) (λ t. once 0 (suc k) x (omega arith) (omega arith) is t)) in
        omega (arith, count_yes p x xs is)
        )
    by false is few = omega (arith, count_no p x xs is)

-- the one element that passes is found in both lists
pub find_shuffled : {A : Type 0} (p : A → Bool) (xs ys : List A) → IsPermutation xs ys → PassesOnce p ys → find p ys ≡ find p xs
find_shuffled {A} p xs ys same once = by (find p xs) refl
  where
    there : All (λ (x : A). p x ≡ true → find p ys ≡ Some x) xs
    there = All-permutation (λ (x : A). p x ≡ true → find p ys ≡ Some x) ys xs (IsPermutation-sym xs ys same) (λ k d inside passes. find_here k d inside passes)
      where
        find_here : (k : ℕ) (d : A) → k < length ys → p (get_or ys k d) ≡ true → find p ys ≡ Some (get_or ys k d)
        find_here k d inside passes = find_at p ys (get_or ys k d) k once inside (get_or_default ys k (get_or ys k d) d inside) passes

    by : (o : Option A) → find p xs ≡ o → find p ys ≡ o
    by (Some x) is = (let h = find_found p xs x is in All-found (λ (z : A). p z ≡ true → find p ys ≡ Some z) p xs x there h h.passes)
    by None is = other (find p ys) refl
      where
        other : (o : Option A) → find p ys ≡ o → find p ys ≡ None
        other None e = e
        other (Some y) e = (
            let h = find_found p ys y e in
            let off = All-permutation (λ (z : A). p z ≡ false) xs ys same (λ k d inside. false_from_ne_true (p (get_or xs k d)) (λ t. none_found p xs (get_or xs k d) is (record { place = k; inside = inside; is = get_or_default xs k (get_or xs k d) d inside; passes = t }))) in
            let no : p y ≡ false = All-found (λ (z : A). p z ≡ false) p ys y off h in
            absurd (let c : false ≡ true = sym no ∙ h.passes in cc c)
            )

-- the rows of a router in order
pub in_order : (rows sorted : List Window) → IsValid rows → IsOrderOf rows sorted → IsInOrder sorted
in_order rows sorted valid order = record {
  rises = order.rises;
  each = All-permutation IsProper rows sorted order.same valid.each;
  once = λ a. (let e = sum_by-IsPermutation (λ (w : Window). cond (is_within w a) 1 0) rows sorted order.same in let few = count_once (λ (w : Window). is_within w a) rows (λ i j d below inside s t. valid.apart i j d below inside a s t) in omega arith);
}

-- of windows in order those that begin at the address or before it come first
pub begun_first : (windows : List Window) (a : ℕ) → IsNonDecreasingBy (λ (w : Window). w.first) windows → (count_by (λ (w : Window). leb w.first a) windows ≤ length windows) × IsPartitionPoint (λ (w : Window). leb w.first a ≡ true) (λ (w : Window). leb w.first a ≡ false) windows (count_by (λ (w : Window). leb w.first a) windows)
begun_first [] a rises = (omega arith, ((λ k d low high. absurd (omega (arith, high))), (λ k d low high. absurd (omega (arith, high)))))
begun_first (w ∷ ws) a rises = by (leb w.first a) refl (begun_first ws a (λ i j d low inside. rises (suc i) (suc j) d (omega (arith, low)) (omega (arith, inside))))
  where
    p : Window → Bool
    p v = leb v.first a

    Goal : List Window → Type 0
    Goal vs = (count_by p vs ≤ length vs) × IsPartitionPoint (λ (v : Window). leb v.first a ≡ true) (λ (v : Window). leb v.first a ≡ false) vs (count_by p vs)

    by : (b : Bool) → leb w.first a ≡ b → Goal ws → Goal (w ∷ ws)
    by true is rest = (omega (arith, one, rest.0), (below, past))
      where
        one : count_by p (w ∷ ws) ≡ 1 + count_by p ws
        one = count_yes p w ws is

        below : (k : ℕ) (d : Window) → 0 ≤ k → k < count_by p (w ∷ ws) → leb (get_or (w ∷ ws) k d).first a ≡ true
        below zero d low high = is
        below (suc k) d low high = rest.1.0 k d (omega arith) (omega (arith, one, high))

        past : (k : ℕ) (d : Window) → count_by p (w ∷ ws) ≤ k → k < length (w ∷ ws) → leb (get_or (w ∷ ws) k d).first a ≡ false
        past zero d low high = absurd (omega (arith, one, low))
        past (suc k) d low high = rest.1.1 k d (omega (arith, one, low)) (omega (arith, high))
    by false is rest = (omega (arith, none), ((λ k d low high. absurd (omega (arith, none, high))), (λ k d low high. off k d high)))
      where
        off : (k : ℕ) (d : Window) → k < length (w ∷ ws) → leb (get_or (w ∷ ws) k d).first a ≡ false
        off k d inside = false_from_ne_true (leb (get_or (w ∷ ws) k d).first a) (λ t. let up = rises 0 k d (omega arith) inside in let low = leb-true (get_or (w ∷ ws) k d).first a t in absurd (let c : false ≡ true = sym is ∙ le-leb w.first a (omega (arith, up, low)) in cc c))

        none : count_by p (w ∷ ws) ≡ 0
        none = count_none p (w ∷ ws) w (λ k inside. off k w inside)

-- the last window that begins at the address or before it is the one that may have it
module _ (windows : List Window) (a : ℕ) (order : IsInOrder windows) where
  pub found_last : (k : ℕ) (d : Window) → k < length windows → is_within (get_or windows k d) a ≡ true → find (λ (w : Window). is_within w a) windows ≡ Some (get_or windows k d)
  found_last k d inside passes = find_at (λ (w : Window). is_within w a) windows (get_or windows k d) k (once_from_count (λ (w : Window). is_within w a) windows (order.once a)) inside (get_or_default windows k (get_or windows k d) d inside) passes

  pub found_none : (k : ℕ) (d : Window) → IsPartitionPoint (λ (w : Window). leb w.first a ≡ true) (λ (w : Window). leb w.first a ≡ false) windows k → k ≤ length windows → (0 < k → is_within (get_or windows (k - 1) d) a ≡ false) → find (λ (w : Window). is_within w a) windows ≡ None
  found_none k d point bound last = find_none (λ (w : Window). is_within w a) windows d (λ j inside. false_from_ne_true (is_within (get_or windows j d) a) (λ t. at j inside t))
    where
      at : (j : ℕ) → j < length windows → is_within (get_or windows j d) a ≡ true → ⊥
      at j inside t = (
          let own = within_parts (get_or windows j d) a t in
          let low : j < k = below j inside own.0 in
          let top = get_or windows (k - 1) d in
          let not_top = last (omega arith) in
          let proper = order.each (k - 1) d (omega arith) in
          let up = order.rises j (k - 1) d (omega arith) (omega arith) in
          let starts = point.0 (k - 1) d (omega arith) (omega arith) in
          let first : top.first ≤ a = leb-true top.first a starts in
          let ends : top.last < a = past top first not_top in
          let full = proper.not_empty in
          once_from_count (λ (w : Window). is_within w top.first) windows (order.once top.first) j (k - 1) d (apart j low t not_top) (omega arith)
          (within_from (get_or windows j d) top.first up (omega arith)) (within_from top top.first (omega arith) full)
          )
        where
          below : (i : ℕ) → i < length windows → (get_or windows i d).first ≤ a → i < k
          below i inside first = by (leb k i) refl
            where
              by : (b : Bool) → leb k i ≡ b → i < k
              by true is = (
                  let least : k ≤ i = leb-true k i is in
                  let off = point.1 i d least inside in
                  absurd (let c : false ≡ true = sym off ∙ le-leb (get_or windows i d).first a first in cc c)
                  )
              by false is = (grind (arith, is))

          past : (w : Window) → w.first ≤ a → is_within w a ≡ false → w.last < a
          past w first off = by (leb a w.last) refl
            where
              by : (b : Bool) → leb a w.last ≡ b → w.last < a
              by true is = (absurd (let c : false ≡ true = sym off ∙ within_from w a first (leb-true a w.last is) in cc c))
              by false is = (grind (arith, is))

          apart : (i : ℕ) → i < k → is_within (get_or windows i d) a ≡ true → is_within (get_or windows (k - 1) d) a ≡ false → i < k - 1
          apart i less t off = by (leb (k - 1) i) refl
            where
              by : (b : Bool) → leb (k - 1) i ≡ b → i < k - 1
              by true is = (
                  let least : k - 1 ≤ i = leb-true (k - 1) i is in
                  let same : i ≡ k - 1 = omega arith in
                  absurd (let c : false ≡ true = sym off ∙ ap (λ (n : ℕ). is_within (get_or windows n d) a) (sym same) ∙ t in cc c)
                  )
              by false is = (grind (arith, is))
