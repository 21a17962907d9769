-- The items with one key, and how many they are.
use Rattle.std.proofs.Common.{◌≡◌, ℕ, suc, ◌+◌, ◌-◌, ◌<◌, ◌≤◌, ◌==◌, true, false, cond, List, [], ◌∷◌, ◌++◌, length, sum, refl, sym, ap, ◌∙◌, subst, ⊎_elim, arith, append-nil}
use Rattle.std.specs.Prelude.{slice_index_or}
use Rattle.std.proofs.lemmas.Bool.{cases_eq, cases_lt, cond-true, cond-false, eq-eqb, ne_eqb}
use Rattle.std.proofs.lemmas.List.Elements.{filter-append}
use Rattle.std.proofs.lemmas.List.Sums.{sum_by-cons}
use mathlib.Core.Option.{some}
use lib.ListN.{get_elem?}
use Rattle.view_lists.specs.Lists.{Has, Within, of_key}
use Rattle.view_lists.proofs.Members.{has_later, has_either, has_one, has_none}

module _ {A : Type 0} (key : A → ℕ) where
  pub of_key-append : (o : ℕ) (xs ys : List A) → of_key key o (xs ++ ys) ≡ of_key key o xs ++ of_key key o ys
  of_key-append o xs ys = filter-append (λ x. key x == o) xs ys

  -- one more with this key
  pub of_key-same : (o : ℕ) (xs : List A) (e : A) → key e ≡ o → of_key key o (xs ++ e ∷ []) ≡ of_key key o xs ++ e ∷ []
  of_key-same o xs e is = of_key-append o xs (e ∷ []) ∙ ap (λ l. of_key key o xs ++ l) (cond-true (key e == o) (e ∷ []) [] (eq-eqb (key e) o is))

  -- one more with another key
  pub of_key-other : (o : ℕ) (xs : List A) (e : A) → (key e ≡ o → ⊥) → of_key key o (xs ++ e ∷ []) ≡ of_key key o xs
  of_key-other o xs e not = of_key-append o xs (e ∷ []) ∙ ap (λ l. of_key key o xs ++ l) (cond-false (key e == o) (e ∷ []) [] (ne_eqb (key e) o not)) ∙ append-nil (of_key key o xs)

  -- the items with a key stand in the list
  pub of_key-within : (o : ℕ) (xs : List A) → Within (of_key key o xs) xs
  of_key-within o [] e h = h
  of_key-within o (x ∷ xs) e h =
      let more = of_key-within o xs e in
      ⊎_elim
      (λ (is : key x ≡ o). ⊎_elim
      (λ (one : Has (x ∷ []) e). (0, ap (λ (y : A). some y) (has_one x e one)))
      (λ (rest : Has (of_key key o xs) e). has_later x xs e (more rest))
      (has_either (x ∷ []) (of_key key o xs) e (subst (λ (l : List A). Has l e) (cond-true (key x == o) (x ∷ of_key key o xs) (of_key key o xs) (eq-eqb (key x) o is)) h)))
      (λ (not : key x ≡ o → ⊥). has_later x xs e (more (subst (λ (l : List A). Has l e) (cond-false (key x == o) (x ∷ of_key key o xs) (of_key key o xs) (ne_eqb (key x) o not)) h)))
      (cases_eq (key x) o)

  -- an item stands among those with its key
  pub of_key-has : (xs : List A) (e : A) → Has xs e → Has (of_key key (key e) xs) e
  of_key-has [] e h = h
  of_key-has (x ∷ xs) e h =
      ⊎_elim
      (λ (one : Has (x ∷ []) e). let is = has_one x e one in
      (0, subst (λ (l : List A). get_elem? l 0 ≡ some e) (sym (cond-true (key x == key e) (x ∷ of_key key (key e) xs) (of_key key (key e) xs) (eq-eqb (key x) (key e) (ap key is)))) (ap (λ (y : A). some y) is)))
      (λ (rest : Has xs e). let more = of_key-has xs e rest in
      ⊎_elim
      (λ (is : key x ≡ key e). subst (λ (l : List A). Has l e) (sym (cond-true (key x == key e) (x ∷ of_key key (key e) xs) (of_key key (key e) xs) (eq-eqb (key x) (key e) is))) (has_later x (of_key key (key e) xs) e more))
      (λ (not : key x ≡ key e → ⊥). subst (λ (l : List A). Has l e) (sym (cond-false (key x == key e) (x ∷ of_key key (key e) xs) (of_key key (key e) xs) (ne_eqb (key x) (key e) not))) more)
      (cases_eq (key x) (key e)))
      (has_either (x ∷ []) xs e h)

  -- what stands among the items with a key has it
  pub of_key-key : (o : ℕ) (xs : List A) (e : A) → Has (of_key key o xs) e → key e ≡ o
  of_key-key o [] e h = absurd (has_none e h)
  of_key-key o (x ∷ xs) e h =
      ⊎_elim
      (λ (is : key x ≡ o). ⊎_elim
      (λ (one : Has (x ∷ []) e). ap key (sym (has_one x e one)) ∙ is)
      (λ (rest : Has (of_key key o xs) e). of_key-key o xs e rest)
      (has_either (x ∷ []) (of_key key o xs) e (subst (λ (l : List A). Has l e) (cond-true (key x == o) (x ∷ of_key key o xs) (of_key key o xs) (eq-eqb (key x) o is)) h)))
      (λ (not : key x ≡ o → ⊥). of_key-key o xs e (subst (λ (l : List A). Has l e) (cond-false (key x == o) (x ∷ of_key key o xs) (of_key key o xs) (ne_eqb (key x) o not)) h))
      (cases_eq (key x) o)

  -- the items with other keys
  others : ℕ → List A → List A
  others o [] = []
  others o (e ∷ es) = cond (key e == o) (others o es) (e ∷ others o es)

  split_length : (o : ℕ) (es : List A) → length es ≡ length (of_key key o es) + length (others o es)
  unfolding others
  split_length o [] = omega arith
  split_length o (e ∷ es) = let h = split_length o es in
      elim (key e == o) as (λ b. suc (length es) ≡ length (cond b (e ∷ of_key key o es) (of_key key o es)) + length (cond b (others o es) (e ∷ others o es))) [ true ↦ omega arith | false ↦ omega arith ]

  of_key-others : (p o : ℕ) → (p ≡ o → ⊥) → (es : List A) → of_key key p (others o es) ≡ of_key key p es
  unfolding others
  of_key-others p o ne [] = refl
  of_key-others p o ne (e ∷ es) =
      ⊎_elim
      (λ (is : key e ≡ o).
      ap (of_key key p) (cond-true (key e == o) (others o es) (e ∷ others o es) (eq-eqb (key e) o is)) ∙ of_key-others p o ne es
      ∙ sym (cond-false (key e == p) (e ∷ of_key key p es) (of_key key p es) (ne_eqb (key e) p (λ q. ne (sym q ∙ is)))))
      (λ (no : key e ≡ o → ⊥).
      ap (of_key key p) (cond-false (key e == o) (others o es) (e ∷ others o es) (ne_eqb (key e) o no)) ∙ ap (λ l. cond (key e == p) (e ∷ l) l) (of_key-others p o ne es))
      (cases_eq (key e) o)

  of_key-others_here : (o : ℕ) (es : List A) → of_key key o (others o es) ≡ []
  unfolding others
  of_key-others_here o [] = refl
  of_key-others_here o (e ∷ es) =
      ⊎_elim
      (λ (is : key e ≡ o). ap (of_key key o) (cond-true (key e == o) (others o es) (e ∷ others o es) (eq-eqb (key e) o is)) ∙ of_key-others_here o es)
      (λ (no : key e ≡ o → ⊥). ap (of_key key o) (cond-false (key e == o) (others o es) (e ∷ others o es) (ne_eqb (key e) o no)) ∙ cond-false (key e == o) (e ∷ of_key key o (others o es)) (of_key key o (others o es)) (ne_eqb (key e) o no) ∙ of_key-others_here o es)
      (cases_eq (key e) o)

  none_left : (es : List A) → ((o : ℕ) → length (of_key key o es) ≤ 0) → es ≡ []
  none_left [] h = refl
  none_left (e ∷ es) h = let t : length (e ∷ of_key key (key e) es) ≤ 0 = subst (λ l. length l ≤ 0) (cond-true (key e == key e) (e ∷ of_key key (key e) es) (of_key key (key e) es) (eq-eqb (key e) (key e) refl)) (h (key e)) in absurd (omega arith)

  below_from : (planned : List ℕ) (base : ℕ) (es : List A) → ((o : ℕ) → o < base → length (of_key key o es) ≤ 0) → ((k : ℕ) → length (of_key key (base + k) es) ≤ slice_index_or planned k 0) → length es ≤ sum planned
  below_from [] base es low h =
      let none = none_left es (λ o. at_any o) in
      subst (λ (l : List A). length l ≤ 0) (sym none) (omega arith)
    where
      at_any : (o : ℕ) → length (of_key key o es) ≤ 0
      at_any o = ⊎_elim (λ (l : o < base). low o l) (λ (g : base ≤ o). subst (λ n. length (of_key key n es) ≤ 0) (omega arith) (h (o - base))) (cases_lt o base)
  below_from (n ∷ ns) base es low h =
      let rest = below_from ns (suc base) (others base es) (λ o l. low_rest o l) (λ k. up_rest k) in
      let here : length (of_key key base es) ≤ n = subst (λ m. length (of_key key m es) ≤ n) (omega arith) (h 0) in
      let both = split_length base es in
      omega (arith, sum_by-cons (λ (x : ℕ). x) n ns)
    where
      low_rest : (o : ℕ) → o < suc base → length (of_key key o (others base es)) ≤ 0
      low_rest o l = ⊎_elim (λ (is : o ≡ base). subst (λ (l : List A). length l ≤ 0) (sym (ap (λ m. of_key key m (others base es)) is ∙ of_key-others_here base es)) (omega arith)) (λ (no : o ≡ base → ⊥). subst (λ (l : List A). length l ≤ 0) (sym (of_key-others o base no es)) (low o (omega arith))) (cases_eq o base)

      up_rest : (k : ℕ) → length (of_key key (suc base + k) (others base es)) ≤ slice_index_or ns k 0
      up_rest k = subst (λ (l : List A). length l ≤ slice_index_or ns k 0) (sym (of_key-others (suc base + k) base (λ q. omega arith) es)) (subst (λ m. length (of_key key m es) ≤ slice_index_or ns k 0) (omega arith) (h (suc k)))

  -- where each key has no more items than its number, all have no more than the sum
  pub within_planned : (planned : List ℕ) (es : List A) → ((o : ℕ) → length (of_key key o es) ≤ slice_index_or planned o 0) → length es ≤ sum planned
  within_planned planned es h = below_from planned 0 es (λ o l. absurd (omega arith)) (λ k. subst (λ m. length (of_key key m es) ≤ slice_index_or planned k 0) (omega arith) (h k))
