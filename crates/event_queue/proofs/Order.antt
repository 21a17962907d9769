-- Items that wait: their order, as they come and go.
use Rattle.std.proofs.Common.{◌≡◌, ◌<◌, ◌≤◌, ℕ, ◌+◌, ◌*◌, ◌^◌, ◌==◌, Bool, true, false, List, [], ◌∷◌, ◌++◌, length, map, get_or, nat_lt, All, Some, Result, Ok, Err, refl, sym, ap, subst, ◌∙◌, append_assoc, le_refl, arith}
use Rattle.std.specs.Prelude.{IsOk, OnOk, if◌then◌else◌}
use Rattle.std.specs.BinaryHeap.{IsHeap, IsUpperBound}
use Rattle.std.specs.Cmp.{nat_eq_equiv, ranks}
use Rattle.std.specs.List.{AllByRecursion, IsDistinct}
use Rattle.std.specs.List.Sorted.{IsPermutation}
use Rattle.std.specs.Ordering.{MatchOrdering, is_lt, nat_cmp, ordering_then}
use Rattle.std.specs.declared.cmp.Ordering.{Ordering}
use Rattle.std.specs.declared.cmp.Ordering.TheVariants.{Less, Equal, Greater}
use Rattle.std.proofs.lemmas.Bool.{eqb-false, false≢true, le-ltb, lt-ltb, ltb-false, ltb-true, ne_eqb}
use Rattle.std.proofs.lemmas.List.Elements.{All-from_recursion, recursion_from_All}
use Rattle.std.proofs.lemmas.List.{length-map}
use Rattle.std.proofs.lemmas.List.Sorted.{All-permutation, IsPermutation-refl, IsPermutation-sym}
use Rattle.std.proofs.lemmas.Map.Keys.{IsDistinct-IsPermutation, IsDistinct-cons, IsDistinct-from_apart, IsDistinct-head, IsDistinct-tail, ge_from_not_lt}
use Rattle.std.proofs.lemmas.Option.{none-some, same_Some}
use Rattle.event_queue.specs.declared.waiting.Waiting.{Waiting}
use Rattle.event_queue.specs.EventQueue.{first_time, notified}
use Rattle.event_queue.specs.Kept.{AreWaiting}
use Rattle.event_queue.specs.Waiting.{AreNumbered, given, given_in_order, given_sooner, in_order, put, rank}
use Rattle.event_queue.specs.Line.{joined}
use Rattle.event_queue.proofs.Line.{count_joined, notified_next}

as_true : (b c : Bool) → (b ≡ true → c ≡ true) → (c ≡ true → b ≡ true) → b ≡ c
as_true true true f g = refl
as_true true false f g = sym (f refl)
as_true false true f g = g refl
as_true false false f g = refl

-- what comes later in a heap isn't given earlier
later_rank : (a b c d : ℕ) → is_lt (ordering_then (nat_cmp a b) (nat_cmp c d)) ≡ false → d < 2 ^ 64 → b * 2 ^ 64 + d ≤ a * 2 ^ 64 + c
later_rank a b c d h small = by (nat_cmp a b) (ranks a b) h
  where
    by : (r : Ordering) → MatchOrdering r (a < b) (a ≡ b) (b < a) → is_lt (ordering_then r (nat_cmp c d)) ≡ false → b * 2 ^ 64 + d ≤ a * 2 ^ 64 + c
    by Less below e = absurd (false≢true (sym e))
    by Equal same e = let later : d ≤ c = ge_from_not_lt c d e in omega (arith, same, later)
    by Greater above e = omega (arith, above, small)

-- what is said of an answer that is Ok
pub on_ok : {X E : Type 0} (P : Type 0) (r : Result X E) → IsOk r → OnOk r P → P
on_ok P (Ok x) ok h = h
on_ok P (Err e) ok h = absurd (false≢true ok)

no_items : {X : Type 0} (es : List X) → length es ≡ 0 → es ≡ []
no_items [] h = refl
no_items (e ∷ es) h = absurd (omega (arith, h))

module _ {T : Type 0} where
  abbrev same_rank : Waiting T → Waiting T → Bool
  same_rank x y = rank x == rank y

  flips : (x y : Waiting T) → same_rank x y ≡ same_rank y x
  flips x y = nat_eq_equiv.symm (rank x) (rank y)

  pub weaker : (P Q : Waiting T → Type 0) → ((x : Waiting T) → P x → Q x) → (xs : List (Waiting T)) → AllByRecursion P xs → AllByRecursion Q xs
  weaker P Q f [] all = tt
  weaker P Q f (x ∷ xs) all = (f x all.0, weaker P Q f xs all.1)

  pub both : (P Q R : Waiting T → Type 0) → ((x : Waiting T) → P x → Q x → R x) → (xs : List (Waiting T)) → AllByRecursion P xs → AllByRecursion Q xs → AllByRecursion R xs
  both P Q R f [] p q = tt
  both P Q R f (x ∷ xs) p q = (f x p.0 q.0, both P Q R f xs p.1 q.1)

  pub all_moved : (P : Waiting T → Type 0) (xs ys : List (Waiting T)) → IsPermutation xs ys → AllByRecursion P xs → AllByRecursion P ys
  all_moved P xs ys perm all = recursion_from_All P ys (All-permutation P xs ys perm (All-from_recursion P xs all))

  -- each rank is below those after it
  abbrev Rises : List (Waiting T) → Type 0
  Rises [] = Unit {0}
  Rises (x ∷ xs) = AllByRecursion (λ y. rank x < rank y) xs × Rises xs

  all_put : (P : Waiting T → Type 0) (w : Waiting T) (ws : List (Waiting T)) → P w → AllByRecursion P ws → AllByRecursion P (put w ws)
  all_put P w [] here all = (here, tt)
  all_put P w (x ∷ xs) here all = by_case (nat_lt (rank w) (rank x)) (all_put P w xs here all.1)
    where
      by_case : (b : Bool) → AllByRecursion P (put w xs) → AllByRecursion P (if b then w ∷ x ∷ xs else x ∷ put w xs)
      by_case true rest = (here, all)
      by_case false rest = (all.0, rest)

  of_put : (P : Waiting T → Type 0) (w : Waiting T) (ws : List (Waiting T)) → AllByRecursion P (put w ws) → P w × AllByRecursion P ws
  of_put P w [] all = (all.0, tt)
  of_put P w (x ∷ xs) all = by_case (nat_lt (rank w) (rank x)) (of_put P w xs) all
    where
      by_case : (b : Bool) → (AllByRecursion P (put w xs) → P w × AllByRecursion P xs) → AllByRecursion P (if b then w ∷ x ∷ xs else x ∷ put w xs) → P w × (P x × AllByRecursion P xs)
      by_case true rest h = (h.0, (h.1.0, h.1.1))
      by_case false rest h = let parts = rest h.1 in (parts.0, (h.0, parts.1))

  pub all_in_order : (P : Waiting T → Type 0) (ws : List (Waiting T)) → AllByRecursion P ws → AllByRecursion P (in_order ws)
  all_in_order P [] all = tt
  all_in_order P (w ∷ ws) all = all_put P w (in_order ws) all.0 (all_in_order P ws all.1)

  of_in_order : (P : Waiting T → Type 0) (ws : List (Waiting T)) → AllByRecursion P (in_order ws) → AllByRecursion P ws
  of_in_order P [] all = tt
  of_in_order P (w ∷ ws) all = let parts = of_put P w (in_order ws) all in (parts.0, of_in_order P ws parts.1)

  rises_put : (w : Waiting T) (ws : List (Waiting T)) → Rises ws → AllByRecursion (λ x. rank w ≡ rank x → ⊥) ws → Rises (put w ws)
  rises_put w [] rises apart = (tt, tt)
  rises_put w (x ∷ xs) rises apart = by_case (nat_lt (rank w) (rank x)) refl (rises_put w xs rises.1 apart.1)
    where
      by_case : (b : Bool) → nat_lt (rank w) (rank x) ≡ b → Rises (put w xs) → Rises (if b then w ∷ x ∷ xs else x ∷ put w xs)
      by_case true at rest =
          let below : rank w < rank x = ltb-true (rank w) (rank x) at in
          ((below, weaker (λ y. rank x < rank y) (λ y. rank w < rank y) (λ y later. omega (arith, below, later)) xs rises.0), rises)
      by_case false at rest =
          let past : rank x ≤ rank w = ltb-false (rank w) (rank x) at in
          let other : rank w ≡ rank x → ⊥ = apart.0 in
          let below : rank x < rank w = omega (arith, past, other) in
          (all_put (λ y. rank x < rank y) w xs below rises.0, rest)

  rises_in_order : (ws : List (Waiting T)) → IsDistinct same_rank ws → Rises (in_order ws)
  rises_in_order [] own = tt
  rises_in_order (w ∷ ws) own =
      rises_put w (in_order ws) (rises_in_order ws (IsDistinct-tail same_rank w ws own))
      (all_in_order (λ x. rank w ≡ rank x → ⊥) ws (weaker (λ x. same_rank w x ≡ false) (λ x. rank w ≡ rank x → ⊥) (λ x e. eqb-false (rank w) (rank x) e) ws (IsDistinct-head same_rank w ws own)))

  -- two lists of the same items, each in order, are one
  unique : (xs ys : List (Waiting T)) → Rises xs → Rises ys → ((P : Waiting T → Type 0) → AllByRecursion P xs → AllByRecursion P ys) → ((P : Waiting T → Type 0) → AllByRecursion P ys → AllByRecursion P xs) → xs ≡ ys
  unique [] [] left right to from = refl
  unique [] (y ∷ ys) left right to from = absurd (to (λ z. ⊥) tt).0
  unique (x ∷ xs) [] left right to from = absurd (from (λ z. ⊥) tt).0
  unique (x ∷ xs) (y ∷ ys) left right to from =
      let low : rank x ≤ rank y = (to (λ z. rank x ≤ rank z) (le_refl (rank x), weaker (λ z. rank x < rank z) (λ z. rank x ≤ rank z) (λ z lt. omega (arith, lt)) xs left.0)).0 in
      let high : rank y ≤ rank x = (from (λ z. rank y ≤ rank z) (le_refl (rank y), weaker (λ z. rank y < rank z) (λ z. rank y ≤ rank z) (λ z lt. omega (arith, lt)) ys right.0)).0 in
      let same : rank y ≡ rank x = omega (arith, low, high) in
      let one : y ≡ x = (to (λ z. rank z ≡ rank x → z ≡ x) ((λ e. refl), weaker (λ z. rank x < rank z) (λ z. rank z ≡ rank x → z ≡ x) (λ z lt e. absurd (omega (arith, lt, e))) xs left.0)).0 same in
      let there : (P : Waiting T → Type 0) → AllByRecursion P xs → AllByRecursion P ys = λ P all.
      both (λ z. rank y < rank z) (λ z. rank x < rank z → P z) P (λ z lt f. f (omega (arith, lt, same))) ys right.0
      (to (λ z. rank x < rank z → P z) ((λ lt. absurd (omega (arith, lt))), weaker P (λ z. rank x < rank z → P z) (λ z p lt. p) xs all)).1 in
      let back : (P : Waiting T → Type 0) → AllByRecursion P ys → AllByRecursion P xs = λ P all.
      both (λ z. rank x < rank z) (λ z. rank y < rank z → P z) P (λ z lt f. f (omega (arith, lt, same))) xs left.0
      (from (λ z. rank y < rank z → P z) ((λ lt. absurd (omega (arith, lt))), weaker P (λ z. rank y < rank z → P z) (λ z p lt. p) ys all)).1 in
      ap (λ z. z ∷ xs) (sym one) ∙ ap (λ zs. y ∷ zs) (unique xs ys left.1 right.1 there back)

  in_order_same : (xs ys : List (Waiting T)) → IsDistinct same_rank xs → IsPermutation xs ys → in_order xs ≡ in_order ys
  in_order_same xs ys own perm =
      unique (in_order xs) (in_order ys) (rises_in_order xs own) (rises_in_order ys (IsDistinct-IsPermutation same_rank flips xs ys perm own))
      (λ P all. all_in_order P ys (all_moved P xs ys perm (of_in_order P xs all))) (λ P all. all_in_order P xs (all_moved P ys xs (IsPermutation-sym xs ys perm) (of_in_order P ys all)))

  put_first : (w : Waiting T) (ws : List (Waiting T)) → AllByRecursion (λ x. rank w < rank x) ws → put w ws ≡ w ∷ ws
  put_first w [] all = refl
  put_first w (x ∷ xs) all = ap (λ b. if b then w ∷ x ∷ xs else x ∷ put w xs) (lt-ltb (rank w) (rank x) all.0)

  put_last : (w : Waiting T) (ws : List (Waiting T)) → AllByRecursion (λ x. rank x ≤ rank w) ws → put w ws ≡ ws ++ w ∷ []
  put_last w [] all = refl
  put_last w (x ∷ xs) all = ap (λ b. if b then w ∷ x ∷ xs else x ∷ put w xs) (le-ltb (rank w) (rank x) all.0) ∙ ap (λ l. x ∷ l) (put_last w xs all.1)

  -- one that is notified later stands behind those of its time
  rank_test : (w x : Waiting T) → x.order < w.order → w.order < 2 ^ 64 → nat_lt (rank w) (rank x) ≡ nat_lt w.at x.at
  rank_test w x later small =
      as_true (nat_lt (rank w) (rank x)) (nat_lt w.at x.at) (λ e. let lt = ltb-true (rank w) (rank x) e in lt-ltb w.at x.at (omega (arith, lt, later)))
      (λ e. let lt = ltb-true w.at x.at e in lt-ltb (rank w) (rank x) (omega (arith, lt, small)))

  put_notified : (w : Waiting T) (ws : List (Waiting T)) → AllByRecursion (λ x. x.order < w.order) ws → w.order < 2 ^ 64 → map given (put w ws) ≡ notified (map given ws) w.item w.at
  put_notified w [] all small = refl
  put_notified w (x ∷ xs) all small =
      ap (λ b. map given (if b then w ∷ x ∷ xs else x ∷ put w xs)) (rank_test w x all.0 small) ∙ by_case (nat_lt w.at x.at) (put_notified w xs all.1 small) ∙ sym (notified_next (given x) (map given xs) w.item w.at)
    where
      by_case : (b : Bool) → map given (put w xs) ≡ notified (map given xs) w.item w.at → map given (if b then w ∷ x ∷ xs else x ∷ put w xs) ≡ (if b then given w ∷ map given (x ∷ xs) else given x ∷ notified (map given xs) w.item w.at)
      by_case true rest = refl
      by_case false rest = ap (λ es. given x ∷ es) rest

  -- the first of a heap is given first
  pub first_is_least : (next : ℕ) (x : Waiting T) (rest : List (Waiting T)) → AreNumbered next (x ∷ rest) → next ≤ 2 ^ 64 → IsUpperBound given_sooner x rest → AllByRecursion (λ y. rank x < rank y) rest
  first_is_least next x rest numbered small bound =
      let low : x.order < 2 ^ 64 = (let n = numbered.each.0 in omega (arith, n, small)) in
      both (λ y. is_lt (given_sooner x y) ≡ false) (λ y. same_rank x y ≡ false) (λ y. rank x < rank y)
      (λ y later apart. let le = later_rank y.at x.at y.order x.order later low in let other : rank x ≡ rank y → ⊥ = eqb-false (rank x) (rank y) apart in omega (arith, le, other)) rest bound
      (IsDistinct-head same_rank x rest numbered.own)

  pub numbered_moved : (next : ℕ) (xs ys : List (Waiting T)) → IsPermutation xs ys → AreNumbered next xs → AreNumbered next ys
  numbered_moved next xs ys perm numbered = record {
    each = all_moved (λ w. w.order < next) xs ys perm numbered.each;
    own = IsDistinct-IsPermutation same_rank flips xs ys perm numbered.own;
  }

  pub numbered_rest : (next : ℕ) (x : Waiting T) (rest : List (Waiting T)) → AreNumbered next (x ∷ rest) → AreNumbered next rest
  numbered_rest next x rest numbered = record { each = numbered.each.1; own = IsDistinct-tail same_rank x rest numbered.own }

  pub popped : (next : ℕ) (old rest : List (Waiting T)) (x : Waiting T) → AreNumbered next old → next ≤ 2 ^ 64 → IsPermutation old (x ∷ rest) → IsUpperBound given_sooner x rest → given_in_order old ≡ given x ∷ given_in_order rest
  popped next old rest x numbered small perm bound =
      let least = first_is_least next x rest (numbered_moved next old (x ∷ rest) perm numbered) small bound in
      ap (map given) (in_order_same old (x ∷ rest) numbered.own perm ∙ put_first x (in_order rest) (all_in_order (λ y. rank x < rank y) rest least))

  -- one more, with the next number
  numbered_more : (next : ℕ) (w : Waiting T) (ws : List (Waiting T)) → AreNumbered next ws → w.order ≡ next → next < 2 ^ 64 → AreNumbered (next + 1) (w ∷ ws)
  numbered_more next w ws numbered is small = record {
    each = (omega (arith, is), weaker (λ x. x.order < next) (λ x. x.order < next + 1) (λ x lt. omega (arith, lt)) ws numbered.each);
    own = IsDistinct-cons same_rank w ws (weaker (λ x. x.order < next) (λ x. same_rank w x ≡ false) (λ x lt. ne_eqb (rank w) (rank x) (λ e. omega (arith, e, lt, is, small))) ws numbered.each) numbered.own;
  }

  pub pushed_numbered : (next : ℕ) (w : Waiting T) (ws after : List (Waiting T)) → AreNumbered next ws → w.order ≡ next → next < 2 ^ 64 → IsPermutation (w ∷ ws) after → AreNumbered (next + 1) after
  pushed_numbered next w ws after numbered is small perm = numbered_moved (next + 1) (w ∷ ws) after perm (numbered_more next w ws numbered is small)

  pub pushed : (next : ℕ) (w : Waiting T) (ws after : List (Waiting T)) → AreNumbered next ws → w.order ≡ next → next < 2 ^ 64 → IsPermutation (w ∷ ws) after → given_in_order after ≡ notified (given_in_order ws) w.item w.at
  pushed next w ws after numbered is small perm =
      let more = numbered_more next w ws numbered is small in
      ap (map given) (sym (in_order_same (w ∷ ws) after more.own perm))
      ∙ put_notified w (in_order ws) (all_in_order (λ x. x.order < w.order) ws (weaker (λ x. x.order < next) (λ x. x.order < w.order) (λ x lt. omega (arith, lt, is)) ws numbered.each)) (omega (arith, is, small))

  -- one that comes last of all
  pub pushed_last : (next : ℕ) (w : Waiting T) (ws after : List (Waiting T)) → AreNumbered next ws → w.order ≡ next → next < 2 ^ 64 → IsPermutation (w ∷ ws) after → AllByRecursion (λ x. x.at ≤ w.at) ws
      → given_in_order after ≡ given_in_order ws ++ given w ∷ []
  pushed_last next w ws after numbered is small perm late =
      let more = numbered_more next w ws numbered is small in
      let last : AllByRecursion (λ x. rank x ≤ rank w) ws = both (λ (x : Waiting T). x.at ≤ w.at) (λ x. x.order < next) (λ x. rank x ≤ rank w) (λ x le lt. omega (arith, le, lt, is)) ws late numbered.each in
      ap (map given) (sym (in_order_same (w ∷ ws) after more.own perm) ∙ put_last w (in_order ws) (all_in_order (λ x. rank x ≤ rank w) ws last)) ∙ given_more (in_order ws) w
    where
      given_more : (xs : List (Waiting T)) (w : Waiting T) → map given (xs ++ w ∷ []) ≡ map given xs ++ given w ∷ []
      given_more [] w = refl
      given_more (x ∷ xs) w = ap (λ es. given x ∷ es) (given_more xs w)

  -- what holds of the times of all that wait
  pub of_times : (P : ℕ → Type 0) (ws : List (Waiting T)) → AllByRecursion (λ w. P w.at) ws → All (λ (e : ℕ × T). P e.0) (given_in_order ws)
  of_times P ws all = All-from_recursion (λ (e : ℕ × T). P e.0) (given_in_order ws) (along (in_order ws) (all_in_order (λ w. P w.at) ws all))
    where
      along : (xs : List (Waiting T)) → AllByRecursion (λ w. P w.at) xs → AllByRecursion (λ (e : ℕ × T). P e.0) (map given xs)
      along [] h = tt
      along (x ∷ xs) h = (h.0, along xs h.1)

  -- all others come no earlier than the first
  pub no_earlier : (x : Waiting T) (ys : List (Waiting T)) → IsUpperBound given_sooner x ys → x.order < 2 ^ 64 → AllByRecursion (λ (y : Waiting T). y.order < 2 ^ 64) ys → AllByRecursion (λ (y : Waiting T). x.at ≤ y.at) ys
  no_earlier x ys bound low small =
      both (λ y. is_lt (given_sooner x y) ≡ false) (λ (y : Waiting T). y.order < 2 ^ 64) (λ (y : Waiting T). x.at ≤ y.at)
      (λ y later few. let le = later_rank y.at x.at y.order x.order later low in omega (arith, le, few)) ys bound small

  -- as many are given as wait
  put_count : (w : Waiting T) (ws : List (Waiting T)) → length (put w ws) ≡ length ws + 1
  put_count w [] = refl
  put_count w (x ∷ xs) = by_case (nat_lt (rank w) (rank x)) (put_count w xs)
    where
      by_case : (b : Bool) → length (put w xs) ≡ length xs + 1 → length (if b then w ∷ x ∷ xs else x ∷ put w xs) ≡ length (x ∷ xs) + 1
      by_case true rest = omega arith
      by_case false rest = omega (arith, rest)

  order_count : (ws : List (Waiting T)) → length (in_order ws) ≡ length ws
  order_count [] = refl
  order_count (w ∷ ws) = put_count w (in_order ws) ∙ omega (arith, order_count ws)

  pub count_given : (ws : List (Waiting T)) → length (given_in_order ws) ≡ length ws
  count_given ws = length-map (in_order ws) given ∙ order_count ws

  pub count_all : (line : List (ℕ × T)) (ws : List (Waiting T)) (m n : ℕ) → m ≡ length line → n ≡ length ws → length (joined line (given_in_order ws)) ≡ m + n
  count_all line ws m n first second = omega (arith, count_joined line (given_in_order ws), count_given ws, first, second)

  pub none_given : (ws : List (Waiting T)) (n : ℕ) → n ≡ length ws → n ≡ 0 → given_in_order ws ≡ []
  none_given ws n is zero_is = no_items (given_in_order ws) (omega (arith, count_given ws, is, zero_is))

  pub some_given : (ws : List (Waiting T)) (n : ℕ) → n ≡ length ws → 0 < n → given_in_order ws ≡ [] → ⊥
  some_given ws n is some none = omega (arith, count_given ws, is, some, ap length none)

  -- nothing waits
  pub none_wait : (ws : List (Waiting T)) → ws ≡ [] → IsHeap given_sooner ws → AreWaiting 0 ws
  none_wait ws none heap = record {
    heap = heap;
    numbered = subst (AreNumbered 0) (sym none) (record { each = tt; own = IsDistinct-from_apart same_rank [] (λ i j d before below. absurd (omega (arith, below))) });
  }

  -- the first of those that wait
  pub first_given : (next : ℕ) (ws : List (Waiting T)) (x : Waiting T) → AreWaiting next ws → next ≤ 2 ^ 64 → 0 < length ws → x ≡ get_or ws 0 x → IsUpperBound given_sooner x ws → first_time (given_in_order ws) ≡ Some x.at
  first_given next [] x waits small some at bound = absurd (omega (arith, some))
  first_given next (y ∷ ys) x waits small some at bound =
      let least : IsUpperBound given_sooner y ys = subst (λ (z : Waiting T). IsUpperBound given_sooner z ys) at bound.1 in
      ap first_time (popped next (y ∷ ys) ys y waits.numbered small (IsPermutation-refl (y ∷ ys)) least) ∙ ap (λ (z : Waiting T). Some z.at) (sym at)

  pub least_given : (next : ℕ) (ws : List (Waiting T)) (x : Waiting T) → AreWaiting next ws → next ≤ 2 ^ 64 → 0 < length ws → x ≡ get_or ws 0 x → IsUpperBound given_sooner x ws → All (λ (e : ℕ × T). x.at ≤ e.0) (given_in_order ws)
  least_given next [] x waits small some at bound = absurd (omega (arith, some))
  least_given next (y ∷ ys) x waits small some at bound =
      let few : AllByRecursion (λ (w : Waiting T). w.order < 2 ^ 64) (y ∷ ys) = weaker (λ w. w.order < next) (λ w. w.order < 2 ^ 64) (λ w lt. omega (arith, lt, small)) (y ∷ ys) waits.numbered.each in
      of_times (λ t. x.at ≤ t) (y ∷ ys) (no_earlier x (y ∷ ys) bound (subst (λ (z : Waiting T). z.order < 2 ^ 64) (sym at) few.0) few)

  -- one was given
  pub waits_on : (next : ℕ) (old rest : List (Waiting T)) (x : Waiting T) → AreWaiting next old → IsPermutation old (x ∷ rest) → IsHeap given_sooner rest → AreWaiting next rest
  waits_on next old rest x waits perm heap = record { heap = heap; numbered = numbered_rest next x rest (numbered_moved next old (x ∷ rest) perm waits.numbered) }

  -- one more waits
  pub waits_too : (next : ℕ) (w : Waiting T) (ws after : List (Waiting T)) → AreWaiting next ws → w.order ≡ next → next < 2 ^ 64 → IsPermutation (w ∷ ws) after → IsHeap given_sooner after → AreWaiting (next + 1) after
  waits_too next w ws after waits is small perm heap = record { heap = heap; numbered = pushed_numbered next w ws after waits.numbered is small perm }

  -- what a first time says of all
  pub first_due : (now : ℕ) (time : ℕ) (es : List (ℕ × T)) → Some time ≡ first_time es → (now < time → ⊥) → All (λ (e : ℕ × T). now < e.0) es → ⊥
  first_due now time [] is late all = absurd (none-some time (sym is))
  first_due now time (e ∷ es) is late all =
      let same : time ≡ e.0 = same_Some time e.0 is in
      let early : now < e.0 = all 0 e (omega arith) in
      late (omega (arith, same, early))

  -- the first of what waits is moved behind what was moved before, with a number of its own
  pub moved_on : (next k : ℕ) (to after from rest : List (Waiting T)) (all : List (ℕ × T)) (x w : Waiting T) → AreWaiting next from → next ≤ 2 ^ 64 → IsPermutation from (x ∷ rest) → IsUpperBound given_sooner x rest
      → AreWaiting k to → w.order ≡ k → w.at ≡ x.at → w.item ≡ x.item → k < 2 ^ 64 → IsPermutation (w ∷ to) after → AllByRecursion (λ (z : Waiting T). AllByRecursion (λ (y : Waiting T). z.at ≤ y.at) from) to
      → given_in_order to ++ given_in_order from ≡ all → given_in_order after ++ given_in_order rest ≡ all
  moved_on next k to after from rest all x w waits small perm bound moved is time item few pushed late so_far =
      let first : given_in_order from ≡ given x ∷ given_in_order rest = popped next from rest x waits.numbered small perm bound in
      let same : given w ≡ given x = λ i. (time i, item i) in
      let behind : AllByRecursion (λ (z : Waiting T). z.at ≤ w.at) to =
      weaker (λ z. AllByRecursion (λ y. z.at ≤ y.at) from) (λ z. z.at ≤ w.at) (λ z h. let le = (all_moved (λ y. z.at ≤ y.at) from (x ∷ rest) perm h).0 in omega (arith, le, time)) to late in
      let last : given_in_order after ≡ given_in_order to ++ given x ∷ [] = pushed_last k w to after moved.numbered is few pushed behind ∙ ap (λ e. given_in_order to ++ e ∷ []) same in
      ap (λ es. es ++ given_in_order rest) last ∙ append_assoc (given_in_order to) (given x ∷ []) (given_in_order rest) ∙ ap (λ es. given_in_order to ++ es) (sym first) ∙ so_far

  pub later_on : (next : ℕ) (to after from rest : List (Waiting T)) (x w : Waiting T) → AreWaiting next from → next ≤ 2 ^ 64 → IsPermutation from (x ∷ rest) → IsUpperBound given_sooner x rest → w.at ≡ x.at → IsPermutation (w ∷ to) after
      → AllByRecursion (λ (z : Waiting T). AllByRecursion (λ (y : Waiting T). z.at ≤ y.at) from) to → AllByRecursion (λ (z : Waiting T). AllByRecursion (λ (y : Waiting T). z.at ≤ y.at) rest) after
  later_on next to after from rest x w waits small perm bound time pushed late =
      let each : AllByRecursion (λ (y : Waiting T). y.order < next) (x ∷ rest) = all_moved (λ y. y.order < next) from (x ∷ rest) perm waits.numbered.each in
      let few : AllByRecursion (λ (y : Waiting T). y.order < 2 ^ 64) (x ∷ rest) = weaker (λ y. y.order < next) (λ y. y.order < 2 ^ 64) (λ y lt. omega (arith, lt, small)) (x ∷ rest) each in
      let own : AllByRecursion (λ (y : Waiting T). w.at ≤ y.at) rest = weaker (λ y. x.at ≤ y.at) (λ y. w.at ≤ y.at) (λ y le. omega (arith, le, time)) rest (no_earlier x rest bound few.0 few.1) in
      all_moved (λ z. AllByRecursion (λ y. z.at ≤ y.at) rest) (w ∷ to) after pushed (own, weaker (λ z. AllByRecursion (λ y. z.at ≤ y.at) from) (λ z. AllByRecursion (λ y. z.at ≤ y.at) rest) (λ z h. (all_moved (λ y. z.at ≤ y.at) from (x ∷ rest) perm h).1) to late)
