-- A place in a list: what stands before it, at it and behind it.
use Rattle.std.proofs.Common.{◌≡◌, ℕ, zero, suc, ◌+◌, ◌<◌, ◌≤◌, Bool, true, false, cond, not, ◌||◌, List, [], ◌∷◌, ◌++◌, length, get_or, take, drop, refl, sym, ap, ◌∙◌, subst, arith, Option, Some, None}
use Rattle.std.specs.List.{All, HoldsAt, count_by, position_or_len, position, list_any, find}
use Rattle.std.specs.Option.{IsSome, option_map}
use Rattle.std.proofs.lemmas.List.{set-get_or, set_split, get_or_at, length-take-le}
use Rattle.std.proofs.lemmas.List.Elements.{All-head, All-tail, All-nil, All-cons}
use Rattle.std.proofs.lemmas.List.Sums.{sum_by-cons}
use Rattle.std.proofs.lemmas.List.Quantifiers.{position-Some}
use Rattle.std.proofs.lemmas.Bool.{cond-true, lt-ltb}

module _ {X : Type 0} where
  -- where one passes, the first that does stands in the list
  passing : (p : X → Bool) (x : X) (xs : List X) (b : Bool) → p x ≡ b → (1 ≤ count_by p xs → position_or_len p xs < length xs) → 1 ≤ count_by p (x ∷ xs) → cond (not b) (1 + position_or_len p xs) 0 < suc (length xs)
  passing p x xs true e rest h = omega arith
  passing p x xs false e rest h = let s = sum_by-cons (λ y. cond {A = ℕ} (p y) 1 0) x xs in let z : cond {A = ℕ} (p x) 1 0 ≡ 0 = ap (λ (c : Bool). cond {A = ℕ} c 1 0) e in let q = rest (omega arith) in omega arith

  pub first_passes : (p : X → Bool) (xs : List X) → 1 ≤ count_by p xs → position_or_len p xs < length xs
  first_passes p [] h = absurd (omega arith)
  first_passes p (x ∷ xs) h = passing p x xs (p x) refl (first_passes p xs) h

  pub is_found : (p : X → Bool) (xs : List X) → 1 ≤ count_by p xs → IsSome (position p xs)
  is_found p xs h =
      let t = lt-ltb (position_or_len p xs) (length xs) (first_passes p xs h) in
      subst (λ (o : Option ℕ). IsSome o) (sym (cond-true _ (Some (position_or_len p xs)) None t)) refl

  pub split_at : (xs : List X) (i : ℕ) (d : X) → i < length xs → xs ≡ take i xs ++ get_or xs i d ∷ drop (suc i) xs
  split_at xs i d h = sym (set-get_or xs i d) ∙ set_split xs i (get_or xs i d) h

  pub position_within : (p : X → Bool) (xs : List X) (i : ℕ) → position p xs ≡ Some i → i < length xs
  position_within p [] i e = cc
  position_within p (x ∷ xs) i e = (position-Some p (x ∷ xs) i x e).0

  -- two readings of one place
  pub read_twice : (xs : List X) (i : ℕ) (x y : X) → i < length xs → x ≡ get_or xs i x → y ≡ get_or xs i y → x ≡ y
  read_twice [] i x y h e f = absurd (omega arith)
  read_twice (z ∷ zs) zero x y h e f = e ∙ sym f
  read_twice (z ∷ zs) (suc i) x y h e f = read_twice zs i x y (omega arith) e f

  -- what stands between the parts of a list is read there
  pub read_middle : (xs : List X) (i : ℕ) (x : X) → i < length xs → xs ≡ take i xs ++ x ∷ drop (suc i) xs → x ≡ get_or xs i x
  read_middle xs i x below here =
      let t = length-take-le i xs (omega arith) in
      sym (ap (λ (ys : List X). get_or ys i x) here ∙ get_or_at (take i xs) x (drop (suc i) xs) x i (omega arith))

  -- what holds at a place holds of what was read there
  pub at_place : (P : X → Type 0) (ws xs : List X) (x : X) (i : ℕ) → HoldsAt P ws i → ws ≡ xs → x ≡ get_or xs i x → P x
  at_place P ws xs x i h same read = subst P (ap (λ (ys : List X). get_or ys i x) same ∙ sym read) (h x)

  finding : {Y : Type 0} (f : X → Y) (p : X → Bool) (x : X) (xs : List X) (b : Bool) → (list_any p xs ≡ true → IsSome (option_map f (find p xs))) → (b || list_any p xs) ≡ true → IsSome (option_map f (cond b (Some x) (find p xs)))
  finding f p x xs true rest e = refl
  finding f p x xs false rest e = rest e

  -- where one passes, the first that does is found
  pub finds : {Y : Type 0} (f : X → Y) (p : X → Bool) (xs : List X) → list_any p xs ≡ true → IsSome (option_map f (find p xs))
  finds f p [] e = cc
  finds f p (x ∷ xs) e = finding f p x xs (p x) (finds f p xs) e

  find_at : (p : X → Bool) (xs : List X) (i : ℕ) (x : X) → i < length xs → ((k : ℕ) → k < i → p (get_or xs k x) ≡ false) → p (get_or xs i x) ≡ true → find p xs ≡ Some (get_or xs i x)
  find_at p [] i x h before here = absurd (omega arith)
  find_at p (z ∷ zs) zero x h before here = ap (λ (b : Bool). cond b (Some z) (find p zs)) here
  find_at p (z ∷ zs) (suc i) x h before here = ap (λ (b : Bool). cond b (Some z) (find p zs)) (before 0 (omega arith)) ∙ find_at p zs i x (omega arith) (λ k below. before (suc k) (omega arith)) here

  -- the first place gives the first element
  pub find_first : (p : X → Bool) (xs : List X) (i : ℕ) (x : X) → position p xs ≡ Some i → x ≡ get_or xs i x → find p xs ≡ Some x
  find_first p xs i x e read = let f = position-Some p xs i x e in find_at p xs i x f.0 f.2 f.1 ∙ ap Some (sym read)

  pub found_any : (p : X → Bool) (xs : List X) (x : X) → find p xs ≡ Some x → list_any p xs ≡ true
  found_any p [] x e = cc
  found_any p (z ∷ zs) x e = any_one (p z) e (found_any p zs x)
    where
      any_one : (b : Bool) → cond b (Some z) (find p zs) ≡ Some x → (find p zs ≡ Some x → list_any p zs ≡ true) → (b || list_any p zs) ≡ true
      any_one true e rest = refl
      any_one false e rest = rest e

  -- what holds of each element holds of each in a front, and of each behind
  pub All-left : (P : X → Type 0) (xs ys : List X) → All P (xs ++ ys) → All P xs
  All-left P [] ys h = All-nil P
  All-left P (x ∷ xs) ys h = All-cons P x xs (All-head P x (xs ++ ys) h) (All-left P xs ys (All-tail P x (xs ++ ys) h))

  pub All-right : (P : X → Type 0) (xs ys : List X) → All P (xs ++ ys) → All P ys
  All-right P [] ys h = h
  All-right P (x ∷ xs) ys h = All-right P xs ys (All-tail P x (xs ++ ys) h)

  -- where a list is split at a place, what stands between is what is read there
  pub split_reads : (xs : List X) (i : ℕ) (x d : X) → i < length xs → xs ≡ take i xs ++ x ∷ drop (suc i) xs → get_or xs i d ≡ x
  split_reads xs i x d h here = ap (λ (ys : List X). get_or ys i d) here ∙ get_or_at (take i xs) x (drop (suc i) xs) d i (length-take-le i xs (omega arith))
