-- The first element of a list that passes a test, and tests that no two elements pass.
use Rattle.std.proofs.Common.{◌≡◌, ℕ, zero, suc, ◌+◌, ◌<◌, ◌≤◌, Bool, true, false, cond, ltb, List, [], ◌∷◌, length, get_or, Option, None, Some, option_map, option_and_then, IsSomeAnd, All, AllPairs, find, position, count_by, refl, sym, ◌∙◌, ap, subst, zero-add, arith}
use Rattle.std.specs.List.{position_or_len}
use Rattle.std.specs.Option.{option_or}
use Rattle.std.proofs.lemmas.Bool.{cond-true, cond-false, false_from_ne_true, le-ltb, ltb-false}
use Rattle.std.proofs.lemmas.List.Sums.{fails_before_first, position_or_len_is, sum_by-cons}
use Rattle.std.proofs.lemmas.Option.{none-some, same_Some}

-- nothing was found: neither in the first place nor in the second
pub option_or_none : {A : Type 0} (o p : Option A) → option_or o p ≡ None → (o ≡ None) × (p ≡ None)
option_or_none None p e = (refl, e)
option_or_none (Some x) p e = absurd (none-some x (sym e))

pub option_map_none : {A B : Type 0} (f : A → B) (o : Option A) → option_map f o ≡ None → o ≡ None
option_map_none f None e = refl
option_map_none f (Some x) e = absurd (none-some (f x) (sym e))

pub cond_none : {A : Type 0} (b : Bool) (x : A) (o : Option A) → cond b (Some x) o ≡ None → (b ≡ false) × (o ≡ None)
cond_none true x o e = absurd (none-some x (sym e))
cond_none false x o e = (refl, e)

-- what is known of the value of an `Option` that was mapped, chained or tested
pub map_parts : {A B : Type 0} (f : A → B) (o : Option A) (P : B → Type 0) → IsSomeAnd (option_map f o) P → (x : A) × (o ≡ Some x) × P (f x)
map_parts f None P h = absurd h
map_parts f (Some x) P h = (x, refl, h)

pub map_from : {A B : Type 0} (f : A → B) (o : Option A) (P : B → Type 0) (x : A) → o ≡ Some x → P (f x) → IsSomeAnd (option_map f o) P
map_from {A} f o P x e h = subst (λ (r : Option A). IsSomeAnd (option_map f r) P) (sym e) h

pub then_parts : {A B : Type 0} (f : A → Option B) (o : Option A) (P : B → Type 0) → IsSomeAnd (option_and_then f o) P → (x : A) × (o ≡ Some x) × IsSomeAnd (f x) P
then_parts f None P h = absurd h
then_parts f (Some x) P h = (x, refl, h)

pub then_from : {A B : Type 0} (f : A → Option B) (o : Option A) (P : B → Type 0) (x : A) → o ≡ Some x → IsSomeAnd (f x) P → IsSomeAnd (option_and_then f o) P
then_from {A} f o P x e h = subst (λ (r : Option A). IsSomeAnd (option_and_then f r) P) (sym e) h

pub cond_parts : {A : Type 0} (b : Bool) (x : A) (P : A → Type 0) → IsSomeAnd (cond b (Some x) None) P → (b ≡ true) × P x
cond_parts true x P h = (refl, h)
cond_parts false x P h = absurd h

pub cond_from : {A : Type 0} (b : Bool) (x : A) (P : A → Type 0) → b ≡ true → P x → IsSomeAnd (cond b (Some x) None) P
cond_from {A} b x P e h = subst (λ (t : Bool). IsSomeAnd (cond t (Some x) None) P) (sym e) h

-- no element passes where the first place is none
pub position_none : {A : Type 0} (p : A → Bool) (xs : List A) → position p xs ≡ None → (k : ℕ) (d : A) → k < length xs → p (get_or xs k d) ≡ false
position_none p xs e k d h =
    let off = cond_none (ltb (position_or_len p xs) (length xs)) (position_or_len p xs) None e in
    let past : length xs ≤ position_or_len p xs = ltb-false (position_or_len p xs) (length xs) off.0 in
    fails_before_first p xs k d (omega arith)

pub position_is_none : {A : Type 0} (p : A → Bool) (xs : List A) (d : A) → ((k : ℕ) → k < length xs → p (get_or xs k d) ≡ false) → position p xs ≡ None
position_is_none p xs d h =
    let past : position_or_len p xs ≡ length xs = position_or_len_is p xs (length xs) d (omega arith) h (λ below. absurd (omega arith)) in
    cond-false (ltb (position_or_len p xs) (length xs)) (Some (position_or_len p xs)) None (le-ltb (position_or_len p xs) (length xs) (omega arith))

-- the element stands in the list, and passes the test
pub record IsFound {A : Type 0} (p : A → Bool) (xs : List A) (x : A) : Type 0 where
  pub place : ℕ
  pub inside : place < length xs
  pub is : get_or xs place x ≡ x
  pub passes : p x ≡ true

found_behind : {A : Type 0} (p : A → Bool) (y : A) (xs : List A) (x : A) → IsFound p xs x → IsFound p (y ∷ xs) x
found_behind p y xs x h = record { place = suc h.place; inside = omega arith; is = h.is; passes = h.passes }

found_first : {A : Type 0} (p : A → Bool) (y : A) (xs : List A) (x : A) → p y ≡ true → y ≡ x → IsFound p (y ∷ xs) x
found_first p y xs x t e = record { place = 0; inside = omega arith; is = e; passes = ap p (sym e) ∙ t }

found_cons : {A : Type 0} (p : A → Bool) (y : A) (xs : List A) (x : A) (b : Bool) → p y ≡ b → cond b (Some y) (find p xs) ≡ Some x → (find p xs ≡ Some x → IsFound p xs x) → IsFound p (y ∷ xs) x
found_cons p y xs x true t e rest = found_first p y xs x t (same_Some y x e)
found_cons p y xs x false t e rest = found_behind p y xs x (rest e)

pub find_found : {A : Type 0} (p : A → Bool) (xs : List A) (x : A) → find p xs ≡ Some x → IsFound p xs x
find_found p [] x e = absurd (none-some x e)
find_found p (y ∷ xs) x e = found_cons p y xs x (p y) refl e (find_found p xs x)

pub All-found : {A : Type 0} (P : A → Type 0) (p : A → Bool) (xs : List A) (x : A) → All P xs → IsFound p xs x → P x
All-found P p xs x each h = subst P h.is (each h.place x h.inside)

-- no two elements pass the test
abbrev pub PassesOnce : {A : Type 0} → (A → Bool) → List A → Type 0
PassesOnce p xs = AllPairs (λ x y. p x ≡ true → p y ≡ true → ⊥) xs

once_behind : {A : Type 0} (p : A → Bool) (y : A) (xs : List A) → PassesOnce p (y ∷ xs) → PassesOnce p xs
once_behind p y xs h i j d below inside = h (suc i) (suc j) d (omega arith) (omega arith)

-- where only one passes, the one that passes is the first
pub find_at : {A : Type 0} (p : A → Bool) (xs : List A) (x : A) (k : ℕ) → PassesOnce p xs → k < length xs → get_or xs k x ≡ x → p x ≡ true → find p xs ≡ Some x
find_at p [] x k once inside is passes = absurd (omega arith)
find_at p (y ∷ xs) x zero once inside is passes = cond-true (p y) (Some y) (find p xs) (ap p is ∙ passes) ∙ ap Some is
find_at p (y ∷ xs) x (suc k) once inside is passes =
    let off : p y ≡ false = false_from_ne_true (p y) (λ t. once 0 (suc k) x (omega arith) inside t (ap p is ∙ passes)) in
    cond-false (p y) (Some y) (find p xs) off ∙ find_at p xs x k (once_behind p y xs once) (omega arith) is passes

pub find_only : {A : Type 0} (p q : A → Bool) (xs : List A) (x : A) → PassesOnce p xs → IsFound q xs x → p x ≡ true → find p xs ≡ Some x
find_only p q xs x once h passes = find_at p xs x h.place once h.inside h.is passes

-- one more element in front, which passes or doesn't
pub count_yes : {A : Type 0} (p : A → Bool) (y : A) (xs : List A) → p y ≡ true → count_by p (y ∷ xs) ≡ 1 + count_by p xs
count_yes p y xs t =
    sum_by-cons (λ z. cond (p z) 1 0) y xs ∙ ap (λ (n : ℕ). n + count_by p xs) (cond-true (p y) 1 0 t)

pub count_no : {A : Type 0} (p : A → Bool) (y : A) (xs : List A) → p y ≡ false → count_by p (y ∷ xs) ≡ count_by p xs
count_no p y xs t =
    sum_by-cons (λ z. cond (p z) 1 0) y xs ∙ ap (λ (n : ℕ). n + count_by p xs) (cond-false (p y) 1 0 t) ∙ zero-add (count_by p xs)

rest_of_count : {A : Type 0} (p : A → Bool) (y : A) (xs : List A) → count_by p xs ≤ count_by p (y ∷ xs)
rest_of_count p y xs = omega (arith, sum_by-cons (λ z. cond (p z) 1 0) y xs)

-- an element that passes is counted
count_at : {A : Type 0} (p : A → Bool) (xs : List A) (k : ℕ) (d : A) → k < length xs → p (get_or xs k d) ≡ true → 1 ≤ count_by p xs
count_at p [] k d inside t = absurd (omega arith)
count_at p (y ∷ xs) zero d inside t = omega (arith, count_yes p y xs t)
count_at p (y ∷ xs) (suc k) d inside t =
    let rest = count_at p xs k d (omega arith) t in
    omega (arith, rest_of_count p y xs)

-- no two pass where at most one is counted
pub once_from_count : {A : Type 0} (p : A → Bool) (xs : List A) → count_by p xs ≤ 1 → PassesOnce p xs
once_from_count p [] h i j d below inside s t = omega arith
once_from_count p (y ∷ xs) h i zero d below inside s t = omega arith
once_from_count p (y ∷ xs) h zero (suc j) d below inside s t =
    let more = count_at p xs j d (omega arith) t in
    omega (arith, count_yes p y xs s)
once_from_count p (y ∷ xs) h (suc i) (suc j) d below inside s t =
    let rest : count_by p xs ≤ 1 = omega (arith, rest_of_count p y xs) in
    once_from_count p xs rest i j d (omega arith) (omega arith) s t
