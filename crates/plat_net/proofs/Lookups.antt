-- What stands at a place of a list, and what waits there.
use Rattle.std.proofs.Common.{◌≡◌, ℕ, zero, suc, ◌<◌, List, [], ◌∷◌, ◌++◌, length, map, set, get_or, true, false, Option, Some, None, refl, sym, ap, subst, arith}
use Rattle.std.specs.Prelude.{slice_get, is_some, IsSomeAnd}
use Rattle.std.proofs.lemmas.Option.{slice_get_read}
use mathlib.Core.Option.{some}
use lib.ListN.{get_elem?}

-- what is read at a place stands there
pub at_read : {A : Type 0} (xs : List A) (k : ℕ) (x : A) → k < length xs → x ≡ get_or xs k x → get_elem? xs k ≡ some x
at_read [] k x below is = absurd (omega arith)
at_read (y ∷ xs) zero x below is = ap some (sym is)
at_read (y ∷ xs) (suc k) x below is = at_read xs k x (omega arith) is

-- a place below the length has an item
pub row_in : {A : Type 0} (xs : List A) (k : ℕ) → k < length xs → (x : A) × (slice_get xs k ≡ Some x)
row_in [] k below = absurd (omega (arith, below))
row_in (x ∷ xs) zero below = (x, refl)
row_in (x ∷ xs) (suc k) below = row_in xs k (omega (arith, below))

-- something waits at a place
pub record Waits {A : Type 0} (xs : List (Option A)) (k : ℕ) : Type 0 where
  pub item : A
  pub at : get_elem? xs k ≡ some (Some item)
  pub within : k < length xs

pub waits : {A : Type 0} (xs : List (Option A)) (k : ℕ) → slice_get (map (λ x. is_some x) xs) k ≡ Some true → Waits xs k
waits [] k h = cc
waits (None ∷ xs) zero h = let no : false ≡ true = cc in cc (no)
waits (Some x ∷ xs) zero h = record { item = x; at = refl; within = omega arith }
waits (y ∷ xs) (suc k) h = let rest = waits xs k h in let w = rest.within in record { item = rest.item; at = rest.at; within = omega arith }

-- it waits no more once it is taken
pub map-set : {A B : Type 0} (f : A → B) (xs : List A) (k : ℕ) (v : A) → map f (set xs k v) ≡ set (map f xs) k (f v)
map-set f [] k v = refl
map-set f (x ∷ xs) zero v = refl
map-set f (x ∷ xs) (suc k) v = ap (λ l. f x ∷ l) (map-set f xs k v)

pub map-push : {A B : Type 0} (f : A → B) (xs : List A) (x : A) → map f (xs ++ x ∷ []) ≡ map f xs ++ f x ∷ []
map-push f [] x = refl
map-push f (y ∷ xs) x = ap (λ l. f y ∷ l) (map-push f xs x)

-- what stands at a place
pub at_index : {A : Type 0} (xs : List A) (k : ℕ) (d : A) → k < length xs → get_elem? xs k ≡ some (get_or xs k d)
at_index [] k d below = absurd (omega arith)
at_index (y ∷ xs) zero d below = refl
at_index (y ∷ xs) (suc k) d below = at_index xs k d (omega arith)

-- something stands there, so that the place is one of the list
pub some_below : {A : Type 0} (P : A → Type 0) (xs : List A) (k : ℕ) → IsSomeAnd (slice_get xs k) P → k < length xs
some_below P [] k h = absurd h
some_below P (x ∷ xs) zero h = omega arith
some_below P (x ∷ xs) (suc k) h = omega (arith, some_below P xs k h)

pub short_at : {A : Type 0} (xs : List A) (k : ℕ) (x : A) → slice_get xs k ≡ Some x → k < length xs
short_at [] k x at = cc
short_at (y ∷ xs) zero x at = omega arith
short_at (y ∷ xs) (suc k) x at = omega (arith, short_at xs k x at)

pub get_at : {A : Type 0} (xs : List A) (k : ℕ) (d : A) → k < length xs → slice_get xs k ≡ Some (get_or xs k d)
get_at [] k d below = absurd (omega arith)
get_at (y ∷ xs) zero d below = refl
get_at (y ∷ xs) (suc k) d below = get_at xs k d (omega arith)

-- the row that a loop over the rows reads
pub row_at : {A : Type 0} (rows xs : List A) (k : ℕ) (x : A) → rows ≡ xs → k < length rows → x ≡ get_or rows k x → slice_get xs k ≡ Some x
row_at rows xs k x same below is = subst (λ l. slice_get l k ≡ Some x) same (slice_get_read rows (length rows) k x refl below is)
