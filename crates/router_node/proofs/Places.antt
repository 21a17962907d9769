-- The places of a line.
use Rattle.std.proofs.Common.{◌≡◌, ℕ, zero, suc, ◌+◌, ◌<◌, List, [], ◌∷◌, ◌++◌, length, take, drop, set, get_or, refl, sym, ap, subst, ◌∙◌, length-append, arith}
use Rattle.std.specs.List.{AllByRecursion, remove}
use Rattle.router_node.specs.Places.{StandsAt}

-- who stands at a place
pub split : {A : Type 0} (xs : List A) (i : ℕ) (x : A) → i < length xs → x ≡ get_or xs i x → xs ≡ take i xs ++ x ∷ drop (suc i) xs
split [] i x below is = absurd (omega (arith, below))
split (y ∷ xs) zero x below is = ap (λ (z : _). z ∷ xs) (sym is)
split (y ∷ xs) (suc i) x below is = ap (λ (l : List _). y ∷ l) (split xs i x (omega (arith, below)) is)

pub as_many : {A : Type 0} (xs : List A) (i : ℕ) → i < length xs → i ≡ length (take i xs)
as_many [] i below = absurd (omega (arith, below))
as_many (x ∷ xs) zero below = refl
as_many (x ∷ xs) (suc i) below = ap suc (as_many xs i (omega (arith, below)))

pub stands : {A : Type 0} (xs : List A) (i : ℕ) (x : A) → i < length xs → x ≡ get_or xs i x → StandsAt xs i x
stands xs i x below is = record { before = take i xs; rest = drop (suc i) xs; line = split xs i x below is; place = as_many xs i below }

pub take_next : {A : Type 0} (xs : List A) (i : ℕ) (x : A) → i < length xs → x ≡ get_or xs i x → take (suc i) xs ≡ take i xs ++ x ∷ []
take_next [] i x below is = absurd (omega (arith, below))
take_next (y ∷ xs) zero x below is = ap (λ (z : _). z ∷ []) (sym is)
take_next (y ∷ xs) (suc i) x below is = ap (λ (l : List _). y ∷ l) (take_next xs i x (omega (arith, below)) is)

pub is_within : {A : Type 0} (xs : List A) (i : ℕ) (x : A) → StandsAt xs i x → i < length xs
is_within xs i x s =
    let l : length xs ≡ length s.before + suc (length s.rest) = ap (λ (l : List _). length l) s.line ∙ length-append s.before (x ∷ s.rest) in
    let p = s.place in
    omega (arith, l, p)

-- another one there
set_at : {A : Type 0} (before rest : List A) (x y : A) → set (before ++ x ∷ rest) (length before) y ≡ before ++ y ∷ rest
set_at [] rest x y = refl
set_at (b ∷ before) rest x y = ap (λ (l : List _). b ∷ l) (set_at before rest x y)

set_here : {A : Type 0} (xs : List A) (i : ℕ) (x y : A) (s : StandsAt xs i x) → set xs i y ≡ s.before ++ y ∷ s.rest
set_here xs i x y s = ap (λ (l : List _). set l i y) s.line ∙ (ap (λ (k : ℕ). set (s.before ++ x ∷ s.rest) k y) s.place ∙ set_at s.before s.rest x y)

-- and one more after that
pub set_again : {A : Type 0} (xs : List A) (i : ℕ) (x y z : A) (s : StandsAt xs i x) → set (set xs i y) i z ≡ s.before ++ z ∷ s.rest
set_again xs i x y z s = set_here (set xs i y) i y z (record { before = s.before; rest = s.rest; line = set_here xs i x y s; place = s.place })

-- none there
pub take_at : {A : Type 0} (before rest : List A) → take (length before) (before ++ rest) ≡ before
take_at [] rest = refl
take_at (b ∷ before) rest = ap (λ (l : List _). b ∷ l) (take_at before rest)

drop_at : {A : Type 0} (before rest : List A) (x : A) → drop (suc (length before)) (before ++ x ∷ rest) ≡ rest
drop_at [] rest x = refl
drop_at (b ∷ before) rest x = drop_at before rest x

pub remove_here : {A : Type 0} (xs : List A) (i : ℕ) (x : A) (s : StandsAt xs i x) → remove xs i ≡ s.before ++ s.rest
remove_here xs i x s =
    ap (λ (l : List _). remove l i) s.line
    ∙ (ap (λ (k : ℕ). remove (s.before ++ x ∷ s.rest) k) s.place
    ∙ (ap (λ (l : List _). l ++ drop (suc (length s.before)) (s.before ++ x ∷ s.rest)) (take_at s.before (x ∷ s.rest)) ∙ ap (λ (l : List _). s.before ++ l) (drop_at s.before s.rest x)))

-- two lines that are the same
pub record IsSameLine {A : Type 0} (xs ys : List A) (x y : A) (zs ws : List A) : Type 0 where
  pub before : xs ≡ ys
  pub here : x ≡ y
  pub rest : zs ≡ ws

pub same_line : {A : Type 0} (xs ys : List A) (x y : A) (zs ws : List A) → length xs ≡ length ys → xs ++ x ∷ zs ≡ ys ++ y ∷ ws → IsSameLine xs ys x y zs ws
same_line [] [] x y zs ws l q = record { before = refl; here = cc; rest = cc }
same_line [] (b ∷ ys) x y zs ws l q = absurd (omega (arith, l))
same_line (a ∷ xs) [] x y zs ws l q = absurd (omega (arith, l))
same_line (a ∷ xs) (b ∷ ys) x y zs ws l q =
    let r = same_line xs ys x y zs ws (omega (arith, l)) cc in
    let e : a ≡ b = cc in
    let k = r.before in
    record { before = cc; here = r.here; rest = r.rest }

-- one stands at a place
pub same_there : {A : Type 0} (xs : List A) (i : ℕ) (x y : A) → StandsAt xs i x → StandsAt xs i y → x ≡ y
same_there xs i x y s t =
    let r = same_line s.before t.before x y s.rest t.rest (sym s.place ∙ t.place) (sym s.line ∙ t.line) in
    r.here

-- all of a line
pub all_before : {A : Type 0} (P : A → Type 0) (xs ys : List A) → AllByRecursion P (xs ++ ys) → AllByRecursion P xs
all_before P [] ys all = tt
all_before P (x ∷ xs) ys all = (all.0, all_before P xs ys all.1)

pub all_behind : {A : Type 0} (P : A → Type 0) (xs ys : List A) → AllByRecursion P (xs ++ ys) → AllByRecursion P ys
all_behind P [] ys all = all
all_behind P (x ∷ xs) ys all = all_behind P xs ys all.1

pub all_joined : {A : Type 0} (P : A → Type 0) (xs ys : List A) → AllByRecursion P xs → AllByRecursion P ys → AllByRecursion P (xs ++ ys)
all_joined P [] ys all more = more
all_joined P (x ∷ xs) ys all more = (all.0, all_joined P xs ys all.1 more)

module _ {A : Type 0} (P : A → Type 0) (xs : List A) (i : ℕ) (x : A) (s : StandsAt xs i x) (all : AllByRecursion P xs) where
  parts : AllByRecursion P (s.before ++ x ∷ s.rest)
  parts = subst (λ (l : List A). AllByRecursion P l) s.line all

  pub that_one : P x
  that_one = (all_behind P s.before (x ∷ s.rest) parts).0

  pub without : AllByRecursion P (remove xs i)
  without = subst (λ (l : List A). AllByRecursion P l) (sym (remove_here xs i x s)) (all_joined P s.before s.rest (all_before P s.before (x ∷ s.rest) parts) (all_behind P s.before (x ∷ s.rest) parts).1)

  pub with_another : (y z : A) → P z → AllByRecursion P (set (set xs i y) i z)
  with_another y z one = subst (λ (l : List A). AllByRecursion P l) (sym (set_again xs i x y z s)) (all_joined P s.before (z ∷ s.rest) (all_before P s.before (x ∷ s.rest) parts) (one, (all_behind P s.before (x ∷ s.rest) parts).1))
