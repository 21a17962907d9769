-- One more element, and a list's beginning.
use Rattle.std.proofs.Common.{◌≡◌, List, [], ◌∷◌, ◌++◌, refl, ap, sym, subst, append_assoc}
use Rattle.tlm_model.specs.Each.{EachFrom, AtEach}

pub append_nil : {X : Type 0} (xs : List X) → xs ++ [] ≡ xs
append_nil [] = refl
append_nil (x ∷ xs) = ap (λ l. x ∷ l) (append_nil xs)

pub EachFrom-push : {X : Type 0} (P : List X → X → Type 0) (before xs : List X) (x : X) → EachFrom P before xs → P (before ++ xs) x → EachFrom P before (xs ++ x ∷ [])
EachFrom-push P before [] x h p = (subst (λ l. P l x) (append_nil before) p, tt)
EachFrom-push P before (y ∷ xs) x h p =
    (h.0, EachFrom-push P (before ++ y ∷ []) xs x h.1 (subst (λ l. P l x) (sym (append_assoc before (y ∷ []) xs)) p))

pub AtEach-push : {X : Type 0} (P : List X → X → Type 0) (xs : List X) (x : X) → AtEach P xs → P xs x → AtEach P (xs ++ x ∷ [])
AtEach-push P xs x h p = EachFrom-push P [] xs x h p

pub EachFrom-weaker : {X : Type 0} (P Q : List X → X → Type 0) → ((before : List X) (x : X) → P before x → Q before x) → (before xs : List X) → EachFrom P before xs → EachFrom Q before xs
EachFrom-weaker P Q f before [] e = tt
EachFrom-weaker P Q f before (x ∷ xs) e = (f before x e.0, EachFrom-weaker P Q f (before ++ x ∷ []) xs e.1)

pub EachFrom-front : {X : Type 0} (P : List X → X → Type 0) (before xs ys : List X) → EachFrom P before (xs ++ ys) → EachFrom P before xs
EachFrom-front P before [] ys h = tt
EachFrom-front P before (x ∷ xs) ys h = (h.0, EachFrom-front P (before ++ x ∷ []) xs ys h.1)

-- a list's beginning has what the list has at each element
pub AtEach-front : {X : Type 0} (P : List X → X → Type 0) (xs ys : List X) → AtEach P (xs ++ ys) → AtEach P xs
AtEach-front P xs ys h = EachFrom-front P [] xs ys h

EachFrom-at : {X : Type 0} (P : List X → X → Type 0) (before xs : List X) (x : X) (ys : List X) → EachFrom P before (xs ++ x ∷ ys) → P (before ++ xs) x
EachFrom-at P before [] x ys h = subst (λ l. P l x) (sym (append_nil before)) h.0
EachFrom-at P before (y ∷ xs) x ys h = subst (λ l. P l x) (append_assoc before (y ∷ []) xs) (EachFrom-at P (before ++ y ∷ []) xs x ys h.1)

-- what holds at each element holds at this one, with those before it
pub AtEach-at : {X : Type 0} (P : List X → X → Type 0) (xs : List X) (x : X) (ys : List X) → AtEach P (xs ++ x ∷ ys) → P xs x
AtEach-at P xs x ys h = EachFrom-at P [] xs x ys h
