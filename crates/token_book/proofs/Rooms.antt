-- A wallet has room for each object of a list that is no longer than its places.
use Rattle.std.proofs.Common.{◌≡◌, ℕ, zero, suc, ◌+◌, ◌<◌, ◌≤◌, ◌⊎◌, Bool, true, false, T, ◌&&◌, ◌||◌, List, [], ◌∷◌, length, map, Option, Some, None, refl, sym, ap, ◌∙◌, subst, inl, inr, ⊎_elim, arith}
use Rattle.std.specs.Prelude.{IsSome, is_some}
use Rattle.std.specs.List.{list_any}
use Rattle.std.specs.Ordering.{nat_cmp, eq_by_cmp, is_lt}
use Rattle.std.specs.Cmp.{nat_cmp_is}
use Rattle.std.specs.declared.cmp.Ordering.{Ordering}
use Rattle.std.specs.declared.cmp.Ordering.TheVariants.{Equal, Greater}
use Rattle.std.specs.FinMap as fin
use Rattle.std.specs.FinMap.{entries_sorted, len-entries, contains_key-keys, get-empty}
use Rattle.std.proofs.lemmas.Bool.{cases_eq, cases_lt, eq-eqb}
use Rattle.std.proofs.lemmas.List.{length-map}
use mathlib.Core.Option.{some-injective, some-ne-none}
use Rattle.view_lists.specs.Lists.{Has, AreDistinct}
use Rattle.view_lists.proofs.Distinct.{length-distinct}
use Rattle.atomic_table.specs.Seated.{TableId}
use Rattle.token_book.specs.Account.{Slip}
use Rattle.token_book.specs.Pocket.{Pocket, with_pocket_in, with_token, without_rights, without_ticket}
use Rattle.token_book.specs.Purse.{Purse, empty_purse, HasPlace, HasRoom, left_in, left_of, with_pocket, pocket_of, pulled, pulled_rights, put_in, with_more}
use Rattle.token_book.proofs.Purses.{eq_by_cmp-nat, get-with_pocket}

both_left : (a b : Bool) → T (a && b) → T a
both_left true b h = tt
both_left false b h = h

both_right : (a b : Bool) → T (a && b) → T b
both_right true b h = h
both_right false b h = absurd h

below_is : (x y : ℕ) → T (is_lt (nat_cmp x y)) → x < y
below_is x y h =
    ⊎_elim
    (λ (less : x < y). less)
    (λ (rest : y ≤ x). ⊎_elim
    (λ (same : x ≡ y). absurd (subst (λ (r : Ordering). T (is_lt r)) (sym (nat_cmp_is x y Equal same)) h))
    (λ (other : x ≡ y → ⊥). let more : y < x = omega arith in absurd (subst (λ (r : Ordering). T (is_lt r)) (sym (nat_cmp_is x y Greater more)) h))
    (cases_eq x y))
    (cases_lt x y)

below_keys : (x : ℕ) (es : List (ℕ × Pocket)) → T (fin.Entries.below_all nat_cmp x es) → (y : ℕ) → Has (map (λ e. e.0) es) y → x < y
below_keys x [] h y has = absurd (some-ne-none y (sym has.1))
below_keys x (e ∷ es) h y (zero, is) = subst (λ (k : ℕ). x < k) (some-injective e.0 y is) (below_is x e.0 (both_left _ _ h))
below_keys x (e ∷ es) h y (suc k, is) = below_keys x es (both_right _ _ h) y (k, is)

distinct_keys : (es : List (ℕ × Pocket)) → T (fin.is_sorted nat_cmp es) → AreDistinct (map (λ e. e.0) es)
distinct_keys [] h = tt
distinct_keys (e ∷ es) h = ((λ has. let less = below_keys e.0 es (both_left _ _ h) e.0 has in omega arith), distinct_keys es (both_right _ _ h))

any_has : (ks : List ℕ) (q : ℕ) → Has ks q → list_any (eq_by_cmp nat_cmp q) ks ≡ true
any_has [] q has = absurd (some-ne-none q (sym has.1))
any_has (k ∷ ks) q (zero, is) = let here : eq_by_cmp nat_cmp q k ≡ true = eq_by_cmp-nat q k ∙ eq-eqb q k (sym (some-injective k q is)) in subst (λ (b : Bool). (b || list_any (eq_by_cmp nat_cmp q) ks) ≡ true) (sym here) refl
any_has (k ∷ ks) q (suc j, is) = let rest = any_has ks q (j, is) in elim (eq_by_cmp nat_cmp q k) as (λ b. (b || list_any (eq_by_cmp nat_cmp q) ks) ≡ true) [ true ↦ refl | false ↦ rest ]

has_place : (w : Purse) (q : ℕ) → Has (fin.keys w.held) q → HasPlace w q
has_place w q has = contains_key-keys w.held q ∙ any_has (fin.keys w.held) q has

-- where all objects with a place are in a list that is no longer than the places, each object of the list has room
pub room_within : (w : Purse) (l : List ℕ) → length l ≤ w.places → ((q : ℕ) → HasPlace w q → Has l q) → (o : ℕ) → Has l o → HasRoom w o
room_within w l few within o in_l = one (is_some (fin.get w.held o)) refl
  where
    one : (b : Bool) → is_some (fin.get w.held o) ≡ b → HasRoom w o
    one true is = inl is
    one false is =
        let apart : Has (fin.keys w.held) o → ⊥ = λ has. (let e : false ≡ true = sym is ∙ has_place w o has in cc (e)) in
        let inside : (q : ℕ) → Has (o ∷ fin.keys w.held) q → Has l q = λ q has. in_front q has in
        let short = length-distinct (o ∷ fin.keys w.held) l (apart, distinct_keys (fin.entries w.held) (entries_sorted w.held)) inside in
        inr (omega (arith, len-entries w.held, length-map (fin.entries w.held) (λ (e : ℕ × Pocket). e.0)))
      where
        in_front : (q : ℕ) → Has (o ∷ fin.keys w.held) q → Has l q
        in_front q (zero, is) = subst (λ (k : ℕ). Has l k) (some-injective o q is) in_l
        in_front q (suc k, is) = within q (has_place w q (k, is))

-- no object has a place in an empty wallet
pub place-empty : (places q : ℕ) → HasPlace (empty_purse places) q → ⊥
place-empty places q has = let e : false ≡ true = sym (ap (λ (x : Option Pocket). is_some x) (get-empty nat_cmp q)) ∙ has in cc (e)

-- who has a place after one object has another pocket had one, or is this object
place-with_pocket : (w : Purse) (o : ℕ) (p : Pocket) (q : ℕ) → HasPlace (with_pocket w o p) q → (q ≡ o) ⊎ HasPlace w q
place-with_pocket w o p q has =
    ⊎_elim
    (λ (gone : (q ≡ o) × (p.left + p.bytes ≡ 0) × (fin.get (with_pocket w o p).held q ≡ None)). inl gone.0)
    (λ (rest : ((q ≡ o) × (fin.get (with_pocket w o p).held q ≡ Some p)) ⊎ ((q ≡ o → ⊥) × (fin.get (with_pocket w o p).held q ≡ fin.get w.held q))). ⊎_elim
    (λ (here : (q ≡ o) × (fin.get (with_pocket w o p).held q ≡ Some p)). inl here.0)
    (λ (else : (q ≡ o → ⊥) × (fin.get (with_pocket w o p).held q ≡ fin.get w.held q)). inr (sym (ap (λ (x : Option Pocket). is_some x) else.1) ∙ has))
    rest)
    (get-with_pocket w o p q)

pub place-pulled : (table : TableId) (w : Purse) (o bytes q : ℕ) → HasPlace (pulled table w o bytes) q → (q ≡ o) ⊎ HasPlace w q
place-pulled table w o bytes q has = place-with_pocket w o (without_ticket bytes (pocket_of table w o)) q has

some_pocket : (o : Option Pocket) → 0 < left_in o → IsSome o
some_pocket None left = absurd (omega (arith, left))
some_pocket (Some p) left = refl

-- an object of which a ticket is left has a place
pub left-place : (w : Purse) (o : ℕ) → 0 < left_of w o → HasPlace w o
left-place w o left = some_pocket (fin.get w.held o) left

-- where there was a ticket, all that have a place after it was pulled had one
pub held-pulled : (table : TableId) (w v : Purse) (o bytes : ℕ) → v ≡ pulled table w o bytes → 0 < left_of w o → (q : ℕ) → HasPlace v q → HasPlace w q
held-pulled table w v o bytes is left q has = ⊎_elim
    (λ (same : q ≡ o). subst (HasPlace w) (sym same) (left-place w o left))
    (λ (held : HasPlace w q). held)
    (place-pulled table w o bytes q (subst (λ (u : Purse). HasPlace u q) is has))

-- and so where several were pulled at once
pub held-pulled_rights : (table : TableId) (w v : Purse) (o tickets bytes : ℕ) → v ≡ pulled_rights table w o tickets bytes → 0 < left_of w o → (q : ℕ) → HasPlace v q → HasPlace w q
held-pulled_rights table w v o tickets bytes is left q has = ⊎_elim
    (λ (same : q ≡ o). subst (HasPlace w) (sym same) (left-place w o left))
    (λ (held : HasPlace w q). held)
    (place-with_pocket w o (without_rights tickets bytes (pocket_of table w o)) q (subst (λ (u : Purse). HasPlace u q) is has))

pub place-put_in : (w : Purse) (t : Slip) (q : ℕ) → HasPlace (put_in w t) q → (q ≡ t.owner) ⊎ HasPlace w q
place-put_in w t q has = place-with_pocket w t.owner (with_token t (pocket_of t.table w t.owner)) q has

pub place-with_more : (table : TableId) (w : Purse) (o : ℕ) (p : Pocket) (q : ℕ) → HasPlace (with_more table w o p) q → (q ≡ o) ⊎ HasPlace w q
place-with_more table w o p q has = place-with_pocket w o (with_pocket_in (pocket_of table w o) p) q has
