-- The list of a wallet's places, as the map that it stands for.
use Rattle.std.proofs.Common.{◌≡◌, ◌≢◌, ℕ, zero, suc, ◌+◌, ◌<◌, ◌==◌, true, false, cond, List, [], ◌∷◌, ◌++◌, length, drop, Option, Some, None, refl, sym, ap, ◌∙◌, subst, ⊎_elim, arith}
use Rattle.std.specs.Prelude.{slice_get, slice_set, is_some, IsSome, remove}
use Rattle.std.specs.Ordering.{nat_cmp, eq_by_cmp}
use Rattle.std.specs.Cmp.{nat_cmp_total}
use Rattle.std.proofs.lemmas.Bool.{cases_eq, cond-true, cond-false, eq-eqb, ne_eqb}
use Rattle.std.specs.FinMap as map
use Rattle.std.specs.FinMap.{FinMap, empty_of_len, from_entries_push, get-from_entries, len-empty, len-insert, same_map, nat_cmp-IsAntisymmetric}
use Rattle.token_book.specs.Pocket.{Pocket}
use Rattle.token_book.specs.Purse.{Purse, empty_purse, purse, left_in, bytes_left_in, left_of, bytes_of, HasPlace, HasRoom, with_pocket, AreApart, AreFull}
use Rattle.token_book.proofs.Purses.{eq_by_cmp-nat, get-inserted, get-removed}

-- what is looked for and stands in front is found, and else it is looked for behind
find-here : (q : ℕ) (e : ℕ × Pocket) (es : List (ℕ × Pocket)) → q ≡ e.0 → map.find nat_cmp q (e ∷ es) ≡ Some e.1
find-here q e es is = cond-true (eq_by_cmp nat_cmp q e.0) (Some e.1) (map.find nat_cmp q es) (eq_by_cmp-nat q e.0 ∙ eq-eqb q e.0 is)

find-later : (q : ℕ) (e : ℕ × Pocket) (es : List (ℕ × Pocket)) → q ≢ e.0 → map.find nat_cmp q (e ∷ es) ≡ map.find nat_cmp q es
find-later q e es far = cond-false (eq_by_cmp nat_cmp q e.0) (Some e.1) (map.find nat_cmp q es) (eq_by_cmp-nat q e.0 ∙ ne_eqb q e.0 far)

-- what is looked for from its place on is found there
pub find-drop : (es : List (ℕ × Pocket)) (i : ℕ) (e : ℕ × Pocket) (q : ℕ) → slice_get es i ≡ Some e → q ≡ e.0 → map.find nat_cmp q (drop i es) ≡ Some e.1
find-drop [] i e q at is = absurd (cc (at))
find-drop (x ∷ xs) zero e q at is = let same : x ≡ e = cc (at) in find-here q x xs (is ∙ ap (λ (y : ℕ × Pocket). y.0) (sym same)) ∙ ap (λ (y : ℕ × Pocket). Some y.1) same
find-drop (x ∷ xs) (suc i) e q at is = find-drop xs i e q at is

-- where it is found from a place on, that place is one of the list
pub find_within : (es : List (ℕ × Pocket)) (i : ℕ) (q : ℕ) → IsSome (map.find nat_cmp q (drop i es)) → i < length es
find_within [] zero q some = cc (some)
find_within [] (suc i) q some = cc (some)
find_within (x ∷ xs) zero q some = omega arith
find_within (x ∷ xs) (suc i) q some = let below = find_within xs i q some in omega (arith, below)

-- an object that isn't found stands nowhere
not_here : (q : ℕ) (e : ℕ × Pocket) (es : List (ℕ × Pocket)) → map.find nat_cmp q (e ∷ es) ≡ None → q ≢ e.0
not_here q e es none is = let x : Some e.1 ≡ None = sym (find-here q e es is) ∙ none in cc (x)

not_later : (q : ℕ) (e : ℕ × Pocket) (es : List (ℕ × Pocket)) → map.find nat_cmp q (e ∷ es) ≡ None → map.find nat_cmp q es ≡ None
not_later q e es none = sym (find-later q e es (not_here q e es none)) ∙ none

not_at : (es : List (ℕ × Pocket)) (i : ℕ) (e : ℕ × Pocket) (q : ℕ) → map.find nat_cmp q es ≡ None → slice_get es i ≡ Some e → q ≢ e.0
not_at [] i e q none at is = cc (at)
not_at (x ∷ xs) zero e q none at is = let same : x ≡ e = cc (at) in not_here q x xs none (is ∙ ap (λ (y : ℕ × Pocket). y.0) (sym same))
not_at (x ∷ xs) (suc i) e q none at is = not_at xs i e q (not_later q x xs none) at is

-- what is found after one place was taken out
pub find-remove : (es : List (ℕ × Pocket)) (i : ℕ) (e : ℕ × Pocket) (q : ℕ) → AreApart es → slice_get es i ≡ Some e → map.find nat_cmp q (remove es i) ≡ cond (q == e.0) None (map.find nat_cmp q es)
find-remove [] i e q apart at = absurd (cc (at))
find-remove (x ∷ xs) zero e q apart at =
    let same : x ≡ e = cc (at) in
    ⊎_elim
    (λ (is : q ≡ x.0). ap (λ (k : ℕ). map.find nat_cmp k xs) is ∙ apart.0 ∙ sym (cond-true (q == e.0) None (map.find nat_cmp q (x ∷ xs)) (eq-eqb q e.0 (is ∙ ap (λ (y : ℕ × Pocket). y.0) same))))
    (λ (no : q ≢ x.0). sym (cond-false (q == e.0) None (map.find nat_cmp q (x ∷ xs)) (ne_eqb q e.0 (λ k. no (k ∙ ap (λ (y : ℕ × Pocket). y.0) (sym same)))) ∙ find-later q x xs no))
    (cases_eq q x.0)
find-remove (x ∷ xs) (suc i) e q apart at =
    ⊎_elim
    (λ (is : q ≡ x.0).
    find-here q x (remove xs i) is
    ∙ sym (cond-false (q == e.0) None (map.find nat_cmp q (x ∷ xs)) (ne_eqb q e.0 (λ k. not_at xs i e x.0 apart.0 at (sym is ∙ k))) ∙ find-here q x xs is))
    (λ (no : q ≢ x.0).
    find-later q x (remove xs i) no ∙ find-remove xs i e q apart.1 at ∙ ap (λ (o : Option Pocket). cond (q == e.0) None o) (sym (find-later q x xs no)))
    (cases_eq q x.0)

-- an object that isn't found isn't found after one place was taken out
find-remove_absent : (es : List (ℕ × Pocket)) (i : ℕ) (e : ℕ × Pocket) (q : ℕ) → AreApart es → slice_get es i ≡ Some e → map.find nat_cmp q es ≡ None → map.find nat_cmp q (remove es i) ≡ None
find-remove_absent es i e q apart at none =
    find-remove es i e q apart at ∙ ap (λ (o : Option Pocket). cond (q == e.0) None o) none
    ∙ elim (q == e.0) as (λ b. cond {A = Option Pocket} b None None ≡ None) [ true ↦ refl | false ↦ refl ]

pub AreApart-remove : (es : List (ℕ × Pocket)) (i : ℕ) (e : ℕ × Pocket) → AreApart es → slice_get es i ≡ Some e → AreApart (remove es i)
AreApart-remove [] i e apart at = absurd (cc (at))
AreApart-remove (x ∷ xs) zero e apart at = apart.1
AreApart-remove (x ∷ xs) (suc i) e apart at = (find-remove_absent xs i e x.0 apart.1 at apart.0, AreApart-remove xs i e apart.1 at)

pub AreFull-remove : (es : List (ℕ × Pocket)) (i : ℕ) (e : ℕ × Pocket) → AreFull es → slice_get es i ≡ Some e → AreFull (remove es i)
AreFull-remove [] i e full at = absurd (cc (at))
AreFull-remove (x ∷ xs) zero e full at = full.1
AreFull-remove (x ∷ xs) (suc i) e full at = (full.0, AreFull-remove xs i e full.1 at)

-- one place more, of an object that has none
find-push_absent : (es : List (ℕ × Pocket)) (k : ℕ) (p : Pocket) (q : ℕ) → map.find nat_cmp q es ≡ None → q ≢ k → map.find nat_cmp q (es ++ (k, p) ∷ []) ≡ None
find-push_absent [] k p q none far = find-later q (k, p) [] far
find-push_absent (x ∷ xs) k p q none far = find-later q x (xs ++ (k, p) ∷ []) (not_here q x xs none) ∙ find-push_absent xs k p q (not_later q x xs none) far

pub AreApart-push : (es : List (ℕ × Pocket)) (k : ℕ) (p : Pocket) → AreApart es → map.find nat_cmp k es ≡ None → AreApart (es ++ (k, p) ∷ [])
AreApart-push [] k p apart none = (refl, tt)
AreApart-push (x ∷ xs) k p apart none = (find-push_absent xs k p x.0 apart.0 (λ is. not_here k x xs none (sym is)), AreApart-push xs k p apart.1 (not_later k x xs none))

pub AreFull-push : (es : List (ℕ × Pocket)) (k : ℕ) (p : Pocket) → AreFull es → 0 < p.left + p.bytes → AreFull (es ++ (k, p) ∷ [])
AreFull-push [] k p full more = (more, tt)
AreFull-push (x ∷ xs) k p full more = (full.0, AreFull-push xs k p full.1 more)

-- what stands at a place is found
pub find-at : (es : List (ℕ × Pocket)) (i : ℕ) (e : ℕ × Pocket) → AreApart es → slice_get es i ≡ Some e → map.find nat_cmp e.0 es ≡ Some e.1
find-at [] i e apart at = absurd (cc (at))
find-at (x ∷ xs) zero e apart at = let same : x ≡ e = cc (at) in find-here e.0 x xs (ap (λ (y : ℕ × Pocket). y.0) (sym same)) ∙ ap (λ (y : ℕ × Pocket). Some y.1) same
find-at (x ∷ xs) (suc i) e apart at = find-later e.0 x xs (λ q. not_at xs i e x.0 apart.0 at (sym q)) ∙ find-at xs i e apart.1 at

-- what is found isn't empty
pub find_full : (es : List (ℕ × Pocket)) (q : ℕ) (p : Pocket) → AreFull es → map.find nat_cmp q es ≡ Some p → 0 < p.left + p.bytes
find_full [] q p full is = absurd (cc (is))
find_full (x ∷ xs) q p full is =
    ⊎_elim
    (λ (here : q ≡ x.0). let e : Some x.1 ≡ Some p = sym (find-here q x xs here) ∙ is in let f : x.1 ≡ p = cc (e) in subst (λ (y : Pocket). 0 < y.left + y.bytes) f full.0)
    (λ (no : q ≢ x.0). find_full xs q p full.1 (sym (find-later q x xs no) ∙ is))
    (cases_eq q x.0)

-- the map has as many entries as there are places
pub len-places : (es : List (ℕ × Pocket)) → AreApart es → map.len (map.from_entries {R = nat_cmp} es) ≡ length es
len-places [] apart = len-empty nat_cmp Pocket
len-places (x ∷ xs) apart =
    let m = map.from_entries {R = nat_cmp} xs in
    let none : map.contains_key m x.0 ≡ false = ap (λ (o : Option Pocket). is_some o) (get-from_entries nat_cmp_total xs x.0 ∙ apart.0) in
    let more = len-insert nat_cmp_total m x.0 x.1 in
    let one : cond (map.contains_key m x.0) (map.len m) (map.len m + 1) ≡ map.len m + 1 = cond-false (map.contains_key m x.0) (map.len m) (map.len m + 1) none in
    let rest = len-places xs apart.1 in
    omega arith

-- to take a place out is to remove it from the map
pub from_entries-remove : (es : List (ℕ × Pocket)) (i : ℕ) (e : ℕ × Pocket) → AreApart es → slice_get es i ≡ Some e → map.from_entries {R = nat_cmp} (remove es i) ≡ map.remove (map.from_entries es) e.0
from_entries-remove es i e apart at = same_map nat_cmp_total nat_cmp-IsAntisymmetric (map.from_entries (remove es i)) (map.remove (map.from_entries es) e.0) (λ q.
    get-from_entries nat_cmp_total (remove es i) q ∙ find-remove es i e q apart at ∙ ap (λ (o : Option Pocket). cond (q == e.0) None o) (sym (get-from_entries nat_cmp_total es q)) ∙ sym (get-removed (map.from_entries es) e.0 q))

-- what is found after a place has another pocket
find-set : (es : List (ℕ × Pocket)) (i : ℕ) (e : ℕ × Pocket) (p : Pocket) (q : ℕ) → AreApart es → slice_get es i ≡ Some e
    → map.find nat_cmp q (slice_set es i (e.0, p)) ≡ cond (q == e.0) (Some p) (map.find nat_cmp q es)
find-set [] i e p q apart at = absurd (cc (at))
find-set (x ∷ xs) zero e p q apart at =
    let same : x ≡ e = cc (at) in
    ⊎_elim
    (λ (is : q ≡ e.0). find-here q (e.0, p) xs is ∙ sym (cond-true (q == e.0) (Some p) (map.find nat_cmp q (x ∷ xs)) (eq-eqb q e.0 is)))
    (λ (no : q ≢ e.0).
    find-later q (e.0, p) xs no
    ∙ sym (cond-false (q == e.0) (Some p) (map.find nat_cmp q (x ∷ xs)) (ne_eqb q e.0 no) ∙ find-later q x xs (λ k. no (k ∙ ap (λ (y : ℕ × Pocket). y.0) same))))
    (cases_eq q e.0)
find-set (x ∷ xs) (suc i) e p q apart at =
    ⊎_elim
    (λ (is : q ≡ x.0).
    find-here q x (slice_set xs i (e.0, p)) is
    ∙ sym (cond-false (q == e.0) (Some p) (map.find nat_cmp q (x ∷ xs)) (ne_eqb q e.0 (λ k. not_at xs i e x.0 apart.0 at (sym is ∙ k))) ∙ find-here q x xs is))
    (λ (no : q ≢ x.0).
    find-later q x (slice_set xs i (e.0, p)) no ∙ find-set xs i e p q apart.1 at ∙ ap (λ (o : Option Pocket). cond (q == e.0) (Some p) o) (sym (find-later q x xs no)))
    (cases_eq q x.0)

pub AreApart-set : (es : List (ℕ × Pocket)) (i : ℕ) (e : ℕ × Pocket) (p : Pocket) → AreApart es → slice_get es i ≡ Some e → AreApart (slice_set es i (e.0, p))
AreApart-set [] i e p apart at = absurd (cc (at))
AreApart-set (x ∷ xs) zero e p apart at = let same : x ≡ e = cc (at) in (subst (λ (y : ℕ × Pocket). map.find nat_cmp y.0 xs ≡ None) same apart.0, apart.1)
AreApart-set (x ∷ xs) (suc i) e p apart at = (
  find-set xs i e p x.0 apart.1 at ∙ cond-false (x.0 == e.0) (Some p) (map.find nat_cmp x.0 xs) (ne_eqb x.0 e.0 (not_at xs i e x.0 apart.0 at)) ∙ apart.0,
  AreApart-set xs i e p apart.1 at,
)

pub AreFull-set : (es : List (ℕ × Pocket)) (i : ℕ) (e : ℕ × Pocket) → AreFull es → 0 < e.1.left + e.1.bytes → AreFull (slice_set es i e)
AreFull-set [] i e full more = tt
AreFull-set (x ∷ xs) zero e full more = (more, full.1)
AreFull-set (x ∷ xs) (suc i) e full more = (full.0, AreFull-set xs i e full.1 more)

-- to give a place another pocket is to insert it into the map
pub from_entries-set : (es : List (ℕ × Pocket)) (i : ℕ) (e : ℕ × Pocket) (p : Pocket) → AreApart es → slice_get es i ≡ Some e
    → map.from_entries {R = nat_cmp} (slice_set es i (e.0, p)) ≡ map.insert (map.from_entries es) e.0 p
from_entries-set es i e p apart at = same_map nat_cmp_total nat_cmp-IsAntisymmetric (map.from_entries (slice_set es i (e.0, p))) (map.insert (map.from_entries es) e.0 p) (λ q.
    get-from_entries nat_cmp_total (slice_set es i (e.0, p)) q ∙ find-set es i e p q apart at ∙ ap (λ (o : Option Pocket). cond (q == e.0) (Some p) o) (sym (get-from_entries nat_cmp_total es q)) ∙ sym (get-inserted (map.from_entries es) e.0 p q))

-- to keep a place that isn't empty is to give its object that pocket
pub with_pocket-push : (most : ℕ) (es : List (ℕ × Pocket)) (k : ℕ) (p : Pocket) → map.find nat_cmp k es ≡ None → (p.left + p.bytes == 0) ≡ false
    → purse most (es ++ (k, p) ∷ []) ≡ with_pocket (purse most es) k p
with_pocket-push most es k p none some =
    ap (λ (h : FinMap nat_cmp Pocket). let x : Purse = record { places = most; held = h } in x)
    (from_entries_push nat_cmp_total nat_cmp-IsAntisymmetric es k p none
    ∙ sym (cond-false (p.left + p.bytes == 0) (map.remove (map.from_entries es) k) (map.insert (map.from_entries es) k p) some))

-- an object has a place where its pocket isn't empty
pub placed : (most : ℕ) (es : List (ℕ × Pocket)) (o : ℕ) → AreFull es → (HasPlace (purse most es) o → 0 < left_of (purse most es) o + bytes_of (purse most es) o) × (0 < left_of (purse most es) o + bytes_of (purse most es) o → HasPlace (purse most es) o)
placed most es o full = one (map.get (map.from_entries {R = nat_cmp} es) o) (λ p is. find_full es o p full (sym (get-from_entries nat_cmp_total es o) ∙ is))
  where
    one : (x : Option Pocket) → ((p : Pocket) → x ≡ Some p → 0 < p.left + p.bytes) → (IsSome x → 0 < left_in x + bytes_left_in x) × (0 < left_in x + bytes_left_in x → IsSome x)
    one None h = ((λ is. absurd (cc (is))), λ more. absurd (omega arith))
    one (Some p) h = ((λ _. h p refl), λ _. refl)

-- where an object has room but no place, a place is free
pub free_place : (w : Purse) (o : ℕ) → HasRoom w o → map.get w.held o ≡ None → map.len w.held < w.places
free_place w o room none =
    ⊎_elim
    (λ (some : IsSome (map.get w.held o)). let e : false ≡ true = sym (ap (λ (x : Option Pocket). is_some x) none) ∙ some in absurd (cc (e)))
    (λ (free : map.len w.held < w.places). free)
    room

-- a wallet is empty where it has no places
pub empty_from : (most : ℕ) (es : List (ℕ × Pocket)) (w : Purse) → purse most es ≡ w → AreApart es → length es ≡ 0 → w ≡ empty_purse w.places
empty_from most es w is apart none =
    subst (λ (v : Purse). v ≡ empty_purse v.places) is
    (ap (λ (h : FinMap nat_cmp Pocket). let x : Purse = record { places = most; held = h } in x) (empty_of_len (map.from_entries {R = nat_cmp} es) (len-places es apart ∙ none)))

pub none_from : (most : ℕ) (es : List (ℕ × Pocket)) (w : Purse) → purse most es ≡ w → AreApart es → w ≡ empty_purse w.places → length es ≡ 0
none_from most es w is apart empty =
    sym (len-places es apart) ∙ (ap (λ (v : Purse). map.len v.held) is ∙ (ap (λ (v : Purse). map.len v.held) empty ∙ len-empty nat_cmp Pocket))
