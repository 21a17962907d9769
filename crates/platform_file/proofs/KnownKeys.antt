-- The keys of a table and those that are known.
use Rattle.std.proofs.Common.{◌≡◌, ℕ, Bool, true, false, List, [], ◌∷◌, map, filter, not, cond, Option, Some, None, String, Global, Result, Ok, Err, Bor, Ordering, Less, Equal, Greater, string_bytes, nat_cmp, refl, ap, sym, ◌∙◌}
use Rattle.std.specs.Prelude.{IfSome, if◌then◌else◌}
use Rattle.std.specs.List.{list_any, AllByRecursion}
use Rattle.std.specs.List.Sorted.{IsStrictlySortedBy}
use Rattle.std.specs.Ordering.{match_ordering}
use Rattle.std.specs.String.{string_cmp}
use Rattle.std.specs.Cmp.Lexicographic.{slice_cmp}
use Rattle.std.specs.Str.{bytes_eq}
use Rattle.std.specs.Map as map
use Rattle.toml.specs.View.{members_view}
use Rattle.toml.specs.declared.value.Value.{Value}
use Rattle.platform_model.specs.declared.fault.PlatformFault.{PlatformFault}
use Rattle.platform_model.specs.declared.fault.PlatformFault.TheVariants as fault
use Rattle.platform_model.specs.declared.fault.PlatformCode.TheVariants.{UnknownKey}
use Rattle.platform_model.specs.declared.place.Place.{Place}
use Rattle.platform_model.specs.Reading.{PlatformRefusal, refusal, Tells, Fails}
use Rattle.platform_file.specs.Keys.{keys_of, lesser_of, least_of, is_unknown, refused_key}

pub keys_of-view : (es : List (String Global × Value)) → map string_bytes (map.keys_of es) ≡ keys_of (members_view es)
keys_of-view [] = refl
keys_of-view (e ∷ es) = ap (λ ks. string_bytes e.0 ∷ ks) (keys_of-view es)

list_any-now : (k : List ℕ) (ks : List (Bor (List ℕ))) → list_any (λ x. bytes_eq x.now k) ks ≡ list_any (λ x. bytes_eq x k) (map (λ x. x.now) ks)
list_any-now k [] = refl
list_any-now k (x ∷ ks) = rw (list_any-now k ks)

-- the first unknown key, if there is one
abbrev pub among_known : List (List ℕ) → Place → List (List ℕ) → Result (Unit {0}) PlatformRefusal
among_known keys at [] = Ok tt
among_known keys at (k ∷ ks) = if list_any (λ x. bytes_eq x k) keys then among_known keys at ks else Err (refusal UnknownKey at k)

abbrev IsBelow : List ℕ → List ℕ → Type 0
IsBelow k l = slice_cmp nat_cmp k l ≡ Less

below_chosen : (k x y : List ℕ) (o : Ordering) → IsBelow k x → IsBelow k y → IsBelow k (match_ordering o x x y)
below_chosen k x y Less p q = p
below_chosen k x y Equal p q = p
below_chosen k x y Greater p q = q

below_lesser : (k x : List ℕ) (o : Option (List ℕ)) → IsBelow k x → IfSome o (IsBelow k) → IsBelow k (lesser_of x o)
below_lesser k x None p q = p
below_lesser k x (Some y) p q = below_chosen k x y (slice_cmp nat_cmp x y) p q

below_least : (k : List ℕ) (ks : List (List ℕ)) → AllByRecursion (IsBelow k) ks → IfSome (least_of ks) (IsBelow k)
below_least k [] h = tt
below_least k (x ∷ ks) h = below_lesser k x (least_of ks) h.0 (below_least k ks h.1)

lesser_below : (k : List ℕ) (o : Option (List ℕ)) → IfSome o (IsBelow k) → lesser_of k o ≡ k
lesser_below k None h = refl
lesser_below k (Some x) h = rw h

below_kept : (k x : List ℕ) (b : Bool) (ks : List (List ℕ)) → IsBelow k x → AllByRecursion (IsBelow k) ks → AllByRecursion (IsBelow k) (cond b (x ∷ ks) ks)
below_kept k x true ks p q = (p, q)
below_kept k x false ks p q = q

below_filtered : (k : String Global) (p : List ℕ → Bool) (ks : List (String Global)) → AllByRecursion (λ y. string_cmp k y ≡ Less) ks → AllByRecursion (IsBelow (string_bytes k)) (filter p (map string_bytes ks))
below_filtered k p [] h = tt
below_filtered k p (x ∷ ks) h = below_kept (string_bytes k) (string_bytes x) (p (string_bytes x)) (filter p (map string_bytes ks)) h.0 (below_filtered k p ks h.1)

least_first : (b : Bool) (at : Place) (k : List ℕ) (ks : List (List ℕ)) (more : Result (Unit {0}) PlatformRefusal) → lesser_of k (least_of ks) ≡ k → more ≡ refused_key at (least_of ks)
    → (if b then more else Err (refusal UnknownKey at k)) ≡ refused_key at (least_of (cond (not b) (k ∷ ks) ks))
least_first true at k ks more first same = same
least_first false at k ks more first same = ap (λ x. Err (refusal UnknownKey at x)) (sym first)

-- of keys that ascend the first unknown one is the least
pub first_is_least : (keys : List (List ℕ)) (at : Place) (ks : List (String Global)) → IsStrictlySortedBy string_cmp ks
    → among_known keys at (map string_bytes ks) ≡ refused_key at (least_of (filter (is_unknown keys) (map string_bytes ks)))
unfolding IsStrictlySortedBy
first_is_least keys at [] h = refl
first_is_least keys at (k ∷ ks) h =
    least_first (list_any (λ x. bytes_eq x (string_bytes k)) keys) at (string_bytes k) (filter (is_unknown keys) (map string_bytes ks)) _
    (lesser_below (string_bytes k) _ (below_least (string_bytes k) _ (below_filtered k (is_unknown keys) ks h.0)))
    (first_is_least keys at ks h.1)

-- a known key is passed by
pub passes_known : (keys : List (Bor (List ℕ))) (at : Place) (s : List (String Global)) (k : String Global) (t : List (String Global)) (bytes : List ℕ) (b : Bool) (all : Result (Unit {0}) PlatformRefusal)
    → s ≡ k ∷ t → bytes ≡ string_bytes k → b ≡ list_any (λ x. bytes_eq x.now bytes) keys → b ≡ true
    → among_known (map (λ x. x.now) keys) at (map string_bytes s) ≡ all → among_known (map (λ x. x.now) keys) at (map string_bytes t) ≡ all
passes_known keys at s k t bytes b all more same test is so_far =
    let known : list_any (λ x. bytes_eq x (string_bytes k)) (map (λ x. x.now) keys) ≡ true = rw (← same, ← list_any-now bytes keys, ← test) is in
    let here : among_known (map (λ x. x.now) keys) at (map string_bytes (k ∷ t)) ≡ among_known (map (λ x. x.now) keys) at (map string_bytes t) = rw known in
    sym here ∙ ap (λ ks. among_known (map (λ x. x.now) keys) at (map string_bytes ks)) (sym more) ∙ so_far

-- an unknown key is refused
pub stops_unknown : (keys : List (Bor (List ℕ))) (at : Place) (s : List (String Global)) (k : String Global) (t : List (String Global)) (bytes bytes' : List ℕ) (b : Bool) (all : Result (Unit {0}) PlatformRefusal)
    → s ≡ k ∷ t → bytes ≡ string_bytes k → bytes' ≡ string_bytes k → b ≡ list_any (λ x. bytes_eq x.now bytes) keys → b ≡ false
    → among_known (map (λ x. x.now) keys) at (map string_bytes s) ≡ all → all ≡ Err (refusal UnknownKey at bytes')
stops_unknown keys at s k t bytes bytes' b all more same same' test is so_far =
    let unknown : list_any (λ x. bytes_eq x (string_bytes k)) (map (λ x. x.now) keys) ≡ false = rw (← same, ← list_any-now bytes keys, ← test) is in
    let here : among_known (map (λ x. x.now) keys) at (map string_bytes (k ∷ t)) ≡ Err (refusal UnknownKey at (string_bytes k)) = rw unknown in
    sym so_far ∙ ap (λ ks. among_known (map (λ x. x.now) keys) at (map string_bytes ks)) more ∙ rw same' here

-- a fault that tells a refusal is the one of a reading that gives it
pub fails_as_told : {A : Type 0} (f : PlatformFault) (r : PlatformRefusal) (read : Result A PlatformRefusal) → Tells f r → read ≡ Err r → Fails f read
fails_as_told fault.Memory r read t e = tt
fails_as_told (fault.Refused code table key) r read t e = e ∙ ap Err t
