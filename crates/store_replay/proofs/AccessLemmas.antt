-- What a data byte of a fetch_add finds.
use Rattle.std.proofs.Common.{◌≡◌, ℕ, zero, suc, ◌+◌, ◌<◌, ◌≤◌, Bool, true, false, cond, nat_lt, List, [], ◌∷◌, length, get_or, refl, ap, sym, ◌∙◌, arith}
use Rattle.std.proofs.lemmas.Bool.Decides.{nat_tests}
use Rattle.tlm_types.specs.declared.entry.Access.{Access}
use Rattle.tlm_model.specs.Store.{is_enabled, place_of, taken_from}
use Rattle.generic_payload.proofs.Moves.{get_or-taken_from, length-taken_from}

get_or-beyond : (xs : List ℕ) (k : ℕ) → length xs ≤ k → get_or xs k 0 ≡ 0
get_or-beyond [] k beyond = refl
get_or-beyond (x ∷ xs) zero beyond = absurd (omega arith)
get_or-beyond (x ∷ xs) (suc k) beyond = get_or-beyond xs k (omega arith)

pub not_below : (k n : ℕ) → false ≡ nat_lt k n → n ≤ k
not_below k n is = grind (arith, nat_tests)

pub is_below : (k n : ℕ) → true ≡ nat_lt k n → k < n
is_below k n is = grind (arith, nat_tests)

pub found_none : (a : Access) (bytes store : List ℕ) (k : ℕ) → length bytes ≤ k → 0 ≡ get_or (taken_from a 0 bytes store) k 0
found_none a bytes store k beyond = sym (get_or-beyond (taken_from a 0 bytes store) k (let same = length-taken_from a 0 bytes store in omega arith))

found : (a : Access) (bytes store : List ℕ) (k : ℕ) (b : Bool) → k < length bytes → is_enabled a k ≡ b → cond b (get_or store (place_of a k) 0) (get_or bytes k 0) ≡ get_or (taken_from a 0 bytes store) k 0
found a bytes store k b there is =
    let from : 0 + k ≡ k = omega arith in
    sym (get_or-taken_from a 0 bytes store k there ∙ (ap (λ (n : ℕ). cond (is_enabled a n) (get_or store (place_of a n) 0) (get_or bytes k 0)) from ∙ ap (λ (t : Bool). cond t (get_or store (place_of a k) 0) (get_or bytes k 0)) is))

pub found_plain : (a : Access) (bytes store : List ℕ) (k : ℕ) → k < length bytes → is_enabled a k ≡ false → get_or bytes k 0 ≡ get_or (taken_from a 0 bytes store) k 0
found_plain a bytes store k there is = found a bytes store k false there is

pub found_there : (a : Access) (bytes store : List ℕ) (k place : ℕ) → k < length bytes → is_enabled a k ≡ true → place ≡ place_of a k → get_or store place 0 ≡ get_or (taken_from a 0 bytes store) k 0
found_there a bytes store k place there is at = ap (λ (n : ℕ). get_or store n 0) at ∙ found a bytes store k true there is

pub found_beyond : (a : Access) (bytes store : List ℕ) (k : ℕ) → k < length bytes → is_enabled a k ≡ true → length store ≤ place_of a k → 0 ≡ get_or (taken_from a 0 bytes store) k 0
found_beyond a bytes store k there is beyond = sym (get_or-beyond store (place_of a k) beyond) ∙ found a bytes store k true there is
