-- Lists of operations that are walked through.
use Rattle.std.proofs.Common.{◌≡◌, ℕ, zero, suc, ◌+◌, ◌*◌, ◌<◌, ◌≤◌, ◌⊎◌, List, [], ◌∷◌, length, drop, slice_get, Some, None, IsTrue, refl, sym, add-one, arith, ap}
use Rattle.std.specs.List.{AllByRecursion, list_all}
use Rattle.std.proofs.lemmas.Bool.Decides.{nat_tests}
use Rattle.std.proofs.lemmas.Grind.{common_steps}
use Rattle.std.proofs.lemmas.Option.{slice_get_within}
use Rattle.tlm_model.specs.declared.operation.Operation.{Operation}
use Rattle.tlm_model.specs.Requests.{numbers_of, numbers_in}
use Rattle.traffic_script.specs.Progress.{Progress, advanced}
use Rattle.traffic_script.specs.Proper.{IsProper}
use Rattle.tlm_types.specs.Enables.{is_enable}

drop_suc : {A : Type 0} (xs : List A) (n : ℕ) (x : A) → slice_get xs n ≡ Some x → drop n xs ≡ x ∷ drop (suc n) xs
drop_suc [] zero x h = cc
drop_suc [] (suc n) x h = cc
drop_suc (y ∷ xs) zero x h = cc
drop_suc (y ∷ xs) (suc n) x h = drop_suc xs n x h

-- the first of what is left, where there is one
pub drop_at : {A : Type 0} (xs : List A) (n : ℕ) (x : A) → slice_get xs n ≡ Some x → drop n xs ≡ x ∷ drop (n + 1) xs
drop_at xs n x h = rw add-one (drop_suc xs n x h)

pub drop_past : {A : Type 0} (xs : List A) (n : ℕ) → slice_get xs n ≡ None → drop n xs ≡ []
drop_past [] zero h = refl
drop_past [] (suc n) h = refl
drop_past (y ∷ xs) zero h = cc
drop_past (y ∷ xs) (suc n) h = drop_past xs n h

two_numbers : (op : Operation) → numbers_of op ≤ 2
two_numbers op = grind (arith, common_steps)

pub few_numbers : (ops : List Operation) → numbers_in ops ≤ 2 * length ops
few_numbers [] = omega arith
few_numbers (op ∷ ops) = omega (arith, two_numbers op, few_numbers ops)

-- enables as a payload wants them
pub all_enables : (xs : List ℕ) → AllByRecursion (λ b. (b ≡ 0) ⊎ (b ≡ 255)) xs → IsTrue (list_all is_enable xs)
all_enables [] h = refl
all_enables (x ∷ xs) h = grind (arith, common_steps, h.0, all_enables xs h.1)

-- this operation is the first that is left
abbrev pub IsFirst : Progress → Operation → Type 0
IsFirst p op = Some op ≡ slice_get p.operations p.done

pub left : (p : Progress) (op : Operation) → IsFirst p op → drop p.done p.operations ≡ op ∷ drop (p.done + 1) p.operations
left p op first = drop_at p.operations p.done op (sym first)

pub first_proper : (p : Progress) (op : Operation) → IsFirst p op → AllByRecursion IsProper (drop p.done p.operations) → IsProper op
first_proper p op first all = (rw (left p op first) at all).0

advanced_at : (p : Progress) (op : Operation) → IsFirst p op → advanced p ≡ record p { done = p.done + 1 }
advanced_at p op first =
    let within : p.done < length p.operations = slice_get_within p.operations p.done op (sym first) in
    grind (arith, nat_tests)

pub left_advanced : (p : Progress) (op : Operation) → IsFirst p op → drop (advanced p).done (advanced p).operations ≡ drop (p.done + 1) p.operations
left_advanced p op first = ap (λ (q : Progress). drop q.done q.operations) (advanced_at p op first)
