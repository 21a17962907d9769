-- Lemmas on the bytes that a writer holds and a reader has left, where those are known.
use Rattle.std.proofs.Common.{◌≡◌, ℕ, ◌+◌, ◌-◌, ◌<◌, ◌≤◌, List, [], ◌++◌, length, take, drop, Option, None, Some, IfSome, sym, ap, subst, ◌∙◌, arith, length-take, take_all}
use Rattle.std.specs.Option.{option_map}
use lib.Seq.{take-add, take-take}
use Rattle.std.specs.Io.KnownBytes.{Appends}
use Rattle.std.proofs.KnownBytes.{Appends-trans}

-- what was read up to some number of bytes, and is shorter than that, is all that was left
pub IfSome-take_all : (known : Option (List ℕ)) (most : ℕ) (start xs : List ℕ) → start ≡ [] → length xs < most → IfSome (option_map (take most) known) (λ ys. xs ≡ start ++ ys) → IfSome known (λ ys. xs ≡ ys)
IfSome-take_all None most start xs empty short same = tt
IfSome-take_all (Some ys) most start xs empty short same =
    let front : xs ≡ take most ys = same ∙ ap (λ (l : List ℕ). l ++ take most ys) empty in
    let cut : length (take most ys) < most = subst (λ (l : List ℕ). length l < most) front short in
    front ∙ take_all most ys (omega (arith, length-take most ys))

-- the first n bytes and the k after them were written, one after the other
pub Appends-take_more : (a b c : Option (List ℕ)) (xs : List ℕ) (n k : ℕ) → n + k ≤ length xs → Appends a b (take n xs) → Appends b c (take k (take (length xs - n) (drop n xs))) → Appends a c (take (n + k) xs)
Appends-take_more a b c xs n k fits first more =
    let joined : take n xs ++ take k (take (length xs - n) (drop n xs)) ≡ take (n + k) xs =
    ap (λ (l : List ℕ). take n xs ++ l) (take-take k (length xs - n) (drop n xs) (omega arith)) ∙ sym (take-add n k xs) in
    subst (Appends a c) joined (Appends-trans a b c _ _ first more)
