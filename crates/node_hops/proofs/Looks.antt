-- The looks of a node at its hops.
use Rattle.std.proofs.Common.{◌≡◌, ℕ, zero, suc, ◌+◌, ◌<◌, ◌≤◌, List, [], ◌∷◌, ◌++◌, length, take, drop, get_or, Option, Some, refl, sym, ap, subst, ◌∙◌, append_assoc, arith}
use Rattle.std.proofs.lemmas.List.{append-nil}
use Rattle.std.specs.List.{AllByRecursion}
use Rattle.std.specs.Prelude.{IfSome}
use Rattle.view_lists.specs.Lists.{Within}
use Rattle.one_history.specs.declared.entry.Entry.{Entry}
use Rattle.tlm_types.specs.declared.entry.Content.{Content}
use Rattle.tlm_model.specs.Plan.{Plan}
use Rattle.plat_net.specs.Places.{hop_place}
use Rattle.node_hops.specs.Looks.{IsFirst, vain_looks}

pub within_on : (xs ys zs : List (Entry Content)) → Within xs ys → Within ys zs → Within xs zs
within_on xs ys zs a b = λ x has. b x (a x has)

pub each_at : {A : Type 0} (P : A → Type 0) (xs : List A) (i : ℕ) (d : A) → i < length xs → AllByRecursion P xs → P (get_or xs i d)
each_at P [] i d below all = absurd (omega (arith, below))
each_at P (x ∷ xs) zero d below all = all.0
each_at P (x ∷ xs) (suc i) d below all = each_at P xs i d (omega (arith, below)) all.1

one_on : (i : ℕ) → suc i ≡ i + 1
one_on i = omega arith

-- one more look in vain
vain_next : (p : Plan) (look : ℕ) (xs : List ℕ) (i : ℕ) → i < length xs → vain_looks p look (take (suc i) xs) ≡ vain_looks p look (take i xs) ++ (hop_place p (get_or xs i 0), look) ∷ []
vain_next p look [] i below = absurd (omega (arith, below))
vain_next p look (x ∷ xs) zero below = refl
vain_next p look (x ∷ xs) (suc i) below = ap (λ (l : List (ℕ × ℕ)). (hop_place p x, look) ∷ l) (vain_next p look xs i (omega (arith, below)))

vain_more : (p : Plan) (look : ℕ) (xs : List ℕ) (i : ℕ) → i < length xs → vain_looks p look (take (i + 1) xs) ≡ vain_looks p look (take i xs) ++ (hop_place p (get_or xs i 0), look) ∷ []
vain_more p look xs i below = subst (λ (n : ℕ). vain_looks p look (take n xs) ≡ vain_looks p look (take i xs) ++ (hop_place p (get_or xs i 0), look) ∷ []) (one_on i) (vain_next p look xs i below)

take_all : (p : Plan) (look : ℕ) (xs : List ℕ) (i : ℕ) → (i < length xs → ⊥) → vain_looks p look (take i xs) ≡ vain_looks p look xs
take_all p look [] zero past = refl
take_all p look [] (suc i) past = refl
take_all p look (x ∷ xs) zero past = absurd (past (omega arith))
take_all p look (x ∷ xs) (suc i) past = ap (λ (l : List (ℕ × ℕ)). (hop_place p x, look) ∷ l) (take_all p look xs i (λ l. past (omega (arith, l))))

-- the looks so far, and one more
pub looks_more : (p : Plan) (look : ℕ) (xs : List ℕ) (i : ℕ) (first before after : List (ℕ × ℕ)) → i < length xs → before ≡ first ++ vain_looks p look (take i xs) → after ≡ before ++ (hop_place p (get_or xs i 0), look) ∷ [] → after ≡ first ++ vain_looks p look (take (i + 1) xs)
looks_more p look xs i first before after below b a =
    a ∙ (ap (λ (l : List (ℕ × ℕ)). l ++ (hop_place p (get_or xs i 0), look) ∷ []) b ∙ (append_assoc first (vain_looks p look (take i xs)) ((hop_place p (get_or xs i 0), look) ∷ []) ∙ sym (ap (λ (l : List (ℕ × ℕ)). first ++ l) (vain_more p look xs i below))))

pub of_some : {A : Type 0} (P : A → Type 0) (o : Option A) (x : A) → o ≡ Some x → IfSome o P → P x
of_some {A = A} P o x is holds = subst (λ (q : Option A). IfSome q P) is holds

split_at : (xs : List ℕ) (i : ℕ) → i < length xs → xs ≡ take i xs ++ get_or xs i 0 ∷ drop (suc i) xs
split_at [] i below = absurd (omega (arith, below))
split_at (x ∷ xs) zero below = refl
split_at (x ∷ xs) (suc i) below = ap (λ (l : List ℕ). x ∷ l) (split_at xs i (omega (arith, below)))

-- something waits at a hop, and nothing at those before it
pub is_first : (p : Plan) (look : ℕ) (xs : List ℕ) (i : ℕ) (first before after : List (ℕ × ℕ)) → i < length xs → before ≡ first ++ vain_looks p look (take i xs) → after ≡ before ++ (hop_place p (get_or xs i 0), 0) ∷ [] → IsFirst p look xs (get_or xs i 0) first after
is_first p look xs i first before after below b a = record {
  before = take i xs;
  after = drop (suc i) xs;
  hops_are = split_at xs i below;
  looks = a ∙ ap (λ (l : List (ℕ × ℕ)). l ++ (hop_place p (get_or xs i 0), 0) ∷ []) b;
}

-- no look yet, and one in vain at each hop
pub none_yet : (first : List (ℕ × ℕ)) → first ≡ first ++ []
none_yet first = sym (append-nil first)

pub none_found : (p : Plan) (look : ℕ) (xs : List ℕ) (i : ℕ) (first after : List (ℕ × ℕ)) → length xs ≤ i → after ≡ first ++ vain_looks p look (take i xs) → after ≡ first ++ vain_looks p look xs
none_found p look xs i first after past l = l ∙ ap (λ (v : List (ℕ × ℕ)). first ++ v) (take_all p look xs i (λ (b : i < length xs). omega (arith, b, past)))
