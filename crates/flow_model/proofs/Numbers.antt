-- Distinct numbers of a small list: where there are enough of them, each stands there.
use Rattle.std.proofs.Common.{◌≡◌, ℕ, zero, suc, ◌+◌, ◌<◌, ◌≤◌, List, [], ◌∷◌, length, true, false, Bool, cond, nat_eq, eq-eqb, refl, ap, sym, ◌∙◌, arith, subst, ◌⊎◌, inl, inr}
use Rattle.std.proofs.lemmas.Bool.{eqb-true}
use Rattle.flow_model.specs.Events.{Among}

abbrev pub Distinct : List ℕ → Type 0
Distinct [] = Unit {0}
Distinct (n ∷ ns) = (¬ Among ns n) × Distinct ns

abbrev remove : ℕ → List ℕ → List ℕ
remove k [] = []
remove k (n ∷ ns) = cond (nat_eq k n) ns (n ∷ remove k ns)

differ : (k n : ℕ) → nat_eq k n ≡ false → ¬ (k ≡ n)
differ k n q r = cc (eq-eqb k n r)

length-remove : (k : ℕ) (ns : List ℕ) → Among ns k → length ns ≡ suc (length (remove k ns))
length-remove k [] m = absurd m
length-remove k (n ∷ ns) m = go (λ (i : Among ns k). length-remove k ns i) (nat_eq k n) refl m
  where
    go : (Among ns k → length ns ≡ suc (length (remove k ns))) → (b : Bool) → nat_eq k n ≡ b → (n ≡ k) ⊎ Among ns k → suc (length ns) ≡ suc (length (cond b ns (n ∷ remove k ns)))
    go f true q m = refl
    go f false q (inl r) = absurd (differ k n q (sym r))
    go f false q (inr i) = ap suc (f i)

holds-remove : (k : ℕ) (ns : List ℕ) (n : ℕ) → Among ns n → ¬ (n ≡ k) → Among (remove k ns) n
holds-remove k [] n m d = absurd m
holds-remove k (j ∷ ns) n m d = go (λ (i : Among ns n). holds-remove k ns n i d) (nat_eq k j) refl m
  where
    go : (Among ns n → Among (remove k ns) n) → (b : Bool) → nat_eq k j ≡ b → (j ≡ n) ⊎ Among ns n → Among (cond b ns (j ∷ remove k ns)) n
    go f true q (inl r) = absurd (d (sym r ∙ sym (eqb-true k j q)))
    go f true q (inr i) = i
    go f false q (inl r) = inl r
    go f false q (inr i) = inr (f i)

fits_in : (ns all : List ℕ) → Distinct ns → ((n : ℕ) → Among ns n → Among all n) → length ns ≤ length all
fits_in [] all d f = omega arith
fits_in (n ∷ ns) all d f =
    let rest : length ns ≤ length (remove n all) = fits_in ns (remove n all) d.1 (λ m i. holds-remove n all m (f m (inr i)) (λ q. d.0 (subst (λ (j : ℕ). Among ns j) q i))) in
    let q : length all ≡ suc (length (remove n all)) = length-remove n all (f n (inl refl)) in
    omega arith

dec_holds : (ns : List ℕ) (k : ℕ) → Among ns k ⊎ ¬ Among ns k
dec_holds [] k = inr (λ m. m)
dec_holds (n ∷ ns) k = go (dec_holds ns k) (nat_eq n k) refl
  where
    go : Among ns k ⊎ ¬ Among ns k → (b : Bool) → nat_eq n k ≡ b → Among (n ∷ ns) k ⊎ ¬ Among (n ∷ ns) k
    go f true q = inl (inl (eqb-true n k q))
    go (inl i) false q = inl (inr i)
    go (inr d) false q = inr (λ m. elim m [ inl r ↦ differ n k q r | inr i ↦ d i ])

below : ℕ → List ℕ
below zero = []
below (suc m) = m ∷ below m

length-below : (m : ℕ) → length (below m) ≡ m
unfolding below
length-below zero = refl
length-below (suc m) = ap suc (length-below m)

holds-below : (m k : ℕ) → k < m → Among (below m) k
unfolding below
holds-below zero k l = absurd (omega arith)
holds-below (suc m) k l = go (λ (r : k < m). holds-below m k r) (nat_eq m k) refl
  where
    go : (k < m → Among (below m) k) → (b : Bool) → nat_eq m k ≡ b → (m ≡ k) ⊎ Among (below m) k
    go f true q = inl (eqb-true m k q)
    go f false q = let d : ¬ (m ≡ k) = differ m k q in inr (f (omega arith))

-- m + 1 distinct numbers, each below m or 15, hold each number below m, and 15
pub all_held : (m : ℕ) (ns : List ℕ) → Distinct ns → ((n : ℕ) → Among ns n → (n < m) ⊎ (n ≡ 15)) → length ns ≡ m + 1 → (k : ℕ) → (k < m) ⊎ (k ≡ 15) → Among ns k
all_held m ns d f len k l = elim (dec_holds ns k) [
  | inl i ↦ i
  | inr none ↦ (
      let into : (n : ℕ) → (n < m) ⊎ (n ≡ 15) → Among (15 ∷ below m) n = λ n i. elim i [ inl r ↦ inr (holds-below m n r) | inr r ↦ inl (sym r) ] in
      let short : length ns ≤ length (remove k (15 ∷ below m)) = fits_in ns (remove k (15 ∷ below m)) d (λ n i. holds-remove k (15 ∷ below m) n (into n (f n i)) (λ q. none (subst (λ (j : ℕ). Among ns j) q i))) in
      let one : suc (length (below m)) ≡ suc (length (remove k (15 ∷ below m))) = length-remove k (15 ∷ below m) (into k l) in
      let size : length (below m) ≡ m = length-below m in
      absurd (omega arith))
]
