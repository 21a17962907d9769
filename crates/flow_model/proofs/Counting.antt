-- Counting the entries of an object by their transactions.
use Rattle.std.proofs.Common.{◌≡◌, ℕ, ◌+◌, ◌≤◌, List, [], ◌∷◌, length, true, false, Bool, refl, sym, arith, subst, inl, inr}
use Rattle.tlm_types.specs.declared.words.TxnId.{TxnId}
use Rattle.flow_model.specs.Events.{Event, Among}
use Rattle.flow_model.proofs.Forms.{is_txn, one_if, own_count, sum_over, AllDiffer, AllKnown}
use Rattle.flow_model.proofs.Sayings.{same_txn}

-- how many of these transactions an entry of t is of
abbrev hits : List TxnId → TxnId → ℕ
hits xs t = sum_over (λ x. one_if (is_txn x t)) xs

no_hits : (xs : List TxnId) (t : TxnId) → ¬ Among xs t → hits xs t ≡ 0
no_hits [] t d = refl
no_hits (x ∷ xs) t d = go (no_hits xs t (λ m. d (inr m))) (is_txn x t) refl
  where
    go : hits xs t ≡ 0 → (b : Bool) → is_txn x t ≡ b → one_if b + hits xs t ≡ 0
    go r true q = absurd (d (inl (sym (same_txn x t q))))
    go r false q = omega arith

one_hit : (xs : List TxnId) (t : TxnId) → AllDiffer xs → hits xs t ≤ 1
one_hit [] t d = omega arith
one_hit (x ∷ xs) t d = go (one_hit xs t d.1) (is_txn x t) refl
  where
    go : hits xs t ≤ 1 → (b : Bool) → is_txn x t ≡ b → one_if b + hits xs t ≤ 1
    go r true q =
        let s : t ≡ x = same_txn x t q in
        let n : hits xs t ≡ 0 = no_hits xs t (λ m. d.0 (subst (λ (y : TxnId). Among xs y) s m)) in
        omega arith
    go r false q = omega arith

sum_zero : (xs : List TxnId) → sum_over (λ x. own_count x []) xs ≡ 0
sum_zero [] = refl
sum_zero (x ∷ xs) = let r : sum_over (λ x. own_count x []) xs ≡ 0 = sum_zero xs in omega arith

sum_step : (xs : List TxnId) (e : Event) (log : List Event) → sum_over (λ x. own_count x (e ∷ log)) xs ≡ hits xs e.txn + sum_over (λ x. own_count x log) xs
sum_step [] e log = refl
sum_step (x ∷ xs) e log =
    let r : sum_over (λ x. own_count x (e ∷ log)) xs ≡ hits xs e.txn + sum_over (λ x. own_count x log) xs = sum_step xs e log in
    omega arith

-- the entries of different transactions are no more than the entries
total : (xs : List TxnId) (log : List Event) → AllDiffer xs → sum_over (λ x. own_count x log) xs ≤ length log
total xs [] d = let r : sum_over (λ x. own_count x []) xs ≡ 0 = sum_zero xs in omega arith
total xs (e ∷ log) d =
    let r : sum_over (λ x. own_count x (e ∷ log)) xs ≡ hits xs e.txn + sum_over (λ x. own_count x log) xs = sum_step xs e log in
    let s : sum_over (λ x. own_count x log) xs ≤ length log = total xs log d in
    let t : hits xs e.txn ≤ 1 = one_hit xs e.txn d in
    omega arith

sum_least : (f g : TxnId → ℕ) (xs : List TxnId) → ((x : TxnId) → Among xs x → f x ≤ g x) → sum_over f xs ≤ sum_over g xs
sum_least f g [] l = omega arith
sum_least f g (x ∷ xs) l =
    let a : f x ≤ g x = l x (inl refl) in
    let b : sum_over f xs ≤ sum_over g xs = sum_least f g xs (λ y m. l y (inr m)) in
    omega arith

-- where the greater numbers sum to no more, each is the same
sum_same : (f g : TxnId → ℕ) (xs : List TxnId) → ((x : TxnId) → Among xs x → f x ≤ g x) → sum_over g xs ≤ sum_over f xs → (x : TxnId) → Among xs x → g x ≡ f x
sum_same f g [] l s x m = absurd m
sum_same f g (y ∷ xs) l s x (inl q) =
    let a : f y ≤ g y = l y (inl refl) in
    let b : sum_over f xs ≤ sum_over g xs = sum_least f g xs (λ z m. l z (inr m)) in
    let c : g y ≡ f y = omega arith in
    subst (λ (z : TxnId). g z ≡ f z) q c
sum_same f g (y ∷ xs) l s x (inr m) =
    let a : f y ≤ g y = l y (inl refl) in
    sum_same f g xs (λ z n. l z (inr n)) (omega arith) x m

pub counting : (xs : List TxnId) (spent : TxnId → ℕ) (log : List Event) → AllDiffer xs →
    ((x : TxnId) → Among xs x → spent x ≤ own_count x log) → length log ≤ sum_over spent xs → AllKnown xs spent log
counting xs spent log d known few = record {
  own = sum_same spent (λ x. own_count x log) xs known (let t : sum_over (λ x. own_count x log) xs ≤ length log = total xs log d in omega arith);
  none = λ y n. (
      let t : own_count y log + sum_over (λ x. own_count x log) xs ≤ length log = total (y ∷ xs) log (n, d) in
      let s : sum_over spent xs ≤ sum_over (λ x. own_count x log) xs = sum_least spent (λ x. own_count x log) xs known in
      omega arith);
}
