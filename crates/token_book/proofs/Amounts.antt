-- What amounts count for, and what is out of a name after a step.
use Rattle.std.proofs.Common.{◌≡◌, ◌≢◌, ℕ, ◌+◌, ◌-◌, ◌≤◌, ◌==◌, true, false, cond, List, Some, refl, sym, ap, ◌∙◌, subst, ⊎_elim, arith}
use Rattle.std.proofs.lemmas.Bool.{cases_eq, cond-true, cond-false, eq-eqb, ne_eqb}
use Rattle.token_book.specs.Account.{out_of}
use Rattle.token_book.specs.Rule.{counts_for, put_out, struck_off}

-- an amount counts for its own owner and name
pub counts_for-own : (o n a : ℕ) → counts_for o n o n a ≡ a
counts_for-own o n a = cond-true (o == o) (cond (n == n) a 0) 0 (eq-eqb o o refl) ∙ cond-true (n == n) a 0 (eq-eqb n n refl)

-- and not for another owner
pub counts_for-other : (o n p m a : ℕ) → p ≢ o → counts_for o n p m a ≡ 0
counts_for-other o n p m a apart = cond-false (p == o) (cond (m == n) a 0) 0 (ne_eqb p o apart)

-- two amounts count together for what their sum counts
pub counts_for-sum : (o n p m a b : ℕ) → counts_for o n p m (a + b) ≡ counts_for o n p m a + counts_for o n p m b
counts_for-sum o n p m a b =
    elim (p == o) as (λ t. cond t (cond (m == n) (a + b) 0) 0 ≡ cond t (cond (m == n) a 0) 0 + cond t (cond (m == n) b 0) 0) [
      | true ↦ elim (m == n) as (λ t. cond t (a + b) 0 ≡ cond t a 0 + cond t b 0) [ true ↦ refl | false ↦ refl ]
      | false ↦ refl
    ]

-- a part and the rest count for the whole
pub counts_for-parts : (o n p m a x : ℕ) → x ≤ a → counts_for o n p m (a - x) + counts_for o n p m x ≡ counts_for o n p m a
counts_for-parts o n p m a x less = sym (counts_for-sum o n p m (a - x) x) ∙ ap (λ (k : ℕ). counts_for o n p m k) (omega arith)

-- what is out of each name after an amount of one was issued
pub out_of-put_out : (o n name amount : ℕ) (out : List (ℕ × ℕ)) → out_of n (put_out name amount out) ≡ out_of n out + counts_for o n o name amount
out_of-put_out o n name amount out =
    ⊎_elim
    (λ (same : name ≡ n).
    let one = cond-true (name == n) (out_of name out + amount) (out_of n out) (eq-eqb name n same) in
    let here : out_of name out ≡ out_of n out = ap (λ (k : ℕ). out_of k out) same in
    let own : counts_for o n o name amount ≡ amount = subst (λ (k : ℕ). counts_for o k o name amount ≡ amount) same (counts_for-own o name amount) in
    omega arith)
    (λ (other : name ≢ n).
    let one = cond-false (name == n) (out_of name out + amount) (out_of n out) (ne_eqb name n other) in
    let own : counts_for o n o name amount ≡ 0 = cond-true (o == o) (cond (name == n) amount 0) 0 (eq-eqb o o refl) ∙ cond-false (name == n) amount 0 (ne_eqb name n other) in
    omega arith)
    (cases_eq name n)

-- what is out of each name after a token that was out was struck off
pub out_of-struck_off : (o n name amount : ℕ) (out : List (ℕ × ℕ)) → amount ≤ out_of name out → out_of n (struck_off (Some (name, amount)) out) + counts_for o n o name amount ≡ out_of n out
out_of-struck_off o n name amount out was =
    ⊎_elim
    (λ (same : name ≡ n).
    let one = cond-true (name == n) (out_of name out - amount) (out_of n out) (eq-eqb name n same) in
    let here : out_of name out ≡ out_of n out = ap (λ (k : ℕ). out_of k out) same in
    let own : counts_for o n o name amount ≡ amount = subst (λ (k : ℕ). counts_for o k o name amount ≡ amount) same (counts_for-own o name amount) in
    omega arith)
    (λ (other : name ≢ n).
    let one = cond-false (name == n) (out_of name out - amount) (out_of n out) (ne_eqb name n other) in
    let own : counts_for o n o name amount ≡ 0 = cond-true (o == o) (cond (name == n) amount 0) 0 (eq-eqb o o refl) ∙ cond-false (name == n) amount 0 (ne_eqb name n other) in
    omega arith)
    (cases_eq name n)
