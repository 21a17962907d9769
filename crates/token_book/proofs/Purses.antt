-- Wallets as maps from objects to pockets, and the list of places that stands for one.
use Rattle.std.proofs.Common.{◌≡◌, ◌≢◌, ◌⊎◌, ℕ, ◌+◌, ◌<◌, ◌≤◌, ◌==◌, true, cond, Option, Some, None, refl, sym, ap, subst, ◌∙◌, inl, inr, ⊎_elim, arith}
use Rattle.std.specs.Prelude.{IsSome}
use Rattle.std.specs.Ordering.{nat_cmp, eq_by_cmp, is_eq}
use Rattle.std.specs.declared.cmp.Ordering.TheVariants.{Less, Equal, Greater}
use Rattle.std.specs.Cmp.{nat_cmp_total, nat_cmp_is}
use Rattle.std.proofs.lemmas.Bool.{cases_eq, cases_lt, cond-true, cond-false, eq-eqb, ne_eqb}
use Rattle.std.specs.FinMap as map
use Rattle.std.specs.FinMap.{FinMap, get-insert, get-remove, same_map, nat_cmp-IsAntisymmetric}
use Rattle.atomic_table.specs.Seated.{TableId}
use Rattle.token_book.specs.Pocket.{Pocket}
use Rattle.token_book.specs.Purse.{Purse, left_in, bytes_left_in, left_of, bytes_of, HasPlace, IsOf, with_pocket}

-- the order's ties are the equal numbers
pub eq_by_cmp-nat : (a b : ℕ) → eq_by_cmp nat_cmp a b ≡ (a == b)
eq_by_cmp-nat a b =
    ⊎_elim
    (λ (same : a ≡ b). ap is_eq (sym (nat_cmp_is a b Equal same)) ∙ sym (eq-eqb a b same))
    (λ (other : a ≢ b). ⊎_elim
    (λ (less : a < b). ap is_eq (sym (nat_cmp_is a b Less less)) ∙ sym (ne_eqb a b other))
    (λ (more : b ≤ a). ap is_eq (sym (nat_cmp_is a b Greater (omega arith))) ∙ sym (ne_eqb a b other))
    (cases_lt a b))
    (cases_eq a b)

module _ (m : FinMap nat_cmp Pocket) where
  pub get-inserted : (o : ℕ) (p : Pocket) (q : ℕ) → map.get (map.insert m o p) q ≡ cond (q == o) (Some p) (map.get m q)
  get-inserted o p q = get-insert nat_cmp_total m o p q ∙ ap (λ b. cond b (Some p) (map.get m q)) (eq_by_cmp-nat q o)

  pub get-removed : (o q : ℕ) → map.get (map.remove m o) q ≡ cond (q == o) None (map.get m q)
  get-removed o q = get-remove nat_cmp_total m o q ∙ ap (λ b. cond b None (map.get m q)) (eq_by_cmp-nat q o)

  -- to remove what isn't there changes nothing
  pub remove-absent : (o : ℕ) → map.get m o ≡ None → map.remove m o ≡ m
  remove-absent o none = same_map nat_cmp_total nat_cmp-IsAntisymmetric (map.remove m o) m (λ q. get-removed o q ∙ ⊎_elim
      (λ (is : q ≡ o). cond-true (q == o) None (map.get m q) (eq-eqb q o is) ∙ sym (ap (map.get m) is ∙ none))
      (λ (no : q ≢ o). cond-false (q == o) None (map.get m q) (ne_eqb q o no))
      (cases_eq q o))

-- a wallet that keeps an empty pocket of an object without a place stays the same
pub with_pocket-empty : (w : Purse) (o : ℕ) (p : Pocket) → map.get w.held o ≡ None → (p.left + p.bytes == 0) ≡ true → with_pocket w o p ≡ w
with_pocket-empty w o p none is =
    ap (λ (h : FinMap nat_cmp Pocket). let x : Purse = record { places = w.places; held = h } in x)
    (cond-true (p.left + p.bytes == 0) (map.remove w.held o) (map.insert w.held o p) is ∙ remove-absent w.held o none)

-- what a wallet holds of each object after one has another pocket
pub get-with_pocket : (w : Purse) (o : ℕ) (p : Pocket) (q : ℕ)
    → ((q ≡ o) × (p.left + p.bytes ≡ 0) × (map.get (with_pocket w o p).held q ≡ None)) ⊎ (((q ≡ o) × (map.get (with_pocket w o p).held q ≡ Some p)) ⊎ ((q ≢ o) × (map.get (with_pocket w o p).held q ≡ map.get w.held q)))
get-with_pocket w o p q =
    ⊎_elim
    (λ (none : p.left + p.bytes ≡ 0).
    let held : (with_pocket w o p).held ≡ map.remove w.held o = cond-true (p.left + p.bytes == 0) (map.remove w.held o) (map.insert w.held o p) (eq-eqb (p.left + p.bytes) 0 none) in
    ⊎_elim
    (λ (is : q ≡ o). inl (is, none, ap (λ (m : FinMap nat_cmp Pocket). map.get m q) held ∙ get-removed w.held o q ∙ cond-true (q == o) None (map.get w.held q) (eq-eqb q o is)))
    (λ (no : q ≢ o). inr (inr (no, ap (λ (m : FinMap nat_cmp Pocket). map.get m q) held ∙ get-removed w.held o q ∙ cond-false (q == o) None (map.get w.held q) (ne_eqb q o no))))
    (cases_eq q o))
    (λ (some : p.left + p.bytes ≢ 0).
    let held : (with_pocket w o p).held ≡ map.insert w.held o p = cond-false (p.left + p.bytes == 0) (map.remove w.held o) (map.insert w.held o p) (ne_eqb (p.left + p.bytes) 0 some) in
    ⊎_elim
    (λ (is : q ≡ o). inr (inl (is, ap (λ (m : FinMap nat_cmp Pocket). map.get m q) held ∙ get-inserted w.held o p q ∙ cond-true (q == o) (Some p) (map.get w.held q) (eq-eqb q o is))))
    (λ (no : q ≢ o). inr (inr (no, ap (λ (m : FinMap nat_cmp Pocket). map.get m q) held ∙ get-inserted w.held o p q ∙ cond-false (q == o) (Some p) (map.get w.held q) (ne_eqb q o no))))
    (cases_eq q o))
    (cases_eq (p.left + p.bytes) 0)

-- the tickets of each object after one has another pocket
pub left_of-with_pocket : (w : Purse) (o : ℕ) (p : Pocket) (q : ℕ) → left_of (with_pocket w o p) q ≡ cond (q == o) p.left (left_of w q)
left_of-with_pocket w o p q =
    ⊎_elim
    (λ (gone : (q ≡ o) × (p.left + p.bytes ≡ 0) × (map.get (with_pocket w o p).held q ≡ None)). let n = gone.1 in let z : 0 ≡ p.left = omega arith in ap left_in gone.2 ∙ z ∙ sym (cond-true (q == o) p.left (left_of w q) (eq-eqb q o gone.0)))
    (λ (rest : ((q ≡ o) × (map.get (with_pocket w o p).held q ≡ Some p)) ⊎ ((q ≢ o) × (map.get (with_pocket w o p).held q ≡ map.get w.held q))). ⊎_elim
    (λ (here : (q ≡ o) × (map.get (with_pocket w o p).held q ≡ Some p)). ap left_in here.1 ∙ sym (cond-true (q == o) p.left (left_of w q) (eq-eqb q o here.0)))
    (λ (else : (q ≢ o) × (map.get (with_pocket w o p).held q ≡ map.get w.held q)). ap left_in else.1 ∙ sym (cond-false (q == o) p.left (left_of w q) (ne_eqb q o else.0)))
    rest)
    (get-with_pocket w o p q)

-- and the bytes
pub bytes_of-with_pocket : (w : Purse) (o : ℕ) (p : Pocket) (q : ℕ) → bytes_of (with_pocket w o p) q ≡ cond (q == o) p.bytes (bytes_of w q)
bytes_of-with_pocket w o p q =
    ⊎_elim
    (λ (gone : (q ≡ o) × (p.left + p.bytes ≡ 0) × (map.get (with_pocket w o p).held q ≡ None)). let n = gone.1 in let z : 0 ≡ p.bytes = omega arith in ap bytes_left_in gone.2 ∙ z ∙ sym (cond-true (q == o) p.bytes (bytes_of w q) (eq-eqb q o gone.0)))
    (λ (rest : ((q ≡ o) × (map.get (with_pocket w o p).held q ≡ Some p)) ⊎ ((q ≢ o) × (map.get (with_pocket w o p).held q ≡ map.get w.held q))). ⊎_elim
    (λ (here : (q ≡ o) × (map.get (with_pocket w o p).held q ≡ Some p)). ap bytes_left_in here.1 ∙ sym (cond-true (q == o) p.bytes (bytes_of w q) (eq-eqb q o here.0)))
    (λ (else : (q ≢ o) × (map.get (with_pocket w o p).held q ≡ map.get w.held q)). ap bytes_left_in else.1 ∙ sym (cond-false (q == o) p.bytes (bytes_of w q) (ne_eqb q o else.0)))
    rest)
    (get-with_pocket w o p q)

-- all stays of one table
pub IsOf-with_pocket : (table : TableId) (w : Purse) (o : ℕ) (p : Pocket) → IsOf table w → p.table ≡ table → IsOf table (with_pocket w o p)
IsOf-with_pocket table w o p all is q r at =
    ⊎_elim
    (λ (gone : (q ≡ o) × (p.left + p.bytes ≡ 0) × (map.get (with_pocket w o p).held q ≡ None)). let e : None ≡ Some r = sym gone.2 ∙ at in absurd (cc (e)))
    (λ (rest : ((q ≡ o) × (map.get (with_pocket w o p).held q ≡ Some p)) ⊎ ((q ≢ o) × (map.get (with_pocket w o p).held q ≡ map.get w.held q))). ⊎_elim
    (λ (here : (q ≡ o) × (map.get (with_pocket w o p).held q ≡ Some p)). let e : Some p ≡ Some r = sym here.1 ∙ at in let f : p ≡ r = cc (e) in ap (λ (x : Pocket). x.table) (sym f) ∙ is)
    (λ (else : (q ≢ o) × (map.get (with_pocket w o p).held q ≡ map.get w.held q)). all q r (sym else.1 ∙ at))
    rest)
    (get-with_pocket w o p q)

-- a wallet without what it had of one object
abbrev without : Purse → ℕ → Purse
without w o = record { places = w.places; held = map.remove w.held o }

pub IsOf-without : (table : TableId) (w : Purse) (o : ℕ) → IsOf table w → IsOf table (without w o)
IsOf-without table w o of q p at =
    ⊎_elim
    (λ (is : q ≡ o). let none : Some p ≡ None = sym at ∙ (get-removed w.held o q ∙ cond-true (q == o) None (map.get w.held q) (eq-eqb q o is)) in absurd (cc (none)))
    (λ (no : q ≢ o). of q p (sym (get-removed w.held o q ∙ cond-false (q == o) None (map.get w.held q) (ne_eqb q o no)) ∙ at))
    (cases_eq q o)

pub left_of-without : (w : Purse) (o q : ℕ) → q ≢ o → left_of (without w o) q ≡ left_of w q
left_of-without w o q far = ap left_in (get-removed w.held o q ∙ cond-false (q == o) None (map.get w.held q) (ne_eqb q o far))

pub none_of-without : (w : Purse) (o q : ℕ) → q ≡ o → left_of (without w o) q ≡ 0
none_of-without w o q is = ap left_in (get-removed w.held o q ∙ cond-true (q == o) None (map.get w.held q) (eq-eqb q o is))

-- a wallet has no tickets of an object that has no place in it
pub nothing_past : (w : Purse) (n k : ℕ) → ((o : ℕ) → HasPlace w o → o < n) → n ≤ k → left_of w k ≡ 0
nothing_past w n k few past = by (map.get w.held k) refl
  where
    by : (pocket : Option Pocket) → map.get w.held k ≡ pocket → left_in pocket ≡ 0
    by None is = refl
    by (Some pocket) is = let less = few k (subst IsSome (sym is) refl) in absurd (omega arith)
