-- The amounts that a place has of its object: tickets and bytes.
use Rattle.std.proofs.Common.{◌≡◌, ◌≢◌, ℕ, ◌<◌, ◌≤◌, ◌==◌, Some, None, sym, ap, ◌∙◌, inl, inr, ⊎_elim, arith}
use Rattle.std.proofs.lemmas.Bool.{cases_eq, cond-true, cond-false, eq-eqb, ne_eqb}
use Rattle.atomic_table.specs.Seated.{TableId}
use Rattle.token_book.specs.Account.{Slip, named_amount, share_of, with_amount}
use Rattle.token_book.specs.Pocket.{IsPart, Pocket}
use Rattle.token_book.specs.Ticket.{bytes_right, bytes_rights}

module _ (table : TableId) (owner name : ℕ) (t : Slip) (is : IsPart table owner name t) where
  -- one that isn't 0 has its name
  pub name-part : 0 < t.amount → t.name ≡ name
  name-part some = ⊎_elim (λ (none : t.amount ≡ 0). absurd (omega arith)) (λ (named : t.name ≡ name). named) is.2

  -- a part of it, and what is left, are such, too
  pub IsPart-less : (n : ℕ) → n ≤ t.amount → IsPart table owner name (with_amount t n)
  IsPart-less n less = (is.0, is.1, ⊎_elim (λ (none : t.amount ≡ 0). inl (omega arith)) (λ (named : t.name ≡ name). inr named) is.2)

  -- it is all of its own name
  pub named-own : named_amount name (Some t) ≡ t.amount
  named-own =
      ⊎_elim
      (λ (none : t.amount ≡ 0). ⊎_elim
      (λ (same : t.name ≡ name). cond-true (t.name == name) t.amount 0 (eq-eqb t.name name same))
      (λ (other : t.name ≢ name). cond-false (t.name == name) t.amount 0 (ne_eqb t.name name other) ∙ sym none)
      (cases_eq t.name name))
      (λ (same : t.name ≡ name). cond-true (t.name == name) t.amount 0 (eq-eqb t.name name same))
      is.2

  -- and nothing of another
  pub named-other : (n : ℕ) → n ≢ name → named_amount n (Some t) ≡ 0
  named-other n far =
      ⊎_elim
      (λ (same : t.name ≡ n). cond-true (t.name == n) t.amount 0 (eq-eqb t.name n same) ∙ ⊎_elim (λ (none : t.amount ≡ 0). none) (λ (own : t.name ≡ name). absurd (far (sym same ∙ own))) is.2)
      (λ (other : t.name ≢ n). cond-false (t.name == n) t.amount 0 (ne_eqb t.name n other))
      (cases_eq t.name n)

-- an amount is such of a table and an owner that are the same
pub IsPart-as : (table u : TableId) (owner o name : ℕ) (t : Slip) → table ≡ u → owner ≡ o → IsPart table owner name t → IsPart u o name t
IsPart-as table u owner o name t same own is = (is.0 ∙ same, is.1 ∙ own, is.2)

-- two places are the same where all that they have is
pub same_place : (o q : ℕ) (a b : Pocket) → o ≡ q → a.table ≡ b.table → a.left ≡ b.left → a.bytes ≡ b.bytes → ◌≡◌ {A = ℕ × Pocket} (o, a) (q, b)
same_place o q a b own table left bytes =
    ap (λ (x : ℕ). (x, a)) own
    ∙ (ap (λ (x : TableId). let p : Pocket = record { table = x; left = a.left; bytes = a.bytes } in (q, p)) table
    ∙ (ap (λ (x : ℕ). let p : Pocket = record { table = b.table; left = x; bytes = a.bytes } in (q, p)) left
    ∙ ap (λ (x : ℕ). let p : Pocket = record { table = b.table; left = b.left; bytes = x } in (q, p)) bytes))

-- so many of its bytes are the bytes of a ticket
pub share-bytes : (table : TableId) (owner : ℕ) (t : Slip) → IsPart table owner 1 t → (n : ℕ) → n ≤ t.amount → share_of (with_amount t n) ≡ bytes_rights table owner n
share-bytes table owner t is n less =
    ⊎_elim
    (λ (none : n ≡ 0). cond-true (n == 0) None (Some (with_amount t n)) (eq-eqb n 0 none) ∙ sym (cond-true (n == 0) None (Some (bytes_right table owner n)) (eq-eqb n 0 none)))
    (λ (some : n ≢ 0).
    let b = ne_eqb n 0 some in
    let named : t.name ≡ 1 = name-part table owner 1 t is (omega arith) in
    let same : with_amount t n ≡ bytes_right table owner n =
    ap (λ (x : TableId). let s : Slip = record { table = x; owner = t.owner; name = t.name; amount = n } in s) is.0
    ∙ (ap (λ (x : ℕ). let s : Slip = record { table = table; owner = x; name = t.name; amount = n } in s) is.1
    ∙ ap (λ (x : ℕ). let s : Slip = record { table = table; owner = owner; name = x; amount = n } in s) named) in
    cond-false (n == 0) None (Some (with_amount t n)) b ∙ ap (λ (s : Slip). Some s) same ∙ sym (cond-false (n == 0) None (Some (bytes_right table owner n)) b))
    (cases_eq n 0)
