-- What a wallet holds after a ticket was pulled, or a token put in.
use Rattle.std.proofs.Common.{◌≡◌, ◌≢◌, ℕ, ◌+◌, ◌-◌, ◌==◌, cond, Option, Some, None, refl, sym, ap, ◌∙◌, ⊎_elim}
use Rattle.std.specs.Prelude.{unwrap_or}
use Rattle.std.proofs.lemmas.Bool.{cases_eq, cond-true, cond-false, eq-eqb, ne_eqb}
use Rattle.std.specs.FinMap as map
use Rattle.atomic_table.specs.Seated.{TableId}
use Rattle.token_book.specs.Account.{Slip}
use Rattle.token_book.specs.Pocket.{Pocket, no_pocket, tickets_in, bytes_in, with_pocket_in, with_token, without_rights, without_ticket}
use Rattle.token_book.specs.Purse.{Purse, left_in, bytes_left_in, left_of, bytes_of, IsOf, pocket_of, pulled, pulled_rights, put_in, with_more}
use Rattle.token_book.proofs.Purses.{left_of-with_pocket, bytes_of-with_pocket, IsOf-with_pocket}

pocket_left : (table : TableId) (x : Option Pocket) → (unwrap_or x (no_pocket table)).left ≡ left_in x
pocket_left table None = refl
pocket_left table (Some p) = refl

pocket_bytes : (table : TableId) (x : Option Pocket) → (unwrap_or x (no_pocket table)).bytes ≡ bytes_left_in x
pocket_bytes table None = refl
pocket_bytes table (Some p) = refl

pocket_table : (table : TableId) (w : Purse) (o : ℕ) → IsOf table w → (pocket_of table w o).table ≡ table
pocket_table table w o all = one (map.get w.held o) refl
  where
    one : (x : Option Pocket) → map.get w.held o ≡ x → (unwrap_or x (no_pocket table)).table ≡ table
    one None is = refl
    one (Some p) is = all o p is

-- the same number at q and at o, where q is o
at_same : (f : ℕ → ℕ) (o q a : ℕ) → cond (q == o) (f o + a) (f q) ≡ cond (q == o) (f q + a) (f q)
at_same f o q a =
    ⊎_elim
    (λ (is : q ≡ o). let t = eq-eqb q o is in cond-true (q == o) (f o + a) (f q) t ∙ ap (λ (k : ℕ). f k + a) (sym is) ∙ sym (cond-true (q == o) (f q + a) (f q) t))
    (λ (no : q ≢ o). let t = ne_eqb q o no in cond-false (q == o) (f o + a) (f q) t ∙ sym (cond-false (q == o) (f q + a) (f q) t))
    (cases_eq q o)

-- the tickets and the bytes of each object after a pull
pub left_of-pulled : (table : TableId) (w : Purse) (o bytes q : ℕ) → left_of (pulled table w o bytes) q ≡ cond (q == o) (left_of w o - 1) (left_of w q)
left_of-pulled table w o bytes q =
    left_of-with_pocket w o (without_ticket bytes (pocket_of table w o)) q ∙ ap (λ (k : ℕ). cond (q == o) (k - 1) (left_of w q)) (pocket_left table (map.get w.held o))

pub bytes_of-pulled : (table : TableId) (w : Purse) (o bytes q : ℕ) → bytes_of (pulled table w o bytes) q ≡ cond (q == o) (bytes_of w o - bytes) (bytes_of w q)
bytes_of-pulled table w o bytes q =
    bytes_of-with_pocket w o (without_ticket bytes (pocket_of table w o)) q ∙ ap (λ (k : ℕ). cond (q == o) (k - bytes) (bytes_of w q)) (pocket_bytes table (map.get w.held o))

pub IsOf-pulled : (table : TableId) (w : Purse) (o bytes : ℕ) → IsOf table w → IsOf table (pulled table w o bytes)
IsOf-pulled table w o bytes all = IsOf-with_pocket table w o (without_ticket bytes (pocket_of table w o)) all (pocket_table table w o all)

-- and after so many tickets and bytes were pulled at once
pub left_of-pulled_rights : (table : TableId) (w : Purse) (o tickets bytes q : ℕ) → left_of (pulled_rights table w o tickets bytes) q ≡ cond (q == o) (left_of w o - tickets) (left_of w q)
left_of-pulled_rights table w o tickets bytes q =
    left_of-with_pocket w o (without_rights tickets bytes (pocket_of table w o)) q ∙ ap (λ (k : ℕ). cond (q == o) (k - tickets) (left_of w q)) (pocket_left table (map.get w.held o))

pub bytes_of-pulled_rights : (table : TableId) (w : Purse) (o tickets bytes q : ℕ) → bytes_of (pulled_rights table w o tickets bytes) q ≡ cond (q == o) (bytes_of w o - bytes) (bytes_of w q)
bytes_of-pulled_rights table w o tickets bytes q =
    bytes_of-with_pocket w o (without_rights tickets bytes (pocket_of table w o)) q ∙ ap (λ (k : ℕ). cond (q == o) (k - bytes) (bytes_of w q)) (pocket_bytes table (map.get w.held o))

pub IsOf-pulled_rights : (table : TableId) (w : Purse) (o tickets bytes : ℕ) → IsOf table w → IsOf table (pulled_rights table w o tickets bytes)
IsOf-pulled_rights table w o tickets bytes all = IsOf-with_pocket table w o (without_rights tickets bytes (pocket_of table w o)) all (pocket_table table w o all)

-- and after a token was put in
pub left_of-put_in : (w : Purse) (t : Slip) (q : ℕ) → left_of (put_in w t) q ≡ cond (q == t.owner) (left_of w q + tickets_in t) (left_of w q)
left_of-put_in w t q =
    left_of-with_pocket w t.owner (with_token t (pocket_of t.table w t.owner)) q
    ∙ ap (λ (k : ℕ). cond (q == t.owner) (k + tickets_in t) (left_of w q)) (pocket_left t.table (map.get w.held t.owner))
    ∙ at_same (left_of w) t.owner q (tickets_in t)

pub bytes_of-put_in : (w : Purse) (t : Slip) (q : ℕ) → bytes_of (put_in w t) q ≡ cond (q == t.owner) (bytes_of w q + bytes_in t) (bytes_of w q)
bytes_of-put_in w t q =
    bytes_of-with_pocket w t.owner (with_token t (pocket_of t.table w t.owner)) q
    ∙ ap (λ (k : ℕ). cond (q == t.owner) (k + bytes_in t) (bytes_of w q)) (pocket_bytes t.table (map.get w.held t.owner))
    ∙ at_same (bytes_of w) t.owner q (bytes_in t)

pub IsOf-put_in : (table : TableId) (w : Purse) (t : Slip) → t.table ≡ table → IsOf table w → IsOf table (put_in w t)
IsOf-put_in table w t is all =
    let own : IsOf t.table w = λ q p at. all q p at ∙ sym is in
    IsOf-with_pocket table w t.owner (with_token t (pocket_of t.table w t.owner)) all (pocket_table t.table w t.owner own ∙ is)

-- and with what another pocket of an object has
pub left_of-with_more : (table : TableId) (w : Purse) (o : ℕ) (p : Pocket) (q : ℕ) → left_of (with_more table w o p) q ≡ cond (q == o) (left_of w q + p.left) (left_of w q)
left_of-with_more table w o p q =
    left_of-with_pocket w o (with_pocket_in (pocket_of table w o) p) q
    ∙ ap (λ (k : ℕ). cond (q == o) (k + p.left) (left_of w q)) (pocket_left table (map.get w.held o))
    ∙ at_same (left_of w) o q p.left

pub bytes_of-with_more : (table : TableId) (w : Purse) (o : ℕ) (p : Pocket) (q : ℕ) → bytes_of (with_more table w o p) q ≡ cond (q == o) (bytes_of w q + p.bytes) (bytes_of w q)
bytes_of-with_more table w o p q =
    bytes_of-with_pocket w o (with_pocket_in (pocket_of table w o) p) q
    ∙ ap (λ (k : ℕ). cond (q == o) (k + p.bytes) (bytes_of w q)) (pocket_bytes table (map.get w.held o))
    ∙ at_same (bytes_of w) o q p.bytes

pub IsOf-with_more : (table : TableId) (w : Purse) (o : ℕ) (p : Pocket) → IsOf table w → IsOf table (with_more table w o p)
IsOf-with_more table w o p all = IsOf-with_pocket table w o (with_pocket_in (pocket_of table w o) p) all (pocket_table table w o all)
