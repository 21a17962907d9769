-- What contracts see of a book and of a token, and what the calls make of them.
use Rattle.std.specs.Prelude.{◌≡◌, ℕ, ◌+◌, ◌-◌, ◌==◌, List, [], ◌∷◌, Option, Some, None, slice_get, if◌then◌else◌, refl}
use Rattle.std.specs.Coded.{Coded, code_by, coded×, coded_ℕ, coded_list}
use Rattle.atomic_table.specs.Seated.{TableId, table_id_coded}

-- an owner's book: in which table it is, whose it is, and what is out of each name, the latest first
pub record Account : Type 0 where
  pub table : TableId
  pub owner : ℕ
  pub out : List (ℕ × ℕ)

-- a token: in which table it is, whose it is, its name, and how much it is
pub record Slip : Type 0 where
  pub table : TableId
  pub owner : ℕ
  pub name : ℕ
  pub amount : ℕ

-- the codes by which proofs tell them apart
abbrev pub account_code : Coded Account
account_code =
    code_by (TableId × (ℕ × List (ℕ × ℕ))) (coded× table_id_coded (coded× coded_ℕ (coded_list (coded× coded_ℕ coded_ℕ))))
    (λ b. (b.table, (b.owner, b.out))) (λ p. record { table = p.0; owner = p.1.0; out = p.1.1 }) (λ _. refl)

abbrev pub slip_code : Coded Slip
slip_code =
    code_by (TableId × (ℕ × (ℕ × ℕ))) (coded× table_id_coded (coded× coded_ℕ (coded× coded_ℕ coded_ℕ)))
    (λ t. (t.table, (t.owner, (t.name, t.amount)))) (λ p. record { table = p.0; owner = p.1.0; name = p.1.1.0; amount = p.1.1.1 }) (λ _. refl)

-- what is out of a name: nothing, if it isn't listed
abbrev pub out_of : ℕ → List (ℕ × ℕ) → ℕ
out_of name [] = 0
out_of name (x ∷ xs) = if x.0 == name then x.1 else out_of name xs

-- the book of an owner with nothing out
abbrev pub fresh : TableId → ℕ → Account
fresh table owner = record { table = table; owner = owner; out = [] }

-- the books stand in the order of their owners, from 0 on, with nothing out
abbrev pub AreFresh : TableId → List Account → Type 0
AreFresh table books = (o : ℕ) (b : Account) → slice_get books o ≡ Some b → b ≡ fresh table o

-- the book after an amount of a name was issued
abbrev pub issued : Account → ℕ → ℕ → Account
issued b name amount = record { table = b.table; owner = b.owner; out = (name, out_of name b.out + amount) ∷ b.out }

-- the token that was issued
abbrev pub slip : Account → ℕ → ℕ → Slip
slip b name amount = record { table = b.table; owner = b.owner; name = name; amount = amount }

-- the book after a token was retired
abbrev pub retired : Account → Slip → Account
retired b t = record { table = b.table; owner = b.owner; out = (t.name, out_of t.name b.out - t.amount) ∷ b.out }

-- the token with another amount
abbrev pub with_amount : Slip → ℕ → Slip
with_amount t amount = record { table = t.table; owner = t.owner; name = t.name; amount = amount }

-- a token's amount, or 0 without one
abbrev pub amount_of : Option Slip → ℕ
amount_of None = 0
amount_of (Some t) = t.amount

-- what is left of a token where an amount of 0 is none
abbrev pub share_of : Slip → Option Slip
share_of t = if t.amount == 0 then None else Some t

-- how much of a name it is
abbrev pub named_amount : ℕ → Option Slip → ℕ
named_amount name None = 0
named_amount name (Some t) = if t.name == name then t.amount else 0
