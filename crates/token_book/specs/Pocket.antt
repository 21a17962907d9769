-- What a wallet holds of one object.
use Rattle.std.specs.Prelude.{◌≡◌, ◌⊎◌, ℕ, ◌+◌, ◌-◌, ◌==◌, if◌then◌else◌, refl}
use Rattle.std.specs.Coded.{Coded, code_by, coded×, coded_ℕ}
use Rattle.atomic_table.specs.Seated.{TableId, table_id_coded}
use Rattle.token_book.specs.Account.{Slip}

-- in which table they are, how many tickets, and the amount of the bytes
pub record Pocket : Type 0 where
  pub table : TableId
  pub left : ℕ
  pub bytes : ℕ

-- the code by which proofs tell pockets apart
abbrev pub pocket_code : Coded Pocket
pocket_code = code_by (TableId × (ℕ × ℕ)) (coded× table_id_coded (coded× coded_ℕ coded_ℕ)) (λ p. (p.table, (p.left, p.bytes))) (λ p. record { table = p.0; left = p.1.0; bytes = p.1.1 }) (λ _. refl)

-- what a token adds to the tickets: its amount, if its name is 0
abbrev pub tickets_in : Slip → ℕ
tickets_in t = if t.name == 0 then t.amount else 0

-- what a token adds to the bytes: its amount, if its name isn't 0
abbrev pub bytes_in : Slip → ℕ
bytes_in t = if t.name == 0 then 0 else t.amount

-- an amount of this table and owner, which has this name where it isn't 0
abbrev pub IsPart : TableId → ℕ → ℕ → Slip → Type 0
IsPart table owner name t = (t.table ≡ table) × (t.owner ≡ owner) × ((t.amount ≡ 0) ⊎ (t.name ≡ name))

-- the pocket after a token was put in
abbrev pub with_token : Slip → Pocket → Pocket
with_token t p = record { table = p.table; left = p.left + tickets_in t; bytes = p.bytes + bytes_in t }

-- the pocket with what another one has
abbrev pub with_pocket_in : Pocket → Pocket → Pocket
with_pocket_in p q = record { table = p.table; left = p.left + q.left; bytes = p.bytes + q.bytes }

-- the pocket after a ticket for so many bytes was taken out
abbrev pub without_ticket : ℕ → Pocket → Pocket
without_ticket bytes p = record { table = p.table; left = p.left - 1; bytes = p.bytes - bytes }

-- a pocket of so many tickets and so many bytes
abbrev pub rights_of : TableId → ℕ → ℕ → Pocket
rights_of table tickets bytes = record { table = table; left = tickets; bytes = bytes }

-- the pocket after so many tickets and so many bytes were taken out
abbrev pub without_rights : ℕ → ℕ → Pocket → Pocket
without_rights tickets bytes p = record { table = p.table; left = p.left - tickets; bytes = p.bytes - bytes }

-- a pocket of nothing
abbrev pub no_pocket : TableId → Pocket
no_pocket table = record { table = table; left = 0; bytes = 0 }
