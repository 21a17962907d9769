-- Tickets: the right to one entry of an object, and to the bytes that it may log.
use Rattle.std.specs.Prelude.{◌≡◌, ℕ, ◌==◌, Option, Some, None, if◌then◌else◌}
use Rattle.std.specs.Option.{ForSome}
use Rattle.atomic_table.specs.Seated.{TableId}
use Rattle.token_book.specs.Account.{Slip}
use Rattle.token_book.specs.declared.ticket.Ticket.{Ticket}

-- the right to one entry of an object
abbrev pub entry_right : TableId → ℕ → Slip
entry_right table object = record { table = table; owner = object; name = 0; amount = 1 }

-- the right to that many bytes of an object
abbrev pub bytes_right : TableId → ℕ → ℕ → Slip
bytes_right table object bytes = record { table = table; owner = object; name = 1; amount = bytes }

-- the bytes of a ticket that may log so many: none where it may log none
abbrev pub bytes_rights : TableId → ℕ → ℕ → Option Slip
bytes_rights table object bytes = if bytes == 0 then None else Some (bytes_right table object bytes)

-- a ticket of an object
pub record IsTicket (table : TableId) (object : ℕ) (t : Ticket) : Type 0 where
  pub entry : t.entry ≡ entry_right table object
  pub bytes : ForSome t.bytes (λ b. b ≡ bytes_right table object b.amount)
