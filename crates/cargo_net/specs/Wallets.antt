-- The wallet of a payload, from which a ticket of its hop is pulled, and into which it comes back.
use Rattle.std.specs.Prelude.{ℕ, ◌≡◌, Option, Some, None}
use Rattle.atomic_table.specs.Seated.{TableId}
use Rattle.token_book.specs.Purse.{HasRoom, Purse, bytes_of, left_of, pulled}
use Rattle.token_book.specs.Ticket.{IsTicket, entry_right}
use Rattle.token_book.specs.declared.ticket.Ticket.{Ticket}
use Rattle.cargo_model.specs.declared.cargo.Cargo.{Cargo}
use Rattle.cargo_model.specs.Tickets.{Pulls, Puts}
use Rattle.cargo_model.specs.Travel.{with_wallet}

-- the cargo that a hop is given: one ticket of the hop was pulled from its wallet
abbrev pub item_given : TableId → ℕ → Cargo → Cargo
item_given tokens number c = with_wallet c (pulled tokens c.baton.wallet number 0)

-- a ticket of an object, for which a wallet has room
abbrev pub GoesBack : TableId → ℕ → Purse → Option Ticket → Type 0
GoesBack tokens number w None = ⊥
GoesBack tokens number w (Some t) = (t.entry ≡ entry_right tokens number) × HasRoom w number

-- the cargo after its ticket was put back
pub record IsPutBack (tokens : TableId) (number : ℕ) (old new : Cargo) : Type 0 where
  pub same : new ≡ with_wallet old new.baton.wallet
  pub puts : Puts tokens number old.baton.wallet new.baton.wallet

-- one wallet holds as much of each object as another
pub record HoldsSame (v w : Purse) : Type 0 where
  pub places : v.places ≡ w.places
  pub left : (o : ℕ) → left_of v o ≡ left_of w o
  pub bytes : (o : ℕ) → bytes_of v o ≡ bytes_of w o

-- a ticket of an object, if there is one, was pulled
abbrev pub PullsAt : TableId → Option ℕ → Purse → Purse → Type 0
PullsAt tokens None old new = new ≡ old
PullsAt tokens (Some number) old new = Pulls tokens number 0 old new

-- and this is it
abbrev pub IsTicketAt : TableId → Option ℕ → Option Ticket → Type 0
IsTicketAt tokens None None = Unit {0}
IsTicketAt tokens (Some number) (Some t) = IsTicket tokens number t
IsTicketAt tokens number ticket = ⊥
