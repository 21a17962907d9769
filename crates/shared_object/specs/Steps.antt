-- What a step needs, and what it does.
use Rattle.std.specs.Prelude.{◌≡◌, ℕ, ◌<◌, ◌≤◌, Bool, true, false, List, [], ◌∷◌, ◌++◌, map, Option, Some, None, MatchOption, IfSome}
use Rattle.atomic_table.specs.Seated.{TableId}
use Rattle.view_lists.specs.Lists.{Has, Within}
use Rattle.one_history.specs.declared.view.Frame.{Frame}
use Rattle.one_history.specs.declared.view.View.{View}
use Rattle.one_history.specs.Held.{Held}
use Rattle.one_history.specs.Lists.{StandBelow}
use Rattle.one_history.specs.Gates.{IsGateOf, IsRevoked}
use Rattle.one_history.specs.Moves.{left}
use Rattle.token_book.specs.Account.{amount_of}
use Rattle.token_book.specs.Ticket.{IsTicket}
use Rattle.token_book.specs.declared.ticket.Ticket.{Ticket}
use Rattle.tlm_types.specs.declared.entry.Content.{Content}
use Rattle.shared_object.specs.Written.{Written, wrote, placed}

-- a note of this history that stands for one note, and is inside no gate
pub record IsNote {G : Type 0} (table : TableId) (note : Held Content G) : Type 0 where
  pub of : note.table ≡ table
  pub one : note.knows.notes ≡ 1
  pub outside : note.knows.stays ≡ []

-- a note of this history that stands for one note, and is inside this gate
pub record IsInside {G : Type 0} (table : TableId) (gate : ℕ) (note : Held Content G) : Type 0 where
  pub of : note.table ≡ table
  pub one : note.knows.notes ≡ 1
  pub inside : note.knows.stays ≡ record { gate = gate; inside = true } ∷ []

-- a note that is inside this gate, or inside none
abbrev pub IsNoteAt : {G : Type 0} → TableId → Option ℕ → Held Content G → Type 0
IsNoteAt table None note = IsNote table note
IsNoteAt table (Some gate) note = IsInside table gate note

-- a seat after it left the gate, if there is one
abbrev pub left_if : {G : Type 0} → Option ℕ → View Content G → View Content G
left_if None v = v
left_if (Some gate) v = left gate v

-- the right to one entry of this object and to so many bytes
abbrev pub HasTicket : TableId → ℕ → ℕ → Option Ticket → Type 0
HasTicket tokens number cost None = ⊥
HasTicket tokens number cost (Some t) = IsTicket tokens number t × (cost ≤ amount_of t.bytes)

-- the ticket that comes back: none, if an entry was added
abbrev pub unspent : Option ℕ → Option Ticket → Option Ticket
unspent (Some position) ticket = None
unspent None ticket = ticket

-- what is added at a position, if there is one
abbrev pub addition : Option ℕ → Content → List Written
addition (Some position) content = wrote position content ∷ []
addition None content = []

-- what is added where a call is made: an entry, if it is admitted, past all that was written and all that the note had seen, at a position of a history; the note that comes back knows all that was written, all that it knows stands below what it has seen, and its void and drained gates are those of the note and more; for each gate of the object that was void to the note, what was written has its grant and after it an overlapping invalidation
pub record Enters {G : Type 0} (frame : Frame G) (number : ℕ) (before after : List Written) (admitted : Bool) (content : Content) (note back : View Content G) (position : Option ℕ) : Type 0 where
  pub when : MatchOption position (admitted ≡ false) (λ _. admitted ≡ true)
  pub log : after ≡ before ++ addition position content
  pub late : IfSome position (λ p. (note.seen ≤ p) × (p < back.seen))
  pub under : IfSome position (λ p. p < 1000000)
  pub past : IfSome position (λ p. (w : Written) → Has before w → w.position < p)
  pub knew : Within note.known back.known
  pub knows : Within (map (placed number) after) back.known
  pub below : StandBelow back.known back.seen
  pub void : Within note.void back.void
  pub drained : Within note.drained back.drained
  pub revoked : (gate : ℕ) → Has note.void gate → IsGateOf frame number gate → IsRevoked (map (placed number) before) gate
