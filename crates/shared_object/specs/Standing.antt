-- How an object stands in a history, with its seat and its book of tickets.
use Rattle.std.specs.Prelude.{◌≡◌, ℕ, ◌+◌, ◌<◌, ◌≤◌, List, [], ◌∷◌, ◌++◌, map, take, sum, length, slice_index_or, Option, Some, None}
use Rattle.atomic_table.specs.Seated.{TableId}
use Rattle.view_lists.specs.Lists.{Has, Within}
use Rattle.one_history.specs.declared.entry.Entry.{Entry}
use Rattle.one_history.specs.declared.view.Frame.{Frame}
use Rattle.one_history.specs.declared.view.View.{View}
use Rattle.one_history.specs.Held.{Held}
use Rattle.one_history.specs.Moves.{number_of, own_of, drawn}
use Rattle.token_book.specs.Account.{Account, out_of}
use Rattle.tlm_types.specs.declared.words.TxnId.{TxnId}
use Rattle.tlm_types.specs.declared.entry.Content.{Content}
use Rattle.shared_object.specs.Written.{Built, Written, own_number, wrote, placed, written_at}

-- the number of an object in its history, and its own number among the objects of its kind
pub record Numbers : Type 0 where
  pub number : ℕ
  pub own : ℕ

-- an object and its number in the history
pub record Numbered (O : Type 0) : Type 0 where
  pub number : ℕ
  pub object : O

-- the place of an object: the facts of its history, the table of its tokens, and its numbers
pub record Place (G : Type 0) : Type 0 where
  pub frame : Frame G
  pub tokens : TableId
  pub numbers : Numbers

module _ {G : Type 0} where
  abbrev pub place : Frame G → TableId → ℕ → ℕ → Place G
  place frame tokens number own = record { frame = frame; tokens = tokens; numbers = record { number = number; own = own } }

  -- an object has these gates, the first and how many: they are as many as the history counts for it, and if there are any,
  -- the first comes after those of all objects before it
  pub record HasGates (frame : Frame G) (number : ℕ) (gates : ℕ × ℕ) : Type 0 where
    pub count : gates.1 ≡ slice_index_or frame.gates number 0
    pub first : 0 < gates.1 → gates.0 ≡ sum (take number frame.gates)

  -- the second book of an object, if it has one: its owner comes after the owners of all objects
  abbrev pub IsSecondBook : Place G → Option (TableId × ℕ) → Type 0
  IsSecondBook at None = Unit {0}
  IsSecondBook at (Some book) = (book.0 ≡ at.tokens) × (book.1 ≡ length at.frame.planned + at.numbers.number)

module _ {G M : Type 0} where
  -- an object that is built so may stand there
  pub record IsBuiltFor (builds : G → ℕ → Built M → Type 0) (at : Place G) (b : Built M) : Type 0 where
    pub own : own_number b.object ≡ at.numbers.own
    pub world : builds at.frame.world at.numbers.number b
    pub gates : HasGates at.frame at.numbers.number b.gates
    pub book : IsSecondBook at b.book

  -- an object that a call may meet there, where these entries are known: its state is one that its log gives, and its log has what is known of it
  pub record Meets {O : Type 0} (builds : G → ℕ → Built M → Type 0) (built : O → Built M) (entries : O → List Written) (follows : O → Type 0) (at : Place G) (known : List (Entry Content)) (o : O) : Type 0 where
    pub built_for : IsBuiltFor builds at (built o)
    pub state : follows o
    pub knows : Within (written_at at.numbers.number known) (entries o)

-- the entries vouch for the items
abbrev pub AreVouched : {I : Type 0} → (TxnId → I → List (Entry Content) → Type 0) → List (TxnId × I) → List (Entry Content) → Type 0
AreVouched {I} vouches items known = (x : TxnId × I) → Has items x → vouches x.0 x.1 known

-- the seat of the object of this number, between two calls
pub record IsSeat {G : Type 0} (table : TableId) (frame : Frame G) (number : ℕ) (entries : List Written) (seat : Held Content G) : Type 0 where
  pub of : seat.table ≡ table
  pub framed : seat.knows.frame ≡ Some frame
  pub numbered : number_of seat.knows ≡ number
  pub own : own_of seat.knows ≡ map (placed number) entries
  pub idle : seat.knows.notes ≡ 0
  pub unlooked : seat.knows.looks ≡ []
  pub outside : seat.knows.stays ≡ []
  pub knows : Within (own_of seat.knows) seat.knows.known
  pub below : (w : Written) → Has entries w → w.position < seat.knows.seen

-- the book of the object of this number: a ticket is out for each entry for which there is room, and no more bytes than there is room for
pub record IsBook (tokens : TableId) (number entries bytes : ℕ) (book : Account) : Type 0 where
  pub of : book.table ≡ tokens
  pub owner : book.owner ≡ number
  pub out : out_of 0 book.out ≡ entries
  pub fit : out_of 1 book.out ≤ bytes

-- a seat drew the entry with this content at this position
pub record IsDrawn {G : Type 0} (content : Content) (position : ℕ) (v w : View Content G) : Type 0 where
  pub after : v.seen ≤ position
  pub under : position < 1000000
  pub is : w ≡ drawn v (placed (number_of v) (wrote position content))
  pub own : own_of w ≡ own_of v ++ placed (number_of v) (wrote position content) ∷ []
