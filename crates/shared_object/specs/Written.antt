-- What an object is, and the entries that it has written.
use Rattle.std.specs.Prelude.{ℕ, ◌+◌, ◌<◌, ◌≤◌, List, map, Option}
use Rattle.atomic_table.specs.Seated.{TableId}
use Rattle.view_lists.specs.Lists.{Has}
use Rattle.one_history.specs.declared.entry.Entry.{Entry as HistoryEntry}
use Rattle.one_history.specs.declared.entry.Sign.{Sign}
use Rattle.one_history.specs.declared.entry.Sign.TheVariants.{Plain, Granted as GrantedSign, Direct as DirectSign, Invalidated as InvalidatedSign, Closed as ClosedSign}
use Rattle.one_history.specs.Lists.{entries_at}
use Rattle.tlm_types.specs.declared.words.ObjectNo.{ObjectNo}
use Rattle.tlm_types.specs.declared.words.ObjectNo.TheVariants.{Memory, Hop, Pool}
use Rattle.tlm_types.specs.declared.words.Way.{Way}
use Rattle.tlm_types.specs.declared.words.Way.TheVariants.{Direct}
use Rattle.tlm_types.specs.declared.entry.Content.{Content}
use Rattle.tlm_types.specs.declared.entry.Entry.{Entry}
use Rattle.tlm_types.specs.declared.entry.What.{What}
use Rattle.tlm_types.specs.declared.entry.What.TheVariants.{Access, Granted, Invalidated, Closed}

-- how an object is built: its kind and own number, how it is made, its first gate and how many gates it has, and
-- the table and the owner of its second book, if it has one
pub record Built (M : Type 0) : Type 0 where
  pub object : ObjectNo
  pub made : M
  pub gates : ℕ × ℕ
  pub book : Option (TableId × ℕ)

-- an entry as its object has it: where it stands, and what it says
pub record Written : Type 0 where
  pub position : ℕ
  pub content : Content

-- the number of an object among those of its kind
abbrev pub own_number : ObjectNo → ℕ
own_number (Memory n) = n
own_number (Hop n) = n
own_number (Pool n) = n

-- what the history reads of an access by this way
abbrev pub sign_of_way : Way → Sign
sign_of_way (Direct gate) = DirectSign gate
sign_of_way way = Plain

-- what the history reads of an entry
abbrev pub sign_of : What → Sign
sign_of (Access way access status got) = sign_of_way way
sign_of (Granted gate first last kind) = GrantedSign gate first last
sign_of (Invalidated first last) = InvalidatedSign first last
sign_of (Closed gate) = ClosedSign gate
sign_of what = Plain

-- the gate is one of these
abbrev pub IsAmong : ℕ × ℕ → ℕ → Type 0
IsAmong gates gate = (gates.0 ≤ gate) × (gate < gates.0 + gates.1)

-- a gate that is given or closed is one of these
abbrev pub NamesOwnGate : ℕ × ℕ → Sign → Type 0
NamesOwnGate gates (GrantedSign gate first last) = IsAmong gates gate
NamesOwnGate gates (ClosedSign gate) = IsAmong gates gate
NamesOwnGate gates sign = Unit {0}

-- the entry at this position with this content
abbrev pub wrote : ℕ → Content → Written
wrote position content = record { position = position; content = content }

-- the entry of the log of this object
abbrev pub logged : ObjectNo → Written → Entry
logged object w = record { position = w.position; object = object; txn = w.content.txn; time = w.content.time; what = w.content.what }

-- what was written, of an entry of a log, with this number
abbrev pub noted : ℕ → Entry → Written
noted number e = record { position = e.position; content = record { txn = e.txn; time = e.time; what = e.what; number = number } }

-- the entry of the history, in which the object has this number
abbrev pub placed : ℕ → Written → HistoryEntry Content
placed number w = record { position = w.position; object = number; sign = sign_of w.content.what; content = w.content }

-- what was written, of an entry of the history
abbrev pub written : HistoryEntry Content → Written
written e = wrote e.position e.content

-- what the object with this number has written, among these entries of the history
abbrev pub written_at : ℕ → List (HistoryEntry Content) → List Written
written_at number es = map written (entries_at number es)

-- an entry may be written at this position: it is past what was written, and there is room for it and for its bytes
pub record MayWrite (entries : List Written) (left bytes : ℕ) (position cost : ℕ) : Type 0 where
  pub below : position < 1000000
  pub past : (w : Written) → Has entries w → w.position < position
  pub room : 0 < left
  pub fit : cost ≤ bytes
