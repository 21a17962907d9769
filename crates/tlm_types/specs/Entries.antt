-- What is read of an entry.
use Rattle.std.specs.Prelude.{ℕ, Bool, true, false, ◌+◌, List, [], length, replicate, Option, Some, None, slice_get, option_and_then}
use Rattle.tlm_types.specs.declared.words.Command.{Command}
use Rattle.tlm_types.specs.declared.words.Command.TheVariants.{Read, Write, Ignore, FetchAdd}
use Rattle.tlm_types.specs.declared.words.Way.{Way}
use Rattle.tlm_types.specs.declared.words.Way.TheVariants.{Blocking, FourPhase, Direct, Debug}
use Rattle.tlm_types.specs.declared.entry.Entry.{Entry}
use Rattle.tlm_types.specs.declared.entry.Facts.{Facts}
use Rattle.tlm_types.specs.declared.entry.Head.{Head}
use Rattle.tlm_types.specs.declared.entry.What.{What}
use Rattle.tlm_types.specs.declared.entry.What.TheVariants.{Access as Accessed}

-- the entry that says what happened, at this place and time
abbrev pub entry_at : Head → What → Entry
entry_at h w = record { position = h.position; object = h.object; txn = h.txn; time = h.time; what = w }

-- what a read of n bytes sends: a buffer of zeros, and in a debug read nothing
abbrev pub read_sends : Way → ℕ → List ℕ
read_sends Debug n = []
read_sends Blocking n = replicate n 0
read_sends FourPhase n = replicate n 0
read_sends (Direct g) n = replicate n 0

-- what an access of n bytes sends, where these bytes were kept of it
abbrev pub sent_by : Command → Way → ℕ → List ℕ → List ℕ
sent_by Read way n kept = read_sends way n
sent_by Write way n kept = kept
sent_by Ignore way n kept = kept
sent_by FetchAdd way n kept = kept

-- the access with these parts
abbrev pub access_by : Facts → List ℕ → List ℕ → List ℕ → What
access_by f sent enables got = Accessed f.way (record { command = f.command; offset = f.offset; length = f.length; sent = sent_by f.command f.way f.length sent; enables = enables; width = f.width }) f.status got

abbrev pub is_access : What → Bool
is_access (Accessed way access status got) = true
is_access w = false

-- the bytes sent that a log keeps: a read's are zeros
abbrev pub kept_sent : Command → List ℕ → List ℕ
kept_sent Read sent = []
kept_sent Write sent = sent
kept_sent Ignore sent = sent
kept_sent FetchAdd sent = sent

-- how many bytes a log keeps of what happened
abbrev pub kept_of : What → ℕ
kept_of (Accessed way a status got) = length (kept_sent a.command a.sent) + length a.enables + length got
kept_of w = 0

-- an entry without what happened
abbrev pub head_of : Entry → Head
head_of e = record { position = e.position; object = e.object; txn = e.txn; time = e.time }

-- what happened, where it is no access
abbrev pub plain_of : What → Option What
plain_of (Accessed way access status got) = None
plain_of w = Some w

-- the plain parts of an access, and its bytes
abbrev pub facts_of : What → Option Facts
facts_of (Accessed way a status got) = Some (record { way = way; command = a.command; offset = a.offset; length = a.length; width = a.width; status = status })
facts_of w = None

abbrev pub sent_of : What → Option (List ℕ)
sent_of (Accessed way a status got) = Some a.sent
sent_of w = None

abbrev pub enables_of : What → Option (List ℕ)
enables_of (Accessed way a status got) = Some a.enables
enables_of w = None

abbrev pub got_of : What → Option (List ℕ)
got_of (Accessed way a status got) = Some got
got_of w = None

-- what such a reading of what happened gives at a place
abbrev pub read_at : {T : Type 0} → (What → Option T) → List Entry → ℕ → Option T
read_at read entries index = option_and_then (λ e. read e.what) (slice_get entries index)
