-- How a log keeps its entries: as items. The bytes of an access stand in its item, or among those of all.
use Rattle.std.specs.Prelude.{◌≡◌, ℕ, ◌+◌, ◌^◌, ◌<◌, ◌≤◌, List, ◌∷◌, ◌++◌, All, Option, Some, None, length, map, [], get_or, slice_range}
use Rattle.tlm_types.specs.declared.entry.Entry.{Entry}
use Rattle.tlm_types.specs.declared.entry.Facts.{Facts}
use Rattle.tlm_types.specs.declared.entry.Head.{Head}
use Rattle.tlm_types.specs.declared.entry.What.{What}
use Rattle.tlm_types.specs.declared.entry.What.TheVariants as whats
use Rattle.log_items.specs.declared.brief.Brief.{Brief}
use Rattle.log_items.specs.declared.brief.BriefEvent.{BriefEvent}
use Rattle.log_items.specs.declared.brief.BriefEvent.TheVariants as briefs
use Rattle.log_items.specs.declared.item.Item.{Item}
use Rattle.log_items.specs.declared.item.Item.TheVariants as items
use Rattle.log_items.specs.declared.item.ShortAccess.{ShortAccess}
use Rattle.log_items.specs.declared.item.ShortHead.{ShortHead}
use Rattle.log_items.specs.declared.item.ShortWay.{ShortWay}
use Rattle.log_items.specs.declared.item.ShortWay.TheVariants as short_ways
use Rattle.log_items.specs.declared.long.Event.{Event}
use Rattle.log_items.specs.declared.long.Event.TheVariants.{Plain as Simple, Access}
use Rattle.log_items.specs.declared.long.LongItem.{LongItem}
use Rattle.log_items.specs.declared.long.PlacedAccess.{PlacedAccess}
use Rattle.log_items.specs.declared.long.Plain.{Plain}
use Rattle.log_items.specs.declared.long.Plain.TheVariants.{Granted, Invalidated, Closed, Call, Take, Acquire, Release}
use Rattle.log_items.specs.declared.long.Span.{Span}
use Rattle.log_items.specs.declared.long.StoredAccess.{StoredAccess}
use Rattle.tlm_types.specs.declared.words.Command.{Command}
use Rattle.tlm_types.specs.declared.words.Command.TheVariants.{Read, Write, Ignore, FetchAdd}
use Rattle.tlm_types.specs.declared.words.ObjectNo.{ObjectNo}
use Rattle.tlm_types.specs.declared.words.ObjectNo.TheVariants.{Memory, Hop, Pool}
use Rattle.tlm_types.specs.declared.words.Response.TheVariants.{Ok}
use Rattle.tlm_types.specs.declared.words.TlmSync.TheVariants.{Accepted, Updated, Completed}
use Rattle.tlm_types.specs.declared.words.Way.{Way}
use Rattle.tlm_types.specs.declared.words.Way.TheVariants.{Blocking, FourPhase, Direct, Debug}
use Rattle.tlm_types.specs.Entries.{access_by, entry_at}
use Rattle.log_items.specs.declared.item.Word.{Word}

-- the long item of an event at this place and time, and back
abbrev pub item_for : Head → ℕ → Event → LongItem
item_for h start event = record { position = h.position; time = h.time; seq = h.txn.seq; initiator = h.txn.initiator; start = start; object = h.object; event = event }

abbrev pub head_in : LongItem → Head
head_in i = record { position = i.position; object = i.object; txn = record { initiator = i.initiator; seq = i.seq }; time = i.time }

-- the access with these parts whose bytes stand there, and back
abbrev pub stored_at : Facts → Span → StoredAccess
stored_at f s = record { offset = f.offset; length = f.length; width = f.width; enables_start = s.enables_start; got_start = s.got_start; end = s.end; way = f.way; command = f.command; status = f.status }

abbrev pub facts_in : StoredAccess → Facts
facts_in a = record { way = a.way; command = a.command; offset = a.offset; length = a.length; width = a.width; status = a.status }

abbrev pub span_in : ℕ → StoredAccess → Span
span_in start a = record { start = start; enables_start = a.enables_start; got_start = a.got_start; end = a.end }

-- what happened, where it is no access
abbrev pub plain_what : Plain → What
plain_what (Granted gate kind first last) = whats.Granted gate first last kind
plain_what (Invalidated first last) = whats.Invalidated first last
plain_what (Closed gate) = whats.Closed gate
plain_what (Call phase answer) = whats.Call phase answer
plain_what (Take slot) = whats.Take slot
plain_what (Acquire slot) = whats.Acquire slot
plain_what (Release slot freed) = whats.Release slot freed

abbrev pub plain_in : Event → Option What
plain_in (Simple plain) = Some (plain_what plain)
plain_in (Access a) = None

-- the plain parts of an access, and where its bytes stand
abbrev pub facts_from : Event → Option Facts
facts_from (Simple plain) = None
facts_from (Access a) = Some (facts_in a)

-- the access that an item keeps, with all that it says of it
abbrev pub access_from : Head → ℕ → Event → Option PlacedAccess
access_from head start (Simple plain) = None
access_from head start (Access a) = Some (record { head = head; facts = facts_in a; span = span_in start a })

abbrev pub access_in : LongItem → Option PlacedAccess
access_in i = access_from (head_in i) i.start i.event

-- what happened, where these are the bytes of the accesses, and an access's begin there
abbrev pub what_in : List ℕ → ℕ → Event → What
what_in bytes start (Simple plain) = plain_what plain
what_in bytes start (Access a) = access_by (facts_in a) (slice_range bytes start a.enables_start) (slice_range bytes a.enables_start a.got_start) (slice_range bytes a.got_start a.end)

-- an item in its long form, with the bytes of its entry where they stand in the item itself
pub record FullItem : Type 0 where
  pub item : LongItem
  pub own : Option (List ℕ)

-- an item whose bytes stand elsewhere
abbrev pub placed : LongItem → FullItem
placed item = record { item = item; own = None }

-- the bytes among which those of an item stand: its own, or else these
abbrev pub bytes_for : List ℕ → Option (List ℕ) → List ℕ
bytes_for bytes None = bytes
bytes_for bytes (Some own) = own

abbrev pub item_entry : List ℕ → FullItem → Entry
item_entry bytes i = entry_at (head_in i.item) (what_in (bytes_for bytes i.own) i.item.start i.item.event)

abbrev pub entries_of : List ℕ → List FullItem → List Entry
entries_of bytes items = map (item_entry bytes) items

-- the bytes of an access lie among the first n
abbrev pub IsKept : ℕ → ℕ → Event → Type 0
IsKept n start (Simple plain) = Unit {0}
IsKept n start (Access a) = (start ≤ a.enables_start) × (a.enables_start ≤ a.got_start) × (a.got_start ≤ a.end) × (a.end ≤ n)

-- the bytes of an item lie among those where they stand
abbrev pub IsWithin : List ℕ → FullItem → Type 0
IsWithin bytes i = IsKept (length (bytes_for bytes i.own)) i.item.start i.item.event

-- the parts of an access's bytes stand one after another
abbrev pub IsOrdered : Span → Type 0
IsOrdered s = (s.start ≤ s.enables_start) × (s.enables_start ≤ s.got_start) × (s.got_start ≤ s.end)

-- where the n bytes of an access stand that are its data alone: a read got them, and any other command sent them
abbrev pub short_span : Command → ℕ → ℕ → Span
short_span Read start n = record { start = start; enables_start = start; got_start = start; end = start + n }
short_span Write start n = record { start = start; enables_start = start + n; got_start = start + n; end = start + n }
short_span Ignore start n = record { start = start; enables_start = start + n; got_start = start + n; end = start + n }
short_span FetchAdd start n = record { start = start; enables_start = start + n; got_start = start + n; end = start + n }

-- the head with these numbers of this initiator at this object
abbrev pub full_head : ShortHead → ℕ → ObjectNo → Head
full_head h initiator object = record { position = h.position; object = object; txn = record { initiator = initiator; seq = h.seq }; time = h.time }

-- the way in full
abbrev pub full_way : ShortWay → Way
full_way short_ways.Blocking = Blocking
full_way short_ways.FourPhase = FourPhase
full_way short_ways.Debug = Debug

-- the plain parts of an access of n bytes by this way, which the short form says
abbrev pub short_facts : Way → ℕ → ShortAccess → Facts
short_facts way n a = record { way = way; command = a.command; offset = a.offset; length = n; width = n; status = Ok }

-- the long form of that access
abbrev pub full_access : Way → ℕ → ShortAccess → ShortHead → LongItem
full_access way n a head = item_for (full_head head a.initiator (Memory a.object)) a.start (Access (stored_at (short_facts way n a) (short_span a.command a.start n)))

-- what stands at a place that no list of long items has
abbrev pub no_item : LongItem
no_item = record { position = 0; time = 0; seq = 0; initiator = 0; start = 0; object = Memory 0; event = Simple (Closed 0) }

-- what a word has alike with other short accesses: its bytes stand from 0 on
abbrev pub word_access : Word → ShortAccess
word_access w = record { command = w.command; initiator = w.initiator; object = w.object; start = 0; offset = w.offset }

abbrev pub word_head : Word → ShortHead
word_head w = record { time = w.time; position = w.position; seq = w.seq }

-- what happened, from the brief form
abbrev pub brief_plain : BriefEvent → Plain
brief_plain (briefs.Accepted phase) = Call phase Accepted
brief_plain (briefs.Updated phase next) = Call phase (Updated next)
brief_plain (briefs.Completed phase) = Call phase Completed
brief_plain (briefs.Take slot) = Take slot
brief_plain (briefs.Acquire slot) = Acquire slot
brief_plain (briefs.Release slot freed) = Release slot freed

-- the head of a brief item at this object
abbrev pub brief_head : ObjectNo → Brief → Head
brief_head object b = record { position = b.position; object = object; txn = record { initiator = b.initiator; seq = b.seq }; time = b.time }

abbrev pub brief_what : BriefEvent → What
brief_what e = plain_what (brief_plain e)

-- the long form of a brief item with this head
abbrev pub brief_item : Head → BriefEvent → FullItem
brief_item head event = placed (item_for head 0 (Simple (brief_plain event)))

-- the long form of a brief item at this object
abbrev pub brief_form : ObjectNo → Brief → FullItem
brief_form object b = brief_item (brief_head object b) b.event

-- brief items in their long form, and for how many there is room
pub record BriefView : Type 0 where
  pub items : List FullItem
  pub room : ℕ

-- the long form of an item, where these are the long items
abbrev pub long_form : List LongItem → Item → FullItem
long_form long (items.Access way n access head) = placed (full_access (full_way way) n access head)
long_form long (items.Direct gate n access head) = placed (full_access (Direct gate) n access head)
long_form long (items.Word way n word) = record { item = full_access (full_way way) n (word_access word) (word_head word); own = Some word.bytes }
long_form long (items.Call phase answer initiator object head) = placed (item_for (full_head head initiator (Hop object)) 0 (Simple (Call phase answer)))
long_form long (items.Take initiator object slot head) = placed (item_for (full_head head initiator (Pool object)) 0 (Simple (Take slot)))
long_form long (items.Acquire initiator object slot head) = placed (item_for (full_head head initiator (Pool object)) 0 (Simple (Acquire slot)))
long_form long (items.Release freed initiator object slot head) = placed (item_for (full_head head initiator (Pool object)) 0 (Simple (Release slot freed)))
long_form long (items.Long place) = placed (get_or long place no_item)

-- a place is one of n long items, and the bytes of a short access end below 2^32
abbrev pub FitsItems : ℕ → Item → Type 0
FitsItems n (items.Access way count access head) = access.start + count < 2 ^ 32
FitsItems n (items.Direct gate count access head) = access.start + count < 2 ^ 32
FitsItems n (items.Word way count word) = count ≤ length word.bytes
FitsItems n (items.Long place) = place < n
FitsItems n item = Unit {0}

-- the short form of a long item, which needs no place
pub record IsShortFor (whole : LongItem) (item : Item) : Type 0 where
  pub same : long_form [] item ≡ placed whole
  pub placed : FitsItems 0 item

-- an item has the bytes of this access itself
pub record IsWord (head : Head) (facts : Facts) (sent enables got : List ℕ) (i : FullItem) : Type 0 where
  pub entry : (bytes : List ℕ) → item_entry bytes i ≡ entry_at head (access_by facts sent enables got)
  pub within : (bytes : List ℕ) → IsWithin bytes i
  pub timed : i.item.time < 2 ^ 64
  pub count : length sent + length enables + length got ≡ facts.length

-- the short form of an access with its bytes
pub record IsWordFor (head : Head) (facts : Facts) (sent enables got : List ℕ) (item : Item) : Type 0 where
  pub word : IsWord head facts sent enables got (long_form [] item)
  pub placed : FitsItems 0 item

-- the items of a log in their long form, and for how many there is room
pub record ItemsView : Type 0 where
  pub items : List FullItem
  pub room : ℕ

-- lists of these items and long items, with room for so many
pub record AreItems (items : List Item) (long : List LongItem) (room items_capacity long_capacity : ℕ) : Type 0 where
  pub placed : All (FitsItems (length long)) items
  pub few : length long ≤ length items
  pub roomy : room ≤ items_capacity
  pub roomy_long : room ≤ long_capacity

-- one more item, which has the bytes of this access itself
pub record HasWord (old new : ItemsView) (head : Head) (facts : Facts) (sent enables got : List ℕ) : Type 0 where
  pub item : FullItem
  pub pushed : new ≡ record old { items = old.items ++ item ∷ [] }
  pub word : IsWord head facts sent enables got item
