-- The bytes of a log's accesses, and what it keeps beside the entries that it forgot.
use Rattle.std.specs.Prelude.{◌≡◌, ◌≢◌, ℕ, Bool, true, Option, Some, None, option_map, slice_get, ◌+◌, ◌^◌, ◌<◌, ◌≤◌, List, All, length, slice_range}
use Rattle.tlm_types.specs.declared.entry.Entry.{Entry}
use Rattle.tlm_types.specs.declared.words.Command.TheVariants.{Read}
use Rattle.tlm_types.specs.Entries.{enables_of, facts_of, got_of, head_of, read_at, read_sends, sent_of}
use Rattle.entry_log.specs.declared.log.LoggedAccess.{LoggedAccess}
use Rattle.log_items.specs.declared.long.Span.{Span}
use Rattle.log_items.specs.Items.{FullItem, IsWithin}

-- what a log forgot are so many entries, each with one of the times that there are; as long as it keeps its entries there are none
pub record IsPast (keeps : Bool) (past : List Entry) (forgotten : ℕ) : Type 0 where
  pub none : keeps ≡ true → forgotten ≡ 0
  pub count : forgotten ≡ length past
  pub timed : All (λ (e : Entry). e.time < 2 ^ 64) past
  pub few : forgotten < 2 ^ 62

-- a log of these items and bytes, with room for so many bytes more, which forgot these entries
pub record IsStored (keeps : Bool) (past : List Entry) (forgotten : ℕ) (items : List FullItem) (bytes : List ℕ) (room_bytes capacity : ℕ) : Type 0 where
  pub before : IsPast keeps past forgotten
  pub timed : All (λ (i : FullItem). i.item.time < 2 ^ 64) items
  pub kept : All (IsWithin bytes) items
  pub roomy : length bytes + room_bytes ≤ capacity
  pub small : length bytes + room_bytes < 2 ^ 32

-- where the bytes of an access stand that were appended to n bytes
pub record IsLast (n sent enables got : ℕ) (s : Span) : Type 0 where
  pub start : s.start ≡ n
  pub enables_start : s.enables_start ≡ s.start + sent
  pub got_start : s.got_start ≡ s.enables_start + enables
  pub end : s.end ≡ s.got_start + got

-- these parts of an access stand there among the bytes, one after another
pub record HasParts (bytes sent enables got : List ℕ) (s : Span) : Type 0 where
  pub placed : IsLast s.start (length sent) (length enables) (length got) s
  pub within : s.end ≤ length bytes
  pub sent_is : slice_range bytes s.start s.enables_start ≡ sent
  pub enables_is : slice_range bytes s.enables_start s.got_start ≡ enables
  pub got_is : slice_range bytes s.got_start s.end ≡ got

-- the entry at this index reads as this access, but for what a read sent
pub record IsReadAs (entries : List Entry) (index : ℕ) (a : LoggedAccess) : Type 0 where
  pub head : option_map head_of (slice_get entries index) ≡ Some a.head
  pub facts : read_at facts_of entries index ≡ Some a.facts
  pub sent : a.facts.command ≢ Read → read_at sent_of entries index ≡ Some a.sent.now
  pub reads : a.facts.command ≡ Read → read_at sent_of entries index ≡ Some (read_sends a.facts.way a.facts.length)
  pub enables : read_at enables_of entries index ≡ Some a.enables.now
  pub got : read_at got_of entries index ≡ Some a.got.now

-- what the entry at this index reads as, which is none where it is no access
abbrev pub Reads : List Entry → ℕ → Option LoggedAccess → Type 0
Reads entries index None = read_at facts_of entries index ≡ None
Reads entries index (Some a) = IsReadAs entries index a
