-- A step at a memory of a net, of a call that is no access by transport, and what a wallet gives for it.
use Rattle.std.specs.Prelude.{ℕ, zero, suc, ◌≡◌, ◌≢◌, ◌+◌, ◌≤◌, Bool, true, false, List, length, Option, Some, None, slice_get, if◌then◌else◌}
use Rattle.std.specs.List.{list_any}
use Rattle.std.specs.Option.{unwrap_or}
use Rattle.atomic_table.specs.Seated.{TableId}
use Rattle.view_lists.specs.Lists.{Has, Within}
use Rattle.one_history.specs.declared.view.Frame.{Frame}
use Rattle.one_history.specs.declared.view.View.{View}
use Rattle.shared_object.specs.Standing.{HasGates}
use Rattle.shared_object.specs.Steps.{Enters, HasTicket}
use Rattle.shared_object.specs.Written.{Written, written_at}
use Rattle.token_book.specs.Purse.{Purse, HasPlace, bytes_of, left_of}
use Rattle.token_book.specs.Ticket.{entry_right}
use Rattle.token_book.specs.declared.ticket.Ticket.{Ticket}
use Rattle.tlm_types.specs.declared.entry.Content.{Content}
use Rattle.tlm_model.specs.declared.platform.MemoryRow.{MemoryRow}
use Rattle.tlm_model.specs.Log.{IsLog}
use Rattle.tlm_model.specs.Plan.{Plan}
use Rattle.tlm_model.specs.Scripts.{first_gate}
use Rattle.region_object.specs.declared.call.RegionCall.{RegionCall}
use Rattle.region_object.specs.declared.call.RegionCall.TheVariants.{Access, Debug, Grant, Direct, Invalidate, Overlapping, Close}
use Rattle.region_object.specs.declared.call.RegionReply.{RegionReply}
use Rattle.region_object.specs.Call.{IsCloseFit, IsDirectFit, IsReadOrWrite, payload_cost}
use Rattle.region_object.specs.Grants.{IsGrantLog, closes, gives}
use Rattle.region_object.specs.Region.{LoggedMemory, after_call, is_admitted, reply_of}
use Rattle.region_object.specs.Written.{built_of, content_of}
use Rattle.cargo_net.specs.Traffic.{IsMemoryBuilt}
use Rattle.plat_net.specs.Calls.{HasNoPassage, entries_of}

-- A call was made at memory m, which had a lawful log with all that the note knew of it: an entry was added at this position, where the
-- call was admitted, past all that the note had seen. Entry and reply are those that the definitions give for this log. The note that comes
-- back knows the log with it.
pub record IsMade (frame : Frame Plan) (m : ℕ) (call : RegionCall) (note back : View Content Plan) (position : Option ℕ) (reply : RegionReply) : Type 0 where
  pub memory : LoggedMemory
  pub built : IsMemoryBuilt frame.world m (built_of memory)
  pub gates : HasGates frame m (memory.first_gate, memory.traits.gates)
  pub lawful : IsLog memory.traits memory.log.entries
  pub granted : IsGrantLog memory.first_gate memory.traits memory.log.entries
  pub known : Within (written_at m note.known) (entries_of memory)
  pub enters : Enters frame m (entries_of memory) (entries_of (after_call memory (unwrap_or position 0) call)) (is_admitted memory call) (content_of memory call) note back position
  pub answer : reply ≡ reply_of memory call

-- What a call at memory m asks of the note, where that is inside no gate, but for the ticket. A question adds no entry.
abbrev pub MayMake : Plan → ℕ → View Content Plan → RegionCall → Type 0
MayMake p m note (Access txn time way payload) = ⊥
MayMake p m note (Debug txn time payload) = ⊥
MayMake p m note (Grant txn time command) = IsReadOrWrite command × HasNoPassage p txn
MayMake p m note (Direct gate txn time payload) = ⊥
MayMake p m note (Invalidate txn time first last) = HasNoPassage p txn
MayMake p m note (Overlapping from first last before) = Unit {0}
MayMake p m note (Close txn time gate) = IsCloseFit (written_at m note.known) gate × Has note.drained gate × HasNoPassage p txn

-- a call that asks and never adds an entry
abbrev pub is_question : RegionCall → Bool
is_question (Access txn time way payload) = false
is_question (Debug txn time payload) = false
is_question (Grant txn time command) = false
is_question (Direct gate txn time payload) = false
is_question (Invalidate txn time first last) = false
is_question (Overlapping from first last before) = true
is_question (Close txn time gate) = false

-- what a direct access through this gate asks, where the note is inside it
abbrev pub MayMakeInside : Plan → TableId → ℕ → ℕ → View Content Plan → Ticket → RegionCall → Type 0
MayMakeInside p tokens m gate note ticket (Access txn time way payload) = ⊥
MayMakeInside p tokens m gate note ticket (Debug txn time payload) = ⊥
MayMakeInside p tokens m gate note ticket (Grant txn time command) = ⊥
MayMakeInside p tokens m gate note ticket (Direct g txn time payload) = (g ≡ gate) × IsDirectFit (written_at m note.known) g payload × HasNoPassage p txn × HasTicket tokens m (payload_cost payload) (Some ticket)
MayMakeInside p tokens m gate note ticket (Invalidate txn time first last) = ⊥
MayMakeInside p tokens m gate note ticket (Overlapping from first last before) = ⊥
MayMakeInside p tokens m gate note ticket (Close txn time g) = ⊥

-- n tickets of memory m less; all else of the wallet is as before
pub record HasSpent (m n : ℕ) (before after : Purse) : Type 0 where
  pub places : after.places ≡ before.places
  pub here : left_of after m + n ≡ left_of before m
  pub others : (o : ℕ) → o ≢ m → left_of after o ≡ left_of before o
  pub bytes : (o : ℕ) → bytes_of after o ≡ bytes_of before o

-- the same with n tickets of memory m more
abbrev pub HasGot : ℕ → ℕ → Purse → Purse → Type 0
HasGot m n before after = HasSpent m n after before

-- the places of the wallet suffice for a list of objects, of which m is one, and it holds of no others
pub record IsRoomyFor (m : ℕ) (w : Purse) : Type 0 where
  pub objects : List ℕ
  pub few : length objects ≤ w.places
  pub all : (o : ℕ) → HasPlace w o → Has objects o
  pub has : Has objects m

-- how many tickets these are
abbrev pub count_of : Option Ticket → ℕ
count_of None = 0
count_of (Some t) = 1

-- how many entries were added
abbrev pub added : Option ℕ → ℕ
added None = 0
added (Some position) = 1

-- a ticket of memory m for an entry without bytes
abbrev pub IsPlainTicket : TableId → ℕ → Ticket → Type 0
IsPlainTicket tokens m t = (t.entry ≡ entry_right tokens m) × (t.bytes ≡ None)

-- these entries have the grant of a gate
abbrev pub is_given_in : List Written → ℕ → Bool
is_given_in known g = list_any (λ (w : Written). gives g w.content.what) known

-- these entries have the closing of a gate
abbrev pub is_closed_in : List Written → ℕ → Bool
is_closed_in known g = list_any (λ (w : Written). closes g w.content.what) known

-- how many of the n gates from g on don't have this
abbrev pub count_without : (ℕ → Bool) → ℕ → ℕ → ℕ
count_without test g zero = 0
count_without test g (suc n) = (if test g then 0 else 1) + count_without test (g + 1) n

abbrev pub dmi_gates_of : Option MemoryRow → ℕ
dmi_gates_of None = 0
dmi_gates_of (Some row) = if row.traits.dmi then row.traits.gates else 0

-- how many gates a memory gives: none where it grants no direct access
abbrev pub dmi_gates : Plan → ℕ → ℕ
dmi_gates p m = dmi_gates_of (slice_get p.platform.memories m)

-- how many gates of the memory aren't known to be closed
abbrev pub unclosed : Plan → ℕ → List Written → ℕ
unclosed p m known = count_without (is_closed_in known) (first_gate p.platform m) (dmi_gates p m)
