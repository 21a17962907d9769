-- A call at a memory of a net, and what a wallet gives for it.
use Rattle.std.specs.Prelude.{ℕ, ◌≡◌, ◌-◌, ◌<◌, ◌≤◌, ◌==◌, IsSomeAnd, List, map, Option, None, slice_get, if◌then◌else◌}
use Rattle.view_lists.specs.Lists.{Has, Within}
use Rattle.one_history.specs.Lists.{StandBelow}
use Rattle.one_history.specs.declared.view.View.{View}
use Rattle.shared_object.specs.Written.{Written, placed, written_at}
use Rattle.token_book.specs.Purse.{HasPlace, Purse, left_of, bytes_of}
use Rattle.tlm_types.specs.declared.entry.Content.{Content}
use Rattle.tlm_types.specs.declared.words.TxnId.{TxnId}
use Rattle.tlm_model.specs.declared.platform.MemoryRow.{MemoryRow}
use Rattle.tlm_model.specs.Log.{IsLog}
use Rattle.tlm_model.specs.Plan.{Plan}
use Rattle.flow_model.specs.Platform.{passage_of}
use Rattle.generic_payload.specs.Payload.{PayloadView}
use Rattle.route_plan.specs.declared.step.Route.{Route}
use Rattle.route_plan.specs.Plans.{walk_at}
use Rattle.route_plan.specs.Routes.{route_by}
use Rattle.region_object.specs.declared.call.RegionCall.{RegionCall}
use Rattle.region_object.specs.Call.{payload_cost, returned}
use Rattle.region_object.specs.Region.{LoggedMemory, after_call, reply_of}
use Rattle.region_object.specs.Written.{written_from}

-- where an address of an initiator leads, if it leads to a memory
abbrev pub route_at : Plan → ℕ → ℕ → Option Route
route_at p initiator address = route_by (walk_at p initiator address)

-- x is no access of a four-phase initiator: it passes no hop
abbrev pub HasNoPassage : Plan → TxnId → Type 0
HasNoPassage p x = passage_of p x ≡ None

-- the wallet has a ticket of the memory at the end of a route, for the bytes of this payload
pub record CanPay (payload : PayloadView) (w : Purse) (route : Route) : Type 0 where
  pub left : 0 < left_of w route.memory
  pub bytes : payload_cost payload ≤ bytes_of w route.memory

-- what a memory has written
abbrev pub entries_of : LoggedMemory → List Written
entries_of memory = written_from 0 memory.log.entries

-- A call was made at memory m: one entry was added to its log, past all that the note had seen. The log was lawful and had all that the note knew of this memory; entry and payload are those that the definitions give for this log; and the note that comes back knows the log with the entry, and nothing past what it has seen.
pub record IsCalled (p : Plan) (m : ℕ) (call : RegionCall) (note back : View Content Plan) (payload : PayloadView) : Type 0 where
  pub memory : LoggedMemory
  pub position : ℕ
  pub number : memory.number ≡ m
  pub row : IsSomeAnd (slice_get p.platform.memories m) (λ (row : MemoryRow). memory.traits ≡ row.traits)
  pub lawful : IsLog memory.traits memory.log.entries
  pub known : Within (written_at m note.known) (entries_of memory)
  pub past : (w : Written) → Has (entries_of memory) w → w.position < position
  pub late : note.seen ≤ position
  pub seen : position < back.seen
  pub keeps : Within note.known back.known
  pub knows : Within (map (placed m) (entries_of (after_call memory position call))) back.known
  pub below : StandBelow back.known back.seen
  pub answer : payload ≡ returned (reply_of memory call)

-- one ticket of memory m less, for so many bytes; all else of the wallet is as before
pub record OneTicketLess (m bytes : ℕ) (old new : Purse) : Type 0 where
  pub places : new.places ≡ old.places
  pub left : (o : ℕ) → left_of new o ≡ (if o == m then left_of old m - 1 else left_of old o)
  pub bytes_left : (o : ℕ) → bytes_of new o ≡ (if o == m then bytes_of old m - bytes else bytes_of old o)
  pub held : (o : ℕ) → HasPlace new o → HasPlace old o
