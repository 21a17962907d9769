-- What is left of the objects of a net: their logs, the bytes of the memories, and the tickets that went back.
use Rattle.std.specs.Prelude.{ℕ, ◌≡◌, List, length, Option, Some, None, slice_get}
use mathlib.Core.Option.{some}
use lib.ListN.{get_elem?}
use Rattle.atomic_table.specs.Seated.{TableId}
use Rattle.one_history.specs.declared.view.Frame.{Frame}
use Rattle.one_history.specs.Held.{Held}
use Rattle.token_book.specs.Purse.{Purse, left_of}
use Rattle.tlm_types.specs.declared.entry.Content.{Content}
use Rattle.tlm_types.specs.declared.entry.Entry.{Entry}
use Rattle.tlm_types.specs.declared.words.ObjectNo.{ObjectNo}
use Rattle.tlm_types.specs.declared.words.ObjectNo.TheVariants.{Memory, Hop, Pool}
use Rattle.entry_log.specs.Log.{LogView}
use Rattle.tlm_model.specs.declared.platform.MemoryRow.{MemoryRow}
use Rattle.tlm_model.specs.declared.platform.Platform.{Platform}
use Rattle.tlm_model.specs.Log.{log_bytes}
use Rattle.tlm_model.specs.Plan.{Plan}
use Rattle.flow_model.specs.Events.{entries}
use Rattle.cargo_model.specs.Known.{object_number, objects_of}
use Rattle.net_end.specs.Closed.{IsLeft}

-- the entries of what an object left
abbrev pub entries_left : (table : TableId) (frame : Frame Plan) (o : ObjectNo) (seat : Held Content Plan) → IsLeft table frame o seat → List Entry
entries_left table frame (Memory m) seat left = left.log
entries_left table frame (Hop h) seat left = entries left.hop.log.events
entries_left table frame (Pool i) seat left = entries left.pool.log.events

-- an object left this log, with its seat
pub record HasLeftLog (table : TableId) (frame : Frame Plan) (o : ObjectNo) (log : LogView) (seat : Held Content Plan) : Type 0 where
  pub left : IsLeft table frame o seat
  pub log_is : log.entries ≡ entries_left table frame o seat left

-- the first objects of the history left these logs, with their seats in order
pub record HaveLeftLogs (table : TableId) (frame : Frame Plan) (logs : List LogView) (seats : List (Held Content Plan)) : Type 0 where
  pub count : length logs ≡ length seats
  pub each : (k : ℕ) (o : ObjectNo) (log : LogView) (seat : Held Content Plan) → slice_get (objects_of frame.world.platform) k ≡ Some o → slice_get logs k ≡ Some log → get_elem? seats k ≡ some seat →
      HasLeftLog table frame o log seat

-- the bytes of all memories, where these are the logs of the first objects: they are those that each log leaves, by the traits of the memory's row
pub record AreStores (p : Platform) (logs : List LogView) (stores : List (List ℕ)) : Type 0 where
  pub count : length stores ≡ length p.memories
  pub each : (m : ℕ) (row : MemoryRow) (log : LogView) (bytes : List ℕ) → slice_get p.memories m ≡ Some row → slice_get logs m ≡ Some log → slice_get stores m ≡ Some bytes → bytes ≡ log_bytes row.traits log.entries

-- the tickets of an object in a wallet, if there is one
abbrev pub left_with : Platform → ObjectNo → Option Purse → ℕ
left_with p o None = 0
left_with p o (Some w) = left_of w (object_number p o)

-- the tickets that initiator i has left of an object, where these are the wallets of the initiators in order
abbrev pub left_by : Platform → List Purse → ℕ → ObjectNo → ℕ
left_by p wallets i o = left_with p o (slice_get wallets i)
