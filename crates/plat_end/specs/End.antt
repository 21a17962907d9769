-- What is left once all initiators have finished.
use Rattle.std.specs.Prelude.{ℕ, ◌≡◌, List, length, Some, slice_get}
use mathlib.Core.Option.{some}
use lib.ListN.{get_elem?}
use Rattle.atomic_table.specs.Seated.{TableId}
use Rattle.one_history.specs.declared.view.Frame.{Frame}
use Rattle.view_lists.specs.Lists.{Has}
use Rattle.one_history.specs.Held.{Held}
use Rattle.one_history.specs.Seats.{AreNotes}
use Rattle.token_book.specs.Purse.{Purse}
use Rattle.tlm_types.specs.declared.ends.EndOf.{EndOf}
use Rattle.tlm_types.specs.declared.entry.Content.{Content}
use Rattle.entry_log.specs.Log.{LogView}
use Rattle.tlm_model.specs.Plan.{Plan}
use Rattle.net_end.specs.Closed.{AreHandedBack, AreLeft}
use Rattle.net_end.specs.Leaves.{IsFinished}
use Rattle.plat_end.specs.Apart.{AreStores, HaveLeftLogs, left_by}

-- so many initiators have finished: these are their ends, their wallets and their notes, in order
pub record AreFinished (table tokens : TableId) (p : Plan) (count : ℕ) (ends : List EndOf) (wallets : List Purse) (notes : List (Held Content Plan)) : Type 0 where
  pub ends_count : length ends ≡ count
  pub wallets_count : length wallets ≡ count
  pub notes_count : length notes ≡ count
  pub each : (k : ℕ) (end : EndOf) (wallet : Purse) (note : Held Content Plan) → slice_get ends k ≡ Some end → slice_get wallets k ≡ Some wallet → get_elem? notes k ≡ some note → IsFinished table tokens p k end note wallet

-- All initiators have finished, and all objects of the net are taken apart: these are their logs, the bytes of the memories and their seats. Before,
-- the initiators had these wallets.
pub record HaveAllLeft (table tokens : TableId) (frame : Frame Plan) (ends : List EndOf) (notes : List (Held Content Plan)) (logs : List LogView) (stores : List (List ℕ)) (seats : List (Held Content Plan)) : Type 0 where
  pub wallets : List Purse
  pub finished : AreFinished table tokens frame.world (length frame.world.platform.initiators) ends wallets notes
  pub left : AreLeft table frame seats
  pub logs_left : HaveLeftLogs table frame logs seats
  pub stores_are : AreStores frame.world.platform logs stores
  pub handed_back : AreHandedBack frame seats (left_by frame.world.platform wallets)

-- What all initiators and objects have left, where what the initiators' notes knew at the end is told by these notes: each by its own, or all by
-- one that they had in turn.
pub record HaveAllTold (table tokens : TableId) (frame : Frame Plan) (ends : List EndOf) (notes : List (Held Content Plan)) (logs : List LogView) (stores : List (List ℕ)) (seats : List (Held Content Plan)) : Type 0 where
  pub kept : List (Held Content Plan)
  pub left : HaveAllLeft table tokens frame ends kept logs stores seats
  pub of : AreNotes table notes
  pub told : (k : ℕ) (note : Held Content Plan) → get_elem? kept k ≡ some note → Has notes note
