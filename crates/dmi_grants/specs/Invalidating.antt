-- What an invalidation does (IEEE 1666-2011, clause 11.2.6).
use Rattle.std.specs.Prelude.{ℕ, ◌≡◌, ◌+◌, ◌<◌, ◌≤◌, IsTrue, List, length, Some, None}
use Rattle.view_lists.specs.Lists.{Has, Within}
use Rattle.one_history.specs.declared.entry.Entry.{Entry}
use Rattle.one_history.specs.declared.view.Frame.{Frame}
use Rattle.one_history.specs.declared.view.View.{View}
use Rattle.shared_object.specs.Written.{Written, written_at}
use Rattle.token_book.specs.Purse.{Purse}
use Rattle.tlm_types.specs.declared.entry.Content.{Content}
use Rattle.tlm_types.specs.declared.entry.What.TheVariants.{Closed, Invalidated}
use Rattle.tlm_types.specs.declared.words.TxnId.{TxnId}
use Rattle.tlm_model.specs.Plan.{Plan}
use Rattle.good_history.specs.Counting.{IsRising}
use Rattle.region_object.specs.declared.call.RegionCall.TheVariants.{Invalidate, Overlapping}
use Rattle.region_object.specs.declared.call.RegionReply.TheVariants.{Invalidated as InvalidatedReply, Overlapping as OverlappingReply}
use Rattle.region_object.specs.Grants.{gives, overlaps}
use Rattle.plat_net.specs.Calls.{entries_of}
use Rattle.dmi_grants.specs.Made.{HasSpent, IsMade, is_closed_in, unclosed}

abbrev pub position_in : Written → ℕ
position_in w = w.position

-- an invalidation of the range from low to high stands at this position among these entries
pub record IsToldIn (known : List Written) (low high told : ℕ) : Type 0 where
  pub entry : Written
  pub has : Has known entry
  pub at : entry.position ≡ told
  pub says : entry.content.what ≡ Invalidated low high

-- one of these entries gave the gate, below this position, by a grant that overlaps the range from low to high
pub record IsOverlapped (known : List Written) (low high told gate : ℕ) : Type 0 where
  pub grant : Written
  pub has : Has known grant
  pub below : grant.position < told
  pub gives_it : IsTrue (gives gate grant.content.what)
  pub over : IsTrue (overlaps low high grant.content.what)

-- The closing that an invalidation added for a gate: of its transaction and its time, and it overlaps the gate's grant, which is among these
-- entries.
pub record IsOwnClosing (known : List Written) (txn : TxnId) (time low high told : ℕ) (w : Written) : Type 0 where
  pub gate : ℕ
  pub says : w.content.what ≡ Closed gate
  pub of : (w.content.txn ≡ txn) × (w.content.time ≡ time)
  pub overlapped : IsOverlapped known low high told gate

-- The gate of memory m was closed: by an entry of this transaction at this time, for which a ticket was spent, or by another one before. The
-- note knows its closing.
pub record HasClosed (frame : Frame Plan) (m : ℕ) (txn : TxnId) (time gate : ℕ) (note back : View Content Plan) (before after : Purse) : Type 0 where
  pub own : List Written
  pub each : (w : Written) → Has own w → (w.content.what ≡ Closed gate) × (w.content.txn ≡ txn) × (w.content.time ≡ time)
  pub past : (w x : Written) → Has own w → Has (written_at m note.known) x → x.position < w.position
  pub above : (w : Written) (e : Entry Content) → Has own w → Has note.known e → e.position < w.position
  pub few : length own ≤ 1
  pub keeps : Within note.known back.known
  pub knows : Within own (written_at m back.known)
  pub wallet : HasSpent m (length own) before after
  pub closed : IsTrue (is_closed_in (written_at m back.known) gate)

-- An invalidation of memory m that stands at this position has added these closings, in rising order, and has spent a ticket for each. The
-- note has come from the one to the other, and knows them. Each was added past all that the note knew, of the memory and of others.
pub record HasEnded (frame : Frame Plan) (m : ℕ) (txn : TxnId) (time low high told : ℕ) (own : List Written) (note back : View Content Plan) (before after : Purse) : Type 0 where
  pub each : (w : Written) → Has own w → IsOwnClosing (written_at m back.known) txn time low high told w
  pub past : (w x : Written) → Has own w → Has (written_at m note.known) x → x.position < w.position
  pub above : (w : Written) (e : Entry Content) → Has own w → Has note.known e → e.position < w.position
  pub rising : IsRising position_in own
  pub keeps : Within note.known back.known
  pub knows : Within own (written_at m back.known)
  pub wallet : HasSpent m (length own) before after
  pub fewer : unclosed frame.world m (written_at m back.known) + length own ≤ unclosed frame.world m (written_at m note.known)

-- It has added closings until the memory had no gate left for it to close.
pub record HasEndedAll (frame : Frame Plan) (m : ℕ) (txn : TxnId) (time low high told : ℕ) (note back : View Content Plan) (before after : Purse) : Type 0 where
  pub own : List Written
  pub looked : View Content Plan
  pub ended : HasEnded frame m txn time low high told own note looked before after
  pub last_look : IsMade frame m (Overlapping 0 low high told) looked back None (OverlappingReply None)

-- An invalidation at memory m has returned: it was told, in one entry, and of each grant in the log before it that it overlaps the closing is
-- known. Those that it added itself have its transaction and its time, and it has spent a ticket for each of them and one for its own entry.
pub record HasInvalidated (frame : Frame Plan) (m : ℕ) (txn : TxnId) (time first last : ℕ) (note back : View Content Plan) (before after : Purse) : Type 0 where
  pub told : View Content Plan
  pub position : ℕ
  pub made : IsMade frame m (Invalidate txn time first last) note told (Some position) InvalidatedReply
  pub left : Purse
  pub paid : HasSpent m 1 before left
  pub all : HasEndedAll frame m txn time first last position told back left after
  pub closed : (gate : ℕ) → IsOverlapped (entries_of made.memory) first last position gate → IsTrue (is_closed_in (written_at m back.known) gate)
