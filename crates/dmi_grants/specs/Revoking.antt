-- An invalidation that was told and has not returned: its grants are ended one by one, and others may make entries in between.
use Rattle.std.specs.Prelude.{ℕ, ◌≡◌, ◌<◌, ◌≤◌, List, length, Some, Bool, true, false}
use Rattle.view_lists.specs.Lists.{Within}
use Rattle.one_history.specs.declared.entry.Entry.{Entry}
use Rattle.one_history.specs.declared.view.Frame.{Frame}
use Rattle.one_history.specs.declared.view.View.{View}
use Rattle.shared_object.specs.Written.{Written, written_at}
use Rattle.token_book.specs.Purse.{Purse, left_of}
use Rattle.tlm_types.specs.declared.entry.Content.{Content}
use Rattle.tlm_types.specs.declared.entry.What.{What}
use Rattle.tlm_types.specs.declared.entry.What.TheVariants.{Closed}
use Rattle.tlm_types.specs.declared.words.TxnId.{TxnId}
use Rattle.tlm_model.specs.Plan.{Plan}
use Rattle.region_object.specs.declared.call.RegionCall.TheVariants.{Invalidate}
use Rattle.region_object.specs.declared.call.RegionReply.TheVariants.{Invalidated as InvalidatedReply}
use Rattle.plat_net.specs.Places.{memory_place}
use Rattle.dmi_grants.specs.declared.invalidation.Ending.{Ending}
use Rattle.dmi_grants.specs.declared.invalidation.Ending.TheVariants as ending
use Rattle.dmi_grants.specs.declared.invalidation.Revocation.{Revocation}
use Rattle.dmi_grants.specs.Invalidating.{HasEnded, HasInvalidated, IsToldIn}
use Rattle.dmi_grants.specs.Made.{HasSpent, IsMade, unclosed}

-- An invalidation was told, in one entry, where the note had the one view, and has since added closings, in rising order and past all that was
-- known when it was told. It has spent a ticket for each of these. The note has come to the other view, and knows them.
pub record IsRevoking (frame : Frame Plan) (r : Revocation) (before now : View Content Plan) (start left : Purse) : Type 0 where
  pub told : View Content Plan
  pub made : IsMade frame r.memory (Invalidate r.txn r.at r.first r.last) before told (Some r.position) InvalidatedReply
  pub rest : Purse
  pub paid : HasSpent r.memory 1 start rest
  pub own : List Written
  pub ended : HasEnded frame r.memory r.txn r.at r.first r.last r.position own told now rest left

-- it has returned
abbrev pub HasRevoked : Frame Plan → Revocation → View Content Plan → View Content Plan → Purse → Purse → Type 0
HasRevoked frame r before back start after = HasInvalidated frame r.memory r.txn r.at r.first r.last before back start after

-- one that was under way, wherever it began, still is, or has returned
abbrev pub RevokesMore : Frame Plan → Revocation → View Content Plan → View Content Plan → Purse → Purse → Type 0
RevokesMore frame r note back old new = (before : View Content Plan) (start : Purse) → IsRevoking frame r before note start old → IsRevoking frame r before back start new

abbrev pub RevokesAll : Frame Plan → Revocation → View Content Plan → View Content Plan → Purse → Purse → Type 0
RevokesAll frame r note back old new = (before : View Content Plan) (start : Purse) → IsRevoking frame r before note start old → HasRevoked frame r before back start new

-- how many entries are added where a gate is closed by an own entry, or not
abbrev pub one_if : Bool → ℕ
one_if true = 1
one_if false = 0

-- and by what became of a grant
abbrev pub entries_by : Ending → ℕ
entries_by ending.Closed = 1
entries_by ending.ByOthers = 0
entries_by ending.Returned = 0

-- an entry of memory m, of this transaction and at this time
pub record IsEntryFor (p : Plan) (m : ℕ) (txn : TxnId) (time : ℕ) (what : What) (e : Entry Content) : Type 0 where
  pub there : m < length p.platform.memories
  pub object : e.object ≡ memory_place p m
  pub of : e.content.txn ≡ txn
  pub at : e.content.time ≡ time
  pub says : e.content.what ≡ what

-- an entry of an invalidation
abbrev pub IsRevocationEntry : Plan → Revocation → What → Entry Content → Type 0
IsRevocationEntry p r what e = IsEntryFor p r.memory r.txn r.at what e

-- an entry by which it has closed a gate
abbrev pub IsClosingEntry : Plan → Revocation → Entry Content → Type 0
IsClosingEntry p r e = (gate : ℕ) × IsRevocationEntry p r (Closed gate) e

-- an invalidation stays under way as its note learns more
abbrev pub RevokingGoesOn : Type 0
RevokingGoesOn = (frame : Frame Plan) (r : Revocation) (before now later : View Content Plan) (start left : Purse)
    → IsRevoking frame r before now start left → Within now.known later.known → IsRevoking frame r before later start left

-- its note has learned all the way, and knows its entry
abbrev pub RevokingIsTold : Type 0
RevokingIsTold = (frame : Frame Plan) (r : Revocation) (before now : View Content Plan) (start left : Purse)
    → IsRevoking frame r before now start left → Within before.known now.known × IsToldIn (written_at r.memory now.known) r.first r.last r.position

-- where the tickets sufficed at its beginning, they suffice for what is left to close
abbrev pub RevokingCanPay : Type 0
RevokingCanPay = (frame : Frame Plan) (r : Revocation) (before now : View Content Plan) (start left : Purse)
    → unclosed frame.world r.memory (written_at r.memory before.known) < left_of start r.memory → IsRevoking frame r before now start left
    → unclosed frame.world r.memory (written_at r.memory now.known) ≤ left_of left r.memory
