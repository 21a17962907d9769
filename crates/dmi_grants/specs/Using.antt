-- What the use of a grant does.
use Rattle.std.specs.Prelude.{ℕ, ◌≡◌, ◌+◌, ◌-◌, ◌<◌, ◌≤◌, IsTrue, List, [], length, remove, Some}
use Rattle.view_lists.specs.Lists.{Has, Within}
use Rattle.one_history.specs.declared.view.Frame.{Frame}
use Rattle.one_history.specs.declared.view.View.{View}
use Rattle.one_history.specs.Gates.{IsRevoked}
use Rattle.one_history.specs.Held.{Held as Noted}
use Rattle.one_history.specs.Lists.{StandBelow}
use Rattle.shared_object.specs.Written.{Written, written_at}
use Rattle.token_book.specs.Purse.{Purse, left_of, bytes_of}
use Rattle.tlm_types.specs.declared.entry.Content.{Content}
use Rattle.tlm_types.specs.declared.entry.What.TheVariants.{Granted, Invalidated}
use Rattle.tlm_types.specs.declared.words.Command.TheVariants.{Read}
use Rattle.tlm_types.specs.declared.words.Kind.{Kind}
use Rattle.tlm_types.specs.declared.words.Response.TheVariants.{Ok}
use Rattle.tlm_types.specs.declared.words.TxnId.{TxnId}
use Rattle.tlm_model.specs.Plan.{Plan}
use Rattle.tlm_model.specs.Store.{zeros}
use Rattle.generic_payload.specs.Payload.{PayloadView}
use Rattle.region_object.specs.declared.call.RegionCall.TheVariants.{Direct}
use Rattle.region_object.specs.declared.call.RegionReply.TheVariants.{Direct as DirectReply}
use Rattle.region_object.specs.Call.{payload_cost}
use Rattle.plat_net.specs.Calls.{OneTicketLess}
use Rattle.dmi_grants.specs.declared.access.UseOf.{UseOf}
use Rattle.dmi_grants.specs.declared.access.UseOf.TheVariants.{Used, Stale}
use Rattle.dmi_grants.specs.declared.table.Held.{Held}
use Rattle.dmi_grants.specs.Made.{IsMade}
use Rattle.dmi_grants.specs.Table.{IsUsable, TableView, covers}

-- the payload with the offset in the memory that its address leads to
abbrev pub at_offset : Held → PayloadView → PayloadView
at_offset h p = record p { address = h.base + (p.address - h.low) }

-- a grant that covers a plain payload, whose entry the note knows, and a wallet that pays for the access
pub record MayUse (frame : Frame Plan) (p : PayloadView) (note : View Content Plan) (w : Purse) (h : Held) : Type 0 where
  pub memory : h.memory < length frame.world.platform.memories
  pub usable : IsUsable frame h.memory (written_at h.memory note.known) h
  pub some_bytes : 0 < length p.bytes
  pub covered : IsTrue (covers p.address (length p.bytes) p.command h)
  pub unmasked : p.enables ≡ []
  pub unstreamed : (0 < p.width) × (length p.bytes ≤ p.width)
  pub blank : p.command ≡ Read → p.bytes ≡ zeros (length p.bytes)
  pub left : 0 < left_of w h.memory
  pub bytes : payload_cost p ≤ bytes_of w h.memory

-- the access was made through the gate: one entry, at this time, with status OK, and one ticket spent
pub record HasGoneDirect (frame : Frame Plan) (h : Held) (p : PayloadView) (txn : TxnId) (time : ℕ) (note : View Content Plan) (before after : Purse) (back : PayloadView) (known : View Content Plan) : Type 0 where
  pub position : ℕ
  pub entered : View Content Plan
  pub same : entered.known ≡ note.known
  pub saw : entered.seen ≡ note.seen
  pub made : IsMade frame h.memory (Direct h.gate txn time (at_offset h p)) entered known (Some position) (DirectReply back)
  pub ok : back.status ≡ Ok
  pub ticket : OneTicketLess h.memory (payload_cost p) before after

-- among these entries a gate is given, and after it stands an invalidation that overlaps its grant
pub record IsCutIn (known : List Written) (gate : ℕ) : Type 0 where
  pub grant : Written
  pub cut : Written
  pub first : ℕ
  pub last : ℕ
  pub kind : Kind
  pub low : ℕ
  pub high : ℕ
  pub has_grant : Has known grant
  pub has_cut : Has known cut
  pub is_grant : grant.content.what ≡ Granted gate first last kind
  pub is_cut : cut.content.what ≡ Invalidated low high
  pub later : grant.position < cut.position
  pub meet : (low ≤ last) × (first ≤ high)

-- an invalidation that overlaps the grant is known after it, below what the note has seen, and the grant is held no more
pub record IsFoundStale (h : Held) (which : ℕ) (old new : TableView) (note : View Content Plan) (before after : Purse) (known : View Content Plan) : Type 0 where
  pub table : new ≡ record { held = remove old.held which; room = old.room }
  pub keeps : Within note.known known.known
  pub revoked : IsRevoked known.known h.gate
  pub cut : IsCutIn (written_at h.memory known.known) h.gate
  pub below : StandBelow known.known known.seen
  pub wallet : after ≡ before

abbrev pub HasUsed : Frame Plan → Held → ℕ → PayloadView → TxnId → ℕ → TableView → TableView → View Content Plan → Purse → Purse → UseOf → Type 0
HasUsed frame h which p txn time old new note before after (Used payload back at) = HasGoneDirect frame h p txn time note before after payload back.knows × (at ≡ time) × (new ≡ old)
HasUsed frame h which p txn time old new note before after (Stale payload back) = IsFoundStale h which old new note before after back.knows × (payload ≡ p)

-- the note that comes back
abbrev pub note_of : UseOf → Noted Content Plan
note_of (Used payload note at) = note
note_of (Stale payload note) = note

-- an access was made by a note that was inside the gate
abbrev pub HasGoneThrough : Frame Plan → Held → PayloadView → TxnId → ℕ → View Content Plan → Purse → Purse → UseOf → Type 0
HasGoneThrough frame h p txn time note before after (Used payload back at) = HasGoneDirect frame h p txn time note before after payload back.knows × (at ≡ time)
HasGoneThrough frame h p txn time note before after (Stale payload back) = ⊥
