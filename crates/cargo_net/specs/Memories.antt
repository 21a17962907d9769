-- A memory that a call meets at a place of the history, and what its answer is.
use Rattle.std.specs.Prelude.{ℕ, ◌≡◌, true, List, Option}
use Rattle.std.specs.Option.{unwrap_or}
use Rattle.atomic_table.specs.Seated.{TableId}
use Rattle.one_history.specs.declared.entry.Entry.{Entry}
use Rattle.one_history.specs.declared.view.Frame.{Frame}
use Rattle.one_history.specs.declared.view.View.{View}
use Rattle.tlm_types.specs.declared.entry.Content.{Content}
use Rattle.tlm_types.specs.declared.words.MemoryTraits.{MemoryTraits}
use Rattle.tlm_model.specs.Log.{IsLog}
use Rattle.tlm_model.specs.Plan.{Plan}
use Rattle.shared_object.specs.Standing.{Meets, place}
use Rattle.shared_object.specs.Steps.{Enters}
use Rattle.region_object.specs.declared.call.RegionCall.{RegionCall}
use Rattle.region_object.specs.declared.call.RegionReply.{RegionReply}
use Rattle.region_object.specs.declared.call.RegionReply.TheVariants.{Accessed}
use Rattle.region_object.specs.Grants.{IsGrantLog}
use Rattle.region_object.specs.Region.{LoggedMemory, after_call, reply_of}
use Rattle.region_object.specs.Written.{built_of, content_of, written_from}
use Rattle.cargo_net.specs.Traffic.{IsMemoryBuilt}

-- a memory that may stand at this place, where these entries are known
abbrev pub MeetsMemory : Frame Plan → TableId → ℕ → ℕ → List (Entry Content) → LoggedMemory → Type 0
MeetsMemory frame tokens number own known m = Meets {G = Plan} {M = MemoryTraits} IsMemoryBuilt built_of (λ (v : LoggedMemory). written_from 0 v.log.entries) (λ (v : LoggedMemory). IsLog v.traits v.log.entries × IsGrantLog v.first_gate v.traits v.log.entries) (place frame tokens number own) known m

-- The memory of this number made a call: a memory that it may be stood there before the call, entry and reply are those that the definitions give
-- for its log, and what it logged is known to the note that comes back.
pub record HasServedCall (frame : Frame Plan) (tokens : TableId) (number own : ℕ) (note back : View Content Plan) (call : RegionCall) (reply : RegionReply) : Type 0 where
  pub before : LoggedMemory
  pub after : LoggedMemory
  pub position : Option ℕ
  pub met : MeetsMemory frame tokens number own note.known before
  pub enters : Enters frame number (written_from 0 before.log.entries) (written_from 0 after.log.entries) true (content_of before call) note back position
  pub applied : (after ≡ after_call before (unwrap_or position 0) call) × (reply ≡ reply_of before call)

-- the reply is that to an access
abbrev pub IsAccessReply : RegionReply → Type 0
IsAccessReply (Accessed payload) = Unit {0}
IsAccessReply reply = ⊥
