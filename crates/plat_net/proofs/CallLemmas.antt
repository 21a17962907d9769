-- What a call at a memory answers.
use Rattle.std.proofs.Common.{◌≡◌, ℕ, ◌<◌, true, false, List, Option, Some, None, get_or, length, map, refl, sym, ap, subst, ◌∙◌, arith}
use Rattle.std.specs.Option.{unwrap_or}
use Rattle.view_lists.specs.Lists.{Within}
use Rattle.one_history.specs.declared.entry.Entry.{Entry}
use Rattle.one_history.specs.declared.view.Frame.{Frame}
use Rattle.one_history.specs.declared.view.View.{View}
use Rattle.shared_object.specs.Standing.{Numbers}
use Rattle.shared_object.specs.Steps.{Enters}
use Rattle.shared_object.specs.Written.{own_number, placed, written_at, wrote}
use Rattle.tlm_types.specs.declared.words.ObjectNo.{ObjectNo}
use Rattle.tlm_types.specs.declared.words.ObjectNo.TheVariants.{Memory, Hop}
use Rattle.tlm_types.specs.declared.words.TxnId.{TxnId}
use Rattle.tlm_types.specs.declared.entry.Content.{Content}
use Rattle.tlm_types.specs.declared.entry.What.{What}
use Rattle.tlm_model.specs.Log.{IsLog}
use Rattle.tlm_model.specs.Plan.{Plan}
use Rattle.flow_model.specs.Backed.{BackedBy}
use Rattle.flow_model.specs.Events.{Event}
use Rattle.flow_model.specs.Platform.{passage_of, world_of}
use Rattle.flow_model.specs.World.{Passage, World}
use Rattle.cargo_model.specs.Known.{Known, objects_of}
use Rattle.route_plan.specs.Valid.{hop_count}
use Rattle.region_object.specs.declared.call.RegionCall.{RegionCall}
use Rattle.region_object.specs.declared.call.RegionCall.TheVariants.{Access, Debug, Grant, Direct, Invalidate, Overlapping, Close}
use Rattle.region_object.specs.declared.call.RegionReply.{RegionReply}
use Rattle.region_object.specs.Call.{HasPayload, IsFit, payload_of, returned}
use Rattle.region_object.specs.Region.{LoggedMemory, after_call, reply_of}
use Rattle.region_object.specs.Written.{built_of, content_of, written_from}
use Rattle.cargo_net.specs.Traffic.{Backs, IsMemoryBuilt}
use Rattle.plat_net.specs.Calls.{HasNoPassage, IsCalled, entries_of}
use Rattle.plat_net.specs.Net.{AreHops, AreMemories, hop_numbers, memory_numbers}
use Rattle.plat_net.proofs.Lookups.{at_read}
use Rattle.plat_net.proofs.ObjectLemmas.{memory_at}

-- at a memory, an entry of a transaction that passes no hop is backed by all
by_passage : (w : World) (K : Event → Type 0) (x : TxnId) (v : Option Passage) (o : ObjectNo) (m t n : ℕ) (what : What) → v ≡ None → o ≡ Memory m → BackedBy w K x v o t n what
by_passage w K x v o m t n what none at =
    subst (λ (u : Option Passage). BackedBy w K x u o t n what) (sym none) (subst (λ (d : ObjectNo). BackedBy w K x None d t n what) (sym at) tt)

pub backed_without_passage : (p q : Plan) (known : List (Entry Content)) (m position : ℕ) (c : Content) → p ≡ q → m < length q.platform.memories → HasNoPassage p c.txn → Backs q known (placed m (wrote position c))
backed_without_passage p q known m position c same below none =
    by_passage (world_of q) (Known q.platform known) c.txn (passage_of q c.txn) (get_or (objects_of q.platform) m (Hop 0)) m c.time c.number c.what
    (subst (λ (r : Plan). passage_of r c.txn ≡ None) same none)
    (memory_at q.platform m (Hop 0) below)

-- the memory that is read at its place has its number
pub memory_read : (p q : Plan) (memories : List Numbers) (m : ℕ) (s : Numbers) → AreMemories p memories → p ≡ q → m < length q.platform.memories → s ≡ get_or memories m s → s ≡ memory_numbers m
memory_read p q memories m s are same below read =
    let count : length p.platform.memories ≡ length q.platform.memories = ap (λ (x : Plan). length x.platform.memories) same in
    are.each m s (at_read memories m s (omega (arith, are.count, count, below)) read)

-- so has the hop
pub hop_read : (p q : Plan) (hops : List Numbers) (h : ℕ) (s : Numbers) → AreHops p.platform hops → p ≡ q → h < hop_count q.platform → s ≡ get_or hops h s → s ≡ hop_numbers q.platform h
hop_read p q hops h s are same below read =
    let count : hop_count p.platform ≡ hop_count q.platform = ap (λ (x : Plan). hop_count x.platform) same in
    are.each h s (at_read hops h s (omega (arith, are.count, count, below)) read) ∙ ap (λ (x : Plan). hop_numbers x.platform h) same

-- a step of a memory is a call
pub called : (frame : Frame Plan) (p : Plan) (m : ℕ) (call : RegionCall) (note back : View Content Plan) (position : Option ℕ) (reply : RegionReply) (before after : LoggedMemory) → IsMemoryBuilt p m (built_of before) → IsLog before.traits before.log.entries
    → Within (written_at m note.known) (written_from 0 before.log.entries) → Enters frame m (written_from 0 before.log.entries) (written_from 0 after.log.entries) true (content_of before call) note back position
    → (after ≡ after_call before (unwrap_or position 0) call) × (reply ≡ reply_of before call) → IsCalled p m call note back (returned reply)
called frame p m call note back None reply before after built lawful known enters applied = let no : true ≡ false = enters.when in cc (no)
called frame p m call note back (Some position) reply before after built lawful known enters applied = record {
  memory = before;
  position = position;
  number = ap own_number built.object;
  row = built.row;
  lawful = lawful;
  known = known;
  past = enters.past;
  late = enters.late.0;
  seen = enters.late.1;
  keeps = enters.knew;
  knows = subst (λ (x : LoggedMemory). Within (map (placed m) (entries_of x)) back.known) applied.0 enters.knows;
  below = enters.below;
  answer = ap returned applied.1;
}

-- a call of transport hands a payload back
pub transport_returns : (m : LoggedMemory) (call : RegionCall) → IsFit call → HasPayload (reply_of m call)
transport_returns m (Access txn time way p) fit = tt
transport_returns m (Debug txn time p) fit = tt
transport_returns m (Grant txn time command) fit = absurd fit
transport_returns m (Direct gate txn time p) fit = absurd fit
transport_returns m (Invalidate txn time first last) fit = absurd fit
transport_returns m (Overlapping from first last before) fit = absurd fit
transport_returns m (Close txn time gate) fit = absurd fit

-- and the room of that payload is what it was
pub returned_room : (m : LoggedMemory) (call : RegionCall) → IsFit call → (returned (reply_of m call)).room ≡ (payload_of call).room
returned_room m (Access txn time way p) fit = refl
returned_room m (Debug txn time p) fit = refl
returned_room m (Grant txn time command) fit = absurd fit
returned_room m (Direct gate txn time p) fit = absurd fit
returned_room m (Invalidate txn time first last) fit = absurd fit
returned_room m (Overlapping from first last before) fit = absurd fit
returned_room m (Close txn time gate) fit = absurd fit
