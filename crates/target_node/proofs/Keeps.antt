-- A memory keeps what it may do, whatever else comes to be known.
use Rattle.std.proofs.Common.{◌≡◌, ℕ, zero, suc, ◌+◌, ◌<◌, List, [], ◌∷◌, drop, insert, Option, Some, None, sym, subst, ◌∙◌}
use Rattle.std.specs.List.{AllByRecursion}
use Rattle.std.specs.Prelude.{IfSome}
use Rattle.atomic_table.specs.Seated.{TableId}
use Rattle.view_lists.specs.Lists.{Within}
use Rattle.one_history.specs.declared.entry.Entry.{Entry}
use Rattle.one_history.specs.declared.view.Frame.{Frame}
use Rattle.tlm_types.specs.declared.entry.Content.{Content}
use Rattle.tlm_model.specs.declared.platform.Target.TheVariants.{Memory}
use Rattle.tlm_model.specs.Plan.{Plan}
use Rattle.flow_model.specs.World.{hop_at}
use Rattle.flow_model.specs.Events.{Event}
use Rattle.flow_model.specs.Platform.{world_of}
use Rattle.flow_model.proofs.More.{up_more}
use Rattle.cargo_model.specs.Known.{Known}
use Rattle.cargo_model.specs.Travel.{Ready}
use Rattle.cargo_model.proofs.More.{goes_up_more, is_fetched_more}
use Rattle.route_plan.specs.Valid.{hop_count}
use Rattle.plat_net.specs.Places.{LeadsTo, hop_place}
use Rattle.node_hops.specs.Traits.{hop_latency}
use Rattle.target_node.specs.Items.{HasServedAt, IsWaiting}
use Rattle.target_node.specs.Node.{IsQueued, IsTarget, IsToSend}
use Rattle.target_node.specs.declared.items.MemoryRequest.{MemoryRequest}
use Rattle.target_node.specs.declared.items.MemoryResponse.{MemoryResponse}
use Rattle.target_node.specs.declared.node.TargetNode.{TargetNode}
use Rattle.node_hops.proofs.Latencies.{latency_to}
use Rattle.node_hops.proofs.Lists.{all_by}
use Rattle.target_node.proofs.Served.{finds_more, known_more, leg_more}

-- one more is put in
pub all_insert : {A : Type 0} (P : A → Type 0) (xs : List A) (k : ℕ) (x : A) → P x → AllByRecursion P xs → AllByRecursion P (insert xs k x)
all_insert P [] zero x one all = (one, all)
all_insert P [] (suc k) x one all = (one, all)
all_insert P (y ∷ xs) zero x one all = (one, all)
all_insert P (y ∷ xs) (suc k) x one all = (all.0, all_insert P xs k x one all.1)

module _ (frame : Frame Plan) (tokens : TableId) (known back : List (Entry Content)) (w : Within known back) where
  abbrev p : Plan
  p = frame.world

  abbrev on : (e : Event) → Known p.platform known e → Known p.platform back e
  on = known_more p known back w

  -- a request that waits goes on waiting
  pub waiting_more : (memory : ℕ) (r : MemoryRequest) → IsWaiting frame tokens memory known r → IsWaiting frame tokens memory back r
  waiting_more memory r waits =
      let q = waits.request in
      let b = q.begun in
      record {
        pass = waits.pass;
        hop = waits.hop;
        state = waits.state;
        request = record {
          here = q.here;
          leads = q.leads;
          fetched = is_fetched_more p tokens (Known p.platform known) (Known p.platform back) on r.cargo.baton.txn waits.pass waits.hop r.cargo q.fetched;
          leg_of = leg_more frame tokens (hop_place p r.hop) known back w r.cargo.baton.txn waits.state r.leg q.leg_of;
          answer = q.answer;
          begun = record { event = b.event; known = on b.event b.known; is = b.is; time = b.time };
          fits = q.fits;
          responds = q.responds;
        };
        open_lane = waits.open_lane;
        ended = λ row. finds_more p known back w (waits.ended row);
      }

  pub queued_more : (memory latency : ℕ) (es : List (ℕ × MemoryRequest)) → AllByRecursion (IsQueued frame tokens memory latency known) es → AllByRecursion (IsQueued frame tokens memory latency back) es
  queued_more memory latency es all = all_by (IsQueued frame tokens memory latency known) (IsQueued frame tokens memory latency back) (λ e q. record { due = q.due; below = q.below; waits = waiting_more memory e.1 q.waits }) es all

  -- a response that may be sent may be sent later
  pub to_send_more : (memory : ℕ) (r : MemoryResponse) → IsToSend frame tokens memory known r → IsToSend frame tokens memory back r
  to_send_more memory r s =
      let can = s.can in
      record {
        below = s.below;
        leads = s.leads;
        can = record {
          pass = can.pass;
          hop = can.hop;
          here = can.here;
          up = goes_up_more p tokens (Known p.platform known) (Known p.platform back) on r.cargo.baton.txn can.pass Ready can.hop r.cargo can.up;
          state = can.state;
          open_lane = can.open_lane;
          leg_of = leg_more frame tokens (hop_place p r.hop) known back w r.cargo.baton.txn can.state r.leg can.leg_of;
          answer = can.answer;
          begun = finds_more p known back w can.begun;
          fits = can.fits;
          responds = can.responds;
          ended = λ row. finds_more p known back w (can.ended row);
          least = up_more (world_of p) (Known p.platform known) (Known p.platform back) on r.cargo.baton.txn (hop_at can.pass can.hop) (drop (can.hop + 1) can.pass.hops) r.due can.least;
        };
      }

  pub held_more : (memory : ℕ) (held : Option MemoryResponse) → IfSome held (IsToSend frame tokens memory known) → IfSome held (IsToSend frame tokens memory back)
  held_more memory None h = h
  held_more memory (Some r) h = to_send_more memory r h

  -- a memory with another queue and another response in hand
  pub keeps : (t : TargetNode) (es : List (ℕ × MemoryRequest)) (held : Option MemoryResponse) → IsTarget frame tokens t known → AllByRecursion (IsQueued frame tokens t.memory t.latency back) es → IfSome held (IsToSend frame tokens t.memory back)
      → IsTarget frame tokens (record t { queue = (let q = t.queue in record q { entries = es }); held = held }) back
  keeps t es held is queue h = record { memory = is.memory; hops = is.hops; accepts = is.accepts; latency = is.latency; queue = queue; held = h }

  pub target_more : (t : TargetNode) → IsTarget frame tokens t known → IsTarget frame tokens t back
  target_more t is = record { memory = is.memory; hops = is.hops; accepts = is.accepts; latency = is.latency; queue = queued_more t.memory t.latency t.queue.entries is.queue; held = held_more t.memory t.held is.held }

-- the latency of a memory is that of its hops
pub latency_there : (frame : Frame Plan) (tokens : TableId) (t : TargetNode) (known : List (Entry Content)) → IsTarget frame tokens t known → (r : MemoryRequest) → IsWaiting frame tokens t.memory known r → t.latency ≡ hop_latency frame.world r.hop
latency_there frame tokens t known is r waits = is.latency ∙ latency_to frame.world r.hop (Memory t.memory) (let q = waits.request in q.leads)

-- a response that was served may be sent
pub served_to_send : (frame : Frame Plan) (tokens : TableId) (memory latency : ℕ) (r : MemoryRequest) (known : List (Entry Content)) (a : MemoryResponse) → r.hop < hop_count frame.world.platform → LeadsTo frame.world.platform r.hop (Memory memory) → HasServedAt frame tokens latency r known a → IsToSend frame tokens memory known a
served_to_send frame tokens memory latency r known a below leads s = record {
  below = subst (λ (h : ℕ). h < hop_count frame.world.platform) (sym s.hop) below;
  leads = subst (λ (h : ℕ). LeadsTo frame.world.platform h (Memory memory)) (sym s.hop) leads;
  can = s.can;
}
