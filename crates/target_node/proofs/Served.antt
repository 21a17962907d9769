-- What a memory knows after its moves.
use Rattle.std.proofs.Common.{◌≡◌, ℕ, zero, suc, ◌+◌, ◌<◌, Bool, true, List, [], ◌∷◌, length, drop, get_or, Some, refl, sym, ◌∙◌, ap, subst, inr, arith}
use Rattle.std.specs.Prelude.{slice_get}
use Rattle.atomic_table.specs.Seated.{TableId}
use Rattle.view_lists.specs.Lists.{Within}
use Rattle.one_history.specs.declared.entry.Entry.{Entry}
use Rattle.one_history.specs.declared.view.Frame.{Frame}
use Rattle.tlm_types.specs.declared.entry.Content.{Content}
use Rattle.tlm_types.specs.declared.words.Phase.TheVariants.{BeginReq, EndReq}
use Rattle.tlm_types.specs.declared.words.RespMode.{RespMode}
use Rattle.tlm_types.specs.declared.words.TlmSync.TheVariants.{Accepted}
use Rattle.tlm_types.specs.declared.words.TxnId.{TxnId}
use Rattle.tlm_types.specs.declared.words.Way.TheVariants.{FourPhase}
use Rattle.tlm_model.specs.declared.platform.MemoryRow.{MemoryRow}
use Rattle.tlm_model.specs.declared.platform.Target.TheVariants.{Memory}
use Rattle.tlm_model.specs.Plan.{Plan}
use Rattle.tlm_model.specs.Route.{later}
use Rattle.base_phases.specs.declared.phases.LaneState.{LaneState}
use Rattle.base_phases.specs.declared.phases.LaneState.TheVariants.{Waiting}
use Rattle.token_book.specs.Account.{Slip}
use Rattle.flow_model.specs.World.{HopEnds, Passage, hop_at}
use Rattle.flow_model.specs.Events.{Event, Finds, FindsAt, IsCall, IsPhase}
use Rattle.flow_model.specs.Numbers.{UpIs, served_hop}
use Rattle.flow_model.specs.Platform.{hop_in, hop_to, to_memory, world_of}
use Rattle.tlm_model.proofs.InitiatorLemmas.{initiator_from}
use Rattle.platform_shape.specs.Shape.{IsShape}
use Rattle.cargo_model.specs.declared.cargo.Cargo.{Cargo}
use Rattle.cargo_model.specs.Known.{Known}
use Rattle.cargo_model.specs.Stops.{response_at}
use Rattle.cargo_model.specs.Travel.{GoesUp, Ready}
use Rattle.cargo_model.proofs.HopEnds.{hops_law}
use Rattle.cargo_model.proofs.More.{is_fetched_more}
use Rattle.flow_model.proofs.More.{up_more}
use Rattle.cargo_net.specs.Ends.{HasEndedRequest}
use Rattle.cargo_net.specs.Hops.{IsLegOfLane}
use Rattle.plat_net.specs.HopCalls.{CanEndRequest, CanRespond}
use Rattle.plat_net.specs.MemoryCalls.{CanServe, IsServedAt}
use Rattle.plat_net.specs.Objects.{frame_of}
use Rattle.plat_net.specs.Places.{LeadsTo, hop_place}
use Rattle.plat_net.proofs.Given.{ends_there, took}
use Rattle.plat_net.proofs.Targets.{ends_stop}
use Rattle.node_hops.specs.Traits.{hop_latency}
use Rattle.target_node.specs.Items.{HasServedAt, IsOwedEnd, IsWaiting}
use Rattle.target_node.specs.declared.items.MemoryRequest.{MemoryRequest}
use Rattle.target_node.specs.declared.items.MemoryResponse.{MemoryResponse}

-- what is known stays known
pub known_more : (p : Plan) (xs ys : List (Entry Content)) → Within xs ys → (e : Event) → Known p.platform xs e → Known p.platform ys e
known_more p xs ys w e k = record { entry = k.entry; has = w k.entry k.has; is = k.is }

pub finds_more : (p : Plan) (xs ys : List (Entry Content)) → Within xs ys → {P : Event → Type 0} → Finds (Known p.platform xs) P → Finds (Known p.platform ys) P
finds_more p xs ys w f = record { event = f.event; known = known_more p xs ys w f.event f.known; is = f.is }

pub leg_more : (frame : Frame Plan) (tokens : TableId) (number : ℕ) (xs ys : List (Entry Content)) → Within xs ys → (x : TxnId) (state : LaneState) (leg : Slip) → IsLegOfLane frame tokens number xs x state leg → IsLegOfLane frame tokens number ys x state leg
leg_more frame tokens number xs ys w x state leg h = record { table = h.table; owner = h.owner; entry = h.entry; has = w h.entry h.has; object = h.object; txn = h.txn; name = h.name }

module _ (frame : Frame Plan) (tokens : TableId) (memory : ℕ) (known : List (Entry Content)) (r : MemoryRequest) (waits : IsWaiting frame tokens memory known r) where
  -- a request that waits may be served
  abbrev pub can_serve : CanServe frame tokens memory r.cargo r.at known
  can_serve = record {
    pass = waits.pass;
    hop = waits.hop;
    fetched = waits.request.fetched;
    leads = subst (λ (h : ℕ). LeadsTo frame.world.platform h (Memory memory)) (sym waits.request.here) waits.request.leads;
    begun = (let b = waits.request.begun in record { event = b.event; known = b.known; is = record { answer = waits.request.answer; call = b.is }; time = b.time });
  }

  -- the response of an access whose payload may go up, for the transaction that the payload has
  answers : (new : Cargo) (back : List (Entry Content)) (due : ℕ) → Within known back → new.baton.txn ≡ r.cargo.baton.txn
      → GoesUp frame.world tokens (Known frame.world.platform back) r.cargo.baton.txn waits.pass Ready waits.hop new → UpIs (world_of frame.world) (Known frame.world.platform back) r.cargo.baton.txn waits.pass waits.hop due
      → CanRespond frame tokens r.hop r.leg new due back
  answers new back due w txn up least =
      let q = waits.request in
      let b = q.begun in
      record {
        pass = waits.pass;
        hop = waits.hop;
        here = q.here;
        up = subst (λ (x : TxnId). GoesUp frame.world tokens (Known frame.world.platform back) x waits.pass Ready waits.hop new) (sym txn) up;
        state = waits.state;
        open_lane = waits.open_lane;
        leg_of = subst (λ (x : TxnId). IsLegOfLane frame tokens (hop_place frame.world r.hop) back x waits.state r.leg) (sym txn) (leg_more frame tokens (hop_place frame.world r.hop) known back w r.cargo.baton.txn waits.state r.leg q.leg_of);
        answer = q.answer;
        begun = subst (λ (x : TxnId). Finds (Known frame.world.platform back) (IsCall x (hop_at waits.pass waits.hop) BeginReq q.answer)) (sym txn) (finds_more frame.world known back w (record { event = b.event; known = b.known; is = b.is }));
        fits = q.fits;
        responds = q.responds;
        ended = λ row. subst (λ (x : TxnId). Finds (Known frame.world.platform back) (IsCall x (hop_at waits.pass waits.hop) EndReq Accepted)) (sym txn) (finds_more frame.world known back w (waits.ended row));
        least = subst (λ (x : TxnId). UpIs (world_of frame.world) (Known frame.world.platform back) x waits.pass waits.hop due) (sym txn) least;
      }

  -- once a request was served, its response may be sent
  pub has_served : (new : Cargo) (back : List (Entry Content)) (latency : ℕ) → Within known back → latency ≡ hop_latency frame.world r.hop → IsServedAt frame tokens memory r.cargo r.at waits.pass waits.hop waits.request.fetched.down.asked.access new back
      → (due : ℕ) → due ≡ later r.at latency → HasServedAt frame tokens latency r back (record { hop = r.hop; leg = r.leg; due = due; cargo = new })
  has_served new back latency w is s due_at due_is =
      let served = s.served in
      let txn : new.baton.txn ≡ r.cargo.baton.txn = ap (λ (c : Cargo). c.baton.txn) served.same in
      let d = served.made in
      let due : later r.at ((world_of frame.world).hop (hop_at waits.pass waits.hop)).latency ≡ later r.at latency = ap (λ (n : ℕ). later r.at n) (ap (λ (h : ℕ). hop_latency frame.world h) waits.request.here ∙ sym is) in
      record {
        hop = refl;
        due = due_is;
        txn = txn;
        made = record {
          event = d.event;
          known = d.known;
          is = record { memory = s.route.memory; object = d.is.object; txn = d.is.txn; way = FourPhase; access = record waits.request.fetched.down.asked.access { offset = s.route.offset }; status = d.is.status; got = d.is.got; what = d.is.what };
          time = d.time;
        };
        can = answers new back due_at w txn served.up (subst (λ (n : ℕ). UpIs (world_of frame.world) (Known frame.world.platform back) r.cargo.baton.txn waits.pass waits.hop n) (due ∙ sym due_is) served.due);
      }

-- the hop to a memory
module _ (frame : Frame Plan) (tokens : TableId) (memory : ℕ) (known : List (Entry Content)) (made : frame ≡ frame_of frame.world) (shape : IsShape frame.world.platform) (there : memory < length frame.world.platform.memories) (r : MemoryRequest) (owed : IsOwedEnd frame tokens memory known r) where
  abbrev p : Plan
  p = frame.world

  pub leads_here : LeadsTo p.platform (hop_at owed.pass owed.hop) (Memory memory)
  leads_here = subst (λ (h : ℕ). LeadsTo p.platform h (Memory memory)) (sym owed.request.here) owed.request.leads

  pub memory_hop : ((world_of p).hop (hop_at owed.pass owed.hop)).to_memory ≡ true
  memory_hop =
      let a = owed.request.fetched.down.asked in
      let below = owed.request.fetched.down.held.below in
      let f = initiator_from 0 p.platform.initiators p.scripts r.cargo.baton.txn.initiator a.initiator a.is in
      let own : a.initiator.number ≡ r.cargo.baton.txn.initiator = f.0 ∙ none r.cargo.baton.txn.initiator in
      let row : slice_get p.platform.initiators a.initiator.number ≡ Some a.initiator.row = ap (slice_get p.platform.initiators) own ∙ f.1 in
      let hops = ap (λ (g : Passage). g.hops) a.way in
      let within = subst (λ (l : List ℕ). owed.hop < length l) hops below in
      let leads = hops_law p.platform a.initiator a.request.address owed.hop row within in
      let here = ap (λ (l : List ℕ). hop_in p.platform (get_or l owed.hop 0)) hops in
      let stop = ends_stop p tokens known r.cargo.baton.txn owed.pass a owed.hop (Memory memory) below leads_here in
      ap (λ (e : HopEnds). e.to_memory) (here ∙ leads ∙ ap (hop_to p.platform (response_at a.initiator owed.hop)) stop) ∙ to_one (response_at a.initiator owed.hop) p.platform.memories memory there
    where
      none : (n : ℕ) → 0 + n ≡ n
      none n = omega arith

      to_one : (resp : RespMode) (rows : List MemoryRow) (m : ℕ) → m < length rows → (to_memory resp (slice_get rows m)).to_memory ≡ true
      to_one resp [] m below = absurd (omega (arith, below))
      to_one resp (x ∷ rows) zero below = refl
      to_one resp (x ∷ rows) (suc m) below = to_one resp rows m (omega (arith, below))

  -- END_REQ may be made
  abbrev pub can_end : CanEndRequest frame tokens r.hop r.leg r.at known
  can_end =
      let q = owed.request in
      let b = q.begun in
      let ends = ends_there frame tokens known made shape memory r.cargo.baton.txn owed.pass q.fetched.down.asked owed.hop there q.fetched.down.held.below leads_here in
      record {
        x = r.cargo.baton.txn;
        pass = owed.pass;
        hop = owed.hop;
        way = record {
          passes = q.fetched.down.asked.passes;
          below = q.fetched.down.held.below;
          here = q.here;
          taken = took (Known p.platform known) r.cargo.baton.txn q.fetched.down.held.position r.cargo.baton.slot q.fetched.down.held.taken;
        };
        leg_of = q.leg_of;
        row = owed.row;
        passed = λ more. absurd (let l = ends.last in omega (arith, more, l));
        least = subst (λ (t : Bool). FindsAt (Known p.platform known) (IsPhase r.cargo.baton.txn (served_hop t owed.pass owed.hop) BeginReq) r.at) (sym memory_hop)
            (record { event = b.event; known = b.known; is = record { answer = q.answer; call = b.is }; time = b.time });
      }

  -- and then the request waits to be served
  pub waits_then : (back : List (Entry Content)) (leg : Slip) (time : ℕ) → Within known back → HasEndedRequest frame tokens (hop_place p r.hop) r.at r.cargo.baton.txn owed.pass owed.hop leg time back
      → IsWaiting frame tokens memory back (record { hop = r.hop; leg = leg; at = r.at; cargo = r.cargo })
  waits_then back leg time w h =
      let q = owed.request in
      let b = q.begun in
      record {
        pass = owed.pass;
        hop = owed.hop;
        state = Waiting;
        request = record {
          here = q.here;
          leads = q.leads;
          fetched = is_fetched_more p tokens (Known p.platform known) (Known p.platform back) (known_more p known back w) r.cargo.baton.txn owed.pass owed.hop r.cargo q.fetched;
          leg_of = h.leg_of;
          answer = q.answer;
          begun = record { event = b.event; known = known_more p known back w b.event b.known; is = b.is; time = b.time };
          fits = q.fits;
          responds = q.responds;
        };
        open_lane = inr refl;
        ended = λ row. record { event = h.made.event; known = h.made.known; is = h.made.is };
      }

-- what a refused response has is as before
module _ (frame : Frame Plan) (tokens : TableId) (known back : List (Entry Content)) (r : MemoryResponse) (can : CanRespond frame tokens r.hop r.leg r.cargo r.due known) where
  pub may_again : (leg : Slip) (c : Cargo) → Within known back → leg ≡ r.leg → c.baton.txn ≡ r.cargo.baton.txn → GoesUp frame.world tokens (Known frame.world.platform back) r.cargo.baton.txn can.pass Ready can.hop c → CanRespond frame tokens r.hop leg c r.due back
  may_again leg c w same txn up =
      record {
        pass = can.pass;
        hop = can.hop;
        here = can.here;
        up = subst (λ (x : TxnId). GoesUp frame.world tokens (Known frame.world.platform back) x can.pass Ready can.hop c) (sym txn) up;
        state = can.state;
        open_lane = can.open_lane;
        leg_of = subst (λ (l : Slip). IsLegOfLane frame tokens (hop_place frame.world r.hop) back c.baton.txn can.state l) (sym same) (subst (λ (x : TxnId). IsLegOfLane frame tokens (hop_place frame.world r.hop) back x can.state r.leg) (sym txn) (leg_more frame tokens (hop_place frame.world r.hop) known back w r.cargo.baton.txn can.state r.leg can.leg_of));
        answer = can.answer;
        begun = subst (λ (x : TxnId). Finds (Known frame.world.platform back) (IsCall x (hop_at can.pass can.hop) BeginReq can.answer)) (sym txn) (finds_more frame.world known back w can.begun);
        fits = can.fits;
        responds = can.responds;
        ended = λ row. subst (λ (x : TxnId). Finds (Known frame.world.platform back) (IsCall x (hop_at can.pass can.hop) EndReq Accepted)) (sym txn) (finds_more frame.world known back w (can.ended row));
        least = subst (λ (x : TxnId). UpIs (world_of frame.world) (Known frame.world.platform back) x can.pass can.hop r.due) (sym txn) (up_more (world_of frame.world) (Known frame.world.platform known) (Known frame.world.platform back) (known_more frame.world known back w) r.cargo.baton.txn (hop_at can.pass can.hop) (drop (can.hop + 1) can.pass.hops) r.due can.least);
      }
