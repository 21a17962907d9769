-- A request whose response comes by return: it may be served by the memory that the first hop leads to, which is no router, and its response is then back.
use Rattle.std.proofs.Common.{◌≡◌, ℕ, ◌+◌, ◌<◌, [], ◌∷◌, ◌++◌, Bool, List, length, Option, Some, None, refl, sym, ap, ◌∙◌, subst, arith, get_or}
use Rattle.std.specs.Prelude.{slice_get}
use Rattle.std.proofs.lemmas.Grind.{common_steps}
use Rattle.atomic_table.specs.Seated.{TableId}
use Rattle.view_lists.specs.Lists.{Within}
use Rattle.one_history.specs.Held.{Held}
use Rattle.one_history.specs.Lists.{StandBelow}
use Rattle.one_history.specs.declared.view.Frame.{Frame}
use Rattle.shared_object.specs.Steps.{IsNote}
use Rattle.tlm_types.specs.declared.entry.Content.{Content}
use Rattle.tlm_types.specs.declared.words.Phase.TheVariants.{BeginReq, BeginResp}
use Rattle.tlm_types.specs.declared.words.ReqMode.{ReqMode}
use Rattle.tlm_types.specs.declared.words.TlmSync.{TlmSync}
use Rattle.tlm_types.specs.declared.words.TlmSync.TheVariants.{Completed, Updated}
use Rattle.tlm_types.specs.declared.words.TxnId.{TxnId}
use Rattle.tlm_types.specs.declared.words.Way.TheVariants.{FourPhase}
use Rattle.tlm_model.specs.declared.platform.Target.{Target}
use Rattle.tlm_model.specs.declared.platform.Target.TheVariants as targets
use Rattle.tlm_model.specs.Plan.{Plan}
use Rattle.tlm_model.specs.Route.{later}
use Rattle.token_book.specs.Account.{Slip}
use Rattle.platform_shape.specs.Shape.{IsShape}
use Rattle.flow_model.specs.World.{HopEnds, Passage, hop_at, is_refused, row_by, row_of}
use Rattle.flow_model.specs.Events.{Event, Finds, FindsAt, IsAccess, IsCall}
use Rattle.flow_model.specs.Numbers.{UpIs}
use Rattle.flow_model.specs.Platform.{hop_in, hop_to, passage_of, world_of}
use Rattle.tlm_model.proofs.InitiatorLemmas.{initiator_from}
use Rattle.cargo_model.specs.declared.cargo.Cargo.{Cargo}
use Rattle.cargo_model.specs.Counts.{request_ends, response_ends, responses}
use Rattle.cargo_model.specs.Known.{Known}
use Rattle.cargo_model.specs.Stops.{response_at}
use Rattle.cargo_model.specs.Travel.{Back, GoesUp}
use Rattle.cargo_model.proofs.HopEnds.{hops_law}
use Rattle.cargo_model.proofs.Up.{returns}
use Rattle.cargo_net.specs.Begins.{HasOwedLeg}
use Rattle.cargo_net.specs.Fetched.{mode_above}
use Rattle.cargo_net.specs.Forwards.{IsRouterMode}
use Rattle.plat_net.specs.MemoryCalls.{CanServe, IsServedAt}
use Rattle.plat_net.specs.Places.{LeadsTo}
use Rattle.plat_net.proofs.Forwarding.{router_answers}
use Rattle.plat_net.proofs.Targets.{ends_stop}
use Rattle.port_moves.specs.Moved.{response_hand}
use Rattle.port_moves.specs.Moves.{IsDue, Serves}
use Rattle.port_moves.specs.Reach.{first_hop, memory_place}
use Rattle.port_moves.specs.State.{IsBegun, IsHandOf, IsInHand, IsPort, StateView, with_note}
use Rattle.port_moves.specs.declared.hand.Hand.TheVariants.{Begun}
use Rattle.port_moves.proofs.Backs.{its, keeps, response_goes_back, response_txn, still_held}
use Rattle.port_moves.proofs.FirstHop.{first_of}
use Rattle.port_moves.proofs.Goes.{goes_on, returned_by}
use Rattle.port_moves.proofs.HandsMore.{known_more}

-- where the response comes by return, no END_REQ is owed
pub no_end : (row : ReqMode) (answer : TlmSync) → responses row answer ≡ 0 → request_ends row ≡ 0
no_end row answer none = grind (arith, common_steps)

-- and the component below is no router
no_router : (refused : Bool) (mode : ReqMode) (answer : TlmSync) → IsRouterMode mode → responses (row_by refused mode) answer ≡ 0 → ⊥
no_router refused mode answer router none = grind (arith, common_steps)

pub zero_not_one : (n : ℕ) → n ≡ 0 → n ≡ 1 → ⊥
zero_not_one n q r = omega arith

response_due : (leg : Option Slip) (c : Cargo) (time : ℕ) → IsDue time (response_hand leg c time)
response_due None c time = refl
response_due (Some leg) c time = refl

module _ (table tokens : TableId) (frame : Frame Plan) (s : StateView) (note : Held Content Plan) (p : IsPort table tokens frame (with_note s note)) (c : Cargo) (at : ℕ) (leg : Option Slip)
    (h : IsHandOf frame tokens (with_note s note) (Begun c at leg)) where
  abbrev pub begun : IsBegun frame tokens p.initiator s.port note.knows.known c at leg
  begun = h p.initiator p.is

  abbrev pub q : Plan
  q = frame.world

  pub serve_first : hop_at begun.pass 0 ≡ s.port.engine.initiator
  serve_first = first_of q p.initiator (its table tokens frame s note p) p.style tokens (Known q.platform note.knows.known) c.baton.txn begun.pass begun.down.asked begun.own ∙ p.number

  pub leads_here : (n : ℕ) (t : Target) → n ≡ s.port.engine.initiator → LeadsTo q.platform n t → LeadsTo q.platform s.port.engine.initiator t
  leads_here n t who l = subst (λ (k : ℕ). LeadsTo q.platform k t) who l

  pub leads_first : (t : Target) → LeadsTo q.platform s.port.engine.initiator t → LeadsTo q.platform (hop_at begun.pass 0) t
  leads_first t l = subst (λ (n : ℕ). LeadsTo q.platform n t) (sym serve_first) l

  stop_mode : (r : ℕ) → IsShape q.platform → LeadsTo q.platform s.port.engine.initiator (targets.Router r) → IsRouterMode ((world_of q).hop (hop_at begun.pass 0)).req
  stop_mode r shape l =
      let a = begun.down.asked in
      let is = ends_stop q tokens note.knows.known c.baton.txn begun.pass a 0 (targets.Router r) begun.down.held.below (leads_first (targets.Router r) l) in
      let f = initiator_from 0 q.platform.initiators q.scripts c.baton.txn.initiator a.initiator a.is in
      let own : a.initiator.number ≡ c.baton.txn.initiator = f.0 ∙ none c.baton.txn.initiator in
      let row : slice_get q.platform.initiators a.initiator.number ≡ Some a.initiator.row = ap (slice_get q.platform.initiators) own ∙ f.1 in
      let hops = ap (λ (g : Passage). g.hops) a.way in
      let within = subst (λ (l : List ℕ). 0 < length l) hops begun.down.held.below in
      let leads = hops_law q.platform a.initiator a.request.address 0 row within in
      let here = ap (λ (l : List ℕ). hop_in q.platform (get_or l 0 0)) hops in
      subst (λ (e : HopEnds). IsRouterMode e.req) (sym (here ∙ leads)) (subst (λ (t : Target). IsRouterMode (hop_to q.platform (response_at a.initiator 0) t).req) (sym is) (router_answers q.platform (response_at a.initiator 0) r shape.bounded))
    where
      none : (n : ℕ) → 0 + n ≡ n
      none n = omega arith

  pub by_memory : (r : ℕ) → IsShape q.platform → LeadsTo q.platform s.port.engine.initiator (targets.Router r) → ⊥
  by_memory r shape l = no_router (is_refused (world_of q) begun.pass 0) ((world_of q).hop (hop_at begun.pass 0)).req begun.answer (stop_mode r shape l) begun.responds

  abbrev pub can_serve : (m : ℕ) → LeadsTo q.platform s.port.engine.initiator (targets.Memory m) → CanServe frame tokens m c at note.knows.known
  can_serve m l = record {
    pass = begun.pass;
    hop = 0;
    fetched = record {
      before = c.baton.wallet;
      down = begun.down;
      pulled = record { none = λ e. refl; one = λ e. absurd (zero_not_one _ (no_end (row_of (world_of q) begun.pass 0) begun.answer begun.responds) e) };
    };
    leads = leads_first (targets.Memory m) l;
    begun = (let f = begun.made in record { event = f.event; known = f.known; is = record { answer = begun.answer; call = f.is }; time = f.time });
  }

  module _ (back : Held Content Plan) (of : IsNote table back) (within : Within note.knows.known back.knows.known) (below : StandBelow back.knows.known back.knows.seen) (m : ℕ) (l : LeadsTo q.platform s.port.engine.initiator (targets.Memory m)) (new : Cargo)
      (served : IsServedAt frame tokens m c at begun.pass 0 begun.down.asked.access new back.knows.known) where
    abbrev pub K : Event → Type 0
    K = Known q.platform back.knows.known

    step : (e : Event) → Known q.platform note.knows.known e → K e
    step = known_more q note.knows.known back.knows.known within

    made_more : Finds K (IsCall c.baton.txn (hop_at begun.pass 0) BeginReq begun.answer)
    made_more = (let f = begun.made in record { event = f.event; known = step f.event f.known; is = f.is })

    leg_more : (answer : TlmSync) (leg : Option Slip) → HasOwedLeg frame tokens (first_hop q p.initiator.number) note.knows.known c.baton.txn answer leg → HasOwedLeg frame tokens (first_hop q p.initiator.number) back.knows.known c.baton.txn answer leg
    leg_more Completed None g = tt
    leg_more (Updated BeginResp) (Some leg) g = record { table = g.table; owner = g.owner; entry = g.entry; has = within g.entry g.has; object = g.object; txn = g.txn; name = g.name }
    leg_more answer leg g = absurd g

    same_txn : new.baton.txn ≡ c.baton.txn
    same_txn = ap (λ (d : Cargo). d.baton.txn) served.served.same

    abbrev pub due : ℕ
    due = later at ((world_of q).hop s.port.engine.initiator).latency

    served_hand : IsInHand frame tokens p.initiator s.port back.knows.known (response_hand leg new due)
    served_hand =
        let up = returns (record { p = q; tokens = tokens; entries = back.knows.known; x = c.baton.txn; pass = begun.pass; c = new }) 0 served.served.up begun.answer made_more begun.fits begun.responds in
        let time : UpIs (world_of q) K c.baton.txn begun.pass 0 due = subst (λ (n : ℕ). UpIs (world_of q) K c.baton.txn begun.pass 0 (later at ((world_of q).hop n).latency)) serve_first served.served.due in
        let all = subst (λ (x : TxnId). (passage_of q x ≡ Some begun.pass) × GoesUp q tokens K x begun.pass (Back (response_ends (row_of (world_of q) begun.pass 0) (mode_above q begun.pass 0) begun.answer)) 0 new
        × HasOwedLeg frame tokens (first_hop q p.initiator.number) back.knows.known x begun.answer leg × Finds K (IsCall x (hop_at begun.pass 0) BeginReq begun.answer) × UpIs (world_of q) K x begun.pass 0 due × (x.initiator ≡ p.initiator.number))
        (sym same_txn) (begun.passes, up, leg_more begun.answer leg begun.leg_of, made_more, time, begun.own) in
        returned_by frame tokens p.initiator s.port note.knows.known back.knows.known within new begun.pass (row_of (world_of q) begun.pass 0) (mode_above q begun.pass 0) begun.answer leg due all.0 all.1 begun.fits all.2 all.3 all.4 all.5

    pub served_port : IsPort table tokens frame (with_note (record s { hand = response_hand leg new due; held = s.held }) back)
    served_port = goes_on table tokens frame s note back (response_hand leg new due) s.held p of within below served_hand
        (still_held table tokens frame s note p back of within below) (λ d e. response_goes_back leg new due)

    served_made : FindsAt K (IsAccess c.baton.txn) at
    served_made =
        let d = served.served.made in
        let a = begun.down.asked.access in
        record {
          event = d.event;
          known = d.known;
          is = record { memory = served.route.memory; object = d.is.object; txn = d.is.txn; way = FourPhase; access = record a { offset = served.route.offset }; status = d.is.status; got = d.is.got; what = d.is.what };
          time = d.time;
        }

    pub serves : back.knows.looks ≡ note.knows.looks ++ (memory_place q m, 0) ∷ [] → Serves frame c at (with_note s note) (with_note (record s { hand = response_hand leg new due; held = s.held }) back)
    serves look = record {
      keeps = keeps table tokens frame s note p back of within below (response_hand leg new due) s.held;
      memory = m;
      made = served_made;
      due = response_due leg new due;
      txn = response_txn leg new due ∙ ap (λ (x : TxnId). Some x) same_txn;
      held = refl;
      look = look;
    }

    -- by what the calls say
    pub served_as : (t : StateView) (d : ℕ) → d ≡ due → t ≡ record s { hand = response_hand leg new d } → IsPort table tokens frame (with_note t back)
    served_as t d when is = subst (λ (v : StateView). IsPort table tokens frame (with_note v back)) (sym (is ∙ ap (λ (e : ℕ). record s { hand = response_hand leg new e }) when)) served_port

    pub serves_as : (t : StateView) (d : ℕ) → d ≡ due → t ≡ record s { hand = response_hand leg new d } → back.knows.looks ≡ note.knows.looks ++ (memory_place q m, 0) ∷ [] → Serves frame c at (with_note s note) (with_note t back)
    serves_as t d when is look = subst (λ (v : StateView). Serves frame c at (with_note s note) (with_note v back)) (sym (is ∙ ap (λ (e : ℕ). record s { hand = response_hand leg new e }) when)) (serves look)
