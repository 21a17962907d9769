-- What a move leaves that changes only what a port works on, and what the port then knows of it.
use Rattle.std.proofs.Common.{◌≡◌, ℕ, ◌<◌, List, Option, Some, None, refl, sym, ap, ◌∙◌, subst, inl, inr, arith, is_some, IsTrue}
use Rattle.std.proofs.lemmas.Grind.{common_steps}
use Rattle.atomic_table.specs.Seated.{TableId}
use Rattle.view_lists.specs.Lists.{Within}
use Rattle.one_history.specs.Held.{Held}
use Rattle.one_history.specs.declared.entry.Entry.{Entry}
use Rattle.one_history.specs.declared.view.Frame.{Frame}
use Rattle.shared_object.specs.Steps.{IsNote}
use Rattle.tlm_types.specs.declared.entry.Content.{Content}
use Rattle.tlm_types.specs.declared.words.Phase.TheVariants.{BeginReq, BeginResp, EndResp}
use Rattle.tlm_types.specs.declared.words.TlmSync.{TlmSync}
use Rattle.tlm_types.specs.declared.words.TlmSync.TheVariants.{Completed, Updated}
use Rattle.tlm_types.specs.declared.entry.Access.{Access}
use Rattle.tlm_types.specs.declared.words.ReqMode.{ReqMode}
use Rattle.tlm_types.specs.declared.words.RespMode.{RespMode}
use Rattle.tlm_types.specs.declared.words.RespMode.TheVariants as Modes
use Rattle.tlm_types.specs.declared.words.TxnId.{TxnId}
use Rattle.tlm_types.specs.declared.words.Way.TheVariants.{FourPhase}
use Rattle.flow_model.specs.Answers.{response_answer}
use Rattle.generic_payload.specs.Payload.{PayloadView}
use Rattle.tlm_model.specs.Plan.{Plan, Initiator}
use Rattle.tlm_model.specs.Route.{Route}
use Rattle.token_book.specs.Account.{Slip}
use Rattle.token_book.specs.Purse.{Purse, empty_purse}
use Rattle.payload_pool.specs.declared.baton.Baton.{Baton}
use Rattle.flow_model.specs.World.{Passage, hop_at, hop_count}
use Rattle.flow_model.specs.Events.{Event, Finds, FindsAt, IsAccess, IsCall, IsTake}
use Rattle.flow_model.specs.Backed.{ReleaseBacked}
use Rattle.flow_model.specs.Numbers.{EndIs, IsEnder, IsEnding, UpIs, released_hop}
use Rattle.flow_model.specs.Platform.{passage_of, world_of}
use Rattle.cargo_model.specs.declared.cargo.Cargo.{Cargo}
use Rattle.cargo_model.specs.Called.{IsAnswerIn}
use Rattle.cargo_model.specs.Counts.{owed_by, response_ends}
use Rattle.cargo_model.specs.Known.{Known}
use Rattle.cargo_model.specs.Tickets.{Pulls}
use Rattle.cargo_model.specs.Travel.{Back, GoesDown, GoesUp, IsReplied, IsTaken, Ready, route_for, with_wallet}
use Rattle.cargo_net.specs.declared.fetches.FetchedResponse.{FetchedResponse}
use Rattle.cargo_net.specs.Begins.{HasOwedLeg}
use Rattle.cargo_net.specs.Fetched.{HasEndLeg, HasFetchedResponse, mode_above}
use Rattle.plat_net.specs.PoolCalls.{CanRelease, CanStow}
use Rattle.cargo_net.proofs.AskedLemmas.{asked_few}
use Rattle.port_model.specs.Way.{Port}
use Rattle.port_model.proofs.Begins.{knows_more}
use Rattle.port_end.specs.Arrives.{StandBelow, events_of}
use Rattle.port_end.proofs.Arrives.{knows_more as events_more, stand_below as events_below}
use Rattle.port_moves.specs.Moved.{response_hand}
use Rattle.port_moves.specs.Reach.{first_hop}
use Rattle.port_moves.specs.State.{GoesBack, IsEnded, IsHeld, IsInHand, IsOwed, IsPort, IsReady, IsTakenUp, StateView, left_at, with_note}
use Rattle.port_moves.specs.declared.hand.Hand.{Hand}
use Rattle.port_moves.proofs.HandsMore.{step}

-- a move that leaves the port's script, its times and its wallet: what it works on is known by the note that came back
pub goes_on : (table tokens : TableId) (frame : Frame Plan) (s : StateView) (note back : Held Content Plan) (hand : Hand) (held : Option Cargo) (p : IsPort table tokens frame (with_note s note))
    → IsNote table back → Within note.knows.known back.knows.known → StandBelow back.knows.known back.knows.seen
    → IsInHand frame tokens p.initiator s.port back.knows.known hand → IsHeld frame tokens p.initiator s.port back.knows.known held → ((c : Cargo) → held ≡ Some c → GoesBack hand)
    → IsPort table tokens frame (with_note (record s { hand = hand; held = held }) back)
goes_on table tokens frame s note back hand held p of within below in_hand is_held alone = record {
  no_cycle = p.no_cycle;
  initiator = p.initiator;
  is = p.is;
  style = p.style;
  number = p.number;
  note_of = of;
  below = below;
  wallet_of = p.wallet_of;
  places = p.places;
  few_places = p.few_places;
  bytes = p.bytes;
  way = knows_more frame.world p.initiator s.port (events_of frame.world.platform note.knows.known) (events_of frame.world.platform back.knows.known) note.knows.seen back.knows.seen
      (left_at frame.world s.wallet) p.way (events_more frame.world.platform note.knows.known back.knows.known within) (events_below frame.world.platform note.knows.known back.knows.known back.knows.seen below);
  in_hand = in_hand;
  is_held = is_held;
  alone = alone;
  payload = p.payload;
  has_payload = p.has_payload;
  roomy = p.roomy;
  proper = p.proper;
}

pub taken_is_take : (x : TxnId) (position slot : ℕ) (e : Event) → IsTaken x position slot e → IsTake x e
taken_is_take x position slot e t = record { object = t.object; txn = t.txn; slot = slot; what = t.what }

module _ (frame : Frame Plan) (tokens : TableId) (i : Initiator) (port : Port) (known more : List (Entry Content)) (w : Within known more) where
  abbrev K : Event → Type 0
  K = Known frame.world.platform more

  -- after the first Acquire it may go down
  pub acquired_ready : (b : Baton) (c : Cargo) (t : IsTakenUp frame tokens i port known b) → GoesDown frame.world tokens K b.txn t.start.pass Ready 0 c → IsReady frame tokens i port more c
  acquired_ready b c t d =
      let same : c.baton.txn ≡ b.txn = d.held.txn in
      let f = t.start.taken in
      let take : FindsAt K (IsTake b.txn) port.time = record {
        event = f.event;
        known = step frame tokens i port known more w f.event f.known;
        is = taken_is_take b.txn t.start.position b.slot f.event f.is;
        time = f.time;
      } in
      record {
        own = ap (λ (x : TxnId). x.initiator) same ∙ t.start.of;
        pass = t.start.pass;
        passes = subst (λ (x : TxnId). passage_of frame.world x ≡ Some t.start.pass) (sym same) t.start.asked.passes;
        down = subst (λ (x : TxnId). GoesDown frame.world tokens K x t.start.pass Ready 0 c) (sym same) d;
        taken = subst (λ (x : TxnId). FindsAt K (IsTake x) port.time) (sym same) take;
      }

  -- after END_RESP it has ended
  pub owed_ended : (c : Cargo) (leg : Slip) (at end : ℕ) (after : Purse) (o : IsOwed frame tokens i port more c leg at)
      → Pulls tokens (first_hop frame.world i.number) 0 c.baton.wallet after → hop_at o.pass 0 ≡ i.number
      → FindsAt K (IsCall c.baton.txn (hop_at o.pass 0) EndResp Completed) end → IsEnded frame tokens i port more (with_wallet c after) end
  owed_ended c leg at end after o pulls first made = record {
    pass = o.pass;
    passes = o.passes;
    owed = 1;
    few = omega arith;
    before = c.baton.wallet;
    up = o.up;
    own = o.own;
    pulls = record {
      none = λ q. absurd (omega (arith, q));
      one = λ q. subst (λ (h : ℕ). Pulls tokens (first_hop frame.world h) 0 c.baton.wallet after) (sym first) pulls;
    };
    made = λ some. record { event = made.event; known = made.known; is = made.is };
    ender = record { event = made.event; known = made.known; is = ender };
    time = inr (record { event = made.event; known = made.known; is = (ender, inr (record { answer = Completed; call = made.is })); time = made.time });
  }
    where
      ender : IsEnder c.baton.txn (hop_at o.pass 0) made.event
      ender = record { phase = EndResp; answer = Completed; call = made.is; ends = tt }

  -- what its references stand after: the response is known where it has a route
  served_of : (x : TxnId) (pass : Passage) (a : Access) (r : Option Route) (v : PayloadView) → IsReplied frame.world tokens K x pass a r v → IsTrue (is_some r) → Finds K (IsAccess x)
  served_of x pass a None v d t = cc
  served_of x pass a (Some r) v d t = record {
    event = d.event;
    known = d.known;
    is = record { memory = r.memory; object = d.is.object; txn = d.is.txn; way = FourPhase; access = record a { offset = r.offset }; status = d.is.status; got = d.is.got; what = d.is.what };
  }

  pub ended_backs : (c : Cargo) (end : ℕ) (o : IsEnded frame tokens i port more c end) (n : ℕ) → released_hop n ≡ 0 → ReleaseBacked (world_of frame.world) K c.baton.txn o.pass n end
  ended_backs c end o n zeroth = record {
    below = subst (λ (k : ℕ). k < hop_count o.pass) (sym zeroth) o.up.held.below;
    ended = subst (λ (k : ℕ). Finds K (IsEnder c.baton.txn (hop_at o.pass k))) (sym zeroth) o.ender;
    time = subst (λ (k : ℕ). EndIs (world_of frame.world) K c.baton.txn o.pass k end) (sym zeroth) o.time;
    served = λ t. served_of c.baton.txn o.pass o.up.asked.access (route_for frame.world tokens K c.baton.txn o.pass o.up.asked) c.baton.payload o.up.content (subst IsTrue (ap (λ (g : Passage). g.routed) o.up.asked.way) t);
  }

  -- The reference that the payload came with may be given up at the end, and then the initiator's own.
  abbrev pub ended_releases : (c : Cargo) (end : ℕ) (o : IsEnded frame tokens i port more c end) → CanRelease frame tokens i.number c.hold end more
  ended_releases c end o =
      let h = o.up.held.hold in
      record {
        x = c.baton.txn;
        pass = o.pass;
        access = record { of = o.own; passes = o.passes };
        position = h.position;
        taken = h.taken;
        count = 0;
        few = omega arith;
        is = h.is;
        after = ended_backs c end o 0 refl;
      }

  pub ended_stows : (c : Cargo) (end : ℕ) (o : IsEnded frame tokens i port more c end)
      → CanStow frame tokens i.number (let b = c.baton in record b { wallet = empty_purse 12 }) end more
  ended_stows c end o =
      let h = o.up.held in
      let f = h.taken in
      record {
        pass = o.pass;
        access = record { of = o.own; passes = o.passes };
        position = h.position;
        taken = record { event = f.event; known = f.known; is = record { slot = (let b = c.baton in b.slot); take = f.is } };
        count = hop_count o.pass;
        few = (let few = asked_few frame.world tokens K c.baton.txn o.pass o.up.asked in omega (arith, few));
        own = h.own;
        room = h.room;
        spent = refl;
        after = ended_backs c end o 15 refl;
      }

  -- by an answer to BEGIN_RESP that ends it
  ended_by_response : (c : Cargo) (pass : Passage) (at : ℕ) → passage_of frame.world c.baton.txn ≡ Some pass → GoesUp frame.world tokens K c.baton.txn pass (Back 0) 0 c → c.baton.txn.initiator ≡ i.number
      → (answer : TlmSync) → IsEnding BeginResp answer → FindsAt K (IsCall c.baton.txn (hop_at pass 0) BeginResp answer) at → IsEnded frame tokens i port more c at
  ended_by_response c pass at passes up own answer ends made =
      let ender : IsEnder c.baton.txn (hop_at pass 0) made.event = record { phase = BeginResp; answer = answer; call = made.is; ends = ends } in
      record {
        pass = pass;
        passes = passes;
        owed = 0;
        few = omega arith;
        before = (let b = c.baton in b.wallet);
        up = up;
        own = own;
        pulls = record { none = λ q. refl; one = λ q. absurd (omega (arith, q)) };
        made = λ some. absurd (omega (arith, some));
        ender = record { event = made.event; known = made.known; is = ender };
        time = inr (record { event = made.event; known = made.known; is = (ender, inl (record { answer = answer; call = made.is })); time = made.time });
      }

  -- A response that was fetched from the first hop: END_RESP is owed where the leg came, and else the access has ended with its BEGIN_RESP.
  fetched_by : (c : Cargo) (pass : Passage) (mode : RespMode) (leg : Option Slip) (at : ℕ) → passage_of frame.world c.baton.txn ≡ Some pass → GoesUp frame.world tokens K c.baton.txn pass (Back (owed_by mode)) 0 c
      → HasEndLeg frame tokens (first_hop frame.world i.number) more c.baton.txn mode leg → FindsAt K (IsCall c.baton.txn (hop_at pass 0) BeginResp (response_answer mode)) at → c.baton.txn.initiator ≡ i.number
      → IsInHand frame tokens i port more (response_hand leg c at)
  fetched_by c pass Modes.Accept (Some leg) at passes up leg_of made own =
      record { pass = pass; passes = passes; up = up; own = own; leg_of = leg_of; least = inl (record { event = made.event; known = made.known; is = record { answer = response_answer Modes.Accept; call = made.is }; time = made.time }) }
  fetched_by c pass Modes.EndResp None at passes up leg_of made own = ended_by_response c pass at passes up own (response_answer Modes.EndResp) tt made
  fetched_by c pass Modes.Complete None at passes up leg_of made own = ended_by_response c pass at passes up own (response_answer Modes.Complete) tt made
  fetched_by c pass mode leg at passes up leg_of made own = absurd leg_of

  pub fetched_hand : (r : FetchedResponse) (f : HasFetchedResponse frame tokens (first_hop frame.world i.number) r more) → f.hop ≡ 0 → r.txn.initiator ≡ i.number → IsInHand frame tokens i port more (response_hand r.leg r.cargo r.at)
  fetched_hand r f first own =
      let mode = mode_above frame.world f.pass 0 in
      let up = subst (λ (k : ℕ). GoesUp frame.world tokens K r.txn f.pass (Back (owed_by (mode_above frame.world f.pass k))) k r.cargo) first f.up in
      let leg_of = subst (λ (k : ℕ). HasEndLeg frame tokens (first_hop frame.world i.number) more r.txn (mode_above frame.world f.pass k) r.leg) first f.leg_of in
      let made = subst (λ (k : ℕ). FindsAt K (IsCall r.txn (hop_at f.pass k) BeginResp (response_answer (mode_above frame.world f.pass k))) r.at) first f.made in
      let all = subst (λ (x : TxnId). (passage_of frame.world x ≡ Some f.pass) × GoesUp frame.world tokens K x f.pass (Back (owed_by mode)) 0 r.cargo
      × HasEndLeg frame tokens (first_hop frame.world i.number) more x mode r.leg × FindsAt K (IsCall x (hop_at f.pass 0) BeginResp (response_answer mode)) r.at × (x.initiator ≡ i.number))
      (sym up.held.txn) (up.asked.passes, up, leg_of, made, own) in
      fetched_by r.cargo f.pass mode r.leg r.at all.0 all.1 all.2 all.3 all.4

  -- A response that came by return is due after the memory's latency: END_RESP is owed then where the leg came, and else the access has ended then.
  ends_none : (row : ReqMode) (resp : RespMode) → IsAnswerIn row Completed → response_ends row resp Completed ≡ 0
  ends_none row resp fits = grind (arith, common_steps)

  ends_one : (row : ReqMode) (resp : RespMode) → IsAnswerIn row (Updated BeginResp) → response_ends row resp (Updated BeginResp) ≡ 1
  ends_one row resp fits = grind (arith, common_steps)

  pub returned_by : (c : Cargo) (pass : Passage) (row : ReqMode) (resp : RespMode) (answer : TlmSync) (leg : Option Slip) (due : ℕ) → passage_of frame.world c.baton.txn ≡ Some pass
      → GoesUp frame.world tokens K c.baton.txn pass (Back (response_ends row resp answer)) 0 c → IsAnswerIn row answer
      → HasOwedLeg frame tokens (first_hop frame.world i.number) more c.baton.txn answer leg → Finds K (IsCall c.baton.txn (hop_at pass 0) BeginReq answer) → UpIs (world_of frame.world) K c.baton.txn pass 0 due
      → c.baton.txn.initiator ≡ i.number → IsInHand frame tokens i port more (response_hand leg c due)
  returned_by c pass row resp Completed None due passes up fits leg_of made due_up own =
      let back = subst (λ (n : ℕ). GoesUp frame.world tokens K c.baton.txn pass (Back n) 0 c) (ends_none row resp fits) up in
      record {
        pass = pass;
        passes = passes;
        owed = 0;
        few = omega arith;
        before = (let b = c.baton in b.wallet);
        up = back;
        own = own;
        pulls = record { none = λ q. refl; one = λ q. absurd (omega (arith, q)) };
        made = λ some. absurd (omega (arith, some));
        ender = record { event = made.event; known = made.known; is = record { phase = BeginReq; answer = Completed; call = made.is; ends = tt } };
        time = inl (made, inr (record { event = made.event; known = made.known; is = record { answer = Completed; call = made.is; brings = tt } }, due_up));
      }
  returned_by c pass row resp (Updated BeginResp) (Some leg) due passes up fits leg_of made due_up own =
      record {
        pass = pass;
        passes = passes;
        up = subst (λ (n : ℕ). GoesUp frame.world tokens K c.baton.txn pass (Back n) 0 c) (ends_one row resp fits) up;
        own = own;
        leg_of = leg_of;
        least = inr (record { event = made.event; known = made.known; is = record { answer = Updated BeginResp; call = made.is; brings = tt } }, due_up);
      }
  returned_by c pass row resp answer leg due passes up fits leg_of made due_up own = absurd leg_of
