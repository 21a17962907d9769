-- What a call gives and leaves was carried or brought before.
use Rattle.std.proofs.Common.{◌≡◌, ℕ, suc, true, [], ◌∷◌, ◌++◌, take, drop, Option, Some, None, refl, sym, ap, ◌∙◌, subst}
use Rattle.std.specs.Prelude.{is_some}
use Rattle.tlm_types.specs.declared.words.TxnId.{TxnId}
use Rattle.tlm_types.specs.declared.words.Phase.TheVariants as Phases
use Rattle.tlm_types.specs.declared.words.TlmSync.{TlmSync}
use Rattle.tlm_types.specs.declared.words.TlmSync.TheVariants.{Accepted, Updated, Completed}
use Rattle.base_phases.specs.declared.phases.LaneState.{LaneState}
use Rattle.base_phases.specs.declared.phases.LaneState.TheVariants.{Free, Requested, Waiting, Responding}
use Rattle.token_book.specs.Account.{Slip}
use Rattle.flow_model.specs.Answers.{response_answer}
use Rattle.flow_model.specs.Events.{Event}
use Rattle.view_lists.specs.Lists.{Within}
use Rattle.view_lists.proofs.Members.{has_right}
use Rattle.hop_object.specs.declared.lane.Lane.{Lane}
use Rattle.hop_object.specs.declared.lane.Side.{Side}
use Rattle.hop_object.specs.declared.lane.Side.TheVariants.{Down, Up}
use Rattle.hop_object.specs.declared.call.Begun.{Begun}
use Rattle.hop_object.specs.declared.call.Responded.{Responded}
use Rattle.hop_object.specs.declared.call.HopCall.{HopCall}
use Rattle.hop_object.specs.declared.call.HopCall.TheVariants as Calls
use Rattle.hop_object.specs.declared.call.HopReply.{HopReply}
use Rattle.hop_object.specs.declared.call.HopReply.TheVariants as Replies
use Rattle.hop_object.specs.States.{is_down, state_by}
use Rattle.hop_object.specs.View.{HopView}
use Rattle.hop_object.specs.Lanes.{any_responding, side_of, step_lane, waits}
use Rattle.hop_object.specs.Hops.{begin_answer, begin_entry, can_begin, new_lane}
use Rattle.hop_object.specs.Calls.{begun_as, refused, AnswersRequest, AnswersResponse, EndsRequest, EndsResponse, FetchesDown, HandsOut, LetsGo, RefusesResponse, Responds, TakesUp}
use Rattle.hop_object.specs.Objects.{brought_by, carried_by, given_begun, given_by, given_responded, lane_of, of_item, of_lane, Applied}
use Rattle.hop_object.proofs.Items.{items_added, items_changed, nothing, within_same}
use Rattle.hop_object.proofs.LegLemmas.{both}
use Rattle.hop_object.proofs.Meanings.{decide}
use Rattle.hop_object.proofs.Places.{at_place, read_middle}

-- after BEGIN_RESP an item goes up
up_by : (a : TlmSync) → side_of (state_by a) ≡ Up
up_by Accepted = refl
up_by (Updated phase) = refl
up_by Completed = refl

down_side : (s : LaneState) → is_down s ≡ true → side_of s ≡ Down
down_side Free e = cc
down_side Requested e = refl
down_side Waiting e = refl
down_side Responding e = cc

module _ {T : Type 0} where
  -- what BEGIN_REQ leaves and gives, and what was there
  Begins : HopView T → TxnId → T → HopView T × Begun T → Type 0
  Begins v x item r = Within (carried_by r.0.lanes ++ given_begun x r.1) (carried_by v.lanes ++ (x, (Down, item)) ∷ [])

  waits_there : (v : HopView T) (e : Event) (item : T) (state : LaneState) → side_of state ≡ Down → Within (carried_by (v.lanes ++ new_lane e state (Some item) ∷ []) ++ []) (carried_by v.lanes ++ (e.txn, (Down, item)) ∷ [])
  waits_there v e item state side =
      let lane = new_lane e state (Some item) in
      items_added v.lanes (v.lanes ++ lane ∷ []) (lane ∷ []) [] ((e.txn, (Down, item)) ∷ []) refl (within_same (carried_by (lane ∷ []) ++ []) ((e.txn, (Down, item)) ∷ []) (ap (λ (s : Side). (e.txn, (s, item)) ∷ []) side))

  begun_given : (v : HopView T) (e : Event) (item : T) (answer : TlmSync) → Begins v e.txn item (begun_as v e item answer)
  unfolding Begins
  begun_given v e item Accepted = waits_there v e item Requested refl
  begun_given v e item Completed = λ x h. h
  begun_given v e item (Updated Phases.BeginReq) = waits_there v e item Waiting refl
  begun_given v e item (Updated Phases.EndReq) = waits_there v e item Waiting refl
  begun_given v e item (Updated Phases.BeginResp) =
      let lane = new_lane e Responding None in
      items_added v.lanes (v.lanes ++ lane ∷ []) (lane ∷ []) ((e.txn, (Down, item)) ∷ []) ((e.txn, (Down, item)) ∷ []) refl (λ x h. h)
  begun_given v e item (Updated Phases.EndResp) = waits_there v e item Waiting refl

  request_given : (v : HopView T) (p : ℕ) (x : TxnId) (at : ℕ) (item : T) (w : HopView T) (answer : Begun T) → AnswersRequest v p x at item w answer → Begins v x item (w, answer)
  unfolding Begins
  request_given v p x at item w answer a =
      decide (can_begin v)
      (λ can. subst (Begins v x item) (sym (a.taken can)) (begun_given v (begin_entry v p x at (begin_answer v)) item (begin_answer v)))
      (λ cannot. let h = a.busy cannot in let same : (v, refused v item) ≡ (w, answer) = λ i. ((sym h.0) i, (sym h.1) i) in subst (Begins v x item) same (λ y k. k))

  -- END_REQ and END_RESP
  end_req_given : (v : HopView T) (p : ℕ) (leg : Slip) (at : ℕ) (w : HopView T) (next : Slip) (time : ℕ) → EndsRequest v leg p at w next time → Within (carried_by w.lanes ++ []) (carried_by v.lanes ++ [])
  end_req_given v p leg at w next time r =
      let mid = step_lane r.lane Waiting time p None in
      items_changed v.lanes w.lanes r.before r.lane r.behind (mid ∷ []) [] [] r.here (ap (λ (h : HopView T). h.lanes) r.after) (nothing (of_item r.lane.txn (side_of r.lane.state) r.lane.item ++ []))

  end_resp_given : (v : HopView T) (p : ℕ) (leg : Slip) (at : ℕ) (w : HopView T) (time : ℕ) → EndsResponse v leg p at w time → Within (carried_by w.lanes ++ []) (carried_by v.lanes ++ [])
  end_resp_given v p leg at w time r =
      items_changed v.lanes w.lanes r.before r.lane r.behind [] [] [] r.here (ap (λ (h : HopView T). h.lanes) r.after) (nothing (of_item r.lane.txn (side_of r.lane.state) r.lane.item ++ []))

  -- BEGIN_RESP
  Responding_gives : HopView T → Slip → T → HopView T → Responded T → Type 0
  Responding_gives v leg item w answer = Within (carried_by w.lanes ++ given_responded v answer) (carried_by v.lanes ++ of_lane (lane_of v leg) item)

  sent_given : (v : HopView T) (leg : Slip) (p at : ℕ) (item : T) (w : HopView T) (answer : Responded T) → Responds v leg p at item w answer → Responding_gives v leg item w answer
  unfolding Responding_gives
  sent_given v leg p at item w answer s =
      let mid = step_lane s.lane (state_by (response_answer v.traits.resp)) s.time p (Some item) in
      let own : (s.lane.txn, (side_of mid.state, item)) ∷ [] ≡ of_lane (lane_of v leg) item = ap (λ (side : Side). (s.lane.txn, (side, item)) ∷ []) (up_by (response_answer v.traits.resp)) ∙ ap (λ (o : Option (Lane T)). of_lane o item) (sym s.leg_is) in
      subst (λ (r : Responded T). Within (carried_by w.lanes ++ given_responded v r) (carried_by v.lanes ++ of_lane (lane_of v leg) item)) (sym s.answer_is)
      (items_changed v.lanes w.lanes s.before s.lane s.behind (mid ∷ []) [] (of_lane (lane_of v leg) item) s.here (ap (λ (h : HopView T). h.lanes) s.after)
      (λ y h. has_right (of_item s.lane.txn (side_of s.lane.state) s.lane.item) (of_lane (lane_of v leg) item) y (within_same ((s.lane.txn, (side_of mid.state, item)) ∷ []) (of_lane (lane_of v leg) item) own y h)))

  busy_given : (v : HopView T) (leg : Slip) (item : T) (w : HopView T) (answer : Responded T) → RefusesResponse v leg item w answer → Responding_gives v leg item w answer
  unfolding Responding_gives
  busy_given v leg item w answer b =
      subst (λ (r : Responded T). Within (carried_by w.lanes ++ given_responded v r) (carried_by v.lanes ++ of_lane (lane_of v leg) item)) (sym b.answer_is)
      (within_same (carried_by w.lanes ++ of_lane (lane_of v leg) item) (carried_by v.lanes ++ of_lane (lane_of v leg) item) (ap (λ (h : HopView T). carried_by h.lanes ++ of_lane (lane_of v leg) item) b.same))

  response_given : (v : HopView T) (leg : Slip) (p at : ℕ) (item : T) (w : HopView T) (answer : Responded T) → AnswersResponse v leg p at item w answer → Responding_gives v leg item w answer
  response_given v leg p at item w answer a =
      decide (any_responding v.lanes)
      (λ open_. busy_given v leg item w answer (a.busy open_))
      (λ free. sent_given v leg p at item w answer (a.sent free))

  -- a fetch
  fetched : (lane : Lane T) (x : TxnId) (side : Side) (item : T) → lane.item ≡ Some item → x ≡ lane.txn → side_of lane.state ≡ side → Within ((x, (side, item)) ∷ []) (of_item lane.txn (side_of lane.state) lane.item ++ [])
  fetched lane x side item carried own there =
      within_same ((x, (side, item)) ∷ []) (of_item lane.txn (side_of lane.state) lane.item ++ [])
      (ap (λ (t : TxnId). (t, (side, item)) ∷ []) own ∙ ap (λ (s : Side). (lane.txn, (s, item)) ∷ []) (sym there) ∙ ap (λ (o : Option T). of_item lane.txn (side_of lane.state) o ++ []) (sym carried))

  handed_given : (v : HopView T) (i : ℕ) (w : HopView T) (leg : Slip) (state : LaneState) (x : TxnId) (time : ℕ) (item : T) → HandsOut v i w leg state x time item → (side : Side) → side_of state ≡ side → Within (carried_by w.lanes ++ (x, (side, item)) ∷ []) (carried_by v.lanes ++ [])
  handed_given v i w leg state x time item h side there =
      let mid = step_lane h.lane h.lane.state h.lane.last h.lane.latest None in
      items_changed v.lanes w.lanes (take i v.lanes) h.lane (drop (suc i) v.lanes) (mid ∷ []) ((x, (side, item)) ∷ []) [] h.here (ap (λ (y : HopView T). y.lanes) h.after) (fetched h.lane x side item h.carried h.txn_is (ap side_of (sym h.state_is) ∙ there))

  freed_given : (v : HopView T) (i : ℕ) (w : HopView T) (x : TxnId) (time : ℕ) (item : T) → LetsGo v i w x time item → Within (carried_by w.lanes ++ (x, (Up, item)) ∷ []) (carried_by v.lanes ++ [])
  freed_given v i w x time item h =
      items_changed v.lanes w.lanes (take i v.lanes) h.lane (drop (suc i) v.lanes) [] ((x, (Up, item)) ∷ []) [] h.here (ap (λ (y : HopView T). y.lanes) h.after) (fetched h.lane x Up item h.carried h.txn_is (ap side_of h.ended))

  taken_up_given : (v : HopView T) (i : ℕ) (w : HopView T) (leg : Option Slip) (x : TxnId) (time : ℕ) (item : T) → TakesUp v i w leg x time item → Within (carried_by w.lanes ++ (x, (Up, item)) ∷ []) (carried_by v.lanes ++ [])
  taken_up_given v i w None x time item h = freed_given v i w x time item h
  taken_up_given v i w (Some leg) x time item h = handed_given v i w leg Responding x time item h Up refl

  -- the lane of the first request that waits carries an item that goes down
  first_side : (v w : HopView T) (r : Slip × LaneState × TxnId × ℕ × T) → FetchesDown v w (Some r) → side_of r.1 ≡ Down
  first_side v w r h =
      let l = h.2.lane in
      let waiting : waits Down l ≡ true = at_place (λ (y : Lane T). waits Down y ≡ true) v.lanes v.lanes l h.0 h.1.waiting refl (read_middle v.lanes h.0 l h.1.place h.2.here) in
      ap side_of h.2.state_is ∙ down_side l.state (both (is_some l.item) (is_down l.state) waiting).1

  -- nothing was changed
  same_given : (v w : HopView T) → w ≡ v → Within (carried_by w.lanes ++ []) (carried_by v.lanes ++ [])
  same_given v w is = within_same (carried_by w.lanes ++ []) (carried_by v.lanes ++ []) (ap (λ (h : HopView T). carried_by h.lanes ++ []) is)

  pub all_given : (v : HopView T) (p : ℕ) (call : HopCall T) (reply : HopReply T) (w : HopView T) → Applied v p call reply w → Within (carried_by w.lanes ++ given_by v call reply) (carried_by v.lanes ++ brought_by v call)
  unfolding Begins Responding_gives
  all_given v p (Calls.BeginReq x at item) (Replies.Begun answer) w h = request_given v p x at item w answer h
  all_given v p Calls.FetchDown (Replies.Down None) w h = same_given v w h.0
  all_given v p Calls.FetchDown (Replies.Down (Some r)) w h = handed_given v h.0 w r.0 r.1 r.2 r.3 r.4 h.2 Down (first_side v w r h)
  all_given v p (Calls.EndReq leg at) (Replies.EndedReq next time) w h = end_req_given v p leg at w next time h
  all_given v p (Calls.BeginResp leg at item) (Replies.Responded answer) w h = response_given v leg p at item w answer h
  all_given v p Calls.FetchUp (Replies.Up None) w h = same_given v w h.0
  all_given v p Calls.FetchUp (Replies.Up (Some r)) w h = taken_up_given v h.0 w r.0 r.1 r.2 r.3 h.2
  all_given v p (Calls.EndResp leg at) (Replies.EndedResp time) w h = end_resp_given v p leg at w time h
  all_given v p (Calls.Ended x) (Replies.Ended answer) w h = same_given v w h.0
  all_given v p call reply w h = absurd h
