-- The legs of replies name their transactions, and a BEGIN_RESP brings an item of its own one.
use Rattle.std.proofs.Common.{◌≡◌, ℕ, suc, ◌+◌, ◌*◌, ◌<◌, true, false, List, [], ◌∷◌, ◌++◌, take, drop, Option, Some, None, refl, sym, ap, ◌∙◌, subst, arith}
use Rattle.std.specs.Prelude.{◌/◌, ◌%◌, not, is_some, ◌&&◌}
use Rattle.std.specs.List.{All}
use Rattle.std.proofs.lemmas.List.Elements.{All-head, All-same}
use Rattle.tlm_types.specs.declared.words.TxnId.{TxnId}
use Rattle.tlm_types.specs.declared.words.Phase.TheVariants.{BeginReq, EndReq, BeginResp, EndResp}
use Rattle.tlm_types.specs.declared.words.TlmSync.{TlmSync}
use Rattle.tlm_types.specs.declared.words.TlmSync.TheVariants.{Accepted, Updated, Completed}
use Rattle.base_phases.specs.declared.phases.LaneState.{LaneState}
use Rattle.base_phases.specs.declared.phases.LaneState.TheVariants.{Free, Requested, Waiting, Responding}
use Rattle.token_book.specs.Account.{Slip}
use Rattle.view_lists.specs.Lists.{Has}
use Rattle.view_lists.proofs.Members.{has_map, has_one, has_none}
use Rattle.shared_object.specs.Written.{Written}
use Rattle.flow_model.specs.Board.{Open}
use Rattle.flow_model.specs.Events.{Among, Event}
use Rattle.numbered_log.specs.Logged.{written_by}
use Rattle.hop_object.specs.declared.lane.Lane.{Lane}
use Rattle.hop_object.specs.declared.lane.Side.{Side}
use Rattle.hop_object.specs.declared.lane.Side.TheVariants.{Down, Up}
use Rattle.hop_object.specs.declared.call.Begun.{Begun}
use Rattle.hop_object.specs.declared.call.HopCall.{HopCall}
use Rattle.hop_object.specs.declared.call.HopCall.TheVariants as Calls
use Rattle.hop_object.specs.declared.call.HopReply.{HopReply}
use Rattle.hop_object.specs.declared.call.HopReply.TheVariants as Replies
use Rattle.hop_object.specs.States.{number_of_state, is_down}
use Rattle.hop_object.specs.View.{HopView}
use Rattle.hop_object.specs.Lanes.{has_leg, opens, step_lane, waits}
use Rattle.hop_object.specs.Hops.{begin_answer, begin_entry, can_begin, leg_at, new_lane, HasSent, Follows}
use Rattle.hop_object.specs.Calls.{begun_as, refused, AnswersRequest, FetchesDown, HandsOut, TakesUp}
use Rattle.hop_object.specs.Objects.{lane_of, of_lane, txn_of, Applied}
use Rattle.hop_object.specs.Laws.{BegunNames, BringsOwn, FetchedWasSent, HasItemCall, IsLegOfTxn, OwedNames, ReplyNames, state_with}
use Rattle.hop_object.proofs.Boards.{opens-append}
use Rattle.hop_object.proofs.LegLaws.{among_middle, board_known, live_open, names_transaction}
use Rattle.hop_object.proofs.LegLemmas.{both, small}
use Rattle.hop_object.proofs.Meanings.{decide}
use Rattle.hop_object.proofs.Places.{All-right, at_place, found_any, read_middle}

part_of : (position : ℕ) (s : LaneState) → (4 * position + number_of_state s) / 4 ≡ position
part_of position s = let q = small s in omega arith

down_live : (s : LaneState) → is_down s ≡ true → 0 < number_of_state s
down_live Free e = cc
down_live Requested e = omega arith
down_live Waiting e = omega arith
down_live Responding e = omega arith

module _ {T : Type 0} where
  -- a lane of the hop whose state isn't Free has its BEGIN_REQ in the log
  lane_begun : (w : HopView T) → Follows w → (before : List (Lane T)) (lane : Lane T) (behind : List (Lane T)) → w.lanes ≡ before ++ lane ∷ behind → 0 < number_of_state lane.state → (leg : Slip) → leg.name / 4 ≡ lane.position → IsLegOfTxn w leg lane.txn
  lane_begun w f before lane behind here live leg named =
      let o : Open = record { txn = lane.txn; position = lane.position; state = lane.state; last = lane.last } in
      let seen = live_open lane lane.state live in
      let is : opens w.lanes ≡ opens before ++ o ∷ opens behind = ap opens here ∙ opens-append before (lane ∷ behind) ∙ ap (λ (os : List Open). opens before ++ (os ++ opens behind)) seen in
      let b = (board_known w f).begun o (subst (λ (os : List Open). Among os o) (sym is) (among_middle (opens before) (opens behind) o)) in
      record { event = b.event; known = b.known; is = (b.is.phase, b.is.place ∙ sym named) }

  handed_names : (v : HopView T) (i : ℕ) (w : HopView T) (leg : Slip) (state : LaneState) (x : TxnId) (time : ℕ) (item : T) → Follows w → HandsOut v i w leg state x time item → 0 < number_of_state state → IsLegOfTxn w leg x
  handed_names v i w leg state x time item f h live =
      let l = h.lane in
      let next = step_lane l l.state l.last l.latest None in
      let there : IsLegOfTxn w leg l.txn =
      lane_begun w f (take i v.lanes) next (drop (suc i) v.lanes) (ap (λ (y : HopView T). y.lanes) h.after) (subst (λ (s : LaneState). 0 < number_of_state s) h.state_is live) leg (ap (λ (y : Slip). y.name / 4) h.leg_is ∙ part_of l.position l.state) in
      subst (IsLegOfTxn w leg) (sym h.txn_is) there

  -- BEGIN_REQ
  begun_names : (v : HopView T) (e : Event) (item : T) (answer : TlmSync) → Follows (begun_as v e item answer).0 → BegunNames (begun_as v e item answer).0 (begun_as v e item answer).1 e.txn
  begun_names v e item Accepted f = tt
  begun_names v e item Completed f = tt
  begun_names v e item (Updated BeginReq) f = tt
  begun_names v e item (Updated EndReq) f = tt
  begun_names v e item (Updated BeginResp) f = lane_begun (begun_as v e item (Updated BeginResp)).0 f v.lanes (new_lane e Responding None) [] refl (omega arith) (leg_at v.book e.position Responding) (part_of e.position Responding)
  begun_names v e item (Updated EndResp) f = tt

  Names : TxnId → HopView T × Begun T → Type 0
  Names x r = Follows r.0 → BegunNames r.0 r.1 x

  request_names : (v : HopView T) (p : ℕ) (x : TxnId) (at : ℕ) (item : T) (w : HopView T) (answer : Begun T) → AnswersRequest v p x at item w answer → Names x (w, answer)
  unfolding Names
  request_names v p x at item w answer a =
      decide (can_begin v)
      (λ can. subst (Names x) (sym (a.taken can)) (begun_names v (begin_entry v p x at (begin_answer v)) item (begin_answer v)))
      (λ cannot. let h = a.busy cannot in let same : (v, refused v item) ≡ (w, answer) = λ i. ((sym h.0) i, (sym h.1) i) in subst (Names x) same (λ f. tt))

  owed_names : (v : HopView T) (i : ℕ) (w : HopView T) (leg : Option Slip) (x : TxnId) (time : ℕ) (item : T) → Follows w → TakesUp v i w leg x time item → OwedNames w leg x
  owed_names v i w None x time item f h = tt
  owed_names v i w (Some leg) x time item f h = handed_names v i w leg Responding x time item f h (omega arith)

  -- the lane of the first request that waits is down
  first_down : (v w : HopView T) (r : Slip × LaneState × TxnId × ℕ × T) → FetchesDown v w (Some r) → 0 < number_of_state r.1
  first_down v w r h =
      let l = h.2.lane in
      let waiting : waits Down l ≡ true = at_place (λ (y : Lane T). waits Down y ≡ true) v.lanes v.lanes l h.0 h.1.waiting refl (read_middle v.lanes h.0 l h.1.place h.2.here) in
      subst (λ (s : LaneState). 0 < number_of_state s) (sym h.2.state_is) (down_live l.state (both (is_some l.item) (is_down l.state) waiting).1)

  pub reply_names : (v : HopView T) (p : ℕ) (call : HopCall T) (reply : HopReply T) (w : HopView T) → Follows w → Applied v p call reply w → ReplyNames w call reply
  unfolding Names
  reply_names v p (Calls.BeginReq x at item) (Replies.Begun answer) w f h = request_names v p x at item w answer h f
  reply_names v p Calls.FetchDown (Replies.Down None) w f h = tt
  reply_names v p Calls.FetchDown (Replies.Down (Some r)) w f h = handed_names v h.0 w r.0 r.1 r.2 r.3 r.4 f h.2 (first_down v w r h)
  reply_names v p (Calls.EndReq leg at) (Replies.EndedReq next time) w f h = tt
  reply_names v p (Calls.BeginResp leg at item) (Replies.Responded answer) w f h = tt
  reply_names v p Calls.FetchUp (Replies.Up None) w f h = tt
  reply_names v p Calls.FetchUp (Replies.Up (Some r)) w f h = owed_names v h.0 w r.0 r.1 r.2 r.3 f h.2
  reply_names v p (Calls.EndResp leg at) (Replies.EndedResp time) w f h = tt
  reply_names v p (Calls.Ended x) (Replies.Ended answer) w f h = tt
  reply_names v p call reply w f h = absurd h

  -- the call with which an item came to a side stands in the log
  lane_sent : (v : HopView T) → Follows v → (side : Side) (before : List (Lane T)) (lane : Lane T) (behind : List (Lane T)) → v.lanes ≡ before ++ lane ∷ behind → waits side lane ≡ true → HasItemCall v.number v.log.events side lane.txn lane.state lane.last
  lane_sent v f side before lane behind here waiting =
      let P : Lane T → Type 0 = HasSent v.number v.log.events in
      let parts : All P (before ++ lane ∷ behind) = All-same P (before ++ lane ∷ behind) v.lanes (sym here) f.sent in
      let s = All-head P lane behind (All-right P before (lane ∷ behind) parts) side waiting in
      record { answer = s.is.phase.answer; call = record { event = s.event; known = s.known; is = s.is.phase.call; time = s.is.time }; leads = s.is.leads }

  come_as : (v : HopView T) (side : Side) (x y : TxnId) (s t : LaneState) (i j : ℕ) → y ≡ x → t ≡ s → j ≡ i → HasItemCall v.number v.log.events side x s i → HasItemCall v.number v.log.events side y t j
  come_as v side x y s t i j p q r h = subst (λ (z : TxnId). HasItemCall v.number v.log.events side z t j) (sym p) (subst (λ (z : LaneState). HasItemCall v.number v.log.events side x z j) (sym q) (subst (HasItemCall v.number v.log.events side x s) (sym r) h))

  waits_up : (lane : Lane T) (item : T) → lane.item ≡ Some item → is_down lane.state ≡ false → waits Up lane ≡ true
  waits_up lane item carried up = ap (λ (o : Option T). is_some o && not (is_down lane.state)) carried ∙ ap not up

  up_sent : (v : HopView T) (i : ℕ) (w : HopView T) (leg : Option Slip) (x : TxnId) (time : ℕ) (item : T) → Follows v → TakesUp v i w leg x time item → HasItemCall w.number w.log.events Up x (state_with leg) time
  up_sent v i w None x time item f h =
      let there = lane_sent v f Up (take i v.lanes) h.lane (drop (suc i) v.lanes) h.here (waits_up h.lane item h.carried (ap is_down h.ended)) in
      subst (λ (u : HopView T). HasItemCall u.number u.log.events Up x Free time) (sym h.after) (come_as v Up h.lane.txn x h.lane.state Free h.lane.last time h.txn_is (sym h.ended) h.time_is there)
  up_sent v i w (Some leg) x time item f h =
      let there = lane_sent v f Up (take i v.lanes) h.lane (drop (suc i) v.lanes) h.here (waits_up h.lane item h.carried (ap is_down (sym h.state_is))) in
      subst (λ (u : HopView T). HasItemCall u.number u.log.events Up x Responding time) (sym h.after) (come_as v Up h.lane.txn x h.lane.state Responding h.lane.last time h.txn_is h.state_is h.time_is there)

  down_sent : (v w : HopView T) (r : Slip × LaneState × TxnId × ℕ × T) → Follows v → FetchesDown v w (Some r) → HasItemCall w.number w.log.events Down r.2 r.1 r.3
  down_sent v w r f h =
      let l = h.2.lane in
      let waiting : waits Down l ≡ true = at_place (λ (y : Lane T). waits Down y ≡ true) v.lanes v.lanes l h.0 h.1.waiting refl (read_middle v.lanes h.0 l h.1.place h.2.here) in
      let there = lane_sent v f Down (take h.0 v.lanes) l (drop (suc h.0) v.lanes) h.2.here waiting in
      subst (λ (u : HopView T). HasItemCall u.number u.log.events Down r.2 r.1 r.3) (sym h.2.after) (come_as v Down l.txn r.2 l.state r.1 l.last r.3 h.2.txn_is h.2.state_is h.2.time_is there)

  pub fetched_sent : (v : HopView T) (p : ℕ) (call : HopCall T) (reply : HopReply T) (w : HopView T) → Follows v → Applied v p call reply w → FetchedWasSent w reply
  fetched_sent v p (Calls.BeginReq x at item) (Replies.Begun answer) w f h = tt
  fetched_sent v p Calls.FetchDown (Replies.Down None) w f h = tt
  fetched_sent v p Calls.FetchDown (Replies.Down (Some r)) w f h = down_sent v w r f h
  fetched_sent v p (Calls.EndReq leg at) (Replies.EndedReq next time) w f h = tt
  fetched_sent v p (Calls.BeginResp leg at item) (Replies.Responded answer) w f h = tt
  fetched_sent v p Calls.FetchUp (Replies.Up None) w f h = tt
  fetched_sent v p Calls.FetchUp (Replies.Up (Some r)) w f h = up_sent v h.0 w r.0 r.1 r.2 r.3 f h.2
  fetched_sent v p (Calls.EndResp leg at) (Replies.EndedResp time) w f h = tt
  fetched_sent v p (Calls.Ended x) (Replies.Ended answer) w f h = tt
  fetched_sent v p call reply w f h = absurd h

  -- BEGIN_RESP
  pub brings_own : (h : HopView T) (leg : Slip) (at : ℕ) (item : T) → Follows h → 0 < leg.name % 4 → BringsOwn h leg at item
  brings_own h leg at item f live e has place x brought = by (lane_of h leg) refl
    where
      by : (o : Option (Lane T)) → lane_of h leg ≡ o → x ≡ (e.content.txn, (Up, item))
      by None q = absurd (has_none x (subst (λ (p : Option (Lane T)). Has (of_lane p item) x) q brought))
      by (Some l) q =
          let m = has_map written_by h.log.events e has in
          let n = names_transaction h leg f (found_any (has_leg leg.name) h.lanes l q) live in
          let is : x ≡ (l.txn, (Up, item)) = sym (has_one (l.txn, (Up, item)) x (subst (λ (p : Option (Lane T)). Has (of_lane p item) x) q brought)) in
          let txn : l.txn ≡ e.content.txn = sym (ap txn_of q) ∙ n.one m.0 m.1 (ap (λ (y : Written). y.position) m.2 ∙ place) ∙ ap (λ (y : Written). y.content.txn) m.2 in
          is ∙ ap (λ (t : TxnId). (t, (Up, item))) txn
