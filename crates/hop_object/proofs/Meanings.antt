-- What a call leaves, in the words of an object.
use Rattle.std.proofs.Common.{◌≡◌, ℕ, ◌+◌, ◌-◌, ◌<◌, Bool, true, false, not, ◌&&◌, [], ◌∷◌, ◌++◌, length, map, Option, Some, None, refl, sym, ap, ◌∙◌, arith, length-append}
use Rattle.std.specs.Prelude.{max}
use Rattle.std.proofs.lemmas.List.{map-append}
use Rattle.tlm_types.specs.declared.words.TxnId.{TxnId}
use Rattle.tlm_types.specs.declared.words.Phase.{Phase}
use Rattle.tlm_types.specs.declared.words.Phase.TheVariants as Phases
use Rattle.tlm_types.specs.declared.words.TlmSync.{TlmSync}
use Rattle.tlm_types.specs.declared.words.TlmSync.TheVariants.{Accepted, Updated, Completed}
use Rattle.base_phases.specs.declared.phases.LaneState.{LaneState}
use Rattle.token_book.specs.Account.{Slip}
use Rattle.shared_object.specs.Written.{MayWrite, wrote}
use Rattle.flow_model.specs.Answers.{response_answer}
use Rattle.flow_model.specs.Events.{Event}
use Rattle.flow_model.specs.Marked.{mark_of}
use Rattle.numbered_log.specs.Logged.{LoggedView, with_event, written_by}
use Rattle.numbered_log.proofs.Ordered.{all_past}
use Rattle.hop_object.specs.declared.lane.Lane.{Lane}
use Rattle.hop_object.specs.declared.call.Begun.{Begun}
use Rattle.hop_object.specs.declared.call.Responded.{Responded}
use Rattle.hop_object.specs.declared.call.HopCall.{HopCall}
use Rattle.hop_object.specs.declared.call.HopCall.TheVariants as Calls
use Rattle.hop_object.specs.declared.call.HopReply.{HopReply}
use Rattle.hop_object.specs.declared.call.HopReply.TheVariants as Replies
use Rattle.hop_object.specs.View.{HopView}
use Rattle.hop_object.specs.Lanes.{any_responding, has_leg}
use Rattle.hop_object.specs.Hops.{can_begin, hop_entry, MayCall}
use Rattle.hop_object.specs.Calls.{begun_as, AnswersRequest, AnswersResponse, EndsRequest, EndsResponse, FetchesDown, FetchesUp, TakesUp}
use Rattle.hop_object.specs.Objects.{answer_by, built_of, content_by, is_admitted, knows, lane_of, last_of, mark_by, phase_by, state_of, time_by, txn_by, txn_of, Applied}
use Rattle.hop_object.proofs.LegLemmas.{both}
use Rattle.hop_object.proofs.Places.{found_any}

pub decide : {P : Type 0} (a : Bool) → (a ≡ true → P) → (a ≡ false → P) → P
decide true yes_ no_ = yes_ refl
decide false yes_ no_ = no_ refl

pub not_both : {P : Type 0} (a : Bool) → a ≡ true → a ≡ false → P
not_both a t f = cc

flip : (a : Bool) → not a ≡ true → a ≡ false
flip false e = refl
flip true e = cc

pub both_true : (a b : Bool) → a ≡ true → b ≡ false → a && not b ≡ true
both_true true false e f = refl
both_true a b e f = cc

module _ {T : Type 0} where
  -- the entry of a call
  abbrev pub entry_by : HopView T → ℕ → HopCall T → Event
  entry_by v p call = hop_entry v.number p (txn_by v call) (time_by v call) (phase_by call) (answer_by v call) (mark_by v call)

  -- what a call leaves: how the hop is built, and its entry if it is taken
  pub record Leaves (v : HopView T) (p : ℕ) (call : HopCall T) (w : HopView T) : Type 0 where
    pub built : built_of w ≡ built_of v
    pub taken : is_admitted v call ≡ true → w.log ≡ with_event v.log (entry_by v p call)
    pub other : is_admitted v call ≡ false → w.log ≡ v.log

  -- BEGIN_REQ
  begun_built : (v : HopView T) (e : Event) (item : T) (answer : TlmSync) → built_of (begun_as v e item answer).0 ≡ built_of v
  begun_built v e item Accepted = refl
  begun_built v e item Completed = refl
  begun_built v e item (Updated Phases.BeginReq) = refl
  begun_built v e item (Updated Phases.EndReq) = refl
  begun_built v e item (Updated Phases.BeginResp) = refl
  begun_built v e item (Updated Phases.EndResp) = refl

  begun_log : (v : HopView T) (e : Event) (item : T) (answer : TlmSync) → (begun_as v e item answer).0.log ≡ with_event v.log e
  begun_log v e item Accepted = refl
  begun_log v e item Completed = refl
  begun_log v e item (Updated Phases.BeginReq) = refl
  begun_log v e item (Updated Phases.EndReq) = refl
  begun_log v e item (Updated Phases.BeginResp) = refl
  begun_log v e item (Updated Phases.EndResp) = refl

  begins_leave : (v : HopView T) (p : ℕ) (x : TxnId) (at : ℕ) (item : T) (w : HopView T) (answer : Begun T) → AnswersRequest v p x at item w answer → Leaves v p (Calls.BeginReq x at item) w
  begins_leave v p x at item w answer a =
      let e = entry_by v p (Calls.BeginReq x at item) in
      let e_answer : TlmSync = answer_by v (Calls.BeginReq x at item) in
      record {
        built = decide (can_begin v)
            (λ can. ap (λ (r : HopView T × Begun T). built_of r.0) (a.taken can) ∙ begun_built v e item e_answer)
            (λ cannot. ap built_of (a.busy cannot).0);
        taken = λ can. ap (λ (r : HopView T × Begun T). r.0.log) (a.taken can) ∙ begun_log v e item e_answer;
        other = λ cannot. ap (λ (h : HopView T). h.log) (a.busy cannot).0;
      }

  -- the entry of a call by a leg names the transaction of its lane
  entry_here : (v : HopView T) (p at : ℕ) (leg : Slip) (lane : Lane T) (time : ℕ) (phase : Phase) (answer : TlmSync) (when : ℕ → ℕ) (mark : LaneState → ℕ) → lane_of v leg ≡ Some lane → time ≡ when lane.last
      → with_event v.log (hop_entry v.number p lane.txn time phase answer (mark lane.state)) ≡ with_event v.log (hop_entry v.number p (txn_of (lane_of v leg)) (when (last_of (lane_of v leg))) phase answer (mark (state_of (lane_of v leg))))
  entry_here v p at leg lane time phase answer when mark leg_is time_is =
      ap (λ (t : ℕ). with_event v.log (hop_entry v.number p lane.txn t phase answer (mark lane.state))) time_is
      ∙ ap (λ (o : Option (Lane T)). with_event v.log (hop_entry v.number p (txn_of o) (when (last_of o)) phase answer (mark (state_of o)))) (sym leg_is)

  known : (v : HopView T) (leg : Slip) (lane : Lane T) → lane_of v leg ≡ Some lane → knows v leg ≡ true
  known v leg lane is = found_any (has_leg leg.name) v.lanes lane is

  -- END_REQ
  end_req_leaves : (v : HopView T) (p : ℕ) (leg : Slip) (at : ℕ) (w : HopView T) (next : Slip) (time : ℕ) → EndsRequest v leg p at w next time → Leaves v p (Calls.EndReq leg at) w
  end_req_leaves v p leg at w next time r = record {
    built = ap built_of r.after;
    taken = λ _. ap (λ (h : HopView T). h.log) r.after ∙ entry_here v p at leg r.lane time Phases.EndReq Accepted (λ t. max at t) (λ s. 0) r.leg_is r.time_is;
    other = λ never. not_both (knows v leg) (known v leg r.lane r.leg_is) never;
  }

  -- END_RESP
  end_resp_leaves : (v : HopView T) (p : ℕ) (leg : Slip) (at : ℕ) (w : HopView T) (time : ℕ) → EndsResponse v leg p at w time → Leaves v p (Calls.EndResp leg at) w
  end_resp_leaves v p leg at w time r = record {
    built = ap built_of r.after;
    taken = λ _. ap (λ (h : HopView T). h.log) r.after ∙ entry_here v p at leg r.lane time Phases.EndResp Completed (λ t. max at t) (λ s. 0) r.leg_is r.time_is;
    other = λ never. not_both (knows v leg) (known v leg r.lane r.leg_is) never;
  }

  -- BEGIN_RESP
  responds_leave : (v : HopView T) (p : ℕ) (leg : Slip) (at : ℕ) (item : T) (w : HopView T) (answer : Responded T) → AnswersResponse v leg p at item w answer → Leaves v p (Calls.BeginResp leg at item) w
  responds_leave v p leg at item w answer a = record {
    built = decide (any_responding v.lanes) (λ open_. ap built_of (a.busy open_).same) (λ free. ap built_of (a.sent free).after);
    taken = λ is. let s = a.sent (flip (any_responding v.lanes) (both (knows v leg) (not (any_responding v.lanes)) is).1) in
        ap (λ (h : HopView T). h.log) s.after ∙ entry_here v p at leg s.lane s.time Phases.BeginResp (response_answer v.traits.resp) (λ t. max (max at t) v.response_end) mark_of s.leg_is s.time_is;
    other = λ never. decide (any_responding v.lanes)
        (λ open_. ap (λ (h : HopView T). h.log) (a.busy open_).same)
        (λ free. let s = a.sent free in not_both (is_admitted v (Calls.BeginResp leg at item)) (both_true (knows v leg) (any_responding v.lanes) (known v leg s.lane s.leg_is) free) never);
  }

  -- a call that adds no entry
  quiet : (v : HopView T) (p : ℕ) (call : HopCall T) (w : HopView T) → is_admitted v call ≡ false → built_of w ≡ built_of v → w.log ≡ v.log → Leaves v p call w
  quiet v p call w never built same = record { built = built; taken = λ is. not_both (is_admitted v call) is never; other = λ _. same }

  down_leaves : (v : HopView T) (p : ℕ) (w : HopView T) (r : _) → FetchesDown v w r → Leaves v p Calls.FetchDown w
  down_leaves v p w None h = quiet v p Calls.FetchDown w refl (ap built_of h.0) (ap (λ (x : HopView T). x.log) h.0)
  down_leaves v p w (Some r) h = quiet v p Calls.FetchDown w refl (ap built_of h.2.after) (ap (λ (x : HopView T). x.log) h.2.after)

  taken_up : (v : HopView T) (p i : ℕ) (w : HopView T) (leg : Option Slip) (x : TxnId) (t : ℕ) (item : T) → TakesUp v i w leg x t item → Leaves v p Calls.FetchUp w
  taken_up v p i w None x t item h = quiet v p Calls.FetchUp w refl (ap built_of h.after) (ap (λ (y : HopView T). y.log) h.after)
  taken_up v p i w (Some leg) x t item h = quiet v p Calls.FetchUp w refl (ap built_of h.after) (ap (λ (y : HopView T). y.log) h.after)

  up_leaves : (v : HopView T) (p : ℕ) (w : HopView T) (r : _) → FetchesUp v w r → Leaves v p Calls.FetchUp w
  up_leaves v p w None h = quiet v p Calls.FetchUp w refl (ap built_of h.0) (ap (λ (x : HopView T). x.log) h.0)
  up_leaves v p w (Some r) h = taken_up v p h.0 w r.0 r.1 r.2 r.3 h.2

  pub leaves : (v : HopView T) (p : ℕ) (call : HopCall T) (reply : HopReply T) (w : HopView T) → Applied v p call reply w → Leaves v p call w
  leaves v p (Calls.BeginReq x at item) (Replies.Begun answer) w h = begins_leave v p x at item w answer h
  leaves v p Calls.FetchDown (Replies.Down r) w h = down_leaves v p w r h
  leaves v p (Calls.EndReq leg at) (Replies.EndedReq next time) w h = end_req_leaves v p leg at w next time h
  leaves v p (Calls.BeginResp leg at item) (Replies.Responded answer) w h = responds_leave v p leg at item w answer h
  leaves v p Calls.FetchUp (Replies.Up r) w h = up_leaves v p w r h
  leaves v p (Calls.EndResp leg at) (Replies.EndedResp time) w h = end_resp_leaves v p leg at w time h
  leaves v p (Calls.Ended x) (Replies.Ended answer) w h = quiet v p (Calls.Ended x) w refl (ap built_of h.0) (ap (λ (y : HopView T). y.log) h.0)
  leaves v p call reply w h = absurd h

  -- the entries, as written, after one more
  pub one_written : (v w : HopView T) (p : ℕ) (call : HopCall T) → w.log ≡ with_event v.log (entry_by v p call) → map written_by w.log.events ≡ map written_by v.log.events ++ wrote p (content_by v call) ∷ []
  one_written v w p call is =
      let e = entry_by v p call in
      ap (λ (l : LoggedView). map written_by l.events) is ∙ map-append written_by v.log.events (e ∷ [])

  pub one_less : (v w : HopView T) (p : ℕ) (call : HopCall T) → w.log ≡ with_event v.log (entry_by v p call) → 0 < v.log.room - length v.log.events → w.log.room - length w.log.events + 1 ≡ v.log.room - length v.log.events
  one_less v w p call is some =
      let e = entry_by v p call in
      let room : w.log.room ≡ v.log.room = ap (λ (l : LoggedView). l.room) is in
      let count : length w.log.events ≡ length (v.log.events ++ e ∷ []) = ap (λ (l : LoggedView). length l.events) is in
      let more = length-append v.log.events (e ∷ []) in
      omega arith

  -- what may be written may be called
  pub may_call : (v : HopView T) (p : ℕ) → MayWrite (map written_by v.log.events) (v.log.room - length v.log.events) 0 p 0 → MayCall v p
  may_call v p m = record { below = m.below; past = all_past v.log.events p m.past; room = let r = m.room in omega arith }

  -- after none
  pub none_written : (v w : HopView T) → w.log ≡ v.log → map written_by w.log.events ≡ map written_by v.log.events
  none_written v w is = ap (λ (l : LoggedView). map written_by l.events) is

  pub none_less : (v w : HopView T) → w.log ≡ v.log → w.log.room - length w.log.events ≡ v.log.room - length v.log.events
  none_less v w is = ap (λ (l : LoggedView). l.room - length l.events) is
