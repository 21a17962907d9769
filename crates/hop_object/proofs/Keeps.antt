-- Each call keeps what holds of a hop.
use Rattle.std.proofs.Common.{◌≡◌, ◌⊎◌, ℕ, ◌+◌, ◌<◌, ◌≤◌, Bool, true, false, cond, not, ◌&&◌, nat_lt, List, [], ◌∷◌, ◌++◌, length, Option, Some, None, refl, sym, ap, ◌∙◌, subst, inl, ⊎_elim, arith, length-append}
use Rattle.std.specs.Prelude.{is_none, is_some, ◌==◌}
use Rattle.std.specs.List.{All, AllPairs, count_by}
use Rattle.std.proofs.lemmas.List.Elements.{All-push, All-append, All-head, All-tail, All-nil, All-cons, All-same, All-weaker}
use Rattle.std.proofs.lemmas.List.{append-nil}
use Rattle.std.proofs.lemmas.List.Quantifiers.{all_pairs_push}
use Rattle.std.proofs.lemmas.List.Sums.{sum_by-append, sum_by-cons, count_by-le-length}
use Rattle.std.proofs.lemmas.Bool.{ltb-true}
use Rattle.tlm_types.specs.declared.words.TxnId.{TxnId}
use Rattle.tlm_types.specs.declared.words.ObjectNo.TheVariants.{Hop}
use Rattle.tlm_types.specs.declared.words.Phase.{Phase}
use Rattle.tlm_types.specs.declared.words.Phase.TheVariants.{BeginReq, EndReq, BeginResp, EndResp}
use Rattle.tlm_types.specs.declared.words.RespMode.{RespMode}
use Rattle.tlm_types.specs.declared.words.RespMode.TheVariants as Resp
use Rattle.tlm_types.specs.declared.words.TlmSync.{TlmSync}
use Rattle.tlm_types.specs.declared.words.TlmSync.TheVariants.{Accepted, Updated, Completed}
use Rattle.base_phases.specs.declared.phases.LaneState.{LaneState}
use Rattle.base_phases.specs.declared.phases.LaneState.TheVariants.{Free, Requested, Waiting, Responding}
use Rattle.base_phases.specs.Phases.{next_state}
use Rattle.token_book.specs.Account.{Account, Slip, out_of, retired}
use Rattle.flow_model.specs.Answers.{is_requested, is_responding, request_answer, response_answer}
use Rattle.flow_model.specs.Board.{Open, Rules, Moves, InTurn, fresh_lane, lane_after, start}
use Rattle.flow_model.specs.Events.{Event}
use Rattle.flow_model.specs.Marked.{Marks, ReachesMarked, mark_of}
use Rattle.numbered_log.specs.Logged.{IsBefore}
use Rattle.hop_object.specs.declared.call.HopTraits.{HopTraits}
use Rattle.hop_object.specs.declared.lane.Lane.{Lane}
use Rattle.hop_object.specs.declared.lane.Side.TheVariants.{Down, Up}
use Rattle.hop_object.specs.States.{is_down, state_by}
use Rattle.hop_object.specs.View.{HopView}
use Rattle.hop_object.specs.Lanes.{leg_name, has_leg, legs_out, any_requested, any_responding, open_by, opens, step_lane, waits, HasPosition}
use Rattle.hop_object.specs.Hops.{rules_of, board_of, HasSent, Follows, Kept, can_begin, begin_answer, begun_with, hop_entry, new_lane, entered, passed, called, with_lanes, leg_changed, leg_out, IsLegOf}
use Rattle.hop_object.proofs.Boards.{opens-append, any-opens, length-opens}
use Rattle.hop_object.proofs.Marked.{marked_push}
use Rattle.hop_object.proofs.LegLemmas.{both, leg_state, legs_changed, legs_ended, out_issued}
use Rattle.hop_object.proofs.Places.{All-left, All-right}
use Rattle.hop_object.proofs.TimeLemmas.{in_front, behind_all}

flip : (a : Bool) → not a ≡ true → a ≡ false
flip false e = refl
flip true e = cc

clash : (a : Bool) → a ≡ true → a ≡ false → ⊥
clash false e f = cc
clash true e f = cc

-- BEGIN_RESP is allowed on a lane whose request is open, and on one that waits
from_requested : (m : RespMode) → next_state Requested BeginResp (response_answer m) ≡ Some (state_by (response_answer m))
from_requested Resp.Accept = refl
from_requested Resp.EndResp = refl
from_requested Resp.Complete = refl

from_waiting : (m : RespMode) → next_state Waiting BeginResp (response_answer m) ≡ Some (state_by (response_answer m))
from_waiting Resp.Accept = refl
from_waiting Resp.EndResp = refl
from_waiting Resp.Complete = refl

-- after BEGIN_RESP an item goes up
not_down : (a : TlmSync) → is_down (state_by a) ≡ false
not_down Accepted = refl
not_down (Updated phase) = refl
not_down Completed = refl

module _ {T : Type 0} where
  -- a leg that was out, and its lane
  pub record Redeemed (v : HopView T) (leg : Slip) (before : List (Lane T)) (lane : Lane T) (behind : List (Lane T)) : Type 0 where
    pub here : v.lanes ≡ before ++ lane ∷ behind
    pub has : has_leg leg.name lane ≡ true
    pub one : leg.amount ≡ 1
    pub was : 1 ≤ out_of leg.name v.book.out

  pub may_begin : (v : HopView T) → can_begin v ≡ true → (any_requested v.lanes ≡ false) × (length v.lanes < v.traits.lanes)
  may_begin v can = let h = both (not (any_requested v.lanes)) (nat_lt (length v.lanes) v.traits.lanes) can in (flip (any_requested v.lanes) h.0, ltb-true (length v.lanes) v.traits.lanes h.1)

  -- no more legs are out than there are lanes
  pub few_out : (v : HopView T) → Kept v → (n : ℕ) → out_of n v.book.out ≤ 16
  few_out v k n = let q = k.legs n in let f = k.few in let s = k.small in let c = count_by-le-length (has_leg n) v.lanes in omega arith

  -- what was sent stands in a longer log
  sent_longer : (n : ℕ) (es : List Event) (e : Event) (lanes : List (Lane T)) → All (HasSent n es) lanes → All (HasSent n (es ++ e ∷ [])) lanes
  sent_longer n es e lanes h = All-weaker (HasSent n es) (HasSent n (es ++ e ∷ [])) (λ l was side up. let s = was side up in record { event = s.event; known = in_front es (e ∷ []) s.event s.known; is = s.is }) lanes h

  -- a lane that carries nothing
  nothing_waits : (n : ℕ) (es : List Event) (l : Lane T) → l.item ≡ None → HasSent n es l
  nothing_waits n es l none Down up = absurd (clash (waits Down l) up (ap (λ (i : Option T). is_some i && is_down l.state) none))
  nothing_waits n es l none Up up = absurd (clash (waits Up l) up (ap (λ (i : Option T). is_some i && not (is_down l.state)) none))

  bare : (n : ℕ) (es : List Event) (l : Lane T) → l.item ≡ None → All (HasSent n es) (l ∷ [])
  bare n es l none = All-cons (HasSent n es) l [] (nothing_waits n es l none) (All-nil (HasSent n es))

  -- a new lane, whose item came with its BEGIN_REQ
  came_down : (v : HopView T) (p : ℕ) (x : TxnId) (t : ℕ) (answer : TlmSync) (state : LaneState) (item : Option T) → next_state Free BeginReq answer ≡ Some state → waits Up (new_lane (hop_entry v.number p x t BeginReq answer 0) state item) ≡ false
      → HasSent v.number (v.log.events ++ hop_entry v.number p x t BeginReq answer 0 ∷ []) (new_lane (hop_entry v.number p x t BeginReq answer 0) state item)
  came_down v p x t answer state item next idle Down up =
      let e = hop_entry v.number p x t BeginReq answer 0 in
      record { event = e; known = behind_all v.log.events (e ∷ []) e (inl refl); is = record { phase = record { answer = answer; call = record { object = refl; txn = refl; what = refl } }; leads = next; place = refl; time = refl } }
  came_down v p x t answer state item next idle Up up = absurd (clash (waits Up (new_lane (hop_entry v.number p x t BeginReq answer 0) state item)) up idle)

  -- a lane whose item came with its BEGIN_RESP
  came_up : (v : HopView T) (p : ℕ) (lane : Lane T) (t : ℕ) (answer : TlmSync) (mark : ℕ) (item : T) → is_down (state_by answer) ≡ false
      → HasSent v.number (v.log.events ++ hop_entry v.number p lane.txn t BeginResp answer mark ∷ []) (step_lane lane (state_by answer) t p (Some item))
  came_up v p lane t answer mark item over Down up = absurd (clash (is_down (state_by answer)) up over)
  came_up v p lane t answer mark item over Up up =
      let e = hop_entry v.number p lane.txn t BeginResp answer mark in
      record { event = e; known = behind_all v.log.events (e ∷ []) e (inl refl); is = record { phase = record { answer = answer; call = record { object = refl; txn = refl; what = refl } }; leads = refl; place = refl; time = refl } }

  -- what holds of each lane, with these in place of one
  all_round : (P : Lane T → Type 0) (lanes before : List (Lane T)) (lane : Lane T) (behind mid : List (Lane T)) → All P lanes → lanes ≡ before ++ lane ∷ behind → All P mid → All P (before ++ (mid ++ behind))
  all_round P lanes before lane behind mid all here new =
      let parts : All P (before ++ lane ∷ behind) = All-same P (before ++ lane ∷ behind) lanes (sym here) all in
      All-append P before (mid ++ behind) (All-left P before (lane ∷ behind) parts) (All-append P mid behind new (All-tail P lane behind (All-right P before (lane ∷ behind) parts)))

  only : (l : Lane T) → HasPosition l → All HasPosition (l ∷ [])
  only l h = All-cons HasPosition l [] h (All-nil HasPosition)

  -- one more entry, by a step of the model
  pushed : (v w : HopView T) (e : Event) → Follows v → All (λ (y : Event). y.position < e.position) v.log.events → e.object ≡ Hop v.number → w.number ≡ v.number → w.traits ≡ v.traits → w.log.events ≡ v.log.events ++ e ∷ [] → All (HasSent v.number (v.log.events ++ e ∷ [])) w.lanes → Marks (rules_of v) (board_of v) e (board_of w) → Follows w
  pushed v w e f past here number made is sent step =
      let rules : rules_of w ≡ rules_of v = ap (λ (m : HopTraits). record { limit = m.lanes; req = m.req; resp = m.resp }) made in
      record {
        reached = subst (λ (r : Rules). ReachesMarked r start w.log.events (board_of w)) (sym rules) (subst (λ (es : List Event). ReachesMarked (rules_of v) start es (board_of w)) (sym is) (marked_push (rules_of v) v.log.events start (board_of v) e (board_of w) f.reached step));
        ordered = subst (λ (es : List Event). AllPairs IsBefore es) (sym is) (all_pairs_push IsBefore v.log.events e f.ordered (λ k d h. past k d h));
        own = subst (λ (n : ℕ). All (λ (y : Event). y.object ≡ Hop n) w.log.events) (sym number) (subst (λ (es : List Event). All (λ (y : Event). y.object ≡ Hop v.number) es) (sym is) (All-push (λ (y : Event). y.object ≡ Hop v.number) v.log.events e f.own here));
        sent = subst (λ (n : ℕ). All (HasSent n w.log.events) w.lanes) (sym number) (subst (λ (es : List Event). All (HasSent v.number es) w.lanes) (sym is) sent);
      }

  -- a BEGIN_REQ that adds these lanes
  kept_begun : (v : HopView T) (p : ℕ) (x : TxnId) (t : ℕ) (answer : TlmSync) (state : LaneState) (mid : List (Lane T)) (book : Account)
      → Kept v → All (λ (e : Event). e.position < p) v.log.events → can_begin v ≡ true → answer ≡ begin_answer v → next_state Free BeginReq answer ≡ Some state → v.request_end ≤ t
      → length mid ≤ 1 → All HasPosition mid → All (HasSent v.number (v.log.events ++ hop_entry v.number p x t BeginReq answer 0 ∷ [])) mid → opens mid ≡ lane_after (fresh_lane (hop_entry v.number p x t BeginReq answer 0).entry) state t
      → ((n : ℕ) → out_of n book.out ≡ out_of n v.book.out + count_by (has_leg n) mid)
      → Kept (begun_with v (hop_entry v.number p x t BeginReq answer 0) answer (v.lanes ++ mid) book)
  kept_begun v p x t answer state mid book k past can is next late short placed sends sees out =
      let e = hop_entry v.number p x t BeginReq answer 0 in
      let w = begun_with v e answer (v.lanes ++ mid) book in
      let m = may_begin v can in
      record {
        few = let l = length-append v.lanes mid in let f = m.1 in omega arith;
        small = k.small;
        placed = All-append HasPosition v.lanes mid k.placed placed;
        legs = λ n. let o = out n in let q = k.legs n in let s = sum_by-append (λ (l : Lane T). cond {A = ℕ} (has_leg n l) 1 0) v.lanes mid in omega arith;
        follows = pushed v w e k.follows past refl refl refl refl (All-append (HasSent v.number (v.log.events ++ e ∷ [])) v.lanes mid (sent_longer v.number v.log.events e v.lanes k.follows.sent) sends) (record {
          marked = refl;
          steps = record {
            alone = any-opens is_requested refl v.lanes ∙ m.0;
            room = let q = length-opens v.lanes in let h = m.1 in omega arith;
            answered = is ∙ ap (request_answer v.traits.req) (sym (any-opens is_responding refl v.lanes));
            late = late;
            state = state;
            allowed = next;
            after = ap (λ (os : List Open). record { lanes = os; request_end = w.request_end; response_end = w.response_end }) (opens-append v.lanes mid ∙ ap (λ (os : List Open). opens v.lanes ++ os) sees);
          };
        });
      }

  one_open : (e : Event) (state : LaneState) (item : Option T) → opens (new_lane e state item ∷ []) ≡ lane_after (fresh_lane e.entry) state e.time
  one_open e Free item = refl
  one_open e Requested item = refl
  one_open e Waiting item = refl
  one_open e Responding item = refl

  -- a BEGIN_REQ that takes a lane
  pub kept_entered : (v : HopView T) (p : ℕ) (x : TxnId) (t : ℕ) (answer : TlmSync) (state : LaneState) (item : Option T) (book : Account)
      → Kept v → All (λ (e : Event). e.position < p) v.log.events → can_begin v ≡ true → answer ≡ begin_answer v → next_state Free BeginReq answer ≡ Some state → v.request_end ≤ t → p < 1000000 → waits Up (new_lane (hop_entry v.number p x t BeginReq answer 0) state item) ≡ false
      → ((n : ℕ) → out_of n book.out ≡ out_of n v.book.out + count_by (has_leg n) (new_lane (hop_entry v.number p x t BeginReq answer 0) state item ∷ []))
      → Kept (entered v (hop_entry v.number p x t BeginReq answer 0) answer state item book)
  kept_entered v p x t answer state item book k past can is next late below idle out =
      let e = hop_entry v.number p x t BeginReq answer 0 in
      let mid = new_lane e state item in
      kept_begun v p x t answer state (mid ∷ []) book k past can is next late (omega arith) (only mid below) (All-cons (HasSent v.number (v.log.events ++ e ∷ [])) mid [] (came_down v p x t answer state item next idle) (All-nil (HasSent v.number (v.log.events ++ e ∷ [])))) (one_open e state item) out

  -- a BEGIN_REQ that ends the transaction
  pub kept_passed : (v : HopView T) (p : ℕ) (x : TxnId) (t : ℕ) → Kept v → All (λ (e : Event). e.position < p) v.log.events → can_begin v ≡ true → Completed ≡ begin_answer v → v.request_end ≤ t
      → Kept (passed v (hop_entry v.number p x t BeginReq Completed 0) Completed)
  kept_passed v p x t k past can is late =
      let e = hop_entry v.number p x t BeginReq Completed 0 in
      subst (λ (ls : List (Lane T)). Kept (begun_with v e Completed ls v.book)) (append-nil v.lanes)
      (kept_begun v p x t Completed Free [] v.book k past can is refl late (omega arith) (All-nil HasPosition) (All-nil (HasSent v.number (v.log.events ++ e ∷ []))) refl (λ n. omega arith))

  -- the lane at a place, and those round it
  placed_lane : (v : HopView T) (before : List (Lane T)) (lane : Lane T) (behind : List (Lane T)) → Kept v → v.lanes ≡ before ++ lane ∷ behind → HasPosition lane
  placed_lane v before lane behind k here = All-head HasPosition lane behind (All-right HasPosition before (lane ∷ behind) (All-same HasPosition (before ++ lane ∷ behind) v.lanes (sym here) k.placed))

  placed_round : (v : HopView T) (before : List (Lane T)) (lane : Lane T) (behind mid : List (Lane T)) → Kept v → v.lanes ≡ before ++ lane ∷ behind → All HasPosition mid → All HasPosition (before ++ (mid ++ behind))
  placed_round v before lane behind mid k here placed = all_round HasPosition v.lanes before lane behind mid k.placed here placed

  few_round : (v : HopView T) (before : List (Lane T)) (lane : Lane T) (behind mid : List (Lane T)) → Kept v → v.lanes ≡ before ++ lane ∷ behind → length mid ≤ 1 → length (before ++ (mid ++ behind)) ≤ v.traits.lanes
  few_round v before lane behind mid k here short =
      let old = ap length here ∙ length-append before (lane ∷ behind) in
      let a = length-append before (mid ++ behind) in
      let b = length-append mid behind in
      let f = k.few in
      omega arith

  legs_round : (v : HopView T) (before : List (Lane T)) (lane : Lane T) (behind mid : List (Lane T)) (book : Account) (n : ℕ) → Kept v → v.lanes ≡ before ++ lane ∷ behind
      → out_of n book.out + cond {A = ℕ} (has_leg n lane) 1 0 ≡ out_of n v.book.out + count_by (has_leg n) mid → out_of n book.out ≡ legs_out n (before ++ (mid ++ behind))
  legs_round v before lane behind mid book n k here out =
      let f : Lane T → ℕ = λ l. cond {A = ℕ} (has_leg n l) 1 0 in
      let q = k.legs n in
      let s : legs_out n v.lanes ≡ legs_out n (before ++ lane ∷ behind) = ap (legs_out n) here in
      let s1 = sum_by-append f before (lane ∷ behind) in
      let s2 = sum_by-cons f lane behind in
      let s3 = sum_by-append f before (mid ++ behind) in
      let s4 = sum_by-append f mid behind in
      omega arith

  -- what the model sees of a lane
  abbrev seen : Lane T → Open
  seen l = record { txn = l.txn; position = l.position; state = l.state; last = l.last }

  -- a later call, which puts these lanes in place of its own
  kept_called : (v : HopView T) (before : List (Lane T)) (lane : Lane T) (behind mid : List (Lane T)) (p t : ℕ) (next : LaneState) (phase : Phase) (answer : TlmSync) (mark : ℕ) (book : Account)
      → Kept v → All (λ (e : Event). e.position < p) v.log.events → v.lanes ≡ before ++ lane ∷ behind → open_by lane lane.state ≡ seen lane ∷ [] → next_state lane.state phase answer ≡ Some next
      → opens mid ≡ lane_after (seen lane) next t → length mid ≤ 1 → All HasPosition mid → All (HasSent v.number (v.log.events ++ hop_entry v.number p lane.txn t phase answer mark ∷ [])) mid → lane.last ≤ t
      → InTurn (rules_of v) (board_of v) (hop_entry v.number p lane.txn t phase answer mark).entry phase answer
      → ((n : ℕ) → out_of n book.out + cond {A = ℕ} (has_leg n lane) 1 0 ≡ out_of n v.book.out + count_by (has_leg n) mid)
      → ((m : Moves (rules_of v) (board_of v) (hop_entry v.number p lane.txn t phase answer mark).entry phase answer (board_of (called v (before ++ (mid ++ behind)) (hop_entry v.number p lane.txn t phase answer mark) lane.state phase answer book))) → m.lane.state ≡ lane.state → Marks (rules_of v) (board_of v) (hop_entry v.number p lane.txn t phase answer mark) (board_of (called v (before ++ (mid ++ behind)) (hop_entry v.number p lane.txn t phase answer mark) lane.state phase answer book)))
      → Kept (called v (before ++ (mid ++ behind)) (hop_entry v.number p lane.txn t phase answer mark) lane.state phase answer book)
  kept_called v before lane behind mid p t next phase answer mark book k past here one allowed left short placed sends late turn out into =
      let e = hop_entry v.number p lane.txn t phase answer mark in
      let w = called v (before ++ (mid ++ behind)) e lane.state phase answer book in
      record {
        few = few_round v before lane behind mid k here short;
        small = k.small;
        placed = placed_round v before lane behind mid k here placed;
        legs = λ n. legs_round v before lane behind mid book n k here (out n);
        follows = pushed v w e k.follows past refl refl refl refl (all_round (HasSent v.number (v.log.events ++ e ∷ [])) v.lanes before lane behind mid (sent_longer v.number v.log.events e v.lanes k.follows.sent) here sends) (into (record {
          before = opens before;
          lane = seen lane;
          behind = opens behind;
          here = ap opens here ∙ opens-append before (lane ∷ behind) ∙ ap (λ (os : List Open). opens before ++ (os ++ opens behind)) one;
          txn = refl;
          late = late;
          turn = turn;
          state = next;
          allowed = allowed;
          after = ap (λ (os : List Open). record { lanes = os; request_end = w.request_end; response_end = w.response_end }) (opens-append before (mid ++ behind) ∙ ap (λ (os : List Open). opens before ++ os) (opens-append mid behind ∙ ap (λ (os : List Open). os ++ opens behind) left));
        }) refl);
      }

  -- a lane in a state that isn't Free is one that the model sees
  open_live : (l : Lane T) (s : LaneState) → l.state ≡ s → open_by l s ≡ record { txn = l.txn; position = l.position; state = s; last = l.last } ∷ [] → open_by l l.state ≡ seen l ∷ []
  open_live l s is e = subst (λ (t : LaneState). open_by l t ≡ record { txn = l.txn; position = l.position; state = t; last = l.last } ∷ []) (sym is) e

  one_moved : (l : Lane T) (s : LaneState) (t p : ℕ) (item : Option T) → opens (step_lane l s t p item ∷ []) ≡ lane_after (seen l) s t
  one_moved l Free t p item = refl
  one_moved l Requested t p item = refl
  one_moved l Waiting t p item = refl
  one_moved l Responding t p item = refl

  pub kept_end_req : (v : HopView T) (leg : Slip) (before : List (Lane T)) (lane : Lane T) (behind : List (Lane T)) (p t : ℕ)
      → Kept v → All (λ (e : Event). e.position < p) v.log.events → Redeemed v leg before lane behind → IsLegOf v leg Requested → lane.last ≤ t
      → Kept (called v (before ++ step_lane lane Waiting t p None ∷ behind) (hop_entry v.number p lane.txn t EndReq Accepted 0) Requested EndReq Accepted (leg_changed v.book leg lane Waiting))
  kept_end_req v leg before lane behind p t k past r own late =
      let is : lane.state ≡ Requested = leg_state leg.name lane Requested r.has own.state_is in
      let b = leg_changed v.book leg lane Waiting in
      let mid = step_lane lane Waiting t p None in
      let placed : HasPosition mid = placed_lane v before lane behind k r.here in
      subst (λ (s : LaneState). Kept (called v (before ++ mid ∷ behind) (hop_entry v.number p lane.txn t EndReq Accepted 0) s EndReq Accepted b)) is
      (kept_called v before lane behind (mid ∷ []) p t Waiting EndReq Accepted 0 b k past r.here (open_live lane Requested is refl) (ap (λ (s : LaneState). next_state s EndReq Accepted) is) (one_moved lane Waiting t p None) (omega arith) (only mid placed) (bare v.number (v.log.events ++ hop_entry v.number p lane.txn t EndReq Accepted 0 ∷ []) mid refl) late tt (legs_changed v.book leg lane Waiting t p r.one r.was r.has) (λ m same. record { steps = m; marked = refl }))

  kept_respond_at : (v : HopView T) (leg : Slip) (before : List (Lane T)) (lane : Lane T) (behind : List (Lane T)) (p t : ℕ) (item : T)
      → Kept v → All (λ (e : Event). e.position < p) v.log.events → Redeemed v leg before lane behind → lane.last ≤ t → v.response_end ≤ t → any_responding v.lanes ≡ false
      → (s : LaneState) → lane.state ≡ s → open_by lane s ≡ record { txn = lane.txn; position = lane.position; state = s; last = lane.last } ∷ []
      → ((m : RespMode) → next_state s BeginResp (response_answer m) ≡ Some (state_by (response_answer m)))
      → Kept (called v (before ++ step_lane lane (state_by (response_answer v.traits.resp)) t p (Some item) ∷ behind) (hop_entry v.number p lane.txn t BeginResp (response_answer v.traits.resp) (mark_of lane.state)) lane.state BeginResp (response_answer v.traits.resp) (retired v.book leg))
  kept_respond_at v leg before lane behind p t item k past r late later free s is live next =
      let answer = response_answer v.traits.resp in
      let mid = step_lane lane (state_by answer) t p (Some item) in
      let placed : HasPosition mid = placed_lane v before lane behind k r.here in
      let e = hop_entry v.number p lane.txn t BeginResp answer (mark_of lane.state) in
      let P : Lane T → Type 0 = HasSent v.number (v.log.events ++ e ∷ []) in
      let sends : All P (mid ∷ []) = All-cons P mid [] (came_up v p lane t answer (mark_of lane.state) item (not_down answer)) (All-nil P) in
      kept_called v before lane behind (mid ∷ []) p t (state_by answer) BeginResp answer (mark_of lane.state) (retired v.book leg) k past r.here (open_live lane s is live) (ap (λ (q : LaneState). next_state q BeginResp answer) is ∙ next v.traits.resp) (one_moved lane (state_by answer) t p (Some item)) (omega arith) (only mid placed) sends late (any-opens is_responding refl v.lanes ∙ free, refl, later) (λ n. omega (arith, legs_ended v.book leg lane r.one r.was r.has n)) (λ m same. record { steps = m; marked = ap mark_of (sym same) })

  pub kept_respond : (v : HopView T) (leg : Slip) (before : List (Lane T)) (lane : Lane T) (behind : List (Lane T)) (p t : ℕ) (item : T)
      → Kept v → All (λ (e : Event). e.position < p) v.log.events → Redeemed v leg before lane behind → lane.last ≤ t → v.response_end ≤ t → any_responding v.lanes ≡ false
      → IsLegOf v leg Requested ⊎ IsLegOf v leg Waiting
      → Kept (called v (before ++ step_lane lane (state_by (response_answer v.traits.resp)) t p (Some item) ∷ behind) (hop_entry v.number p lane.txn t BeginResp (response_answer v.traits.resp) (mark_of lane.state)) lane.state BeginResp (response_answer v.traits.resp) (retired v.book leg))
  kept_respond v leg before lane behind p t item k past r late later free which =
      ⊎_elim
      (λ (own : IsLegOf v leg Requested). kept_respond_at v leg before lane behind p t item k past r late later free Requested (leg_state leg.name lane Requested r.has own.state_is) refl from_requested)
      (λ (own : IsLegOf v leg Waiting). kept_respond_at v leg before lane behind p t item k past r late later free Waiting (leg_state leg.name lane Waiting r.has own.state_is) refl from_waiting)
      which

  pub kept_end_resp : (v : HopView T) (leg : Slip) (before : List (Lane T)) (lane : Lane T) (behind : List (Lane T)) (p t : ℕ)
      → Kept v → All (λ (e : Event). e.position < p) v.log.events → Redeemed v leg before lane behind → IsLegOf v leg Responding → lane.last ≤ t
      → Kept (called v (before ++ behind) (hop_entry v.number p lane.txn t EndResp Completed 0) Responding EndResp Completed (retired v.book leg))
  kept_end_resp v leg before lane behind p t k past r own late =
      let is : lane.state ≡ Responding = leg_state leg.name lane Responding r.has own.state_is in
      let b = retired v.book leg in
      subst (λ (s : LaneState). Kept (called v (before ++ behind) (hop_entry v.number p lane.txn t EndResp Completed 0) s EndResp Completed b)) is
      (kept_called v before lane behind [] p t Free EndResp Completed 0 b k past r.here (open_live lane Responding is refl) (ap (λ (s : LaneState). next_state s EndResp Completed) is) refl (omega arith) (All-nil HasPosition) (All-nil (HasSent v.number (v.log.events ++ hop_entry v.number p lane.txn t EndResp Completed 0 ∷ []))) late tt (λ n. omega (arith, legs_ended v.book leg lane r.one r.was r.has n)) (λ m same. record { steps = m; marked = refl }))

  -- a fetch, which puts these lanes in place of one that the model sees as they are
  kept_fetched : (v : HopView T) (before : List (Lane T)) (lane : Lane T) (behind mid : List (Lane T)) (book : Account)
      → Kept v → v.lanes ≡ before ++ lane ∷ behind → opens mid ≡ open_by lane lane.state → length mid ≤ 1 → All HasPosition mid → All (HasSent v.number v.log.events) mid
      → ((n : ℕ) → out_of n book.out + cond {A = ℕ} (has_leg n lane) 1 0 ≡ out_of n v.book.out + count_by (has_leg n) mid)
      → Kept (with_lanes v (before ++ (mid ++ behind)) book)
  kept_fetched v before lane behind mid book k here sees short placed sends out =
      record {
        few = few_round v before lane behind mid k here short;
        small = k.small;
        placed = placed_round v before lane behind mid k here placed;
        legs = λ n. legs_round v before lane behind mid book n k here (out n);
        follows = record {
          reached = subst (λ (os : List Open). ReachesMarked (rules_of v) start v.log.events (record { lanes = os; request_end = v.request_end; response_end = v.response_end }))
              (ap opens here ∙ opens-append before (lane ∷ behind) ∙ ap (λ (os : List Open). opens before ++ (os ++ opens behind)) (sym sees) ∙ ap (λ (os : List Open). opens before ++ os) (sym (opens-append mid behind)) ∙ sym (opens-append before (mid ++ behind)))
              k.follows.reached;
          ordered = k.follows.ordered;
          own = k.follows.own;
          sent = all_round (HasSent v.number v.log.events) v.lanes before lane behind mid k.follows.sent here sends;
        };
      }

  -- a lane that carries something has no leg out
  no_leg : (n : ℕ) (lane : Lane T) (item : T) → lane.item ≡ Some item → cond {A = ℕ} (has_leg n lane) 1 0 ≡ 0
  no_leg n lane item carried = ap (λ (i : Option T). cond {A = ℕ} (is_none i && (leg_name lane == n)) 1 0) carried

  open_same : (l : Lane T) (s : LaneState) (item : Option T) → opens (step_lane l s l.last l.latest item ∷ []) ≡ open_by l s
  open_same l Free item = refl
  open_same l Requested item = refl
  open_same l Waiting item = refl
  open_same l Responding item = refl

  -- an item was fetched, and the leg handed out
  pub kept_handed : (v : HopView T) (before : List (Lane T)) (lane : Lane T) (behind : List (Lane T)) (item : T)
      → Kept v → v.lanes ≡ before ++ lane ∷ behind → lane.item ≡ Some item
      → Kept (with_lanes v (before ++ step_lane lane lane.state lane.last lane.latest None ∷ behind) (leg_out v.book lane.position lane.state))
  kept_handed v before lane behind item k here carried =
      let mid = step_lane lane lane.state lane.last lane.latest None in
      let placed : HasPosition mid = placed_lane v before lane behind k here in
      kept_fetched v before lane behind (mid ∷ []) (leg_out v.book lane.position lane.state) k here (open_same lane lane.state None) (omega arith) (only mid placed) (bare v.number v.log.events mid refl)
      (λ n. let o = out_issued n v.book (leg_name lane) in let z = no_leg n lane item carried in omega arith)

  -- the response of an ended transaction was fetched
  pub kept_freed : (v : HopView T) (before : List (Lane T)) (lane : Lane T) (behind : List (Lane T)) (item : T)
      → Kept v → v.lanes ≡ before ++ lane ∷ behind → lane.item ≡ Some item → lane.state ≡ Free
      → Kept (with_lanes v (before ++ behind) v.book)
  kept_freed v before lane behind item k here carried ended =
      kept_fetched v before lane behind [] v.book k here (ap (λ (s : LaneState). open_by lane s) (sym ended)) (omega arith) (All-nil HasPosition) (All-nil (HasSent v.number v.log.events))
      (λ n. let z = no_leg n lane item carried in omega arith)
