-- What each call of a hop answers, and what it leaves.
use Rattle.std.specs.Prelude.{◌≡◌, ℕ, suc, true, false, max, List, ◌∷◌, ◌++◌, length, Option, Some, None, find, take, drop, All}
use Rattle.tlm_types.specs.declared.words.TxnId.{TxnId}
use Rattle.tlm_types.specs.declared.words.Phase.TheVariants.{EndReq, BeginResp, EndResp}
use Rattle.tlm_types.specs.declared.words.TlmSync.{TlmSync}
use Rattle.tlm_types.specs.declared.words.TlmSync.TheVariants.{Accepted, Updated, Completed}
use Rattle.base_phases.specs.declared.phases.LaneState.{LaneState}
use Rattle.base_phases.specs.declared.phases.LaneState.TheVariants.{Free, Requested, Waiting, Responding}
use Rattle.token_book.specs.Account.{Slip, retired}
use Rattle.flow_model.specs.Answers.{response_answer}
use Rattle.flow_model.specs.Events.{Event}
use Rattle.flow_model.specs.Marked.{mark_of}
use Rattle.hop_object.specs.declared.lane.Lane.{Lane}
use Rattle.hop_object.specs.declared.lane.Side.TheVariants.{Down, Up}
use Rattle.hop_object.specs.declared.call.Begun.{Begun}
use Rattle.hop_object.specs.declared.call.Begun.TheVariants.{Left, Now, Busy}
use Rattle.hop_object.specs.declared.call.Responded.{Responded}
use Rattle.hop_object.specs.declared.call.Responded.TheVariants as Answers
use Rattle.hop_object.specs.States.{state_by}
use Rattle.hop_object.specs.View.{HopView}
use Rattle.hop_object.specs.Lanes.{any_responding, has_leg, requester, responder, step_lane, waits, IsFirst}
use Rattle.hop_object.specs.Hops.{begin_answer, begin_entry, called, can_begin, entered, hop_entry, leg_at, leg_changed, leg_out, passed, with_lanes}

module _ {T : Type 0} where
  -- what BEGIN_REQ leaves and answers, by its answer
  abbrev pub begun_as : HopView T → Event → T → TlmSync → HopView T × Begun T
  begun_as v e item Accepted = (entered v e Accepted Requested (Some item) v.book, Left Accepted e.time)
  begun_as v e item Completed = (passed v e Completed, Now Completed e.time None item)
  begun_as v e item (Updated BeginResp) = (entered v e (Updated BeginResp) Responding None (leg_out v.book e.position Responding), Now (Updated BeginResp) e.time (Some (leg_at v.book e.position Responding)) item)
  begun_as v e item (Updated phase) = (entered v e (Updated phase) Waiting (Some item) v.book, Left (Updated phase) e.time)

  abbrev pub after_begin : HopView T → ℕ → TxnId → ℕ → T → HopView T × Begun T
  after_begin v position txn at item = begun_as v (begin_entry v position txn at (begin_answer v)) item (begin_answer v)

  -- what it answers where it isn't taken
  abbrev pub refused : HopView T → T → Begun T
  refused v item = Busy (requester v.lanes) (length v.lanes) item

  -- BEGIN_REQ
  pub record AnswersRequest (v : HopView T) (position : ℕ) (txn : TxnId) (at : ℕ) (item : T) (w : HopView T) (answer : Begun T) : Type 0 where
    pub taken : can_begin v ≡ true → (w, answer) ≡ after_begin v position txn at item
    pub busy : can_begin v ≡ false → (w ≡ v) × (answer ≡ refused v item)

  -- END_REQ by this leg, at this time
  pub record EndsRequest (v : HopView T) (leg : Slip) (position at : ℕ) (w : HopView T) (next : Slip) (time : ℕ) : Type 0 where
    pub before : List (Lane T)
    pub lane : Lane T
    pub behind : List (Lane T)
    pub here : v.lanes ≡ before ++ lane ∷ behind
    pub leg_is : find (has_leg leg.name) v.lanes ≡ Some lane
    pub time_is : time ≡ max at lane.last
    pub after : w ≡ called v (before ++ step_lane lane Waiting time position None ∷ behind) (hop_entry v.number position lane.txn time EndReq Accepted 0) Requested EndReq Accepted (leg_changed v.book leg lane Waiting)
    pub next_is : next ≡ leg_at v.book lane.position Waiting

  -- BEGIN_RESP by this leg, at this time, where no response is open
  pub record Responds (v : HopView T) (leg : Slip) (position at : ℕ) (item : T) (w : HopView T) (answer : Responded T) : Type 0 where
    pub before : List (Lane T)
    pub lane : Lane T
    pub behind : List (Lane T)
    pub time : ℕ
    pub here : v.lanes ≡ before ++ lane ∷ behind
    pub leg_is : find (has_leg leg.name) v.lanes ≡ Some lane
    pub time_is : time ≡ max (max at lane.last) v.response_end
    pub after : w ≡ called v (before ++ step_lane lane (state_by (response_answer v.traits.resp)) time position (Some item) ∷ behind) (hop_entry v.number position lane.txn time BeginResp (response_answer v.traits.resp) (mark_of lane.state)) lane.state BeginResp (response_answer v.traits.resp) (retired v.book leg)
    pub answer_is : answer ≡ Answers.Sent (response_answer v.traits.resp) time

  -- BEGIN_RESP where one is open
  pub record RefusesResponse (v : HopView T) (leg : Slip) (item : T) (w : HopView T) (answer : Responded T) : Type 0 where
    pub holder : TxnId
    pub same : w ≡ v
    pub holder_is : responder v.lanes ≡ Some holder
    pub answer_is : answer ≡ Answers.Busy holder leg item

  -- BEGIN_RESP
  pub record AnswersResponse (v : HopView T) (leg : Slip) (position at : ℕ) (item : T) (w : HopView T) (answer : Responded T) : Type 0 where
    pub sent : any_responding v.lanes ≡ false → Responds v leg position at item w answer
    pub busy : any_responding v.lanes ≡ true → RefusesResponse v leg item w answer

  -- END_RESP by this leg, at this time
  pub record EndsResponse (v : HopView T) (leg : Slip) (position at : ℕ) (w : HopView T) (time : ℕ) : Type 0 where
    pub before : List (Lane T)
    pub lane : Lane T
    pub behind : List (Lane T)
    pub here : v.lanes ≡ before ++ lane ∷ behind
    pub leg_is : find (has_leg leg.name) v.lanes ≡ Some lane
    pub time_is : time ≡ max at lane.last
    pub after : w ≡ called v (before ++ behind) (hop_entry v.number position lane.txn time EndResp Completed 0) Responding EndResp Completed (retired v.book leg)

  -- the item of the lane at a place was fetched, and its leg handed out
  pub record HandsOut (v : HopView T) (i : ℕ) (w : HopView T) (leg : Slip) (state : LaneState) (txn : TxnId) (time : ℕ) (item : T) : Type 0 where
    pub lane : Lane T
    pub here : v.lanes ≡ take i v.lanes ++ lane ∷ drop (suc i) v.lanes
    pub carried : lane.item ≡ Some item
    pub after : w ≡ with_lanes v (take i v.lanes ++ step_lane lane lane.state lane.last lane.latest None ∷ drop (suc i) v.lanes) (leg_out v.book lane.position lane.state)
    pub leg_is : leg ≡ leg_at v.book lane.position lane.state
    pub state_is : state ≡ lane.state
    pub txn_is : txn ≡ lane.txn
    pub time_is : time ≡ lane.last

  -- the response of an ended transaction was fetched, and its lane is free
  pub record LetsGo (v : HopView T) (i : ℕ) (w : HopView T) (txn : TxnId) (time : ℕ) (item : T) : Type 0 where
    pub lane : Lane T
    pub here : v.lanes ≡ take i v.lanes ++ lane ∷ drop (suc i) v.lanes
    pub carried : lane.item ≡ Some item
    pub ended : lane.state ≡ Free
    pub after : w ≡ with_lanes v (take i v.lanes ++ drop (suc i) v.lanes) v.book
    pub txn_is : txn ≡ lane.txn
    pub time_is : time ≡ lane.last

  -- the first request that waits is fetched, or none waits
  abbrev pub FetchesDown : HopView T → HopView T → Option (Slip × LaneState × TxnId × ℕ × T) → Type 0
  FetchesDown v w None = (w ≡ v) × All (λ (l : Lane T). waits Down l ≡ false) v.lanes
  FetchesDown v w (Some r) = (i : ℕ) × IsFirst Down v.lanes i × HandsOut v i w r.0 r.1 r.2 r.3 r.4

  -- a response is fetched: the leg comes exactly where END_RESP is owed
  abbrev pub TakesUp : HopView T → ℕ → HopView T → Option Slip → TxnId → ℕ → T → Type 0
  TakesUp v i w None txn time item = LetsGo v i w txn time item
  TakesUp v i w (Some leg) txn time item = HandsOut v i w leg Responding txn time item

  -- the first response that waits is fetched, or none waits
  abbrev pub FetchesUp : HopView T → HopView T → Option (Option Slip × TxnId × ℕ × T) → Type 0
  FetchesUp v w None = (w ≡ v) × All (λ (l : Lane T). waits Up l ≡ false) v.lanes
  FetchesUp v w (Some r) = (i : ℕ) × IsFirst Up v.lanes i × TakesUp v i w r.0 r.1 r.2 r.3
