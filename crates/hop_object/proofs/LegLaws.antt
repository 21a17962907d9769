-- Legs of replies fit, a leg's lane has the transaction of its BEGIN_REQ, and the times of a hop are those of its log.
use Rattle.std.proofs.Common.{◌≡◌, ◌≢◌, ◌⊎◌, ℕ, suc, ◌<◌, ◌≤◌, ◌==◌, ◌&&◌, ◌||◌, Bool, true, false, cond, List, [], ◌∷◌, ◌++◌, Option, Some, None, refl, sym, ap, ◌∙◌, subst, ⊎_elim, inl, inr, arith}
use Rattle.std.specs.Prelude.{◌%◌}
use Rattle.std.specs.List.{All, AllPairs, count_by, find, list_any}
use Rattle.std.proofs.lemmas.Bool.{cases_eq, ne_eqb}
use Rattle.std.proofs.lemmas.List.Elements.{All-head, All-tail}
use Rattle.std.proofs.lemmas.List.Sums.{sum_by-cons}
use Rattle.tlm_types.specs.declared.words.TxnId.{TxnId}
use Rattle.tlm_types.specs.declared.words.ObjectNo.TheVariants.{Hop}
use Rattle.tlm_types.specs.declared.entry.Entry.{Entry}
use Rattle.base_phases.specs.Sequences.{IsBegun}
use Rattle.base_phases.specs.declared.phases.LaneState.{LaneState}
use Rattle.base_phases.specs.declared.phases.LaneState.TheVariants.{Free, Requested, Waiting, Responding}
use Rattle.token_book.specs.Account.{Account, Slip}
use Rattle.flow_model.specs.Board.{Open}
use Rattle.flow_model.specs.Calls.{begins_request}
use Rattle.flow_model.specs.Lives.{HasOneBeginAt, life_of}
use Rattle.flow_model.proofs.LifeLemmas.{life_begun}
use Rattle.flow_model.specs.Events.{Among, Event, FindsAt, IsOwn, entries}
use Rattle.tlm_types.specs.declared.words.Phase.TheVariants.{BeginReq, EndReq, BeginResp, EndResp}
use Rattle.tlm_types.specs.declared.words.TlmSync.{TlmSync}
use Rattle.tlm_types.specs.declared.words.TlmSync.TheVariants.{Accepted, Updated, Completed}
use Rattle.numbered_log.specs.Logged.{IsBefore}
use Rattle.numbered_log.proofs.Ordered.{among_has, each_has, one_entry}
use Rattle.hop_object.specs.declared.lane.Lane.{Lane}
use Rattle.hop_object.specs.declared.call.Begun.{Begun}
use Rattle.hop_object.specs.declared.call.Responded.{Responded}
use Rattle.hop_object.specs.declared.call.HopCall.{HopCall}
use Rattle.hop_object.specs.declared.call.HopCall.TheVariants as Calls
use Rattle.hop_object.specs.declared.call.HopReply.{HopReply}
use Rattle.hop_object.specs.declared.call.HopReply.TheVariants as Replies
use Rattle.hop_object.specs.States.{number_of_state}
use Rattle.hop_object.specs.View.{HopView}
use Rattle.hop_object.specs.Lanes.{any_responding, has_leg, leg_name, open_by, opens}
use Rattle.hop_object.specs.Hops.{begin_answer, begin_entry, board_of, can_begin, leg_at, reached_of, rules_of, Follows, IsLegOf}
use Rattle.hop_object.specs.Calls.{begun_as, refused, AnswersRequest, AnswersResponse, HandsOut, TakesUp}
use Rattle.hop_object.specs.Objects.{knows, lane_of, last_of, state_of, txn_of, Applied, IsFit}
use Rattle.hop_object.specs.Laws.{BegunFits, HasTimes, IsOwed, LegsFit, NamesTransaction, RespondedFits}
use Rattle.hop_object.proofs.Boards.{opens-append}
use Rattle.hop_object.proofs.LegLemmas.{leg_parts, small}
use Rattle.hop_object.proofs.Meanings.{decide}
use Rattle.hop_object.proofs.TimeLemmas.{AreKnown, times_are_known}

never : (a : Bool) → a && false ≡ false
never true = refl
never false = refl

pub among_middle : {X : Type 0} (xs ys : List X) (x : X) → Among (xs ++ x ∷ ys) x
among_middle [] ys x = inl refl
among_middle (y ∷ xs) ys x = inr (among_middle xs ys x)

cond_one : (b : Bool) → cond {A = ℕ} b 1 0 ≤ 1
cond_one true = omega arith
cond_one false = omega arith

-- no entry stands at a position that is before all of them
none_there : (p : ℕ) (es : List Event) → All (λ (e : Event). p < e.position) es → count_by (λ (e : Entry). begins_request e.what && (e.position == p)) (entries es) ≡ 0
none_there p [] all = refl
none_there p (e ∷ es) all =
    let here : p < e.position = All-head (λ (y : Event). p < y.position) e es all in
    let apart : (e.position == p) ≡ false = ne_eqb e.position p (λ same. absurd (omega arith)) in
    let fails : (begins_request e.what && (e.position == p)) ≡ false = ap (λ (b : Bool). begins_request e.what && b) apart ∙ never (begins_request e.what) in
    let one : cond {A = ℕ} (begins_request e.what && (e.position == p)) 1 0 ≡ 0 = ap (λ (b : Bool). cond {A = ℕ} b 1 0) fails in
    let n = sum_by-cons (λ (x : Entry). cond {A = ℕ} (begins_request x.what && (x.position == p)) 1 0) e.entry (entries es) in
    let rest = none_there p es (All-tail (λ (y : Event). p < y.position) e es all) in
    omega arith

-- one BEGIN_REQ at most stands at a position
one_begin : (p : ℕ) (es : List Event) → AllPairs IsBefore es → HasOneBeginAt p (entries es)
one_begin p [] f = omega arith
one_begin p (e ∷ es) f =
    let later : AllPairs IsBefore es = λ i j d less below. f (suc i) (suc j) d (omega arith) (omega arith) in
    let n = sum_by-cons (λ (x : Entry). cond {A = ℕ} (begins_request x.what && (x.position == p)) 1 0) e.entry (entries es) in
    ⊎_elim
    (λ (same : e.position ≡ p).
    let behind : All (λ (y : Event). p < y.position) es = λ k d below. let q = f 0 (suc k) d (omega arith) (omega arith) in omega arith in
    let z = none_there p es behind in
    let c = cond_one (begins_request e.what && (e.position == p)) in
    omega arith)
    (λ (other : e.position ≢ p).
    let fails : (begins_request e.what && (e.position == p)) ≡ false = ap (λ (b : Bool). begins_request e.what && b) (ne_eqb e.position p other) ∙ never (begins_request e.what) in
    let one : cond {A = ℕ} (begins_request e.what && (e.position == p)) 1 0 ≡ 0 = ap (λ (b : Bool). cond {A = ℕ} b 1 0) fails in
    let rest = one_begin p es later in
    omega arith)
    (cases_eq e.position p)

module _ {X : Type 0} where
  -- what is found stands in the list
  pub record Found (p : X → Bool) (xs : List X) : Type 0 where
    pub before : List X
    pub item : X
    pub behind : List X
    pub here : xs ≡ before ++ item ∷ behind
    pub passes : p item ≡ true
    pub found : find p xs ≡ Some item

  found_in : (p : X → Bool) (x : X) (xs : List X) (b : Bool) → p x ≡ b → (list_any p xs ≡ true → Found p xs) → b || list_any p xs ≡ true → Found p (x ∷ xs)
  found_in p x xs true e rest any = record { before = []; item = x; behind = xs; here = refl; passes = e; found = ap (λ (c : Bool). cond c (Some x) (find p xs)) e }
  found_in p x xs false e rest any =
      let r = rest any in
      record { before = x ∷ r.before; item = r.item; behind = r.behind; here = ap (λ (l : List X). x ∷ l) r.here; passes = r.passes; found = ap (λ (c : Bool). cond c (Some x) (find p xs)) e ∙ r.found }

  pub found_there : (p : X → Bool) (xs : List X) → list_any p xs ≡ true → Found p xs
  found_there p [] any = cc
  found_there p (x ∷ xs) any = found_in p x xs (p x) refl (found_there p xs) any

module _ {T : Type 0} where
  -- the calls of one lane begin one of the eleven sequences
  pub lives_begun : (h : HopView T) (f : Follows h) (position : ℕ) → IsBegun (life_of position (rules_of h) (entries h.log.events) (board_of h) (reached_of h f))
  lives_begun h f position = life_begun (rules_of h) (entries h.log.events) (board_of h) (reached_of h f) position (one_begin position h.log.events f.ordered)

  -- the model sees a lane whose state isn't Free
  pub live_open : (l : Lane T) (s : LaneState) → 0 < number_of_state s → open_by l s ≡ record { txn = l.txn; position = l.position; state = s; last = l.last } ∷ []
  live_open l Free h = absurd (omega arith)
  live_open l Requested h = refl
  live_open l Waiting h = refl
  live_open l Responding h = refl

  -- what the model sees of the lane of a leg
  pub record Seen (h : HopView T) (leg : Slip) : Type 0 where
    pub lane : Lane T
    pub found : lane_of h leg ≡ Some lane
    pub name : leg_name lane ≡ leg.name
    pub there : Among (opens h.lanes) (record { txn = lane.txn; position = lane.position; state = lane.state; last = lane.last })

  seen_there : (h : HopView T) (leg : Slip) → knows h leg ≡ true → 0 < leg.name % 4 → Seen h leg
  seen_there h leg known live =
      let r = found_there (has_leg leg.name) h.lanes known in
      let lane = r.item in
      let name : leg_name lane ≡ leg.name = (leg_parts leg.name lane r.passes).1 in
      let s = small lane.state in
      let seen = live_open lane lane.state (omega arith) in
      let o : Open = record { txn = lane.txn; position = lane.position; state = lane.state; last = lane.last } in
      let here : opens h.lanes ≡ opens r.before ++ o ∷ opens r.behind = ap opens r.here ∙ opens-append r.before (lane ∷ r.behind) ∙ ap (λ (os : List Open). opens r.before ++ (os ++ opens r.behind)) seen in
      record { lane = lane; found = r.found; name = name; there = subst (λ (os : List Open). Among os o) (sym here) (among_middle (opens r.before) (opens r.behind) o) }

  -- the times of the board are those of the log
  pub board_known : (h : HopView T) → Follows h → AreKnown h.number h.log.events (board_of h)
  board_known h f = times_are_known h.number (rules_of h) h.log.events (board_of h) (λ e m. each_has (λ (y : Event). y.object ≡ Hop h.number) h.log.events f.own e (among_has h.log.events e m)) f.reached

  pub names_transaction : (h : HopView T) (leg : Slip) → Follows h → knows h leg ≡ true → 0 < leg.name % 4 → NamesTransaction h leg
  names_transaction h leg f known live =
      let s = seen_there h leg known live in
      let b = (board_known h f).begun (record { txn = s.lane.txn; position = s.lane.position; state = s.lane.state; last = s.lane.last }) s.there in
      let q = small s.lane.state in
      let name = s.name in
      let place = b.is.place in
      let own : txn_of (lane_of h leg) ≡ s.lane.txn = ap txn_of s.found in
      let call = b.is.phase.call in
      record {
        begun = record {
          event = b.event;
          known = b.known;
          is = record { phase = record { answer = b.is.phase.answer; call = record { object = call.object; txn = call.txn ∙ sym own; what = call.what } }; place = omega arith };
        };
        one = λ e has at. own ∙ sym call.txn ∙ ap (λ (y : Event). y.txn) (one_entry h.log.events f.ordered b.event e (among_has h.log.events b.event b.known) has (omega arith));
        state = ap (λ (o : Option (Lane T)). number_of_state (state_of o)) s.found ∙ (omega arith);
      }

  pub has_times : (h : HopView T) → Follows h → HasTimes h
  has_times h f =
      let b = board_known h f in
      record {
        request = b.request;
        response = b.response;
        last = λ leg known live.
            let s = seen_there h leg known live in
            subst (λ (o : Option (Lane T)). FindsAt (Among h.log.events) (IsOwn (txn_of o) h.number) (last_of o)) (sym s.found)
            (b.last (record { txn = s.lane.txn; position = s.lane.position; state = s.lane.state; last = s.lane.last }) s.there);
      }

  -- a leg that was issued
  pub issued_fits : (w : HopView T) (book : Account) (position : ℕ) (state : LaneState) (leg : Slip) → leg ≡ leg_at book position state → book.table ≡ w.book.table → book.owner ≡ w.book.owner → IsLegOf w leg state
  issued_fits w book position state leg is table owner =
      let s = small state in
      record {
        table = ap (λ (l : Slip). l.table) is ∙ table;
        owner = ap (λ (l : Slip). l.owner) is ∙ owner;
        state_is = ap (λ (l : Slip). l.name % 4) is ∙ (omega arith);
      }

  same_books : (v w : HopView T) → w.book.table ≡ v.book.table → w.book.owner ≡ v.book.owner → (leg : Slip) (position : ℕ) (state : LaneState) → leg ≡ leg_at v.book position state → IsLegOf w leg state
  same_books v w table owner leg position state is = issued_fits w v.book position state leg is (sym table) (sym owner)

  begun_fits : (v : HopView T) (e : Event) (item : T) (answer : TlmSync) → BegunFits (begun_as v e item answer).0 (begun_as v e item answer).1
  begun_fits v e item Accepted = tt
  begun_fits v e item Completed = tt
  begun_fits v e item (Updated BeginReq) = tt
  begun_fits v e item (Updated EndReq) = tt
  begun_fits v e item (Updated BeginResp) = issued_fits (begun_as v e item (Updated BeginResp)).0 v.book e.position Responding (leg_at v.book e.position Responding) refl refl refl
  begun_fits v e item (Updated EndResp) = tt

  request_fits : (v : HopView T) (p : ℕ) (x : TxnId) (at : ℕ) (item : T) (w : HopView T) (answer : Begun T) → AnswersRequest v p x at item w answer → BegunFits w answer
  request_fits v p x at item w answer a =
      let P : HopView T × Begun T → Type 0 = λ r. BegunFits r.0 r.1 in
      decide (can_begin v)
      (λ can. subst P (sym (a.taken can)) (begun_fits v (begin_entry v p x at (begin_answer v)) item (begin_answer v)))
      (λ cannot. let h = a.busy cannot in let same : (v, refused v item) ≡ (w, answer) = λ i. ((sym h.0) i, (sym h.1) i) in subst P same tt)

  handed_fits : (v : HopView T) (i : ℕ) (w : HopView T) (leg : Slip) (state : LaneState) (x : TxnId) (time : ℕ) (item : T) → HandsOut v i w leg state x time item → IsLegOf w leg state
  handed_fits v i w leg state x time item h =
      subst (λ (s : LaneState). IsLegOf w leg s) (sym h.state_is)
      (same_books v w (ap (λ (y : HopView T). y.book.table) h.after) (ap (λ (y : HopView T). y.book.owner) h.after) leg h.lane.position h.lane.state h.leg_is)

  response_fits : (v : HopView T) (leg : Slip) (p at : ℕ) (item : T) (w : HopView T) (answer : Responded T) → IsLegOf v leg Requested ⊎ IsLegOf v leg Waiting → AnswersResponse v leg p at item w answer → RespondedFits w answer
  response_fits v leg p at item w answer fit a =
      decide (any_responding v.lanes)
      (λ open_. let b = a.busy open_ in subst (λ (r : Responded T). RespondedFits w r) (sym b.answer_is) (subst (λ (y : HopView T). IsLegOf y leg Requested ⊎ IsLegOf y leg Waiting) (sym b.same) fit))
      (λ free. subst (λ (r : Responded T). RespondedFits w r) (sym (a.sent free).answer_is) tt)

  owed_fits : (v : HopView T) (i : ℕ) (w : HopView T) (leg : Option Slip) (x : TxnId) (time : ℕ) (item : T) → TakesUp v i w leg x time item → IsOwed w leg
  owed_fits v i w None x time item h = tt
  owed_fits v i w (Some leg) x time item h = handed_fits v i w leg Responding x time item h

  -- each leg that comes with a reply fits
  pub legs_fit : (v : HopView T) (p : ℕ) (call : HopCall T) (reply : HopReply T) (w : HopView T) → IsFit v call → Applied v p call reply w → LegsFit w reply
  legs_fit v p (Calls.BeginReq x at item) (Replies.Begun answer) w fit h = request_fits v p x at item w answer h
  legs_fit v p Calls.FetchDown (Replies.Down None) w fit h = tt
  legs_fit v p Calls.FetchDown (Replies.Down (Some r)) w fit h = handed_fits v h.0 w r.0 r.1 r.2 r.3 r.4 h.2
  legs_fit v p (Calls.EndReq leg at) (Replies.EndedReq next time) w fit h = same_books v w (ap (λ (y : HopView T). y.book.table) h.after) (ap (λ (y : HopView T). y.book.owner) h.after) next h.lane.position Waiting h.next_is
  legs_fit v p (Calls.BeginResp leg at item) (Replies.Responded answer) w fit h = response_fits v leg p at item w answer fit h
  legs_fit v p Calls.FetchUp (Replies.Up None) w fit h = tt
  legs_fit v p Calls.FetchUp (Replies.Up (Some r)) w fit h = owed_fits v h.0 w r.0 r.1 r.2 r.3 h.2
  legs_fit v p (Calls.EndResp leg at) (Replies.EndedResp time) w fit h = tt
  legs_fit v p (Calls.Ended x) (Replies.Ended answer) w fit h = tt
  legs_fit v p call reply w fit h = absurd h
