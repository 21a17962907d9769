-- Who finds that no lane of a hop is a transaction's, which has begun there, knows that it has ended there.
use Rattle.std.proofs.Common.{◌≡◌, ◌⊎◌, ℕ, zero, suc, ◌+◌, ◌<◌, ◌&&◌, ◌==◌, eq-eqb, List, [], ◌∷◌, ◌++◌, length, map, get_or, Bool, true, false, not, Some, refl, sym, ◌∙◌, ap, subst, inl, inr}
use Rattle.std.specs.Prelude.{◌||◌}
use Rattle.std.specs.List.{list_all}
use Rattle.std.proofs.lemmas.Bool.{and_parts}
use mathlib.Core.Option.{some}
use lib.ListN.{get_elem?}
use Rattle.atomic_table.specs.Seated.{TableId}
use Rattle.view_lists.specs.Lists.{Has}
use Rattle.view_lists.proofs.Keys.{of_key-has}
use Rattle.view_lists.proofs.Members.{has_map, has_mapped}
use Rattle.one_history.specs.declared.view.Frame.{Frame}
use Rattle.one_history.specs.declared.view.View.{View}
use Rattle.one_history.specs.Lists.{entries_at, object_of}
use Rattle.tlm_types.specs.declared.entry.Content.{Content}
use Rattle.tlm_types.specs.declared.entry.What.{What}
use Rattle.tlm_types.specs.declared.entry.What.TheVariants.{Call as Called}
use Rattle.tlm_types.specs.declared.words.ObjectNo.{ObjectNo}
use Rattle.tlm_types.specs.declared.words.ObjectNo.TheVariants.{Hop}
use Rattle.tlm_types.specs.declared.words.Phase.{Phase}
use Rattle.tlm_types.specs.declared.words.Phase.TheVariants.{BeginReq, EndReq, BeginResp, EndResp}
use Rattle.tlm_types.specs.declared.words.TlmSync.{TlmSync}
use Rattle.tlm_types.specs.declared.words.TlmSync.TheVariants.{Accepted, Updated, Completed}
use Rattle.tlm_types.specs.declared.words.TxnId.{TxnId}
use Rattle.tlm_model.specs.Plan.{Plan}
use Rattle.tlm_model.specs.Requests.{is_txn}
use Rattle.base_phases.specs.declared.phases.LaneState.{LaneState}
use Rattle.base_phases.specs.declared.phases.LaneState.TheVariants.{Free, Requested, Waiting, Responding}
use Rattle.base_phases.specs.Phases.{next_state}
use Rattle.shared_object.specs.Written.{Written, placed, written}
use Rattle.flow_model.specs.Board.{Begins, Board, Moves, Open, Rules, StepsBy, fresh_lane, lane_after, start}
use Rattle.flow_model.specs.Events.{Among, Event, Finds}
use Rattle.flow_model.specs.Marked.{ReachesMarked}
use Rattle.flow_model.specs.Numbers.{IsEnder, IsEnding}
use Rattle.numbered_log.specs.Logged.{written_by}
use Rattle.numbered_log.proofs.Ordered.{among_has, each_has}
use Rattle.hop_object.specs.View.{HopView}
use Rattle.hop_object.specs.Lanes.{is_ended, open_by, opens}
use Rattle.hop_object.specs.States.{number_of_state}
use Rattle.hop_object.specs.Hops.{board_of, rules_of}
use Rattle.hop_object.specs.declared.lane.Lane.{Lane}
use Rattle.hop_object.specs.declared.call.HopCall.TheVariants.{Ended as AskEnded}
use Rattle.hop_object.specs.declared.call.HopReply.TheVariants.{Ended}
use Rattle.route_plan.specs.Valid as valid
use Rattle.cargo_model.specs.declared.cargo.Cargo.{Cargo}
use Rattle.cargo_model.specs.Known.{Known, objects_of}
use Rattle.cargo_model.proofs.Origins.{only_object, stands}
use Rattle.cargo_net.specs.Hops.{HasAnswered, MeetsHop}
use Rattle.cargo_net.proofs.Lists.{read_there}
use Rattle.plat_net.specs.Places.{hop_place}
use Rattle.plat_net.proofs.NumberLemmas.{hop_there}
use Rattle.router_moves.specs.Moves.{HasBegunOn}
use Rattle.router_moves.proofs.Downs.{among_at, same_hop}

-- a lane of x
pub record HasLaneOf (x : TxnId) (lanes : List Open) : Type 0 where
  pub lane : Open
  pub among : Among lanes lane
  pub of : lane.txn ≡ x

among_left : {A : Type 0} (xs ys : List A) (x : A) → Among xs x → Among (xs ++ ys) x
among_left [] ys x m = absurd m
among_left (a ∷ xs) ys x (inl q) = inl q
among_left (a ∷ xs) ys x (inr m) = inr (among_left xs ys x m)

among_right : {A : Type 0} (xs ys : List A) (x : A) → Among ys x → Among (xs ++ ys) x
among_right [] ys x m = m
among_right (a ∷ xs) ys x m = inr (among_right xs ys x m)

among_either : {A : Type 0} (xs ys : List A) (x : A) → Among (xs ++ ys) x → Among xs x ⊎ Among ys x
among_either [] ys x m = inr m
among_either (a ∷ xs) ys x (inl q) = inl (inl q)
among_either (a ∷ xs) ys x (inr m) = elim (among_either xs ys x m) [ inl l ↦ inl (inr l) | inr r ↦ inr r ]

has_in : {A : Type 0} (xs : List A) (x : A) (k : ℕ) → get_elem? xs k ≡ some x → Among xs x
has_in [] x k q = cc
has_in (y ∷ ys) x zero q = inl (one y x q)
  where
    one : {A : Type 0} (y x : A) → some y ≡ some x → y ≡ x
    one y x q = cc
has_in (y ∷ ys) x (suc k) q = inr (has_in ys x k q)

-- a call that leaves its lane free ends the transaction
no_req : (s : LaneState) (answer : TlmSync) → next_state s EndReq answer ≡ Some Free → ⊥
no_req Free answer q = cc
no_req Requested Accepted q = cc
no_req Requested (Updated p) q = cc
no_req Requested Completed q = cc
no_req Waiting answer q = cc
no_req Responding answer q = cc

no_resp : (s : LaneState) → next_state s BeginResp Accepted ≡ Some Free → ⊥
no_resp Free q = cc
no_resp Requested q = cc
no_resp Waiting q = cc
no_resp Responding q = cc

ends_by : (s : LaneState) (phase : Phase) (answer : TlmSync) → (phase ≡ BeginReq → ⊥) → next_state s phase answer ≡ Some Free → IsEnding phase answer
ends_by s BeginReq answer n q = absurd (n refl)
ends_by s EndReq answer n q = absurd (no_req s answer q)
ends_by s BeginResp Accepted n q = absurd (no_resp s q)
ends_by s BeginResp (Updated p) n q = tt
ends_by s BeginResp Completed n q = tt
ends_by s EndResp answer n q = tt

begins_free : (answer : TlmSync) → next_state Free BeginReq answer ≡ Some Free → IsEnding BeginReq answer
begins_free Accepted q = cc
begins_free (Updated BeginReq) q = cc
begins_free (Updated EndReq) q = cc
begins_free (Updated BeginResp) q = cc
begins_free (Updated EndResp) q = cc
begins_free Completed q = tt

-- the lane after a call
lane_stays : (o : Open) (s : LaneState) (time : ℕ) (x : TxnId) → o.txn ≡ x → (s ≡ Free) ⊎ HasLaneOf x (lane_after o s time)
lane_stays o Free time x q = inl refl
lane_stays o Requested time x q = inr (record { lane = record { txn = o.txn; position = o.position; state = Requested; last = time }; among = inl refl; of = q })
lane_stays o Waiting time x q = inr (record { lane = record { txn = o.txn; position = o.position; state = Waiting; last = time }; among = inl refl; of = q })
lane_stays o Responding time x q = inr (record { lane = record { txn = o.txn; position = o.position; state = Responding; last = time }; among = inl refl; of = q })

module _ (r : Rules) (number : ℕ) (x : TxnId) where
  abbrev Goes : Board → Event → Type 0
  Goes c e = HasLaneOf x c.lanes ⊎ IsEnder x number e

  begin_own : (b : Board) (e : Event) (answer : TlmSync) (c : Board) → e.object ≡ Hop number → e.what ≡ Called BeginReq answer → e.txn ≡ x → Begins r b e.entry answer c → Goes c e
  begin_own b e answer c object what own m = by (lane_stays (fresh_lane e.entry) m.state e.time x own)
    where
      by : (m.state ≡ Free) ⊎ HasLaneOf x (lane_after (fresh_lane e.entry) m.state e.time) → Goes c e
      by (inl free) = inr (record { phase = BeginReq; answer = answer; call = record { object = object; txn = own; what = what }; ends = begins_free answer (m.allowed ∙ ap (λ (s : LaneState). Some s) free) })
      by (inr l) = inl (record { lane = l.lane; among = subst (λ (d : Board). Among d.lanes l.lane) (sym m.after) (among_right b.lanes (lane_after (fresh_lane e.entry) m.state e.time) l.lane l.among); of = l.of })

  begin_keeps : (b : Board) (e : Event) (answer : TlmSync) (c : Board) → Begins r b e.entry answer c → HasLaneOf x b.lanes → HasLaneOf x c.lanes
  begin_keeps b e answer c m l = record { lane = l.lane; among = subst (λ (d : Board). Among d.lanes l.lane) (sym m.after) (among_left b.lanes (lane_after (fresh_lane e.entry) m.state e.time) l.lane l.among); of = l.of }

  -- a later call of x
  move_own : (b : Board) (e : Event) (phase : Phase) (answer : TlmSync) (c : Board) → (phase ≡ BeginReq → ⊥) → e.object ≡ Hop number → e.what ≡ Called phase answer → e.txn ≡ x → Moves r b e.entry phase answer c → Goes c e
  move_own b e phase answer c later object what own m = by (lane_stays m.lane m.state e.time x (m.txn ∙ own))
    where
      by : (m.state ≡ Free) ⊎ HasLaneOf x (lane_after m.lane m.state e.time) → Goes c e
      by (inl free) = inr (record { phase = phase; answer = answer; call = record { object = object; txn = own; what = what }; ends = ends_by m.lane.state phase answer later (m.allowed ∙ ap (λ (s : LaneState). Some s) free) })
      by (inr l) = inl (record {
        lane = l.lane;
        among = subst (λ (d : Board). Among d.lanes l.lane) (sym m.after) (among_right m.before (lane_after m.lane m.state e.time ++ m.behind) l.lane (among_left (lane_after m.lane m.state e.time) m.behind l.lane l.among));
        of = l.of;
      })

  move_keeps : (b : Board) (e : Event) (phase : Phase) (answer : TlmSync) (c : Board) → (phase ≡ BeginReq → ⊥) → e.object ≡ Hop number → e.what ≡ Called phase answer → Moves r b e.entry phase answer c → HasLaneOf x b.lanes → Goes c e
  move_keeps b e phase answer c later object what m l = by (among_either m.before (m.lane ∷ m.behind) l.lane (subst (λ (ls : List Open). Among ls l.lane) m.here l.among))
    where
      by : Among m.before l.lane ⊎ Among (m.lane ∷ m.behind) l.lane → Goes c e
      by (inl a) = inl (record { lane = l.lane; among = subst (λ (d : Board). Among d.lanes l.lane) (sym m.after) (among_left m.before (lane_after m.lane m.state e.time ++ m.behind) l.lane a); of = l.of })
      by (inr (inl same)) = move_own b e phase answer c later object what (sym m.txn ∙ ap (λ (o : Open). o.txn) same ∙ l.of) m
      by (inr (inr a)) = inl (record {
        lane = l.lane;
        among = subst (λ (d : Board). Among d.lanes l.lane) (sym m.after) (among_right m.before (lane_after m.lane m.state e.time ++ m.behind) l.lane (among_right (lane_after m.lane m.state e.time) m.behind l.lane a));
        of = l.of;
      })

  req_not : EndReq ≡ BeginReq → ⊥
  req_not q = cc

  resp_not : BeginResp ≡ BeginReq → ⊥
  resp_not q = cc

  end_not : EndResp ≡ BeginReq → ⊥
  end_not q = cc

  step_own : (b : Board) (e : Event) (w : What) (c : Board) → e.object ≡ Hop number → e.what ≡ w → e.txn ≡ x → StepsBy r b e.entry w c → Goes c e
  step_own b e (Called BeginReq answer) c object what own m = begin_own b e answer c object what own m
  step_own b e (Called EndReq answer) c object what own m = move_own b e EndReq answer c req_not object what own m
  step_own b e (Called BeginResp answer) c object what own m = move_own b e BeginResp answer c resp_not object what own m
  step_own b e (Called EndResp answer) c object what own m = move_own b e EndResp answer c end_not object what own m
  step_own b e w c object what own m = absurd m

  step_keeps : (b : Board) (e : Event) (w : What) (c : Board) → e.object ≡ Hop number → e.what ≡ w → StepsBy r b e.entry w c → HasLaneOf x b.lanes → Goes c e
  step_keeps b e (Called BeginReq answer) c object what m l = inl (begin_keeps b e answer c m l)
  step_keeps b e (Called EndReq answer) c object what m l = move_keeps b e EndReq answer c req_not object what m l
  step_keeps b e (Called BeginResp answer) c object what m l = move_keeps b e BeginResp answer c resp_not object what m l
  step_keeps b e (Called EndResp answer) c object what m l = move_keeps b e EndResp answer c end_not object what m l
  step_keeps b e w c object what m l = absurd m

  later_on : (e : Event) (es : List Event) → Finds (Among es) (IsEnder x number) → Finds (Among (e ∷ es)) (IsEnder x number)
  later_on e es f = record { event = f.event; known = inr f.known; is = f.is }

  -- a lane stays until its transaction ends
  stays : (es : List Event) (b d : Board) → ((e : Event) → Among es e → e.object ≡ Hop number) → ReachesMarked r b es d → HasLaneOf x b.lanes → HasLaneOf x d.lanes ⊎ Finds (Among es) (IsEnder x number)
  stays [] b d own there l = inl (subst (λ (c : Board). HasLaneOf x c.lanes) there l)
  stays (e ∷ es) b d own there l = by (λ more. stays es there.0 d (λ f m. own f (inr m)) there.2 more) (step_keeps b e e.what there.0 (own e (inl refl)) refl (let m = there.1 in m.steps) l)
    where
      by : (HasLaneOf x there.0.lanes → HasLaneOf x d.lanes ⊎ Finds (Among es) (IsEnder x number)) → Goes there.0 e → HasLaneOf x d.lanes ⊎ Finds (Among (e ∷ es)) (IsEnder x number)
      by rest (inl more) = elim (rest more) [ inl k ↦ inl k | inr f ↦ inr (later_on e es f) ]
      by rest (inr ender) = inr (record { event = e; known = inl refl; is = ender })

  -- who has made a call has a lane, or has ended
  has_called : (es : List Event) (b d : Board) → ((e : Event) → Among es e → e.object ≡ Hop number) → ReachesMarked r b es d → (e : Event) → Among es e → e.txn ≡ x → HasLaneOf x d.lanes ⊎ Finds (Among es) (IsEnder x number)
  has_called [] b d own there e m q = absurd m
  has_called (f ∷ es) b d own there e (inl same) q = by (step_own b f f.what there.0 (own f (inl refl)) refl (ap (λ (g : Event). g.txn) same ∙ q) (let m = there.1 in m.steps))
    where
      by : Goes there.0 f → HasLaneOf x d.lanes ⊎ Finds (Among (f ∷ es)) (IsEnder x number)
      by (inl more) = elim (stays es there.0 d (λ g m. own g (inr m)) there.2 more) [ inl k ↦ inl k | inr g ↦ inr (later_on f es g) ]
      by (inr ender) = inr (record { event = f; known = inl refl; is = ender })
  has_called (f ∷ es) b d own there e (inr m) q = elim (has_called es there.0 d (λ g n. own g (inr n)) there.2 e m q) [ inl k ↦ inl k | inr g ↦ inr (later_on f es g) ]

-- no lane is x's
is_own : (x y : TxnId) → y ≡ x → is_txn x.initiator x.seq y ≡ true
is_own x y q = subst (λ (z : TxnId). is_txn x.initiator x.seq z ≡ true) (sym q) (ap (λ (b : Bool). b && (x.seq == x.seq)) (eq-eqb x.initiator x.initiator refl) ∙ eq-eqb x.seq x.seq refl)

module _ (x : TxnId) where
  held : (l : Lane Cargo) (s : LaneState) → l.state ≡ s → l.txn ≡ x → is_ended x l ≡ true → (number_of_state s == 0) ≡ false → ⊥
  held l s q of e live =
      let own = is_own x l.txn of in
      let f : is_ended x l ≡ false = ap (λ (b : Bool). not b || (number_of_state l.state == 0)) own ∙ (ap (λ (t : LaneState). number_of_state t == 0) q ∙ live) in
      differ (sym f ∙ e)
    where
      differ : false ≡ true → ⊥
      differ q = cc

  open_lane : (l : Lane Cargo) (s : LaneState) (o : Open) → l.state ≡ s → Among (open_by l s) o → o.txn ≡ x → is_ended x l ≡ true → ⊥
  open_lane l Free o q m of e = absurd m
  open_lane l Requested o q (inl same) of e = held l Requested q (ap (λ (p : Open). p.txn) same ∙ of) e refl
  open_lane l Waiting o q (inl same) of e = held l Waiting q (ap (λ (p : Open). p.txn) same ∙ of) e refl
  open_lane l Responding o q (inl same) of e = held l Responding q (ap (λ (p : Open). p.txn) same ∙ of) e refl
  open_lane l Requested o q (inr m) of e = absurd m
  open_lane l Waiting o q (inr m) of e = absurd m
  open_lane l Responding o q (inr m) of e = absurd m

  all_ended : (ls : List (Lane Cargo)) → list_all (is_ended x) ls ≡ true → HasLaneOf x (opens ls) → ⊥
  all_ended [] q l = absurd l.among
  all_ended (a ∷ ls) q l =
      let both = and_parts (is_ended x a) (list_all (is_ended x) ls) q in
      elim (among_either (open_by a a.state) (opens ls) l.lane l.among) [
        | inl m ↦ open_lane a a.state l.lane refl m l.of both.0
        | inr m ↦ all_ended ls both.1 (record { lane = l.lane; among = m; of = l.of })
      ]

-- the look whether it has ended
module _ (frame : Frame Plan) (tokens : TableId) (hop : ℕ) (below : hop < valid.hop_count frame.world.platform) (x : TxnId) (note back : View Content Plan) (begun : HasBegunOn frame note.known hop x) where
  abbrev p : Plan
  p = frame.world

  abbrev number : ℕ
  number = hop_place p hop

  there : Among (objects_of p.platform) (Hop hop)
  there = among_at (objects_of p.platform) (length p.platform.memories + hop) (Hop hop) (hop_there p.platform hop below)

  object_is : get_or (objects_of p.platform) number (Hop 0) ≡ Hop hop
  object_is = read_there (objects_of p.platform) number (Hop hop) (Hop 0) (stands (Hop hop) (objects_of p.platform) there)

  module _ (v : HopView Cargo) (meets : MeetsHop frame tokens number hop note.known v) where
    hop_is : v.number ≡ hop
    hop_is = (
        let built = meets.built_for.world in
        same_hop v.number _ built.object ∙ same_hop built.hop hop (only_object p.platform (Hop built.hop) (Hop hop) there (sym built.place))
        )

    own : (e : Event) → Among v.log.events e → e.object ≡ Hop hop
    own e m = each_has (λ (y : Event). y.object ≡ Hop v.number) v.log.events meets.state.own e (among_has v.log.events e m) ∙ ap Hop hop_is

    -- a call of x stands in the log
    record IsLogged : Type 0 where
      event : Event
      among : Among v.log.events event
      of : event.txn ≡ x

    logged : IsLogged
    logged =
        let here = has_mapped written (entries_at number note.known) begun.entry (subst (λ (i : ℕ). Has (entries_at i note.known) begun.entry) begun.object (of_key-has object_of note.known begun.entry begun.has)) in
        let m = has_map written_by v.log.events (written begun.entry) (meets.knows (written begun.entry) here) in
        record { event = m.0; among = has_in v.log.events m.0 (let h = m.1 in h.0) (let h = m.1 in h.1); of = ap (λ (w : Written). w.content.txn) m.2 ∙ begun.txn }

    ended_in_log : list_all (is_ended x) v.lanes ≡ true → Finds (Among v.log.events) (IsEnder x hop)
    ended_in_log all =
        elim (has_called (rules_of v) hop x v.log.events start (board_of v) own meets.state.reached logged.event logged.among logged.of) [
          | inl l ↦ absurd (all_ended x v.lanes all l)
          | inr f ↦ f
        ]

  pub has_ended : (ended : Bool) → HasAnswered frame tokens number hop note back (AskEnded x) (Ended ended) → ended ≡ true → Finds (Known p.platform back.known) (IsEnder x hop)
  has_ended ended a is_so =
      let f = ended_in_log a.before a.met (sym (let q = a.applied in q.1) ∙ is_so) in
      let among : Among a.before.log.events f.event = f.known in
      let has = has_mapped (placed number) (map written_by a.before.log.events) (written_by f.event) (has_mapped written_by a.before.log.events f.event (among_has a.before.log.events f.event among)) in
      let same : map written_by a.after.log.events ≡ map written_by a.before.log.events = ap (λ (v : HopView Cargo). map written_by v.log.events) (let q = a.applied in q.0) in
      record {
        event = f.event;
        known = record {
          entry = placed number (written_by f.event);
          has = a.enters.knows _ (subst (λ (l : List Written). Has (map (placed number) l) (placed number (written_by f.event))) (sym same) has);
          is = (let e = f.event in ap (λ (at : ObjectNo). record { entry = record { position = e.position; object = at; txn = e.txn; time = e.time; what = e.what }; number = e.number }) (own a.before a.met f.event among ∙ sym object_is));
        };
        is = f.is;
      }
