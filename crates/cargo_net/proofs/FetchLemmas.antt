-- What the log of a hop and what vouches for its items tell of what was fetched.
use Rattle.std.proofs.Common.{◌≡◌, ◌⊎◌, ℕ, ◌+◌, ◌*◌, ◌<◌, List, [], ◌∷◌, map, get_or, true, Option, Some, None, refl, sym, ◌∙◌, ap, arith, subst, inl, inr}
use Rattle.std.specs.Prelude.{◌/◌, is_some, slice_get}
use Rattle.std.specs.Option.{unwrap_or}
use Rattle.std.proofs.lemmas.Grind.{common_steps}
use Rattle.atomic_table.specs.Seated.{TableId}
use Rattle.view_lists.specs.Lists.{Has}
use Rattle.view_lists.proofs.Members.{has_mapped}
use Rattle.one_history.specs.declared.entry.Entry.{Entry as HistoryEntry}
use Rattle.one_history.specs.declared.view.Frame.{Frame}
use Rattle.one_history.specs.declared.view.View.{View}
use Rattle.tlm_types.specs.declared.entry.Content.{Content}
use Rattle.tlm_types.specs.declared.entry.What.TheVariants.{Call}
use Rattle.tlm_types.specs.declared.words.ObjectNo.{ObjectNo}
use Rattle.tlm_types.specs.declared.words.ObjectNo.TheVariants.{Hop}
use Rattle.tlm_types.specs.declared.words.Phase.TheVariants as Phases
use Rattle.tlm_types.specs.declared.words.ReqMode.{ReqMode}
use Rattle.tlm_types.specs.declared.words.RespMode.{RespMode}
use Rattle.tlm_types.specs.declared.words.RespMode.TheVariants as Resps
use Rattle.tlm_types.specs.declared.words.TlmSync.{TlmSync}
use Rattle.tlm_types.specs.declared.words.TxnId.{TxnId}
use Rattle.tlm_model.specs.Plan.{Plan}
use Rattle.base_phases.specs.declared.phases.LaneState.{LaneState}
use Rattle.base_phases.specs.declared.phases.LaneState.TheVariants.{Free, Requested, Waiting, Responding}
use Rattle.base_phases.specs.Phases.{next_state}
use Rattle.token_book.specs.Account.{Slip}
use Rattle.shared_object.specs.Standing.{AreVouched}
use Rattle.shared_object.specs.Written.{placed}
use Rattle.flow_model.specs.Answers.{request_answer, response_answer}
use Rattle.flow_model.specs.World.{Passage, hop_at, is_refused, row_of}
use Rattle.flow_model.specs.Events.{Among, Event, FindsAt, IsCall, entries}
use Rattle.flow_model.specs.Platform.{world_of}
use Rattle.numbered_log.specs.Logged.{written_by}
use Rattle.numbered_log.proofs.Ordered.{among_has, each_has}
use Rattle.hop_object.specs.View.{HopView}
use Rattle.hop_object.specs.Lanes.{name_at, waits}
use Rattle.hop_object.specs.States.{is_down, number_of_state, state_by}
use Rattle.hop_object.specs.Hops.{Follows, board_of, reached_of, rules_of}
use Rattle.hop_object.specs.Calls.{FetchesDown, FetchesUp, TakesUp}
use Rattle.hop_object.specs.Laws.{OwedNames, state_with}
use Rattle.hop_object.specs.Objects.{given_by}
use Rattle.hop_object.specs.declared.lane.Lane.{Lane}
use Rattle.hop_object.specs.declared.lane.Side.TheVariants as Sides
use Rattle.hop_object.specs.declared.call.HopCall.TheVariants.{FetchDown, FetchUp}
use Rattle.hop_object.specs.declared.call.HopReply.TheVariants.{Down, Up}
use Rattle.hop_object.specs.declared.call.HopTraits.{HopTraits}
use Rattle.hop_object.proofs.LegLemmas.{both, small}
use Rattle.hop_object.proofs.Places.{at_place, read_middle}
use Rattle.hop_object.proofs.ReplyLaws.{fetched_sent, reply_names}
use Rattle.cargo_model.specs.declared.cargo.Cargo.{Cargo}
use Rattle.cargo_model.specs.Called.{IsAnswerIn}
use Rattle.cargo_model.specs.Counts.{responses}
use Rattle.cargo_model.specs.Known.{Known, object_number, objects_of}
use Rattle.cargo_model.specs.Modes.{IsByMode}
use Rattle.cargo_model.proofs.Called.{answers_fit}
use Rattle.cargo_model.proofs.Modes.{are_by_modes}
use Rattle.cargo_model.proofs.Origins.{only_object, stands}
use Rattle.cargo_model.proofs.Up.{fetches}
use Rattle.cargo_net.specs.Carried.{IsAtSide, IsCarried}
use Rattle.cargo_net.specs.Fetched.{HasEndLeg, HasFetchedRequest, HasFetchedResponse, IsHopThere, down_reply, mode_above, up_reply}
use Rattle.cargo_net.specs.Hops.{HasAnswered, IsLegOfLane, MeetsHop}
use Rattle.cargo_net.specs.declared.fetches.FetchedRequest.{FetchedRequest}
use Rattle.cargo_net.specs.declared.fetches.FetchedResponse.{FetchedResponse}
use Rattle.cargo_net.proofs.Lists.{read_there}

among_entries : (es : List Event) (e : Event) → Among es e → Among (entries es) e.entry
among_entries [] e m = m
among_entries (x ∷ es) e (inl q) = inl (ap (λ (y : Event). y.entry) q)
among_entries (x ∷ es) e (inr m) = inr (among_entries es e m)

-- a lane that waits below is open
open_down : (s : LaneState) → is_down s ≡ true → (s ≡ Requested) ⊎ (s ≡ Waiting)
open_down Free e = cc
open_down Requested e = inl refl
open_down Waiting e = inr refl
open_down Responding e = cc

-- the response of a lane that waits below is to come
still_to_come : (row : ReqMode) (answer : TlmSync) (s : LaneState) → IsAnswerIn row answer → next_state Free Phases.BeginReq answer ≡ Some s → (s ≡ Requested) ⊎ (s ≡ Waiting) → responses row answer ≡ 1
still_to_come row answer s fits leads open_lane = grind (arith, common_steps)

place_named : (a s p n : ℕ) → s < 4 → n ≡ 4 * a + s → p ≡ n / 4 → n ≡ 4 * p + s
place_named a s p n few is at = omega arith

same_hop : (a b : ℕ) → Hop a ≡ Hop b → a ≡ b
same_hop a b e = cc

down_only : {A B : Type 0} (way : A ⊎ B) → IsAtSide Sides.Down way → A
down_only (inl a) at = a
down_only (inr b) at = absurd at

up_only : {A B : Type 0} (way : A ⊎ B) → IsAtSide Sides.Up way → B
up_only (inl a) at = absurd at
up_only (inr b) at = b

-- the leg of END_RESP comes with the response where it was accepted
end_leg : (frame : Frame Plan) (tokens : TableId) (number : ℕ) (known : List (HistoryEntry Content)) (x : TxnId) (mode : RespMode) (leg : Option Slip) → state_by (response_answer mode) ≡ state_with leg
    → ((l : Slip) → leg ≡ Some l → IsLegOfLane frame tokens number known x Responding l) → HasEndLeg frame tokens number known x mode leg
end_leg frame tokens number known x Resps.Accept None leads of = cc
end_leg frame tokens number known x Resps.Accept (Some l) leads of = of l refl
end_leg frame tokens number known x Resps.EndResp None leads of = tt
end_leg frame tokens number known x Resps.EndResp (Some l) leads of = cc
end_leg frame tokens number known x Resps.Complete None leads of = tt
end_leg frame tokens number known x Resps.Complete (Some l) leads of = cc

-- a hop stays what it is where a response is fetched
stays : (v : HopView Cargo) (i : ℕ) (w : HopView Cargo) (leg : Option Slip) (x : TxnId) (time : ℕ) (item : Cargo) → TakesUp v i w leg x time item → (w.number ≡ v.number) × (w.traits ≡ v.traits)
stays v i w None x time item t = (ap (λ (y : HopView Cargo). y.number) t.after, ap (λ (y : HopView Cargo). y.traits) t.after)
stays v i w (Some leg) x time item t = (ap (λ (y : HopView Cargo). y.number) t.after, ap (λ (y : HopView Cargo). y.traits) t.after)

module _ (frame : Frame Plan) (tokens : TableId) (number own : ℕ) (note back : View Content Plan) (h : IsHopThere frame.world number) where
  abbrev p : Plan
  p = frame.world

  -- each hop that is built for this number is this one
  met_is : (v : HopView Cargo) → MeetsHop frame tokens number own note.known v → v.number ≡ h.hop
  met_is v meets =
      let built = meets.built_for.world in
      same_hop v.number _ built.object ∙ same_hop built.hop h.hop (only_object p.platform (Hop built.hop) (Hop h.hop) h.there (sym built.place ∙ h.place))

  way_is : (pass : Passage) (k : ℕ) → number ≡ object_number p.platform (Hop (hop_at pass k)) → h.hop ≡ hop_at pass k
  way_is pass k place = sym (same_hop (hop_at pass k) h.hop (only_object p.platform (Hop (hop_at pass k)) (Hop h.hop) h.there (sym place ∙ h.place)))

  object_is : get_or (objects_of p.platform) number (Hop 0) ≡ Hop h.hop
  object_is = read_there (objects_of p.platform) number (Hop h.hop) (Hop 0) (subst (λ (i : ℕ). slice_get (objects_of p.platform) i ≡ Some (Hop h.hop)) (sym h.place) (stands (Hop h.hop) (objects_of p.platform) h.there))

  module _ (after : HopView Cargo) (follows : Follows after) (same : after.number ≡ h.hop) (knows : (w : _) → Has (map (placed number) (map written_by after.log.events)) w → Has back.known w) where
    has_logged : (e : Event) → Among after.log.events e → Has back.known (placed number (written_by e))
    has_logged e m = knows _ (has_mapped (placed number) (map written_by after.log.events) (written_by e) (has_mapped written_by after.log.events e (among_has after.log.events e m)))

    log_known : (e : Event) → Among after.log.events e → Known p.platform back.known e
    log_known e m =
        let at_hop : e.object ≡ get_or (objects_of p.platform) number (Hop 0) = each_has (λ (y : Event). y.object ≡ Hop after.number) after.log.events follows.own e (among_has after.log.events e m) ∙ ap Hop same ∙ sym object_is in
        record {
          entry = placed number (written_by e);
          has = has_logged e m;
          is = ap (λ (at : ObjectNo). record { entry = record { position = e.position; object = at; txn = e.txn; time = e.time; what = e.what }; number = e.number }) at_hop;
        }

  -- a request that was fetched
  pub fetched_down : (r : FetchedRequest) (a : HasAnswered frame tokens number own note back FetchDown (down_reply (Some r))) → Follows a.after → AreVouched (IsCarried p tokens number) (given_by a.before FetchDown (down_reply (Some r))) back.known →
      HasFetchedRequest frame tokens number r back.known
  fetched_down r a follows vouched =
      let f : FetchesDown a.before a.after (Some (r.leg, r.state, r.txn, r.at, r.cargo)) = a.applied in
      let lane = f.2.lane in
      let waiting : waits Sides.Down lane ≡ true = at_place (λ (y : Lane Cargo). waits Sides.Down y ≡ true) a.before.lanes a.before.lanes lane f.0 f.1.waiting refl (read_middle a.before.lanes f.0 lane f.1.place f.2.here) in
      let carried = vouched (r.txn, (Sides.Down, r.cargo)) (0, refl) in
      let v = carried.vouched in
      let down = down_only v.way carried.side in
      let is_hop : h.hop ≡ hop_at v.pass v.hop = way_is v.pass v.hop v.place in
      let same : a.after.number ≡ h.hop = ap (λ (y : HopView Cargo). y.number) f.2.after ∙ met_is a.before a.met in
      let open_lane : (r.state ≡ Requested) ⊎ (r.state ≡ Waiting) = elim (open_down lane.state (both (is_some lane.item) (is_down lane.state) waiting).1) [
        | inl q ↦ inl (f.2.state_is ∙ q)
        | inr q ↦ inr (f.2.state_is ∙ q)
      ] in
      let sent = fetched_sent a.before (unwrap_or a.position 0) FetchDown (Down (Some (r.leg, r.state, r.txn, r.at, r.cargo))) a.after a.met.state a.applied in
      let names = reply_names a.before (unwrap_or a.position 0) FetchDown (Down (Some (r.leg, r.state, r.txn, r.at, r.cargo))) a.after follows a.applied in
      let mode : a.after.traits.req ≡ ((world_of p).hop (hop_at v.pass v.hop)).req =
      ap (λ (y : HopView Cargo). y.traits.req) f.2.after ∙ a.met.built_for.world.req ∙ ap (λ (o : ℕ). ((world_of p).hop o).req) (sym (same_hop _ _ a.met.built_for.world.object) ∙ met_is a.before a.met ∙ is_hop) in
      let by_mode : IsByMode (rules_of a.after) (Call Phases.BeginReq sent.answer) =
      subst (IsByMode (rules_of a.after)) sent.call.is.what (are_by_modes (rules_of a.after) (entries a.after.log.events) (board_of a.after) (reached_of a.after follows) sent.call.event.entry (among_entries a.after.log.events sent.call.event sent.call.known)) in
      let fits : IsAnswerIn (row_of (world_of p) v.pass v.hop) sent.answer =
      subst (IsAnswerIn (row_of (world_of p) v.pass v.hop)) (sym (by_mode.1 ∙ ap (λ (m : ReqMode). request_answer m by_mode.0) mode)) (answers_fit ((world_of p).hop (hop_at v.pass v.hop)).req (is_refused (world_of p) v.pass v.hop) by_mode.0) in
      record {
        pass = v.pass;
        hop = v.hop;
        place = v.place;
        down = down;
        leg_of = record {
          table = ap (λ (t : Slip). t.table) f.2.leg_is ∙ a.met.built_for.book.0;
          owner = ap (λ (t : Slip). t.owner) f.2.leg_is ∙ a.met.built_for.book.1;
          entry = placed number (written_by names.event);
          has = has_logged a.after follows same a.enters.knows names.event names.known;
          object = refl;
          txn = names.is.0.call.txn;
          name = place_named lane.position (number_of_state r.state) names.event.position r.leg.name (small r.state) (ap (λ (t : Slip). t.name) f.2.leg_is ∙ ap (λ (s : LaneState). name_at lane.position s) (sym f.2.state_is)) names.is.1;
        };
        open_lane = open_lane;
        answer = sent.answer;
        begun = record {
          event = sent.call.event;
          known = log_known a.after follows same a.enters.knows sent.call.event sent.call.known;
          is = subst (λ (o : ℕ). IsCall r.txn o Phases.BeginReq sent.answer sent.call.event) (same ∙ is_hop) sent.call.is;
          time = sent.call.time;
        };
        fits = fits;
        responds = still_to_come (row_of (world_of p) v.pass v.hop) sent.answer r.state fits sent.leads open_lane;
        leads = sent.leads;
      }

  -- the leg that comes with a response is that of the lane of x
  leg_up : (v : HopView Cargo) → MeetsHop frame tokens number own note.known v → (i : ℕ) (w : HopView Cargo) (leg : Option Slip) (x : TxnId) (time : ℕ) (item : Cargo) → TakesUp v i w leg x time item → OwedNames w leg x
      → Follows w → w.number ≡ h.hop → ((d : _) → Has (map (placed number) (map written_by w.log.events)) d → Has back.known d) → (l : Slip) → leg ≡ Some l → IsLegOfLane frame tokens number back.known x Responding l
  leg_up v meets i w None x time item t names follows same knows l q = absurd (none l q)
    where
      none : (l : Slip) → None ≡ Some l → ⊥
      none l q = cc
  leg_up v meets i w (Some m) x time item t names follows same knows l q = subst (IsLegOfLane frame tokens number back.known x Responding) (one m l q) leg_of
    where
      one : (a b : Slip) → Some a ≡ Some b → a ≡ b
      one a b q = cc

      leg_of : IsLegOfLane frame tokens number back.known x Responding m
      leg_of = record {
        table = ap (λ (d : Slip). d.table) t.leg_is ∙ meets.built_for.book.0;
        owner = ap (λ (d : Slip). d.owner) t.leg_is ∙ meets.built_for.book.1;
        entry = placed number (written_by names.event);
        has = has_logged w follows same knows names.event names.known;
        object = refl;
        txn = names.is.0.call.txn;
        name = place_named t.lane.position 3 names.event.position m.name (omega arith) (ap (λ (d : Slip). d.name) t.leg_is ∙ ap (λ (s : LaneState). name_at t.lane.position s) (sym t.state_is)) names.is.1;
      }

  -- a response that was fetched
  pub fetched_up : (r : FetchedResponse) (a : HasAnswered frame tokens number own note back FetchUp (up_reply (Some r))) → Follows a.after → AreVouched (IsCarried p tokens number) (given_by a.before FetchUp (up_reply (Some r))) back.known →
      HasFetchedResponse frame tokens number r back.known
  fetched_up r a follows vouched =
      let f : FetchesUp a.before a.after (Some (r.leg, r.txn, r.at, r.cargo)) = a.applied in
      let carried = vouched (r.txn, (Sides.Up, r.cargo)) (0, refl) in
      let v = carried.vouched in
      let is_hop : h.hop ≡ hop_at v.pass v.hop = way_is v.pass v.hop v.place in
      let as_was = stays a.before f.0 a.after r.leg r.txn r.at r.cargo f.2 in
      let same : a.after.number ≡ h.hop = as_was.0 ∙ met_is a.before a.met in
      let sent = fetched_sent a.before (unwrap_or a.position 0) FetchUp (Up (Some (r.leg, r.txn, r.at, r.cargo))) a.after a.met.state a.applied in
      let names = reply_names a.before (unwrap_or a.position 0) FetchUp (Up (Some (r.leg, r.txn, r.at, r.cargo))) a.after follows a.applied in
      let mode : a.after.traits.resp ≡ mode_above p v.pass v.hop =
      ap (λ (t : HopTraits). t.resp) as_was.1 ∙ a.met.built_for.world.resp ∙ ap (λ (o : ℕ). ((world_of p).hop o).resp) (sym (same_hop _ _ a.met.built_for.world.object) ∙ met_is a.before a.met ∙ is_hop) in
      let by_mode : IsByMode (rules_of a.after) (Call Phases.BeginResp sent.answer) =
      subst (IsByMode (rules_of a.after)) sent.call.is.what (are_by_modes (rules_of a.after) (entries a.after.log.events) (board_of a.after) (reached_of a.after follows) sent.call.event.entry (among_entries a.after.log.events sent.call.event sent.call.known)) in
      let answer : sent.answer ≡ response_answer (mode_above p v.pass v.hop) = by_mode ∙ ap response_answer mode in
      let made : FindsAt (Known p.platform back.known) (IsCall r.txn (hop_at v.pass v.hop) Phases.BeginResp (response_answer (mode_above p v.pass v.hop))) r.at = record {
        event = sent.call.event;
        known = log_known a.after follows same a.enters.knows sent.call.event sent.call.known;
        is = subst (λ (b : TlmSync). IsCall r.txn (hop_at v.pass v.hop) Phases.BeginResp b sent.call.event) answer (subst (λ (o : ℕ). IsCall r.txn o Phases.BeginResp sent.answer sent.call.event) (same ∙ is_hop) sent.call.is);
        time = sent.call.time;
      } in
      record {
        pass = v.pass;
        hop = v.hop;
        place = v.place;
        up = fetches (record { p = p; tokens = tokens; entries = back.known; x = r.txn; pass = v.pass; c = r.cargo }) v.hop (up_only v.way carried.side) (record { event = made.event; known = made.known; is = made.is });
        leg_of = end_leg frame tokens number back.known r.txn (mode_above p v.pass v.hop) r.leg (subst (λ (b : TlmSync). state_by b ≡ state_with r.leg) answer sent.leads) (leg_up a.before a.met f.0 a.after r.leg r.txn r.at r.cargo f.2 names follows same a.enters.knows);
        made = made;
      }
