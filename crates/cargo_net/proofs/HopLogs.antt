-- What the log of a hop tells who knows it: whose lane a leg is, the calls that may delay a call, and the entry that a call added.
use Rattle.std.proofs.Common.{◌≡◌, ℕ, ◌+◌, ◌*◌, ◌<◌, ◌==◌, eq-eqb, List, [], ◌∷◌, ◌++◌, get_or, map, true, false, Option, Some, None, refl, sym, ◌∙◌, ap, arith, subst}
use Rattle.std.specs.Prelude.{◌/◌, ◌%◌, slice_get, MatchOption}
use Rattle.std.proofs.lemmas.Bool.{eqb-true}
use Rattle.tlm_model.specs.History.{is_object}
use Rattle.atomic_table.specs.Seated.{TableId}
use Rattle.view_lists.specs.Lists.{Has}
use Rattle.view_lists.proofs.Keys.{of_key-has}
use Rattle.view_lists.proofs.Members.{has_left, has_map, has_mapped, has_right}
use Rattle.one_history.specs.declared.entry.Entry.{Entry as HistoryEntry}
use Rattle.one_history.specs.declared.view.Frame.{Frame}
use Rattle.one_history.specs.declared.view.View.{View}
use Rattle.one_history.specs.Lists.{entries_at, object_of}
use Rattle.tlm_types.specs.declared.entry.Content.{Content}
use Rattle.tlm_types.specs.declared.words.ObjectNo.{ObjectNo}
use Rattle.tlm_types.specs.declared.words.ObjectNo.TheVariants.{Hop}
use Rattle.tlm_types.specs.declared.words.TxnId.{TxnId}
use Rattle.tlm_model.specs.Plan.{Plan}
use Rattle.base_phases.specs.declared.phases.LaneState.{LaneState}
use Rattle.token_book.specs.Account.{Slip}
use Rattle.shared_object.specs.Steps.{addition}
use Rattle.shared_object.specs.Written.{Built, Written, placed, written, wrote}
use Rattle.flow_model.specs.World.{Passage, hop_at}
use Rattle.flow_model.specs.Events.{Among, Event, Finds, FindsAt, IsCall, IsOwn}
use Rattle.numbered_log.specs.Logged.{written_by}
use Rattle.numbered_log.proofs.Ordered.{among_has, each_has}
use Rattle.hop_object.specs.View.{HopView}
use Rattle.hop_object.specs.States.{number_of_state}
use Rattle.hop_object.specs.Objects.{answer_by, content_by, is_admitted, knows, lane_of, last_of, phase_by, state_of, time_by, txn_by, txn_of}
use Rattle.hop_object.specs.declared.call.HopCall.{HopCall}
use Rattle.hop_object.specs.declared.call.HopReply.{HopReply}
use Rattle.hop_object.specs.declared.call.HopTraits.{HopTraits}
use Rattle.hop_object.proofs.LegLaws.{has_times, names_transaction}
use Rattle.hop_object.proofs.LegLemmas.{small}
use Rattle.cargo_model.specs.declared.cargo.Cargo.{Cargo}
use Rattle.cargo_model.specs.Known.{Known, event_of, objects_of}
use Rattle.cargo_model.proofs.Origins.{stands}
use Rattle.cargo_net.specs.Hops.{HasAnswered, IsLegOfLane, IsOnWay, MeetsHop}
use Rattle.cargo_net.specs.Traffic.{IsHopBuilt}
use Rattle.cargo_net.proofs.Lists.{at_position, read_there}

place_of_leg : (position s n : ℕ) → s < 4 → n ≡ 4 * position + s → (position ≡ n / 4) × (n % 4 ≡ s)
place_of_leg position s n few is = (omega arith, omega arith)

module _ (frame : Frame Plan) (tokens : TableId) (number own : ℕ) (note : View Content Plan) (x : TxnId) (pass : Passage) (k : ℕ) (way : IsOnWay frame.world number note.known x pass k) where
  abbrev p : Plan
  p = frame.world

  stands_there : slice_get (objects_of p.platform) number ≡ Some (Hop (hop_at pass k))
  stands_there = subst (λ (i : ℕ). slice_get (objects_of p.platform) i ≡ Some (Hop (hop_at pass k))) (sym way.place) (stands (Hop (hop_at pass k)) (objects_of p.platform) way.there)

  -- the object of this number
  pub object_is : get_or (objects_of p.platform) number (Hop 0) ≡ Hop (hop_at pass k)
  object_is = read_there (objects_of p.platform) number (Hop (hop_at pass k)) (Hop 0) stands_there

  -- a hop that is built for this number is hop k of the way
  pub built_hop : (b : Built HopTraits) (h : IsHopBuilt p number b) → h.hop ≡ hop_at pass k
  built_hop b h =
      eqb-true _ _ (turned _ _ (at_position (is_object (Hop h.hop)) (objects_of p.platform) (Hop (hop_at pass k)) (subst (λ (i : ℕ). slice_get (objects_of p.platform) i ≡ Some (Hop (hop_at pass k))) h.place stands_there)))
    where
      turned : (a b : ℕ) → (a == b) ≡ true → (b == a) ≡ true
      turned a b q = eq-eqb b a (sym (eqb-true a b q))

  module _ (o : HopView Cargo) (meets : MeetsHop frame tokens number own note.known o) where
    -- what is known in the call: the hop's log, and what the note knows
    abbrev pub all_known : List (HistoryEntry Content)
    all_known = map (placed number) (map written_by o.log.events) ++ note.known

    pub known_of_note : (e : Event) → Known p.platform note.known e → Known p.platform all_known e
    known_of_note e q = record { entry = q.entry; has = has_right (map (placed number) (map written_by o.log.events)) note.known q.entry q.has; is = q.is }

    -- the hop that is met is hop k of the way
    pub hop_is : o.number ≡ hop_at pass k
    hop_is = same o.number _ meets.built_for.world.object ∙ built_hop _ meets.built_for.world
      where
        same : (a b : ℕ) → Hop a ≡ Hop b → a ≡ b
        same a b e = cc

    -- each call in its log is known as it stands there
    pub log_known : (e : Event) → Among o.log.events e → Known p.platform all_known e
    log_known e m =
        let at_hop : e.object ≡ get_or (objects_of p.platform) number (Hop 0) = each_has (λ (y : Event). y.object ≡ Hop o.number) o.log.events meets.state.own e (among_has o.log.events e m) ∙ ap Hop hop_is ∙ sym object_is in
        record {
          entry = placed number (written_by e);
          has = has_left (map (placed number) (map written_by o.log.events)) note.known _ (has_mapped (placed number) (map written_by o.log.events) (written_by e) (has_mapped written_by o.log.events e (among_has o.log.events e m)));
          is = ap (λ (at : ObjectNo). record { entry = record { position = e.position; object = at; txn = e.txn; time = e.time; what = e.what }; number = e.number }) at_hop;
        }

    pub finds_logged : (P : ℕ → Event → Type 0) → Finds (Among o.log.events) (P o.number) → Finds (Known p.platform all_known) (P (hop_at pass k))
    finds_logged P f = record { event = f.event; known = log_known f.event f.known; is = subst (λ (i : ℕ). P i f.event) hop_is f.is }

    pub finds_logged_at : (P : ℕ → Event → Type 0) (t : ℕ) → FindsAt (Among o.log.events) (P o.number) t → FindsAt (Known p.platform all_known) (P (hop_at pass k)) t
    finds_logged_at P t f = record { event = f.event; known = log_known f.event f.known; is = subst (λ (i : ℕ). P i f.event) hop_is f.is; time = f.time }

    -- a call that is taken, as its entry says it
    pub call_is : (call : HopCall Cargo) (q : ℕ) (y : TxnId) → txn_by o call ≡ y → IsCall y (hop_at pass k) (phase_by call) (answer_by o call) (event_of p.platform (placed number (wrote q (content_by o call))))
    call_is call q y txn = record { object = object_is; txn = txn; what = refl }

    module _ (state : LaneState) (leg : Slip) (live : 0 < number_of_state state) (leg_of : IsLegOfLane frame tokens number note.known x state leg) where
      leg_place : (leg_of.entry.position ≡ leg.name / 4) × (leg.name % 4 ≡ number_of_state state)
      leg_place = place_of_leg leg_of.entry.position (number_of_state state) leg.name (small state) leg_of.name

      leg_live : 0 < leg.name % 4
      leg_live = subst (λ (i : ℕ). 0 < i) (sym leg_place.1) live

      -- the lane of a leg of x is that of x
      pub leg_txn : knows o leg ≡ true → txn_of (lane_of o leg) ≡ x
      leg_txn there =
          let here = has_mapped written (entries_at number note.known) leg_of.entry (subst (λ (i : ℕ). Has (entries_at i note.known) leg_of.entry) leg_of.object (of_key-has object_of note.known leg_of.entry leg_of.has)) in
          let m = has_map written_by o.log.events (written leg_of.entry) (meets.knows (written leg_of.entry) here) in
          (names_transaction o leg meets.state there leg_live).one m.0 m.1 (ap (λ (v : Written). v.position) m.2 ∙ leg_place.0) ∙ ap (λ (v : Written). v.content.txn) m.2 ∙ leg_of.txn

      -- its state is the one that the leg names
      pub leg_state : knows o leg ≡ true → number_of_state (state_of (lane_of o leg)) ≡ number_of_state state
      leg_state there = (names_transaction o leg meets.state there leg_live).state ∙ leg_place.1

      -- and its last call is known
      pub leg_last : knows o leg ≡ true → FindsAt (Known p.platform all_known) (IsOwn x (hop_at pass k)) (last_of (lane_of o leg))
      leg_last there = finds_logged_at (IsOwn x) (last_of (lane_of o leg)) (subst (λ (y : TxnId). FindsAt (Among o.log.events) (IsOwn y o.number) (last_of (lane_of o leg))) (leg_txn there) ((has_times o meets.state).last leg there leg_live))

  module _ (back : View Content Plan) (call : HopCall Cargo) (reply : HopReply Cargo) (a : HasAnswered frame tokens number own note back call reply) (admitted : is_admitted a.before call ≡ true) where
    -- the entry of a call that was taken, which the note that comes back knows
    pub record IsEntered : Type 0 where
      pub position : ℕ
      pub is : a.position ≡ Some position
      pub has : Has back.known (placed number (wrote position (content_by a.before call)))

    pub entered : IsEntered
    entered = by a.position refl a.enters.when a.enters.log
      where
        by : (z : Option ℕ) → a.position ≡ z → MatchOption z (is_admitted a.before call ≡ false) (λ _. is_admitted a.before call ≡ true) →
            map written_by a.after.log.events ≡ map written_by a.before.log.events ++ addition z (content_by a.before call) → IsEntered
        by None q refused log = absurd (differ (sym refused ∙ admitted))
          where
            differ : false ≡ true → ⊥
            differ e = cc
        by (Some z) q taken log = record {
          position = z;
          is = q;
          has = a.enters.knows _ (has_mapped (placed number) (map written_by a.after.log.events) (wrote z (content_by a.before call))
              (subst (λ (l : List Written). Has l (wrote z (content_by a.before call))) (sym log) (has_right (map written_by a.before.log.events) (wrote z (content_by a.before call) ∷ []) _ (0, refl))));
        }

    pub made : (y : TxnId) → txn_by a.before call ≡ y → FindsAt (Known p.platform back.known) (IsCall y (hop_at pass k) (phase_by call) (answer_by a.before call)) (time_by a.before call)
    made y txn = record {
      event = event_of p.platform (placed number (wrote entered.position (content_by a.before call)));
      known = record { entry = placed number (wrote entered.position (content_by a.before call)); has = entered.has; is = refl };
      is = call_is a.before a.met call entered.position y txn;
      time = refl;
    }
