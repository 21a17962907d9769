-- What a note and the log of a hop know backs BEGIN_RESP with a payload, what it brings, and what it leaves.
use Rattle.std.proofs.Common.{◌≡◌, ◌⊎◌, ℕ, ◌+◌, ◌*◌, ◌<◌, ◌≤◌, List, ◌++◌, map, max, Bool, true, false, Option, Some, None, refl, sym, ◌∙◌, ap, arith, subst, inl, inr}
use Rattle.std.specs.Prelude.{◌&&◌, ◌%◌, not}
use Rattle.atomic_table.specs.Seated.{TableId}
use Rattle.view_lists.specs.Lists.{Within}
use Rattle.view_lists.proofs.Members.{has_none}
use Rattle.one_history.specs.declared.entry.Entry.{Entry as HistoryEntry}
use Rattle.one_history.specs.declared.view.Frame.{Frame}
use Rattle.one_history.specs.declared.view.View.{View}
use Rattle.tlm_types.specs.declared.entry.Content.{Content}
use Rattle.tlm_types.specs.declared.words.ObjectNo.TheVariants.{Hop}
use Rattle.tlm_types.specs.declared.words.Phase.TheVariants as Phases
use Rattle.tlm_types.specs.declared.words.TlmSync.{TlmSync}
use Rattle.tlm_types.specs.declared.words.TxnId.{TxnId}
use Rattle.tlm_model.specs.Plan.{Plan}
use Rattle.base_phases.specs.declared.phases.LaneState.{LaneState}
use Rattle.base_phases.specs.declared.phases.LaneState.TheVariants.{Requested, Waiting}
use Rattle.token_book.specs.Account.{Slip}
use Rattle.token_book.specs.Purse.{HasRoom, Purse, left_of}
use Rattle.shared_object.specs.Standing.{AreVouched, IsBuiltFor, place}
use Rattle.shared_object.specs.Written.{placed, wrote}
use Rattle.flow_model.specs.Answers.{response_answer}
use Rattle.flow_model.specs.World.{hop_at, row_of}
use Rattle.flow_model.specs.Events.{Among, Event, FindsAt, IsCall, IsOwn}
use Rattle.flow_model.specs.Backed.{EndsResponse}
use Rattle.flow_model.specs.Platform.{world_of}
use Rattle.flow_model.proofs.More.{up_more}
use Rattle.numbered_log.specs.Logged.{written_by}
use Rattle.hop_object.specs.View.{HopView}
use Rattle.hop_object.specs.Hops.{IsLegOf}
use Rattle.hop_object.specs.Lanes.{any_responding, has_leg}
use Rattle.hop_object.specs.Objects.{built_of, brought_by, content_by, is_admitted, knows, lane_of, last_of, of_lane, txn_of}
use Rattle.hop_object.specs.States.{number_of_state}
use Rattle.hop_object.specs.Calls.{AnswersResponse}
use Rattle.hop_object.specs.declared.call.HopCall.TheVariants.{BeginResp}
use Rattle.hop_object.specs.declared.call.HopReply.TheVariants as Replies
use Rattle.hop_object.specs.declared.call.Responded.{Responded}
use Rattle.hop_object.specs.declared.call.Responded.TheVariants.{Sent, Busy}
use Rattle.hop_object.specs.declared.lane.Lane.{Lane}
use Rattle.hop_object.proofs.LegLaws.{has_times}
use Rattle.hop_object.proofs.LegLemmas.{both, small}
use Rattle.hop_object.proofs.Places.{found_any}
use Rattle.cargo_model.specs.declared.cargo.Cargo.{Cargo}
use Rattle.cargo_model.specs.Counts.{calls_down}
use Rattle.cargo_model.specs.Known.{Known, event_of, object_number}
use Rattle.cargo_model.specs.Laws.{Case, IsTimely}
use Rattle.cargo_model.specs.Tickets.{Pulls, Puts}
use Rattle.cargo_model.specs.Travel.{GoesUp, Ready, with_wallet}
use Rattle.cargo_model.proofs.Backs.{responds_backed}
use Rattle.cargo_model.proofs.Down.{few_ends}
use Rattle.cargo_model.proofs.More.{goes_up_more}
use Rattle.cargo_model.proofs.Up.{responds, responds_refused}
use Rattle.cargo_net.specs.Carried.{IsCarried}
use Rattle.hop_object.specs.declared.lane.Side.TheVariants.{Up}
use Rattle.cargo_net.specs.Hops.{HasAnswered, MeetsHop}
use Rattle.cargo_net.specs.Responds.{HasResponded, MayRespond}
use Rattle.cargo_net.specs.Traffic.{Backs, IsHopBuilt}
use Rattle.cargo_net.specs.Wallets.{HoldsSame, IsPutBack}
use Rattle.cargo_net.proofs.HopLogs.{all_known, built_hop, call_is, finds_logged_at, known_of_note, leg_last, leg_txn, made}
use Rattle.cargo_net.proofs.Lists.{latest_of, no_less_still, one_vouched}
use Rattle.cargo_net.proofs.PayloadWallets.{holds_same, room_left}

module _ (frame : Frame Plan) (tokens : TableId) (number own : ℕ) (leg : Slip) (c : Cargo) (at : ℕ) (note : View Content Plan) (may : MayRespond frame tokens number leg c at note.known) where
  abbrev p : Plan
  p = frame.world

  abbrev x : TxnId
  x = c.baton.txn

  not_free : 0 < number_of_state may.state
  not_free = elim may.open_lane [
    | inl q ↦ subst (λ (s : LaneState). 0 < number_of_state s) (sym q) (omega arith)
    | inr q ↦ subst (λ (s : LaneState). 0 < number_of_state s) (sym q) (omega arith)
  ]

  -- the leg fits each hop that may stand there
  pub fits : (o : HopView Cargo) → IsBuiltFor IsHopBuilt (place frame tokens number own) (built_of o) → IsLegOf o leg Requested ⊎ IsLegOf o leg Waiting
  fits o built = elim may.open_lane [
    | inl q ↦ inl (subst (IsLegOf o leg) q leg_fits)
    | inr q ↦ inr (subst (IsLegOf o leg) q leg_fits)
  ]
    where
      rest : (q s : ℕ) → s < 4 → (4 * q + s) % 4 ≡ s
      rest q s few = omega arith

      leg_fits : IsLegOf o leg may.state
      leg_fits = record {
        table = may.leg_of.table ∙ sym built.book.0;
        owner = may.leg_of.owner ∙ sym built.book.1;
        state_is = ap (λ (i : ℕ). i % 4) may.leg_of.name ∙ rest may.leg_of.entry.position (number_of_state may.state) (small may.state);
      }

  lane_txn : (o : HopView Cargo) → MeetsHop frame tokens number own note.known o → knows o leg ≡ true → txn_of (lane_of o leg) ≡ x
  lane_txn o meets there = leg_txn frame tokens number own note x may.pass may.hop may.way o meets may.state leg not_free may.leg_of there

  abbrev here : List (HistoryEntry Content) → Case
  here l = record { p = p; tokens = tokens; entries = l; x = x; pass = may.pass; c = c }

  -- two tickets of the hop are there at least, for BEGIN_RESP and what comes after it
  pub two_left : 1 < left_of c.baton.wallet number
  two_left = subst (λ (i : ℕ). 1 < left_of c.baton.wallet i) (sym may.way.place) (enough _ (calls_down (row_of (world_of p) may.pass may.hop)) few ((may.up.tickets.hops may.hop may.way.below).here refl))
    where
      few : calls_down (row_of (world_of p) may.pass may.hop) ≤ 2
      few = let f = few_ends (row_of (world_of p) may.pass may.hop) in omega arith

      enough : (left calls : ℕ) → calls ≤ 2 → left + calls ≡ 4 → 1 < left
      enough left calls few sum = omega arith

  module _ (w : Purse) (pull : Pulls tokens number 0 c.baton.wallet w) where
    abbrev item : Cargo
    item = with_wallet c w

    pub room : HasRoom w number
    room = room_left tokens number c.baton.wallet w pull two_left

    pub backed : (o : HopView Cargo) (q : ℕ) → MeetsHop frame tokens number own note.known o → is_admitted o (BeginResp leg at item) ≡ true →
        Backs p (map (placed number) (map written_by o.log.events) ++ note.known) (placed number (wrote q (content_by o (BeginResp leg at item))))
    backed o q meets admitted =
        let there : knows o leg ≡ true = (both _ _ admitted).0 in
        let all = all_known frame tokens number own note x may.pass may.hop may.way o meets in
        let more = known_of_note frame tokens number own note x may.pass may.hop may.way o meets in
        let e : Event = event_of p.platform (placed number (wrote q (content_by o (BeginResp leg at item)))) in
        responds_backed (here all) may.hop (goes_up_more p tokens (Known p.platform note.known) (Known p.platform all) more x may.pass Ready may.hop c may.up) e
        (record { answer = response_answer o.traits.resp; call = call_is frame tokens number own note x may.pass may.hop may.way o meets (BeginResp leg at item) q x (lane_txn o meets there) })
        at (up_more (world_of p) (Known p.platform note.known) (Known p.platform all) more x (hop_at may.pass may.hop) _ at may.least)
        (timely (last_of (lane_of o leg)) (leg_last frame tokens number own note x may.pass may.hop may.way o meets may.state leg not_free may.leg_of there))
        (λ r. (let f = may.ended r in record { event = f.event; known = more f.event f.known; is = record { answer = _; call = f.is } }))
      where
        timely : (last : ℕ) → FindsAt (Known p.platform (all_known frame tokens number own note x may.pass may.hop may.way o meets)) (IsOwn x (hop_at may.pass may.hop)) last →
            IsTimely (here (all_known frame tokens number own note x may.pass may.hop may.way o meets)) may.hop Phases.BeginResp at (max (max at last) o.response_end)
        timely last f = elim (latest_of at last o.response_end) [
          | inl e ↦ inl e
          | inr (inl e) ↦ inr (e.0, record { event = f.event; known = f.known; is = inl f.is; time = f.time ∙ sym e.1 })
          | inr (inr e) ↦ by_response e.0 e.1 (has_times o meets.state).response
        ]
          where
            by_response : at < max (max at last) o.response_end → max (max at last) o.response_end ≡ o.response_end → (o.response_end ≡ 0) ⊎ FindsAt (Among o.log.events) (EndsResponse o.number) o.response_end →
                IsTimely (here (all_known frame tokens number own note x may.pass may.hop may.way o meets)) may.hop Phases.BeginResp at (max (max at last) o.response_end)
            by_response l e (inl z) = absurd (nothing _ l (e ∙ z))
              where
                nothing : (m : ℕ) → at < m → m ≡ 0 → ⊥
                nothing m l q = omega (arith, l, q)
            by_response l e (inr f) =
                let g = finds_logged_at frame tokens number own note x may.pass may.hop may.way o meets EndsResponse o.response_end f in
                inr (l, record { event = g.event; known = g.known; is = inr g.is; time = g.time ∙ sym e })

    pulls : Pulls tokens (object_number p.platform (Hop (hop_at may.pass may.hop))) 0 c.baton.wallet w
    pulls = subst (λ (n : ℕ). Pulls tokens n 0 c.baton.wallet w) may.way.place pull

    carried : IsCarried p tokens number x (Up, item) note.known
    carried = record {
      vouched = record {
        pass = may.pass;
        hop = may.hop;
        place = may.way.place;
        way = inr (responds (here note.known) may.hop may.up may.answer w may.apart may.begun may.fits may.responds may.ended pulls);
      };
      side = tt;
    }

    pub vouched : (o : HopView Cargo) → MeetsHop frame tokens number own note.known o → AreVouched (IsCarried p tokens number) (brought_by o (BeginResp leg at item)) note.known
    vouched o meets = go (lane_of o leg) refl
      where
        go : (l : Option (Lane Cargo)) → lane_of o leg ≡ l → AreVouched (IsCarried p tokens number) (of_lane l item) note.known
        go None q = λ z h. absurd (has_none z h)
        go (Some lane) q =
            let txn : lane.txn ≡ x = sym (ap (λ (l : Option (Lane Cargo)). txn_of l) q) ∙ lane_txn o meets (found_any (has_leg leg.name) o.lanes lane q) in
            one_vouched (IsCarried p tokens number) lane.txn (Up, item) note.known (subst (λ (y : TxnId). IsCarried p tokens number y (Up, item) note.known) (sym txn) carried)

    -- where no response is open, the entry is there
    pub sent : (back : View Content Plan) (answer : TlmSync) (time : ℕ) → HasAnswered frame tokens number own note back (BeginResp leg at item) (Replies.Responded (Sent answer time)) → HasResponded frame at x may.pass may.hop answer time back.known
    sent back answer time a = by_lanes (any_responding a.before.lanes) refl
      where
        never : (h : TxnId) (l : Slip) (i : Cargo) → ◌≡◌ {A = Responded Cargo} (Sent answer time) (Busy h l i) → ⊥
        never h l i e = cc

        answer_in : Responded Cargo → TlmSync
        answer_in (Sent b t) = b
        answer_in (Busy h l i) = answer

        time_in : Responded Cargo → ℕ
        time_in (Sent b t) = t
        time_in (Busy h l i) = 0

        by_lanes : (b : Bool) → any_responding a.before.lanes ≡ b → HasResponded frame at x may.pass may.hop answer time back.known
        by_lanes true q = let r = a.applied.busy q in absurd (never _ _ _ r.answer_is)
        by_lanes false q =
            let r = a.applied.sent q in
            let there : knows a.before leg ≡ true = found_any (has_leg leg.name) a.before.lanes r.lane r.leg_is in
            let admitted : is_admitted a.before (BeginResp leg at item) ≡ true = ap (λ (b : Bool). b && not (any_responding a.before.lanes)) there ∙ ap (λ (b : Bool). true && not b) q in
            let by_mode : answer ≡ response_answer a.before.traits.resp = ap answer_in r.answer_is in
            let t : time ≡ max (max at r.lane.last) a.before.response_end = ap time_in r.answer_is ∙ r.time_is in
            let built = a.met.built_for.world in
            let f = made frame tokens number own note x may.pass may.hop may.way back (BeginResp leg at item) (Replies.Responded (Sent answer time)) a admitted x (lane_txn a.before a.met there) in
            record {
              late = subst (λ (i : ℕ). at ≤ i) (sym t) (no_less_still at r.lane.last a.before.response_end);
              answer_is = by_mode ∙ (ap response_answer built.resp ∙ ap (λ (h : ℕ). response_answer ((world_of p).hop h).resp) (built_hop frame tokens number own note x may.pass may.hop may.way (built_of a.before) built));
              made = subst (λ (b : TlmSync). FindsAt (Known p.platform back.known) (IsCall x (hop_at may.pass may.hop) Phases.BeginResp b) time) (sym by_mode)
                  (record { event = f.event; known = f.known; is = f.is; time = f.time ∙ (ap (λ (l : Option (Lane Cargo)). max (max at (last_of l)) a.before.response_end) r.leg_is ∙ sym t) });
            }

    -- where a response is open, the leg and the payload come back
    pub refused : (before after : HopView Cargo) (position : ℕ) (holder : TxnId) (same : Slip) (back : Cargo) → AnswersResponse before leg position at item after (Busy holder same back) → (any_responding before.lanes ≡ true) × (same ≡ leg) × (back ≡ item)
    refused before after position holder same back a = by_lanes (any_responding before.lanes) refl
      where
        never : (b : TlmSync) (t : ℕ) → ◌≡◌ {A = Responded Cargo} (Busy holder same back) (Sent b t) → ⊥
        never b t e = cc

        leg_in : Responded Cargo → Slip
        leg_in (Sent b t) = same
        leg_in (Busy h l i) = l

        item_in : Responded Cargo → Cargo
        item_in (Sent b t) = back
        item_in (Busy h l i) = i

        by_lanes : (b : Bool) → any_responding before.lanes ≡ b → (any_responding before.lanes ≡ true) × (same ≡ leg) × (back ≡ item)
        by_lanes true q = let r = a.busy q in (q, ap leg_in r.answer_is, ap item_in r.answer_is)
        by_lanes false q = let r = a.sent q in absurd (never _ _ r.answer_is)

    -- and the payload may go up as before, with all its tickets
    pub kept : (more : List (HistoryEntry Content)) → Within note.known more → (back new : Cargo) → back ≡ item → IsPutBack tokens number back new →
        (new ≡ with_wallet c new.baton.wallet) × HoldsSame new.baton.wallet c.baton.wallet × GoesUp p tokens (Known p.platform more) x may.pass Ready may.hop new
    kept more within back new same put =
        let q : IsPutBack tokens number item new = subst (λ (d : Cargo). IsPutBack tokens number d new) same put in
        let n : new ≡ with_wallet c new.baton.wallet = q.same in
        let puts = subst (λ (i : ℕ). Puts tokens i w new.baton.wallet) may.way.place q.puts in (
          n,
          holds_same tokens number c.baton.wallet w new.baton.wallet pull q.puts two_left,
          subst (λ (d : Cargo). GoesUp p tokens (Known p.platform more) x may.pass Ready may.hop d) (sym n)
              (goes_up_more p tokens (Known p.platform note.known) (Known p.platform more) (λ e k. record { entry = k.entry; has = within k.entry k.has; is = k.is }) x may.pass Ready may.hop (with_wallet c new.baton.wallet)
              (responds_refused (here note.known) may.hop may.up w new.baton.wallet pulls puts)),
        )
