-- What a note and the log of a hop know backs BEGIN_REQ with a payload, what it brings, and what it leaves.
use Rattle.std.proofs.Common.{◌≡◌, ◌⊎◌, ℕ, zero, suc, ◌+◌, ◌*◌, ◌<◌, ◌≤◌, List, ◌++◌, map, max, Bool, true, false, Option, Some, None, refl, sym, ◌∙◌, ap, arith, subst, inl, inr}
use Rattle.std.specs.Prelude.{MatchOption}
use Rattle.std.proofs.lemmas.Grind.{common_steps}
use Rattle.std.specs.Option.{unwrap_or}
use Rattle.atomic_table.specs.Seated.{TableId}
use Rattle.view_lists.specs.Lists.{Within}
use Rattle.one_history.specs.declared.entry.Entry.{Entry as HistoryEntry}
use Rattle.one_history.specs.declared.view.Frame.{Frame}
use Rattle.one_history.specs.declared.view.View.{View}
use Rattle.tlm_types.specs.declared.entry.Content.{Content}
use Rattle.tlm_types.specs.declared.words.ObjectNo.TheVariants.{Hop}
use Rattle.tlm_types.specs.declared.words.Phase.TheVariants as Phases
use Rattle.tlm_types.specs.declared.words.ReqMode.{ReqMode}
use Rattle.tlm_types.specs.declared.words.TlmSync.{TlmSync}
use Rattle.tlm_types.specs.declared.words.TlmSync.TheVariants.{Accepted, Updated, Completed}
use Rattle.tlm_types.specs.declared.words.TxnId.{TxnId}
use Rattle.tlm_model.specs.Plan.{Plan}
use Rattle.base_phases.specs.declared.phases.LaneState.TheVariants.{Responding}
use Rattle.token_book.specs.Account.{Slip}
use Rattle.token_book.specs.Purse.{HasRoom, Purse, left_of}
use Rattle.token_book.specs.Ticket.{entry_right}
use Rattle.token_book.specs.declared.ticket.Ticket.{Ticket}
use Rattle.shared_object.specs.Standing.{AreVouched}
use Rattle.shared_object.specs.Steps.{unspent}
use Rattle.shared_object.specs.Written.{placed, wrote}
use Rattle.flow_model.specs.Answers.{request_answer}
use Rattle.flow_model.specs.World.{Passage, World, hop_at, is_refused, row_of}
use Rattle.flow_model.specs.Events.{Among, Event, FindsAt, IsCall}
use Rattle.flow_model.specs.Backed.{EndsRequest}
use Rattle.flow_model.specs.Numbers.{ArrIs}
use Rattle.flow_model.specs.Platform.{world_of}
use Rattle.flow_model.proofs.More.{finds_at_more}
use Rattle.numbered_log.specs.Logged.{written_by}
use Rattle.hop_object.specs.View.{HopView}
use Rattle.hop_object.specs.Lanes.{any_responding}
use Rattle.hop_object.specs.Hops.{begin_answer, begin_entry, can_begin, leg_at}
use Rattle.hop_object.specs.Objects.{brought_by, built_of, content_by, is_admitted}
use Rattle.hop_object.specs.Calls.{begun_as, refused}
use Rattle.hop_object.specs.declared.call.Begun.{Begun}
use Rattle.hop_object.specs.declared.call.Begun.TheVariants.{Left, Now, Busy}
use Rattle.hop_object.specs.declared.call.HopCall.TheVariants.{BeginReq}
use Rattle.hop_object.specs.declared.call.HopReply.TheVariants as Replies
use Rattle.hop_object.proofs.LegLaws.{has_times}
use Rattle.hop_object.proofs.Meanings.{decide}
use Rattle.cargo_model.specs.declared.cargo.Cargo.{Cargo}
use Rattle.cargo_model.specs.Called.{IsAnswerIn}
use Rattle.cargo_model.specs.Counts.{responses}
use Rattle.cargo_model.specs.Known.{Known, event_of, object_number}
use Rattle.cargo_model.specs.Laws.{Case, IsTimely}
use Rattle.cargo_model.specs.Tickets.{Pulls, Puts}
use Rattle.cargo_model.specs.Travel.{GoesDown, Ready, There, with_wallet}
use Rattle.cargo_model.proofs.Backs.{begins_backed}
use Rattle.cargo_model.proofs.Called.{answers_fit}
use Rattle.cargo_model.proofs.Down.{begins, begins_refused}
use Rattle.cargo_model.proofs.More.{goes_down_more}
use Rattle.cargo_net.specs.Begins.{HasRequested, HasOwedLeg, MayBegin}
use Rattle.cargo_net.specs.Carried.{IsCarried}
use Rattle.hop_object.specs.declared.lane.Side.TheVariants.{Down}
use Rattle.cargo_net.specs.Hops.{HasAnswered, IsLegOfLane, MeetsHop}
use Rattle.cargo_net.specs.Traffic.{Backs}
use Rattle.cargo_net.specs.Wallets.{GoesBack, HoldsSame, IsPutBack}
use Rattle.cargo_net.proofs.HopLogs.{all_known, built_hop, call_is, entered, finds_logged_at, known_of_note, made}
use Rattle.cargo_net.proofs.Lists.{later_of, no_less, one_vouched}
use Rattle.cargo_net.proofs.PayloadWallets.{holds_same, room_left}

arr_more : (w : World) (K L : Event → Type 0) → ((e : Event) → K e → L e) → (x : TxnId) (pass : Passage) (k t : ℕ) → ArrIs w K x pass k t → ArrIs w L x pass k t
arr_more w K L more x pass zero t a = finds_at_more w K L more x _ t a
arr_more w K L more x pass (suc k) t a = record { req = a.req; is_req = finds_at_more w K L more x _ a.req a.is_req; sum = a.sum }

-- whether the response comes with this answer
abbrev brings : TlmSync → Bool
brings Completed = true
brings (Updated Phases.BeginResp) = true
brings _ = false

-- then no BEGIN_RESP is to come, else one
none_to_come : (row : ReqMode) (answer : TlmSync) → IsAnswerIn row answer → brings answer ≡ true → responses row answer ≡ 0
none_to_come row answer fits b = grind (arith, common_steps)

one_to_come : (row : ReqMode) (answer : TlmSync) → IsAnswerIn row answer → brings answer ≡ false → responses row answer ≡ 1
one_to_come row answer fits b = grind (arith, common_steps)

-- what is read of an answer
module _ (v : HopView Cargo) (e : Event) (item : Cargo) where
  record IsLeft (answer : TlmSync) (time : ℕ) (b : TlmSync) : Type 0 where
    answer_is : answer ≡ b
    time_is : time ≡ e.time
    waits : brings b ≡ false

  never_now : (a b : TlmSync) (s t : ℕ) (l : Option Slip) (i : Cargo) → ◌≡◌ {A = Begun Cargo} (Left a s) (Now b t l i) → ⊥
  never_now a b s t l i q = cc

  never_busy : (a : TlmSync) (s n : ℕ) (h : Option TxnId) (i : Cargo) → ◌≡◌ {A = Begun Cargo} (Left a s) (Busy h n i) → ⊥
  never_busy a s n h i q = cc

  now_never_busy : (b : TlmSync) (t n : ℕ) (l : Option Slip) (h : Option TxnId) (i j : Cargo) → ◌≡◌ {A = Begun Cargo} (Now b t l i) (Busy h n j) → ⊥
  now_never_busy b t n l h i j q = cc

  abbrev answer_in : TlmSync → Begun Cargo → TlmSync
  answer_in d (Left a t) = a
  answer_in d (Now a t l i) = a
  answer_in d (Busy h n i) = d

  abbrev time_in : Begun Cargo → ℕ
  time_in (Left a t) = t
  time_in (Now a t l i) = t
  time_in (Busy h n i) = 0

  abbrev leg_in : Begun Cargo → Option Slip
  leg_in (Left a t) = None
  leg_in (Now a t l i) = l
  leg_in (Busy h n i) = None

  abbrev item_in : Begun Cargo → Cargo
  item_in (Left a t) = item
  item_in (Now a t l i) = i
  item_in (Busy h n i) = i

  left_is : (answer : TlmSync) (time : ℕ) (b : TlmSync) → Left answer time ≡ (begun_as v e item b).1 → IsLeft answer time b
  left_is answer time Accepted q = record { answer_is = ap (answer_in answer) q; time_is = ap time_in q; waits = refl }
  left_is answer time Completed q = absurd (never_now _ _ _ _ _ _ q)
  left_is answer time (Updated Phases.BeginReq) q = record { answer_is = ap (answer_in answer) q; time_is = ap time_in q; waits = refl }
  left_is answer time (Updated Phases.EndReq) q = record { answer_is = ap (answer_in answer) q; time_is = ap time_in q; waits = refl }
  left_is answer time (Updated Phases.BeginResp) q = absurd (never_now _ _ _ _ _ _ q)
  left_is answer time (Updated Phases.EndResp) q = record { answer_is = ap (answer_in answer) q; time_is = ap time_in q; waits = refl }

  record IsNow (answer : TlmSync) (time : ℕ) (leg : Option Slip) (back : Cargo) (b : TlmSync) : Type 0 where
    answer_is : answer ≡ b
    time_is : time ≡ e.time
    brought : brings b ≡ true
    back_is : back ≡ item
    leg_is : ((b ≡ Completed) × (leg ≡ None)) ⊎ ((b ≡ Updated Phases.BeginResp) × (leg ≡ Some (leg_at v.book e.position Responding)))

  now_is : (answer : TlmSync) (time : ℕ) (leg : Option Slip) (back : Cargo) (b : TlmSync) → Now answer time leg back ≡ (begun_as v e item b).1 → IsNow answer time leg back b
  now_is answer time leg back Accepted q = absurd (never_now _ _ _ _ _ _ (sym q))
  now_is answer time leg back Completed q = record { answer_is = ap (answer_in answer) q; time_is = ap time_in q; brought = refl; back_is = ap item_in q; leg_is = inl (refl, ap leg_in q) }
  now_is answer time leg back (Updated Phases.BeginReq) q = absurd (never_now _ _ _ _ _ _ (sym q))
  now_is answer time leg back (Updated Phases.EndReq) q = absurd (never_now _ _ _ _ _ _ (sym q))
  now_is answer time leg back (Updated Phases.BeginResp) q = record { answer_is = ap (answer_in answer) q; time_is = ap time_in q; brought = refl; back_is = ap item_in q; leg_is = inr (refl, ap leg_in q) }
  now_is answer time leg back (Updated Phases.EndResp) q = absurd (never_now _ _ _ _ _ _ (sym q))

  not_busy : (holder : Option TxnId) (live : ℕ) (back : Cargo) (b : TlmSync) → Busy holder live back ≡ (begun_as v e item b).1 → ⊥
  not_busy holder live back Accepted q = never_busy _ _ _ _ _ (sym q)
  not_busy holder live back Completed q = now_never_busy _ _ _ _ _ _ _ (sym q)
  not_busy holder live back (Updated Phases.BeginReq) q = never_busy _ _ _ _ _ (sym q)
  not_busy holder live back (Updated Phases.EndReq) q = never_busy _ _ _ _ _ (sym q)
  not_busy holder live back (Updated Phases.BeginResp) q = now_never_busy _ _ _ _ _ _ _ (sym q)
  not_busy holder live back (Updated Phases.EndResp) q = never_busy _ _ _ _ _ (sym q)

module _ (frame : Frame Plan) (tokens : TableId) (number own : ℕ) (c : Cargo) (at : ℕ) (note : View Content Plan) (may : MayBegin frame tokens number c at note.known) where
  abbrev p : Plan
  p = frame.world

  abbrev x : TxnId
  x = c.baton.txn

  abbrev here : List (HistoryEntry Content) → Case
  here l = record { p = p; tokens = tokens; entries = l; x = x; pass = may.pass; c = c }

  -- the four tickets of the hop are there
  pub two_left : 1 < left_of c.baton.wallet number
  two_left = subst (λ (i : ℕ). 1 < left_of c.baton.wallet i) (sym may.way.place) (enough _ ((may.down.tickets.hops may.hop may.way.below).here refl))
    where
      enough : (left : ℕ) → left + 0 ≡ 4 → 1 < left
      enough left sum = omega arith

  module _ (w : Purse) (pull : Pulls tokens number 0 c.baton.wallet w) where
    abbrev item : Cargo
    item = with_wallet c w

    pub room : HasRoom w number
    room = room_left tokens number c.baton.wallet w pull two_left

    pub backed : (o : HopView Cargo) (q : ℕ) → MeetsHop frame tokens number own note.known o → is_admitted o (BeginReq x at item) ≡ true →
        Backs p (map (placed number) (map written_by o.log.events) ++ note.known) (placed number (wrote q (content_by o (BeginReq x at item))))
    backed o q meets admitted =
        let all = all_known frame tokens number own note x may.pass may.hop may.way o meets in
        let more = known_of_note frame tokens number own note x may.pass may.hop may.way o meets in
        begins_backed (here all) may.hop (goes_down_more p tokens (Known p.platform note.known) (Known p.platform all) more x may.pass Ready may.hop c may.down)
        (event_of p.platform (placed number (wrote q (content_by o (BeginReq x at item)))))
        (record { answer = begin_answer o; call = call_is frame tokens number own note x may.pass may.hop may.way o meets (BeginReq x at item) q x refl })
        at (arr_more (world_of p) (Known p.platform note.known) (Known p.platform all) more x may.pass may.hop at may.least)
        (elim (later_of at o.request_end) [
          | inl e ↦ inl e
          | inr e ↦ by_request e.0 e.1 (has_times o meets.state).request
        ])
      where
        by_request : at < max at o.request_end → max at o.request_end ≡ o.request_end → (o.request_end ≡ 0) ⊎ FindsAt (Among o.log.events) (EndsRequest o.number) o.request_end →
            IsTimely (here (all_known frame tokens number own note x may.pass may.hop may.way o meets)) may.hop Phases.BeginReq at (max at o.request_end)
        by_request l e (inl z) = absurd (nothing _ l (e ∙ z))
          where
            nothing : (m : ℕ) → at < m → m ≡ 0 → ⊥
            nothing m l q = omega (arith, l, q)
        by_request l e (inr f) =
            let g = finds_logged_at frame tokens number own note x may.pass may.hop may.way o meets EndsRequest o.request_end f in
            inr (l, record { event = g.event; known = g.known; is = inr g.is; time = g.time ∙ sym e })

    pulls : Pulls tokens (object_number p.platform (Hop (hop_at may.pass may.hop))) 0 c.baton.wallet w
    pulls = subst (λ (n : ℕ). Pulls tokens n 0 c.baton.wallet w) may.way.place pull

    goes : GoesDown p tokens (Known p.platform note.known) x may.pass There may.hop item
    goes = begins (here note.known) may.hop may.down w may.apart pulls

    pub vouched : (o : HopView Cargo) → MeetsHop frame tokens number own note.known o → AreVouched (IsCarried p tokens number) (brought_by o (BeginReq x at item)) note.known
    vouched o meets = one_vouched (IsCarried p tokens number) x (Down, item) note.known (record { vouched = record { pass = may.pass; hop = may.hop; place = may.way.place; way = inl goes }; side = tt })

    module _ (back : View Content Plan) (reply : Begun Cargo) (a : HasAnswered frame tokens number own note back (BeginReq x at item) (Replies.Begun reply)) where
      abbrev v : HopView Cargo
      v = a.before

      abbrev e : Event
      e = begin_entry v (unwrap_or a.position 0) x at (begin_answer v)

      reply_is : can_begin v ≡ true → reply ≡ (begun_as v e item (begin_answer v)).1
      reply_is can = ap (λ (r : HopView Cargo × Begun Cargo). r.1) (a.applied.taken can)

      reply_busy : can_begin v ≡ false → reply ≡ refused v item
      reply_busy cannot = (a.applied.busy cannot).1

      -- the answer is one that the row has
      fits : IsAnswerIn (row_of (world_of p) may.pass may.hop) (begin_answer v)
      fits =
          let built = a.met.built_for.world in
          let mode : v.traits.req ≡ ((world_of p).hop (hop_at may.pass may.hop)).req = built.req ∙ ap (λ (h : ℕ). ((world_of p).hop h).req) (built_hop frame tokens number own note x may.pass may.hop may.way (built_of v) built) in
          subst (λ (m : ReqMode). IsAnswerIn (row_of (world_of p) may.pass may.hop) (request_answer m (any_responding v.lanes))) (sym mode)
          (answers_fit ((world_of p).hop (hop_at may.pass may.hop)).req (is_refused (world_of p) may.pass may.hop) (any_responding v.lanes))

      begun_by : (answer : TlmSync) (to_come time : ℕ) → can_begin v ≡ true → answer ≡ begin_answer v → responses (row_of (world_of p) may.pass may.hop) (begin_answer v) ≡ to_come → time ≡ e.time → HasRequested frame at x may.pass may.hop answer to_come time back.known
      begun_by answer to_come time can is come at_time =
          let f = made frame tokens number own note x may.pass may.hop may.way back (BeginReq x at item) (Replies.Begun reply) a can x refl in
          record {
            late = subst (λ (t : ℕ). at ≤ t) (sym at_time) (no_less at v.request_end);
            fits = subst (IsAnswerIn (row_of (world_of p) may.pass may.hop)) (sym is) fits;
            responds = subst (λ (b : TlmSync). responses (row_of (world_of p) may.pass may.hop) b ≡ to_come) (sym is) come;
            made = subst (λ (b : TlmSync). FindsAt (Known p.platform back.known) (IsCall x (hop_at may.pass may.hop) Phases.BeginReq b) time) (sym is) (record { event = f.event; known = f.known; is = f.is; time = f.time ∙ sym at_time });
          }

    pub left : (back : View Content Plan) (answer : TlmSync) (time : ℕ) → HasAnswered frame tokens number own note back (BeginReq x at item) (Replies.Begun (Left answer time)) → HasRequested frame at x may.pass may.hop answer 1 time back.known
    left back answer time a =
        decide (can_begin a.before)
        (λ can. (
        let is = left_is a.before _ item answer time (begin_answer a.before) (reply_is back (Left answer time) a can) in
        begun_by back (Left answer time) a answer 1 time can is.answer_is (one_to_come _ _ (fits back (Left answer time) a) is.waits) is.time_is))
        (λ cannot. absurd (never _ _ _ (reply_busy back (Left answer time) a cannot)))
      where
        never : (h : Option TxnId) (n : ℕ) (i : Cargo) → ◌≡◌ {A = Begun Cargo} (Left answer time) (Busy h n i) → ⊥
        never h n i q = cc

    pub now : (back : View Content Plan) (answer : TlmSync) (time : ℕ) (leg : Option Slip) (cargo : Cargo) → HasAnswered frame tokens number own note back (BeginReq x at item) (Replies.Begun (Now answer time leg cargo)) →
        HasRequested frame at x may.pass may.hop answer 0 time back.known × HasOwedLeg frame tokens number back.known x answer leg × (cargo ≡ item) × GoesDown p tokens (Known p.platform back.known) x may.pass There may.hop cargo
    now back answer time leg cargo a = decide (can_begin a.before) taken (λ cannot. absurd (never _ _ _ (reply_busy back (Now answer time leg cargo) a cannot)))
      where
        never : (h : Option TxnId) (n : ℕ) (i : Cargo) → ◌≡◌ {A = Begun Cargo} (Now answer time leg cargo) (Busy h n i) → ⊥
        never h n i q = cc

        taken : can_begin a.before ≡ true →
            HasRequested frame at x may.pass may.hop answer 0 time back.known × HasOwedLeg frame tokens number back.known x answer leg × (cargo ≡ item) × GoesDown p tokens (Known p.platform back.known) x may.pass There may.hop cargo
        taken can =
            let is = now_is a.before (begin_entry a.before (unwrap_or a.position 0) x at (begin_answer a.before)) item answer time leg cargo (begin_answer a.before) (reply_is back (Now answer time leg cargo) a can) in (
              begun_by back (Now answer time leg cargo) a answer 0 time can is.answer_is (none_to_come _ _ (fits back (Now answer time leg cargo) a) is.brought) is.time_is,
              elim is.leg_is [
                | inl r ↦ subst (λ (b : TlmSync). HasOwedLeg frame tokens number back.known x b leg) (sym (is.answer_is ∙ r.0)) (subst (HasOwedLeg frame tokens number back.known x Completed) (sym r.1) tt)
                | inr r ↦ subst (λ (b : TlmSync). HasOwedLeg frame tokens number back.known x b leg) (sym (is.answer_is ∙ r.0)) (subst (HasOwedLeg frame tokens number back.known x (Updated Phases.BeginResp)) (sym r.1) (owed can))
              ],
              is.back_is,
              subst (GoesDown p tokens (Known p.platform back.known) x may.pass There may.hop) (sym is.back_is)
                  (goes_down_more p tokens (Known p.platform note.known) (Known p.platform back.known) (λ e k. record { entry = k.entry; has = a.enters.knew k.entry k.has; is = k.is }) x may.pass There may.hop item goes),
            )
          where
            owed : can_begin a.before ≡ true → IsLegOfLane frame tokens number back.known x Responding (leg_at a.before.book (unwrap_or a.position 0) Responding)
            owed can =
                let f = entered frame tokens number own note x may.pass may.hop may.way back (BeginReq x at item) (Replies.Begun (Now answer time leg cargo)) a can in
                record {
                  table = a.met.built_for.book.0;
                  owner = a.met.built_for.book.1;
                  entry = placed number (wrote f.position (content_by a.before (BeginReq x at item)));
                  has = f.has;
                  object = refl;
                  txn = refl;
                  name = ap (λ (z : Option ℕ). 4 * unwrap_or z 0 + 3) f.is;
                }

    -- where it isn't taken, the payload comes back
    pub refused_back : (back : View Content Plan) (holder : Option TxnId) (live : ℕ) (cargo : Cargo) → HasAnswered frame tokens number own note back (BeginReq x at item) (Replies.Begun (Busy holder live cargo)) → cargo ≡ item
    refused_back back holder live cargo a =
        decide (can_begin a.before)
        (λ can. absurd (not_busy a.before (begin_entry a.before (unwrap_or a.position 0) x at (begin_answer a.before)) item holder live cargo (begin_answer a.before) (reply_is back (Busy holder live cargo) a can)))
        (λ cannot. ap in_it (reply_busy back (Busy holder live cargo) a cannot))
      where
        in_it : Begun Cargo → Cargo
        in_it (Left b t) = item
        in_it (Now b t l i) = i
        in_it (Busy h n i) = i

    -- no ticket was spent, and there is room for it
    unspent_there : (back : View Content Plan) (holder : Option TxnId) (live : ℕ) (cargo : Cargo) (a : HasAnswered frame tokens number own note back (BeginReq x at item) (Replies.Begun (Busy holder live cargo))) → a.position ≡ None
    unspent_there back holder live cargo a = by a.position refl a.enters.when
      where
        by : (z : Option ℕ) → a.position ≡ z → MatchOption z (can_begin a.before ≡ false) (λ _. can_begin a.before ≡ true) → a.position ≡ None
        by None q refused = q
        by (Some z) q can =
            absurd (not_busy a.before (begin_entry a.before (unwrap_or a.position 0) x at (begin_answer a.before)) item holder live cargo (begin_answer a.before) (reply_is back (Busy holder live cargo) a can))

    pub goes_back : (back : View Content Plan) (holder : Option TxnId) (live : ℕ) (cargo : Cargo) (a : HasAnswered frame tokens number own note back (BeginReq x at item) (Replies.Begun (Busy holder live cargo)))
        → (t : Ticket) (ticket : Option Ticket) → t.entry ≡ entry_right tokens number → ticket ≡ unspent a.position (Some t) → GoesBack tokens number w ticket
    goes_back back holder live cargo a t ticket entry is =
        subst (GoesBack tokens number w) (sym (is ∙ ap (λ (z : Option ℕ). unspent z (Some t)) (unspent_there back holder live cargo a))) (entry, room)

    -- and may go down as before, with all its tickets
    pub kept : (more : List (HistoryEntry Content)) → Within note.known more → (back new : Cargo) → back ≡ item → IsPutBack tokens number back new →
        (new ≡ with_wallet c new.baton.wallet) × HoldsSame new.baton.wallet c.baton.wallet × GoesDown p tokens (Known p.platform more) x may.pass Ready may.hop new
    kept more within back new same put =
        let q : IsPutBack tokens number item new = subst (λ (d : Cargo). IsPutBack tokens number d new) same put in
        let n : new ≡ with_wallet c new.baton.wallet = q.same in
        let puts = subst (λ (i : ℕ). Puts tokens i w new.baton.wallet) may.way.place q.puts in (
          n,
          holds_same tokens number c.baton.wallet w new.baton.wallet pull q.puts two_left,
          subst (λ (d : Cargo). GoesDown p tokens (Known p.platform more) x may.pass Ready may.hop d) (sym n)
              (goes_down_more p tokens (Known p.platform note.known) (Known p.platform more) (λ e k. record { entry = k.entry; has = within k.entry k.has; is = k.is }) x may.pass Ready may.hop (with_wallet c new.baton.wallet)
              (begins_refused (here note.known) may.hop may.down w new.baton.wallet pulls puts)),
        )
