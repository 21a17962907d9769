-- What a router knows of a request that went down, and of a response that came by return.
use Rattle.std.proofs.Common.{◌≡◌, ◌⊎◌, ℕ, suc, ◌+◌, ◌<◌, List, ◌∷◌, drop, drop-cons, Bool, Option, Some, None, refl, sym, ◌∙◌, ap, subst, inl, inr, arith}
use Rattle.std.proofs.lemmas.Grind.{common_steps}
use Rattle.atomic_table.specs.Seated.{TableId}
use Rattle.view_lists.specs.Lists.{Within}
use Rattle.one_history.specs.Held.{Held as HeldNote}
use Rattle.one_history.specs.declared.entry.Entry.{Entry}
use Rattle.one_history.specs.declared.view.Frame.{Frame}
use Rattle.one_history.specs.declared.view.View.{View}
use Rattle.tlm_types.specs.declared.entry.Content.{Content}
use Rattle.tlm_types.specs.declared.words.Phase.TheVariants as Phases
use Rattle.tlm_types.specs.declared.words.ReqMode.{ReqMode}
use Rattle.tlm_types.specs.declared.words.ReqMode.TheVariants.{Accept, Short, EndReq, BeginResp, Complete}
use Rattle.tlm_types.specs.declared.words.RespMode.{RespMode}
use Rattle.tlm_types.specs.declared.words.TlmSync.{TlmSync}
use Rattle.tlm_types.specs.declared.words.TlmSync.TheVariants.{Accepted, Updated, Completed}
use Rattle.tlm_types.specs.declared.words.TxnId.{TxnId}
use Rattle.tlm_types.specs.declared.words.Way.TheVariants.{FourPhase}
use Rattle.tlm_model.specs.declared.platform.Target.TheVariants.{Memory}
use Rattle.tlm_model.specs.Plan.{Plan}
use Rattle.tlm_model.specs.Route.{later}
use Rattle.base_phases.specs.declared.phases.LaneState.{LaneState}
use Rattle.base_phases.specs.declared.phases.LaneState.TheVariants.{Requested}
use Rattle.token_book.specs.Account.{Slip}
use Rattle.token_book.specs.Ticket.{IsTicket}
use Rattle.token_book.specs.declared.ticket.Ticket.{Ticket}
use Rattle.flow_model.specs.World.{Passage, hop_at, hop_count, row_of}
use Rattle.flow_model.specs.Events.{Event, Finds, FindsAt, IsAccess, IsCall, IsPhase}
use Rattle.flow_model.specs.Numbers.{ArrIs, BringsResponse, ReqIs, UpFrom, UpIs, served_hop}
use Rattle.flow_model.specs.Platform.{world_of}
use Rattle.cargo_model.specs.declared.cargo.Cargo.{Cargo}
use Rattle.cargo_model.specs.Called.{IsAnswerIn}
use Rattle.cargo_model.specs.Counts.{request_ends, response_ends, responses}
use Rattle.cargo_model.specs.Known.{Known}
use Rattle.cargo_model.specs.Travel.{GoesDown, GoesUp, Ready, There}
use Rattle.cargo_model.proofs.Up.{returns}
use Rattle.cargo_net.specs.Begins.{HasOwedLeg}
use Rattle.cargo_net.specs.Ends.{HasEndedRequest}
use Rattle.cargo_net.specs.Hops.{IsLegOfLane}
use Rattle.cargo_net.specs.Tried.{IsTried}
use Rattle.cargo_net.specs.declared.requests.Tried.TheVariants.{Left, Now, Busy}
use Rattle.plat_net.specs.HopCalls.{CanBegin, CanEndRequest}
use Rattle.plat_net.specs.MemoryCalls.{CanServe, IsServedAt}
use Rattle.plat_net.specs.Places.{LeadsTo, hop_place}
use Rattle.node_hops.specs.Traits.{hop_latency}
use Rattle.router_moves.specs.Items.{HasDebt, HasGone, IsBegun, IsDown, OwesEnd}
use Rattle.router_moves.specs.Moves.{EndsAbove, HasPassed, HasServedBelow}
use Rattle.router_moves.specs.declared.down.Passed.TheVariants as Passes
use Rattle.router_moves.specs.declared.items.BegunBelow.{BegunBelow}
use Rattle.router_moves.specs.declared.items.Down.{Down}
use Rattle.router_moves.specs.declared.items.PassedOn.{PassedOn}
use Rattle.router_moves.proofs.Grown.{arrival_more, held_more, known_more}

-- the hops behind hop k
pub tail : (pass : Passage) (k : ℕ) → k + 1 < hop_count pass → drop (k + 1) pass.hops ≡ hop_at pass (k + 1) ∷ drop (k + 1 + 1) pass.hops
tail pass k below = let e : suc (k + 1) ≡ k + 1 + 1 = omega arith in subst (λ (i : ℕ). drop (k + 1) pass.hops ≡ hop_at pass (k + 1) ∷ drop i pass.hops) e (drop-cons pass.hops (k + 1) 0 below)

-- PASS ON
module _ (frame : Frame Plan) (tokens : TableId) (known : List (Entry Content)) (d : Down) (down : IsDown frame tokens known d) where
  abbrev p : Plan
  p = frame.world

  abbrev txn : d.cargo.baton.txn ≡ d.held.txn
  txn = down.down.held.txn

  abbrev pub can_begin : CanBegin frame tokens d.held.below d.cargo d.due known
  can_begin = record {
    pass = down.pass;
    hop = down.hop + 1;
    here = down.held.below;
    down = subst (λ (x : TxnId). GoesDown p tokens (Known p.platform known) x down.pass Ready (down.hop + 1) d.cargo) (sym down.down.held.txn) down.down;
    least = subst (λ (x : TxnId). ArrIs (world_of p) (Known p.platform known) x down.pass (down.hop + 1) d.due) (sym down.down.held.txn) down.least;
  }

  module _ (old : View Content Plan) (note : HeldNote Content Plan) (w : Within known note.knows.known) where
    back : List (Entry Content)
    back = note.knows.known

    pub gone : (answer : TlmSync) (at : ℕ) → IsTried frame tokens (hop_place p d.held.below) d.cargo d.due down.pass (down.hop + 1) old (Left answer at note) → HasPassed frame tokens d old (Passes.Gone d.held at note)
    gone answer at t =
        let f = t.0.made in (
          refl,
          t.0.late,
          record {
            pass = down.pass;
            hop = down.hop;
            state = down.state;
            held = held_more frame tokens known note.knows.known w d.held down.pass down.hop down.state down.held;
            begun = subst (λ (x : TxnId). ReqIs (world_of p) (Known p.platform note.knows.known) x (hop_at down.pass (down.hop + 1)) at) down.down.held.txn (record { event = f.event; known = f.known; is = record { answer = answer; call = f.is }; time = f.time });
          },
          t.1,
        )

    pub now : (answer : TlmSync) (at : ℕ) (leg : Option Slip) (cargo : Cargo) → IsTried frame tokens (hop_place p d.held.below) d.cargo d.due down.pass (down.hop + 1) old (Now answer at leg cargo note)
        → HasPassed frame tokens d old (Passes.Now d.held (record { at = at; leg = leg; cargo = cargo }) note)
    now answer at leg cargo t = (
      refl,
      t.0.late,
      record {
        pass = down.pass;
        hop = down.hop;
        state = down.state;
        held = held_more frame tokens known note.knows.known w d.held down.pass down.hop down.state down.held;
        down = subst (λ (x : TxnId). GoesDown p tokens (Known p.platform note.knows.known) x down.pass There (down.hop + 1) cargo) down.down.held.txn t.3;
        answer = answer;
        made = subst (λ (x : TxnId). FindsAt (Known p.platform note.knows.known) (IsCall x (hop_at down.pass (down.hop + 1)) Phases.BeginReq answer) at) down.down.held.txn t.0.made;
        fits = t.0.fits;
        responds = t.0.responds;
        leg_of = subst (λ (h : ℕ). HasOwedLeg frame tokens (hop_place p h) note.knows.known d.held.txn answer leg) (sym down.held.below) (subst (λ (x : TxnId). HasOwedLeg frame tokens (hop_place p d.held.below) note.knows.known x answer leg) down.down.held.txn t.1);
      },
      t.4,
    )

    pub busy : (holder : Option TxnId) (live : ℕ) (cargo : Cargo) → IsTried frame tokens (hop_place p d.held.below) d.cargo d.due down.pass (down.hop + 1) old (Busy holder live cargo note)
        → HasPassed frame tokens d old (Passes.Busy (record { held = d.held; due = d.due; cargo = cargo }) note)
    busy holder live cargo t = (
      refl,
      refl,
      record {
        pass = down.pass;
        hop = down.hop;
        state = down.state;
        held = held_more frame tokens known note.knows.known w d.held down.pass down.hop down.state down.held;
        down = subst (λ (x : TxnId). GoesDown p tokens (Known p.platform note.knows.known) x down.pass Ready (down.hop + 1) cargo) down.down.held.txn t.2;
        least = arrival_more frame tokens known note.knows.known w d.held.txn down.pass down.hop d.due down.least;
      },
      t.3,
    )

-- SERVE BELOW
pub no_end : (row : ReqMode) (answer : TlmSync) → responses row answer ≡ 0 → request_ends row ≡ 0
no_end row answer none = grind (arith, common_steps)

pub never : (n : ℕ) → n ≡ 0 → n ≡ 1 → ⊥
never n q r = omega arith

few_ends : (row : ReqMode) (resp : RespMode) (answer : TlmSync) → response_ends row resp answer < 2
few_ends row resp answer = grind (arith, common_steps)

-- an answer that brings the response
one_not : ◌≡◌ {A = ℕ} 1 0 → ⊥
one_not q = omega (arith, q)

by_return : (row : ReqMode) (answer : TlmSync) → IsAnswerIn row answer → responses row answer ≡ 0 → (answer ≡ Completed) ⊎ (answer ≡ Updated Phases.BeginResp)
by_return Accept answer fits none = absurd (one_not none)
by_return Short answer fits none = absurd (one_not none)
by_return EndReq answer fits none = absurd (one_not none)
by_return BeginResp answer (inl q) none = inr q
by_return BeginResp answer (inr q) none = absurd (one_not (subst (λ (a : TlmSync). responses BeginResp a ≡ 0) q none))
by_return Complete answer fits none = inl fits

owed_one : (row : ReqMode) (resp : RespMode) → IsAnswerIn row (Updated Phases.BeginResp) → responses row (Updated Phases.BeginResp) ≡ 0 → response_ends row resp (Updated Phases.BeginResp) ≡ 1
owed_one row resp fits none = grind (arith, common_steps)

owed_none : (row : ReqMode) (resp : RespMode) → IsAnswerIn row Completed → responses row Completed ≡ 0 → response_ends row resp Completed ≡ 0
owed_none row resp fits none = grind (arith, common_steps)

module _ (frame : Frame Plan) (tokens : TableId) (known : List (Entry Content)) (memory : ℕ) (h : PassedOn) (b : BegunBelow) (begun : IsBegun frame tokens known h b) (leads : LeadsTo frame.world.platform h.below (Memory memory)) where
  abbrev plan : Plan
  plan = frame.world

  abbrev pub can_serve : CanServe frame tokens memory b.cargo b.at known
  can_serve = record {
    pass = begun.pass;
    hop = begun.hop + 1;
    fetched = record {
      before = b.cargo.baton.wallet;
      down = subst (λ (x : TxnId). GoesDown plan tokens (Known plan.platform known) x begun.pass There (begun.hop + 1) b.cargo) (sym begun.down.held.txn) begun.down;
      pulled = record { none = λ q. refl; one = λ q. absurd (never _ (no_end (row_of (world_of plan) begun.pass (begun.hop + 1)) begun.answer begun.responds) q) };
    };
    leads = subst (λ (n : ℕ). LeadsTo plan.platform n (Memory memory)) (sym begun.held.below) leads;
    begun = subst (λ (x : TxnId). ReqIs (world_of plan) (Known plan.platform known) x (hop_at begun.pass (begun.hop + 1)) b.at) (sym begun.down.held.txn)
        (let f = begun.made in record { event = f.event; known = f.known; is = record { answer = begun.answer; call = f.is }; time = f.time });
  }

  module _ (more : List (Entry Content)) (w : Within known more) where
    abbrev K : Event → Type 0
    K = Known plan.platform more

    brings : (answer : TlmSync) → answer ≡ begun.answer → (answer ≡ Completed) ⊎ (answer ≡ Updated Phases.BeginResp) → Finds K (BringsResponse h.txn (hop_at begun.pass (begun.hop + 1)))
    brings answer is (inl q) = (let f = begun.made in record { event = f.event; known = known_more plan known more w f.event f.known; is = record { answer = Completed; call = subst (λ (a : TlmSync). IsCall h.txn (hop_at begun.pass (begun.hop + 1)) Phases.BeginReq a f.event) (sym is ∙ q) f.is; brings = tt } })
    brings answer is (inr q) = (let f = begun.made in record { event = f.event; known = known_more plan known more w f.event f.known; is = record { answer = Updated Phases.BeginResp; call = subst (λ (a : TlmSync). IsCall h.txn (hop_at begun.pass (begun.hop + 1)) Phases.BeginReq a f.event) (sym is ∙ q) f.is; brings = tt } })

    brought : Finds K (BringsResponse h.txn (hop_at begun.pass (begun.hop + 1)))
    brought = brings begun.answer refl (by_return (row_of (world_of plan) begun.pass (begun.hop + 1)) begun.answer begun.fits begun.responds)

    -- it goes up from the router at the same time
    goes_up : (due : ℕ) → UpIs (world_of plan) K h.txn begun.pass (begun.hop + 1) due → UpIs (world_of plan) K h.txn begun.pass begun.hop due
    goes_up due up = subst (λ (rest : List ℕ). UpFrom (world_of plan) K h.txn (hop_at begun.pass begun.hop) rest due) (sym (tail begun.pass begun.hop begun.held.next)) (inr (brought, up))

    owes : (due : ℕ) → UpIs (world_of plan) K h.txn begun.pass (begun.hop + 1) due → (resp : RespMode) (answer : TlmSync) (leg : Option Slip) → answer ≡ begun.answer → HasOwedLeg frame tokens (hop_place plan (hop_at begun.pass (begun.hop + 1))) known h.txn answer leg
        → OwesEnd frame tokens more h.txn begun.pass (begun.hop + 1) due (response_ends (row_of (world_of plan) begun.pass (begun.hop + 1)) resp answer) leg
    owes due up resp Completed None is l =
        let fits = subst (IsAnswerIn (row_of (world_of plan) begun.pass (begun.hop + 1))) (sym is) begun.fits in
        let none = subst (λ (a : TlmSync). responses (row_of (world_of plan) begun.pass (begun.hop + 1)) a ≡ 0) (sym is) begun.responds in
        let f = begun.made in
        let call = subst (λ (a : TlmSync). IsCall h.txn (hop_at begun.pass (begun.hop + 1)) Phases.BeginReq a f.event) (sym is) f.is in (
          owed_none (row_of (world_of plan) begun.pass (begun.hop + 1)) resp fits none,
          record {
            ender = record { event = f.event; known = known_more plan known more w f.event f.known; is = record { phase = Phases.BeginReq; answer = Completed; call = call; ends = tt } };
            time = inl (record { event = f.event; known = known_more plan known more w f.event f.known; is = call }, inr (brought, up));
          },
        )
    owes due up resp (Updated Phases.BeginResp) (Some leg) is l =
        let fits = subst (IsAnswerIn (row_of (world_of plan) begun.pass (begun.hop + 1))) (sym is) begun.fits in
        let none = subst (λ (a : TlmSync). responses (row_of (world_of plan) begun.pass (begun.hop + 1)) a ≡ 0) (sym is) begun.responds in
        (owed_one (row_of (world_of plan) begun.pass (begun.hop + 1)) resp fits none, record { table = l.table; owner = l.owner; entry = l.entry; has = w l.entry l.has; object = l.object; txn = l.txn; name = l.name })
    owes due up resp answer leg is l = absurd l

    pub served_below : (latency due : ℕ) (new : Cargo) → latency ≡ hop_latency plan h.below → due ≡ later b.at latency
        → IsServedAt frame tokens memory b.cargo b.at begun.pass (begun.hop + 1) (let a = can_serve.fetched.down.asked in a.access) new more
        → HasServedBelow frame tokens latency h b more (record { at = due; leg = b.leg; cargo = new })
    served_below latency due new lat at s =
        let served = s.served in
        let made = served.made in
        let txn : b.cargo.baton.txn ≡ h.txn = begun.down.held.txn in
        let resp = ((world_of plan).hop (hop_at begun.pass (begun.hop + 1))).resp in
        let up_ready = subst (λ (x : TxnId). GoesUp plan tokens K x begun.pass Ready (begun.hop + 1) new) txn served.up in
        let f = begun.made in
        let due_is : later b.at ((world_of plan).hop (hop_at begun.pass (begun.hop + 1))).latency ≡ due = ap (λ (n : ℕ). later b.at n) (ap (λ (n : ℕ). hop_latency plan n) begun.held.below ∙ sym lat) ∙ sym at in
        let up = subst (λ (t : ℕ). UpIs (world_of plan) K h.txn begun.pass (begun.hop + 1) t) due_is (subst (λ (x : TxnId). UpIs (world_of plan) K x begun.pass (begun.hop + 1) (later b.at ((world_of plan).hop (hop_at begun.pass (begun.hop + 1))).latency)) txn served.due) in
        record {
          at = at;
          made = subst (λ (x : TxnId). FindsAt K (IsAccess x) b.at) txn (record {
            event = made.event;
            known = made.known;
            is = record { memory = s.route.memory; object = made.is.object; txn = made.is.txn; way = FourPhase; access = (let a = can_serve.fetched.down.asked in record a.access { offset = s.route.offset }); status = made.is.status; got = made.is.got; what = made.is.what };
            time = made.time;
          });
          back = record {
            pass = begun.pass;
            hop = begun.hop;
            state = begun.state;
            owed = response_ends (row_of (world_of plan) begun.pass (begun.hop + 1)) resp begun.answer;
            few = few_ends (row_of (world_of plan) begun.pass (begun.hop + 1)) resp begun.answer;
            held = held_more frame tokens known more w h begun.pass begun.hop begun.state begun.held;
            back = record {
              up = returns (record { p = plan; tokens = tokens; entries = more; x = h.txn; pass = begun.pass; c = new }) (begun.hop + 1) up_ready begun.answer (record { event = f.event; known = known_more plan known more w f.event f.known; is = f.is }) begun.fits begun.responds;
              end = owes due up resp begun.answer b.leg refl begun.leg_of;
              least = goes_up due up;
            };
          };
        }

-- END ABOVE
module _ (frame : Frame Plan) (tokens : TableId) (known : List (Entry Content)) (h : PassedOn) (at : ℕ) (gone : HasGone frame tokens known h at) (ticket : Ticket) (is : h.owed ≡ Some ticket) where
  abbrev its_plan : Plan
  its_plan = frame.world

  pub debt : IsTicket tokens (hop_place its_plan (hop_at gone.pass gone.hop)) ticket × (gone.state ≡ Requested) × (row_of (world_of its_plan) gone.pass gone.hop ≡ Accept)
  debt = subst (HasDebt frame tokens known h.txn gone.pass gone.hop gone.state) is gone.held.debt

  pub ticket_is : IsTicket tokens (hop_place its_plan h.above) ticket
  ticket_is = subst (λ (n : ℕ). IsTicket tokens (hop_place its_plan n) ticket) gone.held.above debt.0

  abbrev pub can_end : CanEndRequest frame tokens h.above h.leg at known
  can_end = record {
    x = h.txn;
    pass = gone.pass;
    hop = gone.hop;
    way = record { passes = gone.held.passes; below = (let l = gone.held.next in omega (arith, l)); here = gone.held.above; taken = gone.held.taken };
    leg_of = subst (λ (s : LaneState). IsLegOfLane frame tokens (hop_place its_plan h.above) known h.txn s h.leg) debt.1 gone.held.leg_of;
    row = debt.2;
    passed = λ more. (let f = gone.begun in record { event = f.event; known = f.known; is = f.is });
    least = subst (λ (t : Bool). FindsAt (Known its_plan.platform known) (IsPhase h.txn (served_hop t gone.pass gone.hop) Phases.BeginReq) at) (sym gone.held.router) gone.begun;
  }

  pub ends_above : (back : List (Entry Content)) (leg : Slip) (time : ℕ) → Within known back → HasEndedRequest frame tokens (hop_place its_plan h.above) at h.txn gone.pass gone.hop leg time back
      → EndsAbove frame tokens known back h at (record { txn = h.txn; above = h.above; below = h.below; leg = leg; kept = h.kept; owed = None })
  ends_above back leg time w e =
      let made = subst (λ (n : ℕ). FindsAt (Known its_plan.platform back) (IsCall h.txn n Phases.EndReq Accepted) time) gone.held.above e.made in
      record {
        same = refl;
        time = time;
        late = e.late;
        made = made;
        held = λ pass k state d. (
            let m = held_more frame tokens known back w h pass k state d in
            record {
              passes = m.passes;
              next = m.next;
              above = m.above;
              below = m.below;
              router = m.router;
              taken = m.taken;
              answer = m.answer;
              begun = m.begun;
              fits = m.fits;
              responds = m.responds;
              leg_of = e.leg_of;
              kept = m.kept;
              debt = (inr refl, λ q. subst (λ (n : ℕ). Finds (Known its_plan.platform back) (IsCall h.txn n Phases.EndReq Accepted)) (sym d.above) (record { event = made.event; known = made.known; is = made.is }));
            });
      }
