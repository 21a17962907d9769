-- What a router knows after a response was sent up, and after what it makes below.
use Rattle.std.proofs.Common.{◌≡◌, ℕ, ◌+◌, ◌<◌, ◌==◌, List, drop, cond, Bool, true, false, add-one, refl, sym, ap, subst, inl, inr, arith}
use Rattle.std.proofs.lemmas.Bool.{ne_eqb}
use Rattle.atomic_table.specs.Seated.{TableId}
use Rattle.view_lists.specs.Lists.{Within}
use Rattle.one_history.specs.Held.{Held as HeldNote}
use Rattle.one_history.specs.declared.entry.Entry.{Entry}
use Rattle.one_history.specs.declared.view.Frame.{Frame}
use Rattle.one_history.specs.declared.view.View.{View}
use Rattle.tlm_types.specs.declared.entry.Content.{Content}
use Rattle.tlm_types.specs.declared.words.Phase.TheVariants as Phases
use Rattle.tlm_types.specs.declared.words.TlmSync.{TlmSync}
use Rattle.tlm_types.specs.declared.words.TlmSync.TheVariants.{Accepted, Updated, Completed}
use Rattle.tlm_types.specs.declared.words.TxnId.{TxnId}
use Rattle.tlm_model.specs.Plan.{Plan}
use Rattle.base_phases.specs.declared.phases.LaneState.TheVariants.{Responding}
use Rattle.token_book.specs.Account.{Slip}
use Rattle.token_book.specs.Ticket.{IsTicket}
use Rattle.token_book.specs.declared.ticket.Ticket.{Ticket}
use Rattle.flow_model.specs.World.{hop_at, hop_count}
use Rattle.flow_model.specs.Events.{Finds, FindsAt, IsCall, IsPhase}
use Rattle.flow_model.specs.Numbers.{EndIs, IsEnder, NumberOf, UpIs, released_hop}
use Rattle.flow_model.specs.Platform.{world_of}
use Rattle.flow_model.proofs.More.{up_more}
use Rattle.cargo_model.specs.declared.cargo.Cargo.{Cargo}
use Rattle.cargo_model.specs.Known.{Known}
use Rattle.cargo_model.specs.Travel.{GoesUp, Ready}
use Rattle.cargo_net.specs.Answered.{IsAnsweredAs}
use Rattle.cargo_net.specs.Ends.{HasEndedResponse}
use Rattle.cargo_net.specs.Hops.{IsLegOfLane}
use Rattle.cargo_net.specs.Pools.{HasReleased as WasReleased}
use Rattle.cargo_net.specs.declared.responses.Answered.TheVariants.{Sent, Busy}
use Rattle.plat_net.specs.HopCalls.{CanEndResponse, CanRespond}
use Rattle.plat_net.specs.Places.{hop_place}
use Rattle.plat_net.specs.PoolCalls.{CanRelease}
use Rattle.router_moves.specs.Items.{HasEndedAt, IsEnd}
use Rattle.router_moves.specs.Moves.{EndsBelow, HasEndedAbove, HasReleased, HasReleasedAt, HasSent, IsReleasing, sent_as, sent_note}
use Rattle.router_moves.specs.declared.items.End.TheVariants.{Owed, At}
use Rattle.router_moves.specs.declared.items.RouterResponse.{RouterResponse}
use Rattle.router_moves.specs.declared.items.Rest.{Rest}
use Rattle.router_moves.specs.declared.up.Sent.TheVariants as Sents
use Rattle.router_moves.proofs.Grown.{finds_more, hold_more, known_more, leg_more}

-- the note that comes with it
pub note_of : (answer : TlmSync) (at : ℕ) (note : HeldNote Content Plan) → sent_note (sent_as answer at note) ≡ note
note_of Accepted at note = refl
note_of (Updated phase) at note = refl
note_of Completed at note = refl

-- SEND UP
module _ (frame : Frame Plan) (tokens : TableId) (known : List (Entry Content)) (r : RouterResponse) (can : CanRespond frame tokens r.hop r.leg r.cargo r.due known) (old : View Content Plan) where
  pub sent_up : (answer : TlmSync) (at : ℕ) (note : HeldNote Content Plan) → IsAnsweredAs frame tokens (hop_place frame.world r.hop) r.leg r.cargo r.due can.pass can.hop old (Sent answer at note) → HasSent frame tokens r old (sent_as answer at note)
  sent_up answer at note a = by answer (subst (λ (h : ℕ). FindsAt (Known frame.world.platform note.knows.known) (IsCall r.cargo.baton.txn h Phases.BeginResp answer) at) can.here a.0.made)
    where
      phase : (answer : TlmSync) → FindsAt (Known frame.world.platform note.knows.known) (IsCall r.cargo.baton.txn r.hop Phases.BeginResp answer) at → FindsAt (Known frame.world.platform note.knows.known) (IsPhase r.cargo.baton.txn r.hop Phases.BeginResp) at
      phase answer f = record { event = f.event; known = f.known; is = record { answer = answer; call = f.is }; time = f.time }

      by : (answer : TlmSync) → FindsAt (Known frame.world.platform note.knows.known) (IsCall r.cargo.baton.txn r.hop Phases.BeginResp answer) at → HasSent frame tokens r old (sent_as answer at note)
      by Accepted f = (a.0.late, phase Accepted f, a.1)
      by (Updated p) f = (a.0.late, phase (Updated p) f, record { event = f.event; known = f.known; is = record { phase = Phases.BeginResp; answer = Updated p; call = f.is; ends = tt } }, a.1)
      by Completed f = (a.0.late, phase Completed f, record { event = f.event; known = f.known; is = record { phase = Phases.BeginResp; answer = Completed; call = f.is; ends = tt } }, a.1)

  pub refused_up : (holder : TxnId) (leg : Slip) (c : Cargo) (note : HeldNote Content Plan) → Within known note.knows.known → IsAnsweredAs frame tokens (hop_place frame.world r.hop) r.leg r.cargo r.due can.pass can.hop old (Busy holder leg c note)
      → HasSent frame tokens r old (Sents.Refused (record { hop = r.hop; leg = leg; due = r.due; cargo = c }) note)
  refused_up holder leg c note w a =
      let txn : c.baton.txn ≡ r.cargo.baton.txn = ap (λ (d : Cargo). d.baton.txn) a.1 in
      let back = note.knows.known in (
        refl,
        refl,
        txn,
        record {
          pass = can.pass;
          hop = can.hop;
          here = can.here;
          up = subst (λ (x : TxnId). GoesUp frame.world tokens (Known frame.world.platform note.knows.known) x can.pass Ready can.hop c) (sym txn) a.3;
          state = can.state;
          open_lane = can.open_lane;
          leg_of = subst (λ (l : Slip). IsLegOfLane frame tokens (hop_place frame.world r.hop) note.knows.known c.baton.txn can.state l) (sym a.0)
              (subst (λ (x : TxnId). IsLegOfLane frame tokens (hop_place frame.world r.hop) note.knows.known x can.state r.leg) (sym txn) (leg_more frame tokens (hop_place frame.world r.hop) known note.knows.known w r.cargo.baton.txn can.state r.leg can.leg_of));
          answer = can.answer;
          begun = subst (λ (x : TxnId). Finds (Known frame.world.platform note.knows.known) (IsCall x (hop_at can.pass can.hop) Phases.BeginReq can.answer)) (sym txn) (finds_more frame.world known note.knows.known w can.begun);
          fits = can.fits;
          responds = can.responds;
          ended = λ row. subst (λ (x : TxnId). Finds (Known frame.world.platform note.knows.known) (IsCall x (hop_at can.pass can.hop) Phases.EndReq Accepted)) (sym txn) (finds_more frame.world known note.knows.known w (can.ended row));
          least = subst (λ (x : TxnId). UpIs (world_of frame.world) (Known frame.world.platform note.knows.known) x can.pass can.hop r.due) (sym txn)
              (up_more (world_of frame.world) (Known frame.world.platform known) (Known frame.world.platform note.knows.known) (known_more frame.world known note.knows.known w) r.cargo.baton.txn (hop_at can.pass can.hop) (drop (can.hop + 1) can.pass.hops) r.due can.least);
        },
        a.4,
      )

-- END BELOW
module _ (frame : Frame Plan) (tokens : TableId) (known : List (Entry Content)) (r : Rest) (at : ℕ) (above : HasEndedAbove frame tokens known r at) (leg : Slip) (ticket : Ticket) (is : r.end ≡ Owed leg ticket) where
  pub owed : IsLegOfLane frame tokens (hop_place frame.world (hop_at above.pass (above.hop + 1))) known r.txn Responding leg × IsTicket tokens (hop_place frame.world (hop_at above.pass (above.hop + 1))) ticket
  owed = subst (IsEnd frame tokens known r.txn above.pass (above.hop + 1)) is above.rest.end

  pub ticket_below : IsTicket tokens (hop_place frame.world r.below) ticket
  ticket_below = subst (λ (h : ℕ). IsTicket tokens (hop_place frame.world h) ticket) above.rest.below owed.1

  pub ended_before : (j : ℕ) → above.hop + 1 ≡ j + 1 → Finds (Known frame.world.platform known) (IsEnder r.txn (hop_at above.pass j))
  ended_before j q = let same : above.hop ≡ j = omega (arith, q) in subst (λ (n : ℕ). Finds (Known frame.world.platform known) (IsEnder r.txn (hop_at above.pass n))) same above.ender

  pub least : NumberOf (world_of frame.world) (Known frame.world.platform known) r.txn above.pass (above.hop + 1) Phases.EndResp at
  least = subst (λ (n : ℕ). NumberOf (world_of frame.world) (Known frame.world.platform known) r.txn above.pass n Phases.EndResp at) (sym (add-one above.hop)) (inl above.sent)

  abbrev pub can_end_below : CanEndResponse frame tokens r.below leg at known
  can_end_below = record {
    x = r.txn;
    pass = above.pass;
    hop = above.hop + 1;
    way = record { passes = above.rest.passes; below = above.rest.next; here = above.rest.below; taken = above.rest.taken };
    leg_of = subst (λ (h : ℕ). IsLegOfLane frame tokens (hop_place frame.world h) known r.txn Responding leg) above.rest.below owed.0;
    ended = ended_before;
    least = least;
  }

  pub ends_below : (back : List (Entry Content)) (time : ℕ) → Within known back → HasEndedResponse frame at r.txn above.pass (above.hop + 1) time back → EndsBelow frame tokens back r at (record { txn = r.txn; below = r.below; end = At time; hold = r.hold; ticket = r.ticket })
  ends_below back time w e =
      let f = e.made in
      record {
        time = time;
        late = e.late;
        same = refl;
        made = subst (λ (h : ℕ). FindsAt (Known frame.world.platform back) (IsCall r.txn h Phases.EndResp Completed) time) above.rest.below e.made;
        pass = above.pass;
        hop = above.hop;
        rest = record {
          passes = above.rest.passes;
          next = above.rest.next;
          few = above.rest.few;
          below = above.rest.below;
          taken = finds_more frame.world known back w above.rest.taken;
          served = λ t. finds_more frame.world known back w (above.rest.served t);
          end = record {
            ender = record { event = f.event; known = f.known; is = record { phase = Phases.EndResp; answer = Completed; call = f.is; ends = tt } };
            time = inr (record { event = f.event; known = f.known; is = (record { phase = Phases.EndResp; answer = Completed; call = f.is; ends = tt }, inr (record { answer = Completed; call = f.is })); time = f.time });
          };
          hold = hold_more frame.world tokens known back w r.txn above.pass (above.hop + 1) r.hold above.rest.hold;
          ticket = above.rest.ticket;
        };
      }

-- RELEASE
pub released_is : (n : ℕ) → n < 15 → released_hop n ≡ n
released_is n few = go (n == 15) (ne_eqb n 15 (λ q. omega (arith, few, q)))
  where
    go : (b : Bool) → b ≡ false → cond b 0 n ≡ n
    go true q = cc
    go false q = refl

module _ (frame : Frame Plan) (tokens : TableId) (known : List (Entry Content)) (r : Rest) (of : IsReleasing frame tokens known r) (at : ℕ) (is : r.end ≡ At at) where
  pub ended_at : HasEndedAt frame tokens known r.txn of.pass (of.hop + 1) at
  ended_at = subst (IsEnd frame tokens known r.txn of.pass (of.hop + 1)) is of.rest.end

  abbrev pub can_release : CanRelease frame tokens r.txn.initiator r.hold at known
  can_release = record {
    x = r.txn;
    pass = of.pass;
    access = record { of = refl; passes = of.rest.passes };
    position = of.rest.hold.position;
    taken = of.rest.hold.taken;
    count = of.hop + 1;
    few = of.rest.few;
    is = of.rest.hold.is;
    after = record {
      below = subst (λ (n : ℕ). n < hop_count of.pass) (sym (released_is (of.hop + 1) of.rest.few)) of.rest.next;
      ended = subst (λ (n : ℕ). Finds (Known frame.world.platform known) (IsEnder r.txn (hop_at of.pass n))) (sym (released_is (of.hop + 1) of.rest.few)) ended_at.ender;
      time = subst (λ (n : ℕ). EndIs (world_of frame.world) (Known frame.world.platform known) r.txn of.pass n at) (sym (released_is (of.hop + 1) of.rest.few)) ended_at.time;
      served = of.rest.served;
    };
  }

  pub was_released : (back : List (Entry Content)) (freed : Bool) → WasReleased frame r.txn (of.hop + 1) at freed back → HasReleased frame back r
  was_released back freed f = subst (HasReleasedAt frame back r.txn) (sym is) (of.hop + 1, record { event = f.event; known = f.known; is = record { freed = freed; release = f.is }; time = f.time })
