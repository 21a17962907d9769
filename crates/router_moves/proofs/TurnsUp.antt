-- What a router knows of a response that it turns upwards.
use Rattle.std.proofs.Common.{◌≡◌, ◌⊎◌, ℕ, ◌+◌, ◌<◌, ◌≤◌, List, Option, Some, None, refl, sym, ◌∙◌, ap, subst, arith}
use Rattle.std.specs.Prelude.{◌≢◌, IfSome, IsTrue, is_some}
use Rattle.atomic_table.specs.Seated.{TableId}
use Rattle.one_history.specs.declared.entry.Entry.{Entry}
use Rattle.one_history.specs.declared.view.Frame.{Frame}
use Rattle.tlm_types.specs.declared.entry.Content.{Content}
use Rattle.tlm_types.specs.declared.words.Phase.TheVariants as Phases
use Rattle.tlm_types.specs.declared.words.ReqMode.TheVariants.{Accept}
use Rattle.tlm_types.specs.declared.words.TlmSync.TheVariants.{Accepted}
use Rattle.tlm_types.specs.declared.words.TxnId.{TxnId}
use Rattle.tlm_types.specs.declared.words.Way.TheVariants.{FourPhase}
use Rattle.tlm_model.specs.Plan.{Plan}
use Rattle.tlm_model.specs.Route.{Route}
use Rattle.base_phases.specs.declared.phases.LaneState.TheVariants.{Requested, Responding, Waiting}
use Rattle.token_book.specs.Account.{Slip}
use Rattle.token_book.specs.Purse.{IsOf, Purse, left_of}
use Rattle.token_book.specs.Ticket.{IsTicket}
use Rattle.token_book.specs.declared.ticket.Ticket.{Ticket}
use Rattle.payload_pool.specs.declared.baton.Baton.{Baton}
use Rattle.flow_model.specs.World.{Passage, hop_at, hop_count, row_of}
use Rattle.flow_model.specs.Events.{Event, Finds, IsAccess, IsCall}
use Rattle.flow_model.specs.Platform.{world_of}
use Rattle.platform_shape.specs.Shape.{IsShape}
use Rattle.cargo_model.specs.Known.{Known}
use Rattle.cargo_model.specs.Tickets.{AreApart, Pulls, PullsOwed}
use Rattle.cargo_model.specs.Travel.{GoesUp, IsReplied, Ready, numbers_for, route_for}
use Rattle.cargo_model.proofs.Up.{ascends, end_resp_paid}
use Rattle.cargo_model.proofs.Wallets.{pulled_there}
use Rattle.cargo_net.specs.Hops.{IsLegOfLane}
use Rattle.plat_net.specs.HopCalls.{CanRespond}
use Rattle.plat_net.specs.Net.{HasPool}
use Rattle.plat_net.specs.Places.{hop_place, own_pool}
use Rattle.plat_net.proofs.Given.{asked_apart, asked_pool, few_passed}
use Rattle.router_moves.specs.Items.{HasDebt, HasEndedAt, IsEnd, OwesEnd}
use Rattle.router_moves.specs.Moves.{IsBackFor, IsEndOf, PullsFor, TurnsUp}
use Rattle.router_moves.specs.declared.items.Back.{Back}
use Rattle.router_moves.specs.declared.items.End.{End}
use Rattle.router_moves.specs.declared.items.End.TheVariants.{Owed, At}
use Rattle.router_moves.specs.declared.items.PassedOn.{PassedOn}

module _ (frame : Frame Plan) (tokens : TableId) (known : List (Entry Content)) (shape : IsShape frame.world.platform) (h : PassedOn) (b : Back) (back : IsBackFor frame tokens known h b) where
  abbrev p : Plan
  p = frame.world

  abbrev K : Event → Type 0
  K = Known p.platform known

  abbrev baton : Baton
  baton = b.cargo.baton

  place_is : hop_place p (hop_at back.pass (back.hop + 1)) ≡ hop_place p h.below
  place_is = ap (hop_place p) back.held.below

  apart : AreApart (hop_count back.pass) (numbers_for p tokens K h.txn back.pass back.back.up.asked)
  apart = asked_apart p tokens K h.txn back.pass back.back.up.asked shape

  pub of : IsOf tokens b.cargo.baton.wallet
  of = (let t = back.back.up.tickets in t.of)

  -- the ticket of END_RESP is there where it is owed
  pub end_left : IfSome b.leg (λ (l : Slip). 0 < left_of b.cargo.baton.wallet (hop_place p h.below))
  end_left = by b.leg back.back.end
    where
      paid : back.owed ≤ left_of b.cargo.baton.wallet (hop_place p (hop_at back.pass (back.hop + 1)))
      paid = end_resp_paid (record { p = p; tokens = tokens; entries = known; x = h.txn; pass = back.pass; c = b.cargo }) (back.hop + 1) back.owed back.back.up

      by : (leg : Option Slip) → OwesEnd frame tokens known h.txn back.pass (back.hop + 1) b.at back.owed leg → IfSome leg (λ (l : Slip). 0 < left_of b.cargo.baton.wallet (hop_place p h.below))
      by None e = tt
      by (Some l) e = let o = e.0 in subst (λ (n : ℕ). 0 < left_of b.cargo.baton.wallet n) place_is (omega (arith, paid, o))

  pub pool_there : HasPool p.platform h.txn.initiator
  pool_there = asked_pool p tokens K h.txn.initiator h.txn back.pass refl back.back.up.asked

  -- what was pulled is what was owed
  pulls_owed : (leg : Option Slip) (new : Baton) → OwesEnd frame tokens known h.txn back.pass (back.hop + 1) b.at back.owed leg → PullsFor tokens (hop_place p h.below) leg b.cargo.baton new → PullsOwed tokens back.owed (hop_place p (hop_at back.pass (back.hop + 1))) b.cargo.baton.wallet new.wallet
  pulls_owed None new e pulls = record { none = λ q. ap (λ (d : Baton). d.wallet) pulls; one = λ q. absurd (never back.owed e.0 q) }
    where
      never : (n : ℕ) → n ≡ 0 → n ≡ 1 → ⊥
      never n q r = omega arith
  pulls_owed (Some l) new e pulls = record { none = λ q. absurd (never back.owed q e.0); one = λ q. subst (λ (n : ℕ). Pulls tokens n 0 b.cargo.baton.wallet new.wallet) (sym place_is) pulls.1 }
    where
      never : (n : ℕ) → n ≡ 0 → n ≡ 1 → ⊥
      never n q r = omega arith

  new_baton : (leg : Option Slip) (new : Baton) → PullsFor tokens (hop_place p h.below) leg b.cargo.baton new → new ≡ (let w = new.wallet in let o = b.cargo.baton in record o { wallet = w })
  new_baton None new pulls = subst (λ (d : Baton). d ≡ (let w = d.wallet in let o = b.cargo.baton in record o { wallet = w })) (sym pulls) refl
  new_baton (Some l) new pulls = pulls.0

  module _ (new : Baton) (pulls : PullsFor tokens (hop_place p h.below) b.leg b.cargo.baton new) where
    owed : PullsOwed tokens back.owed (hop_place p (hop_at back.pass (back.hop + 1))) b.cargo.baton.wallet new.wallet
    owed = pulls_owed b.leg new back.back.end pulls

    -- the ticket of the Release is there
    pub release_left : 0 < left_of new.wallet (own_pool p h.txn.initiator)
    release_left = by b.leg pulls
      where
        before : 0 < left_of b.cargo.baton.wallet (own_pool p h.txn.initiator)
        before = let t = back.back.up.tickets in let q = t.pool in omega (arith, q)

        by : (leg : Option Slip) → PullsFor tokens (hop_place p h.below) leg b.cargo.baton new → 0 < left_of new.wallet (own_pool p h.txn.initiator)
        by None q = subst (λ (d : Baton). 0 < left_of d.wallet (own_pool p h.txn.initiator)) (sym q) before
        by (Some l) q = subst (λ (n : ℕ). 0 < n) (sym (pulled_there tokens (hop_place p h.below) 0 b.cargo.baton.wallet new.wallet q.1 (own_pool p h.txn.initiator) other)) before
          where
            other : own_pool p h.txn.initiator ≢ hop_place p h.below
            other e = apart.pool (back.hop + 1) back.held.next (place_is ∙ sym e)

    pub new_of : IsOf tokens new.wallet
    new_of = by b.leg pulls
      where
        by : (leg : Option Slip) → PullsFor tokens (hop_place p h.below) leg b.cargo.baton new → IsOf tokens new.wallet
        by None q = subst (λ (d : Baton). IsOf tokens d.wallet) (sym q) of
        by (Some l) q = (let m = q.1 in m.of)

    served : IsTrue back.pass.routed → Finds K (IsAccess h.txn)
    served t = by (route_for p tokens K h.txn back.pass back.back.up.asked) back.back.up.content (subst IsTrue (ap (λ (g : Passage). g.routed) back.back.up.asked.way) t)
      where
        by : (r : Option Route) → IsReplied p tokens K h.txn back.pass back.back.up.asked.access r b.cargo.baton.payload → IsTrue (is_some r) → Finds K (IsAccess h.txn)
        by None c t = cc (t)
        by (Some r) c t = (
            let s = c.is in
            record { event = c.event; known = c.known; is = record { memory = r.memory; object = s.object; txn = s.txn; way = FourPhase; access = (let a = back.back.up.asked.access in record a { offset = r.offset }); status = s.status; got = s.got; what = s.what } }
            )

    end_is : (leg : Option Slip) (end : End) → OwesEnd frame tokens known h.txn back.pass (back.hop + 1) b.at back.owed leg → IsEndOf tokens (hop_place p h.below) leg b.at end → IsEnd frame tokens known h.txn back.pass (back.hop + 1) end
    end_is (Some l) (Owed same ticket) e of =
        (subst (λ (m : Slip). IsLegOfLane frame tokens (hop_place p (hop_at back.pass (back.hop + 1))) known h.txn Responding m) (sym of.0) e.1, subst (λ (n : ℕ). IsTicket tokens n ticket) (sym place_is) of.1)
    end_is None (At time) e of = subst (λ (t : ℕ). HasEndedAt frame tokens known h.txn back.pass (back.hop + 1) t) (sym of) e.1
    end_is (Some l) (At time) e of = absurd of
    end_is None (Owed same ticket) e of = absurd of

    pub turns : (settled : h.owed ≡ None) (end : End) (last : Purse) (ticket : Ticket) → IsEndOf tokens (hop_place p h.below) b.leg b.at end → Pulls tokens (own_pool p h.txn.initiator) 0 new.wallet last → IsTicket tokens (own_pool p h.txn.initiator) ticket
        → TurnsUp frame tokens known h b (record { hop = h.above; leg = h.leg; due = b.at; cargo = record { baton = record new { wallet = last }; hold = h.kept } }) (record { txn = h.txn; below = h.below; end = end; hold = (let c = b.cargo in c.hold); ticket = ticket })
    turns settled end last ticket end_of release of_pool =
        let debt : ((back.state ≡ Requested) ⊎ (back.state ≡ Waiting)) × (row_of (world_of p) back.pass back.hop ≡ Accept → Finds K (IsCall h.txn (hop_at back.pass back.hop) Phases.EndReq Accepted)) =
        subst (HasDebt frame tokens known h.txn back.pass back.hop back.state) settled back.held.debt in
        let up : GoesUp p tokens K h.txn back.pass Ready back.hop (record { baton = (let o = b.cargo.baton in record o { wallet = last }); hold = h.kept }) =
        ascends (record { p = p; tokens = tokens; entries = known; x = h.txn; pass = back.pass; c = b.cargo }) back.hop back.owed back.back.up new.wallet last apart back.few owed release h.kept back.held.kept in
        let few = few_passed p tokens K h.txn back.pass back.back.up.asked shape in
        let next = back.held.next in
        let held = back.back.up.held in
        subst (λ (d : Baton). TurnsUp frame tokens known h b (record { hop = h.above; leg = h.leg; due = b.at; cargo = record { baton = record d { wallet = last }; hold = h.kept } }) (record { txn = h.txn; below = h.below; end = end; hold = (let c = b.cargo in c.hold); ticket = ticket })) (sym (new_baton b.leg new pulls)) (record {
          pass = back.pass;
          hop = back.hop;
          above = back.held.above;
          at = refl;
          due = refl;
          txn = held.txn;
          can = subst (λ (x : TxnId). CanRespond frame tokens h.above h.leg (record { baton = (let o = b.cargo.baton in record o { wallet = last; txn = x }); hold = h.kept }) b.at known) (sym held.txn) (record {
            pass = back.pass;
            hop = back.hop;
            here = back.held.above;
            up = subst (λ (x : TxnId). GoesUp p tokens K h.txn back.pass Ready back.hop (record { baton = (let o = b.cargo.baton in record o { wallet = last; txn = x }); hold = h.kept })) held.txn up;
            state = back.state;
            open_lane = debt.0;
            leg_of = back.held.leg_of;
            answer = back.held.answer;
            begun = back.held.begun;
            fits = back.held.fits;
            responds = back.held.responds;
            ended = debt.1;
            least = back.back.least;
          });
          begun = (let l = back.held.leg_of in record { entry = l.entry; has = l.has; object = l.object; txn = l.txn });
          of = (refl, refl);
          rest_of = record {
            passes = back.held.passes;
            next = back.held.next;
            few = omega (arith, few, next);
            below = back.held.below;
            taken = back.held.taken;
            served = served;
            end = end_is b.leg end back.back.end end_of;
            hold = held.hold;
            ticket = of_pool;
          };
        })
