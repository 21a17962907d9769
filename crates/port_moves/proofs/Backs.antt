-- The moves of an access that is back: what they need to know, and that the port is one again after them.
use Rattle.std.proofs.Common.{◌≡◌, ℕ, ◌<◌, [], ◌∷◌, ◌++◌, length, Option, Some, None, refl, sym, ap, ◌∙◌, subst, arith}
use Rattle.std.specs.Prelude.{slice_get}
use Rattle.atomic_table.specs.Seated.{TableId}
use Rattle.view_lists.specs.Lists.{Within}
use Rattle.one_history.specs.Held.{Held}
use Rattle.one_history.specs.declared.view.Frame.{Frame}
use Rattle.shared_object.specs.Steps.{IsNote}
use Rattle.tlm_types.specs.declared.entry.Content.{Content}
use Rattle.tlm_types.specs.declared.words.ObjectNo.TheVariants.{Hop}
use Rattle.tlm_types.specs.declared.words.Phase.TheVariants.{BeginResp, EndResp}
use Rattle.tlm_types.specs.declared.words.TlmSync.TheVariants.{Completed}
use Rattle.tlm_types.specs.declared.words.TxnId.{TxnId}
use Rattle.flow_model.specs.Answers.{response_answer}
use Rattle.tlm_model.specs.Plan.{Plan, initiators_of}
use Rattle.base_phases.specs.declared.phases.LaneState.TheVariants.{Responding}
use Rattle.token_book.specs.Account.{Slip}
use Rattle.token_book.specs.Purse.{IsOf, Purse, left_of}
use Rattle.token_book.specs.Ticket.{IsTicket}
use Rattle.token_book.specs.declared.ticket.Ticket.{Ticket}
use Rattle.payload_pool.specs.declared.baton.Baton.{Baton}
use Rattle.flow_model.specs.World.{hop_at}
use Rattle.flow_model.specs.Events.{FindsAt, IsCall}
use Rattle.cargo_model.specs.declared.cargo.Cargo.{Cargo}
use Rattle.cargo_model.specs.Known.{Known, object_number}
use Rattle.cargo_model.specs.Tickets.{Pulls}
use Rattle.cargo_model.specs.Travel.{with_wallet}
use Rattle.cargo_model.proofs.Up.{end_resp_paid}
use Rattle.cargo_net.specs.Ends.{HasEndedResponse}
use Rattle.cargo_net.specs.Hops.{IsLegOfLane}
use Rattle.cargo_net.specs.Fetched.{HasFetchedResponse, mode_above}
use Rattle.route_plan.specs.Valid.{hop_count as route_hops}
use Rattle.plat_net.specs.HopCalls.{CanEndResponse}
use Rattle.plat_net.specs.Net.{HasPool}
use Rattle.plat_net.specs.PoolCalls.{CanStow}
use Rattle.cargo_net.specs.declared.fetches.FetchedResponse.{FetchedResponse}
use Rattle.one_history.specs.Lists.{StandBelow}
use Rattle.port_moves.specs.Reach.{first_hop, own_pool}
use Rattle.port_moves.specs.State.{GoesBack, IsHandOf, IsHeld, IsInHand, IsOwed, IsPort, StateView, with_note}
use Rattle.port_moves.specs.Moves.{Fetches, FindsNone, IsFetched, KeepsPort, txn_in}
use Rattle.port_moves.specs.Moved.{response_hand}
use Rattle.port_moves.specs.declared.hand.Hand.{Hand}
use Rattle.port_moves.specs.declared.hand.Hand.TheVariants.{Free, Owed, Ended, Released}
use Rattle.port_moves.proofs.FirstHop.{first_of, has_its_pool, is_first, low}
use Rattle.port_moves.proofs.Goes.{fetched_hand, goes_on, owed_ended, taken_is_take}
use Rattle.port_moves.proofs.HandsMore.{held_more, owed_more}

-- what a response is, whether END_RESP is owed or not
pub response_goes_back : (leg : Option Slip) (c : Cargo) (time : ℕ) → GoesBack (response_hand leg c time)
response_goes_back None c time = tt
response_goes_back (Some leg) c time = tt

pub response_txn : (leg : Option Slip) (c : Cargo) (time : ℕ) → txn_in (response_hand leg c time) ≡ Some (let b = c.baton in b.txn)
response_txn None c time = refl
response_txn (Some leg) c time = refl

pub response_time : (leg : Option Slip) (c : Cargo) (time : ℕ) → IsFetched time (response_hand leg c time)
response_time None c time = refl
response_time (Some leg) c time = refl

module _ (table tokens : TableId) (frame : Frame Plan) (s : StateView) (note : Held Content Plan) (p : IsPort table tokens frame (with_note s note)) where
  -- its initiator is the one of its number
  pub its : slice_get (initiators_of frame.world) p.initiator.number ≡ Some p.initiator
  its = subst (λ (n : ℕ). slice_get (initiators_of frame.world) n ≡ Some p.initiator) (sym p.number) p.is

  pub stands : s.port.engine.initiator < length frame.world.platform.initiators
  stands = subst (λ (n : ℕ). n < length frame.world.platform.initiators) p.number (low frame.world p.initiator its p.style)

  pub stands_hop : s.port.engine.initiator < route_hops frame.world.platform
  stands_hop = omega (arith, stands)

  pub hop_stands : (n : ℕ) → n ≡ s.port.engine.initiator → n < route_hops frame.world.platform
  hop_stands n who = subst (λ (k : ℕ). k < route_hops frame.world.platform) (sym who) stands_hop

  pub pool_is_there : HasPool frame.world.platform s.port.engine.initiator
  pool_is_there = subst (HasPool frame.world.platform) p.number (has_its_pool frame.world p.initiator its p.style)

  -- STOW
  pub can_stow : (b : Baton) (t : Ticket) (end : ℕ) → IsHandOf frame tokens (with_note s note) (Released b t end) → CanStow frame tokens s.port.engine.initiator b end note.knows.known
  can_stow b t end h = let r = h p.initiator p.is in subst (λ (n : ℕ). CanStow frame tokens n b end note.knows.known) p.number r.stow

  pub stow_ticket : (b : Baton) (t : Ticket) (end : ℕ) → IsHandOf frame tokens (with_note s note) (Released b t end) → IsTicket tokens (own_pool frame.world s.port.engine.initiator) t
  stow_ticket b t end h = let r = h p.initiator p.is in subst (λ (n : ℕ). IsTicket tokens (own_pool frame.world n) t) p.number r.of

  -- END
  module _ (c : Cargo) (leg : Slip) (time : ℕ) (h : IsHandOf frame tokens (with_note s note) (Owed c leg time)) where
    abbrev pub owed : IsOwed frame tokens p.initiator s.port note.knows.known c leg time
    owed = h p.initiator p.is

    pub end_first : hop_at owed.pass 0 ≡ p.initiator.number
    end_first = first_of frame.world p.initiator its p.style tokens (Known frame.world.platform note.knows.known) c.baton.txn owed.pass owed.up.asked owed.own

    pub place_is : object_number frame.world.platform (Hop (hop_at owed.pass 0)) ≡ first_hop frame.world s.port.engine.initiator
    place_is = ap (λ (n : ℕ). object_number frame.world.platform (Hop n)) (end_first ∙ p.number)

    pub end_of : IsOf tokens c.baton.wallet
    end_of = (let t = owed.up.tickets in t.of)

    pub end_paid : 0 < left_of c.baton.wallet (first_hop frame.world s.port.engine.initiator)
    end_paid =
        let q = end_resp_paid (record { p = frame.world; tokens = tokens; entries = note.knows.known; x = c.baton.txn; pass = owed.pass; c = c }) 0 1 owed.up in
        subst (λ (n : ℕ). 0 < left_of c.baton.wallet n) place_is q

    abbrev pub can_end : CanEndResponse frame tokens s.port.engine.initiator leg time note.knows.known
    can_end = record {
      x = c.baton.txn;
      pass = owed.pass;
      hop = 0;
      way = record {
        passes = owed.passes;
        below = (let d = owed.up.held in d.below);
        here = end_first ∙ p.number;
        taken = (let d = owed.up.held in let f = d.taken in record { event = f.event; known = f.known; is = taken_is_take c.baton.txn d.position (let b = c.baton in b.slot) f.event f.is });
      };
      leg_of = subst (λ (n : ℕ). IsLegOfLane frame tokens (first_hop frame.world n) note.knows.known c.baton.txn Responding leg) p.number owed.leg_of;
      ended = λ j q. absurd (omega (arith, q));
      least = owed.least;
    }

  -- what comes of a note that knows more
  module _ (back : Held Content Plan) (of : IsNote table back) (within : Within note.knows.known back.knows.known) (below : StandBelow back.knows.known back.knows.seen) where
    pub still_held : IsHeld frame tokens p.initiator s.port back.knows.known s.held
    still_held = held_more frame tokens p.initiator s.port note.knows.known back.knows.known within s.held p.is_held

    -- it works on nothing
    pub goes_free : s.hand ≡ Free → IsPort table tokens frame (with_note s back)
    goes_free free = goes_on table tokens frame s note back s.hand s.held p of within below
        (subst (λ (hand : Hand). IsInHand frame tokens p.initiator s.port back.knows.known hand) (sym free) tt) still_held
        (λ c q. subst GoesBack (sym free) tt)

    pub keeps : (hand : Hand) (held : Option Cargo) → KeepsPort (with_note s note) (with_note (record s { hand = hand; held = held }) back)
    keeps hand held = record { port = refl; room = refl; known = within }

    -- FETCH
    module _ (r : FetchedResponse) (f : HasFetchedResponse frame tokens (first_hop frame.world s.port.engine.initiator) r back.knows.known) where
      abbrev g : HasFetchedResponse frame tokens (first_hop frame.world p.initiator.number) r back.knows.known
      g = subst (λ (n : ℕ). HasFetchedResponse frame tokens (first_hop frame.world n) r back.knows.known) (sym p.number) f

      first : (g.hop ≡ 0) × (r.txn.initiator ≡ p.initiator.number) × (hop_at g.pass g.hop ≡ p.initiator.number)
      first = is_first frame.world p.initiator its p.style tokens (Known frame.world.platform back.knows.known) r.txn g.pass g.up.asked g.hop (let d = g.up.held in d.below) g.place

      pub fetched : IsPort table tokens frame (with_note (record s { hand = response_hand r.leg r.cargo r.at; held = s.held }) back)
      fetched = goes_on table tokens frame s note back (response_hand r.leg r.cargo r.at) s.held p of within below
          (fetched_hand frame tokens p.initiator s.port note.knows.known back.knows.known within r g first.0 first.1) still_held
          (λ c q. response_goes_back r.leg r.cargo r.at)

      pub fetched_made : FindsAt (Known frame.world.platform back.knows.known) (IsCall r.txn s.port.engine.initiator BeginResp (response_answer (mode_above frame.world g.pass g.hop))) r.at
      fetched_made = subst (λ (n : ℕ). FindsAt (Known frame.world.platform back.knows.known) (IsCall r.txn n BeginResp (response_answer (mode_above frame.world g.pass g.hop))) r.at) (first.2 ∙ p.number) g.made

      pub fetched_txn : txn_in (response_hand r.leg r.cargo r.at) ≡ Some r.txn
      fetched_txn = response_txn r.leg r.cargo r.at ∙ ap (λ (x : TxnId). Some x) (let d = g.up.held in d.txn)

      pub fetches_one : back.knows.looks ≡ note.knows.looks ++ (first_hop frame.world s.port.engine.initiator, 0) ∷ [] → Fetches frame (with_note s note) (with_note (record s { hand = response_hand r.leg r.cargo r.at; held = s.held }) back)
      fetches_one look = record {
        keeps = keeps (response_hand r.leg r.cargo r.at) s.held;
        x = r.txn;
        at = r.at;
        answer = response_answer (mode_above frame.world g.pass g.hop);
        made = fetched_made;
        txn = fetched_txn;
        fetched = response_time r.leg r.cargo r.at;
        held = refl;
        look = look;
      }

    -- none waits there
    pub fetches_none : back.knows.looks ≡ note.knows.looks ++ (first_hop frame.world s.port.engine.initiator, 2) ∷ [] → FindsNone frame (with_note s note) (with_note s back)
    fetches_none look = record { keeps = keeps s.hand s.held; hand = refl; held = refl; look = look }

    -- by what the call says
    pub fetched_as : (new : StateView) (r : FetchedResponse) (n : ℕ) → n ≡ s.port.engine.initiator → new ≡ record s { hand = response_hand r.leg r.cargo r.at } → HasFetchedResponse frame tokens (first_hop frame.world n) r back.knows.known
        → IsPort table tokens frame (with_note new back)
    fetched_as new r n who is f =
        subst (λ (t : StateView). IsPort table tokens frame (with_note t back)) (sym is) (fetched r (subst (λ (k : ℕ). HasFetchedResponse frame tokens (first_hop frame.world k) r back.knows.known) who f))

    pub fetches_as : (new : StateView) (r : FetchedResponse) (n : ℕ) → n ≡ s.port.engine.initiator → new ≡ record s { hand = response_hand r.leg r.cargo r.at } → HasFetchedResponse frame tokens (first_hop frame.world n) r back.knows.known
        → back.knows.looks ≡ note.knows.looks ++ (first_hop frame.world n, 0) ∷ [] → Fetches frame (with_note s note) (with_note new back)
    fetches_as new r n who is f look =
        subst (λ (t : StateView). Fetches frame (with_note s note) (with_note t back)) (sym is)
        (fetches_one r (subst (λ (k : ℕ). HasFetchedResponse frame tokens (first_hop frame.world k) r back.knows.known) who f) (subst (λ (k : ℕ). back.knows.looks ≡ note.knows.looks ++ (first_hop frame.world k, 0) ∷ []) who look))

    pub finds_none : (n : ℕ) → n ≡ s.port.engine.initiator → back.knows.looks ≡ note.knows.looks ++ (first_hop frame.world n, 2) ∷ [] → FindsNone frame (with_note s note) (with_note s back)
    finds_none n who look = fetches_none (subst (λ (k : ℕ). back.knows.looks ≡ note.knows.looks ++ (first_hop frame.world k, 2) ∷ []) who look)

    -- END
    module _ (c : Cargo) (leg : Slip) (time end : ℕ) (after : Purse) (h : IsHandOf frame tokens (with_note s note) (Owed c leg time)) (pulls : Pulls tokens (first_hop frame.world s.port.engine.initiator) 0 c.baton.wallet after)
        (e : HasEndedResponse frame time c.baton.txn (owed c leg time h).pass 0 end back.knows.known) where
      pub ended : IsPort table tokens frame (with_note (record s { hand = Ended (with_wallet c after) end; held = s.held }) back)
      ended = goes_on table tokens frame s note back (Ended (with_wallet c after) end) s.held p of within below
          (owed_ended frame tokens p.initiator s.port note.knows.known back.knows.known within c leg time end after
          (owed_more frame tokens p.initiator s.port note.knows.known back.knows.known within c leg time (owed c leg time h))
          (subst (λ (n : ℕ). Pulls tokens (first_hop frame.world n) 0 c.baton.wallet after) (sym p.number) pulls) (end_first c leg time h) e.made)
          still_held (λ d q. tt)

      pub end_made : FindsAt (Known frame.world.platform back.knows.known) (IsCall c.baton.txn s.port.engine.initiator EndResp Completed) end
      end_made = subst (λ (n : ℕ). FindsAt (Known frame.world.platform back.knows.known) (IsCall c.baton.txn n EndResp Completed) end) (end_first c leg time h ∙ p.number) e.made
