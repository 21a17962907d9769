-- The moves of an access on its way to the first hop: what they need to know, and that the port is one again after them.
use Rattle.std.proofs.Common.{◌≡◌, ℕ, [], ◌∷◌, ◌++◌, Option, Some, None, refl, sym, ap, ◌∙◌, subst}
use Rattle.atomic_table.specs.Seated.{TableId}
use Rattle.view_lists.specs.Lists.{Within}
use Rattle.one_history.specs.Held.{Held}
use Rattle.one_history.specs.Lists.{StandBelow}
use Rattle.one_history.specs.declared.view.Frame.{Frame}
use Rattle.shared_object.specs.Steps.{IsNote}
use Rattle.tlm_types.specs.declared.entry.Content.{Content}
use Rattle.tlm_types.specs.declared.words.Phase.TheVariants.{BeginReq}
use Rattle.tlm_types.specs.declared.words.TlmSync.{TlmSync}
use Rattle.tlm_types.specs.declared.words.TxnId.{TxnId}
use Rattle.tlm_model.specs.Plan.{Plan, Initiator}
use Rattle.token_book.specs.Account.{Slip}
use Rattle.payload_pool.specs.declared.baton.Baton.{Baton}
use Rattle.flow_model.specs.World.{hop_at}
use Rattle.flow_model.specs.Events.{FindsAt, IsAcquire, IsCall, IsTake}
use Rattle.flow_model.specs.Platform.{passage_of}
use Rattle.cargo_model.specs.declared.cargo.Cargo.{Cargo}
use Rattle.cargo_model.specs.Known.{Known}
use Rattle.cargo_model.specs.Travel.{GoesDown, Ready, There, with_wallet}
use Rattle.cargo_net.specs.Begins.{HasOwedLeg, HasRequested}
use Rattle.cargo_net.specs.Tried.{IsTried}
use Rattle.cargo_net.specs.declared.requests.Tried.{Tried}
use Rattle.cargo_net.specs.declared.requests.Tried.TheVariants.{Left, Now, Busy}
use Rattle.cargo_net.specs.Wallets.{item_given}
use Rattle.plat_net.specs.HopCalls.{CanBegin}
use Rattle.plat_net.specs.PoolCalls.{CanStart}
use Rattle.port_moves.specs.Moves.{Acquires, Begins, FindsBusy, HasGone}
use Rattle.port_moves.specs.Reach.{first_hop, own_pool}
use Rattle.port_moves.specs.State.{GoesBack, IsBegun, IsHandOf, IsHeld, IsInHand, IsPort, IsReady, IsTakenUp, StateView, with_note}
use Rattle.port_moves.specs.declared.hand.Hand.{Hand}
use Rattle.port_moves.specs.declared.hand.Hand.TheVariants.{Free, Taken, Acquired, Begun}
use Rattle.port_moves.proofs.Backs.{its, keeps}
use Rattle.port_moves.proofs.FirstHop.{first_of}
use Rattle.port_moves.proofs.Goes.{acquired_ready, goes_on}
use Rattle.port_moves.proofs.HandsMore.{step}

never_held : (held : Option Cargo) (hand : Hand) → held ≡ None → (c : Cargo) → held ≡ Some c → GoesBack hand
never_held held hand none c some = cc

module _ (table tokens : TableId) (frame : Frame Plan) (s : StateView) (note : Held Content Plan) (p : IsPort table tokens frame (with_note s note)) where
  abbrev i : Initiator
  i = p.initiator

  -- ACQUIRE
  module _ (b : Baton) (h : IsHandOf frame tokens (with_note s note) (Taken b)) where
    abbrev taken : IsTakenUp frame tokens i s.port note.knows.known b
    taken = h i p.is

    abbrev pub can_acquire : CanStart frame tokens s.port.engine.initiator b s.port.time note.knows.known
    can_acquire = subst (λ (n : ℕ). CanStart frame tokens n b s.port.time note.knows.known) p.number taken.start

    pub can_acquire_at : (n d : ℕ) → n ≡ s.port.engine.initiator → d ≡ s.port.time → CanStart frame tokens n b d note.knows.known
    can_acquire_at n d who when = subst (λ (k : ℕ). CanStart frame tokens k b d note.knows.known) (sym who) (subst (λ (e : ℕ). CanStart frame tokens s.port.engine.initiator b e note.knows.known) (sym when) can_acquire)

    module _ (back : Held Content Plan) (of : IsNote table back) (within : Within note.knows.known back.knows.known) (below : StandBelow back.knows.known back.knows.seen) (none : s.held ≡ None) where
      pub acquired : (c : Cargo) → ((can : CanStart frame tokens s.port.engine.initiator b s.port.time note.knows.known) → GoesDown frame.world tokens (Known frame.world.platform back.knows.known) b.txn can.pass Ready 0 c)
          → IsPort table tokens frame (with_note (record s { hand = Acquired c; held = s.held }) back)
      acquired c down = goes_on table tokens frame s note back (Acquired c) s.held p of within below
          (acquired_ready frame tokens i s.port note.knows.known back.knows.known within b c taken
          (by_number s.port.engine.initiator p.number down))
          (subst (λ (held : Option Cargo). IsHeld frame tokens i s.port back.knows.known held) (sym none) tt) (never_held s.held (Acquired c) none)
        where
          by_number : (n : ℕ) → i.number ≡ n → ((can : CanStart frame tokens n b s.port.time note.knows.known) → GoesDown frame.world tokens (Known frame.world.platform back.knows.known) b.txn can.pass Ready 0 c)
              → GoesDown frame.world tokens (Known frame.world.platform back.knows.known) b.txn taken.start.pass Ready 0 c
          by_number n q f = subst (λ (k : ℕ). ((can : CanStart frame tokens k b s.port.time note.knows.known) → GoesDown frame.world tokens (Known frame.world.platform back.knows.known) b.txn can.pass Ready 0 c)) (sym q) f taken.start

      -- so it was, by what the call says
      pub acquired_as : (new : StateView) (c : Cargo) (n d : ℕ) → n ≡ s.port.engine.initiator → d ≡ s.port.time → new ≡ record s { hand = Acquired c }
          → ((can : CanStart frame tokens n b d note.knows.known) → GoesDown frame.world tokens (Known frame.world.platform back.knows.known) b.txn can.pass Ready 0 c)
          → IsPort table tokens frame (with_note new back)
      acquired_as new c n d who when is f =
          subst (λ (t : StateView). IsPort table tokens frame (with_note t back)) (sym is)
          (acquired c (subst (λ (k : ℕ). (can : CanStart frame tokens k b s.port.time note.knows.known) → GoesDown frame.world tokens (Known frame.world.platform back.knows.known) b.txn can.pass Ready 0 c) who
          (subst (λ (e : ℕ). (can : CanStart frame tokens n b e note.knows.known) → GoesDown frame.world tokens (Known frame.world.platform back.knows.known) b.txn can.pass Ready 0 c) when f)))

      pub acquires : (new : StateView) (c : Cargo) (n d : ℕ) → n ≡ s.port.engine.initiator → d ≡ s.port.time → new ≡ record s { hand = Acquired c }
          → FindsAt (Known frame.world.platform back.knows.known) (IsAcquire b.txn 0) d → back.knows.looks ≡ note.knows.looks ++ (own_pool frame.world n, 0) ∷ []
          → Acquires frame b (with_note s note) (with_note new back)
      acquires new c n d who when is made look =
          subst (λ (t : StateView). Acquires frame b (with_note s note) (with_note t back)) (sym is)
          (record {
            keeps = keeps table tokens frame s note p back of within below (Acquired c) s.held;
            cargo = c;
            hand = refl;
            held = refl;
            acquired = subst (λ (e : ℕ). FindsAt (Known frame.world.platform back.knows.known) (IsAcquire b.txn 0) e) when made;
            look = subst (λ (k : ℕ). back.knows.looks ≡ note.knows.looks ++ (own_pool frame.world k, 0) ∷ []) who look;
          })

  -- BEGIN
  module _ (c : Cargo) (h : IsHandOf frame tokens (with_note s note) (Acquired c)) where
    abbrev ready : IsReady frame tokens i s.port note.knows.known c
    ready = h i p.is

    pub begin_first : hop_at ready.pass 0 ≡ s.port.engine.initiator
    begin_first = first_of frame.world i (its table tokens frame s note p) p.style tokens (Known frame.world.platform note.knows.known) c.baton.txn ready.pass ready.down.asked ready.own ∙ p.number

    abbrev pub can_begin : CanBegin frame tokens s.port.engine.initiator c s.port.time note.knows.known
    can_begin = record { pass = ready.pass; hop = 0; here = begin_first; down = ready.down; least = ready.taken }

    -- what the hop has answered to this
    pub tried_here : (r : Tried) (n d : ℕ) → n ≡ s.port.engine.initiator → d ≡ s.port.time
        → ((can : CanBegin frame tokens n c d note.knows.known) → IsTried frame tokens (first_hop frame.world n) c d can.pass can.hop note.knows r)
        → IsTried frame tokens (first_hop frame.world s.port.engine.initiator) c s.port.time ready.pass 0 note.knows r
    tried_here r n d who when f =
        subst (λ (k : ℕ). (can : CanBegin frame tokens k c s.port.time note.knows.known) → IsTried frame tokens (first_hop frame.world k) c s.port.time can.pass can.hop note.knows r) who
        (subst (λ (e : ℕ). (can : CanBegin frame tokens n c e note.knows.known) → IsTried frame tokens (first_hop frame.world n) c e can.pass can.hop note.knows r) when f) can_begin

    pub can_begin_at : (n d : ℕ) → n ≡ s.port.engine.initiator → d ≡ s.port.time → CanBegin frame tokens n c d note.knows.known
    can_begin_at n d who when = subst (λ (k : ℕ). CanBegin frame tokens k c d note.knows.known) (sym who) (subst (λ (e : ℕ). CanBegin frame tokens s.port.engine.initiator c e note.knows.known) (sym when) can_begin)

    module _ (back : Held Content Plan) (of : IsNote table back) (within : Within note.knows.known back.knows.known) (below : StandBelow back.knows.known back.knows.seen) (none : s.held ≡ None) where
      -- BEGIN_REQ was made
      pub begun_made : (answer : TlmSync) (to_come time : ℕ) → HasRequested frame s.port.time c.baton.txn ready.pass 0 answer to_come time back.knows.known → FindsAt (Known frame.world.platform back.knows.known) (IsCall c.baton.txn s.port.engine.initiator BeginReq answer) time
      begun_made answer to_come time r = subst (λ (n : ℕ). FindsAt (Known frame.world.platform back.knows.known) (IsCall c.baton.txn n BeginReq answer) time) begin_first r.made

      held_none : IsHeld frame tokens i s.port back.knows.known s.held
      held_none = subst (λ (held : Option Cargo). IsHeld frame tokens i s.port back.knows.known held) (sym none) tt

      -- and the payload is to be served
      pub begun_now : (answer : TlmSync) (time : ℕ) (leg : Option Slip) (cargo : Cargo) → HasRequested frame s.port.time c.baton.txn ready.pass 0 answer 0 time back.knows.known
          → HasOwedLeg frame tokens (first_hop frame.world s.port.engine.initiator) back.knows.known c.baton.txn answer leg → cargo ≡ item_given tokens (first_hop frame.world s.port.engine.initiator) c
          → GoesDown frame.world tokens (Known frame.world.platform back.knows.known) c.baton.txn ready.pass There 0 cargo
          → IsPort table tokens frame (with_note (record s { hand = Begun cargo time leg; held = s.held }) back)
      begun_now answer time leg cargo r leg_of is down =
          let same : cargo.baton.txn ≡ c.baton.txn = ap (λ (d : Cargo). d.baton.txn) is in
          let begun : IsBegun frame tokens i s.port back.knows.known cargo time leg = record {
            own = ap (λ (x : TxnId). x.initiator) same ∙ ready.own;
            pass = ready.pass;
            passes = subst (λ (x : TxnId). passage_of frame.world x ≡ Some ready.pass) (sym same) ready.passes;
            down = subst (λ (x : TxnId). GoesDown frame.world tokens (Known frame.world.platform back.knows.known) x ready.pass There 0 cargo) (sym same) down;
            answer = answer;
            made = subst (λ (x : TxnId). FindsAt (Known frame.world.platform back.knows.known) (IsCall x (hop_at ready.pass 0) BeginReq answer) time) (sym same) r.made;
            fits = r.fits;
            responds = r.responds;
            leg_of = subst (λ (x : TxnId). HasOwedLeg frame tokens (first_hop frame.world i.number) back.knows.known x answer leg) (sym same)
                (subst (λ (n : ℕ). HasOwedLeg frame tokens (first_hop frame.world n) back.knows.known c.baton.txn answer leg) (sym p.number) leg_of);
          } in
          goes_on table tokens frame s note back (Begun cargo time leg) s.held p of within below begun held_none (never_held s.held (Begun cargo time leg) none)

      -- it was refused, and is held
      pub begun_busy : (cargo : Cargo) → s.hand ≡ Free → cargo ≡ with_wallet c (let b = cargo.baton in b.wallet) → GoesDown frame.world tokens (Known frame.world.platform back.knows.known) c.baton.txn ready.pass Ready 0 cargo
          → IsPort table tokens frame (with_note (record s { hand = s.hand; held = Some cargo }) back)
      begun_busy cargo free is down =
          let same : cargo.baton.txn ≡ c.baton.txn = ap (λ (d : Cargo). d.baton.txn) is in
          let t = ready.taken in
          let later : IsReady frame tokens i s.port back.knows.known cargo = record {
            own = ap (λ (x : TxnId). x.initiator) same ∙ ready.own;
            pass = ready.pass;
            passes = subst (λ (x : TxnId). passage_of frame.world x ≡ Some ready.pass) (sym same) ready.passes;
            down = subst (λ (x : TxnId). GoesDown frame.world tokens (Known frame.world.platform back.knows.known) x ready.pass Ready 0 cargo) (sym same) down;
            taken = subst (λ (x : TxnId). FindsAt (Known frame.world.platform back.knows.known) (IsTake x) s.port.time) (sym same)
                (record { event = t.event; known = step frame tokens i s.port note.knows.known back.knows.known within t.event t.known; is = t.is; time = t.time });
          } in
          goes_on table tokens frame s note back s.hand (Some cargo) p of within below
          (subst (λ (hand : Hand). IsInHand frame tokens i s.port back.knows.known hand) (sym free) tt) later (λ d q. subst GoesBack (sym free) tt)

      -- the moves that they are
      pub begins_left : (answer : TlmSync) (time : ℕ) → s.hand ≡ Free → IsTried frame tokens (first_hop frame.world s.port.engine.initiator) c s.port.time ready.pass 0 note.knows (Left answer time back)
          → Begins frame c (with_note s note) (with_note s back)
      begins_left answer time free t = record {
        keeps = keeps table tokens frame s note p back of within below s.hand s.held;
        answer = answer;
        time = time;
        late = t.0.late;
        made = begun_made answer 1 time t.0;
        gone = subst (HasGone time) (sym free) tt;
        held = none;
        look = t.1;
      }

      pub now_port : (new : StateView) (answer : TlmSync) (time : ℕ) (leg : Option Slip) (cargo : Cargo) → new ≡ record s { hand = Begun cargo time leg }
          → IsTried frame tokens (first_hop frame.world s.port.engine.initiator) c s.port.time ready.pass 0 note.knows (Now answer time leg cargo back) → IsPort table tokens frame (with_note new back)
      now_port new answer time leg cargo is t = subst (λ (v : StateView). IsPort table tokens frame (with_note v back)) (sym is) (begun_now answer time leg cargo t.0 t.1 t.2 t.3)

      pub begins_now : (new : StateView) (answer : TlmSync) (time : ℕ) (leg : Option Slip) (cargo : Cargo) → new ≡ record s { hand = Begun cargo time leg }
          → IsTried frame tokens (first_hop frame.world s.port.engine.initiator) c s.port.time ready.pass 0 note.knows (Now answer time leg cargo back) → Begins frame c (with_note s note) (with_note new back)
      begins_now new answer time leg cargo is t = subst (λ (v : StateView). Begins frame c (with_note s note) (with_note v back)) (sym is) (record {
        keeps = keeps table tokens frame s note p back of within below (Begun cargo time leg) s.held;
        answer = answer;
        time = time;
        late = t.0.late;
        made = begun_made answer 0 time t.0;
        gone = refl;
        held = none;
        look = t.4;
      })

      pub busy_port : (new : StateView) (holder : Option TxnId) (live : ℕ) (cargo : Cargo) → s.hand ≡ Free → new ≡ record s { held = Some cargo }
          → IsTried frame tokens (first_hop frame.world s.port.engine.initiator) c s.port.time ready.pass 0 note.knows (Busy holder live cargo back) → IsPort table tokens frame (with_note new back)
      busy_port new holder live cargo free is t = subst (λ (v : StateView). IsPort table tokens frame (with_note v back)) (sym is) (begun_busy cargo free t.0 t.2)

      pub finds_busy : (new : StateView) (holder : Option TxnId) (live : ℕ) (cargo : Cargo) → s.hand ≡ Free → new ≡ record s { held = Some cargo }
          → IsTried frame tokens (first_hop frame.world s.port.engine.initiator) c s.port.time ready.pass 0 note.knows (Busy holder live cargo back) → FindsBusy frame c (with_note s note) (with_note new back)
      finds_busy new holder live cargo free is t = subst (λ (v : StateView). FindsBusy frame c (with_note s note) (with_note v back)) (sym is) (record {
        keeps = keeps table tokens frame s note p back of within below s.hand (Some cargo);
        same = cargo;
        txn = ap (λ (d : Cargo). d.baton.txn) t.0;
        hand = free;
        held = refl;
        look = t.3;
      })
