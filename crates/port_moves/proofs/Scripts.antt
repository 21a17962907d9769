-- A port that settles its time, or passes a pause, is a port.
use Rattle.std.proofs.Common.{◌≡◌, ◌≤◌, ℕ, Bool, true, false, List, [], ◌∷◌, length, max, Option, Some, None, refl, sym, ap, ◌∙◌, subst, arith}
use Rattle.std.specs.Prelude.{slice_get}
use Rattle.atomic_table.specs.Seated.{TableId}
use Rattle.one_history.specs.Held.{Held}
use Rattle.one_history.specs.declared.view.Frame.{Frame}
use Rattle.tlm_types.specs.declared.entry.Content.{Content}
use Rattle.tlm_model.specs.declared.operation.Operation.{Operation}
use Rattle.tlm_model.specs.Plan.{Plan, initiators_of}
use Rattle.token_book.specs.Purse.{Purse}
use Rattle.generic_payload.specs.Payload.{PayloadView}
use Rattle.cargo_model.specs.declared.cargo.Cargo.{Cargo}
use Rattle.script_engine.specs.declared.part.Pause.{Pause}
use Rattle.script_engine.specs.Asking.{time_past_pause}
use Rattle.script_engine.specs.State.{State, next_of, passed_by, passed_over}
use Rattle.initiator_run.proofs.LeftLemmas.{left_passed}
use Rattle.port_model.specs.Laws.{HasSettled}
use Rattle.port_model.specs.Way.{Port}
use Rattle.port_model.proofs.Starts.{pause_passed, settles_law}
use Rattle.port_end.specs.Arrives.{events_of}
use Rattle.port_moves.specs.Moves.{KeepsRest, Passes, Settles}
use Rattle.port_moves.specs.State.{GoesBack, IsHeld, IsInHand, IsPort, StateView, bytes_while, left_at, with_note}
use Rattle.port_moves.specs.declared.hand.Hand.{Hand}
use Rattle.port_moves.specs.declared.hand.Hand.TheVariants.{Free}
use Rattle.port_moves.proofs.PortFacts.{waits_for_one}
use Rattle.port_moves.proofs.Proper.{proper_passed}

not_true : (b : Bool) → (b ≡ true → ⊥) → b ≡ false
not_true true f = absurd (f refl)
not_true false f = refl

never : (held : Option Cargo) (hand : Hand) → held ≡ None → (c : Cargo) → held ≡ Some c → GoesBack hand
never held hand none c some = cc

same_number : (e : State) (ops : List Operation) → (passed_over e ops).initiator ≡ e.initiator
same_number e [] = refl
same_number e (op ∷ ops) = refl

latest_settled : (t l : ℕ) → l ≤ max t l
latest_settled t l = grind arith

-- all but the port is as it was
pub state_is : (s t : StateView) (q : Port) → t.port ≡ q → KeepsRest s t → t ≡ record s { port = q }
state_is s t q port rest =
    ap (λ (x : Port). let u : StateView = record { port = x; hand = t.hand; held = t.held; room = t.room; payload = t.payload; wallet = t.wallet } in u) port
    ∙ (ap (λ (x : Hand). let u : StateView = record { port = q; hand = x; held = t.held; room = t.room; payload = t.payload; wallet = t.wallet } in u) rest.hand
    ∙ (ap (λ (x : Option Cargo). let u : StateView = record { port = q; hand = s.hand; held = x; room = t.room; payload = t.payload; wallet = t.wallet } in u) rest.held
    ∙ (ap (λ (x : ℕ). let u : StateView = record { port = q; hand = s.hand; held = s.held; room = x; payload = t.payload; wallet = t.wallet } in u) rest.room
    ∙ (ap (λ (x : Option PayloadView). let u : StateView = record { port = q; hand = s.hand; held = s.held; room = s.room; payload = x; wallet = t.wallet } in u) rest.payload
    ∙ ap (λ (x : Purse). let u : StateView = record { port = q; hand = s.hand; held = s.held; room = s.room; payload = s.payload; wallet = x } in u) rest.wallet))))

module _ (table tokens : TableId) (frame : Frame Plan) (s : StateView) (note : Held Content Plan) (p : IsPort table tokens frame (with_note s note)) (free : s.hand ≡ Free) (none : s.held ≡ None) where
  in_hand : (q : Port) → IsInHand frame tokens p.initiator q note.knows.known s.hand
  in_hand q = subst (λ (hand : Hand). IsInHand frame tokens p.initiator q note.knows.known hand) (sym free) tt

  is_held : (q : Port) → IsHeld frame tokens p.initiator q note.knows.known s.held
  is_held q = subst (λ (held : Option Cargo). IsHeld frame tokens p.initiator q note.knows.known held) (sym none) tt

  -- where nothing is outstanding it waits for nothing
  pub quiet : length s.port.away ≡ 0 → s.port.waiting ≡ false
  quiet zero = not_true s.port.waiting (λ waits. let one = waits_for_one frame.world p.initiator s.port (events_of frame.world.platform note.knows.known) note.knows.seen (left_at frame.world s.wallet) p.way waits in absurd (omega (arith, one, zero)))

  pub settled_port : (t : StateView) → Settles s t → IsPort table tokens frame (with_note t note)
  settled_port t m =
      let port = s.port in
      let q : Port = record port { time = max port.time port.latest } in
      subst (λ (u : StateView). IsPort table tokens frame (with_note u note)) (sym (state_is s t q m.port m.rest))
      (record {
        no_cycle = p.no_cycle;
        initiator = p.initiator;
        is = p.is;
        style = p.style;
        number = p.number;
        note_of = p.note_of;
        below = p.below;
        wallet_of = p.wallet_of;
        places = p.places;
        few_places = p.few_places;
        bytes = p.bytes;
        way = settles_law frame.world p.initiator port (events_of frame.world.platform note.knows.known) note.knows.seen (left_at frame.world s.wallet) p.way (quiet m.free) m.free m.waiting;
        in_hand = in_hand q;
        is_held = is_held q;
        alone = never s.held s.hand none;
        payload = p.payload;
        has_payload = p.has_payload;
        roomy = p.roomy;
        proper = p.proper;
      })

  -- and its time is settled then
  pub has_settled : (t : StateView) → Settles s t → HasSettled t.port
  has_settled t m = let port = s.port in subst HasSettled (sym m.port) (record { free = quiet m.free; none = m.free; settled = latest_settled port.time port.latest })

  pub passed_port : (t : StateView) (pause : Pause) → HasSettled s.port → Passes pause s t → IsPort table tokens frame (with_note t note)
  passed_port t pause settled m =
      let port = s.port in
      let q : Port = record port { engine = passed_by port.engine; time = time_past_pause pause port.time } in
      let same : (passed_by port.engine).initiator ≡ port.engine.initiator = same_number port.engine port.engine.remaining in
      subst (λ (u : StateView). IsPort table tokens frame (with_note u note)) (sym (state_is s t q m.port m.rest))
      (record {
        no_cycle = p.no_cycle;
        initiator = p.initiator;
        is = subst (λ (n : ℕ). slice_get (initiators_of frame.world) n ≡ Some p.initiator) (sym same) p.is;
        style = p.style;
        number = p.number ∙ sym same;
        note_of = p.note_of;
        below = p.below;
        wallet_of = p.wallet_of;
        places = p.places;
        few_places = p.few_places;
        bytes = λ n there. (
            let b = p.bytes n there in
            let after = (left_passed frame.world p.initiator n port.engine pause m.is_next).1 in
            let was : bytes_while frame.world p.initiator n port.waiting port.engine (next_of port.engine) ≡ 0 = ap (λ (w : Bool). bytes_while frame.world p.initiator n w port.engine (next_of port.engine)) settled.free in
            omega (arith, b, after, was)
            );
        way = pause_passed frame.world p.initiator port (events_of frame.world.platform note.knows.known) note.knows.seen (left_at frame.world s.wallet) p.way settled pause m.is_next;
        in_hand = in_hand q;
        is_held = is_held q;
        alone = never s.held s.hand none;
        payload = p.payload;
        has_payload = p.has_payload;
        roomy = p.roomy;
        proper = proper_passed port.engine port.engine.remaining p.proper refl;
      })
