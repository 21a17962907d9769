-- A port that goes on in its script, by what its moves say.
use Rattle.std.proofs.Common.{◌≡◌, ◌⊎◌, Bool, true, false, length, Option, Some, None, refl, sym, ap, ◌∙◌, subst, arith}
use Rattle.atomic_table.specs.Seated.{TableId}
use Rattle.one_history.specs.Held.{Held}
use Rattle.one_history.specs.declared.view.Frame.{Frame}
use Rattle.tlm_types.specs.declared.entry.Content.{Content}
use Rattle.tlm_model.specs.Plan.{Plan, Initiator}
use Rattle.cargo_model.specs.declared.cargo.Cargo.{Cargo}
use Rattle.script_engine.specs.declared.part.Part.{Part}
use Rattle.script_engine.specs.declared.part.Part.TheVariants.{Asks}
use Rattle.script_engine.specs.declared.part.Transfer.{Transfer}
use Rattle.script_engine.specs.declared.part.TransferKind.{TransferKind}
use Rattle.script_engine.specs.declared.part.TransferKind.TheVariants as kinds
use Rattle.script_engine.specs.Part.{is_fenced_kind}
use Rattle.script_engine.specs.State.{next_of}
use Rattle.port_model.specs.Issues.{IsPlainKind, IsPlainPart}
use Rattle.port_moves.specs.Moved.{ends, made, went}
use Rattle.port_moves.specs.Moves.{Fetches, FindsNone}
use Rattle.fourphase_port.specs.Moves.{FindsFull, Takes}
use Rattle.fourphase_port.specs.Pumps.{DoesNext, GoesOn, GoesOnIn, IsFreeMove, IsMove, IsMoveOf, TakesNext, empty_handed, unheld, GoesOnWith, TriesBegin}
use Rattle.port_moves.specs.State.{GoesBack, IsHandOf, IsHeld, IsInHand, IsPort, PortView, StateView, with_note}
use Rattle.port_moves.specs.declared.hand.Hand.{Hand}
use Rattle.port_moves.specs.declared.hand.Hand.TheVariants.{Free, Taken, Acquired, Begun, Owed, Ended, Released}
use Rattle.port_moves.specs.declared.hand.Moved.{Moved}
use Rattle.port_moves.specs.declared.hand.Pumped.TheVariants.{Nothing}
use Rattle.port_moves.proofs.Goes.{goes_on}

no_cargo : (c : Cargo) → None ≡ Some c → ⊥
no_cargo c q = cc

-- a port whose refused request was taken out
pub unheld_port : (table tokens : TableId) (frame : Frame Plan) (s : StateView) (note : Held Content Plan) → IsPort table tokens frame (with_note s note) → (t : StateView) → t ≡ unheld s → IsPort table tokens frame (with_note t note)
unheld_port table tokens frame s note p t is = subst (λ (u : StateView). IsPort table tokens frame (with_note u note)) (sym is)
    (goes_on table tokens frame s note note s.hand None p p.note_of (λ e has. has) p.below p.in_hand tt (λ c q. absurd (no_cargo c q)))

pub none_of_held : (o e : Option Cargo) → o ≡ e → ((c : Cargo) → o ≡ Some c → ⊥) → e ≡ None
none_of_held o None q none = refl
none_of_held o (Some c) q none = absurd (none c q)

-- a port that has nothing in hand any more
pub emptied_port : (table tokens : TableId) (frame : Frame Plan) (s : StateView) (note : Held Content Plan) → IsPort table tokens frame (with_note s note) → (t : StateView) → t ≡ empty_handed s → IsPort table tokens frame (with_note t note)
emptied_port table tokens frame s note p t is = subst (λ (u : StateView). IsPort table tokens frame (with_note u note)) (sym is)
    (goes_on table tokens frame s note note Free s.held p p.note_of (λ e has. has) p.below tt p.is_held (λ c q. tt))

-- with nothing in hand, after it has looked for a response, it goes on in its script
pub free_move : (frame : Frame Plan) (s t : StateView) (note : Held Content Plan) (fetched : Bool) (new : PortView) (m : Moved) → fetched ≡ true → s.hand ≡ Free → t ≡ empty_handed s → GoesOn frame t.held (with_note t note) new m → IsMove frame fetched (with_note s note) new m
free_move frame s t note fetched new m looked free is g =
    let same : t ≡ s = is ∙ ap (λ (h : Hand). record s { hand = h }) (sym free) in
    subst (λ (h : Hand). IsMoveOf frame h fetched (with_note s note) new m) (sym free)
    (subst (λ (b : Bool). IsFreeMove frame b (with_note s note) new m) (sym looked) (subst (λ (u : StateView). GoesOn frame u.held (with_note u note) new m) same g))

none_held : (s : StateView) → s.held ≡ None → unheld s ≡ s
none_held s q = ap (λ (o : Option Cargo). record s { held = o }) (sym q)

plain_fence : (k : TransferKind) → IsPlainKind k → is_fenced_kind k ≡ false
plain_fence (kinds.Access command plain fenced) q = q
plain_fence kinds.DebugRead q = absurd q

module _ (frame : Frame Plan) (s mid : StateView) (note : Held Content Plan) (none : s.held ≡ None) (is : mid ≡ unheld s) (new : PortView) (m : Moved) where
  same : mid ≡ s
  same = is ∙ none_held s none

  goes_on_in : GoesOnIn frame (next_of s.port.engine) (with_note s note) new m → GoesOn frame s.held (with_note s note) new m
  goes_on_in g = subst (λ (o : Option Cargo). GoesOn frame o (with_note s note) new m) (sym none) g

  -- a plain access
  pub takes_plain : (x : Transfer) → next_of s.port.engine ≡ Asks x → IsPlainKind x.kind
      → (Takes frame (is_fenced_kind x.kind) (with_note mid note) new × (m ≡ made)) ⊎ (FindsFull frame (with_note mid note) new × (m ≡ ends Nothing)) → GoesOn frame s.held (with_note s note) new m
  takes_plain x next_is plain taken =
      let here : TakesNext frame false (with_note s note) new m =
      subst (λ (f : Bool). TakesNext frame f (with_note s note) new m) (plain_fence x.kind plain) (subst (λ (t : StateView). TakesNext frame (is_fenced_kind x.kind) (with_note t note) new m) same taken) in
      let plain_part = subst IsPlainPart (sym next_is) plain in
      goes_on_in (record { plain = λ q. here; waits = λ other. absurd (other plain_part); does = λ other. absurd (other plain_part) })

  -- something else, where nothing is outstanding
  pub does_other : (IsPlainPart (next_of s.port.engine) → ⊥) → length s.port.away ≡ 0 → (part : Part) → part ≡ next_of s.port.engine → DoesNext frame part (with_note mid note) new m → GoesOn frame s.held (with_note s note) new m
  does_other other none_away part next_is does =
      let here = subst (λ (q : Part). DoesNext frame q (with_note s note) new m) next_is (subst (λ (t : StateView). DoesNext frame part (with_note t note) new m) same does) in
      goes_on_in (record { plain = λ plain. absurd (other plain); waits = λ q some_away. absurd (omega (arith, some_away, none_away)); does = λ q r. here })

some_same : (x y : Initiator) → Some x ≡ Some y → x ≡ y
some_same x y q = cc

-- what it works on is known once it was taken out of its hand, and so is the request that was refused
pub hand_of : (table tokens : TableId) (frame : Frame Plan) (s : StateView) (note : Held Content Plan) → IsPort table tokens frame (with_note s note) → (t : StateView) → t ≡ empty_handed s → (h : Hand) → s.hand ≡ h → IsHandOf frame tokens (with_note t note) h
hand_of table tokens frame s note p t is h hand = subst (λ (u : StateView). IsHandOf frame tokens (with_note u note) h) (sym is) (λ i at.
    subst (λ (j : Initiator). IsInHand frame tokens j s.port note.knows.known h) (some_same p.initiator i (sym p.is ∙ at)) (subst (λ (k : Hand). IsInHand frame tokens p.initiator s.port note.knows.known k) hand p.in_hand))

held_none : (o : Option Cargo) (h : Hand) → ((c : Cargo) → o ≡ Some c → GoesBack h) → (GoesBack h → ⊥) → o ≡ None
held_none None h alone down = refl
held_none (Some c) h alone down = absurd (down (alone c refl))

-- none is held where a request is on its way down
pub none_behind : (table tokens : TableId) (frame : Frame Plan) (s : StateView) (note : Held Content Plan) → IsPort table tokens frame (with_note s note) → (t : StateView) → t ≡ empty_handed s → (h : Hand) → s.hand ≡ h → (GoesBack h → ⊥) → (t.hand ≡ Free) × (t.held ≡ None)
none_behind table tokens frame s note p t is h hand down =
    (ap (λ (u : StateView). u.hand) is, ap (λ (u : StateView). u.held) is ∙ held_none s.held h (λ c q. subst GoesBack hand (p.alone c q)) down)

module _ (frame : Frame Plan) (s t : StateView) (note : Held Content Plan) (fetched : Bool) (new : PortView) (m : Moved) where
  of_hand : (h : Hand) → GoesOnWith frame h (with_note (empty_handed s) note) new m → IsMoveOf frame h fetched (with_note s note) new m
  of_hand Free g = absurd g
  of_hand (Taken b) g = g
  of_hand (Acquired c) g = g
  of_hand (Begun c at leg) g = g
  of_hand (Owed c leg at) g = g
  of_hand (Ended c end) g = g
  of_hand (Released b ticket end) g = g

  -- it goes on with what it works on
  pub hand_move : (h : Hand) → s.hand ≡ h → t ≡ empty_handed s → GoesOnWith frame h (with_note t note) new m → IsMove frame fetched (with_note s note) new m
  hand_move h hand is g = subst (λ (k : Hand). IsMoveOf frame k fetched (with_note s note) new m) (sym hand) (of_hand h (subst (λ (u : StateView). GoesOnWith frame h (with_note u note) new m) is g))

  -- or looks for a response
  pub fetch_move : fetched ≡ false → s.hand ≡ Free → t ≡ empty_handed s → Fetches frame (with_note t note) new ⊎ FindsNone frame (with_note t note) new → m ≡ went → IsMove frame fetched (with_note s note) new m
  fetch_move looked free is found done =
      let same_state : t ≡ s = is ∙ ap (λ (h : Hand). record s { hand = h }) (sym free) in
      let here = subst (λ (u : StateView). Fetches frame (with_note u note) new ⊎ FindsNone frame (with_note u note) new) same_state found in
      subst (λ (h : Hand). IsMoveOf frame h fetched (with_note s note) new m) (sym free) (subst (λ (b : Bool). IsFreeMove frame b (with_note s note) new m) (sym looked) (here, done))

-- a request that was refused is known once it was taken out
pub held_of : (table tokens : TableId) (frame : Frame Plan) (s : StateView) (note : Held Content Plan) → IsPort table tokens frame (with_note s note) → (t : StateView) → t ≡ unheld s → (c : Cargo) → Some c ≡ s.held → IsHandOf frame tokens (with_note t note) (Acquired c)
held_of table tokens frame s note p t is c held = subst (λ (u : StateView). IsHandOf frame tokens (with_note u note) (Acquired c)) (sym is) (λ i at.
    subst (λ (j : Initiator). IsInHand frame tokens j s.port note.knows.known (Acquired c)) (some_same p.initiator i (sym p.is ∙ at)) (subst (λ (o : Option Cargo). IsHeld frame tokens p.initiator s.port note.knows.known o) (sym held) p.is_held))

pub unheld_free : (s t : StateView) → s.hand ≡ Free → t ≡ unheld s → (t.hand ≡ Free) × (t.held ≡ None)
unheld_free s t free is = (ap (λ (u : StateView). u.hand) is ∙ free, ap (λ (u : StateView). u.held) is)

-- and is tried again
pub tries_again : (frame : Frame Plan) (s t : StateView) (note : Held Content Plan) (new : PortView) (m : Moved) (c : Cargo) → Some c ≡ s.held → t ≡ unheld s → TriesBegin frame c Nothing (with_note t note) new m → GoesOn frame s.held (with_note s note) new m
tries_again frame s t note new m c held is tried = subst (λ (o : Option Cargo). GoesOn frame o (with_note s note) new m) held (subst (λ (u : StateView). TriesBegin frame c Nothing (with_note u note) new m) is tried)
