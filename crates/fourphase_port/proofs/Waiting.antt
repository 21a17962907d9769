-- A pump that answers Nothing has looked in vain.
use Rattle.std.proofs.Common.{◌≡◌, ◌⊎◌, ℕ, zero, suc, ◌<◌, Bool, true, false, List, [], ◌∷◌, ◌++◌, length, Option, Some, None, IsSome, refl, sym, ap, ◌∙◌, subst, inl, inr, arith}
use Rattle.one_history.specs.declared.view.Frame.{Frame}
use Rattle.tlm_model.specs.Plan.{Plan}
use Rattle.cargo_model.specs.declared.cargo.Cargo.{Cargo}
use Rattle.script_engine.specs.declared.part.Part.{Part}
use Rattle.script_engine.specs.declared.part.Part.TheVariants.{Asks, Pauses, Invalidates, Ends as AtEnd}
use Rattle.script_engine.specs.declared.part.Transfer.{Transfer}
use Rattle.script_engine.specs.declared.part.TransferKind.{TransferKind}
use Rattle.script_engine.specs.declared.part.TransferKind.TheVariants as kinds
use Rattle.script_engine.specs.State.{State, next_of, op_of}
use Rattle.port_model.specs.Issues.{IsPlainPart}
use Rattle.port_model.specs.Way.{Port}
use Rattle.port_moves.specs.Moved.{after_begin, ends, ends_made, made, went}
use Rattle.port_moves.specs.Moves.{Fetches, FindsNone, HasGone, IsFetched, Settles}
use Rattle.fourphase_port.specs.Moves.{FindsFull}
use Rattle.fourphase_port.specs.Pumps.{AreMoves, DidNothing, DoesKind, DoesNext, GoesOn, IsMoveOf, NothingHasLooked, TakesNext, TriesBegin, WhyNothing, empty_handed, moves_left}
use Rattle.fourphase_port.specs.Pumps.WhyNothing.{AllLive, RefusedAgain, SomeLive, SomeOut}
use Rattle.port_moves.specs.Reach.{own_pool}
use Rattle.port_moves.specs.State.{PortView, StateView, with_note}
use Rattle.port_moves.specs.declared.hand.Hand.{Hand}
use Rattle.port_moves.specs.declared.hand.Hand.TheVariants.{Free, Taken, Acquired, Begun, Owed, Ended, Released}
use Rattle.port_moves.specs.declared.hand.Moved.{Moved}
use Rattle.port_moves.specs.declared.hand.Pumped.{Pumped}
use Rattle.port_moves.specs.declared.hand.Pumped.TheVariants.{Did, Nothing, Finished}
use Rattle.fourphase_port.proofs.Pumping.{GoesSo, done_by, goes_so, nearer}
use Rattle.fourphase_port.proofs.Pumping.GoesSo.{Takes, Waits, Does}

-- it works on something
abbrev pub IsBusy : Hand → Type 0
IsBusy Free = ⊥
IsBusy (Taken b) = Unit {0}
IsBusy (Acquired c) = Unit {0}
IsBusy (Begun c at leg) = Unit {0}
IsBusy (Owed c leg at) = Unit {0}
IsBusy (Ended c end) = Unit {0}
IsBusy (Released b ticket end) = Unit {0}

busy_low : (h : Hand) (f : Bool) → IsBusy h → moves_left h f < 8
busy_low Free f b = absurd b
busy_low (Taken b) f busy = omega arith
busy_low (Acquired c) f b = omega arith
busy_low (Begun c at leg) f b = omega arith
busy_low (Owed c leg at) f b = omega arith
busy_low (Ended c end) f b = omega arith
busy_low (Released c ticket end) f b = omega arith

low_busy : (h : Hand) → moves_left h true < 8 → IsBusy h
low_busy Free l = absurd (omega (arith, l))
low_busy (Taken b) l = tt
low_busy (Acquired c) l = tt
low_busy (Begun c at leg) l = tt
low_busy (Owed c leg at) l = tt
low_busy (Ended c end) l = tt
low_busy (Released b ticket end) l = tt

low_or_free : (h : Hand) → moves_left h true < 9
low_or_free Free = omega arith
low_or_free (Taken b) = omega arith
low_or_free (Acquired c) = omega arith
low_or_free (Begun c at leg) = omega arith
low_or_free (Owed c leg at) = omega arith
low_or_free (Ended c end) = omega arith
low_or_free (Released b ticket end) = omega arith

fetched_busy : (at : ℕ) (h : Hand) → IsFetched at h → IsBusy h
fetched_busy at (Owed c leg time) f = tt
fetched_busy at (Ended c end) f = tt
fetched_busy at h f = absurd f

less_than : (a b : ℕ) → a < b → b < 9 → a < 8
less_than a b l m = omega (arith, l, m)

same_pumped : (a b : Pumped) → Some a ≡ Some b → a ≡ b
same_pumped a b q = cc

none_pumped : (a : Pumped) → None ≡ Some a → ⊥
none_pumped a q = cc

plain_asks : (part : Part) → IsPlainPart part → (x : Transfer) × (part ≡ Asks x)
plain_asks (Asks x) plain = (x, refl)
plain_asks (Pauses pause) plain = absurd plain
plain_asks (Invalidates s a n) plain = absurd plain
plain_asks AtEnd plain = absurd plain

-- what a move that is k comes to
comes_to : (m k : Moved) (o : Option Pumped) → m ≡ k → m.pumped ≡ o → k.pumped ≡ o
comes_to m k o is q = ap (λ (x : Moved). x.pumped) (sym is) ∙ q

module _ (frame : Frame Plan) where
  -- what it works on goes on until it has moved
  begun_did : (time : ℕ) (h : Hand) (m : Moved) (pumped : Pumped) → HasGone time h → m ≡ after_begin h → m.pumped ≡ Some pumped → pumped ≡ Did
  begun_did time Free m pumped g is q = sym (same_pumped Did pumped (comes_to m (ends_made Did) (Some pumped) is q))
  begun_did time (Begun c at leg) m pumped g is q = absurd (none_pumped pumped (comes_to m made (Some pumped) is q))
  begun_did time h m pumped g is q = absurd g

  last_did : (hand : Hand) (fetched : Bool) (old new : PortView) (m : Moved) (pumped : Pumped) → IsBusy hand → IsMoveOf frame hand fetched old new m → m.pumped ≡ Some pumped → pumped ≡ Did
  last_did Free fetched old new m pumped busy g q = absurd busy
  last_did (Taken b) fetched old new m pumped busy g q = absurd (none_pumped pumped (comes_to m made (Some pumped) g.1 q))
  last_did (Acquired c) fetched old new m pumped busy g q = by g
    where
      by : TriesBegin frame c Did (with_note (empty_handed old.state) old.note) new m → pumped ≡ Did
      by (inl b) = begun_did b.0.time new.hand m pumped b.0.gone b.1 q
      by (inr b) = sym (same_pumped Did pumped (comes_to m (ends Did) (Some pumped) b.1 q))
  last_did (Begun c at leg) fetched old new m pumped busy g q = absurd (none_pumped pumped (comes_to m made (Some pumped) g.1 q))
  last_did (Owed c leg at) fetched old new m pumped busy g q = absurd (none_pumped pumped (comes_to m made (Some pumped) g.1 q))
  last_did (Ended c end) fetched old new m pumped busy g q = absurd (none_pumped pumped (comes_to m made (Some pumped) g.1 q))
  last_did (Released b ticket end) fetched old new m pumped busy g q = sym (same_pumped Did pumped (comes_to m (ends_made Did) (Some pumped) g.1 q))

  pub busy_did : (n : ℕ) (fetched : Bool) (old new : PortView) (pumped : Pumped) → IsBusy old.hand → AreMoves frame n fetched old new pumped → pumped ≡ Did
  busy_did zero fetched old new pumped busy l = last_did old.hand fetched old new l.moved pumped busy l.is l.ends_it
  busy_did (suc n) fetched old new pumped busy l =
      let near = nearer frame fetched old l.0 l.1.moved l.1.is l.1.goes_on in
      let low = busy_low old.hand fetched busy in
      busy_did n true l.0 new pumped (low_busy l.0.hand (omega (arith, near, low))) l.2

  never : {A : Type 0} → Nothing ≡ Did → A
  never q = cc

  -- how it stands after it has found no response
  record Stays (mid new : PortView) : Type 0 where
    engine : new.port.engine ≡ mid.port.engine
    away : new.port.away ≡ mid.port.away
    free : new.hand ≡ Free
    why : WhyNothing frame.world mid.port.engine mid.port.away mid.held mid.note.knows.looks new.note.knows.looks

  module _ (mid new : PortView) (m : Moved) (ended : m.pumped ≡ Some Nothing) (free : mid.hand ≡ Free) where
    no_did : {A : Type 0} → (k : Moved) → m ≡ k → k.pumped ≡ Some Did → A
    no_did k is did = never (same_pumped Nothing Did (sym (comes_to m k (Some Nothing) is ended) ∙ did))

    no_end : {A : Type 0} → (k : Moved) → m ≡ k → k.pumped ≡ None → A
    no_end k is none = absurd (none_pumped Nothing (sym none ∙ comes_to m k (Some Nothing) is ended))

    begun_never : {A : Type 0} → (time : ℕ) (h : Hand) → HasGone time h → m ≡ after_begin h → A
    begun_never time Free g is = no_did (ends_made Did) is refl
    begun_never time (Begun c at leg) g is = no_end made is refl
    begun_never time h g is = absurd g

    full : (x : Transfer) → next_of mid.port.engine ≡ Asks x → (s : StateView) → s.port.engine ≡ mid.port.engine → s.port.away ≡ mid.port.away → s.hand ≡ mid.hand → FindsFull frame (with_note s mid.note) new → Stays mid new
    full x next_is s engine away hand f = record {
      engine = ap (λ (q : Port). q.engine) f.keeps.port ∙ engine;
      away = ap (λ (q : Port). q.away) f.keeps.port ∙ away;
      free = f.hand ∙ (hand ∙ free);
      why = AllLive x next_is (f.look ∙ ap (λ (q : State). mid.note.knows.looks ++ (own_pool frame.world q.initiator, 6) ∷ []) engine);
    }

    takes_none : (f : Bool) (x : Transfer) → next_of mid.port.engine ≡ Asks x → (s : StateView) → s.port.engine ≡ mid.port.engine → s.port.away ≡ mid.port.away → s.hand ≡ mid.hand → TakesNext frame f (with_note s mid.note) new m → Stays mid new
    takes_none f x next_is s engine away hand (inl t) = no_end made t.1 refl
    takes_none f x next_is s engine away hand (inr t) = full x next_is s engine away hand t.0

    kind_none : (k : TransferKind) (x : Transfer) → next_of mid.port.engine ≡ Asks x → (s : StateView) → Settles mid.state s → DoesKind frame k (with_note s mid.note) new m → Stays mid new
    kind_none (kinds.Access command plain fenced) x next_is s t d = takes_none fenced x next_is s (ap (λ (q : Port). q.engine) t.port) (ap (λ (q : Port). q.away) t.port) t.rest.hand d
    kind_none kinds.DebugRead x next_is s t d = never (same_pumped Nothing Did (sym ended ∙ ap (λ (y : Moved). y.pumped) d.1))

    next_none : (part : Part) → next_of mid.port.engine ≡ part → length mid.port.away ≡ 0 → DoesNext frame part mid new m → Stays mid new
    next_none (Asks x) is none d = kind_none x.kind x is d.mid d.settles d.does
    next_none (Pauses pause) is none d = no_did (ends Did) d.done refl
    next_none (Invalidates s a n) is none d = never (same_pumped Nothing Did (sym ended ∙ ap (λ (y : Moved). y.pumped) d.done))
    next_none AtEnd is none (inl d) = other (same_pumped Nothing Finished (sym (comes_to m (ends Finished) (Some Nothing) d.1 ended)))
      where
        other : Nothing ≡ Finished → Stays mid new
        other q = cc
    next_none AtEnd is none (inr d) = record {
      engine = ap (λ (q : Port). q.engine) d.0.keeps.port;
      away = ap (λ (q : Port). q.away) d.0.keeps.port;
      free = d.0.hand ∙ free;
      why = SomeLive (done_by (op_of mid.port.engine) is) none d.0.look;
    }

    on_none : (held : Option Cargo) → mid.held ≡ held → GoesOn frame held mid new m → Stays mid new
    on_none None is g = by (goes_so frame (next_of mid.port.engine) mid new m g)
      where
        by : GoesSo frame (next_of mid.port.engine) mid new m → Stays mid new
        by (Takes plain t) = let x = plain_asks (next_of mid.port.engine) plain in takes_none false x.0 x.1 mid.state refl refl refl t
        by (Waits some_out same q) = record {
          engine = ap (λ (v : PortView). v.port.engine) same;
          away = ap (λ (v : PortView). v.port.away) same;
          free = ap (λ (v : PortView). v.hand) same ∙ free;
          why = SomeOut some_out (ap (λ (v : PortView). v.note.knows.looks) same);
        }
        by (Does none d) = next_none (next_of mid.port.engine) refl none d
    on_none (Some c) is (inl b) = begun_never b.0.time new.hand b.0.gone b.1
    on_none (Some c) is (inr b) = record {
      engine = ap (λ (q : Port). q.engine) b.0.keeps.port;
      away = ap (λ (q : Port). q.away) b.0.keeps.port;
      free = b.0.hand;
      why = RefusedAgain (subst (λ (o : Option Cargo). IsSome o) (sym is) refl) b.0.look;
    }

  second : (n : ℕ) (mid new : PortView) → mid.hand ≡ Free → AreMoves frame n true mid new Nothing → Stays mid new
  second zero mid new free l = on_none mid new l.moved l.ends_it free mid.held refl (subst (λ (h : Hand). IsMoveOf frame h true mid new l.moved) free l.is)
  second (suc n) mid new free l =
      let near = nearer frame true mid l.0 l.1.moved l.1.is l.1.goes_on in
      let low = low_or_free mid.hand in
      never (busy_did n true l.0 new Nothing (low_busy l.0.hand (less_than (moves_left l.0.hand true) (moves_left mid.hand true) near low)) l.2)

  first : (n : ℕ) (old new : PortView) → old.hand ≡ Free → AreMoves frame n false old new Nothing → DidNothing frame.world old new
  first zero old new free l =
      let g = subst (λ (h : Hand). IsMoveOf frame h false old new l.moved) free l.is in
      absurd (none_pumped Nothing (comes_to l.moved went (Some Nothing) g.1 l.ends_it))
  first (suc n) old new free l = by (subst (λ (h : Hand). IsMoveOf frame h false old l.0 l.1.moved) free l.1.is).0
    where
      by : Fetches frame old l.0 ⊎ FindsNone frame old l.0 → DidNothing frame.world old new
      by (inl f) = never (busy_did n true l.0 new Nothing (fetched_busy f.at l.0.hand f.fetched) l.2)
      by (inr f) =
          let s = second n l.0 new (f.hand ∙ free) l.2 in
          record {
            engine = s.engine ∙ ap (λ (q : Port). q.engine) f.keeps.port;
            away = s.away ∙ ap (λ (q : Port). q.away) f.keeps.port;
            free = s.free;
            why = subst (λ (b : List (ℕ × ℕ)). WhyNothing frame.world old.port.engine old.port.away old.held b new.note.knows.looks) f.look
                (subst (λ (o : Option Cargo). WhyNothing frame.world old.port.engine old.port.away o l.0.note.knows.looks new.note.knows.looks) f.held
                (subst (λ (q : Port). WhyNothing frame.world q.engine q.away l.0.held l.0.note.knows.looks new.note.knows.looks) f.keeps.port s.why));
          }

pub nothing_looked : NothingHasLooked
nothing_looked frame old new free pump = first frame pump.more old new free pump.moves
