-- A pump is made of moves, each of which brings it nearer to its end.
use Rattle.std.proofs.Common.{◌≡◌, ◌⊎◌, ℕ, suc, ◌<◌, Bool, true, false, List, [], length, Option, Some, None, slice_get, refl, sym, ap, ◌∙◌, subst, inl, inr, arith}
use Rattle.atomic_table.specs.Seated.{TableId}
use Rattle.one_history.specs.declared.view.Frame.{Frame}
use Rattle.tlm_model.specs.Plan.{Plan, Initiator, initiators_of}
use Rattle.cargo_model.specs.declared.cargo.Cargo.{Cargo}
use Rattle.script_engine.specs.declared.op.Op.{Op}
use Rattle.script_engine.specs.declared.op.Op.TheVariants as next
use Rattle.script_engine.specs.declared.part.Part.{Part}
use Rattle.script_engine.specs.declared.part.Part.TheVariants.{Asks, Pauses, Invalidates, Ends as AtEnd}
use Rattle.script_engine.specs.declared.part.Transfer.{Transfer}
use Rattle.script_engine.specs.declared.part.TransferKind.{TransferKind}
use Rattle.script_engine.specs.declared.part.TransferKind.TheVariants as kinds
use Rattle.script_engine.specs.Part.{part_of}
use Rattle.script_engine.specs.State.{next_of, op_of}
use Rattle.initiator_run.proofs.AccessLemmas.{after_initiator}
use Rattle.port_model.specs.Issues.{IsPlainKind, IsPlainPart}
use Rattle.port_model.specs.Way.{Port}
use Rattle.port_moves.specs.Moved.{after_begin, ends, ends_made, made, went}
use Rattle.port_moves.specs.Moves.{Fetches, FindsNone, HasGone, IsDue, IsFetched, IsToStow, KeepsPort, PutsStray, Settles, TakesBack, port_back, port_read, port_taken}
use Rattle.fourphase_port.specs.Moves.{IsItsInitiator}
use Rattle.fourphase_port.specs.Pumps.{DoesKind, DoesNext, GoesOn, GoesOnIn, HasFinished, IsMove, IsMoveOf, IsPump, TakesNext, TriesBegin, empty_handed, moves_left, unheld}
use Rattle.port_moves.specs.State.{IsPort, PortView, StateView, with_note}
use Rattle.port_moves.specs.declared.hand.Hand.{Hand}
use Rattle.port_moves.specs.declared.hand.Hand.TheVariants.{Free, Taken, Acquired, Begun, Owed, Ended, Released}
use Rattle.port_moves.specs.declared.hand.Moved.{Moved}
use Rattle.port_moves.specs.declared.hand.Pumped.{Pumped}
use Rattle.port_moves.specs.declared.hand.Pumped.TheVariants.{Did, Nothing, Finished}

-- what a move comes to isn't two things
goes_or_ends : (m : Moved) (a b : Option Pumped) → m.pumped ≡ a → m.pumped ≡ b → a ≡ b
goes_or_ends m a b q r = sym q ∙ r

not_ended : (m : Moved) (p : Pumped) → m.pumped ≡ Some p → m.pumped ≡ None → ⊥
not_ended m p q r = clash (goes_or_ends m (Some p) None q r)
  where
    clash : Some p ≡ None → ⊥
    clash e = cc

pumped_is : (m k : Moved) → m ≡ k → m.pumped ≡ k.pumped
pumped_is m k q = ap (λ (x : Moved). x.pumped) q

-- whether something is next before which nothing has to come back
plain_kind : (k : TransferKind) → IsPlainKind k ⊎ (IsPlainKind k → ⊥)
plain_kind (kinds.Access command plain false) = inl refl
plain_kind (kinds.Access command plain true) = inr (λ q. cc)
plain_kind kinds.DebugRead = inr (λ q. q)

plain_part : (part : Part) → IsPlainPart part ⊎ (IsPlainPart part → ⊥)
plain_part (Asks x) = plain_kind x.kind
plain_part (Pauses pause) = inr (λ q. q)
plain_part (Invalidates s a n) = inr (λ q. q)
plain_part AtEnd = inr (λ q. q)

zero_or_more : (k : ℕ) → (k ≡ 0) ⊎ (0 < k)
zero_or_more k = grind arith

-- how it goes on in its script
pub data GoesSo (frame : Frame Plan) (part : Part) (old new : PortView) (m : Moved) : Type 0 where
  Takes : IsPlainPart part → TakesNext frame false old new m → GoesSo frame part old new m
  Waits : 0 < length old.port.away → new ≡ old → m ≡ ends Nothing → GoesSo frame part old new m
  Does : length old.port.away ≡ 0 → DoesNext frame part old new m → GoesSo frame part old new m

pub goes_so : (frame : Frame Plan) (part : Part) (old new : PortView) (m : Moved) → GoesOnIn frame part old new m → GoesSo frame part old new m
goes_so frame part old new m g = by (plain_part part) (zero_or_more (length old.port.away))
  where
    by : IsPlainPart part ⊎ (IsPlainPart part → ⊥) → (length old.port.away ≡ 0) ⊎ (0 < length old.port.away) → GoesSo frame part old new m
    by (inl plain) away = Takes plain (g.plain plain)
    by (inr other) (inl none) = Does none (g.does other none)
    by (inr other) (inr more) = let w = g.waits other more in Waits more w.0 w.1

nearer_fetched : (at : ℕ) (h : Hand) → IsFetched at h → moves_left h true < 9
nearer_fetched at (Owed c leg time) f = omega arith
nearer_fetched at (Ended c end) f = omega arith
nearer_fetched at h f = absurd f

nearer_due : (at : ℕ) (h : Hand) → IsDue at h → moves_left h true < 5
nearer_due at (Owed c leg time) f = omega arith
nearer_due at (Ended c end) f = omega arith
nearer_due at h f = absurd f

nearer_stow : (end : ℕ) (h : Hand) → IsToStow end h → moves_left h true < 3
nearer_stow end (Released b ticket time) f = omega arith
nearer_stow end h f = absurd f

nearer_begun : (time : ℕ) (h : Hand) (m : Moved) → HasGone time h → m ≡ after_begin h → m.pumped ≡ None → moves_left h true < 6
nearer_begun time Free m g is none = absurd (not_ended m Did (pumped_is m (ends_made Did) is) none)
nearer_begun time (Begun c at leg) m g is none = omega arith
nearer_begun time h m g is none = absurd g

nearer_as : (h k : Hand) (n : ℕ) → h ≡ k → moves_left k true < n → moves_left h true < n
nearer_as h k n q l = subst (λ (x : Hand). moves_left x true < n) (sym q) l

one_more : (a b c : ℕ) → a < b → b < c → a < c
one_more a b c l m = omega (arith, l, m)

module _ (frame : Frame Plan) (new : PortView) (m : Moved) (none : m.pumped ≡ None) where
  nearer_tries : (c : Cargo) (busy : Pumped) (old : PortView) → TriesBegin frame c busy old new m → moves_left new.hand true < 6
  nearer_tries c busy old (inl b) = nearer_begun b.0.time new.hand m b.0.gone b.1 none
  nearer_tries c busy old (inr b) = absurd (not_ended m busy (pumped_is m (ends busy) b.1) none)

  nearer_taken : (f : Bool) (old : PortView) → TakesNext frame f old new m → moves_left new.hand true < 8
  nearer_taken f old (inl t) = nearer_as new.hand (Taken t.0.baton) 8 t.0.hand (omega arith)
  nearer_taken f old (inr t) = absurd (not_ended m Nothing (pumped_is m (ends Nothing) t.1) none)

  nearer_kind : (k : TransferKind) (old : PortView) → DoesKind frame k old new m → moves_left new.hand true < 8
  nearer_kind (kinds.Access command plain fenced) old d = nearer_taken fenced old d
  nearer_kind kinds.DebugRead old d = absurd (not_ended m Did (ap (λ (x : Moved). x.pumped) d.1) none)

  nearer_next : (part : Part) (old : PortView) → DoesNext frame part old new m → moves_left new.hand true < 8
  nearer_next (Asks x) old d = nearer_kind x.kind (with_note d.mid old.note) d.does
  nearer_next (Pauses pause) old d = absurd (not_ended m Did (pumped_is m (ends Did) d.done) none)
  nearer_next (Invalidates s a n) old d = absurd (not_ended m Did (ap (λ (x : Moved). x.pumped) d.done) none)
  nearer_next AtEnd old (inl d) = absurd (not_ended m Finished (pumped_is m (ends Finished) d.1) none)
  nearer_next AtEnd old (inr d) = absurd (not_ended m Nothing (pumped_is m (ends Nothing) d.1) none)

  nearer_so : (part : Part) (old : PortView) → GoesSo frame part old new m → moves_left new.hand true < 8
  nearer_so part old (Takes plain t) = nearer_taken false old t
  nearer_so part old (Waits some_out same is) = absurd (not_ended m Nothing (pumped_is m (ends Nothing) is) none)
  nearer_so part old (Does away d) = nearer_next part old d

  nearer_on : (held : Option Cargo) (old : PortView) → GoesOn frame held old new m → moves_left new.hand true < 8
  nearer_on None old g = nearer_so (next_of old.port.engine) old (goes_so frame (next_of old.port.engine) old new m g)
  nearer_on (Some c) old g = one_more (moves_left new.hand true) 6 8 (nearer_tries c Nothing (with_note (unheld old.state) old.note) g) (omega arith)

  nearer_of : (hand : Hand) (fetched : Bool) (old : PortView) → old.hand ≡ hand → IsMoveOf frame hand fetched old new m → moves_left new.hand true < moves_left hand fetched
  nearer_of Free false old is g = by g.0
    where
      by : Fetches frame old new ⊎ FindsNone frame old new → moves_left new.hand true < 9
      by (inl f) = nearer_fetched f.at new.hand f.fetched
      by (inr f) = nearer_as new.hand Free 9 (f.hand ∙ is) (omega arith)
  nearer_of Free true old is g = nearer_on old.held old g
  nearer_of (Taken b) fetched old is g = nearer_as new.hand (Acquired g.0.cargo) 7 g.0.hand (omega arith)
  nearer_of (Acquired c) fetched old is g = nearer_tries c Did (with_note (empty_handed old.state) old.note) g
  nearer_of (Begun c at leg) fetched old is g = nearer_due _ new.hand g.0.due
  nearer_of (Owed c leg at) fetched old is g = nearer_as new.hand (Ended g.0.same g.0.time) 4 g.0.hand (omega arith)
  nearer_of (Ended c end) fetched old is g = by g.0
    where
      by : TakesBack frame c end (with_note (empty_handed old.state) old.note) new ⊎ PutsStray frame c end (with_note (empty_handed old.state) old.note) new → moves_left new.hand true < 3
      by (inl t) = nearer_stow end new.hand t.hand
      by (inr t) = nearer_stow end new.hand t.hand
  nearer_of (Released b ticket end) fetched old is g = absurd (not_ended m Did (pumped_is m (ends_made Did) g.1) none)

pub nearer : (frame : Frame Plan) (fetched : Bool) (old new : PortView) (m : Moved) → IsMove frame fetched old new m → m.pumped ≡ None → moves_left new.hand true < moves_left old.hand fetched
nearer frame fetched old new m is none = nearer_of frame new m none old.hand fetched old refl is

-- the pump finishes by one move alone: where its script has ended, with nothing outstanding
pub done_by : (op : Op) → part_of op ≡ AtEnd → op ≡ next.Done
done_by op is = grind arith

module _ (frame : Frame Plan) (new : PortView) (m : Moved) (finished : m.pumped ≡ Some Finished) where
  not_so : (o : Option Pumped) → m.pumped ≡ o → o ≡ Some Finished
  not_so o q = goes_or_ends m o (Some Finished) q finished

  no_did : Some Did ≡ Some Finished → ⊥
  no_did q = cc

  no_nothing : Some Nothing ≡ Some Finished → ⊥
  no_nothing q = cc

  no_none : None ≡ Some Finished → ⊥
  no_none q = cc

  never_begun : (h : Hand) (time : ℕ) → HasGone time h → m ≡ after_begin h → ⊥
  never_begun Free time g is = no_did (not_so (Some Did) (pumped_is m (ends_made Did) is))
  never_begun (Begun c at leg) time g is = no_none (not_so None (pumped_is m made is))
  never_begun h time g is = absurd g

  never_tries : (c : Cargo) (busy : Pumped) → (busy ≡ Finished → ⊥) → (old : PortView) → TriesBegin frame c busy old new m → ⊥
  never_tries c busy other old (inl b) = never_begun new.hand b.0.time b.0.gone b.1
  never_tries c busy other old (inr b) = other (one busy Finished (not_so (Some busy) (pumped_is m (ends busy) b.1)))
    where
      one : (a b : Pumped) → Some a ≡ Some b → a ≡ b
      one a b q = cc

  never_takes : (f : Bool) (old : PortView) → TakesNext frame f old new m → ⊥
  never_takes f old (inl t) = no_none (not_so None (pumped_is m made t.1))
  never_takes f old (inr t) = no_nothing (not_so (Some Nothing) (pumped_is m (ends Nothing) t.1))

  never_kind : (k : TransferKind) (old : PortView) → DoesKind frame k old new m → ⊥
  never_kind (kinds.Access command plain fenced) old d = never_takes fenced old d
  never_kind kinds.DebugRead old d = no_did (not_so (Some Did) (ap (λ (x : Moved). x.pumped) d.1))

  ended_by : (part : Part) (old : PortView) → next_of old.port.engine ≡ part → old.hand ≡ Free → old.held ≡ None → length old.port.away ≡ 0 → DoesNext frame part old new m → HasFinished new.state
  ended_by (Asks x) old is free held none d = absurd (never_kind x.kind (with_note d.mid old.note) d.does)
  ended_by (Pauses pause) old is free held none d = absurd (no_did (not_so (Some Did) (pumped_is m (ends Did) d.done)))
  ended_by (Invalidates s a n) old is free held none d = absurd (no_did (not_so (Some Did) (ap (λ (x : Moved). x.pumped) d.done)))
  ended_by AtEnd old is free held none (inl d) =
      let k = d.0.keeps in
      record {
        free = (d.0.hand ∙ free, d.0.held ∙ held);
        none = ap (λ (q : Port). length q.away) k.port ∙ none;
        ended = ap (λ (q : Port). op_of q.engine) k.port ∙ done_by (op_of old.port.engine) is;
      }
  ended_by AtEnd old is free held none (inr d) = absurd (no_nothing (not_so (Some Nothing) (pumped_is m (ends Nothing) d.1)))

  ended_so : (old : PortView) → old.hand ≡ Free → old.held ≡ None → GoesSo frame (next_of old.port.engine) old new m → HasFinished new.state
  ended_so old free held (Takes plain t) = absurd (never_takes false old t)
  ended_so old free held (Waits some_out same is) = absurd (no_nothing (not_so (Some Nothing) (pumped_is m (ends Nothing) is)))
  ended_so old free held (Does away d) = ended_by (next_of old.port.engine) old refl free held away d

  ended_on : (held : Option Cargo) (old : PortView) → old.hand ≡ Free → old.held ≡ held → GoesOn frame held old new m → HasFinished new.state
  ended_on None old free is g = ended_so old free is (goes_so frame (next_of old.port.engine) old new m g)
  ended_on (Some c) old free is g = absurd (never_tries c Nothing (λ q. cc) (with_note (unheld old.state) old.note) g)

  ended_of : (hand : Hand) (fetched : Bool) (old : PortView) → old.hand ≡ hand → IsMoveOf frame hand fetched old new m → HasFinished new.state
  ended_of Free false old is g = absurd (no_none (not_so None (pumped_is m went g.1)))
  ended_of Free true old is g = ended_on old.held old is refl g
  ended_of (Taken b) fetched old is g = absurd (no_none (not_so None (pumped_is m made g.1)))
  ended_of (Acquired c) fetched old is g = absurd (never_tries c Did (λ q. cc) (with_note (empty_handed old.state) old.note) g)
  ended_of (Begun c at leg) fetched old is g = absurd (no_none (not_so None (pumped_is m made g.1)))
  ended_of (Owed c leg at) fetched old is g = absurd (no_none (not_so None (pumped_is m made g.1)))
  ended_of (Ended c end) fetched old is g = absurd (no_none (not_so None (pumped_is m made g.1)))
  ended_of (Released b ticket end) fetched old is g = absurd (no_did (not_so (Some Did) (pumped_is m (ends_made Did) g.1)))

pub has_finished : (frame : Frame Plan) (fetched : Bool) (old new : PortView) (m : Moved) → IsMove frame fetched old new m → m.pumped ≡ Some Finished → HasFinished new.state
has_finished frame fetched old new m is finished = ended_of frame new m finished old.hand fetched old refl is

-- A move keeps the number of the port's initiator, which is in the plan.
module _ (frame : Frame Plan) (n : ℕ) (i : Initiator) (its : slice_get (initiators_of frame.world) n ≡ Some i) where
  abbrev HasNumber : PortView → Type 0
  HasNumber v = v.port.engine.initiator ≡ n

  own : (v : PortView) → HasNumber v → IsItsInitiator frame.world v i
  own v is = ap (slice_get (initiators_of frame.world)) is ∙ its

  as_port : (port next : Port) → next ≡ port → port.engine.initiator ≡ n → next.engine.initiator ≡ n
  as_port port next same is = ap (λ (q : Port). q.engine.initiator) same ∙ is

  taken_number : (f : Bool) (port : Port) (x : Transfer) → port.engine.initiator ≡ n → (port_taken frame.world i port x f).engine.initiator ≡ n
  taken_number false port x is = after_initiator false port.engine [] ∙ is
  taken_number true port x is = is

  back_number : (port : Port) (away : List ℕ) (end : ℕ) (got : List ℕ) (b : Bool) → port.engine.initiator ≡ n → (port_back port away end got b).engine.initiator ≡ n
  back_number port away end got false is = is
  back_number port away end got true is = after_initiator true port.engine got ∙ is

  number_kept : (old new : PortView) → KeepsPort old new → HasNumber old → HasNumber new
  number_kept old new k is = as_port old.port new.port k.port is

  number_tried : (c : Cargo) (busy : Pumped) (old new : PortView) (m : Moved) → TriesBegin frame c busy old new m → HasNumber old → HasNumber new
  number_tried c busy old new m (inl b) is = number_kept old new b.0.keeps is
  number_tried c busy old new m (inr b) is = number_kept old new b.0.keeps is

  number_taken : (f : Bool) (old new : PortView) (m : Moved) → TakesNext frame f old new m → HasNumber old → HasNumber new
  number_taken f old new m (inl t) is = as_port (port_taken frame.world i old.port t.0.transfer f) new.port (t.0.port i (own old is)) (taken_number f old.port t.0.transfer is)
  number_taken f old new m (inr t) is = number_kept old new t.0.keeps is

  number_kind : (k : TransferKind) (old new : PortView) (m : Moved) → DoesKind frame k old new m → HasNumber old → HasNumber new
  number_kind (kinds.Access command plain fenced) old new m d is = number_taken fenced old new m d is
  number_kind kinds.DebugRead old new m d is = as_port (port_read frame.world i old.port d.0.transfer) new.port (d.0.port i (own old is)) (after_initiator false old.port.engine [] ∙ is)

  number_settled : (old mid : StateView) → Settles old mid → old.port.engine.initiator ≡ n → mid.port.engine.initiator ≡ n
  number_settled old mid s is = ap (λ (q : Port). q.engine.initiator) s.port ∙ is

  number_next : (part : Part) (old new : PortView) (m : Moved) → DoesNext frame part old new m → HasNumber old → HasNumber new
  number_next (Asks x) old new m d is = number_kind x.kind (with_note d.mid old.note) new m d.does (number_settled old.state d.mid d.settles is)
  number_next (Pauses pause) old new m d is = ap (λ (q : Port). q.engine.initiator) d.passes.port ∙ (after_initiator false d.mid.port.engine [] ∙ number_settled old.state d.mid d.settles is)
  number_next (Invalidates s a k) old new m d is = ap (λ (q : Port). q.engine.initiator) d.invalidates.port ∙ (after_initiator false d.mid.port.engine [] ∙ number_settled old.state d.mid d.settles is)
  number_next AtEnd old new m (inl d) is = number_kept old new d.0.keeps is
  number_next AtEnd old new m (inr d) is = number_kept old new d.0.keeps is

  number_so : (part : Part) (old new : PortView) (m : Moved) → GoesSo frame part old new m → HasNumber old → HasNumber new
  number_so part old new m (Takes plain t) is = number_taken false old new m t is
  number_so part old new m (Waits some_out same nothing) is = ap (λ (v : PortView). v.port.engine.initiator) same ∙ is
  number_so part old new m (Does away d) is = number_next part old new m d is

  number_on : (held : Option Cargo) (old new : PortView) (m : Moved) → GoesOn frame held old new m → HasNumber old → HasNumber new
  number_on None old new m g is = number_so (next_of old.port.engine) old new m (goes_so frame (next_of old.port.engine) old new m g) is
  number_on (Some c) old new m g is = number_tried c Nothing (with_note (unheld old.state) old.note) new m g is

  pub number_of : (hand : Hand) (fetched : Bool) (old new : PortView) (m : Moved) → IsMoveOf frame hand fetched old new m → HasNumber old → HasNumber new
  number_of Free false old new m g is = by g.0
    where
      by : Fetches frame old new ⊎ FindsNone frame old new → HasNumber new
      by (inl f) = number_kept old new f.keeps is
      by (inr f) = number_kept old new f.keeps is
  number_of Free true old new m g is = number_on old.held old new m g is
  number_of (Taken b) fetched old new m g is = number_kept (with_note (empty_handed old.state) old.note) new g.0.keeps is
  number_of (Acquired c) fetched old new m g is = number_tried c Did (with_note (empty_handed old.state) old.note) new m g is
  number_of (Begun c at leg) fetched old new m g is = number_kept (with_note (empty_handed old.state) old.note) new g.0.keeps is
  number_of (Owed c leg at) fetched old new m g is = number_kept (with_note (empty_handed old.state) old.note) new g.0.keeps is
  number_of (Ended c end) fetched old new m g is = by g.0
    where
      by : TakesBack frame c end (with_note (empty_handed old.state) old.note) new ⊎ PutsStray frame c end (with_note (empty_handed old.state) old.note) new → HasNumber new
      by (inl t) = as_port (port_back old.port t.away end c.baton.payload.bytes old.port.waiting) new.port t.port (back_number old.port t.away end c.baton.payload.bytes old.port.waiting is)
      by (inr t) = number_kept (with_note (empty_handed old.state) old.note) new t.keeps is
  number_of (Released b ticket end) fetched old new m g is = number_kept (with_note (empty_handed old.state) old.note) new g.0.keeps is

-- A pump that has come to here: what ends it from here on ends it from its beginning on.
pub record HasPumped (table tokens : TableId) (frame : Frame Plan) (first now : PortView) (fetched : Bool) : Type 0 where
  pub is_port : IsPort table tokens frame now
  pub number : now.port.engine.initiator ≡ first.port.engine.initiator
  pub goes : (new : PortView) (pumped : Pumped) → IsPump frame fetched now new pumped → IsPump frame false first new pumped

pub begins : (table tokens : TableId) (frame : Frame Plan) (first : PortView) → IsPort table tokens frame first → HasPumped table tokens frame first first false
begins table tokens frame first is_port = record { is_port = is_port; number = refl; goes = λ new pumped is. is }

module _ (table tokens : TableId) (frame : Frame Plan) (first now then : PortView) (fetched : Bool) (h : HasPumped table tokens frame first now fetched) (m : Moved) (move : IsMove frame fetched now then m) where
  -- the port is that of the same initiator
  pub keeps_number : then.port.engine.initiator ≡ first.port.engine.initiator
  keeps_number = number_of frame now.port.engine.initiator h.is_port.initiator h.is_port.is now.hand fetched now then m move refl ∙ h.number

  pub goes_further : IsPort table tokens frame then → m.pumped ≡ None → HasPumped table tokens frame first then true
  goes_further is_port none = record {
    is_port = is_port;
    number = keeps_number;
    goes = λ new pumped is. h.goes new pumped (record { more = suc is.more; moves = (then, record { moved = m; is = move; goes_on = none }, is.moves) });
  }

  pub is_pumped : (pumped : Pumped) → m.pumped ≡ Some pumped → IsPump frame false first then pumped
  is_pumped pumped ended = h.goes then pumped (record { more = 0; moves = record { moved = m; is = move; ends_it = ended } })

  pub pump_finished : (pumped : Pumped) → m.pumped ≡ Some pumped → pumped ≡ Finished → HasFinished then.state
  pump_finished pumped ended is = has_finished frame fetched now then m move (ended ∙ ap (λ (x : Pumped). Some x) is)
