-- A port takes the access that is next: its Take is known past all that was seen, and its tickets have left the port's wallet.
use Rattle.std.proofs.Common.{◌≡◌, ℕ, zero, suc, ◌+◌, true, false, List, [], ◌∷◌, sym, ap, subst, inl, inr}
use mathlib.Core.Option.{some-ne-none, some-injective, some}
use lib.ListN.{get_elem?}
use Rattle.view_lists.specs.Lists.{Within}
use Rattle.one_history.specs.declared.entry.Entry.{Entry}
use Rattle.one_history.specs.declared.view.Frame.{Frame}
use Rattle.tlm_types.specs.declared.entry.Content.{Content}
use Rattle.tlm_types.specs.declared.words.ObjectNo.{ObjectNo}
use Rattle.tlm_model.specs.declared.platform.Platform.{Platform}
use Rattle.tlm_model.specs.Plan.{Plan, Initiator}
use Rattle.flow_model.specs.Events.{Among, Event}
use Rattle.cargo_model.specs.Known.{Known, event_of}
use Rattle.joined_traffic.specs.Accesses.{txn_of}
use Rattle.script_engine.specs.declared.part.Part.TheVariants.{Asks}
use Rattle.script_engine.specs.declared.part.Transfer.{Transfer}
use Rattle.script_engine.specs.Part.{is_fenced_kind}
use Rattle.script_engine.specs.State.{next_of}
use Rattle.port_model.specs.Issues.{IsPlainKind}
use Rattle.port_model.specs.Stages.{price}
use Rattle.port_model.specs.Laws.{HasSettled, HasTaken}
use Rattle.port_model.specs.Way.{IsUnderWay, Port}
use Rattle.port_model.proofs.PlainTakes.{fenced_taken, plain_taken}
use Rattle.port_end.specs.Arrives.{StandBelow, events_of}
use Rattle.port_end.proofs.Arrives.{knows_more as events_more, stand_below as events_below}
use Rattle.port_moves.specs.Moves.{port_taken}
use Rattle.fourphase_port.specs.Moves.{TakesLate}

among_event : (p : Platform) (entries : List (Entry Content)) (n : ℕ) (entry : Entry Content) → get_elem? entries n ≡ some entry → Among (events_of p entries) (event_of p entry)
among_event p [] n entry q = absurd (some-ne-none entry (sym q))
among_event p (x ∷ xs) zero entry q = inl (ap (event_of p) (some-injective x entry q))
among_event p (x ∷ xs) (suc n) entry q = inr (among_event p xs n entry q)

-- a known event is one of the known entries
pub among_known : (p : Platform) (entries : List (Entry Content)) (e : Event) → Known p entries e → Among (events_of p entries) e
among_known p entries e k = subst (Among (events_of p entries)) (sym k.is) (let h = k.has in among_event p entries h.0 k.entry h.1)

module _ (frame : Frame Plan) (i : Initiator) (port : Port) (old more : List (Entry Content)) (seen after : ℕ) (left rest : ObjectNo → ℕ)
    (u : IsUnderWay frame.world i port (events_of frame.world.platform old) seen left) (within : Within old more) (below : StandBelow more after)
    (t : TakesLate frame (txn_of i.number port.engine.seq) port.time seen more) (pays : (o : ObjectNo) → rest o + price frame.world i o port.engine.seq ≡ left o)
    (x : Transfer) (next_is : next_of port.engine ≡ Asks x) where
  has_taken : HasTaken frame.world i port (events_of frame.world.platform more) seen left rest
  has_taken =
      let f = t.take in
      record { take = record { event = f.event; known = among_known frame.world.platform more f.event f.known; is = f.is; time = f.time }; later = t.later; pays = pays }

  -- a plain one, and the engine passes it
  pub takes_plain : port.waiting ≡ false → IsPlainKind x.kind → IsUnderWay frame.world i (port_taken frame.world i port x false) (events_of frame.world.platform more) after rest
  takes_plain free plain =
      plain_taken frame.world i port (events_of frame.world.platform old) (events_of frame.world.platform more) seen after left rest u
      (events_more frame.world.platform old more within) (events_below frame.world.platform old more after below) free x next_is plain has_taken

  -- one for which the engine waits, once nothing is outstanding
  pub takes_fenced : HasSettled port → is_fenced_kind x.kind ≡ true → IsUnderWay frame.world i (port_taken frame.world i port x true) (events_of frame.world.platform more) after rest
  takes_fenced settled fenced =
      fenced_taken frame.world i port (events_of frame.world.platform old) (events_of frame.world.platform more) seen after left rest u
      (events_more frame.world.platform old more within) (events_below frame.world.platform old more after below) settled x next_is fenced has_taken
