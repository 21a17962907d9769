-- A port takes back an access that has ended on its first hop.
use Rattle.std.proofs.Common.{◌≡◌, ℕ, max, true, false, List, length, Some, sym, ap, ◌∙◌, subst}
use Rattle.std.specs.Prelude.{slice_get}
use Rattle.atomic_table.specs.Seated.{TableId}
use Rattle.view_lists.specs.Lists.{Within}
use Rattle.one_history.specs.declared.entry.Entry.{Entry}
use Rattle.one_history.specs.declared.view.Frame.{Frame}
use Rattle.tlm_types.specs.declared.entry.Content.{Content}
use Rattle.tlm_types.specs.declared.words.ObjectNo.{ObjectNo}
use Rattle.tlm_model.specs.declared.platform.Style.TheVariants.{FourPhase}
use Rattle.tlm_model.specs.Plan.{Plan, Initiator, initiators_of}
use Rattle.token_book.specs.Purse.{Purse}
use Rattle.flow_model.specs.Valid.{HasNoCycle}
use Rattle.cargo_model.specs.declared.cargo.Cargo.{Cargo}
use Rattle.cargo_model.specs.Laws.{Case}
use Rattle.cargo_model.specs.Tickets.{Pulls}
use Rattle.cargo_model.specs.Travel.{with_wallet}
use Rattle.joined_traffic.specs.Accesses.{txn_of}
use Rattle.script_engine.specs.Part.{IsRead}
use Rattle.script_engine.specs.State.{length_of, op_of, told_by}
use Rattle.port_model.specs.Laws.{Removes}
use Rattle.port_model.specs.Way.{IsUnderWay, Port}
use Rattle.port_end.specs.Arrives.{HasArrived, IsFinished, PutsBack, StandBelow, events_of}
use Rattle.port_end.proofs.Arrives.{comes_back, fenced_back, finished, plain_back}
use Rattle.port_moves.specs.Reach.{own_pool}
use Rattle.port_moves.specs.State.{IsEnded}

same_initiator : (a b : Initiator) → Some a ≡ Some b → a ≡ b
same_initiator a b e = cc

module _ (frame : Frame Plan) (tokens : TableId) (i : Initiator) (port : Port) (old more : List (Entry Content)) (seen after : ℕ) (left rest : ObjectNo → ℕ)
    (u : IsUnderWay frame.world i port (events_of frame.world.platform old) seen left) (within : Within old more) (below : StandBelow more after)
    (free : HasNoCycle frame.world.platform) (is : slice_get (initiators_of frame.world) i.number ≡ Some i) (style : i.row.style ≡ FourPhase)
    (c : Cargo) (end : ℕ) (e : IsEnded frame tokens i port more c end) (second z : Purse) where
  abbrev case : Case
  case = record { p = frame.world; tokens = tokens; entries = more; x = c.baton.txn; pass = e.pass; c = with_wallet c e.before }

  -- it asks for what its own initiator does
  own_style : e.up.asked.initiator.row.style ≡ FourPhase
  own_style =
      let same = same_initiator e.up.asked.initiator i (sym e.up.asked.is ∙ (ap (λ (n : ℕ). slice_get (initiators_of frame.world) n) e.own ∙ is)) in
      subst (λ (j : Initiator). j.row.style ≡ FourPhase) (sym same) style

  its : c.baton.txn ≡ txn_of i.number c.baton.txn.seq
  its = ap (λ (n : ℕ). txn_of n c.baton.txn.seq) e.own

  module _ (first : Pulls tokens (own_pool frame.world c.baton.txn.initiator) 0 c.baton.wallet second) (stow : Pulls tokens (own_pool frame.world c.baton.txn.initiator) 0 second z) where
    has_finished : IsFinished case e.owed e.up z
    has_finished = record { few = e.few; ended = e.made; first = c.baton.wallet; second = second; pulls_end = e.pulls; pulls_first = first; pulls_second = stow }

    -- its end is the one that the port has told: what is known of the access may allow others, as it isn't known that it begins once
    arrived : HasArrived case z c.baton.payload
    arrived =
        let a = finished case e.owed e.up z free own_style has_finished in
        record { asked = a.asked; content = a.content; left = a.left; ended = record { ender = e.ender; time = end; is = e.time } }

    module _ (away : List ℕ) (removes : Removes port.away c.baton.txn.seq away) (puts : PutsBack frame.world z left rest) where
      -- a plain access is back
      pub takes_plain_back : port.waiting ≡ false → IsUnderWay frame.world i (record port { latest = max port.latest end; away = away }) (events_of frame.world.platform more) after rest
      unfolding arrived
      takes_plain_back quiet = plain_back case i port old seen after left rest u within below free is style quiet c.baton.txn.seq away removes its z c.baton.payload arrived puts

      -- and so is the one that the engine waits for, which is told the payload's bytes
      pub takes_fenced_back : port.waiting ≡ true → c.baton.txn.seq ≡ port.engine.seq →
          IsUnderWay frame.world i (record port { engine = told_by port.engine c.baton.payload.bytes; waiting = false; latest = max port.latest end; away = away }) (events_of frame.world.platform more) after rest
      unfolding arrived
      takes_fenced_back waits same =
          fenced_back case i port old seen after left rest u within below free is style waits away (subst (λ (s : ℕ). Removes port.away s away) same removes) (its ∙ ap (λ (s : ℕ). txn_of i.number s) same) z c.baton.payload arrived puts

    -- what a read brings is as long as what it asked for
    module _ (puts : PutsBack frame.world z left rest) where
      pub long_back : port.waiting ≡ true → c.baton.txn.seq ≡ port.engine.seq → IsRead (op_of port.engine) → length c.baton.payload.bytes ≡ length_of (op_of port.engine)
      unfolding arrived
      long_back = (comes_back case i port (events_of frame.world.platform old) seen left rest u free is style c.baton.txn.seq its z c.baton.payload arrived puts).long
