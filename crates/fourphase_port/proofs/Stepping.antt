-- A step of a port is made of moves without an entry, up to one that makes an entry or ends it.
use Rattle.std.proofs.Common.{◌≡◌, ◌⊎◌, ℕ, suc, Bool, true, false, Option, Some, None, refl, sym, ap, ◌∙◌, subst, inl, inr, arith}
use Rattle.std.specs.Prelude.{is_some, not}
use Rattle.atomic_table.specs.Seated.{TableId}
use Rattle.view_lists.specs.Lists.{Within}
use Rattle.one_history.specs.Held.{Held}
use Rattle.one_history.specs.Lists.{StandBelow}
use Rattle.one_history.specs.declared.view.Frame.{Frame}
use Rattle.tlm_types.specs.declared.entry.Content.{Content}
use Rattle.tlm_model.specs.Plan.{Plan}
use Rattle.script_engine.specs.declared.op.Op.{Op}
use Rattle.script_engine.specs.declared.op.Op.TheVariants as next
use Rattle.script_engine.specs.declared.part.Part.TheVariants.{Invalidates}
use Rattle.script_engine.specs.Part.{part_of}
use Rattle.script_engine.specs.State.{op_of}
use Rattle.shared_object.specs.Steps.{IsNote}
use Rattle.dmi_grants.specs.declared.invalidation.Ending.{Ending}
use Rattle.dmi_grants.specs.declared.invalidation.Ending.TheVariants.{Closed, ByOthers, Returned}
use Rattle.dmi_grants.specs.declared.invalidation.Revocation.{Revocation}
use Rattle.node_hops.specs.Steps.{HasNew, IsByPort, StepAdds}
use Rattle.node_hops.proofs.News.{new_after}
use Rattle.node_hops.specs.declared.node.OneStep.{OneStep}
use Rattle.node_hops.specs.declared.node.OneStep.TheVariants as steps
use Rattle.port_moves.specs.Moved.{ends, made}
use Rattle.port_moves.specs.State.{IsPort, PortView, StateView, with_note}
use Rattle.port_moves.specs.declared.hand.Hand.{Hand}
use Rattle.port_moves.specs.declared.hand.Hand.TheVariants.{Free, Taken, Acquired, Begun, Owed, Ended, Released}
use Rattle.port_moves.specs.declared.hand.Moved.{Moved}
use Rattle.port_moves.specs.declared.hand.Pumped.{Pumped}
use Rattle.port_moves.specs.declared.hand.Pumped.TheVariants.{Did, Nothing, Finished}
use Rattle.fourphase_port.specs.Pumps.{HasFinished, IsMove, IsPump}
use Rattle.fourphase_port.specs.Closing.{IsClosing}
use Rattle.fourphase_port.specs.Moves.{AddsOwn}
use Rattle.fourphase_port.specs.Stepped.{HasPumpedLast, IsSteppedPort, MovesOn, Stands, SteppedKnowsMore, moved_by, step_by, step_of, stepped_with}
use Rattle.fourphase_port.specs.declared.steps.SteppedPort.{SteppedPort}
use Rattle.port_moves.proofs.KnowsMore.{knows_more}
use Rattle.fourphase_port.proofs.Closings.{closing_more}
use Rattle.fourphase_port.proofs.Pumping.{has_finished}
use Rattle.fourphase_port.proofs.Waiting.{IsBusy, busy_did}

some_same : (a b : OneStep) → Some a ≡ Some b → a ≡ b
some_same a b q = cc

did_not : (a b : Pumped) → Some a ≡ Some Did → a ≡ b → (b ≡ Did → ⊥) → ⊥
did_not a b q is other = other (sym is ∙ same a Did q)
  where
    same : (x y : Pumped) → Some x ≡ Some y → x ≡ y
    same x y r = cc

nothing_not : Nothing ≡ Did → ⊥
nothing_not q = cc

finished_not : Finished ≡ Did → ⊥
finished_not q = cc

-- a pump that did nothing, or has finished, began with nothing in hand
free_or_busy : (h : Hand) → (h ≡ Free) ⊎ IsBusy h
free_or_busy Free = inl refl
free_or_busy (Taken b) = inr tt
free_or_busy (Acquired c) = inr tt
free_or_busy (Begun c at leg) = inr tt
free_or_busy (Owed c leg at) = inr tt
free_or_busy (Ended c end) = inr tt
free_or_busy (Released b ticket end) = inr tt

began_free : (frame : Frame Plan) (old new : PortView) (pumped : Pumped) → (pumped ≡ Did → ⊥) → IsPump frame false old new pumped → old.hand ≡ Free
began_free frame old new pumped other pump = elim (free_or_busy old.hand) [
  | inl free ↦ free
  | inr busy ↦ absurd (other (busy_did frame pump.more false old new pumped busy pump.moves))
]

-- A step that has come to here: what ends its pump from here on ends it from the beginning of that pump on.
pub record IsStepping (table tokens : TableId) (frame : Frame Plan) (first : SteppedPort) (note : Held Content Plan) (now : SteppedPort) (after : Held Content Plan) (fetched : Bool) : Type 0 where
  pub port : IsSteppedPort table tokens frame now after
  pub number : now.state.port.engine.initiator ≡ first.state.port.engine.initiator
  pub knew : Within note.knows.known after.knows.known
  pub began : PortView
  pub knew_began : Within note.knows.known began.note.knows.known
  pub goes : (new : PortView) (pumped : Pumped) → IsPump frame fetched (stepped_with now after) new pumped → IsPump frame false began new pumped

-- where it isn't between two closings, it is a port
pub at_move : (table tokens : TableId) (frame : Frame Plan) (s : SteppedPort) (note : Held Content Plan) → IsSteppedPort table tokens frame s note → s.closes ≡ None → IsPort table tokens frame (stepped_with s note)
at_move table tokens frame s note p none = subst (λ (o : Option Revocation). Stands table tokens frame s.state o note) none p.stands

pub at_closing : (table tokens : TableId) (frame : Frame Plan) (s : SteppedPort) (note : Held Content Plan) (r : Revocation) → IsSteppedPort table tokens frame s note → s.closes ≡ Some r → IsClosing table tokens frame s.state r note
at_closing table tokens frame s note r p some = subst (λ (o : Option Revocation). Stands table tokens frame s.state o note) some p.stands

-- a port that has finished closes nothing
no_invalidation : (op : Op) (k a c : ℕ) → op ≡ next.Done → part_of op ≡ Invalidates k a c → ⊥
no_invalidation op k a c done is = grind arith

closes_none : (table tokens : TableId) (frame : Frame Plan) (s : SteppedPort) (note : Held Content Plan) (o : Option Revocation) → Stands table tokens frame s.state o note → HasFinished s.state → IsPort table tokens frame (with_note s.state note)
closes_none table tokens frame s note None p f = p
closes_none table tokens frame s note (Some r) c f = absurd (no_invalidation (op_of s.state.port.engine) c.told.seq c.to_tell.address c.told.count f.ended c.to_tell.next_is)

pub finished_port : (table tokens : TableId) (frame : Frame Plan) (s : SteppedPort) (note : Held Content Plan) → HasFinished s.state → IsSteppedPort table tokens frame s note → IsPort table tokens frame (with_note s.state note)
finished_port table tokens frame s note f p = closes_none table tokens frame s note s.closes p.stands f

-- by more entries
stands_more : (table tokens : TableId) (frame : Frame Plan) (s : StateView) (o : Option Revocation) (note back : Held Content Plan) → Stands table tokens frame s o note → IsNote table back → Within note.knows.known back.knows.known → StandBelow back.knows.known back.knows.seen → Stands table tokens frame s o back
stands_more table tokens frame s None note back p of within below = knows_more table tokens frame s note back p of within below
stands_more table tokens frame s (Some r) note back c of within below = closing_more table tokens frame s r note c back within

pub stepped_more : SteppedKnowsMore
stepped_more table tokens frame s note back p of within below = record { note_of = of; below = below; stands = stands_more table tokens frame s.state s.closes note back p.stands of within below }

-- an entry, or a pump that begins again, is no move of a pump that a step looks at
pub own_moves_on : (frame : Frame Plan) (fetched : Bool) (old new : PortView) (m : Moved) → (m ≡ made) ⊎ (m ≡ ends Did) → MovesOn frame fetched old new m
own_moves_on frame fetched old new m (inl q) entry other = absurd (differ (sym (ap (λ (k : Moved). k.entry) q) ∙ entry))
  where
    differ : true ≡ false → ⊥
    differ e = cc
own_moves_on frame fetched old new m (inr q) entry other = absurd (other (ap (λ (k : Moved). k.pumped) q))

pub moved_own : (ending : Ending) → (moved_by ending ≡ made) ⊎ (moved_by ending ≡ ends Did)
moved_own Closed = inl refl
moved_own ByOthers = inr refl
moved_own Returned = inr refl

module _ (table tokens : TableId) (frame : Frame Plan) (first : SteppedPort) (note : Held Content Plan) where
  pub step_begins : IsSteppedPort table tokens frame first note → IsStepping table tokens frame first note first note false
  step_begins port = record {
    port = port;
    number = refl;
    knew = λ e has. has;
    began = stepped_with first note;
    knew_began = λ e has. has;
    goes = λ new pumped is. is;
  }

  module _ (now : SteppedPort) (mid : Held Content Plan) (fetched : Bool) (i : IsStepping table tokens frame first note now mid fetched) (then : SteppedPort) (after : Held Content Plan)
      (knew : Within mid.knows.known after.knows.known) (m : Moved) (moved : MovesOn frame fetched (stepped_with now mid) (stepped_with then after) m) where
    pub knew_all : Within note.knows.known after.knows.known
    knew_all e has = knew e (i.knew e has)

    -- it goes on with its pump
    extends : IsSteppedPort table tokens frame then after → then.state.port.engine.initiator ≡ now.state.port.engine.initiator → IsMove frame fetched (stepped_with now mid) (stepped_with then after) m → m.pumped ≡ None → IsStepping table tokens frame first note then after true
    extends port number is none = record {
      port = port;
      number = number ∙ i.number;
      knew = knew_all;
      began = i.began;
      knew_began = i.knew_began;
      goes = λ new pumped pump. i.goes new pumped (record { more = suc pump.more; moves = (stepped_with then after, record { moved = m; is = is; goes_on = none }, pump.moves) });
    }

    -- or with the next one
    renews : IsSteppedPort table tokens frame then after → then.state.port.engine.initiator ≡ now.state.port.engine.initiator → IsStepping table tokens frame first note then after false
    renews port number = record {
      port = port;
      number = number ∙ i.number;
      knew = knew_all;
      began = stepped_with then after;
      knew_began = knew_all;
      goes = λ new pumped pump. pump;
    }

    goes_by : (e : Bool) (q : Option Pumped) → step_by e q ≡ None → (e ≡ false) × ((q ≡ None) ⊎ (q ≡ Some Did))
    goes_by true q none = cc
    goes_by false None none = (refl, inl refl)
    goes_by false (Some Did) none = (refl, inr refl)
    goes_by false (Some Nothing) none = cc
    goes_by false (Some Finished) none = cc

    no_did : (q : Option Pumped) → q ≡ None → q ≡ Some Did → ⊥
    no_did q none did = cc

    looked_by : (q : Option Pumped) (b : Bool) → q ≡ None → is_some q ≡ not b → b ≡ true
    looked_by q true none is = refl
    looked_by q false none is = cc

    anew_by : (q : Option Pumped) (b : Bool) → q ≡ Some Did → is_some q ≡ not b → b ≡ false
    anew_by q true did is = cc
    anew_by q false did is = refl

    pub step_goes_on : (looked : Bool) → is_some m.pumped ≡ not looked → IsSteppedPort table tokens frame then after → then.state.port.engine.initiator ≡ now.state.port.engine.initiator → step_of m ≡ None → IsStepping table tokens frame first note then after looked
    step_goes_on looked is port number none =
        let g = goes_by m.entry m.pumped none in
        elim g.1 [
          | inl q ↦ subst (λ (b : Bool). IsStepping table tokens frame first note then after b) (sym (looked_by m.pumped looked q is)) (extends port number (moved g.0 (no_did m.pumped q)) q)
          | inr q ↦ subst (λ (b : Bool). IsStepping table tokens frame first note then after b) (sym (anew_by m.pumped looked q is)) (renews port number)
        ]

    last_pump : (pumped : Pumped) → (pumped ≡ Did → ⊥) → m.entry ≡ false → m.pumped ≡ Some pumped → HasPumpedLast frame pumped (stepped_with first note) (stepped_with then after)
    last_pump pumped other entry is =
        let move = moved entry (λ did. did_not pumped pumped (sym is ∙ did) refl other) in
        let pump = i.goes (stepped_with then after) pumped (record { more = 0; moves = record { moved = m; is = move; ends_it = is } }) in
        record {
          began = i.began;
          free = began_free frame i.began (stepped_with then after) pumped other pump;
          knew = i.knew_began;
          pump = pump;
        }

    waits_by : (e : Bool) (q : Option Pumped) → step_by e q ≡ Some steps.Waits → (e ≡ false) × (q ≡ Some Nothing)
    waits_by true q some = cc
    waits_by false None some = cc
    waits_by false (Some Did) some = cc
    waits_by false (Some Nothing) some = (refl, refl)
    waits_by false (Some Finished) some = cc

    ends_by : (e : Bool) (q : Option Pumped) → step_by e q ≡ Some steps.Finished → (e ≡ false) × (q ≡ Some Finished)
    ends_by true q some = cc
    ends_by false None some = cc
    ends_by false (Some Did) some = cc
    ends_by false (Some Nothing) some = cc
    ends_by false (Some Finished) some = (refl, refl)

    -- or waits
    pub step_waits : (step : OneStep) → step_of m ≡ Some step → step ≡ steps.Waits → HasPumpedLast frame Nothing (stepped_with first note) (stepped_with then after)
    step_waits step some waits = let w = waits_by m.entry m.pumped (some ∙ ap (λ (s : OneStep). Some s) waits) in last_pump Nothing nothing_not w.0 w.1

    -- or has finished
    pub step_ends : (step : OneStep) → step_of m ≡ Some step → step ≡ steps.Finished → HasPumpedLast frame Finished (stepped_with first note) (stepped_with then after)
    step_ends step some ends = let w = ends_by m.entry m.pumped (some ∙ ap (λ (s : OneStep). Some s) ends) in last_pump Finished finished_not w.0 w.1

    pub step_finished : (step : OneStep) → step_of m ≡ Some step → step ≡ steps.Finished → HasFinished then.state
    step_finished step some ends =
        let w = ends_by m.entry m.pumped (some ∙ ap (λ (s : OneStep). Some s) ends) in
        has_finished frame fetched (stepped_with now mid) (stepped_with then after) m (moved w.0 (λ did. did_not Finished Finished (sym w.1 ∙ did) refl finished_not)) w.1

    made_by : (e : Bool) (q : Option Pumped) → step_by e q ≡ Some steps.Made → e ≡ true
    made_by true q is = refl
    made_by false None is = cc
    made_by false (Some Did) is = cc
    made_by false (Some Nothing) is = cc
    made_by false (Some Finished) is = cc

    -- or has made its entry
    pub step_adds : AddsOwn frame (stepped_with now mid) (stepped_with then after) m → (step : OneStep) → step_of m ≡ Some step → StepAdds (IsByPort frame.world first.state.port.engine.initiator) step note.knows.known after.knows.known
    step_adds adds step is made =
        let entry = made_by m.entry m.pumped (is ∙ ap (λ (s : OneStep). Some s) made) in
        new_after (IsByPort frame.world first.state.port.engine.initiator) note.knows.known mid.knows.known after.knows.known i.knew
        (subst (λ (n : ℕ). HasNew (IsByPort frame.world n) mid.knows.known after.knows.known) i.number (adds entry))
