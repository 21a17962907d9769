-- The runs of a core over a net after a step, and why a blocking or direct initiator makes an entry, waits or finishes.
use Rattle.std.proofs.Common.{◌≡◌, ◌≢◌, ◌⊎◌, ℕ, zero, suc, ◌+◌, ◌≤◌, Bool, true, false, ◌&&◌, cond, List, [], ◌∷◌, ◌++◌, length, set, get_or, Some, refl, sym, ap, subst, ◌∙◌, inl, inr, arith}
use Rattle.std.specs.Prelude.{slice_get}
use Rattle.std.proofs.lemmas.Bool.{false≢true, ne_eqb}
use Rattle.std.proofs.lemmas.List.{map-append}
use Rattle.std.proofs.lemmas.List.Elements.{filter-append}
use Rattle.std.proofs.lemmas.Option.{MatchOption-at_some}
use Rattle.atomic_table.specs.Seated.{TableId}
use Rattle.view_lists.specs.Lists.{Within}
use Rattle.one_history.specs.declared.entry.Entry.{Entry as HistoryEntry}
use Rattle.one_history.specs.declared.view.Frame.{Frame}
use Rattle.one_history.specs.Held.{Held}
use Rattle.tlm_types.specs.declared.entry.Content.{Content}
use Rattle.tlm_types.specs.declared.entry.Entry.{Entry}
use Rattle.tlm_types.specs.declared.words.ObjectNo.{ObjectNo}
use Rattle.tlm_types.specs.declared.words.ObjectNo.TheVariants as objects
use Rattle.tlm_model.specs.declared.platform.Style.{Style}
use Rattle.tlm_model.specs.declared.platform.Style.TheVariants as styles
use Rattle.tlm_model.specs.declared.platform.Target.TheVariants as targets
use Rattle.tlm_model.specs.Plan.{Plan, Initiator, initiators_of}
use Rattle.time_board.specs.declared.rounds.Member.{Member}
use Rattle.route_plan.specs.declared.step.Route.{Route}
use Rattle.script_engine.specs.declared.op.Op.TheVariants as next
use Rattle.script_engine.specs.declared.part.Transfer.{Transfer}
use Rattle.script_engine.specs.declared.part.Pause.TheVariants as pause
use Rattle.script_engine.specs.State.{State, op_of}
use Rattle.script_engine.proofs.Steps.{ends}
use Rattle.initiator_run.specs.declared.run.NextInvalidation.{NextInvalidation}
use Rattle.initiator_run.specs.Access.{IsRouteOf, model_route}
use Rattle.initiator_run.specs.Board.{HasGoneOn, IsWaiting}
use Rattle.initiator_run.specs.Come.{HasCome, has_ended}
use Rattle.initiator_run.specs.Moves.{HasReached, HasToInvalidate, Keeps}
use Rattle.initiator_run.specs.Run.{Run}
use Rattle.initiator_run.proofs.EndLemmas.{HasCome-ended, HasCome-open, HasCome-other}
use Rattle.initiator_run.proofs.MoveLemmas.{passed_initiator}
use Rattle.initiator_run.proofs.RunLemmas.{passed_step}
use Rattle.run_outcome.proofs.ListLemmas.{at_set}
use Rattle.run_outcome.proofs.PlanLemmas.{initiator_number}
use Rattle.cargo_model.specs.Known.{objects_of}
use Rattle.plat_net.proofs.NumberLemmas.{memory_number, memory_there}
use Rattle.plat_end.specs.Entries.{entries_read, entry_read}
use Rattle.node_hops.specs.Steps.{HasNew, IsAccessOf, StepAdds}
use Rattle.node_hops.specs.declared.node.OneStep.{OneStep}
use Rattle.node_hops.specs.declared.node.OneStep.TheVariants as steps
use Rattle.decoupled_run.specs.declared.steps.Owes.{Owes}
use Rattle.decoupled_run.specs.declared.steps.Owes.TheVariants as owes
use Rattle.decoupled_run.specs.declared.steps.SteppedInitiator.{SteppedInitiator}
use Rattle.decoupled_run.specs.Stepped.{IsNextAfter, IsOwing, IsStepped}
use Rattle.stepped_actors.specs.declared.actor.SteppedActor.{SteppedActor}
use Rattle.stepped_actors.specs.declared.actor.SteppedActor.TheVariants.{Decoupled, FourPhase, Router, Memory}
use Rattle.stepped_actors.specs.Actors.{HasEnded, IsGoing, IsMadeBy, IsMember, KeepsAs, MovesRounds, WaitsFor, number_of}
use Rattle.stepped_actors.specs.Begin.{IsAtStart}
use Rattle.stepped_actors.specs.Made.{IsStepOf, KeepsRun, is_decoupled}
use Rattle.plat_core.specs.NetCore.{KnowsAll, length_after}
use Rattle.plat_core.specs.NetRuns.{HasComeBy, MayFinish, MayMake, MayWait, decoupled_part}
use Rattle.plat_core.specs.Rounds.{IsHeldBack, due_round, is_decoupled_entry, is_decoupled_one, is_memory}
use Rattle.plat_core.specs.Rounds.{is_decoupled as is_decoupled_style}
use Rattle.plat_core.proofs.BoardLemmas.{HasMember, has_member, is_held, not_held}
use Rattle.plat_core.proofs.DueLemmas.{due_after_syncs, due_at_access, due_at_end, due_at_invalidation, open_at_invalidation}
use Rattle.plat_core.proofs.NotDecoupled.{not_by_node, not_by_port}
use Rattle.plat_core.proofs.RoundsKept.{differs}
use Rattle.plat_core.proofs.SeenLemmas.{one_more, same_seen}
use Rattle.plat_core.proofs.StepRounds.{of_port}

-- why a run goes on, waits or ends, by any entries by which it has come to where it is
module _ (p : Plan) (i : Initiator) (h : List Entry) (members after : List Member) (old new : Run) (mine : slice_get (initiators_of p) old.engine.initiator ≡ Some i) (come : HasCome p.platform i h old) (has : HasMember members after old.engine.initiator old new) (gone : HasGoneOn old new members after) where
  abbrev n : ℕ
  n = old.engine.initiator

  abbrev due : ℕ
  due = due_round p.platform i h

  pub goes_on : IsNextAfter p old new → (has_ended p.platform i h ≡ false) × (IsHeldBack members n due → ⊥)
  goes_on is = by is.next
    where
      come_there : HasCome p.platform i h is.middle
      come_there = is.keeps.come i h mine come

      mine_there : slice_get (initiators_of p) is.middle.engine.initiator ≡ Some i
      mine_there = ap (slice_get (initiators_of p)) is.keeps.initiator ∙ mine

      in_round : due ≡ is.middle.syncs → IsHeldBack members n due → ⊥
      in_round syncs = not_held members after n due old new has gone (syncs ∙ (sym is.through ∙ sym is.round))

      by : ((x : Transfer) × (route : Route) × HasReached p is.middle x route) ⊎ ((x : NextInvalidation) × HasToInvalidate p is.middle x) → (has_ended p.platform i h ≡ false) × (IsHeldBack members n due → ⊥)
      by (inl (x, route, reached)) =
          let leads = MatchOption-at_some ⊥ (λ (j : Initiator). IsRouteOf p j x.address route) i mine_there reached.leads in (
            HasCome-open p.platform i h is.middle x (model_route route) reached.next leads.leads come_there,
            in_round (due_at_access p.platform i h is.middle x (model_route route) reached.next leads.leads come_there),
          )
      by (inr (x, reached)) =
          let leads = MatchOption-at_some ⊥ (λ (j : Initiator). IsRouteOf p j reached.address x.route) i mine_there reached.leads in (
            open_at_invalidation p.platform i h is.middle reached.address reached.bytes (model_route x.route) reached.next leads.leads come_there,
            in_round (due_at_invalidation p.platform i h is.middle reached.address reached.bytes (model_route x.route) reached.next leads.leads come_there),
          )

  module _ (decoupled : is_decoupled_style i.row.style ≡ true) (keeps : Keeps p old new) where
    pub waits_held : IsWaiting after new → IsHeldBack members n due
    waits_held waits = is_held members after n due old new has waits (due_after_syncs p.platform i h new decoupled (keeps.come i h mine come))

    pub ends_free : op_of new.engine ≡ next.Done → new.round ≡ new.syncs → (has_ended p.platform i h ≡ true) × (IsHeldBack members n due → ⊥)
    ends_free done through = (
      (HasCome-ended ends p.platform i h new (keeps.come i h mine come) done).ended,
      not_held members after n due old new has gone (due_at_end p.platform i h new decoupled (keeps.come i h mine come) done ∙ sym through),
    )

-- what is known of a blocking or direct initiator between two steps
pub record IsOfDecoupled (p : Plan) (r : Run) : Type 0 where
  pub initiator : Initiator
  pub is : slice_get (initiators_of p) r.engine.initiator ≡ Some initiator
  pub style : is_decoupled_style initiator.row.style ≡ true
  pub ended : r.finished ≡ true → op_of r.engine ≡ next.Done

not_four : (style : Style) → style ≢ styles.FourPhase → is_decoupled_style style ≡ true
not_four styles.Blocking other = refl
not_four styles.Direct other = refl
not_four styles.FourPhase other = absurd (other refl)

pub of_decoupled : (table tokens : TableId) (frame : Frame Plan) (s : SteppedInitiator) (note : Held Content Plan) → IsStepped table tokens frame s note → IsOfDecoupled frame.world s.run
of_decoupled table tokens frame s note stepped = by s.owes refl stepped.is
  where
    none : s.run.finished ≡ true → (o : Owes) → s.owes ≡ o → (o ≡ owes.Nothing → ⊥) → op_of s.run.engine ≡ next.Done
    none finished o is other = absurd (other (sym is ∙ stepped.settled finished))

    by : (o : Owes) → s.owes ≡ o → IsOwing frame s.run note.knows s.wallet s.grants o → IsOfDecoupled frame.world s.run
    by owes.Nothing is ease = record { initiator = ease.is.initiator; is = ease.is.is; style = not_four ease.is.initiator.row.style ease.is.decoupled; ended = ease.is.finished }
    by (owes.Grant command address txn at) is (route, asks, kind, round) = record { initiator = asks.is.initiator; is = asks.is.is; style = not_four asks.is.initiator.row.style asks.is.decoupled; ended = asks.is.finished }
    by (owes.Closings k) is closes =
        let past = closes.past in
        let own = closes.ease.is in
        let same : s.run.engine.initiator ≡ past.engine.initiator = ap (λ (r : Run). r.engine.initiator) closes.run ∙ (ap (λ (e : State). e.initiator) (passed_step pause.Fence past) ∙ passed_initiator past.engine past.engine.remaining) in
        record {
          initiator = own.initiator;
          is = ap (slice_get (initiators_of frame.world)) same ∙ own.is;
          style = not_four own.initiator.row.style own.decoupled;
          ended = λ finished. none finished (owes.Closings k) is (λ q. cc);
        }

-- one initiator of a number
pub same_initiator : (p : Plan) (n : ℕ) (i j : Initiator) → slice_get (initiators_of p) n ≡ Some i → slice_get (initiators_of p) n ≡ Some j → i ≡ j
same_initiator p n i j first second = by (sym first ∙ second)
  where
    by : {x y : Initiator} → Some x ≡ Some y → x ≡ y
    by q = cc

-- with one more entry the part grows by it, or stays
part_own : (p : Plan) (h : List Entry) (e : Entry) → is_decoupled_entry p e ≡ true → decoupled_part p (h ++ e ∷ []) ≡ decoupled_part p h ++ e ∷ []
part_own p h e is = filter-append (is_decoupled_entry p) h (e ∷ []) ∙ ap (λ (b : Bool). decoupled_part p h ++ cond b (e ∷ []) []) is

part_other : (p : Plan) (h : List Entry) (e : Entry) → is_decoupled_entry p e ≡ false → decoupled_part p (h ++ e ∷ []) ≡ decoupled_part p h
part_other p h e is = filter-append (is_decoupled_entry p) h (e ∷ []) ∙ (ap (λ (b : Bool). decoupled_part p h ++ cond b (e ∷ []) []) is ∙ nil (decoupled_part p h))
  where
    nil : (l : List Entry) → l ++ [] ≡ l
    nil [] = refl
    nil (x ∷ l) = ap (λ m. x ∷ m) (nil l)

-- an entry of a blocking or direct initiator is in it
in_part : (p : Plan) (n : ℕ) (i : Initiator) (e : HistoryEntry Content) → slice_get (initiators_of p) n ≡ Some i → is_decoupled_style i.row.style ≡ true → IsAccessOf p n e → is_decoupled_entry p (entry_read p.platform e) ≡ true
in_part p n i e is style access =
    let place : e.object ≡ access.memory = access.object ∙ memory_number p.platform access.memory access.there in
    let object : (entry_read p.platform e).object ≡ objects.Memory access.memory =
    ap (λ (k : ℕ). get_or (objects_of p.platform) k (objects.Hop 0)) place ∙ at_place (objects_of p.platform) access.memory (objects.Memory access.memory) (objects.Hop 0) (memory_there p.platform access.memory access.there) in
    ap (λ (o : ObjectNo). is_memory o && is_decoupled_one (slice_get (initiators_of p) e.content.txn.initiator)) object
    ∙ (ap (λ (k : ℕ). is_decoupled_one (slice_get (initiators_of p) k)) access.own ∙ (ap is_decoupled_one is ∙ style))
  where
    at_place : {X : Type 0} (xs : List X) (k : ℕ) (x d : X) → slice_get xs k ≡ Some x → get_or xs k d ≡ x
    at_place [] k x d at = cc
    at_place (y ∷ xs) zero x d at = cc
    at_place (y ∷ xs) (suc k) x d at = at_place xs k x d at

-- the entry of a step is the actor's own
pub own_entry : (p : Plan) (was is : SteppedActor) (e : HistoryEntry Content) → IsStepOf p was is e → IsMadeBy p was e
own_entry p (Decoupled s) (Decoupled t) e made = made.access
own_entry p (Decoupled s) (FourPhase t) e made = absurd made
own_entry p (Decoupled s) (Router t) e made = absurd made
own_entry p (Decoupled s) (Memory t) e made = absurd made
own_entry p (FourPhase s) is e made = made
own_entry p (Router s) is e made = made
own_entry p (Memory s) is e made = made

module _ (table tokens : TableId) (frame : Frame Plan) where
  abbrev world : Plan
  world = frame.world

  -- an entry of a blocking or direct initiator is of the one that has made the step
  by_whom : (was is : SteppedActor) (note : Held Content Plan) (e : HistoryEntry Content) → KeepsAs table tokens frame was note → IsStepOf frame.world was is e → is_decoupled_entry frame.world (entry_read frame.world.platform e) ≡ true → e.content.txn.initiator ≡ number_of frame.world.platform was
  by_whom (Decoupled s) (Decoupled t) note e keeps made own = made.access.own
  by_whom (Decoupled s) (FourPhase t) note e keeps made own = absurd made
  by_whom (Decoupled s) (Router t) note e keeps made own = absurd made
  by_whom (Decoupled s) (Memory t) note e keeps made own = absurd made
  by_whom (FourPhase s) is note e keeps made own =
      let of = of_port table tokens frame s note keeps in
      absurd (false≢true (sym (not_by_port frame.world e s.state.port.engine.initiator of.initiator of.is of.style made) ∙ own))
  by_whom (Router s) is note e keeps made own = absurd (false≢true (sym (not_by_node frame.world e (targets.Router s.node.router) made) ∙ own))
  by_whom (Memory s) is note e keeps made own = absurd (false≢true (sym (not_by_node frame.world e (targets.Memory s.memory) made) ∙ own))

  -- what the others have come to, while an actor makes an entry
  others_come : (was is a : SteppedActor) (note : Held Content Plan) (e : HistoryEntry Content) (h : List Entry) → KeepsAs table tokens frame was note → IsStepOf frame.world was is e → number_of frame.world.platform a ≢ number_of frame.world.platform was → HasComeBy frame.world h a → HasComeBy frame.world (h ++ entry_read frame.world.platform e ∷ []) a
  others_come was is (Decoupled s) note e h keeps made apart come = λ i at. by i at (is_decoupled_entry frame.world (entry_read frame.world.platform e)) refl
    where
      by : (i : Initiator) → slice_get (initiators_of frame.world) s.run.engine.initiator ≡ Some i → (b : Bool) → is_decoupled_entry frame.world (entry_read frame.world.platform e) ≡ b → HasCome frame.world.platform i (decoupled_part frame.world (h ++ entry_read frame.world.platform e ∷ [])) s.run
      by i at false own = subst (λ (l : List Entry). HasCome frame.world.platform i l s.run) (sym (part_other frame.world h (entry_read frame.world.platform e) own)) (come i at)
      by i at true own =
          let whose = by_whom was is note e keeps made own in
          let number = initiator_number frame.world s.run.engine.initiator i at in
          let far : e.content.txn.initiator ≢ i.number = λ same. apart (sym number ∙ (sym same ∙ whose)) in
          subst (λ (l : List Entry). HasCome frame.world.platform i l s.run) (sym (part_own frame.world h (entry_read frame.world.platform e) own))
          (HasCome-other frame.world.platform i (decoupled_part frame.world h) (entry_read frame.world.platform e) s.run (ne_eqb e.content.txn.initiator i.number far) (come i at))
  others_come was is (FourPhase s) note e h keeps made apart come = tt
  others_come was is (Router s) note e h keeps made apart come = tt
  others_come was is (Memory s) note e h keeps made apart come = tt

  -- and the one that has made it
  own_comes : (was is : SteppedActor) (note : Held Content Plan) (e : HistoryEntry Content) (h : List Entry) → KeepsAs table tokens frame was note → is_decoupled is ≡ is_decoupled was → number_of frame.world.platform is ≡ number_of frame.world.platform was → IsStepOf frame.world was is e → HasComeBy frame.world h was → HasComeBy frame.world (h ++ entry_read frame.world.platform e ∷ []) is
  own_comes (Decoupled s) (Decoupled t) note e h keeps kind number made come = λ i at.
      let d = of_decoupled table tokens frame s note keeps in
      let here : slice_get (initiators_of frame.world) s.run.engine.initiator ≡ Some i = ap (slice_get (initiators_of frame.world)) (sym number) ∙ at in
      subst (λ (l : List Entry). HasCome frame.world.platform i l t.run) (sym (part_own frame.world h (entry_read frame.world.platform e) (in_part frame.world s.run.engine.initiator d.initiator e d.is d.style made.access)))
      (made.come i (decoupled_part frame.world h) here (come i here))
  own_comes (FourPhase s) (Decoupled t) note e h keeps kind number made come = absurd (false≢true (sym kind))
  own_comes (Router s) (Decoupled t) note e h keeps kind number made come = absurd (false≢true (sym kind))
  own_comes (Memory s) (Decoupled t) note e h keeps kind number made come = absurd (false≢true (sym kind))
  own_comes was (FourPhase t) note e h keeps kind number made come = tt
  own_comes was (Router t) note e h keeps kind number made come = tt
  own_comes was (Memory t) note e h keeps kind number made come = tt

  -- or that has made none
  own_keeps : (was is : SteppedActor) (h : List Entry) → is_decoupled is ≡ is_decoupled was → number_of frame.world.platform is ≡ number_of frame.world.platform was → KeepsRun frame.world was is → HasComeBy frame.world h was → HasComeBy frame.world h is
  own_keeps (Decoupled s) (Decoupled t) h kind number keeps come = λ i at.
      let here : slice_get (initiators_of frame.world) s.run.engine.initiator ≡ Some i = ap (slice_get (initiators_of frame.world)) (sym number) ∙ at in
      keeps.come i (decoupled_part frame.world h) here (come i here)
  own_keeps (FourPhase s) (Decoupled t) h kind number keeps come = absurd (false≢true (sym kind))
  own_keeps (Router s) (Decoupled t) h kind number keeps come = absurd (false≢true (sym kind))
  own_keeps (Memory s) (Decoupled t) h kind number keeps come = absurd (false≢true (sym kind))
  own_keeps was (FourPhase t) h kind number keeps come = tt
  own_keeps was (Router t) h kind number keeps come = tt
  own_keeps was (Memory t) h kind number keeps come = tt

  -- why it has made an entry, waits or has finished
  pub made_rightly : (was is : SteppedActor) (before after : List Member) (e : HistoryEntry Content) (h : List Entry) → IsMember before was → IsGoing was → MovesRounds was is before after → IsStepOf frame.world was is e → HasComeBy frame.world h was → MayMake frame.world h before was e
  made_rightly (Decoupled s) (Decoupled t) before after e h member going gone made come = λ answer i at.
      let r = goes_on frame.world i (decoupled_part frame.world h) before after s.run t.run at (come i at) (has_member before after s.run.engine.initiator s.run t.run refl member going gone) gone (made.next answer) in
      record { unended = r.0; free = r.1 }
  made_rightly (Decoupled s) (FourPhase t) before after e h member going gone made come = absurd made
  made_rightly (Decoupled s) (Router t) before after e h member going gone made come = absurd made
  made_rightly (Decoupled s) (Memory t) before after e h member going gone made come = absurd made
  made_rightly (FourPhase s) is before after e h member going gone made come = tt
  made_rightly (Router s) is before after e h member going gone made come = tt
  made_rightly (Memory s) is before after e h member going gone made come = tt

  pub waits_rightly : (was is : SteppedActor) (note back : Held Content Plan) (before after : List Member) (h : List Entry) → KeepsAs table tokens frame was note → IsMember before was → IsGoing was → MovesRounds was is before after → WaitsFor frame tokens was is note back after → HasComeBy frame.world h was → MayWait frame.world h before was
  waits_rightly (Decoupled s) (Decoupled t) note back before after h keeps member going gone waits come = λ i at.
      let d = of_decoupled table tokens frame s note keeps in
      let style = subst (λ (j : Initiator). is_decoupled_style j.row.style ≡ true) (same_initiator frame.world s.run.engine.initiator d.initiator i d.is at) d.style in
      waits_held frame.world i (decoupled_part frame.world h) before after s.run t.run at (come i at) (has_member before after s.run.engine.initiator s.run t.run refl member going gone) gone style waits.1 waits.0
  waits_rightly (Decoupled s) (FourPhase t) note back before after h keeps member going gone waits come = absurd waits
  waits_rightly (Decoupled s) (Router t) note back before after h keeps member going gone waits come = absurd waits
  waits_rightly (Decoupled s) (Memory t) note back before after h keeps member going gone waits come = absurd waits
  waits_rightly (FourPhase s) is note back before after h keeps member going gone waits come = tt
  waits_rightly (Router s) is note back before after h keeps member going gone waits come = tt
  waits_rightly (Memory s) is note back before after h keeps member going gone waits come = tt

  pub ends_rightly : (was is : SteppedActor) (note back : Held Content Plan) (before after : List Member) (h : List Entry) → KeepsAs table tokens frame was note → KeepsAs table tokens frame is back → is_decoupled is ≡ is_decoupled was → IsMember before was → IsMember after is → IsGoing was → MovesRounds was is before after → KeepsRun frame.world was is → HasEnded is → HasComeBy frame.world h was → MayFinish frame.world h before was
  ends_rightly (Decoupled s) (Decoupled t) note back before after h keeps keeps_now kind member member_now going gone kept ended come = λ i at.
      let d = of_decoupled table tokens frame s note keeps in
      let now = of_decoupled table tokens frame t back keeps_now in
      let style = subst (λ (j : Initiator). is_decoupled_style j.row.style ≡ true) (same_initiator frame.world s.run.engine.initiator d.initiator i d.is at) d.style in
      let r = ends_free frame.world i (decoupled_part frame.world h) before after s.run t.run at (come i at) (has_member before after s.run.engine.initiator s.run t.run refl member going gone) gone style kept (now.ended ended) (member_now.through ended) in
      record { ended = r.0; free = r.1 }
  ends_rightly (Decoupled s) (FourPhase t) note back before after h keeps keeps_now kind member member_now going gone kept ended come = absurd (false≢true kind)
  ends_rightly (Decoupled s) (Router t) note back before after h keeps keeps_now kind member member_now going gone kept ended come = absurd (false≢true kind)
  ends_rightly (Decoupled s) (Memory t) note back before after h keeps keeps_now kind member member_now going gone kept ended come = absurd (false≢true kind)
  ends_rightly (FourPhase s) is note back before after h keeps keeps_now kind member member_now going gone kept ended come = tt
  ends_rightly (Router s) is note back before after h keeps keeps_now kind member member_now going gone kept ended come = tt
  ends_rightly (Memory s) is note back before after h keeps keeps_now kind member member_now going gone kept ended come = tt

  module _ (was is : SteppedActor) (note back seen : Held Content Plan) (before after : List Member) (step : OneStep) (made n : ℕ) (actors : List SteppedActor) (at : slice_get actors n ≡ Some was) where
    abbrev read : List (HistoryEntry Content) → List Entry
    read known = entries_read frame.world.platform known

    -- after a step and a look at the whole history
    pub come_stepped : KeepsAs table tokens frame was note → is_decoupled is ≡ is_decoupled was → number_of frame.world.platform is ≡ number_of frame.world.platform was → ((k : ℕ) (a : SteppedActor) → slice_get actors k ≡ Some a → number_of frame.world.platform a ≡ k)
        → KnowsAll note made → KnowsAll seen (length_after made step) → Within note.knows.known seen.knows.known → Within back.knows.known seen.knows.known → StepAdds (IsStepOf frame.world was is) step note.knows.known back.knows.known → ((step ≡ steps.Made → ⊥) → KeepsRun frame.world was is)
        → ((k : ℕ) (a : SteppedActor) → slice_get actors k ≡ Some a → HasComeBy frame.world (entries_read frame.world.platform note.knows.known) a)
        → (k : ℕ) (a : SteppedActor) → slice_get (set actors n is) k ≡ Some a → HasComeBy frame.world (entries_read frame.world.platform seen.knows.known) a
    come_stepped keeps kind number numbers all all_seen knew saw adds none come = by step refl
      where
        as_before : length_after made step ≡ made → KeepsRun frame.world was is → (k : ℕ) (a : SteppedActor) → slice_get (set actors n is) k ≡ Some a → HasComeBy frame.world (entries_read frame.world.platform seen.knows.known) a
        as_before same kept k a there =
            let known : seen.knows.known ≡ note.knows.known = same_seen note.knows.known seen.knows.known all.numbered all_seen.numbered knew (all_seen.count ∙ (same ∙ sym all.count)) in
            subst (λ (l : List (HistoryEntry Content)). HasComeBy frame.world (entries_read frame.world.platform l) a) (sym known)
            (elim (at_set actors n k is a there) [
              | inl own ↦ subst (HasComeBy frame.world (entries_read frame.world.platform note.knows.known)) own.1 (own_keeps was is (entries_read frame.world.platform note.knows.known) kind number kept (come n was at))
              | inr other ↦ come k a other.1
            ])

        by : (s : OneStep) → step ≡ s → (k : ℕ) (a : SteppedActor) → slice_get (set actors n is) k ≡ Some a → HasComeBy frame.world (entries_read frame.world.platform seen.knows.known) a
        by steps.Made q k a there =
            let added : HasNew (IsStepOf frame.world was is) note.knows.known back.knows.known = adds q in
            let e : HistoryEntry Content = added.entry in
            let few : length seen.knows.known ≤ length note.knows.known + 1 = (let c = all_seen.count ∙ ap (length_after made) q in let d = all.count in omega arith) in
            let known : seen.knows.known ≡ note.knows.known ++ e ∷ [] = one_more note.knows.known seen.knows.known all.numbered all_seen.numbered knew few e (saw e added.has) added.past in
            let h : List Entry = entries_read frame.world.platform note.knows.known in
            let longer : entries_read frame.world.platform seen.knows.known ≡ h ++ entry_read frame.world.platform e ∷ [] = ap (entries_read frame.world.platform) known ∙ map-append (entry_read frame.world.platform) note.knows.known (e ∷ []) in
            subst (λ (l : List Entry). HasComeBy frame.world l a) (sym longer)
            (elim (at_set actors n k is a there) [
              | inl own ↦ subst (HasComeBy frame.world (h ++ entry_read frame.world.platform e ∷ [])) own.1 (own_comes was is note e h keeps kind number added.is (come n was at))
              | inr other ↦ others_come was is a note e h keeps added.is (λ same. differs k n other.0 (sym (numbers k a other.1) ∙ (same ∙ numbers n was at))) (come k a other.1)
            ])
        by steps.Waits q k a there = as_before (ap (length_after made) q) (none (λ f. wrong (sym q ∙ f))) k a there
          where
            wrong : steps.Waits ≡ steps.Made → ⊥
            wrong f = cc
        by steps.Finished q k a there = as_before (ap (length_after made) q) (none (λ f. wrong (sym q ∙ f))) k a there
          where
            wrong : steps.Finished ≡ steps.Made → ⊥
            wrong f = cc

-- before the first step
pub come_begun : (p : Plan) (a : SteppedActor) (known : List (HistoryEntry Content)) → known ≡ [] → HasComeBy p [] a → HasComeBy p (entries_read p.platform known) a
come_begun p a known none come = subst (λ (l : List (HistoryEntry Content)). HasComeBy p (entries_read p.platform l) a) (sym none) come

pub at_nothing : (p : Plan) (a : SteppedActor) → IsAtStart p a → HasComeBy p [] a
at_nothing p (Decoupled s) start = start
at_nothing p (FourPhase s) start = tt
at_nothing p (Router s) start = tt
at_nothing p (Memory s) start = tt
