-- What is seen of a core after a turn of an initiator.
use Rattle.std.proofs.Common.{◌≡◌, ℕ, List, [], ◌∷◌, ◌++◌, set, Option, Some, Bool, true, false, refl, ap, sym, subst, ◌∙◌, arith}
use Rattle.std.specs.Prelude.{slice_get}
use Rattle.tlm_types.specs.declared.entry.Entry.{Entry}
use Rattle.tlm_model.specs.Plan.{Plan, Initiator, initiators_of}
use Rattle.region_object.specs.Region.{LoggedMemory}
use Rattle.time_board.specs.declared.rounds.Member.{Member}
use Rattle.time_board.specs.Rounds.{member_of}
use Rattle.script_engine.proofs.Steps.{ends}
use Rattle.initiator_run.specs.Access.{entry_made, model_route}
use Rattle.plat_core.specs.Board.{AreInRounds}
use Rattle.initiator_run.specs.Board.{HasGoneOn}
use Rattle.plat_core.specs.Core.{CoreView, HasRisen, IsCore, IsStep, are_finished, history_of, member_in}
use Rattle.plat_core.specs.declared.steps.CoreStep.TheVariants.{Made, Waits, Finished}
use Rattle.plat_core.specs.Rounds.{due_round, is_decoupled, round_at, round_by}
use Rattle.initiator_run.specs.Run.{Run}
use Rattle.initiator_run.specs.Turns.{HasMadeAccess, HasMovedToEnd, HasMovedToWait}
use Rattle.plat_core.proofs.BoardLemmas.{HasMember, has_member, is_held, not_held, not_held_done}
use Rattle.initiator_run.proofs.BoardLemmas.{at_round, set_own}
use Rattle.plat_core.proofs.CoreLemmas.{HasTurn, core_made, finished_same, has_turn, history_made, route_at, step_of}
use Rattle.initiator_run.proofs.RunLemmas.{accessed_finished, accessed_round}
use Rattle.plat_core.proofs.DueLemmas.{due_after_syncs, due_at_access, due_at_end, round_at_next}
use Rattle.initiator_run.proofs.EndLemmas.{HasCome-ended, HasCome-open}
use Rattle.run_outcome.proofs.ListLemmas.{at_map, map-set, set-same}
use Rattle.plat_core.proofs.RoundsKept.{rounds_entered, rounds_moved}

abbrev pub view : Plan → List LoggedMemory → List Run → List Member → CoreView
view p regions runs members = record { plan = p; history = history_of regions; finished = are_finished runs; rounds = members }

pub view_is : (p : Plan) (h g : List Entry) (a b : List Bool) (m n : List Member) → h ≡ g → a ≡ b → m ≡ n → ◌≡◌ {A = CoreView} (record { plan = p; history = h; finished = a; rounds = m }) (record { plan = p; history = g; finished = b; rounds = n })
view_is p h g a b m n x y z =
    ap (λ (l : List Entry). record { plan = p; history = l; finished = a; rounds = m }) x
    ∙ (ap (λ (l : List Bool). record { plan = p; history = g; finished = l; rounds = m }) y
    ∙ ap (λ (l : List Member). record { plan = p; history = g; finished = b; rounds = l }) z)

-- what is known of a turn of an initiator that goes on
record TakesTurn (p : Plan) (runs : List Run) (regions : List LoggedMemory) (members after : List Member) (made k : ℕ) (old new : Run) : Type 0 where
  pub turn : HasTurn p runs regions made k old
  pub mine : old.engine.initiator ≡ k
  pub has : HasMember members after k old new

takes_turn : (p : Plan) (runs : List Run) (regions : List LoggedMemory) (members after : List Member) (made k : ℕ) (old new : Run) → IsCore p runs regions made → AreInRounds p (history_of regions) runs members → slice_get runs k ≡ Some old → old.finished ≡ false → HasGoneOn old new members after → TakesTurn p runs regions members after made k old new
takes_turn p runs regions members after made k old new core are at going gone =
    let turn = has_turn p runs regions made k old core at in
    let mine = turn.own.come.counted.number ∙ turn.number in
    record { turn = turn; mine = mine; has = has_member members after k old new mine (are.each k old at) going gone }

-- the member of a run that goes on
member_now : (members after : List Member) (k due : ℕ) (old new : Run) (finished : Bool) → HasMember members after k old new → due ≡ new.round → new.finished ≡ finished → after ≡ member_in k members due finished
member_now members after k due old new finished has round flag =
    has.set ∙ (ap (λ (n : ℕ). set members k (at_round n new.finished)) (sym round) ∙ ap (λ (f : Bool). set members k (at_round due f)) flag)

made_finished : (p : Plan) (old new : Run) (regions after : List LoggedMemory) (made : ℕ) → (is : HasMadeAccess p old new regions after made) → new.finished ≡ old.finished
made_finished p old new regions after made is = ap (λ (r : Run). r.finished) is.run ∙ (accessed_finished is.transfer is.route.latency is.got is.middle ∙ is.finished)

made_round : (p : Plan) (old new : Run) (regions after : List LoggedMemory) (made : ℕ) → (is : HasMadeAccess p old new regions after made) → new.round ≡ is.middle.syncs
made_round p old new regions after made is = ap (λ (r : Run). r.round) is.run ∙ (accessed_round is.transfer is.route.latency is.got is.middle ∙ is.through)

-- the round of an access that is made
due_made : (p : Plan) (runs : List Run) (regions after : List LoggedMemory) (made k : ℕ) (old new : Run) → (turn : HasTurn p runs regions made k old) → HasMadeAccess p old new regions after made → due_round p.platform turn.initiator (history_of regions) ≡ new.round
due_made p runs regions after made k old new turn is =
    let come = is.keeps.come turn.initiator (history_of regions) turn.mine turn.own.come in
    let leads = route_at p turn.initiator old is.middle is.transfer is.route turn.mine is.keeps is.reached in
    due_at_access p.platform turn.initiator (history_of regions) is.middle is.transfer (model_route is.route) is.reached.next leads.leads come ∙ sym (made_round p old new regions after made is)

-- the step of an initiator that has made an entry
pub step_made : (p : Plan) (runs : List Run) (regions later : List LoggedMemory) (members after : List Member) (made k : ℕ) (old new : Run) → IsCore p runs regions made → AreInRounds p (history_of regions) runs members → slice_get runs k ≡ Some old → old.finished ≡ false → HasMadeAccess p old new regions later made → HasGoneOn old new members after
    → IsStep (view p regions runs members) k (view p later (set runs k new) after) (Made made)
step_made p runs regions later members after made k old new core are at going is gone =
    let taken = takes_turn p runs regions members after made k old new core are at going gone in
    let turn = taken.turn in
    let due = due_made p runs regions later made k old new turn is in
    let flag = made_finished p old new regions later made is in
    let come = is.keeps.come turn.initiator (history_of regions) turn.mine turn.own.come in
    let leads = route_at p turn.initiator old is.middle is.transfer is.route turn.mine is.keeps is.reached in
    step_of (view p regions runs members) k turn.initiator (view p later (set runs k new) after) (Made made) turn.at (record {
      unended = HasCome-open p.platform turn.initiator (history_of regions) is.middle is.transfer (model_route is.route) is.reached.next leads.leads come;
      free = not_held members after k (due_round p.platform turn.initiator (history_of regions)) old new taken.has gone due;
      entry = entry_made is.middle is.transfer is.region is.route made;
      after = view_is p (history_of later) (history_of regions ++ entry_made is.middle is.transfer is.region is.route made ∷ []) (are_finished (set runs k new)) (are_finished runs) after (member_in k members (due_round p.platform turn.initiator (history_of regions)) false)
          (history_made p old new regions later made core.sound.requests.numbered core.count is) (finished_same runs k old new at flag)
          (member_now members after k (due_round p.platform turn.initiator (history_of regions)) old new false taken.has due (flag ∙ going));
      mine = come.counted.number;
      at_end = core.count;
      sound = (core_made p runs regions later made k old new core at is).sound;
    })

-- the rounds after an entry
pub rounds_made : (p : Plan) (runs : List Run) (regions later : List LoggedMemory) (members after : List Member) (made k : ℕ) (old new : Run) → IsCore p runs regions made → AreInRounds p (history_of regions) runs members → slice_get runs k ≡ Some old → old.finished ≡ false → HasMadeAccess p old new regions later made → HasGoneOn old new members after
    → AreInRounds p (history_of later) (set runs k new) after
rounds_made p runs regions later members after made k old new core are at going is gone =
    let taken = takes_turn p runs regions members after made k old new core are at going gone in
    let turn = taken.turn in
    let i = turn.initiator in
    let come = is.keeps.come i (history_of regions) turn.mine turn.own.come in
    let e = entry_made is.middle is.transfer is.region is.route made in
    let who : slice_get (initiators_of p) e.txn.initiator ≡ Some i = ap (slice_get (initiators_of p)) is.keeps.initiator ∙ turn.mine in
    let round : round_at p e ≡ new.round =
    ap (λ (o : Option Initiator). round_by p.platform o is.middle.engine.seq) who
    ∙ (round_at_next p.platform i (history_of regions) is.middle is.transfer is.reached.next come ∙ sym (made_round p old new regions later made is)) in
    subst (λ (h : List Entry). AreInRounds p h (set runs k new) after) (sym (history_made p old new regions later made core.sound.requests.numbered core.count is))
    (rounds_entered p (history_of regions) e runs members after k old new are at taken.mine going (made_finished p old new regions later made is ∙ going) gone round)

-- the step of an initiator that has finished
pub step_ended : (p : Plan) (runs : List Run) (regions later : List LoggedMemory) (members after : List Member) (made k : ℕ) (old new : Run) → IsCore p runs regions made → AreInRounds p (history_of regions) runs members → slice_get runs k ≡ Some old → old.finished ≡ false → HasMovedToEnd p old new regions later → HasGoneOn old new members after
    → IsStep (view p regions runs members) k (view p later (set runs k new) after) Finished
step_ended p runs regions later members after made k old new core are at going is gone =
    let taken = takes_turn p runs regions members after made k old new core are at going gone in
    let turn = taken.turn in
    let come = is.keeps.come turn.initiator (history_of regions) turn.mine turn.own.come in
    let due : due_round p.platform turn.initiator (history_of regions) ≡ new.round = due_at_end p.platform turn.initiator (history_of regions) new (ap is_decoupled turn.blocking) come is.ended.done ∙ sym is.through in
    step_of (view p regions runs members) k turn.initiator (view p later (set runs k new) after) Finished turn.at (record {
      ended = (HasCome-ended ends p.platform turn.initiator (history_of regions) new come is.ended.done).ended;
      free = not_held members after k (due_round p.platform turn.initiator (history_of regions)) old new taken.has gone due;
      after = view_is p (history_of later) (history_of regions) (are_finished (set runs k new)) (set (are_finished runs) k true) after (member_in k members (due_round p.platform turn.initiator (history_of regions)) true)
          (ap history_of is.same) (map-set (λ (r : Run). r.finished) runs k new ∙ ap (set (are_finished runs) k) is.ended.finished)
          (member_now members after k (due_round p.platform turn.initiator (history_of regions)) old new true taken.has due is.ended.finished);
    })

-- the step of an initiator that had finished
pub step_done : (p : Plan) (runs : List Run) (regions : List LoggedMemory) (members : List Member) (made k : ℕ) (r : Run) → IsCore p runs regions made → AreInRounds p (history_of regions) runs members → slice_get runs k ≡ Some r → r.finished ≡ true
    → IsStep (view p regions runs members) k (view p regions runs members) Finished
step_done p runs regions members made k r core are at done =
    let turn = has_turn p runs regions made k r core at in
    let is = are.each k r at in
    let i = turn.initiator in
    let h = history_of regions in
    let reached = due_at_end p.platform i h r (ap is_decoupled turn.blocking) turn.own.come (turn.own.finished done) in
    let due : due_round p.platform i h ≡ r.round = reached ∙ sym (is.through done) in
    let member : member_of members k ≡ at_round (due_round p.platform i h) true = is.member ∙ (ap (λ (n : ℕ). at_round n r.finished) (sym due) ∙ ap (at_round (due_round p.platform i h)) done) in
    step_of (view p regions runs members) k i (view p regions runs members) Finished turn.at (record {
      ended = (HasCome-ended ends p.platform i h r turn.own.come (turn.own.finished done)).ended;
      free = not_held_done members k (due_round p.platform i h) r is due are.close;
      after = view_is p h h (are_finished runs) (set (are_finished runs) k true) members (member_in k members (due_round p.platform i h) true) refl
          (sym (set-same (are_finished runs) k true (at_map (λ (x : Run). x.finished) runs k r at ∙ ap (λ (b : Bool). Some b) done)))
          (sym (set_own members k (at_round (due_round p.platform i h) true) member));
    })

-- a core whose initiator has gone on without an entry
pub risen : (p : Plan) (runs : List Run) (regions later : List LoggedMemory) (members after : List Member) (k : ℕ) (old new : Run) → HasMember members after k old new → slice_get runs k ≡ Some old → old.finished ≡ false → history_of later ≡ history_of regions → new.finished ≡ old.finished → HasGoneOn old new members after
    → HasRisen (view p regions runs members) k (view p later (set runs k new) after)
risen p runs regions later members after k old new has at going same flag gone = record {
  round = new.round;
  more = omega (arith, ap (λ (m : Member). m.round) has.was, gone.more);
  after = view_is p (history_of later) (history_of regions) (are_finished (set runs k new)) (are_finished runs) after (member_in k members new.round false) same (finished_same runs k old new at flag) (member_now members after k new.round old new false has refl (flag ∙ going));
}

-- the step of an initiator that waits
pub step_waited : (p : Plan) (runs : List Run) (regions later : List LoggedMemory) (members after : List Member) (made k : ℕ) (old new : Run) → IsCore p runs regions made → AreInRounds p (history_of regions) runs members → slice_get runs k ≡ Some old → old.finished ≡ false → HasMovedToWait p old new after regions later → HasGoneOn old new members after
    → IsStep (view p regions runs members) k (view p later (set runs k new) after) Waits
step_waited p runs regions later members after made k old new core are at going is gone =
    let taken = takes_turn p runs regions members after made k old new core are at going gone in
    let turn = taken.turn in
    let come = is.keeps.come turn.initiator (history_of regions) turn.mine turn.own.come in
    step_of (view p regions runs members) k turn.initiator (view p later (set runs k new) after) Waits turn.at (record {
      held = is_held members after k (due_round p.platform turn.initiator (history_of regions)) old new taken.has is.waiting (due_after_syncs p.platform turn.initiator (history_of regions) new (ap is_decoupled turn.blocking) come);
      risen = risen p runs regions later members after k old new taken.has at going (ap history_of is.same) is.finished gone;
    })

-- the rounds after moves without an entry, in a history that is the same
pub rounds_same : (p : Plan) (runs : List Run) (regions later : List LoggedMemory) (members after : List Member) (made k : ℕ) (old new : Run) → IsCore p runs regions made → AreInRounds p (history_of regions) runs members → slice_get runs k ≡ Some old → old.finished ≡ false → history_of later ≡ history_of regions → HasGoneOn old new members after → (new.finished ≡ true → new.round ≡ new.syncs)
    → AreInRounds p (history_of later) (set runs k new) after
rounds_same p runs regions later members after made k old new core are at going same gone through =
    let turn = has_turn p runs regions made k old core at in
    subst (λ (h : List Entry). AreInRounds p h (set runs k new) after) (sym same)
    (rounds_moved p (history_of regions) runs members after k old new are at (turn.own.come.counted.number ∙ turn.number) going gone through)
