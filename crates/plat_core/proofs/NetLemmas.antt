-- A step of a core over a net.
use Rattle.std.proofs.Common.{◌≡◌, ◌≢◌, ℕ, zero, suc, ◌+◌, ◌<◌, ◌≤◌, Bool, true, false, List, [], ◌∷◌, length, get_or, set, Option, Some, nat_eq, refl, sym, ap, subst, ◌∙◌, inl, inr, arith}
use Rattle.std.specs.Prelude.{MatchOption, slice_get}
use Rattle.std.proofs.lemmas.Bool.{false≢true}
use Rattle.std.proofs.lemmas.Bool.Decides.{nat_tests}
use Rattle.std.proofs.lemmas.Option.{slice_get-get_or}
use Rattle.atomic_table.specs.Seated.{TableId}
use Rattle.view_lists.specs.Lists.{Within}
use Rattle.view_lists.proofs.Places.{at_short}
use Rattle.one_history.specs.declared.view.Frame.{Frame}
use Rattle.one_history.specs.Held.{Held}
use Rattle.one_history.specs.Lists.{StandBelow}
use Rattle.shared_object.specs.Steps.{IsNote}
use Rattle.tlm_types.specs.declared.entry.Content.{Content}
use Rattle.tlm_model.specs.declared.platform.Platform.{Platform}
use Rattle.tlm_model.specs.Plan.{Plan}
use Rattle.time_board.specs.declared.rounds.Member.{Member}
use Rattle.time_board.specs.Rounds.{member_of}
use Rattle.initiator_run.specs.Board.{IsNear}
use Rattle.initiator_run.proofs.BoardLemmas.{at_round, member_other}
use Rattle.node_hops.specs.Steps.{HasNew, StepAdds}
use Rattle.node_hops.specs.declared.node.OneStep.{OneStep}
use Rattle.node_hops.specs.declared.node.OneStep.TheVariants as steps
use Rattle.run_outcome.proofs.ListLemmas.{at_set, length-set'}
use Rattle.stepped_actors.specs.declared.actor.SteppedActor.{SteppedActor}
use Rattle.stepped_actors.specs.declared.actor.SteppedActor.TheVariants.{Decoupled, FourPhase, Router, Memory}
use Rattle.stepped_actors.specs.Actors.{HasEnded, IsGoing, IsMadeBy, IsMember, KeepsBy, MovesRounds, WaitsFor, is_node, number_of}
use Rattle.stepped_actors.specs.Made.{IsStepOf, KeepsRun, is_decoupled}
use Rattle.stepped_actors.specs.Begin.{actors_of}
use Rattle.stepped_actors.specs.Laws.{ActorsStay}
use Rattle.plat_core.specs.declared.steps.CoreStep.{CoreStep}
use Rattle.plat_core.specs.Core.{all_true}
use Rattle.plat_core.specs.NetCore.{HasMoved, IsActor, IsNetCore, IsNetStep, IsOver, KnowsAll, NetView, finished_after, length_after, step_as, history_in}
use Rattle.plat_core.proofs.BoardLemmas.{has_member}
use Rattle.plat_core.proofs.RoundsKept.{close_after}
use Rattle.plat_core.proofs.SeenLemmas.{one_more, same_seen}
use Rattle.plat_core.proofs.NetRuns.{come_stepped, ends_rightly, made_rightly, own_entry, waits_rightly}
use Rattle.plat_core.proofs.StepRounds.{rounds_stepped}

pub differs : (a b : ℕ) → nat_eq a b ≡ false → a ≢ b
differs a b is = grind (arith, nat_tests)

-- the rounds after a step: those of others are as before, nobody is more than a round ahead
others_members : (p : Platform) (was is : SteppedActor) (before after : List Member) → MovesRounds was is before after → (k : ℕ) → k ≢ number_of p was → member_of after k ≡ member_of before k
others_members p (Decoupled s) (Decoupled t) before after gone k other =
    ap (λ (l : List Member). member_of l k) gone.member ∙ member_other before s.run.engine.initiator k (at_round t.run.round t.run.finished) other
others_members p was is before after same k other = ap (λ (l : List Member). member_of l k) same

count_members : (was is : SteppedActor) (before after : List Member) → MovesRounds was is before after → length after ≡ length before
count_members (Decoupled s) (Decoupled t) before after gone = ap length gone.member ∙ length-set' before s.run.engine.initiator (at_round t.run.round t.run.finished)
count_members was is before after same = ap length same

close_members : (was is : SteppedActor) (before after : List Member) → IsMember before was → IsGoing was → MovesRounds was is before after → ((k : ℕ) → IsNear before (member_of before k).round) → (k : ℕ) → IsNear after (member_of after k).round
close_members (Decoupled s) (Decoupled t) before after member going gone close k =
    close_after before after s.run.engine.initiator s.run t.run (has_member before after s.run.engine.initiator s.run t.run refl member going gone) gone close k
close_members was is before after member going same close k = subst (λ (l : List Member). IsNear l (member_of l k).round) (sym same) (close k)

-- what the rounds know of an actor whose member is as before
same_member : (p : Platform) (a : SteppedActor) (before after : List Member) → member_of after (number_of p a) ≡ member_of before (number_of p a) → IsMember before a → IsMember after a
same_member p (Decoupled s) before after same is = record { member = same ∙ is.member; reached = is.reached; ahead = is.ahead; through = is.through }
same_member p (FourPhase s) before after same is = ap (λ (m : Member). m.finished) same ∙ is
same_member p (Router s) before after same is = tt
same_member p (Memory s) before after same is = tt

-- flags after a step
set_other : (flags : List Bool) (n k : ℕ) (b : Bool) → k ≢ n → slice_get (set flags n b) k ≡ slice_get flags k
set_other [] n k b other = refl
set_other (f ∷ fs) zero zero b other = absurd (other refl)
set_other (f ∷ fs) zero (suc k) b other = refl
set_other (f ∷ fs) (suc n) zero b other = refl
set_other (f ∷ fs) (suc n) (suc k) b other = set_other fs n k b (λ same. other (omega arith))

set_here : (flags : List Bool) (n : ℕ) (b : Bool) → n < length flags → slice_get (set flags n b) n ≡ Some b
set_here [] n b less = absurd (omega arith)
set_here (f ∷ fs) zero b less = refl
set_here (f ∷ fs) (suc n) b less = set_here fs n b (omega arith)

flag_other : (flags : List Bool) (n k : ℕ) (step : OneStep) → k ≢ n → slice_get (finished_after flags n step) k ≡ slice_get flags k
flag_other flags n k steps.Made other = refl
flag_other flags n k steps.Waits other = refl
flag_other flags n k steps.Finished other = set_other flags n k true other

flags_count : (flags : List Bool) (n : ℕ) (step : OneStep) → length (finished_after flags n step) ≡ length flags
flags_count flags n steps.Made = refl
flags_count flags n steps.Waits = refl
flags_count flags n steps.Finished = length-set' flags n true

flag_unset : (flags : List Bool) (n : ℕ) (step : OneStep) → (step ≡ steps.Finished → ⊥) → finished_after flags n step ≡ flags
flag_unset flags n steps.Made other = refl
flag_unset flags n steps.Waits other = refl
flag_unset flags n steps.Finished other = absurd (other refl)

-- an actor for which something is left isn't told to have finished
pub still_going : (v : NetView) (n : ℕ) → (IsOver v n → ⊥) → slice_get v.finished n ≡ Some true → ⊥
still_going v n not_over is = not_over (subst (λ (o : Option Bool). MatchOption o (all_true v.finished ≡ true) (λ (b : Bool). b ≡ true)) (sym is) refl)

-- an actor has made a step, and the whole history was looked at then
pub record HasStepped (table tokens : TableId) (frame : Frame Plan) (was is : SteppedActor) (note back seen : Held Content Plan) (before after : List Member) (step : OneStep) (made : ℕ) : Type 0 where
  pub keeps : KeepsBy table tokens frame is back
  pub knew : Within note.knows.known back.knows.known
  pub number : number_of frame.world.platform is ≡ number_of frame.world.platform was
  pub adds : StepAdds (IsMadeBy frame.world was) step note.knows.known back.knows.known
  pub made_one : StepAdds (IsStepOf frame.world was is) step note.knows.known back.knows.known
  pub rounds : MovesRounds was is before after
  pub member : IsMember after is
  pub waits : step ≡ steps.Waits → WaitsFor frame tokens was is note back after
  pub ended : step ≡ steps.Finished → HasEnded is
  pub going : (step ≡ steps.Finished → ⊥) → IsGoing is
  pub kind : is_node is ≡ is_node was
  pub style : is_decoupled is ≡ is_decoupled was
  pub none : (step ≡ steps.Made → ⊥) → KeepsRun frame.world was is
  pub nodes : step ≡ steps.Finished → is_node was ≡ false
  pub seen_of : IsNote table seen
  pub saw : Within back.knows.known seen.knows.known
  pub all : KnowsAll seen (length_after made step)

module _ (table tokens : TableId) (frame : Frame Plan) (stay : ActorsStay) (actors : List SteppedActor) (finished : List Bool) (before after : List Member) (note back seen : Held Content Plan) (made n : ℕ) (was is : SteppedActor) (step : OneStep) where
  abbrev pub old : NetView
  old = record { actors = actors; finished = finished; rounds = before; note = Some note }

  abbrev pub new : NetView
  new = record { actors = set actors n is; finished = finished_after finished n step; rounds = after; note = Some seen }

  module _ (core : IsNetCore table tokens frame old made) (at : slice_get actors n ≡ Some was) (left : IsOver old n → ⊥) (did : HasStepped table tokens frame was is note back seen before after step made) where
    abbrev p : Platform
    p = frame.world.platform

    same_note : core.its_note ≡ note
    same_note = by core.has_note
      where
        by : {x y : Held Content Plan} → Some x ≡ Some y → y ≡ x
        by q = cc

    its : (k : ℕ) (a : SteppedActor) → slice_get actors k ≡ Some a → IsActor table tokens frame old note k a
    its k a there = subst (λ (m : Held Content Plan). IsActor table tokens frame old m k a) same_note (core.each k a there)

    its_all : KnowsAll note made
    its_all = subst (λ (m : Held Content Plan). KnowsAll m made) same_note core.all

    open_flag : slice_get finished n ≡ Some true → ⊥
    open_flag = still_going old n left

    number_was : number_of p was ≡ n
    number_was = (its n was at).number

    below_seen : StandBelow seen.knows.known seen.knows.seen
    below_seen e has =
        let here : e.position ≡ has.0 = did.all.numbered has.0 e has.1 in
        let short = at_short seen.knows.known has.0 e has.1 in
        let all = did.all.seen in
        omega arith

    knew_all : Within note.knows.known seen.knows.known
    knew_all e has = did.saw e (did.knew e has)

    -- the others
    other : (k : ℕ) (a : SteppedActor) → k ≢ n → slice_get actors k ≡ Some a → IsActor table tokens frame new seen k a
    other k a apart there =
        let i = its k a there in
        let flag : slice_get (finished_after finished n step) k ≡ slice_get finished k = flag_other finished n k step apart in
        let far : number_of p a ≢ number_of p was = λ same. apart (sym i.number ∙ (same ∙ number_was)) in
        record {
          number = i.number;
          among = i.among;
          keeps = stay table tokens frame a note seen i.keeps did.seen_of knew_all below_seen;
          ended = λ told. i.ended (sym flag ∙ told);
          going = λ not_told. i.going (λ told. not_told (flag ∙ told));
          member = λ not_told. same_member p a before after (others_members p was is before after did.rounds (number_of p a) far) (i.member (λ told. not_told (flag ∙ told)));
        }

    -- the one that has made the step
    flag_own : step ≡ steps.Finished → slice_get (finished_after finished n step) n ≡ Some true
    flag_own done =
        ap (λ (s : OneStep). slice_get (finished_after finished n s) n) done
        ∙ set_here finished n true (let a = (its n was at).among (did.nodes done) in let f = core.flags in omega arith)

    done_by : slice_get (finished_after finished n step) n ≡ Some true → HasEnded is
    done_by told = by step refl
      where
        by : (s : OneStep) → step ≡ s → HasEnded is
        by steps.Made q = absurd (open_flag (ap (λ (t : OneStep). slice_get (finished_after finished n t) n) (sym q) ∙ told))
        by steps.Waits q = absurd (open_flag (ap (λ (t : OneStep). slice_get (finished_after finished n t) n) (sym q) ∙ told))
        by steps.Finished q = did.ended q

    own : IsActor table tokens frame new seen n is
    own = record {
      number = did.number ∙ number_was;
      among = λ initiator. (its n was at).among (sym did.kind ∙ initiator);
      keeps = stay table tokens frame is back seen did.keeps did.seen_of did.saw below_seen;
      ended = done_by;
      going = λ not_told. did.going (λ done. not_told (flag_own done));
      member = λ not_told. did.member;
    }

    pub still_core : IsNetCore table tokens frame new (length_after made step)
    still_core = record {
      its_note = seen;
      has_note = refl;
      note_of = did.seen_of;
      all = did.all;
      count = length-set' actors n is ∙ core.count;
      flags = flags_count finished n step ∙ core.flags;
      members = count_members was is before after did.rounds ∙ core.members;
      each = λ k a there.
          elim (at_set actors n k is a there) [
            | inl same ↦ subst (λ (j : ℕ). IsActor table tokens frame new seen j a) (sym same.0) (subst (IsActor table tokens frame new seen n) same.1 own)
            | inr apart ↦ other k a (differs k n apart.0) apart.1
          ];
      close = close_members was is before after ((its n was at).member open_flag) ((its n was at).going open_flag) did.rounds core.close;
      rounds = rounds_stepped table tokens frame was is note back seen before after step made (its n was at).keeps ((its n was at).member open_flag) ((its n was at).going open_flag) did.going did.rounds its_all did.all knew_all did.saw did.made_one core.rounds;
      come = come_stepped table tokens frame was is note back seen before after step made n actors at (its n was at).keeps.keeps did.style did.number (λ k a there. (its k a there).number) its_all did.all knew_all did.saw did.made_one did.none core.come;
    }

    abbrev has_moved : HasMoved old n new
    has_moved = record { was = was; is = is; at = at; after = refl; unfinished = left; rounds = did.rounds }

    -- the history after the step
    same_known : length_after made step ≡ made → seen.knows.known ≡ note.knows.known
    same_known same = same_seen note.knows.known seen.knows.known its_all.numbered did.all.numbered knew_all (did.all.count ∙ (same ∙ sym its_all.count))

    few_more : length seen.knows.known ≤ length note.knows.known + 1
    few_more = by step refl
      where
        by : (s : OneStep) → step ≡ s → length seen.knows.known ≤ length note.knows.known + 1
        by steps.Made q = let c = did.all.count ∙ ap (length_after made) q in let d = its_all.count in omega arith
        by steps.Waits q = let c = did.all.count ∙ ap (length_after made) q in let d = its_all.count in omega arith
        by steps.Finished q = let c = did.all.count ∙ ap (length_after made) q in let d = its_all.count in omega arith

    pub has_stepped : IsNetStep table tokens frame old n new (step_as step made)
    has_stepped = by step refl
      where
        other_step : steps.Finished ≡ steps.Made → ⊥
        other_step f = cc

        by : (s : OneStep) → step ≡ s → IsNetStep table tokens frame old n new (step_as s made)
        by steps.Made q =
            let added : HasNew (IsStepOf frame.world was is) note.knows.known back.knows.known = did.made_one q in
            record {
              moved = has_moved;
              entry = added.entry;
              after = one_more note.knows.known seen.knows.known its_all.numbered did.all.numbered knew_all few_more added.entry (did.saw added.entry added.has) added.past;
              own = own_entry frame.world was is added.entry added.is;
              may = made_rightly table tokens frame was is before after added.entry (history_in frame.world old) ((its n was at).member open_flag) ((its n was at).going open_flag) did.rounds added.is (core.come n was at);
              at_end = sym its_all.count;
              finished = ap (finished_after finished n) q;
            }
        by steps.Waits q = record {
          moved = has_moved;
          same = same_known (ap (length_after made) q);
          finished = ap (finished_after finished n) q;
          note = note;
          has_note = refl;
          back = back;
          knew = did.knew;
          knows = did.saw;
          why = did.waits q;
          may = waits_rightly table tokens frame was is note back before after (history_in frame.world old) (its n was at).keeps.keeps ((its n was at).member open_flag) ((its n was at).going open_flag) did.rounds (did.waits q) (core.come n was at);
        }
        by steps.Finished q = inr (record {
          moved = has_moved;
          same = same_known (ap (length_after made) q);
          ended = did.ended q;
          may = ends_rightly table tokens frame was is note back before after (history_in frame.world old) (its n was at).keeps.keeps did.keeps.keeps did.style ((its n was at).member open_flag) did.member ((its n was at).going open_flag) did.rounds (did.none (λ f. other_step (sym q ∙ f))) (did.ended q) (core.come n was at);
          finished = ap (finished_after finished n) q;
        })

    -- the same where the flags and the count are told otherwise
    pub core_after : (flags : List Bool) (expected : ℕ) → flags ≡ finished_after finished n step → expected ≡ length_after made step → IsNetCore table tokens frame (record { actors = set actors n is; finished = flags; rounds = after; note = Some seen }) expected
    core_after flags expected flags_are expected_is =
        subst (λ (k : ℕ). IsNetCore table tokens frame (record { actors = set actors n is; finished = flags; rounds = after; note = Some seen }) k) (sym expected_is)
        (subst (λ (l : List Bool). IsNetCore table tokens frame (record { actors = set actors n is; finished = l; rounds = after; note = Some seen }) (length_after made step)) (sym flags_are) still_core)

    pub step_after : (flags : List Bool) (result : CoreStep) → flags ≡ finished_after finished n step → result ≡ step_as step made → IsNetStep table tokens frame old n (record { actors = set actors n is; finished = flags; rounds = after; note = Some seen }) result
    step_after flags result flags_are result_is =
        subst (λ (r : CoreStep). IsNetStep table tokens frame old n (record { actors = set actors n is; finished = flags; rounds = after; note = Some seen }) r) (sym result_is)
        (subst (λ (l : List Bool). IsNetStep table tokens frame old n (record { actors = set actors n is; finished = l; rounds = after; note = Some seen }) (step_as step made)) (sym flags_are) has_stepped)

-- an actor is about to make a step, for which something is left
pub record IsAt (table tokens : TableId) (frame : Frame Plan) (actors : List SteppedActor) (finished : List Bool) (members : List Member) (note : Held Content Plan) (made n : ℕ) (was : SteppedActor) : Type 0 where
  pub core : IsNetCore table tokens frame (record { actors = actors; finished = finished; rounds = members; note = Some note }) made
  pub at : slice_get actors n ≡ Some was
  pub left : IsOver (record { actors = actors; finished = finished; rounds = members; note = Some note }) n → ⊥

module _ (table tokens : TableId) (frame : Frame Plan) (actors : List SteppedActor) (finished : List Bool) (members : List Member) (note : Held Content Plan) (made n : ℕ) (was : SteppedActor) where
  pub at_here : (o : Option (Held Content Plan)) → IsNetCore table tokens frame (record { actors = actors; finished = finished; rounds = members; note = o }) made → o ≡ Some note → n < actors_of frame.world.platform → was ≡ get_or actors n was
      → (over : Bool) → over ≡ false → (now : NetView) → record { actors = actors; finished = finished; rounds = members; note = o } ≡ now → (IsOver now n → over ≡ true) → IsAt table tokens frame actors finished members note made n was
  at_here o core is below here over not_over now same told = record {
    core = subst (λ (x : Option (Held Content Plan)). IsNetCore table tokens frame (record { actors = actors; finished = finished; rounds = members; note = x }) made) is core;
    at = slice_get-get_or actors n was (let c = core.count in omega arith) ∙ ap (λ (a : SteppedActor). Some a) (sym here);
    left = λ it_is. absurd (false≢true (sym not_over ∙ told (subst (λ (v : NetView). IsOver v n) same it_is)));
  }

  module _ (is : IsAt table tokens frame actors finished members note made n was) where
    abbrev view : NetView
    view = record { actors = actors; finished = finished; rounds = members; note = Some note }

    pub actor_here : IsActor table tokens frame view note n was
    actor_here = subst (λ (m : Held Content Plan). IsActor table tokens frame view m n was) (by is.core.has_note) (is.core.each n was is.at)
      where
        by : {x y : Held Content Plan} → Some x ≡ Some y → y ≡ x
        by q = cc

    pub member_here : IsMember members was
    member_here = actor_here.member (still_going view n is.left)

    pub going_here : IsGoing was
    going_here = actor_here.going (still_going view n is.left)

    pub flag_here : is_node was ≡ false → n < length finished
    flag_here initiator = let a = actor_here.among initiator in let f = is.core.flags in omega arith
