-- How far the initiators of a core have come.
use Rattle.std.proofs.lemmas.Bool.{false≢true}
use Rattle.std.proofs.Common.{◌≡◌, ℕ, zero, suc, ◌+◌, ◌<◌, ◌≤◌, false, List, [], ◌∷◌, ◌++◌, length, take, Some, refl, sym, ap, subst, ◌∙◌, inl, inr, arith, length-append, true}
use Rattle.std.specs.Prelude.{slice_get}
use Rattle.atomic_table.specs.Seated.{TableId}
use Rattle.one_history.specs.declared.view.Frame.{Frame}
use Rattle.tlm_types.specs.declared.ends.EndOf.{EndOf}
use Rattle.tlm_model.specs.declared.platform.Platform.{Platform}
use Rattle.tlm_model.specs.Plan.{Plan, Initiator, initiators_of}
use Rattle.good_history.specs.Good.{IsSound}
use Rattle.report_model.specs.Ends.{IsEndOf}
use Rattle.run_outcome.proofs.ListLemmas.{at_push, at_taken, has_element, take_next, within}
use Rattle.stepped_actors.specs.declared.actor.SteppedActor.{SteppedActor}
use Rattle.stepped_actors.specs.declared.actor.SteppedActor.TheVariants.{Decoupled, FourPhase, Router, Memory}
use Rattle.stepped_actors.specs.Actors.{is_node, number_of}
use Rattle.stepped_actors.specs.Ends.{IsSoFar}
use Rattle.plat_core.specs.NetCore.{IsActor, IsNetCore, NetView, history_in}
use Rattle.plat_core.specs.NetRuns.{HasComeBy}
use Rattle.plat_core.specs.Rounds.{is_decoupled}
use Rattle.plat_core.specs.NetEnds.{AreEndsOf, AreInitiators}
use Rattle.plat_core.specs.NetOutcome.{AreEndsSoFar}
use Rattle.plat_core.proofs.NetRuns.{of_decoupled, same_initiator}
use Rattle.plat_core.proofs.PartEnds.{end_by_part}
use Rattle.plat_core.proofs.StepRounds.{of_port}

-- one more end
one_end_more : (actors : List SteppedActor) (ends : List EndOf) (a : SteppedActor) (end : EndOf) → IsSoFar a end → AreEndsOf actors ends → AreEndsOf (actors ++ a ∷ []) (ends ++ end ∷ [])
one_end_more actors ends a end is are = record {
  count = length-append ends (end ∷ []) ∙ (ap (λ (n : ℕ). n + 1) are.count ∙ sym (length-append actors (a ∷ [])));
  each = λ k b e at_actor at_end.
      let same = are.count in
      elim (at_push actors a k b at_actor) [
        | inl early ↦ elim (at_push ends end k e at_end) [
          | inl soon ↦ are.each k b e early soon
          | inr late ↦ let less = within actors k b early in let q = late.0 in absurd (omega arith)
        ]
        | inr last ↦ elim (at_push ends end k e at_end) [
          | inl soon ↦ let less = within ends k e soon in let q = last.0 in absurd (omega arith)
          | inr late ↦ subst (λ (x : EndOf). IsSoFar b x) late.1 (subst (λ (x : SteppedActor). IsSoFar x end) last.1 is)
        ]
      ];
}

pub ends_more : (actors : List SteppedActor) (k : ℕ) (ends more : List EndOf) (a : SteppedActor) (end : EndOf) → slice_get actors k ≡ Some a → more ≡ ends ++ end ∷ [] → IsSoFar a end → AreEndsOf (take k actors) ends → AreEndsOf (take (k + 1) actors) more
ends_more actors k ends more a end at pushed is are =
    subst (λ (l : List EndOf). AreEndsOf (take (k + 1) actors) l) (sym pushed)
    (subst (λ (l : List SteppedActor). AreEndsOf l (ends ++ end ∷ [])) (sym (take_next actors k a at)) (one_end_more (take k actors) ends a end is are))

pub no_ends : (actors : List SteppedActor) (ends : List EndOf) → ends ≡ [] → AreEndsOf (take 0 actors) ends
no_ends actors ends none = subst (AreEndsOf (take 0 actors)) (sym none) (record { count = refl; each = λ k a e at at_end. nothing k e at_end })
  where
    nothing : {A : Type 0} (k : ℕ) (e : EndOf) → slice_get [] k ≡ Some e → A
    nothing k e at = cc

-- the first actors are the initiators
no_node : (p : Platform) (k : ℕ) (a : SteppedActor) → number_of p a ≡ k → k < length p.initiators → is_node a ≡ false
no_node p k (Decoupled s) number less = refl
no_node p k (FourPhase s) number less = refl
no_node p k (Router s) number less = absurd (omega arith)
no_node p k (Memory s) number less = absurd (omega arith)

module _ (table tokens : TableId) (frame : Frame Plan) (v : NetView) (made : ℕ) (core : IsNetCore table tokens frame v made) where
  pub enough_actors : length v.finished ≤ length v.actors
  enough_actors = let a = core.count in let b = core.flags in omega arith

  taken_count : (n : ℕ) (xs : List SteppedActor) → n ≤ length xs → length (take n xs) ≡ n
  taken_count zero xs few = refl
  taken_count (suc n) [] few = absurd (omega arith)
  taken_count (suc n) (x ∷ xs) few = ap suc (taken_count n xs (omega arith))

  pub are_initiators : AreInitiators (take (length v.finished) v.actors)
  are_initiators k a at =
      let short = within (take (length v.finished) v.actors) k a at in
      let here : slice_get v.actors k ≡ Some a = sym (at_taken (length v.finished) v.actors k short) ∙ at in
      let count = taken_count (length v.finished) v.actors enough_actors in
      let flags = core.flags in
      no_node frame.world.platform k a (core.each k a here).number (omega arith)

  -- the end of one that has finished
  ended_so : (n : ℕ) (i : Initiator) (end : EndOf) (a : SteppedActor) → IsActor table tokens frame v core.its_note n a → HasComeBy frame.world (history_in frame.world v) a → IsSoFar a end → slice_get v.finished n ≡ Some true → slice_get (initiators_of frame.world) n ≡ Some i → is_decoupled i.row.style ≡ true
      → IsSound frame.world (history_in frame.world v) → IsEndOf frame.world i (history_in frame.world v) end
  ended_so n i end (Decoupled s) is come so_far flag at style sound =
      let here : slice_get (initiators_of frame.world) s.run.engine.initiator ≡ Some i = ap (slice_get (initiators_of frame.world)) is.number ∙ at in
      let of = of_decoupled table tokens frame s core.its_note is.keeps.keeps in
      end_by_part frame.world (history_in frame.world v) n i s.run end at style sound (come i here) (of.ended (is.ended flag)) so_far
  ended_so n i end (FourPhase s) is come so_far flag at style sound =
      let of = of_port table tokens frame s core.its_note is.keeps.keeps in
      let same : of.initiator ≡ i = same_initiator frame.world n of.initiator i (ap (slice_get (initiators_of frame.world)) (sym is.number) ∙ of.is) at in
      absurd (false≢true (sym (ap is_decoupled (ap (λ (j : Initiator). j.row.style) (sym same) ∙ of.style)) ∙ style))
  ended_so n i end (Router s) is come so_far flag at style sound = absurd so_far
  ended_so n i end (Memory s) is come so_far flag at style sound = absurd so_far

  pub ends_are : (ends : List EndOf) → AreEndsOf (take (length v.finished) v.actors) ends → AreEndsSoFar frame.world v ends
  ends_are ends are = record {
    count = are.count ∙ (taken_count (length v.finished) v.actors enough_actors ∙ core.flags);
    each = λ sound n i end flag at style here.
        let below : n < length v.finished = within v.finished n true flag in
        let few = enough_actors in
        let found = has_element v.actors n (omega arith) in
        let count = taken_count (length v.finished) v.actors enough_actors in
        let taken : slice_get (take (length v.finished) v.actors) n ≡ Some found.element = at_taken (length v.finished) v.actors n (omega arith) ∙ found.at in
        ended_so n i end found.element (core.each n found.element found.at) (core.come n found.element found.at) (are.each n found.element end taken here) flag at style sound;
  }
