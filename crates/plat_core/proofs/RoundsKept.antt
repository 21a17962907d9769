-- The runs of a core and their rounds, as one of them goes on.
use Rattle.std.proofs.Common.{◌≡◌, ◌≢◌, ℕ, zero, suc, ◌+◌, ◌≤◌, inl, inr, List, [], ◌∷◌, ◌++◌, length, map, set, replicate, Some, Bool, true, false, nat_eq, refl, ap, sym, subst, ◌∙◌, ⊎_elim, arith}
use Rattle.std.specs.List.{AllByRecursion}
use Rattle.std.specs.Prelude.{slice_get}
use Rattle.std.proofs.lemmas.List.{get_or-replicate, length-replicate}
use Rattle.std.proofs.lemmas.Bool.{cases_eq, false≢true}
use Rattle.std.proofs.lemmas.Bool.Decides.{nat_tests}
use Rattle.tlm_types.specs.declared.entry.Entry.{Entry}
use Rattle.tlm_model.specs.Plan.{Plan, Initiator, initiators_of}
use Rattle.tlm_model.proofs.EachLemmas.{AtEach-push}
use Rattle.tlm_model.proofs.HistoryLemmas.{AllByRecursion-push, AllByRecursion-weaker}
use Rattle.time_board.specs.declared.rounds.Member.{Member}
use Rattle.time_board.specs.Rounds.{AreClose, member_of, new_member}
use Rattle.plat_core.specs.Board.{AreInRounds}
use Rattle.initiator_run.specs.Board.{HasGoneOn, IsInRound, IsNear}
use Rattle.plat_core.specs.Core.{are_finished, begun_run, no_runs}
use Rattle.plat_core.specs.Rounds.{round_at}
use Rattle.initiator_run.specs.Run.{Run}
use Rattle.plat_core.proofs.BoardLemmas.{HasMember, has_member, near_after}
use Rattle.initiator_run.proofs.BoardLemmas.{IsInRound-gone, at_round}
use Rattle.run_outcome.proofs.ListLemmas.{at_set, length-set', within}

pub differs : (a b : ℕ) → nat_eq a b ≡ false → a ≢ b
differs a b is = grind (arith, nat_tests)

same_member : (members after : List Member) (k : ℕ) (r : Run) → member_of after k ≡ member_of members k → IsInRound members k r → IsInRound after k r
same_member members after k r same is = record { member = same ∙ is.member; reached = is.reached; ahead = is.ahead; through = is.through }

each_after : (members after : List Member) (runs : List Run) (k : ℕ) (old new : Run) → HasMember members after k old new → IsInRound after k new
    → ((j : ℕ) (r : Run) → slice_get runs j ≡ Some r → IsInRound members j r) → (j : ℕ) (r : Run) → slice_get (set runs k new) j ≡ Some r → IsInRound after j r
each_after members after runs k old new has own each j r at =
    elim (at_set runs k j new r at) [
      | inl same ↦ subst (IsInRound after j) same.1 (subst (λ (n : ℕ). IsInRound after n new) (sym same.0) own)
      | inr other ↦ same_member members after j r (has.others j (differs j k other.0)) (each j r other.1)
    ]

pub close_after : (members after : List Member) (k : ℕ) (old new : Run) → HasMember members after k old new → HasGoneOn old new members after → ((j : ℕ) → IsNear members (member_of members j).round) → (j : ℕ) → IsNear after (member_of after j).round
close_after members after k old new has gone close j =
    ⊎_elim
    (λ (same : j ≡ k). subst (IsNear after) (sym (ap (λ (n : ℕ). (member_of after n).round) same ∙ ap (λ (m : Member). m.round) has.now)) gone.near)
    (λ (other : j ≢ k).
    let that = ap (λ (m : Member). m.round) (has.others j other) in
    near_after members after k old new (member_of after j).round has gone.more (subst (IsNear members) (sym that) (close j)))
    (cases_eq j k)

-- a run has gone on without an entry
pub rounds_moved : (p : Plan) (h : List Entry) (runs : List Run) (members after : List Member) (k : ℕ) (old new : Run) → AreInRounds p h runs members → slice_get runs k ≡ Some old → old.engine.initiator ≡ k → old.finished ≡ false → HasGoneOn old new members after → (new.finished ≡ true → new.round ≡ new.syncs) → AreInRounds p h (set runs k new) after
rounds_moved p h runs members after k old new are at mine going gone through =
    let is = are.each k old at in
    let has = has_member members after k old new mine is going gone in
    let was = subst (λ (n : ℕ). IsInRound members n old) (sym mine) is in
    record {
      count = ap length has.set ∙ (length-set' members k (at_round new.round new.finished) ∙ (are.count ∙ sym (length-set' runs k new)));
      each = each_after members after runs k old new has (subst (λ (n : ℕ). IsInRound after n new) mine (IsInRound-gone old new members after was going gone through)) are.each;
      close = close_after members after k old new has gone are.close;
      near = AllByRecursion-weaker (λ (e : Entry). IsNear members (round_at p e)) (λ (e : Entry). IsNear after (round_at p e)) h (λ e near. near_after members after k old new (round_at p e) has gone.more near) are.near;
      kept = are.kept;
    }

-- a run has made an entry in its round
pub rounds_entered : (p : Plan) (h : List Entry) (e : Entry) (runs : List Run) (members after : List Member) (k : ℕ) (old new : Run) → AreInRounds p h runs members → slice_get runs k ≡ Some old → old.engine.initiator ≡ k → old.finished ≡ false → new.finished ≡ false → HasGoneOn old new members after → round_at p e ≡ new.round → AreInRounds p (h ++ e ∷ []) (set runs k new) after
rounds_entered p h e runs members after k old new are at mine going still gone round =
    let moved = rounds_moved p h runs members after k old new are at mine going gone (λ f. absurd (false≢true (sym still ∙ f))) in
    let has = has_member members after k old new mine (are.each k old at) going gone in
    let own : (member_of after k).finished ≡ false = ap (λ (m : Member). m.finished) has.now ∙ still in
    let here : (member_of after k).round ≡ new.round = ap (λ (m : Member). m.round) has.now in
    record {
      count = moved.count;
      each = moved.each;
      close = moved.close;
      near = AllByRecursion-push (λ (x : Entry). IsNear after (round_at p x)) h e moved.near (subst (IsNear after) (sym round) gone.near);
      kept = AtEach-push (λ before x. AllByRecursion (λ (d : Entry). round_at p d ≤ round_at p x + 1) before) h e moved.kept
          (AllByRecursion-weaker (λ (d : Entry). IsNear after (round_at p d)) (λ (d : Entry). round_at p d ≤ round_at p e + 1) h (λ d near. omega (arith, near k own)) moved.near);
    }

-- the flags of the members are those of the runs
same_flags : (runs : List Run) (members : List Member) → length members ≡ length runs → ((k : ℕ) (r : Run) → slice_get runs k ≡ Some r → (member_of members k).finished ≡ r.finished) → map (λ (m : Member). m.finished) members ≡ are_finished runs
same_flags [] [] count each = refl
same_flags [] (m ∷ members) count each = absurd (omega arith)
same_flags (r ∷ runs) [] count each = absurd (omega arith)
same_flags (r ∷ runs) (m ∷ members) count each =
    ap (λ (b : Bool). b ∷ map (λ (x : Member). x.finished) members) (each 0 r refl)
    ∙ ap (λ (l : List Bool). r.finished ∷ l) (same_flags runs members (omega arith) (λ k x at. each (suc k) x at))

pub flags_agree : (p : Plan) (h : List Entry) (runs : List Run) (members : List Member) → AreInRounds p h runs members → map (λ (m : Member). m.finished) members ≡ are_finished runs
flags_agree p h runs members are = same_flags runs members are.count (λ k r at. ap (λ (m : Member). m.finished) (are.each k r at).member)

pub are_close : (p : Plan) (h : List Entry) (runs : List Run) (members : List Member) → AreInRounds p h runs members → AreClose members
are_close p h runs members are j k first second = are.close k j first

round_begun : (n k : ℕ) → (member_of (replicate n new_member) k).round ≡ 0
round_begun zero k = refl
round_begun (suc n) zero = refl
round_begun (suc n) (suc k) = round_begun n k

record IsBegun (r : Run) : Type 0 where
  pub round : r.round ≡ 0
  pub syncs : r.syncs ≡ 0
  pub going : r.finished ≡ false

run_begun : (p : Plan) (is : List Initiator) (k : ℕ) (r : Run) → slice_get (map (begun_run p) is) k ≡ Some r → IsBegun r
run_begun p [] k r at = cc
run_begun p (i ∷ is) zero r at = let same : begun_run p i ≡ r = cc in subst IsBegun same (record { round = refl; syncs = refl; going = refl })
run_begun p (i ∷ is) (suc k) r at = run_begun p is k r at

-- the rounds before the first step
pub rounds_begun : (p : Plan) (h : List Entry) (runs : List Run) (members : List Member) → runs ≡ no_runs p → h ≡ [] → members ≡ replicate (length runs) new_member → AreInRounds p h runs members
rounds_begun p h runs members none empty new = subst (λ (l : List Entry). AreInRounds p l runs members) (sym empty) (subst (AreInRounds p [] runs) (sym new) (record {
  count = length-replicate (length runs) new_member;
  each = λ k r at.
      let begun : IsBegun r = run_begun p (initiators_of p) k r (subst (λ (l : List Run). slice_get l k ≡ Some r) none at) in
      record {
        member = get_or-replicate (length runs) k new_member (record { round = 0; finished = true }) (within runs k r at) ∙ (ap (λ (n : ℕ). at_round n false) (sym begun.round) ∙ ap (at_round r.round) (sym begun.going));
        reached = omega (arith, begun.round);
        ahead = omega (arith, begun.syncs);
        through = λ f. begun.round ∙ sym begun.syncs;
      };
  close = λ k j unfinished. omega (arith, round_begun (length runs) k);
  near = tt;
  kept = tt;
}))
