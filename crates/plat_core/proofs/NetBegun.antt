-- A core over a net before its first step.
use Rattle.std.proofs.Common.{◌≡◌, ◌≢◌, ℕ, zero, suc, ◌+◌, ◌<◌, ◌≤◌, Bool, true, false, List, [], length, replicate, Some, refl, sym, ap, subst, ◌∙◌, ⊎_elim, arith}
use Rattle.std.specs.Prelude.{slice_get}
use Rattle.std.proofs.lemmas.Bool.{cases_eq}
use Rattle.std.proofs.lemmas.List.{get_or-replicate, length-replicate}
use mathlib.Core.Option.{some-ne-none}
use Rattle.atomic_table.specs.Seated.{TableId}
use Rattle.one_history.specs.declared.entry.Entry.{Entry as HistoryEntry}
use Rattle.one_history.specs.declared.view.Frame.{Frame}
use Rattle.one_history.specs.Closing.{Numbered}
use Rattle.one_history.specs.Held.{Held}
use Rattle.tlm_types.specs.declared.entry.Content.{Content}
use Rattle.tlm_model.specs.Plan.{Plan}
use Rattle.time_board.specs.declared.rounds.Member.{Member}
use Rattle.time_board.specs.Rounds.{member_of, new_member}
use Rattle.initiator_run.proofs.BoardLemmas.{at_round, member_other, member_set}
use Rattle.plat_build.specs.Kept.{IsBlank}
use Rattle.run_outcome.proofs.ListLemmas.{length-set'}
use Rattle.stepped_actors.specs.declared.actor.SteppedActor.{SteppedActor}
use Rattle.stepped_actors.specs.declared.actor.SteppedActor.TheVariants.{Decoupled, FourPhase, Router, Memory}
use Rattle.stepped_actors.specs.Actors.{IsGoing, IsMember}
use Rattle.stepped_actors.specs.Begin.{HasBegun, HaveBegun, IsFresh, actors_of}
use Rattle.plat_end.specs.Entries.{entries_read}
use Rattle.plat_core.proofs.NetRounds.{none_stands}
use Rattle.plat_core.proofs.NetRuns.{at_nothing, come_begun}
use Rattle.plat_core.specs.NetCore.{AreBegunRounds, IsBegunMember, IsNetCore, left_out}

flag_begun : (n k : ℕ) → slice_get (replicate n false) k ≡ Some true → ⊥
flag_begun zero k is = cc
flag_begun (suc n) zero is = cc
flag_begun (suc n) (suc k) is = flag_begun n k is

none_numbered : (known : List (HistoryEntry Content)) → known ≡ [] → Numbered known
none_numbered known none = subst Numbered (sym none) (λ k e at. absurd (some-ne-none e (sym at)))

going_begun : (a : SteppedActor) → IsFresh a → IsGoing a
going_begun (Decoupled s) fresh = fresh.2
going_begun (FourPhase s) fresh = tt
going_begun (Router s) fresh = tt
going_begun (Memory s) fresh = tt

module _ (table tokens : TableId) (frame : Frame Plan) (members : List Member) where
  member_begun : (k : ℕ) (a : SteppedActor) → HasBegun table tokens frame k a → IsBegunMember members k a → IsMember members a
  member_begun k (Decoupled s) begun is =
      let r = s.run in
      record {
        member = ap (member_of members) begun.number_is ∙ (is ∙ (ap (λ (n : ℕ). at_round n false) (sym begun.fresh.1) ∙ ap (at_round r.round) (sym begun.fresh.2)));
        reached = let round = begun.fresh.1 in omega arith;
        ahead = let syncs = begun.fresh.0 in omega arith;
        through = λ f. begun.fresh.1 ∙ sym begun.fresh.0;
      }
  member_begun k (FourPhase s) begun is = ap (λ (n : ℕ). (member_of members n).finished) begun.number_is ∙ is
  member_begun k (Router s) begun is = tt
  member_begun k (Memory s) begun is = tt

-- a router or a memory takes part in no round
known_member : (table tokens : TableId) (frame : Frame Plan) (members : List Member) (actors : List SteppedActor) (count : ℕ) → count ≡ length frame.world.platform.initiators → AreBegunRounds actors count members → (k : ℕ) (a : SteppedActor) → slice_get actors k ≡ Some a → HasBegun table tokens frame k a → IsBegunMember members k a
known_member table tokens frame members actors count all rounds k (Decoupled s) at begun = rounds.each k (Decoupled s) (let low = begun.among refl in omega arith) at
known_member table tokens frame members actors count all rounds k (FourPhase s) at begun = rounds.each k (FourPhase s) (let low = begun.among refl in omega arith) at
known_member table tokens frame members actors count all rounds k (Router s) at begun = tt
known_member table tokens frame members actors count all rounds k (Memory s) at begun = tt

pub core_begun : (table tokens : TableId) (frame : Frame Plan) (actors : List SteppedActor) (finished : List Bool) (members : List Member) (note : Held Content Plan) (count : ℕ) → HaveBegun table tokens frame actors → length actors ≡ actors_of frame.world.platform → IsBlank table note
    → count ≡ length frame.world.platform.initiators → AreBegunRounds actors count members → finished ≡ replicate count false → IsNetCore table tokens frame (record { actors = actors; finished = finished; rounds = members; note = Some note }) 0
core_begun table tokens frame actors finished members note count begun many blank all rounds flags = record {
  its_note = note;
  has_note = refl;
  note_of = blank.is_note;
  all = record { numbered = none_numbered note.knows.known blank.known; seen = blank.seen ∙ sym none; count = none };
  count = many;
  flags = ap length flags ∙ (length-replicate count false ∙ all);
  members = rounds.members_count ∙ all;
  each = λ k a at.
      let b = begun k a at in
      record {
        number = b.number_is;
        among = b.among;
        keeps = b.keeps note blank;
        ended = λ told. absurd (flag_begun count k (subst (λ (l : List Bool). slice_get l k ≡ Some true) flags told));
        going = λ not_told. going_begun a b.fresh;
        member = λ not_told. member_begun table tokens frame members k a b (known_member table tokens frame members actors count all rounds k a at b);
      };
  close = λ k j unfinished. let low = rounds.low k in omega arith;
  rounds = none_stands frame.world (entries_read frame.world.platform note.knows.known) members (ap (entries_read frame.world.platform) blank.known);
  come = λ k a at. come_begun frame.world a note.knows.known blank.known (at_nothing frame.world a (begun k a at).at_start);
}
  where
    none : length note.knows.known ≡ 0
    none = ap length blank.known

-- rounds in which the four-phase ones among the first actors are left out
pub record AreLeftOut (actors : List SteppedActor) (count n : ℕ) (members : List Member) : Type 0 where
  pub members_count : length members ≡ count
  pub low : (k : ℕ) → (member_of members k).round ≡ 0
  pub each : (k : ℕ) (a : SteppedActor) → k < n → slice_get actors k ≡ Some a → IsBegunMember members k a
  pub later : (k : ℕ) → n ≤ k → k < count → member_of members k ≡ new_member

low_begun : (n k : ℕ) → (member_of (replicate n new_member) k).round ≡ 0
low_begun zero k = refl
low_begun (suc n) zero = refl
low_begun (suc n) (suc k) = low_begun n k

pub none_left_out : (actors : List SteppedActor) (count : ℕ) (members : List Member) → members ≡ replicate count new_member → AreLeftOut actors count 0 members
none_left_out actors count members new = subst (AreLeftOut actors count 0) (sym new) (record {
  members_count = length-replicate count new_member;
  low = low_begun count;
  each = λ k a less at. absurd (omega arith);
  later = λ k from less. get_or-replicate count k new_member (record { round = 0; finished = true }) less;
})

left_member : (members : List Member) (n : ℕ) (a : SteppedActor) → n < length members → member_of members n ≡ new_member → IsBegunMember (left_out members n a) n a
left_member members n (Decoupled s) less new = new
left_member members n (FourPhase s) less new = ap (λ (m : Member). m.finished) (member_set members n (record { round = (member_of members n).round; finished = true }) less)
left_member members n (Router s) less new = tt
left_member members n (Memory s) less new = tt

left_other : (members : List Member) (n k : ℕ) (a : SteppedActor) → k ≢ n → member_of (left_out members n a) k ≡ member_of members k
left_other members n k (FourPhase s) apart = member_other members n k (record { round = (member_of members n).round; finished = true }) apart
left_other members n k (Decoupled s) apart = refl
left_other members n k (Router s) apart = refl
left_other members n k (Memory s) apart = refl

left_count : (members : List Member) (n : ℕ) (a : SteppedActor) → length (left_out members n a) ≡ length members
left_count members n (FourPhase s) = length-set' members n (record { round = (member_of members n).round; finished = true })
left_count members n (Decoupled s) = refl
left_count members n (Router s) = refl
left_count members n (Memory s) = refl

left_low : (members : List Member) (n : ℕ) (a : SteppedActor) → n < length members → ((k : ℕ) → (member_of members k).round ≡ 0) → (k : ℕ) → (member_of (left_out members n a) k).round ≡ 0
left_low members n (FourPhase s) less low k = ⊎_elim
    (λ (same : k ≡ n). ap (λ (j : ℕ). (member_of (left_out members n (FourPhase s)) j).round) same ∙ (ap (λ (m : Member). m.round) (member_set members n (record { round = (member_of members n).round; finished = true }) less) ∙ low n))
    (λ (apart : k ≢ n). ap (λ (m : Member). m.round) (left_other members n k (FourPhase s) apart) ∙ low k)
    (cases_eq k n)
left_low members n (Decoupled s) less low k = low k
left_low members n (Router s) less low k = low k
left_low members n (Memory s) less low k = low k

begun_member_same : (members after : List Member) (k : ℕ) (a : SteppedActor) → member_of after k ≡ member_of members k → IsBegunMember members k a → IsBegunMember after k a
begun_member_same members after k (Decoupled s) same is = same ∙ is
begun_member_same members after k (FourPhase s) same is = ap (λ (m : Member). m.finished) same ∙ is
begun_member_same members after k (Router s) same is = tt
begun_member_same members after k (Memory s) same is = tt

pub one_left_out : (actors : List SteppedActor) (count n : ℕ) (members after : List Member) (a : SteppedActor) → n < count → slice_get actors n ≡ Some a → after ≡ left_out members n a → AreLeftOut actors count n members → AreLeftOut actors count (n + 1) after
one_left_out actors count n members after a less here is are = subst (AreLeftOut actors count (n + 1)) (sym is) (record {
  members_count = left_count members n a ∙ are.members_count;
  low = left_low members n a below are.low;
  each = λ k b early at. ⊎_elim
      (λ (same : k ≡ n).
      let that : a ≡ b = same_actor (sym here ∙ (ap (slice_get actors) (sym same) ∙ at)) in
      subst (IsBegunMember (left_out members n a) k) that (subst (λ (j : ℕ). IsBegunMember (left_out members n a) j a) (sym same) (left_member members n a below (are.later n (omega arith) less))))
      (λ (apart : k ≢ n). begun_member_same members (left_out members n a) k b (left_other members n k a apart) (are.each k b (omega arith) at))
      (cases_eq k n);
  later = λ k from more. left_other members n k a (λ same. omega arith) ∙ are.later k (omega arith) more;
})
  where
    below : n < length members
    below = let c = are.members_count in omega arith

    same_actor : {x y : SteppedActor} → Some x ≡ Some y → x ≡ y
    same_actor q = cc

pub all_left_out : (actors : List SteppedActor) (count : ℕ) (members : List Member) → AreLeftOut actors count count members → AreBegunRounds actors count members
all_left_out actors count members are = record { members_count = are.members_count; low = are.low; each = are.each }
