-- How far a core has come.
use Rattle.std.proofs.Common.{◌≡◌, ℕ, zero, suc, ◌+◌, ◌*◌, ◌<◌, ◌≤◌, List, [], ◌∷◌, length, set, get_or, Some, Bool, true, false, ◌&&◌, cond, map, refl, ap, sym, subst, ◌∙◌, ⊎_elim, arith, add-zero, below_more, length-append}
use Rattle.std.specs.Prelude.{slice_get, sum_by}
use Rattle.std.proofs.lemmas.Bool.{cases_lt, false≢true}
use Rattle.std.proofs.lemmas.List.{length-map}
use Rattle.std.proofs.lemmas.List.Sums.{sum_by-cons, sum_by-set}
use Rattle.tlm_model.specs.Plan.{Plan}
use Rattle.region_object.specs.Region.{LoggedMemory}
use Rattle.time_board.specs.declared.rounds.Member.{Member}
use Rattle.time_board.specs.Rounds.{member_of}
use Rattle.time_board.proofs.Tallies.{unfinished_is_member}
use Rattle.initiator_run.specs.Access.{entry_made}
use Rattle.plat_core.specs.Board.{AreInRounds}
use Rattle.initiator_run.specs.Board.{HasGoneOn, IsInRound, IsWaiting}
use Rattle.plat_core.specs.Core.{CoreView, GoesOn, HasStopped, IsCore, IsStuck, all_true, are_finished, history_of, progress, rank}
use Rattle.plat_core.specs.declared.steps.CoreStep.{CoreStep}
use Rattle.plat_core.specs.declared.steps.CoreStep.TheVariants.{Made, Waits, Finished}
use Rattle.initiator_run.specs.Run.{Run}
use Rattle.initiator_run.specs.Turns.{HasMadeAccess, HasMovedToEnd, HasMovedToWait}
use Rattle.initiator_run.proofs.BeginLemmas.{proper_at, syncs_bound}
use Rattle.plat_core.proofs.BoardLemmas.{HasMember, has_member}
use Rattle.initiator_run.proofs.BoardLemmas.{absent, at_round, set_own}
use Rattle.plat_core.proofs.CoreLemmas.{few_history, finished_same, has_turn, history_made, initiator_at}
use Rattle.run_outcome.proofs.ListLemmas.{has_element, length-set'}
use Rattle.plat_core.proofs.ViewLemmas.{view, view_is}

-- what a member that is set to another one leaves of the sum
ranks_set : (members after : List Member) (k : ℕ) (old new : Run) → HasMember members after k old new → sum_by rank after + old.round ≡ sum_by rank members + rank (at_round new.round new.finished)
ranks_set members after k old new has =
    let was : rank (get_or members k absent) ≡ old.round = ap rank has.was ∙ add-zero old.round in
    let sum = sum_by-set rank members k (at_round new.round new.finished) absent has.within in
    let now = ap (sum_by rank) has.set in
    omega arith

flags_stay : (runs : List Run) (k : ℕ) (new : Run) → length (are_finished (set runs k new)) ≡ length (are_finished runs)
flags_stay runs k new = length-map (set runs k new) (λ (r : Run). r.finished) ∙ (length-set' runs k new ∙ sym (length-map runs (λ (r : Run). r.finished)))

-- a run that has gone on, and how many entries there are then
pub record HasProgress (p : Plan) (runs : List Run) (regions later : List LoggedMemory) (members after : List Member) (k : ℕ) (old new : Run) : Type 0 where
  pub goes : GoesOn (view p regions runs members) (view p later (set runs k new) after)
  pub exact : progress (view p later (set runs k new) after) + old.round + length (history_of regions) ≡ progress (view p regions runs members) + rank (at_round new.round new.finished) + length (history_of later)

has_progress : (p : Plan) (runs : List Run) (regions later : List LoggedMemory) (members after : List Member) (k : ℕ) (old new : Run) → HasMember members after k old new → old.round ≤ new.round → length (history_of regions) ≤ length (history_of later) → HasProgress p runs regions later members after k old new
has_progress p runs regions later members after k old new has more longer =
    let ranks = ranks_set members after k old new has in
    record {
      goes = record { plan = refl; flags = flags_stay runs k new; more = omega arith };
      exact = omega arith;
    }

member_of_run : (p : Plan) (runs : List Run) (regions : List LoggedMemory) (members after : List Member) (made k : ℕ) (old new : Run) → IsCore p runs regions made → AreInRounds p (history_of regions) runs members → slice_get runs k ≡ Some old → old.finished ≡ false → HasGoneOn old new members after → HasMember members after k old new
member_of_run p runs regions members after made k old new core are at going gone =
    let turn = has_turn p runs regions made k old core at in
    has_member members after k old new (turn.own.come.counted.number ∙ turn.number) (are.each k old at) going gone

-- after an entry
pub goes_made : (p : Plan) (runs : List Run) (regions later : List LoggedMemory) (members after : List Member) (made k : ℕ) (old new : Run) → IsCore p runs regions made → AreInRounds p (history_of regions) runs members → slice_get runs k ≡ Some old → old.finished ≡ false → HasMadeAccess p old new regions later made → HasGoneOn old new members after
    → GoesOn (view p regions runs members) (view p later (set runs k new) after) × HasStopped (view p regions runs members) k (view p later (set runs k new) after) (Made made)
goes_made p runs regions later members after made k old new core are at going is gone =
    let has = member_of_run p runs regions members after made k old new core are at going gone in
    let one : length (history_of later) ≡ length (history_of regions) + 1 =
    ap length (history_made p old new regions later made core.sound.requests.numbered core.count is) ∙ length-append (history_of regions) (entry_made is.middle is.transfer is.region is.route made ∷ []) in
    let made = has_progress p runs regions later members after k old new has gone.more (omega arith) in
    (made.goes, omega (arith, made.exact, gone.more))

-- after moves without an entry
pub goes_moved : (p : Plan) (runs : List Run) (regions later : List LoggedMemory) (members after : List Member) (made k : ℕ) (old new : Run) → IsCore p runs regions made → AreInRounds p (history_of regions) runs members → slice_get runs k ≡ Some old → old.finished ≡ false → history_of later ≡ history_of regions → HasGoneOn old new members after
    → GoesOn (view p regions runs members) (view p later (set runs k new) after)
goes_moved p runs regions later members after made k old new core are at going same gone =
    let has = member_of_run p runs regions members after made k old new core are at going gone in
    let size = ap length same in
    (has_progress p runs regions later members after k old new has gone.more (omega arith)).goes

-- after the end of a script
pub stops_ended : (p : Plan) (runs : List Run) (regions later : List LoggedMemory) (members after : List Member) (made k : ℕ) (old new : Run) → IsCore p runs regions made → AreInRounds p (history_of regions) runs members → slice_get runs k ≡ Some old → old.finished ≡ false → HasMovedToEnd p old new regions later → HasGoneOn old new members after
    → HasStopped (view p regions runs members) k (view p later (set runs k new) after) Finished
stops_ended p runs regions later members after made k old new core are at going is gone =
    let has = member_of_run p runs regions members after made k old new core are at going gone in
    let size = ap (λ (r : List LoggedMemory). length (history_of r)) is.same in
    let made = has_progress p runs regions later members after k old new has gone.more (omega arith) in
    let own : rank (at_round new.round new.finished) ≡ new.round + 1 = ap (λ (f : Bool). rank (at_round new.round f)) is.ended.finished in
    λ less. absurd (omega (arith, made.exact, gone.more))

-- where an initiator waits
pub stops_waited : (p : Plan) (runs : List Run) (regions later : List LoggedMemory) (members after : List Member) (made k : ℕ) (old new : Run) → IsCore p runs regions made → AreInRounds p (history_of regions) runs members → slice_get runs k ≡ Some old → old.finished ≡ false → HasMovedToWait p old new after regions later → HasGoneOn old new members after
    → HasStopped (view p regions runs members) k (view p later (set runs k new) after) Waits
stops_waited p runs regions later members after made k old new core are at going is gone =
    let has = member_of_run p runs regions members after made k old new core are at going gone in
    let size = ap (λ (r : List LoggedMemory). length (history_of r)) is.same in
    let made = has_progress p runs regions later members after k old new has gone.more (omega arith) in
    let flag : new.finished ≡ false = is.finished ∙ going in
    let own : rank (at_round new.round new.finished) ≡ new.round = ap (λ (f : Bool). rank (at_round new.round f)) flag ∙ add-zero new.round in
    λ less.
    let round : new.round ≡ old.round = omega (arith, made.exact, gone.more) in
    let same : after ≡ members =
    has.set ∙ (ap (λ (n : ℕ). set members k (at_round n new.finished)) round ∙ (ap (λ (f : Bool). set members k (at_round old.round f)) flag ∙ set_own members k (at_round old.round false) has.was)) in (
      view_is p (history_of later) (history_of regions) (are_finished (set runs k new)) (are_finished runs) after members (ap history_of is.same) (finished_same runs k old new at is.finished) same,
      λ unfinished. stuck members after k old new has round same is.waiting,
    )
  where
    stuck : (members after : List Member) (k : ℕ) (old new : Run) → HasMember members after k old new → new.round ≡ old.round → after ≡ members → IsWaiting after new → (j : ℕ) × ((member_of members j).finished ≡ false) × ((member_of members j).round < (member_of members k).round)
    stuck members after k old new has round same waits =
        let there : member_of members waits.other ≡ member_of after waits.other = ap (λ (l : List Member). member_of l waits.other) (sym same) in
        let at = ap (λ (m : Member). m.round) there in
        let own = ap (λ (m : Member). m.round) has.was in
        let behind = waits.behind in
        (waits.other, ap (λ (m : Member). m.finished) there ∙ waits.unfinished, omega arith)

-- where an initiator had finished
pub stops_done : (p : Plan) (runs : List Run) (regions : List LoggedMemory) (members : List Member) (k : ℕ) (r : Run) → AreInRounds p (history_of regions) runs members → slice_get runs k ≡ Some r → r.finished ≡ true
    → HasStopped (view p regions runs members) k (view p regions runs members) Finished
stops_done p runs regions members k r are at done less = (refl, λ unfinished. absurd (false≢true (sym unfinished ∙ (ap (λ (m : Member). m.finished) (are.each k r at).member ∙ done))))

sum_bound : (members : List Member) (most : ℕ) → ((k : ℕ) → k < length members → rank (member_of members k) ≤ most) → sum_by rank members ≤ most * length members
sum_bound [] most each = omega arith
sum_bound (m ∷ members) most each = grind (arith, sum_by-cons rank m members, each 0 (omega arith), sum_bound members most (λ k below. each (suc k) (omega arith)))

-- a core can't go on for ever
pub few_steps : (p : Plan) (runs : List Run) (regions : List LoggedMemory) (members : List Member) (made : ℕ) → IsCore p runs regions made → AreInRounds p (history_of regions) runs members → progress (view p regions runs members) ≤ 20000000
few_steps p runs regions members made core are =
    omega (
      arith,
      few_history p runs regions made core,
      sum_bound members 100001 (λ k below. rank_few k (omega (arith, are.count))),
      are.count,
      core.run_count,
      core.valid.shape.bounded.initiator_count,
    )
  where
    rank_small : (members : List Member) (k most : ℕ) (r : Run) → IsInRound members k r → r.syncs ≤ most → rank (member_of members k) ≤ most + 1
    rank_small members k most r is few =
        let same : rank (member_of members k) ≡ r.round + cond r.finished 1 0 = ap rank is.member in
        let reached = is.reached in
        by_cases r.finished (rank (member_of members k)) same
      where
        by_cases : (b : Bool) (n : ℕ) → n ≡ r.round + cond b 1 0 → n ≤ most + 1
        by_cases true n same = let reached = is.reached in omega arith
        by_cases false n same = let reached = is.reached in omega arith

    rank_few : (k : ℕ) → k < length runs → rank (member_of members k) ≤ 100001
    rank_few k below =
        let i = initiator_at p runs regions made k core below in
        let found = has_element runs k below in
        let own = core.each_run k i.element found.element i.at found.at in
        let script = proper_at p core.valid k i.element i.at in
        rank_small members k 100000 found.element (are.each k found.element found.at)
        (omega (arith, own.come.counted.syncs, syncs_bound p.platform i.element 0 0 i.element.script, script.few))

-- nobody is stuck for ever
none_below : (members : List Member) → ((k : ℕ) → (member_of members k).finished ≡ false → IsStuck members k) → (n k : ℕ) → (member_of members k).finished ≡ false → (member_of members k).round < n → ⊥
none_below members each zero k unfinished below = absurd (omega arith)
none_below members each (suc n) k unfinished below =
    let behind = each k unfinished unfinished in
    none_below members each n behind.0 behind.1 (omega (arith, behind.2))

all_done : (members : List Member) → ((k : ℕ) → (member_of members k).finished ≡ false → ⊥) → all_true (map (λ (m : Member). m.finished) members) ≡ true
all_done [] each = refl
all_done (m ∷ members) each = by_cases m.finished refl (all_done members (λ k unfinished. each (suc k) unfinished))
  where
    by_cases : (b : Bool) → m.finished ≡ b → all_true (map (λ (x : Member). x.finished) members) ≡ true → all_true (map (λ (x : Member). x.finished) (m ∷ members)) ≡ true
    by_cases true is rest = ap (λ (b : Bool). b && all_true (map (λ (x : Member). x.finished) members)) is ∙ rest
    by_cases false is rest = absurd (each 0 is)

-- where each initiator has finished or waits, all have finished
pub all_stuck : (v : CoreView) → map (λ (m : Member). m.finished) v.rounds ≡ v.finished → ((k : ℕ) → k < length v.finished → IsStuck v.rounds k) → all_true v.finished ≡ true
all_stuck v agree each =
    let size : length v.rounds ≡ length v.finished = sym (length-map v.rounds (λ (m : Member). m.finished)) ∙ ap length agree in
    let stuck : (k : ℕ) → (member_of v.rounds k).finished ≡ false → IsStuck v.rounds k = λ k unfinished. each k (omega (arith, unfinished_is_member v.rounds k unfinished)) in
    sym (ap all_true agree) ∙ all_done v.rounds (λ k unfinished. none_below v.rounds stuck ((member_of v.rounds k).round + 1) k unfinished (omega arith))

pub GoesOn-same : (v : CoreView) → GoesOn v v
GoesOn-same v = record { plan = refl; flags = refl; more = omega arith }

pub GoesOn-then : (a b c : CoreView) → GoesOn a b → GoesOn b c → GoesOn a c
GoesOn-then a b c first second = record {
  plan = second.plan ∙ first.plan;
  flags = second.flags ∙ first.flags;
  more = omega (arith, first.more, second.more);
}

-- there has been progress, or nothing has changed
abbrev pub Progresses : CoreView → CoreView → Type 0
Progresses old new = progress new ≤ progress old → new ≡ old

-- after another step there has been progress, or nothing has changed, and the initiator is stuck
pub stops_then : (a b c : CoreView) (n : ℕ) (step : CoreStep) → GoesOn a b → GoesOn b c → Progresses a b → HasStopped b n c step → ((k : ℕ) → step ≡ Made k → ⊥) → progress c ≤ progress a → (c ≡ a) × IsStuck a.rounds n
stops_then a b c n (Made position) first second before stops other less = absurd (other position refl)
stops_then a b c n Waits first second before stops other less =
    let same = before (omega (arith, second.more)) in
    let here = stops (omega (arith, first.more)) in
    (here.0 ∙ same, subst (λ (v : CoreView). IsStuck v.rounds n) same here.1)
stops_then a b c n Finished first second before stops other less =
    let same = before (omega (arith, second.more)) in
    let here = stops (omega (arith, first.more)) in
    (here.0 ∙ same, subst (λ (v : CoreView). IsStuck v.rounds n) same here.1)

-- after an entry there has been progress
pub made_progress : (a b c : CoreView) (n position : ℕ) (step : CoreStep) → GoesOn a b → HasStopped b n c step → step ≡ Made position → progress b < progress c
made_progress a b c n position step first stops is = subst (HasStopped b n c) is stops

-- the first n initiators are stuck, unless there has been progress
pub record AreStuck (a b : CoreView) (n : ℕ) : Type 0 where
  pub goes : GoesOn a b
  pub stuck : progress b ≤ progress a → (b ≡ a) × ((k : ℕ) → k < n → IsStuck a.rounds k)

pub none_stuck : (v : CoreView) → AreStuck v v 0
none_stuck v = record { goes = GoesOn-same v; stuck = λ less. (refl, λ k below. absurd (omega (arith, below))) }

pub one_stuck : (a b c : CoreView) (n : ℕ) → AreStuck a b n → GoesOn b c → (progress c ≤ progress b → (c ≡ b) × IsStuck b.rounds n) → AreStuck a c (n + 1)
one_stuck a b c n are goes stops = record {
  goes = GoesOn-then a b c are.goes goes;
  stuck = λ less.
      let before = are.stuck (omega (arith, goes.more)) in
      let here = stops (omega (arith, are.goes.more)) in
      (here.0 ∙ before.0, below_more _ _ before.1 (subst (λ (v : CoreView). IsStuck v.rounds n) before.0 here.1));
}

-- where not all have finished, each round makes progress
pub round_progresses : (a b : CoreView) (n : ℕ) → map (λ (m : Member). m.finished) a.rounds ≡ a.finished → length a.finished ≤ n → AreStuck a b n → all_true a.finished ≡ false → progress a < progress b
round_progresses a b n agree all are unfinished =
    ⊎_elim
    (λ (more : progress a < progress b). more)
    (λ (less : progress b ≤ progress a). absurd (false≢true (sym unfinished ∙ all_stuck a agree (λ k below. (are.stuck less).1 k (omega arith)))))
    (cases_lt (progress a) (progress b))
