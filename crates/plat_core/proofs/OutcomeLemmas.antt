-- The outcome of a core, and of a whole run.
use Rattle.std.proofs.Common.{◌≡◌, ℕ, zero, suc, ◌+◌, ◌<◌, ◌≤◌, List, [], ◌∷◌, ◌++◌, length, map, take, get_or, Option, Some, true, refl, ap, sym, subst, ◌∙◌, arith}
use Rattle.std.specs.List.{AllByRecursion, list_all}
use Rattle.std.specs.Prelude.{slice_get, IsTrue, IsSomeAnd}
use Rattle.std.proofs.lemmas.List.{length-map}
use Rattle.std.proofs.lemmas.Option.{slice_get-get_or}
use Rattle.tlm_types.specs.declared.ends.EndOf.{EndOf}
use Rattle.tlm_types.specs.declared.words.ObjectNo.TheVariants.{Memory as memory_object}
use Rattle.tlm_model.specs.declared.platform.MemoryRow.{MemoryRow}
use Rattle.tlm_model.specs.History.{last_store}
use Rattle.tlm_model.specs.Log.{log_bytes}
use Rattle.tlm_model.specs.Plan.{Plan, Initiator, initiators_of}
use Rattle.tlm_model.specs.Requests.{requests_of}
use Rattle.tlm_model.specs.Scripts.{is_settled}
use Rattle.report_model.specs.Ends.{IsEndOf}
use Rattle.report_model.proofs.Ending.{ends_by_latencies}
use Rattle.good_history.specs.Good.{IsGood}
use Rattle.good_history.proofs.Ungranted.{sound_ends}
use Rattle.region_object.specs.Region.{LoggedMemory}
use Rattle.route_plan.specs.Planned.{logged_bytes, planned_at}
use Rattle.time_board.specs.declared.rounds.Member.{Member}
use Rattle.script_engine.proofs.Steps.{ends}
use Rattle.run_outcome.specs.declared.outcome.Outcome.{Outcome}
use Rattle.plat_core.specs.Board.{AreInRounds}
use Rattle.plat_core.specs.Core.{CoreView, IsCore, IsMemoryAt, all_true, are_finished, begun_core, history_of}
use Rattle.plat_core.specs.Fresh.{AreFresh, IsFresh}
use Rattle.plat_core.specs.Outcome.{HasFollowed, IsOutcome, IsScheduled, IsTurnOf}
use Rattle.initiator_run.specs.Run.{Run, end_at}
use Rattle.initiator_run.proofs.AnswerLemmas.{and_left, and_right}
use Rattle.initiator_run.proofs.EntryLemmas.{some_row, bytes_are}
use Rattle.run_outcome.proofs.PlanLemmas.{blocking_apart, blocking_at, no_direct, no_fourphase}
use Rattle.route_plan.proofs.ShareLemmas.{count_initiators}
use Rattle.initiator_run.proofs.EndLemmas.{HasCome-ended}
use Rattle.run_outcome.proofs.ListLemmas.{has_element, take_all, take_next, within}
use Rattle.plat_core.proofs.ViewLemmas.{view}

-- an element that was made of another
record IsMade {X Y : Type 0} (f : X → Y) (xs : List X) (k : ℕ) (y : Y) : Type 0 where
  pub from : X
  pub at : slice_get xs k ≡ Some from
  pub makes : f from ≡ y

is_made : {X Y : Type 0} (f : X → Y) (xs : List X) (k : ℕ) (y : Y) → slice_get (map f xs) k ≡ Some y → IsMade f xs k y
is_made f [] k y is = cc
is_made f (x ∷ xs) zero y is = record { from = x; at = refl; makes = cc }
is_made f (x ∷ xs) (suc k) y is = let rest = is_made f xs k y is in record { from = rest.from; at = rest.at; makes = rest.makes }

flag_at : (runs : List Run) (k : ℕ) (r : Run) → all_true (are_finished runs) ≡ true → slice_get runs k ≡ Some r → r.finished ≡ true
flag_at [] k r all is = cc
flag_at (x ∷ runs) zero r all is =
    let same : x ≡ r = cc in
    ap (λ (y : Run). y.finished) (sym same) ∙ and_left x.finished (all_true (are_finished runs)) all
flag_at (x ∷ runs) (suc k) r all is = flag_at runs k r (and_right x.finished (all_true (are_finished runs)) all) is

all_of : (P : Initiator → Type 0) (is : List Initiator) → ((k : ℕ) (i : Initiator) → slice_get is k ≡ Some i → P i) → AllByRecursion P is
all_of P [] each = tt
all_of P (i ∷ is) each = (each 0 i refl, all_of P is (λ k x at. each (suc k) x at))

-- how an initiator ended that has finished
end_of_run : (p : Plan) (runs : List Run) (regions : List LoggedMemory) (made k : ℕ) (i : Initiator) (r : Run) → IsCore p runs regions made → slice_get (initiators_of p) k ≡ Some i → slice_get runs k ≡ Some r → r.finished ≡ true → IsEndOf p i (history_of regions) (end_at r)
end_of_run p runs regions made k i r core mine run finished =
    let own = core.each_run k i r mine run in
    let reached = HasCome-ended ends p.platform i (history_of regions) r own.come (own.finished finished) in
    (ends_by_latencies p i (history_of regions) (end_at r) (blocking_apart i.row.style (blocking_at p core.blocking k i mine))).1 (record {
      transactions = reached.transactions;
      syncs = reached.syncs;
      time = reached.end;
      refused = reached.refused;
    })

good_core : (p : Plan) (runs : List Run) (regions : List LoggedMemory) (made : ℕ) → IsCore p runs regions made → all_true (are_finished runs) ≡ true → IsGood p (history_of regions)
good_core p runs regions made core all = sound_ends p (history_of regions) (no_fourphase p core.blocking) (no_direct p core.blocking) core.sound (record {
  answers = all_of (λ (i : Initiator). IsTrue (list_all (is_settled p.platform i (history_of regions)) (requests_of p.platform i (history_of regions)))) (initiators_of p) (λ k i mine.
      let found = has_element runs k (omega (arith, within (initiators_of p) k i mine, count_initiators 0 p.platform.initiators p.scripts core.valid.scripts, core.run_count)) in
      let own = core.each_run k i found.element mine found.at in
      (HasCome-ended ends p.platform i (history_of regions) found.element own.come (own.finished (flag_at runs k found.element all found.at))).ended);
})

-- the outcome of a core
outcome_seen : (p : Plan) (runs : List Run) (regions : List LoggedMemory) (members : List Member) (made : ℕ) (o : Outcome) → IsCore p runs regions made → AreInRounds p (history_of regions) runs members → o.history.entries ≡ history_of regions → o.stores ≡ map (λ (m : LoggedMemory). log_bytes m.traits m.log.entries) regions → o.ends ≡ map end_at runs → o.complete ≡ all_true (are_finished runs) → IsOutcome (view p regions runs members) o
outcome_seen p runs regions members made o core are history stores ended complete = record {
  history = history;
  sound = core.sound;
  rounds = are.kept;
  complete = complete;
  scripts = core.valid.scripts;
  flags = length-map runs (λ (r : Run). r.finished) ∙ core.run_count;
  good = good_core p runs regions made core;
  memories = ap length stores ∙ (length-map regions (λ (m : LoggedMemory). log_bytes m.traits m.log.entries) ∙ core.region_count);
  stores = λ m bytes is.
      let from = is_made (λ (x : LoggedMemory). log_bytes x.traits x.log.entries) regions m bytes (subst (λ (l : List (List ℕ)). slice_get l m ≡ Some bytes) stores is) in
      sym from.makes ∙ store_at m from.from (core.each_region m from.from from.at);
  initiators = ap length ended ∙ (length-map runs end_at ∙ core.run_count);
  ends = λ n i end finished mine is.
      let from = is_made end_at runs n end (subst (λ (l : List EndOf). slice_get l n ≡ Some end) ended is) in
      let flag = is_made (λ (r : Run). r.finished) runs n true finished in
      let same : flag.from ≡ from.from = same_run flag.from from.from (sym flag.at ∙ from.at) in
      subst (IsEndOf p i (history_of regions)) from.makes (end_of_run p runs regions made n i from.from core mine from.at (ap (λ (r : Run). r.finished) (sym same) ∙ flag.makes));
}
  where
    same_run : (a b : Run) → Some a ≡ Some b → a ≡ b
    same_run a b q = cc

    store_at : (m : ℕ) (x : LoggedMemory) → IsMemoryAt p runs (history_of regions) m x → log_bytes x.traits x.log.entries ≡ last_store p.platform (history_of regions) m
    store_at m x is =
        let row = some_row (slice_get p.platform.memories m) (λ (r : MemoryRow). x.traits ≡ r.traits) is.row in
        bytes_are p (history_of regions) x.log.entries m row.row x.traits row.at row.has is.log

pub outcome_is : (p : Plan) (runs : List Run) (regions : List LoggedMemory) (members : List Member) (made : ℕ) (v : CoreView) (o : Outcome) → IsCore p runs regions made → AreInRounds p (history_of regions) runs members → view p regions runs members ≡ v → o.history.entries ≡ history_of regions → o.stores ≡ map (λ (m : LoggedMemory). log_bytes m.traits m.log.entries) regions → o.ends ≡ map end_at runs → o.complete ≡ all_true v.finished → IsOutcome v o
outcome_is p runs regions members made v o core are seen history stores ended complete =
    subst (λ (w : CoreView). IsOutcome w o) seen (outcome_seen p runs regions members made o core are history stores ended (complete ∙ ap (λ (w : CoreView). all_true w.finished) (sym seen)))

-- one more number of a schedule
pub followed_more : (a b c : CoreView) (ns : List ℕ) (n : ℕ) → HasFollowed a ns b → IsTurnOf b n c → HasFollowed a (ns ++ n ∷ []) c
followed_more a b c [] n before turn = (c, subst (λ (x : CoreView). IsTurnOf x n c) before turn, refl)
followed_more a b c (k ∷ ns) n before turn = (before.0, before.1, followed_more before.0 b c ns n before.2 turn)

pub followed_next : (a b c : CoreView) (schedule : List ℕ) (k n : ℕ) → k < length schedule → n ≡ get_or schedule k 0 → HasFollowed a (take k schedule) b → IsTurnOf b n c → HasFollowed a (take (k + 1) schedule) c
followed_next a b c schedule k n below is before turn =
    subst (λ (ns : List ℕ). HasFollowed a ns c) (sym (take_next schedule k n (slice_get-get_or schedule k 0 below ∙ ap (λ (x : ℕ). Some x) (sym is)))) (followed_more a b c (take k schedule) n before turn)

pub scheduled : (p : Plan) (schedule : List ℕ) (k : ℕ) (core : CoreView) (o : Outcome) → length schedule ≤ k → HasFollowed (begun_core p) (take k schedule) core → IsOutcome core o → IsScheduled p schedule o
scheduled p schedule k core o all followed is = record {
  core = core;
  followed = subst (λ (ns : List ℕ). HasFollowed (begun_core p) ns core) (take_all k schedule all) followed;
  ended = is;
}

pub fresh_none : (p : Plan) (regions : List LoggedMemory) → regions ≡ [] → AreFresh p regions 0
fresh_none p regions none = subst (λ (r : List LoggedMemory). AreFresh p r 0) (sym none) (record { count = refl; each = λ k m is. absurd (nothing k m is) })
  where
    nothing : (k : ℕ) (m : LoggedMemory) → slice_get [] k ≡ Some m → ⊥
    nothing k m is = cc

pub fresh_region : (p : Plan) (k : ℕ) (rows : List MemoryRow) (row : MemoryRow) (m : LoggedMemory) (entries bytes gate : ℕ) → rows ≡ p.platform.memories → k < length rows → row ≡ get_or rows k row → m ≡ record { number = k; traits = row.traits; first_gate = gate; log = record { entries = []; room = entries; room_bytes = bytes; whole = true } } → entries ≡ planned_at p (memory_object k) → entries ≤ 1000000 → bytes ≡ logged_bytes p k → IsFresh p k m
fresh_region p k rows row m entries bytes gate same below is made planned few logged = subst (IsFresh p k) (sym made) (record {
  number = refl;
  row = subst (λ (o : Option MemoryRow). IsSomeAnd o (λ r. row.traits ≡ r.traits)) (sym (ap (λ (l : List MemoryRow). slice_get l k) (sym same) ∙ (slice_get-get_or rows k row below ∙ ap (λ (r : MemoryRow). Some r) (sym is)))) refl;
  empty = refl;
  room = planned;
  bytes = logged;
  few = few;
})
