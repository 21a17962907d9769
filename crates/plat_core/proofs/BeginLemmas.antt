-- A core before its first step.
use Rattle.std.proofs.Common.{◌≡◌, ℕ, zero, suc, ◌+◌, ◌*◌, ◌<◌, ◌≤◌, inl, inr, List, [], ◌∷◌, ◌++◌, length, map, Some, Bool, false, refl, ap, sym, subst, ◌∙◌, arith, length-append}
use Rattle.std.specs.Prelude.{slice_get, sum_by}
use Rattle.std.proofs.lemmas.List.{length-map}
use Rattle.std.proofs.lemmas.List.Sums.{sum_by-cons}
use Rattle.tlm_types.specs.declared.entry.Entry.{Entry}
use Rattle.tlm_types.specs.declared.words.ObjectNo.TheVariants.{Memory as memory_object}
use Rattle.tlm_model.specs.declared.operation.Operation.{Operation}
use Rattle.tlm_model.specs.declared.platform.InitiatorRow.{InitiatorRow}
use Rattle.tlm_model.specs.Plan.{Plan, Initiator, initiators_from, initiators_of}
use Rattle.good_history.specs.GrantLaws.{HasNoInvalidation}
use Rattle.good_history.specs.Good.{IsSound}
use Rattle.good_history.proofs.Ungranted.{sound_empty}
use Rattle.region_object.specs.Region.{LoggedMemory}
use Rattle.platform_shape.specs.Shape.{IsBlocking}
use Rattle.route_plan.specs.Planned.{logged_bytes, logged_share, planned_at, share_of}
use Rattle.script_engine.specs.State.{State}
use Rattle.script_engine.proofs.Remaining.{few_numbers}
use Rattle.script_engine.proofs.Steps.{begins}
use Rattle.plat_core.specs.Core.{IsCore, IsMemoryAt, IsRunOf, are_finished, begun_run, history_of, logs_of, no_runs}
use Rattle.route_plan.specs.Valid.{IsValid}
use Rattle.plat_core.specs.Fresh.{AreFresh, IsFresh}
use Rattle.initiator_run.specs.Left.{asks_left, bytes_left, total_bytes, total_left, total_of}
use Rattle.run_outcome.specs.Merge.{by_position, entries_in}
use Rattle.initiator_run.specs.Run.{Run, fresh_run}
use Rattle.initiator_run.proofs.EndLemmas.{HasCome-begun}
use Rattle.run_outcome.proofs.ListLemmas.{at_push}
use Rattle.run_outcome.proofs.PlanLemmas.{no_direct, no_fourphase}
use Rattle.traffic_script.specs.Proper.{AreProper}
use Rattle.initiator_run.proofs.BeginLemmas.{proper_at, syncs_bound}

share_bound : (p : Plan) (i : Initiator) (m : ℕ) → asks_left p i m (begun_run p i).engine ≤ share_of p i (memory_object m)
unfolding share_of
share_bound p i m = omega arith

logged_bound : (p : Plan) (i : Initiator) (m : ℕ) → bytes_left p i m (begun_run p i).engine ≤ logged_share p i m
unfolding logged_share
logged_bound p i m = omega arith

-- what is counted of all runs is no more than all shares, where it is so for each
total_bound : (p : Plan) (count : Initiator → State → ℕ) (share : Initiator → ℕ) (is : List Initiator) → ((i : Initiator) → count i (begun_run p i).engine ≤ share i) → total_of count is (map (begun_run p) is) ≤ sum_by share is
total_bound p count share [] each = omega arith
total_bound p count share (i ∷ is) each = omega (arith, each i, total_bound p count share is each, sum_by-cons share i is)

-- the entries and the bytes that are planned at a memory are enough for all that is left
planned_bound : (p : Plan) (m : ℕ) → total_left p m (initiators_of p) (no_runs p) ≤ planned_at p (memory_object m)
unfolding planned_at
planned_bound p m = total_bound p (λ i e. asks_left p i m e) (λ i. share_of p i (memory_object m)) (initiators_of p) (λ i. share_bound p i m)

bytes_bound : (p : Plan) (m : ℕ) → total_bytes p m (initiators_of p) (no_runs p) ≤ logged_bytes p m
unfolding logged_bytes
bytes_bound p m = total_bound p (λ i e. bytes_left p i m e) (λ i. logged_share p i m) (initiators_of p) (λ i. logged_bound p i m)

begun_at : (p : Plan) (is : List Initiator) (k : ℕ) (i : Initiator) (r : Run) → slice_get is k ≡ Some i → slice_get (map (begun_run p) is) k ≡ Some r → begun_run p i ≡ r
begun_at p [] k i r mine run = cc
begun_at p (j ∷ is) zero i r mine run =
    let same : j ≡ i = cc in
    let that : begun_run p j ≡ r = cc in
    ap (begun_run p) (sym same) ∙ that
begun_at p (j ∷ is) (suc k) i r mine run = begun_at p is k i r mine run

-- logs without entries make no history
empty_logs : (regions : List LoggedMemory) → ((k : ℕ) (m : LoggedMemory) → slice_get regions k ≡ Some m → m.log.entries ≡ []) → entries_in (logs_of regions) ≡ []
empty_logs [] each = refl
empty_logs (m ∷ regions) each = ap (λ (l : List Entry). l ++ entries_in (logs_of regions)) (each 0 m refl) ∙ empty_logs regions (λ k x is. each (suc k) x is)

pub no_history : (p : Plan) (regions : List LoggedMemory) (n : ℕ) → AreFresh p regions n → history_of regions ≡ []
no_history p regions n fresh = ap by_position (empty_logs regions (λ k m is. (fresh.each k m is).empty))

-- a core before its first step
pub core_begun : (p : Plan) (runs : List Run) (regions : List LoggedMemory) → IsValid p → IsBlocking p.platform → HasNoInvalidation p → runs ≡ no_runs p → AreFresh p regions (length p.platform.memories) → length (initiators_of p) ≡ length p.platform.initiators → IsCore p runs regions 0
core_begun p runs regions valid blocking quiet same fresh count =
    let none : history_of regions ≡ [] = no_history p regions (length p.platform.memories) fresh in
    subst (λ (r : List Run). IsCore p r regions 0) (sym same) (record {
      valid = valid;
      blocking = blocking;
      quiet = quiet;
      sound = subst (IsSound p) (sym none) (sound_empty p (no_fourphase p blocking) (no_direct p blocking));
      count = sym (ap length none);
      run_count = length-map (initiators_of p) (begun_run p) ∙ count;
      region_count = fresh.count;
      each_run = λ k i r mine run. subst (λ (h : List Entry). IsRunOf p h i r) (sym none) (subst (IsRunOf p [] i) (begun_at p (initiators_of p) k i r mine run) (run_begun i (proper_at p valid k i mine)));
      each_region = λ k m is. subst (λ (h : List Entry). IsMemoryAt p (no_runs p) h k m) (sym none) (memory_begun k m (fresh.each k m is));
    })
  where
    run_begun : (i : Initiator) → AreProper i.script → IsRunOf p [] i (begun_run p i)
    run_begun i has = record {
      come = HasCome-begun begins p.platform i (2 * length i.script) (omega (arith, syncs_bound p.platform i 0 0 i.script, has.few)) (few_numbers i.script) has.each;
      finished = λ f. cc;
    }

    memory_begun : (k : ℕ) (m : LoggedMemory) → IsFresh p k m → IsMemoryAt p (no_runs p) [] k m
    memory_begun k m is = record {
      number = is.number;
      row = is.row;
      log = is.empty;
      few = is.few;
      roomy = omega (arith, ap length is.empty, planned_bound p k, is.room);
      roomy_bytes = omega (arith, bytes_bound p k, is.bytes);
    }

-- the flags of runs that have not begun
pub no_flags : (p : Plan) (is : List Initiator) → are_finished (map (begun_run p) is) ≡ map (λ (i : Initiator). false) is
no_flags p [] = refl
no_flags p (i ∷ is) = ap (λ (l : List Bool). false ∷ l) (no_flags p is)

no_run_from : (p : Plan) (k n : ℕ) (rows : List InitiatorRow) (scripts : List (List Operation)) (script : List Operation) → slice_get scripts n ≡ Some script → n < length rows → slice_get (map (begun_run p) (initiators_from k rows scripts)) n ≡ Some (fresh_run (k + n) script p.platform.quantum (2 * length script))
no_run_from p k n [] scripts script is below = absurd (omega arith)
no_run_from p k n (row ∷ rows) [] script is below = cc
no_run_from p k zero (row ∷ rows) (s ∷ scripts) script is below =
    let same : s ≡ script = cc in
    ap (λ (x : List Operation). Some (fresh_run k x p.platform.quantum (2 * length x))) same ∙ ap (λ (x : ℕ). Some (fresh_run x script p.platform.quantum (2 * length script))) (plus k)
  where
    plus : (a : ℕ) → a ≡ a + 0
    plus a = omega arith
no_run_from p k (suc n) (row ∷ rows) (s ∷ scripts) script is below =
    no_run_from p (k + 1) n rows scripts script is (omega arith) ∙ ap (λ (x : ℕ). Some (fresh_run x script p.platform.quantum (2 * length script))) (plus k n)
  where
    plus : (a b : ℕ) → a + 1 + b ≡ a + suc b
    plus a b = omega arith

-- the run of an initiator before its first step
pub no_run_at : (p : Plan) (n : ℕ) (script : List Operation) → slice_get p.scripts n ≡ Some script → n < length p.platform.initiators → slice_get (no_runs p) n ≡ Some (fresh_run n script p.platform.quantum (2 * length script))
no_run_at p n script is below = no_run_from p 0 n p.platform.initiators p.scripts script is below ∙ ap (λ (x : ℕ). Some (fresh_run x script p.platform.quantum (2 * length script))) (plus n)
  where
    plus : (a : ℕ) → 0 + a ≡ a
    plus a = omega arith

pub fresh_more : (p : Plan) (regions after : List LoggedMemory) (n : ℕ) (m : LoggedMemory) → AreFresh p regions n → after ≡ regions ++ m ∷ [] → IsFresh p n m → AreFresh p after (n + 1)
fresh_more p regions after n m fresh pushed is = subst (λ (x : List LoggedMemory). AreFresh p x (n + 1)) (sym pushed) (record {
  count = length-append regions (m ∷ []) ∙ ap (λ (k : ℕ). k + 1) fresh.count;
  each = λ k x at. elim (at_push regions m k x at) [
    | inl before ↦ fresh.each k x before
    | inr last ↦ subst (IsFresh p k) last.1 (subst (λ (j : ℕ). IsFresh p j m) (sym (last.0 ∙ fresh.count)) is)
  ];
})
