-- The round that the next entry of an initiator has.
use Rattle.std.proofs.Common.{◌≡◌, ℕ, ◌+◌, ◌-◌, ◌≤◌, List, [], ◌∷◌, ◌++◌, Option, Some, Bool, true, false, ◌&&◌, ◌||◌, cond, is_none, refl, ap, sym, subst, ◌∙◌, arith, add-zero}
use Rattle.std.proofs.lemmas.Grind.{common_steps}
use Rattle.std.proofs.lemmas.List.Folds.{list_all-append}
use Rattle.std.specs.List.{AllByRecursion, list_all}
use Rattle.tlm_types.specs.declared.entry.Entry.{Entry}
use Rattle.tlm_model.specs.declared.platform.Platform.{Platform}
use Rattle.tlm_model.specs.declared.platform.Style.{Style}
use Rattle.tlm_model.specs.declared.platform.Style.TheVariants.{Blocking, Direct, FourPhase}
use Rattle.tlm_model.specs.Plan.{Initiator}
use Rattle.tlm_model.specs.Requests.{Request}
use Rattle.tlm_model.specs.Rounds.{round_of, syncs_by, syncs_from, syncs_of}
use Rattle.tlm_model.specs.Route.{Route, route_of}
use Rattle.tlm_model.specs.Scripts.{has_answer, is_settled}
use Rattle.tlm_model.specs.declared.operation.Operation.{Operation}
use Rattle.quantum_keeper.specs.Keeper.{current_time}
use Rattle.script_engine.specs.declared.op.Op.TheVariants as next
use Rattle.script_engine.specs.declared.part.Part.TheVariants.{Asks, Invalidates}
use Rattle.script_engine.specs.declared.part.Transfer.{Transfer}
use Rattle.script_engine.specs.Part.{part_of}
use Rattle.script_engine.specs.State.{Due, next_of, op_at, op_of, passed_by, payload_of}
use Rattle.script_engine.specs.Asking.{request_for, requests_at, stage_after}
use Rattle.script_engine.proofs.Steps.{ends}
use Rattle.initiator_run.specs.Come.{HasCome, has_ended, rounds_at, rounds_behind}
use Rattle.plat_core.specs.Rounds.{due_round, is_decoupled, round_of_first}
use Rattle.initiator_run.specs.Run.{Run}
use Rattle.initiator_run.proofs.AnswerLemmas.{and_left, and_right}
use Rattle.initiator_run.proofs.EndLemmas.{HasCome-ended, request_is_open, requests_now}
use Rattle.initiator_run.proofs.NextLemmas.{numbers_at, request_is_first, seq_of_next}
use Rattle.initiator_run.proofs.InvalidationLemmas.{left_after, request_to_invalidate}
use Rattle.initiator_run.proofs.RoundLemmas.{no_rounds_before}

-- a blocking or direct initiator makes all syncs of its script
decoupled_syncs : (style : Style) (n : ℕ) → is_decoupled style ≡ true → syncs_by style n ≡ n
decoupled_syncs Blocking n is = refl
decoupled_syncs Direct n is = refl
decoupled_syncs FourPhase n is = cc

-- settled requests have no entry to come
settled_first : (p : Platform) (i : Initiator) (h : List Entry) (made more : List Request) → list_all (is_settled p i h) made ≡ true → round_of_first p i h (made ++ more) ≡ round_of_first p i h more
settled_first p i h [] more all = refl
settled_first p i h (q ∷ made) more all =
    ap (λ (b : Bool). cond b (round_of_first p i h (made ++ more)) (round_of p i q.seq)) (and_left (is_settled p i h q) (list_all (is_settled p i h) made) all)
    ∙ settled_first p i h made more (and_right (is_settled p i h q) (list_all (is_settled p i h) made) all)

-- the due round is that of what is still to be asked for
due_is : (p : Platform) (i : Initiator) (h : List Entry) (r : Run) (come : HasCome p i h r) → due_round p i h ≡ round_of_first p i h (requests_at p i h (current_time r.keeper) come.stage r.engine)
due_is p i h r come =
    ap (round_of_first p i h) (requests_now p i h r come)
    ∙ settled_first p i h come.made (requests_at p i h (current_time r.keeper) come.stage r.engine) come.asked.settled

-- from a number on no round is lower than this one, nor is the last one
rounds_from_here : (p : Platform) (i : Initiator) (h : List Entry) (n s : ℕ) (rs : List Request) → ((k : ℕ) → s ≤ k → n ≤ round_of p i k) → n ≤ syncs_of p i → AllByRecursion (λ (q : Request). s ≤ q.seq) rs → n ≤ round_of_first p i h rs
rounds_from_here p i h n s [] each last later = last
rounds_from_here p i h n s (q ∷ rs) each last later = by_cases (is_settled p i h q) (rounds_from_here p i h n s rs each last later.1) (each q.seq later.0)
  where
    by_cases : (b : Bool) → n ≤ round_of_first p i h rs → n ≤ round_of p i q.seq → n ≤ cond b (round_of_first p i h rs) (round_of p i q.seq)
    by_cases true x y = x
    by_cases false x y = y

-- a run's next entry comes after its syncs
pub due_after_syncs : (p : Platform) (i : Initiator) (h : List Entry) (r : Run) → is_decoupled i.row.style ≡ true → HasCome p i h r → r.syncs ≤ due_round p i h
due_after_syncs p i h r decoupled come =
    let rest = requests_at p i h (current_time r.keeper) come.stage r.engine in
    let last : r.syncs ≤ syncs_of p i = omega (arith, decoupled_syncs i.row.style (syncs_from p i 0 0 i.script) decoupled, come.counted.syncs) in
    let low = rounds_from_here p i h r.syncs r.engine.seq rest (λ k after. omega (arith, come.counted.rounds k after)) last (numbers_at p i h (current_time r.keeper) come.stage r.engine) in
    subst (λ (n : ℕ). r.syncs ≤ n) (sym (due_is p i h r come)) low

-- the round of the request that is next
pub round_at_next : (p : Platform) (i : Initiator) (h : List Entry) (r : Run) (x : Transfer) → next_of r.engine ≡ Asks x → HasCome p i h r → round_of p i r.engine.seq ≡ r.syncs
round_at_next p i h r x is come =
    let n = r.engine.seq in
    let none : n - n ≡ 0 = omega arith in
    sym (come.counted.rounds n (omega arith))
    ∙ (ap (λ (k : ℕ). r.syncs + rounds_at p i r.keeper.last_sync (current_time r.keeper) r.engine k) none
    ∙ (ap (λ (k : ℕ). r.syncs + k) (no_rounds_before p i r.keeper.last_sync (current_time r.keeper) r.engine x is) ∙ add-zero r.syncs))

-- at a transfer with a route the due round is that of its last sync
pub due_at_access : (p : Platform) (i : Initiator) (h : List Entry) (r : Run) (x : Transfer) (route : Route) → next_of r.engine ≡ Asks x → route_of p i x.address ≡ Some route → HasCome p i h r → due_round p i h ≡ r.syncs
due_at_access p i h r x route is leads come =
    let q = request_for x (payload_of r.engine 0) (current_time r.keeper) come.stage in
    let first = request_is_first p i h (current_time r.keeper) come.stage 0 r.engine x is in
    due_is p i h r come
    ∙ (ap (round_of_first p i h) first.first
    ∙ (ap (λ (b : Bool). cond b (round_of_first p i h first.more) (round_of p i q.seq)) (request_is_open p i h r x route is leads come)
    ∙ (ap (round_of p i) (seq_of_next r.engine x is) ∙ round_at_next p i h r x is come)))

-- at the end of the script the due round is that of the last sync
pub due_at_end : (p : Platform) (i : Initiator) (h : List Entry) (r : Run) → is_decoupled i.row.style ≡ true → HasCome p i h r → op_of r.engine ≡ next.Done → due_round p i h ≡ r.syncs
due_at_end p i h r decoupled come done =
    due_is p i h r come
    ∙ (ap (round_of_first p i h) (ends.requests p i h (current_time r.keeper) come.stage r.engine done)
    ∙ (decoupled_syncs i.row.style (syncs_from p i 0 0 i.script) decoupled ∙ sym (HasCome-ended ends p i h r come done).syncs))

-- at an invalidation with a route, too, and the script has not ended
module _ (p : Platform) (i : Initiator) (h : List Entry) (r : Run) (a n : ℕ) (route : Route) (is : next_of r.engine ≡ Invalidates r.engine.seq a n) (leads : route_of p i a ≡ Some route) (come : HasCome p i h r) where
  abbrev told : Request
  told = request_to_invalidate r.engine.seq a n (current_time r.keeper) come.stage

  abbrev later : List Request
  later = requests_at p i h (current_time r.keeper) (stage_after (op_of r.engine) come.stage) (passed_by r.engine)

  first_is : requests_at p i h (current_time r.keeper) come.stage r.engine ≡ told ∷ later
  first_is = left_after p i r a n is h come.stage

  told_is_open : is_settled p i h told ≡ false
  told_is_open = ap (λ (o : Option Route). is_none o || has_answer i.number r.engine.seq h) leads ∙ come.asked.fresh r.engine.seq (omega (arith, come.count))

  round_told : round_of p i r.engine.seq ≡ r.syncs
  round_told =
      let s = r.engine.seq in
      let none : s - s ≡ 0 = omega arith in
      sym (come.counted.rounds s (omega arith))
      ∙ (ap (λ (k : ℕ). r.syncs + rounds_at p i r.keeper.last_sync (current_time r.keeper) r.engine k) none
      ∙ (ap (λ (k : ℕ). r.syncs + k) (none_behind p i r.keeper.last_sync (current_time r.keeper) s a n s r.engine.due r.engine.remaining is) ∙ add-zero r.syncs))
    where
      none_behind : (p : Platform) (i : Initiator) (now t s a n q : ℕ) (due : Option Due) (ops : List Operation) → part_of (op_at q due ops) ≡ Invalidates s a n → rounds_behind p i now t due ops 0 ≡ 0
      none_behind p i now t s a n q due ops is = grind (arith, common_steps)

  pub due_at_invalidation : due_round p i h ≡ r.syncs
  due_at_invalidation =
      due_is p i h r come
      ∙ (ap (round_of_first p i h) first_is
      ∙ (ap (λ (b : Bool). cond b (round_of_first p i h later) (round_of p i r.engine.seq)) told_is_open ∙ round_told))

  pub open_at_invalidation : has_ended p i h ≡ false
  open_at_invalidation =
      ap (list_all (is_settled p i h)) (requests_now p i h r come ∙ ap (λ (asked : List Request). come.made ++ asked) first_is)
      ∙ (list_all-append (is_settled p i h) come.made (told ∷ later)
      ∙ (ap (λ (b : Bool). list_all (is_settled p i h) come.made && (b && list_all (is_settled p i h) later)) told_is_open ∙ and_false (list_all (is_settled p i h) come.made)))
    where
      and_false : (b : Bool) → b && false ≡ false
      and_false true = refl
      and_false false = refl
