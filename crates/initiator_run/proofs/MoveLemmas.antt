-- A run after what is next in its script.
use Rattle.std.proofs.Common.{◌≡◌, ℕ, ◌+◌, List, [], ◌∷◌, ◌++◌, length, map, Option, Some, None, Bool, false, refl, ap, sym, subst, ◌∙◌, add-zero, arith}
use Rattle.std.specs.List.{AllByRecursion, filter}
use Rattle.std.proofs.lemmas.Grind.{common_steps}
use Rattle.tlm_types.specs.declared.entry.Entry.{Entry}
use Rattle.tlm_model.specs.declared.operation.Operation.{Operation}
use Rattle.tlm_model.specs.declared.platform.Platform.{Platform}
use Rattle.tlm_model.specs.Plan.{Initiator}
use Rattle.tlm_model.specs.Requests.{Request, has_no_route}
use Rattle.generic_payload.specs.Payload.{PayloadView}
use Rattle.quantum_keeper.specs.Keeper.{Keeper, current_time}
use Rattle.script_engine.specs.declared.op.Op.{Op}
use Rattle.script_engine.specs.declared.part.Part.{Part}
use Rattle.script_engine.specs.declared.part.Part.TheVariants.{Pauses, Ends}
use Rattle.script_engine.specs.declared.part.Pause.{Pause}
use Rattle.script_engine.specs.declared.part.Pause.TheVariants as pause
use Rattle.script_engine.specs.Part.{is_fenced_part, is_sync_part, is_sync_pause, part_of}
use Rattle.script_engine.specs.declared.op.Op.TheVariants as next
use Rattle.script_engine.specs.Laws.{PassesInOrder}
use Rattle.script_engine.specs.State.{Due, State, next_of, op_of, is_fenced, payload_of, passed_over, passed_by, told_first, told_at}
use Rattle.script_engine.specs.Asking.{asked_by, asked_by_part, requests_at, stage_after, time_after_op, time_by_part, time_past_pause}
use Rattle.initiator_run.specs.Come.{HasMade, HasCounted, HasCome}
use Rattle.traffic_script.specs.Proper.{IsProper}
use Rattle.initiator_run.specs.Run.{Run, with_sync, waited, passed, refused_item}
use Rattle.initiator_run.proofs.ComeLemmas.{HasMade-quiet}
use Rattle.initiator_run.proofs.RoundLemmas.{rounds_passed}
use Rattle.initiator_run.proofs.CountLemmas.{HasCounted-moved, time_stepped, with_sync_time, with_sync_engine, with_sync_refused}

pub passed_initiator : (e : State) (ops : List Operation) → (passed_over e ops).initiator ≡ e.initiator
passed_initiator e [] = refl
passed_initiator e (op ∷ ops) = refl

pub passed_proper : (e : State) (ops : List Operation) → e.remaining ≡ ops → AllByRecursion IsProper ops → AllByRecursion IsProper (passed_over e ops).remaining
passed_proper e [] same proper = subst (AllByRecursion IsProper) (sym same) proper
passed_proper e (op ∷ ops) same proper = proper.1

told_initiator : (e : State) (got : List ℕ) (due : Option Due) (ops : List Operation) → (told_first e got ops).initiator ≡ e.initiator
told_initiator e got due [] = refl
told_initiator e got due (op ∷ ops) = refl

pub told_at_initiator : (e : State) (got : List ℕ) (due : Option Due) → (told_at e got due).initiator ≡ e.initiator
told_at_initiator e got None = told_initiator e got None e.remaining
told_at_initiator e got (Some w) = refl

told_first_proper : (e : State) (got : List ℕ) (ops : List Operation) → e.remaining ≡ ops → AllByRecursion IsProper ops → AllByRecursion IsProper (told_first e got ops).remaining
told_first_proper e got [] same proper = subst (AllByRecursion IsProper) (sym same) proper
told_first_proper e got (op ∷ ops) same proper = proper.1

pub told_proper : (e : State) (got : List ℕ) (due : Option Due) → AllByRecursion IsProper e.remaining → AllByRecursion IsProper (told_at e got due).remaining
told_proper e got None proper = told_first_proper e got e.remaining refl proper
told_proper e got (Some w) proper = proper

-- a run is where its history leaves it, with the sync that is due
pub come_by : (p : Platform) (i : Initiator) (h : List Entry) (sync : Bool) (r : Run) (stage : ℕ) (made : List Request)
    → HasMade p i h made (λ m. requests_at p i m (current_time r.keeper) stage r.engine) → length made ≡ r.engine.seq
    → r.refused.items ≡ map refused_item (filter (λ q. has_no_route p i q q.asked) made)
    → HasCounted p i (with_sync sync r) → AllByRecursion IsProper r.engine.remaining → HasCome p i h (with_sync sync r)
come_by p i h sync r stage made asked count refused counted proper = record {
  stage = stage;
  made = made;
  asked = HasMade-quiet p i h made _ _
      (λ m. ap (λ (t : ℕ). requests_at p i (h ++ m) t stage r.engine) (sym (with_sync_time sync r))
      ∙ ap (λ (e : State). requests_at p i (h ++ m) (current_time (with_sync sync r).keeper) stage e) (sym (with_sync_engine sync r)))
      asked;
  count = count ∙ ap (λ (e : State). e.seq) (sym (with_sync_engine sync r));
  refused = ap (λ (x : _). x.items) (with_sync_refused sync r) ∙ refused;
  counted = counted;
  proper = subst (λ (e : State). AllByRecursion IsProper e.remaining) (sym (with_sync_engine sync r)) proper;
}

time_waited : (pause : Pause) (k : Keeper) → current_time (waited pause k) ≡ time_past_pause pause (current_time k)
time_waited (pause.Wait n) k = time_stepped k n
time_waited pause.Sync k = refl
time_waited pause.Fence k = refl

waited_quantum : (pause : Pause) (k : Keeper) → ((waited pause k).quantum ≡ k.quantum) × ((waited pause k).last_sync ≡ k.last_sync)
waited_quantum pause k = grind (arith, common_steps)

-- a pause is none of an engine that has no more to do
pub pause_is_not_done : (op : Op) (pause : Pause) → part_of op ≡ Pauses pause → op ≡ next.Done → ⊥
pause_is_not_done op pause is done =
    let ends : part_of op ≡ Ends = ap part_of done in
    cc

-- a wait, a sync or a fence
pub HasCome-paused : (p : Platform) (i : Initiator) (h : List Entry) (r : Run) (pause : Pause) → PassesInOrder → next_of r.engine ≡ Pauses pause → HasCome p i h r → HasCome p i h (passed pause r)
HasCome-paused p i h r pause passes is come =
    come_by p i h (is_sync_pause pause) next (stage_after op come.stage) come.made
    (HasMade-quiet p i h come.made _ _
    (λ m. passes.requests p i (h ++ m) t come.stage 0 r.engine unfenced
    ∙ (ap (λ (x : List Request). x ++ requests_at p i (h ++ m) (time_after_op p i t op) (stage_after op come.stage) e) (asks_nothing (payload_of r.engine 0) t come.stage)
    ∙ ap (λ (x : ℕ). requests_at p i (h ++ m) x (stage_after op come.stage) e) (sym time)))
    come.asked)
    (come.count ∙ sym (passes.seq r.engine 0 t 0 unfenced ∙ (ap (λ (x : List Request). r.engine.seq + length x) (asks_nothing (payload_of r.engine 0) t 0) ∙ add-zero r.engine.seq)))
    come.refused
    (HasCounted-moved p i r op (is_sync_pause pause) e k (ap is_sync_part is) come.counted (record {
      initiator = passed_initiator r.engine r.engine.remaining;
      quantum = (waited_quantum pause r.keeper).0;
      last_sync = (waited_quantum pause r.keeper).1;
      time = time;
      end = passes.end p i t r.engine unfenced;
      syncs = passes.syncs p i r.keeper.last_sync t r.engine unfenced (pause_is_not_done op pause is);
      seq = omega (arith, passes.seq r.engine 0 t 0 unfenced);
      rounds = λ s. rounds_passed p i r.keeper.last_sync t s r.engine unfenced (pause_is_not_done op pause is);
      numbers = passes.numbers r.engine unfenced;
    }))
    (passed_proper r.engine r.engine.remaining refl come.proper)
  where
    op : Op
    op = op_of r.engine

    e : State
    e = passed_by r.engine

    k : Keeper
    k = waited pause r.keeper

    t : ℕ
    t = current_time r.keeper

    next : Run
    next = record r { engine = e; keeper = k }

    unfenced : is_fenced op ≡ false
    unfenced = ap is_fenced_part is

    time : current_time k ≡ time_after_op p i t op
    time = time_waited pause r.keeper ∙ sym (ap (time_by_part p i t) is)

    asks_nothing : (payload : PayloadView) (u g : ℕ) → asked_by op payload u g ≡ []
    asks_nothing payload u g = ap (λ (part : Part). asked_by_part part payload u g) is
