-- A run after an access or a debug read.
use Rattle.std.proofs.Common.{◌≡◌, ℕ, ◌+◌, List, [], ◌∷◌, ◌++◌, length, map, Option, Some, None, Bool, true, false, cond, is_none, refl, ap, sym, ◌∙◌, arith, length-append}
use Rattle.std.specs.List.{AllByRecursion, filter}
use Rattle.std.proofs.lemmas.Grind.{common_steps}
use Rattle.std.proofs.lemmas.List.{map-append}
use Rattle.std.proofs.lemmas.List.Elements.{filter-append}
use Rattle.tlm_types.specs.declared.ends.RefusedItem.{RefusedItem}
use Rattle.tlm_types.specs.declared.entry.Entry.{Entry}
use Rattle.tlm_model.specs.declared.platform.Platform.{Platform}
use Rattle.tlm_model.specs.Plan.{Initiator}
use Rattle.tlm_model.specs.Requests.{Request, has_no_route}
use Rattle.tlm_model.specs.Route.{Route, latency_of, route_of}
use Rattle.tlm_model.specs.Scripts.{has_answer, is_answer}
use Rattle.tlm_model.proofs.EachLemmas.{append_nil}
use Rattle.generic_payload.specs.Payload.{PayloadView}
use Rattle.quantum_keeper.specs.Keeper.{Keeper, current_time}
use Rattle.script_engine.specs.declared.op.Op.{Op}
use Rattle.script_engine.specs.declared.part.Part.{Part}
use Rattle.script_engine.specs.declared.part.Part.TheVariants.{Asks, Ends}
use Rattle.script_engine.specs.declared.part.Transfer.{Transfer}
use Rattle.script_engine.specs.declared.part.TransferKind.{TransferKind}
use Rattle.script_engine.specs.declared.part.TransferKind.TheVariants as transfer
use Rattle.script_engine.specs.Part.{is_sync_part, part_of}
use Rattle.script_engine.specs.declared.op.Op.TheVariants as next
use Rattle.script_engine.specs.Laws.{PassesInOrder, IsToldInOrder}
use Rattle.script_engine.specs.State.{State, next_of, op_of, is_fenced, payload_of, passed_by, told_by}
use Rattle.script_engine.specs.Asking.{IsAnswered, arrival, asked_by, asked_by_part, request_for, requests_at, stage_after, syncs_at, syncs_then, end_at, numbers_at, time_after_op, time_by_part}
use Rattle.initiator_run.specs.Come.{HasCounted, HasCome}
use Rattle.traffic_script.specs.Proper.{IsProper}
use Rattle.initiator_run.specs.Run.{Run, engine_after, arrived, accessed, refused_as, refused_item, with_refusal}
use Rattle.initiator_run.proofs.ComeLemmas.{HasMade-unrouted, HasMade-answered}
use Rattle.initiator_run.proofs.CountLemmas.{Leaves, HasCounted-moved, time_stepped}
use Rattle.initiator_run.proofs.MoveLemmas.{come_by, passed_initiator, passed_proper, told_at_initiator, told_proper}
use Rattle.initiator_run.proofs.NextLemmas.{seq_of_next}
use Rattle.initiator_run.proofs.RoundLemmas.{rounds_after}

-- the engine after an access, by whether it waits for the reply
pub after_initiator : (b : Bool) (e : State) (got : List ℕ) → (cond b (told_by e got) (passed_by e)).initiator ≡ e.initiator
after_initiator true e got = told_at_initiator e got e.due
after_initiator false e got = passed_initiator e e.remaining

after_proper : (b : Bool) (e : State) (got : List ℕ) → AllByRecursion IsProper e.remaining → AllByRecursion IsProper (cond b (told_by e got) (passed_by e)).remaining
after_proper true e got proper = told_proper e got e.due proper
after_proper false e got proper = passed_proper e e.remaining refl proper

-- the laws of an engine's steps
pub record Laws : Type 0 where
  pub passes : PassesInOrder
  pub told : IsToldInOrder

-- a transfer is none of an engine that has no more to do
pub transfer_is_not_done : (op : Op) (x : Transfer) → part_of op ≡ Asks x → op ≡ next.Done → ⊥
transfer_is_not_done op x is done =
    let ends : part_of op ≡ Ends = ap part_of done in
    cc

-- it asks for its request alone
asks_one : (op : Op) (x : Transfer) (payload : PayloadView) (t g : ℕ) → part_of op ≡ Asks x → asked_by op payload t g ≡ request_for x payload t g ∷ []
asks_one op x payload t g is = ap (λ (part : Part). asked_by_part part payload t g) is

after_requests : (laws : Laws) (p : Platform) (i : Initiator) (h : List Entry) (t g room : ℕ) (e : State) (got : List ℕ) (b : Bool) → is_fenced (op_of e) ≡ b → (b ≡ true → IsAnswered p i h (op_of e) got)
    → requests_at p i h t g e ≡ asked_by (op_of e) (payload_of e room) t g ++ requests_at p i h (time_after_op p i t (op_of e)) (stage_after (op_of e) g) (cond b (told_by e got) (passed_by e))
after_requests laws p i h t g room e got true fenced answers = laws.told.requests p i h t g room e got fenced (answers refl)
after_requests laws p i h t g room e got false fenced answers = laws.passes.requests p i h t g room e fenced

after_seq : (laws : Laws) (e : State) (got : List ℕ) (room t g : ℕ) (b : Bool) → is_fenced (op_of e) ≡ b → (cond b (told_by e got) (passed_by e)).seq ≡ e.seq + length (asked_by (op_of e) (payload_of e room) t g)
after_seq laws e got room t g true fenced = laws.told.seq e got room t g fenced
after_seq laws e got room t g false fenced = laws.passes.seq e room t g fenced

after_end : (laws : Laws) (p : Platform) (i : Initiator) (t : ℕ) (e : State) (got : List ℕ) (b : Bool) → is_fenced (op_of e) ≡ b → end_at p i t e ≡ end_at p i (time_after_op p i t (op_of e)) (cond b (told_by e got) (passed_by e))
after_end laws p i t e got true fenced = laws.told.end p i t e got fenced
after_end laws p i t e got false fenced = laws.passes.end p i t e fenced

after_syncs : (laws : Laws) (p : Platform) (i : Initiator) (now t : ℕ) (e : State) (got : List ℕ) (b : Bool) → is_fenced (op_of e) ≡ b → (op_of e ≡ next.Done → ⊥) → syncs_at p i now t e ≡ syncs_then p i now (time_after_op p i t (op_of e)) (op_of e) (cond b (told_by e got) (passed_by e))
after_syncs laws p i now t e got true fenced more = laws.told.syncs p i now t e got fenced
after_syncs laws p i now t e got false fenced more = laws.passes.syncs p i now t e fenced more

after_numbers : (laws : Laws) (e : State) (got : List ℕ) (b : Bool) → is_fenced (op_of e) ≡ b → numbers_at (cond b (told_by e got) (passed_by e)) ≡ numbers_at e
after_numbers laws e got true fenced = laws.told.numbers e got fenced
after_numbers laws e got false fenced = laws.passes.numbers e fenced

time_arrived : (kind : TransferKind) (by : ℕ) (k : Keeper) → current_time (arrived kind by k) ≡ arrival kind (current_time k) by
time_arrived (transfer.Access command plain fenced) by k = time_stepped k by
time_arrived transfer.DebugRead by k = refl

arrived_time : (p : Platform) (i : Initiator) (op : Op) (x : Transfer) (by : ℕ) (k : Keeper) → part_of op ≡ Asks x → by ≡ latency_of p i x.address → current_time (arrived x.kind by k) ≡ time_after_op p i (current_time k) op
arrived_time p i op x by k is latency = time_arrived x.kind by k ∙ (ap (arrival x.kind (current_time k)) latency ∙ sym (ap (time_by_part p i (current_time k)) is))

arrived_quantum : (kind : TransferKind) (by : ℕ) (k : Keeper) → ((arrived kind by k).quantum ≡ k.quantum) × ((arrived kind by k).last_sync ≡ k.last_sync)
arrived_quantum kind by k = grind (arith, common_steps)

leaves_after : (laws : Laws) (p : Platform) (i : Initiator) (r : Run) (x : Transfer) (by : ℕ) (got : List ℕ) → next_of r.engine ≡ Asks x → by ≡ latency_of p i x.address → Leaves p i r (op_of r.engine) (engine_after r.engine got) (arrived x.kind by r.keeper)
leaves_after laws p i r x by got is latency = record {
  initiator = after_initiator (is_fenced (op_of r.engine)) r.engine got;
  quantum = (arrived_quantum x.kind by r.keeper).0;
  last_sync = (arrived_quantum x.kind by r.keeper).1;
  time = arrived_time p i (op_of r.engine) x by r.keeper is latency;
  end = after_end laws p i (current_time r.keeper) r.engine got (is_fenced (op_of r.engine)) refl;
  syncs = after_syncs laws p i r.keeper.last_sync (current_time r.keeper) r.engine got (is_fenced (op_of r.engine)) refl (transfer_is_not_done (op_of r.engine) x is);
  seq = omega (arith, after_seq laws r.engine got 0 0 0 (is_fenced (op_of r.engine)) refl);
  rounds = λ s. rounds_after p i r.keeper.last_sync (current_time r.keeper) s r.engine got (is_fenced (op_of r.engine)) refl (transfer_is_not_done (op_of r.engine) x is);
  numbers = after_numbers laws r.engine got (is_fenced (op_of r.engine)) refl;
}

-- what is left after a transfer, where the history answers it if the engine waits
left_after : (laws : Laws) (p : Platform) (i : Initiator) (r : Run) (x : Transfer) (by stage room : ℕ) (got : List ℕ) → next_of r.engine ≡ Asks x → by ≡ latency_of p i x.address → (h : List Entry) → (is_fenced (op_of r.engine) ≡ true → IsAnswered p i h (op_of r.engine) got)
    → requests_at p i h (current_time r.keeper) stage r.engine ≡ request_for x (payload_of r.engine room) (current_time r.keeper) stage ∷ requests_at p i h (current_time (arrived x.kind by r.keeper)) (stage_after (op_of r.engine) stage) (engine_after r.engine got)
left_after laws p i r x by stage room got is latency h answers =
    after_requests laws p i h (current_time r.keeper) stage room r.engine got (is_fenced (op_of r.engine)) refl answers
    ∙ (ap (λ (asked : List Request). asked ++ requests_at p i h (time_after_op p i (current_time r.keeper) (op_of r.engine)) (stage_after (op_of r.engine) stage) (engine_after r.engine got)) (asks_one (op_of r.engine) x (payload_of r.engine room) (current_time r.keeper) stage is)
    ∙ ap (λ (u : ℕ). request_for x (payload_of r.engine room) (current_time r.keeper) stage ∷ requests_at p i h u (stage_after (op_of r.engine) stage) (engine_after r.engine got)) (sym (arrived_time p i (op_of r.engine) x by r.keeper is latency)))

one_more : (laws : Laws) (r : Run) (x : Transfer) (made : List Request) (q : Request) (got : List ℕ) → next_of r.engine ≡ Asks x → length made ≡ r.engine.seq → length (made ++ q ∷ []) ≡ (engine_after r.engine got).seq
one_more laws r x made q got is count =
    length-append made (q ∷ [])
    ∙ (ap (λ (n : ℕ). n + 1) count
    ∙ sym (after_seq laws r.engine got 0 0 0 (is_fenced (op_of r.engine)) refl ∙ ap (λ (asked : List Request). r.engine.seq + length asked) (asks_one (op_of r.engine) x (payload_of r.engine 0) 0 0 is)))

-- whether what was asked for had no route
access_route : (p : Platform) (i : Initiator) (x : Transfer) (payload : PayloadView) (t g : ℕ) → has_no_route p i (request_for x payload t g) (request_for x payload t g).asked ≡ is_none (route_of p i x.address)
access_route p i x payload t g = grind (arith, common_steps)

pub filtered-push : (test : Request → Bool) (made : List Request) (q : Request) (b : Bool) → test q ≡ b → map refused_item (filter test (made ++ q ∷ [])) ≡ map refused_item (filter test made) ++ cond b (refused_item q ∷ []) []
filtered-push test made q b is =
    ap (map refused_item) (filter-append test made (q ∷ []))
    ∙ (map-append refused_item (filter test made) (filter test (q ∷ []))
    ∙ (ap (λ (c : Bool). map refused_item (filter test made) ++ map refused_item (cond c (q ∷ []) [])) is
    ∙ by_cases b))
  where
    by_cases : (b : Bool) → map refused_item (filter test made) ++ map refused_item (cond b (q ∷ []) []) ≡ map refused_item (filter test made) ++ cond b (refused_item q ∷ []) []
    by_cases true = refl
    by_cases false = refl

-- a transfer without a route
pub HasCome-unrouted : (laws : Laws) (p : Platform) (i : Initiator) (h : List Entry) (r : Run) (x : Transfer) (by room : ℕ) (got : List ℕ) → next_of r.engine ≡ Asks x → by ≡ latency_of p i x.address → route_of p i x.address ≡ None
    → ((m : List Entry) → is_fenced (op_of r.engine) ≡ true → IsAnswered p i m (op_of r.engine) got)
    → ((stage : ℕ) → refused_as x (current_time r.keeper) ≡ refused_item (request_for x (payload_of r.engine room) (current_time r.keeper) stage))
    → HasCome p i h r → HasCome p i h (accessed x by got (with_refusal x r))
HasCome-unrouted laws p i h r x by room got is latency nowhere answers told come =
    come_by p i h false after (stage_after op come.stage) (come.made ++ q ∷ [])
    (HasMade-unrouted p i h come.made q _ _ nowhere
    (λ m. left_after laws p i r x by come.stage room got is latency (h ++ m) (answers (h ++ m)))
    come.asked)
    (one_more laws r x come.made q got is come.count)
    (ap (λ (items : List RefusedItem). items ++ refused_as x t ∷ []) come.refused
    ∙ (ap (λ (item : RefusedItem). map refused_item (filter (λ y. has_no_route p i y y.asked) come.made) ++ item ∷ []) (told come.stage)
    ∙ sym (filtered-push (λ y. has_no_route p i y y.asked) come.made q true (access_route p i x (payload_of r.engine room) t come.stage ∙ ap (λ (o : Option Route). is_none o) nowhere))))
    (HasCounted-moved p i before op false (engine_after r.engine got) (arrived x.kind by r.keeper) (ap is_sync_part is) counted (leaves_after laws p i before x by got is latency))
    (after_proper (is_fenced op) r.engine got come.proper)
  where
    op : Op
    op = op_of r.engine

    t : ℕ
    t = current_time r.keeper

    q : Request
    q = request_for x (payload_of r.engine room) t come.stage

    before : Run
    before = with_refusal x r

    after : Run
    after = record before { engine = engine_after r.engine got; keeper = arrived x.kind by r.keeper }

    counted : HasCounted p i before
    counted = record {
      number = come.counted.number;
      quantum = come.counted.quantum;
      end = come.counted.end;
      syncs = come.counted.syncs;
      rounds = come.counted.rounds;
      numbers = come.counted.numbers;
      few = come.counted.few;
      roomy = come.counted.roomy;
    }

-- a transfer that this entry answers
pub HasCome-answered : (laws : Laws) (p : Platform) (i : Initiator) (h : List Entry) (e : Entry) (r : Run) (x : Transfer) (by room : ℕ) (got : List ℕ) (route : Route) → next_of r.engine ≡ Asks x → by ≡ latency_of p i x.address → route_of p i x.address ≡ Some route
    → e.txn.initiator ≡ i.number → e.txn.seq ≡ r.engine.seq → is_answer e.what ≡ true
    → ((m : List Entry) → has_answer i.number r.engine.seq h ≡ false → is_fenced (op_of r.engine) ≡ true → IsAnswered p i (h ++ (e ∷ m)) (op_of r.engine) got)
    → HasCome p i h r → HasCome p i (h ++ e ∷ []) (accessed x by got r)
HasCome-answered laws p i h e r x by room got route is latency leads mine number answer answers come =
    come_by p i (h ++ e ∷ []) false after (stage_after op come.stage) (come.made ++ q ∷ [])
    (HasMade-answered p i h e come.made q _ _ mine (number ∙ sym q_seq) (q_seq ∙ sym come.count) answer
    (λ m. left_after laws p i r x by come.stage room got is latency (h ++ (e ∷ m)) (answers m (come.asked.fresh r.engine.seq (omega (arith, come.count)))))
    come.asked)
    (one_more laws r x come.made q got is come.count)
    (come.refused ∙ sym (filtered-push (λ y. has_no_route p i y y.asked) come.made q false (access_route p i x (payload_of r.engine room) t come.stage ∙ ap (λ (o : Option Route). is_none o) leads) ∙ append_nil (map refused_item (filter (λ y. has_no_route p i y y.asked) come.made))))
    (HasCounted-moved p i r op false (engine_after r.engine got) (arrived x.kind by r.keeper) (ap is_sync_part is) come.counted (leaves_after laws p i r x by got is latency))
    (after_proper (is_fenced op) r.engine got come.proper)
  where
    op : Op
    op = op_of r.engine

    t : ℕ
    t = current_time r.keeper

    q : Request
    q = request_for x (payload_of r.engine room) t come.stage

    q_seq : q.seq ≡ r.engine.seq
    q_seq = seq_of_next r.engine x is

    after : Run
    after = record r { engine = engine_after r.engine got; keeper = arrived x.kind by r.keeper }
