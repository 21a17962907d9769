-- A run at an invalidation, and after it.
use Rattle.std.proofs.Common.{◌≡◌, ℕ, ◌+◌, ◌^◌, ◌<◌, ◌≤◌, List, [], ◌∷◌, ◌++◌, length, map, Option, None, Bool, true, false, refl, ap, sym, subst, ◌∙◌, arith, length-append}
use Rattle.std.specs.List.{filter}
use Rattle.std.specs.Prelude.{slice_get, MatchOption}
use Rattle.std.proofs.lemmas.Grind.{common_steps}
use Rattle.std.proofs.lemmas.List.Sums.{sum_by-cons}
use Rattle.std.proofs.lemmas.Option.{MatchOption-at_some}
use Rattle.tlm_types.specs.declared.entry.Entry.{Entry}
use Rattle.tlm_model.specs.declared.operation.Operation.{Operation}
use Rattle.tlm_model.specs.declared.platform.Platform.{Platform}
use Rattle.tlm_model.specs.Plan.{Plan, Initiator, initiators_of}
use Rattle.tlm_model.specs.Requests.{Invalidation, Request, has_no_route}
use Rattle.tlm_model.specs.Route.{route_of}
use Rattle.tlm_model.specs.Scripts.{is_answer}
use Rattle.tlm_model.proofs.EachLemmas.{append_nil}
use Rattle.generic_payload.specs.Payload.{PayloadView}
use Rattle.quantum_keeper.specs.Keeper.{current_time}
use Rattle.script_engine.specs.declared.op.Op.{Op}
use Rattle.script_engine.specs.declared.op.Op.TheVariants as next
use Rattle.script_engine.specs.declared.part.Part.{Part}
use Rattle.script_engine.specs.declared.part.Part.TheVariants.{Asks, Pauses, Invalidates, Ends}
use Rattle.script_engine.specs.declared.part.Pause.TheVariants as pause
use Rattle.script_engine.specs.Part.{is_fenced_part, is_sync_part, part_of}
use Rattle.script_engine.specs.State.{Due, State, is_fenced, next_of, op_at, op_of, passed_by, payload_of}
use Rattle.script_engine.specs.Asking.{asked_by, asked_by_part, requests_at, stage_after, time_after_op, time_by_part}
use Rattle.script_engine.proofs.States.{state}
use Rattle.script_engine.proofs.Steps.{passes}
use Rattle.initiator_run.specs.Board.{SyncsOnce}
use Rattle.initiator_run.specs.Come.{HasCome}
use Rattle.initiator_run.specs.Left.{asks_left, bytes_left, leads}
use Rattle.initiator_run.specs.declared.run.NextInvalidation.{NextInvalidation}
use Rattle.initiator_run.specs.Moves.{HasToInvalidate, IsInvalidation, Keeps, steps_left}
use Rattle.initiator_run.specs.Run.{Run, invalidated, refused_item}
use Rattle.initiator_run.specs.Steps.{StepsOnce}
use Rattle.initiator_run.proofs.AccessLemmas.{filtered-push}
use Rattle.initiator_run.proofs.ComeLemmas.{HasMade-answered, HasMade-unrouted}
use Rattle.initiator_run.proofs.CountLemmas.{HasCounted-moved, Leaves, with_sync_finished}
use Rattle.initiator_run.proofs.LeftLemmas.{leads_nowhere}
use Rattle.initiator_run.proofs.MoveLemmas.{come_by, passed_initiator, passed_proper}
use Rattle.initiator_run.proofs.OnceLemmas.{StepsOnce-unfenced}
use Rattle.initiator_run.proofs.RoundLemmas.{rounds_passed}
use Rattle.initiator_run.proofs.RunLemmas.{SyncsOnce-by_pass, passed_step}

unfenced_part : (part : Part) → IsInvalidation part → is_fenced_part part ≡ false
unfenced_part (Invalidates s a n) is = refl
unfenced_part (Asks x) is = absurd is
unfenced_part (Pauses x) is = absurd is
unfenced_part Ends is = absurd is

-- an engine doesn't wait for the reply to an invalidation
pub unfenced_invalidation : (e : State) → IsInvalidation (next_of e) → is_fenced (op_of e) ≡ false
unfenced_invalidation e is = unfenced_part (next_of e) is

-- an invalidation that is next has the next number
seq_at : (s q a n : ℕ) (due : Option Due) (ops : List Operation) → part_of (op_at s due ops) ≡ Invalidates q a n → q ≡ s
seq_at s q a n due ops is = grind (arith, common_steps)

pub numbered_invalidation : (e : State) (q a n : ℕ) → Invalidates q a n ≡ next_of e → next_of e ≡ Invalidates e.seq a n
numbered_invalidation e q a n is =
    let same : q ≡ e.seq = seq_at e.seq q a n e.due e.remaining (sym is) in
    sym is ∙ ap (λ (s : ℕ). Invalidates s a n) same

-- an invalidation is none of an engine that has no more to do
pub invalidation_is_not_done : (op : Op) (s a n : ℕ) → part_of op ≡ Invalidates s a n → op ≡ next.Done → ⊥
invalidation_is_not_done op s a n is done =
    let ends : part_of op ≡ Ends = ap part_of done in
    cc

left_at : (p : Plan) (i : Initiator) (m k s a n : ℕ) (due : Option Due) (ops : List Operation) (b : Bool) → part_of (op_at s due ops) ≡ Invalidates s a n
    → (asks_left p i m (passed_by (state k s due ops b)) + leads p i m a ≡ asks_left p i m (state k s due ops b)) × (bytes_left p i m (passed_by (state k s due ops b)) ≡ bytes_left p i m (state k s due ops b))
left_at p i m k s a n due ops b is = grind (arith, common_steps, sum_by-cons)

-- an invalidation is asked for once, and logs nothing
pub left_invalidated : (p : Plan) (i : Initiator) (m a n : ℕ) (e : State) → next_of e ≡ Invalidates e.seq a n
    → (asks_left p i m (passed_by e) + leads p i m a ≡ asks_left p i m e) × (bytes_left p i m (passed_by e) ≡ bytes_left p i m e)
left_invalidated p i m a n e is = left_at p i m e.initiator e.seq a n e.due e.remaining e.ended is

-- the request of an invalidation at this time and stage
abbrev pub request_to_invalidate : ℕ → ℕ → ℕ → ℕ → ℕ → Request
request_to_invalidate s a n t g = record { seq = s; address = a; asked = Invalidation n; time = t; stage = g + 1 }

module _ (p : Platform) (i : Initiator) (r : Run) (a n : ℕ) (is : next_of r.engine ≡ Invalidates r.engine.seq a n) where
  abbrev op : Op
  op = op_of r.engine

  abbrev t : ℕ
  t = current_time r.keeper

  abbrev e : State
  e = passed_by r.engine

  abbrev after : Run
  after = record r { engine = e; keeper = r.keeper }

  abbrev q : ℕ → Request
  q stage = request_to_invalidate r.engine.seq a n t stage

  unfenced : is_fenced op ≡ false
  unfenced = ap is_fenced_part is

  time : t ≡ time_after_op p i t op
  time = sym (ap (time_by_part p i t) is)

  asks_one : (payload : PayloadView) (u g : ℕ) → asked_by op payload u g ≡ request_to_invalidate r.engine.seq a n u g ∷ []
  asks_one payload u g = ap (λ (part : Part). asked_by_part part payload u g) is

  -- its request comes first, whatever is answered
  pub left_after : (h : List Entry) (stage : ℕ) → requests_at p i h t stage r.engine ≡ q stage ∷ requests_at p i h t (stage_after op stage) e
  left_after h stage =
      passes.requests p i h t stage 0 r.engine unfenced
      ∙ (ap (λ (x : List Request). x ++ requests_at p i h (time_after_op p i t op) (stage_after op stage) e) (asks_one (payload_of r.engine 0) t stage)
      ∙ ap (λ (x : ℕ). q stage ∷ requests_at p i h x (stage_after op stage) e) (sym time))

  one_more : (made : List Request) (x : Request) → length made ≡ r.engine.seq → length (made ++ x ∷ []) ≡ (e).seq
  one_more made x count =
      length-append made (x ∷ [])
      ∙ (ap (λ (k : ℕ). k + 1) count
      ∙ sym (passes.seq r.engine 0 t 0 unfenced ∙ ap (λ (asked : List Request). r.engine.seq + length asked) (asks_one (payload_of r.engine 0) t 0)))

  leaves : Leaves p i r op e r.keeper
  leaves = record {
    initiator = passed_initiator r.engine r.engine.remaining;
    quantum = refl;
    last_sync = refl;
    time = time;
    end = passes.end p i t r.engine unfenced;
    syncs = passes.syncs p i r.keeper.last_sync t r.engine unfenced (invalidation_is_not_done op r.engine.seq a n is);
    seq = omega (arith, passes.seq r.engine 0 t 0 unfenced);
    rounds = λ s. rounds_passed p i r.keeper.last_sync t s r.engine unfenced (invalidation_is_not_done op r.engine.seq a n is);
    numbers = passes.numbers r.engine unfenced;
  }

  -- it isn't among what had no route
  refused_same : (made : List Request) (stage : ℕ) → map refused_item (filter (λ y. has_no_route p i y y.asked) made) ≡ map refused_item (filter (λ y. has_no_route p i y y.asked) (made ++ q stage ∷ []))
  refused_same made stage = sym (filtered-push (λ y. has_no_route p i y y.asked) made (q stage) false refl ∙ append_nil (map refused_item (filter (λ y. has_no_route p i y y.asked) made)))

  -- without a route it is passed over
  pub HasCome-passed_over : (h : List Entry) → route_of p i a ≡ None → HasCome p i h r → HasCome p i h (invalidated r)
  HasCome-passed_over h nowhere come =
      come_by p i h false after (stage_after op come.stage) (come.made ++ q come.stage ∷ [])
      (HasMade-unrouted p i h come.made (q come.stage) _ _ nowhere (λ m. left_after (h ++ m) come.stage) come.asked)
      (one_more come.made (q come.stage) come.count)
      (come.refused ∙ refused_same come.made come.stage)
      (HasCounted-moved p i r op false e r.keeper (ap is_sync_part is) come.counted leaves)
      (passed_proper r.engine r.engine.remaining refl come.proper)

  -- with one this entry answers it
  pub HasCome-invalidated : (h : List Entry) (x : Entry) → x.txn.initiator ≡ i.number → x.txn.seq ≡ r.engine.seq → is_answer x.what ≡ true → HasCome p i h r → HasCome p i (h ++ x ∷ []) (invalidated r)
  HasCome-invalidated h x mine number answer come =
      come_by p i (h ++ x ∷ []) false after (stage_after op come.stage) (come.made ++ q come.stage ∷ [])
      (HasMade-answered p i h x come.made (q come.stage) _ _ mine number (sym come.count) answer (λ m. left_after (h ++ (x ∷ m)) come.stage) come.asked)
      (one_more come.made (q come.stage) come.count)
      (come.refused ∙ refused_same come.made come.stage)
      (HasCounted-moved p i r op false e r.keeper (ap is_sync_part is) come.counted leaves)
      (passed_proper r.engine r.engine.remaining refl come.proper)

pub Keeps-passed_over : (p : Plan) (r new : Run) (a n : ℕ) → next_of r.engine ≡ Invalidates r.engine.seq a n → new ≡ invalidated r
    → MatchOption (slice_get (initiators_of p) r.engine.initiator) ⊥ (λ i. route_of p.platform i a ≡ None) → Keeps p r new
Keeps-passed_over p r new a n is run nowhere = subst (Keeps p r) (sym run) (record {
  initiator = ap (λ (e : State). e.initiator) (passed_step pause.Fence r) ∙ passed_initiator r.engine r.engine.remaining;
  come = λ i h mine come. HasCome-passed_over p.platform i r a n is h (MatchOption-at_some ⊥ (λ (i : Initiator). route_of p.platform i a ≡ None) i mine nowhere) come;
  left = λ i m mine.
      let none : leads p i m a ≡ 0 = leads_nowhere p i m a (MatchOption-at_some ⊥ (λ (i : Initiator). route_of p.platform i a ≡ None) i mine nowhere) in
      let after = (left_invalidated p i m a n r.engine is).0 in
      subst (λ (e : State). asks_left p i m e ≡ asks_left p i m r.engine) (sym (passed_step pause.Fence r)) (omega arith);
  bytes = λ i m.
      let same = (left_invalidated p i m a n r.engine is).1 in
      subst (λ (e : State). bytes_left p i m e ≤ bytes_left p i m r.engine) (sym (passed_step pause.Fence r)) (omega arith);
})

pub SyncsOnce-invalidated : (r new : Run) → new ≡ invalidated r → r.syncs < 2 ^ 64 → SyncsOnce r new
SyncsOnce-invalidated r new run few = SyncsOnce-by_pass r new pause.Fence run few

pub StepsOnce-invalidated : (r new : Run) → is_fenced (op_of r.engine) ≡ false → new ≡ invalidated r → StepsOnce r.engine new.engine
StepsOnce-invalidated r new unfenced run = StepsOnce-unfenced r new unfenced (ap (λ (q : Run). q.engine) run ∙ passed_step pause.Fence r)

-- what is next for a run that is to invalidate
pub is_invalidation : (p : Plan) (r : Run) (x : NextInvalidation) → HasToInvalidate p r x → IsInvalidation (next_of r.engine)
is_invalidation p r x reached = subst IsInvalidation (sym reached.next) tt

pub initiator_invalidated : (r new : Run) → new ≡ invalidated r → new.engine.initiator ≡ r.engine.initiator
initiator_invalidated r new run = ap (λ (q : Run). q.engine.initiator) run ∙ (ap (λ (e : State). e.initiator) (passed_step pause.Fence r) ∙ passed_initiator r.engine r.engine.remaining)

pub finished_invalidated : (r new : Run) → new ≡ invalidated r → new.finished ≡ r.finished
finished_invalidated r new run = ap (λ (q : Run). q.finished) run ∙ with_sync_finished false (record r { engine = passed_by r.engine; keeper = r.keeper })

fewer_at : (k s a n : ℕ) (due : Option Due) (ops : List Operation) (b : Bool) → part_of (op_at s due ops) ≡ Invalidates s a n → steps_left (passed_by (state k s due ops b)) < steps_left (state k s due ops b)
fewer_at k s a n due ops b is = grind (arith, common_steps)

pub fewer_invalidated : (r new : Run) (a n : ℕ) → next_of r.engine ≡ Invalidates r.engine.seq a n → new ≡ invalidated r → steps_left new.engine < steps_left r.engine
fewer_invalidated r new a n is run =
    subst (λ (e : State). steps_left e < steps_left r.engine) (sym (ap (λ (q : Run). q.engine) run ∙ passed_step pause.Fence r))
    (fewer_at r.engine.initiator r.engine.seq a n r.engine.due r.engine.remaining r.engine.ended is)
