-- Moves of a run without an entry.
use Rattle.std.proofs.Common.{◌≡◌, ℕ, suc, ◌+◌, ◌^◌, ◌<◌, ◌≤◌, List, [], ◌∷◌, length, Option, None, Bool, true, false, cond, refl, ap, sym, subst, ◌∙◌, arith}
use Rattle.std.specs.List.{filter}
use Rattle.std.proofs.lemmas.Grind.{common_steps}
use Rattle.std.specs.Prelude.{slice_get, MatchOption}
use Rattle.std.proofs.lemmas.Option.{MatchOption-at_some}
use Rattle.std.proofs.lemmas.List.{length-map}
use Rattle.tlm_model.specs.declared.operation.Operation.{Operation}
use Rattle.tlm_model.specs.Plan.{Plan, Initiator, initiators_of}
use Rattle.tlm_model.specs.Requests.{Request, numbers_in, has_no_route}
use Rattle.tlm_model.specs.Route.{route_of, latency_of}
use Rattle.script_engine.specs.declared.part.Part.TheVariants.{Asks, Pauses}
use Rattle.script_engine.specs.declared.part.Pause.{Pause}
use Rattle.script_engine.specs.declared.part.Transfer.{Transfer}
use Rattle.script_engine.specs.Part.{is_sync_pause, part_of}
use Rattle.script_engine.specs.State.{Due, State, next_of, op_at, op_of, is_fenced, payload_of, passed_by}
use Rattle.script_engine.proofs.States.{state}
use Rattle.script_engine.specs.Asking.{numbers_due}
use Rattle.script_engine.proofs.Steps.{fills, passes, told}
use Rattle.initiator_run.specs.Left.{asks_left, bytes_at, bytes_left, leads}
use Rattle.initiator_run.proofs.LeftLemmas.{bytes_after, cost_at, leads_nowhere, left_passed, left_after}
use Rattle.initiator_run.specs.Board.{SyncsOnce}
use Rattle.initiator_run.specs.Moves.{IsUnderWay, Keeps, steps_left}
use Rattle.initiator_run.specs.Run.{Run, accessed, passed, engine_after, refused_item, with_refusal, with_sync, waited, arrived}
use Rattle.initiator_run.proofs.AccessLemmas.{Laws, HasCome-unrouted, after_initiator}
use Rattle.initiator_run.proofs.CountLemmas.{with_sync_engine, with_sync_finished, with_sync_once, with_sync_round}
use Rattle.initiator_run.proofs.EndLemmas.{HasCome-finished, HasCome-round}
use Rattle.initiator_run.proofs.MoveLemmas.{HasCome-paused, passed_initiator}
use Rattle.initiator_run.proofs.ReplyLemmas.{unrouted_answers, refused_is_request}

pub laws : Laws
laws = record { passes = passes; told = told }

length-filter : {X : Type 0} (test : X → Bool) (xs : List X) → length (filter test xs) ≤ length xs
length-filter test [] = omega arith
length-filter test (x ∷ xs) = by_cases (test x) (length-filter test xs)
  where
    by_cases : (b : Bool) → length (filter test xs) ≤ length xs → length (cond b (x ∷ filter test xs) (filter test xs)) ≤ suc (length xs)
    by_cases true rest = omega arith
    by_cases false rest = omega arith

one_left : (s : ℕ) (due : Option Due) (ops : List Operation) (x : Transfer) → part_of (op_at s due ops) ≡ Asks x → 0 < numbers_due due + numbers_in ops
one_left s due ops x is = grind (arith, common_steps)

-- there is room for one more refusal
pub room_for_refusal : (p : Plan) (r : Run) (x : Transfer) → IsUnderWay p r → next_of r.engine ≡ Asks x → length r.refused.items < r.refused.room
room_for_refusal p r x way is =
    let come = way.come in
    let test : Request → Bool = λ q. has_no_route p.platform way.initiator q q.asked in
    let all : length r.refused.items ≡ length (filter test come.made) = ap length come.refused ∙ length-map (filter test come.made) refused_item in
    omega (arith, all, length-filter test come.made, come.count, come.counted.numbers, come.counted.roomy, one_left r.engine.seq r.engine.due r.engine.remaining x is)

pub passed_step : (pause : Pause) (r : Run) → (passed pause r).engine ≡ passed_by r.engine
passed_step pause r = with_sync_engine (is_sync_pause pause) (record r { engine = passed_by r.engine; keeper = waited pause r.keeper })

pub accessed_step : (x : Transfer) (by : ℕ) (got : List ℕ) (r : Run) → (accessed x by got r).engine ≡ engine_after r.engine got
accessed_step x by got r = with_sync_engine false (record r { engine = engine_after r.engine got; keeper = arrived x.kind by r.keeper })

pub accessed_initiator : (x : Transfer) (by : ℕ) (got : List ℕ) (r : Run) → (accessed x by got r).engine.initiator ≡ r.engine.initiator
accessed_initiator x by got r = ap (λ (e : State). e.initiator) (accessed_step x by got r) ∙ after_initiator (is_fenced (op_of r.engine)) r.engine got

pub accessed_finished : (x : Transfer) (by : ℕ) (got : List ℕ) (r : Run) → (accessed x by got r).finished ≡ r.finished
accessed_finished x by got r = with_sync_finished false (record r { engine = engine_after r.engine got; keeper = arrived x.kind by r.keeper })

pub accessed_round : (x : Transfer) (by : ℕ) (got : List ℕ) (r : Run) → (accessed x by got r).round ≡ r.round
accessed_round x by got r = with_sync_round false (record r { engine = engine_after r.engine got; keeper = arrived x.kind by r.keeper })

pub Keeps-same : (p : Plan) (r : Run) → Keeps p r r
Keeps-same p r = record { initiator = refl; come = λ i h mine come. come; left = λ i m mine. refl; bytes = λ i m. omega arith }

pub Keeps-finished : (p : Plan) (r : Run) (b : Bool) → Keeps p r (record r { finished = b })
Keeps-finished p r b = record { initiator = refl; come = λ i h mine come. HasCome-finished p.platform i h r b come; left = λ i m mine. refl; bytes = λ i m. omega arith }

pub Keeps-round : (p : Plan) (r new : Run) (n : ℕ) → new ≡ record r { round = n } → Keeps p r new
Keeps-round p r new n is = subst (Keeps p r) (sym is) (record { initiator = refl; come = λ i h mine come. HasCome-round p.platform i h r n come; left = λ i m mine. refl; bytes = λ i m. omega arith })

-- at most one sync is made
pub SyncsOnce-same : (r : Run) → SyncsOnce r r
SyncsOnce-same r = record { round = refl; more = omega arith; once = omega arith }

pub SyncsOnce-finished : (r : Run) (b : Bool) → SyncsOnce r (record r { finished = b })
SyncsOnce-finished r b = record { round = refl; more = omega arith; once = omega arith }

SyncsOnce-synced : (sync : Bool) (r : Run) → r.syncs < 2 ^ 64 → SyncsOnce r (with_sync sync r)
SyncsOnce-synced sync r few = record { round = with_sync_round sync r; more = (with_sync_once sync r few).0; once = (with_sync_once sync r few).1 }

pub SyncsOnce-by_pass : (r new : Run) (pause : Pause) → new ≡ passed pause r → r.syncs < 2 ^ 64 → SyncsOnce r new
SyncsOnce-by_pass r new pause run few = subst (SyncsOnce r) (sym run) (let next : Run = record r { engine = passed_by r.engine; keeper = waited pause r.keeper } in let once = SyncsOnce-synced (is_sync_pause pause) next few in record { round = once.round; more = once.more; once = once.once })

pub SyncsOnce-by_access : (r new : Run) (x : Transfer) (by : ℕ) (got : List ℕ) → new ≡ accessed x by got r → r.syncs < 2 ^ 64 → SyncsOnce r new
SyncsOnce-by_access r new x by got run few = subst (SyncsOnce r) (sym run) (let next : Run = record r { engine = engine_after r.engine got; keeper = arrived x.kind by r.keeper } in let once = SyncsOnce-synced false next few in record { round = once.round; more = once.more; once = once.once })

pub SyncsOnce-by_refusal : (r new : Run) (x : Transfer) (by : ℕ) (got : List ℕ) → new ≡ accessed x by got (with_refusal x r) → r.syncs < 2 ^ 64 → SyncsOnce r new
SyncsOnce-by_refusal r new x by got run few = let once = SyncsOnce-by_access (with_refusal x r) new x by got run few in record { round = once.round; more = once.more; once = once.once }

-- the syncs of a run that is under way are few
pub few_syncs : (p : Plan) (r : Run) → IsUnderWay p r → r.syncs < 2 ^ 64
few_syncs p r way = omega (arith, way.come.counted.syncs, way.come.counted.few)

pub Keeps-then : (p : Plan) (a b c : Run) → Keeps p a b → Keeps p b c → Keeps p a c
Keeps-then p a b c first second = record {
  initiator = second.initiator ∙ first.initiator;
  come = λ i h mine come. second.come i h (ap (slice_get (initiators_of p)) first.initiator ∙ mine) (first.come i h mine come);
  left = λ i m mine. second.left i m (ap (slice_get (initiators_of p)) first.initiator ∙ mine) ∙ first.left i m mine;
  bytes = λ i m. omega (arith, first.bytes i m, second.bytes i m);
}

pub Keeps-passed : (p : Plan) (r : Run) (pause : Pause) → next_of r.engine ≡ Pauses pause → Keeps p r (passed pause r)
Keeps-passed p r pause is = record {
  initiator = ap (λ (e : State). e.initiator) (passed_step pause r) ∙ passed_initiator r.engine r.engine.remaining;
  come = λ i h mine come. HasCome-paused p.platform i h r pause passes is come;
  left = λ i m mine. subst (λ (e : State). asks_left p i m e ≡ asks_left p i m r.engine) (sym (passed_step pause r)) (left_passed p i m r.engine pause is).0;
  bytes = λ i m. subst (λ (e : State). bytes_left p i m e ≤ bytes_left p i m r.engine) (sym (passed_step pause r)) (omega (arith, (left_passed p i m r.engine pause is).1));
}

pub Keeps-refused : (p : Plan) (r : Run) (x : Transfer) (by : ℕ) → next_of r.engine ≡ Asks x
    → MatchOption (slice_get (initiators_of p) r.engine.initiator) ⊥ (λ i. route_of p.platform i x.address ≡ None)
    → MatchOption (slice_get (initiators_of p) r.engine.initiator) ⊥ (λ i. by ≡ latency_of p.platform i x.address)
    → Keeps p r (accessed x by (payload_of r.engine 4096).bytes (with_refusal x r))
Keeps-refused p r x by is nowhere latency = record {
  initiator = accessed_initiator x by (payload_of r.engine 4096).bytes (with_refusal x r);
  come = λ i h mine come.
      let no_route : route_of p.platform i x.address ≡ None = MatchOption-at_some ⊥ (λ (i : Initiator). route_of p.platform i x.address ≡ None) i mine nowhere in
      HasCome-unrouted laws p.platform i h r x by 4096 (payload_of r.engine 4096).bytes is
      (MatchOption-at_some ⊥ (λ (i : Initiator). by ≡ latency_of p.platform i x.address) i mine latency) no_route
      (λ m waits. unrouted_answers p.platform i m 4096 r.engine x is no_route)
      (λ stage. refused_is_request _ stage 4096 r.engine x is)
      come;
  left = λ i m mine.
      let no_route : route_of p.platform i x.address ≡ None = MatchOption-at_some ⊥ (λ (i : Initiator). route_of p.platform i x.address ≡ None) i mine nowhere in
      let after : asks_left p i m (engine_after r.engine (payload_of r.engine 4096).bytes) + leads p i m x.address ≡ asks_left p i m r.engine = left_after p i m r.engine (payload_of r.engine 4096).bytes x is in
      let none : leads p i m x.address ≡ 0 = leads_nowhere p i m x.address no_route in
      subst (λ (e : State). asks_left p i m e ≡ asks_left p i m r.engine) (sym (accessed_step x by (payload_of r.engine 4096).bytes (with_refusal x r))) (omega arith);
  bytes = λ i m.
      let got = (payload_of r.engine 4096).bytes in
      let after : bytes_left p i m (engine_after r.engine got) + bytes_at p i m x.address (cost_at 4096 r.engine.due r.engine.remaining) ≡ bytes_left p i m r.engine = bytes_after p i m 4096 r.engine got x is (λ waits. (fills.transfer r.engine 4096 x is).1.sized) in
      subst (λ (e : State). bytes_left p i m e ≤ bytes_left p i m r.engine) (sym (accessed_step x by got (with_refusal x r))) (omega arith);
}

pub IsUnderWay-kept : (p : Plan) (old new : Run) → IsUnderWay p old → Keeps p old new → IsUnderWay p new
IsUnderWay-kept p old new way keeps = record {
  initiator = way.initiator;
  history = way.history;
  mine = ap (slice_get (initiators_of p)) keeps.initiator ∙ way.mine;
  come = keeps.come way.initiator way.history way.mine way.come;
}

fewer_paused : (n s : ℕ) (due : Option Due) (ops : List Operation) (b : Bool) (pause : Pause) → part_of (op_at s due ops) ≡ Pauses pause → steps_left (passed_by (state n s due ops b)) < steps_left (state n s due ops b)
fewer_paused n s due ops b pause is = grind (arith, common_steps)

pub fewer_after_pass : (r : Run) (pause : Pause) → next_of r.engine ≡ Pauses pause → steps_left (passed pause r).engine < steps_left r.engine
fewer_after_pass r pause is = subst (λ (e : State). steps_left e < steps_left r.engine) (sym (passed_step pause r)) (fewer_paused r.engine.initiator r.engine.seq r.engine.due r.engine.remaining r.engine.ended pause is)

fewer_transferred : (n s : ℕ) (due : Option Due) (ops : List Operation) (b : Bool) (got : List ℕ) (x : Transfer) → part_of (op_at s due ops) ≡ Asks x → steps_left (engine_after (state n s due ops b) got) < steps_left (state n s due ops b)
fewer_transferred n s due ops b got x is = grind (arith, common_steps)

pub fewer_after_access : (r : Run) (x : Transfer) (by : ℕ) (got : List ℕ) → next_of r.engine ≡ Asks x → steps_left (accessed x by got (with_refusal x r)).engine < steps_left r.engine
fewer_after_access r x by got is =
    subst (λ (e : State). steps_left e < steps_left r.engine) (sym (accessed_step x by got (with_refusal x r)))
    (fewer_transferred r.engine.initiator r.engine.seq r.engine.due r.engine.remaining r.engine.ended got x is)

pub Keeps-by_pass : (p : Plan) (r new : Run) (pause : Pause) → next_of r.engine ≡ Pauses pause → new ≡ passed pause r → Keeps p r new
Keeps-by_pass p r new pause is run = subst (λ (q : Run). Keeps p r q) (sym run) (Keeps-passed p r pause is)

pub fewer_by_pass : (r new : Run) (pause : Pause) → next_of r.engine ≡ Pauses pause → new ≡ passed pause r → steps_left new.engine < steps_left r.engine
fewer_by_pass r new pause is run = subst (λ (q : Run). steps_left q.engine < steps_left r.engine) (sym run) (fewer_after_pass r pause is)

pub Keeps-by_refusal : (p : Plan) (r new : Run) (x : Transfer) (by : ℕ) → next_of r.engine ≡ Asks x → new ≡ accessed x by (payload_of r.engine 4096).bytes (with_refusal x r)
    → MatchOption (slice_get (initiators_of p) r.engine.initiator) ⊥ (λ i. route_of p.platform i x.address ≡ None)
    → MatchOption (slice_get (initiators_of p) r.engine.initiator) ⊥ (λ i. by ≡ latency_of p.platform i x.address)
    → Keeps p r new
Keeps-by_refusal p r new x by is run nowhere latency = subst (λ (q : Run). Keeps p r q) (sym run) (Keeps-refused p r x by is nowhere latency)
