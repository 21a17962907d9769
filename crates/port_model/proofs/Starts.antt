-- A port begins, settles its time, and passes what is no access.
use Rattle.std.proofs.Common.{subst, ◌≡◌, ◌⊎◌, ℕ, zero, suc, ◌+◌, ◌<◌, ◌≤◌, Bool, true, false, ◌&&◌, ◌*◌, IsTrue, cond, max, List, [], ◌∷◌, ◌++◌, length, Option, Some, None, refl, sym, ap, ◌∙◌, inl, inr, arith, get_or}
use Rattle.std.specs.Prelude.{slice_get}
use Rattle.std.proofs.lemmas.List.{append-nil, length-map}
use Rattle.std.proofs.lemmas.Option.{slice_get_within}
use Rattle.tlm_types.specs.declared.words.ObjectNo.{ObjectNo}
use Rattle.tlm_model.specs.Plan.{Plan, Initiator}
use Rattle.tlm_model.specs.Requests.{Request}
use Rattle.generic_payload.specs.Payload.{PayloadView}
use Rattle.flow_model.specs.Events.{Event}
use Rattle.flow_model.specs.Issue.{issues_from, settled}
use Rattle.joined_traffic.specs.Accesses.{sum_below}
use Rattle.script_engine.specs.declared.op.Op.{Op}
use Rattle.script_engine.specs.declared.part.Part.{Part}
use Rattle.script_engine.specs.declared.part.Part.TheVariants.{Pauses}
use Rattle.script_engine.specs.declared.part.Pause.{Pause}
use Rattle.script_engine.specs.Part.{is_fenced_part, part_of}
use Rattle.script_engine.specs.State.{is_fenced, next_of, op_of, passed_by, payload_of, told_by}
use Rattle.script_engine.specs.Asking.{asked_by, asked_by_part, requests_at, stage_after, stage_by, time_after_op, time_past_pause}
use Rattle.script_engine.proofs.Steps.{passes}
use Rattle.port_model.specs.Stages.{ahead, count_of, price}
use Rattle.port_model.specs.Stages.Stage.{Ahead, Back}
use Rattle.port_model.specs.Issues.{IsWaitingOp, IsWaitingPart, current_at, issues_at}
use Rattle.port_model.specs.Way.{Agrees, IsUnderWay, Port, pending, top}
use Rattle.port_model.specs.Laws.{HasPlanned}
use Rattle.port_model.proofs.IssueSteps.{in_order}
use Rattle.port_model.proofs.Sums.{part}
use Rattle.port_model.specs.Issues.{issue_by, issue_of, time_after, time_by, engine_after}
use Rattle.port_model.specs.Laws.{HasSettled}
use Rattle.port_model.proofs.Takes.{all_back, low_made, made_count, made_passed, q}
use Rattle.view_lists.proofs.Members.{has_none}
use Rattle.platform_shape.specs.Paths.{has_path, once}
use Rattle.route_plan.specs.Counted.{share_at}
use Rattle.port_model.proofs.PlainTakes.{false_is_true, true_false}
use Rattle.std.specs.Prelude.{sum_by}
use Rattle.std.specs.List.{flat_map, list_any}
use Rattle.std.proofs.lemmas.List.Sums.{sum_by-cons}
use Rattle.std.proofs.lemmas.Option.{slice_get_past}
use Rattle.tlm_types.specs.declared.words.ObjectNo.TheVariants.{Memory, Hop, Pool}
use Rattle.tlm_model.specs.declared.operation.Operation.{Operation}
use Rattle.tlm_model.specs.declared.platform.MemoryRow.{MemoryRow}
use Rattle.tlm_model.specs.declared.platform.Target.TheVariants as Target
use Rattle.tlm_model.specs.Scripts.{first_gate}
use Rattle.port_model.specs.Closings.{count_open, gates_given_by, invalidates_at, is_closed_at, open_gates}
use Rattle.tlm_model.specs.Actions.{asks_of}
use Rattle.tlm_model.specs.Plan.{initiators_of}
use Rattle.tlm_model.specs.Requests.{numbers_in}
use Rattle.tlm_model.proofs.RequestLemmas.{numbers_in_asks}
use Rattle.flow_model.specs.Platform.{accessed, addresses_of}
use Rattle.route_plan.specs.Counted.{share_by}
use Rattle.route_plan.specs.Planned.{asks_in, at_gates, gates_by, invalidates, is_direct, share_of}
use Rattle.script_engine.specs.State.{begun_engine}
use Rattle.script_engine.proofs.Steps.{begins}
use Rattle.port_model.specs.Stages.{price_by}
use Rattle.port_model.specs.Laws.{Begins, HasPlanned, HasSettled, PassesPause, Settles}
use Rattle.port_model.proofs.PlainTakes.{settled_here, settles_to}

module _ (p : Plan) (i : Initiator) (port : Port) (known : List Event) (seen : ℕ) (left : ObjectNo → ℕ)
    (u : IsUnderWay p i port known seen left) (quiet : port.waiting ≡ false) (none : length port.away ≡ 0) (o : IsWaitingOp (op_of port.engine)) where
  settles_p : IsUnderWay p i (record port { time = max port.time port.latest }) known seen left
  settles_p = record {
    made = u.made;
    mine = u.mine;
    stage = u.stage;
    step = u.step;
    below = u.below;
    asking = u.asking;
    issuing = record {
      issues = λ end a k. u.issuing.issues end a k
          ∙ ap (λ (l : List ℕ). get_or l k 0) (sym (in_order.settles end port.time port.engine o) ∙ ap (λ (t : ℕ). issues_at end t port.engine) (settles_to p i port known seen left u none quiet end a port.time));
      current = λ end a. u.issuing.current end a
          ∙ (sym (in_order.settles_current end port.time port.engine o) ∙ ap (λ (t : ℕ). current_at end t port.engine) (settles_to p i port known seen left u none quiet end a port.time));
      latest = u.issuing.latest;
      settled = λ w. false_is_true port.waiting quiet w;
    };
    staged = record { begun = u.staged.begun; ahead = u.staged.ahead; waits = u.staged.waits; back = u.staged.back; alone = u.staged.alone; under = u.staged.under; outstanding = u.staged.outstanding };
    has = u.has;
    accesses = u.accesses;
    tickets = u.tickets;
    returned = u.returned;
    closes = u.closes;
    refused = u.refused;
  }

pub settles_law : Settles
settles_law p i port known seen left u quiet none o = settles_p p i port known seen left u quiet none o

pause_waits : (op : Op) (pause : Pause) → part_of op ≡ Pauses pause → IsWaitingOp op
pause_waits op pause is = subst IsWaitingPart (sym is) tt

pause_free : (op : Op) (pause : Pause) → part_of op ≡ Pauses pause → is_fenced op ≡ false
pause_free op pause is = ap is_fenced_part is

pause_asks : (op : Op) (pause : Pause) (payload : PayloadView) (t g : ℕ) → part_of op ≡ Pauses pause → asked_by op payload t g ≡ []
pause_asks op pause payload t g is = ap (λ (part : Part). asked_by_part part payload t g) is

pause_issues : (op : Op) (pause : Pause) (t : ℕ) → part_of op ≡ Pauses pause → issue_of op t ≡ []
pause_issues op pause t is = ap (λ (part : Part). issue_by part t) is

pause_time : (op : Op) (pause : Pause) (t : ℕ) → part_of op ≡ Pauses pause → time_after op t ≡ time_past_pause pause t
pause_time op pause t is = ap (λ (part : Part). time_by part t) is

pause_stage : (op : Op) (pause : Pause) (g : ℕ) → part_of op ≡ Pauses pause → g ≤ stage_after op g
pause_stage op pause g is = subst (λ (part : Part). g ≤ stage_by part g) (sym is) (omega arith)

module _ (p : Plan) (i : Initiator) (port : Port) (known : List Event) (seen : ℕ) (left : ObjectNo → ℕ)
    (u : IsUnderWay p i port known seen left) (quiet : HasSettled port) (pause : Pause) (o : next_of port.engine ≡ Pauses pause) where
  seq_q : (passed_by port.engine).seq ≡ port.engine.seq
  seq_q =
      let z : port.engine.seq + 0 ≡ port.engine.seq = omega arith in
      passes.seq port.engine 4096 u.asking.blocking u.step (pause_free (op_of port.engine) pause o) ∙ (ap (λ (l : List Request). port.engine.seq + length l) (pause_asks (op_of port.engine) pause (payload_of port.engine 4096) u.asking.blocking u.step o) ∙ z)

  issues_q : (end : ℕ → ℕ) → Agrees u.stage end → issues_at end port.time port.engine ≡ issues_at end (time_after (op_of port.engine) port.time) (passed_by port.engine)
  issues_q end a =
      in_order.waiting end port.time port.engine [] (pause_waits (op_of port.engine) pause o) (settled_here p i port known seen left u quiet.none quiet.free quiet.settled end a)
      ∙ (ap (λ (l : List ℕ). l ++ issues_at end (time_after (op_of port.engine) port.time) (engine_after port.engine [])) (pause_issues (op_of port.engine) pause port.time o)
      ∙ ap (λ (b : Bool). issues_at end (time_after (op_of port.engine) port.time) (cond b (told_by port.engine []) (passed_by port.engine))) (pause_free (op_of port.engine) pause o))

  current_q : (end : ℕ → ℕ) → Agrees u.stage end → current_at end port.time port.engine ≡ current_at end (time_after (op_of port.engine) port.time) (passed_by port.engine)
  current_q end a =
      in_order.waiting_current end port.time port.engine [] (pause_waits (op_of port.engine) pause o) (settled_here p i port known seen left u quiet.none quiet.free quiet.settled end a)
      ∙ ap (λ (b : Bool). current_at end (time_after (op_of port.engine) port.time) (cond b (told_by port.engine []) (passed_by port.engine))) (pause_free (op_of port.engine) pause o)

  passes_then : IsUnderWay p i (record port { engine = passed_by port.engine; time = time_after (op_of port.engine) port.time }) known seen left
  passes_then = record {
    made = u.made;
    mine = u.mine;
    stage = u.stage;
    step = stage_after (op_of port.engine) u.step;
    below = u.below;
    asking = record {
      blocking = time_after_op p.platform i u.asking.blocking (op_of port.engine);
      passed = u.asking.passed;
      is_made = made_passed p i port known seen left u quiet.free ∙ (sym (append-nil u.asking.passed)
          ∙ ap (λ (l : List Request). u.asking.passed ++ l) (sym (ap (λ (b : Bool). pending b (passed_by port.engine) (time_after_op p.platform i u.asking.blocking (op_of port.engine)) (stage_after (op_of port.engine) u.step)) quiet.free)));
      asked = λ m. u.asking.asked m ∙ ap (λ (l : List Request). u.asking.passed ++ l) (
          passes.requests p.platform i (u.mine ++ m) u.asking.blocking u.step 4096 port.engine (pause_free (op_of port.engine) pause o)
          ∙ ap (λ (l : List Request). l ++ requests_at p.platform i (u.mine ++ m) (time_after_op p.platform i u.asking.blocking (op_of port.engine)) (stage_after (op_of port.engine) u.step) (passed_by port.engine)) (pause_asks (op_of port.engine) pause (payload_of port.engine 4096) u.asking.blocking u.step o));
      count = u.asking.count ∙ sym seq_q;
      fenced = λ w. false_is_true port.waiting quiet.free w;
      numbers = passes.numbers port.engine (pause_free (op_of port.engine) pause o) ∙ u.asking.numbers;
      low = λ j r e. (
          let l = low_made p i port known seen left u quiet.free j r e in
          let s = pause_stage (op_of port.engine) pause u.step o in
          let z : top port.waiting (stage_after (op_of port.engine) u.step) ≡ stage_after (op_of port.engine) u.step = ap (λ (b : Bool). top b (stage_after (op_of port.engine) u.step)) quiet.free in
          omega arith);
    };
    issuing = record {
      issues = λ end a k. ap (λ (n : ℕ). get_or (issues_from end 0 0 i.script) (n + k) 0) seq_q ∙ (u.issuing.issues end a k ∙ ap (λ (l : List ℕ). get_or l k 0) (issues_q end a));
      current = λ end a. u.issuing.current end a ∙ current_q end a;
      latest = u.issuing.latest;
      settled = λ w. false_is_true port.waiting quiet.free w;
    };
    staged = record {
      begun = u.staged.begun;
      ahead = u.staged.ahead;
      waits = λ w. false_is_true port.waiting quiet.free w;
      back = λ j r e less. all_back p i port known seen left u quiet.none quiet.free j (slice_get_within u.made j r e);
      alone = λ w. false_is_true port.waiting quiet.free w;
      under = u.staged.under;
      outstanding = u.staged.outstanding;
    };
    has = u.has;
    accesses = u.accesses;
    tickets = u.tickets;
    returned = u.returned;
    closes = u.closes;
    refused = u.refused;
  }

pub pause_passed : PassesPause
pause_passed p i port known seen left u quiet pause o =
    subst (λ (t : ℕ). IsUnderWay p i (record port { engine = passed_by port.engine; time = t }) known seen left) (pause_time (op_of port.engine) pause port.time o)
    (passes_then p i port known seen left u quiet pause o)

-- each sequence number has its address and its ask
pub numbers_count : (ops : List Operation) → numbers_in ops ≡ length (addresses_of ops)
numbers_count ops = numbers_in_asks ops ∙ sym (length-map (flat_map asks_of ops) accessed)

asks_count : (ops : List Operation) → length (flat_map asks_of ops) ≡ length (addresses_of ops)
asks_count ops = sym (length-map (flat_map asks_of ops) accessed)

sum_shift : (f : ℕ → ℕ) (n : ℕ) → sum_below f (suc n) ≡ f 0 + sum_below (λ k. f (suc k)) n
sum_shift f zero = let q : 0 + f 0 ≡ f 0 + 0 = omega arith in q
sum_shift f (suc n) = let r : sum_below f (suc n) ≡ f 0 + sum_below (λ k. f (suc k)) n = sum_shift f n in omega arith

sum_number : {X : Type 0} (f : Option X → ℕ) (xs : List X) → sum_below (λ k. f (slice_get xs k)) (length xs) ≡ sum_by (λ x. f (Some x)) xs
sum_number f [] = refl
sum_number f (x ∷ xs) =
    let r : sum_below (λ k. f (slice_get xs k)) (length xs) ≡ sum_by (λ y. f (Some y)) xs = sum_number f xs in
    let s : sum_below (λ k. f (slice_get (x ∷ xs) k)) (suc (length xs)) ≡ f (Some x) + sum_below (λ k. f (slice_get xs k)) (length xs) = sum_shift (λ k. f (slice_get (x ∷ xs) k)) (length xs) in
    let t : sum_by (λ y. f (Some y)) (x ∷ xs) ≡ f (Some x) + sum_by (λ y. f (Some y)) xs = sum_by-cons (λ y. f (Some y)) x xs in
    omega arith

prices : (p : Plan) (i : Initiator) (o : ObjectNo) → sum_below (λ s. price p i o s) (count_of i) ≡ sum_by (λ x. price_by p i o (Some x)) (asks_in i)
prices p i o = ap (sum_below (λ s. price p i o s)) (sym (asks_count i.script)) ∙ sum_number (price_by p i o) (asks_in i)

shares : (p : Plan) (i : Initiator) (o : ObjectNo) → sum_below (λ s. price p i o s) (count_of i) ≤ share_of p i o
unfolding share_of
shares p i (Memory m) = let q = prices p i (Memory m) in omega arith
shares p i (Hop n) = let q = prices p i (Hop n) in omega arith
shares p i (Pool n) = let q = prices p i (Pool n) in omega arith

no_ends : (n : ℕ) → 0 ≡ settled (λ s. 0) n 0
no_ends zero = refl
no_ends (suc n) = let r : 0 ≡ settled (λ s. 0) n 0 = no_ends n in omega arith

none_under : (n : ℕ) → 0 ≡ sum_below (λ s. 0) n
none_under zero = refl
none_under (suc n) = let r : 0 ≡ sum_below (λ s. 0) n = none_under n in omega arith

no_request : (r : Request) {A : Type 0} → None ≡ Some r → A
no_request r e = cc

not_less : (s : ℕ) → s < 0 → ⊥
not_less s l = omega arith

ahead_back : (end : ℕ) (calls : ℕ → ℕ) → Ahead ≡ Back end calls → ⊥
ahead_back end calls q = cc

-- at most all gates are open
opens : (closed : ℕ → Bool) (g n : ℕ) → count_open closed g n ≤ n
opens closed g zero = omega arith
opens closed g (suc n) = by (closed g) (opens closed (g + 1) n)
  where
    by : (b : Bool) → count_open closed (g + 1) n ≤ n → (cond b 0 1) + count_open closed (g + 1) n ≤ suc n
    by true l = omega arith
    by false l = omega arith

by_mul : (g c : ℕ) → g ≤ g * (c + 1)
by_mul g c = let e : g * (c + 1) ≡ g * c + g = grind arith in omega arith

-- who has an invalidation that is routed to a memory has the tickets of a closing for each of its gates
closing_tickets : (p : Plan) (i : Initiator) (m : ℕ) → invalidates_at p i m ≡ true → gates_given_by (slice_get p.platform.memories m) ≤ at_gates p i m
closing_tickets p i m is = by (slice_get p.platform.memories m)
  where
    by_dmi : (row : MemoryRow) (b : Bool) → cond b row.traits.gates 0 ≤ cond b (row.traits.gates * (once (is_direct i.row.style && has_path p.platform i.row (Target.Memory m)) + once (list_any (invalidates p i m) (asks_in i)))) 0
    by_dmi row false = omega arith
    by_dmi row true =
        subst (λ (n : ℕ). row.traits.gates ≤ row.traits.gates * (once (is_direct i.row.style && has_path p.platform i.row (Target.Memory m)) + n)) (sym (ap once is))
        (by_mul row.traits.gates (once (is_direct i.row.style && has_path p.platform i.row (Target.Memory m))))

    by : (o : Option MemoryRow) → gates_given_by o ≤ gates_by p i m o
    by None = omega arith
    by (Some row) = by_dmi row row.traits.dmi

share_closes : (p : Plan) (i : Initiator) (m : ℕ) → invalidates_at p i m ≡ true → sum_below (λ s. price p i (Memory m) s) (count_of i) + gates_given_by (slice_get p.platform.memories m) ≤ share_of p i (Memory m)
unfolding share_of
share_closes p i m is = let q = prices p i (Memory m) in let l = closing_tickets p i m is in omega arith

module _ (p : Plan) (i : Initiator) (left : ObjectNo → ℕ) (whole : (o : ObjectNo) → left o ≡ share_at p i.number o) (is : slice_get (initiators_of p) i.number ≡ Some i) where
  begun_closes : (m : ℕ) → IsTrue (invalidates_at p i m) → sum_below (λ s. ahead p i (Memory m) s Ahead) (count_of i) + open_gates p m [] ≤ left (Memory m)
  begun_closes m is_routed =
      let w = whole (Memory m) in
      let s : share_at p i.number (Memory m) ≡ share_of p i (Memory m) = ap (share_by p (Memory m)) is in
      let l = share_closes p i m is_routed in
      let g = opens (is_closed_at m []) (first_gate p.platform m) (gates_given_by (slice_get p.platform.memories m)) in
      omega arith

  begins_p : IsUnderWay p i (record { engine = begun_engine i.number i.script; waiting = false; time = 0; latest = 0; away = []; refused = [] }) [] 0 left
  begins_p = record {
    made = [];
    mine = [];
    stage = λ s. Ahead;
    step = 0;
    below = λ e m. absurd m;
    asking = record {
      blocking = 0;
      passed = [];
      is_made = refl;
      asked = λ m. sym (begins.requests p.platform i m i.number);
      count = refl;
      fenced = λ w. true_false (sym w);
      numbers = begins.numbers i i.number ∙ numbers_count i.script;
      low = λ j r e. no_request r e;
    };
    issuing = record {
      issues = λ end a k. (let z : 0 + k ≡ k = omega arith in ap (λ (n : ℕ). get_or (issues_from end 0 0 i.script) n 0) z);
      current = λ end a. refl;
      latest = no_ends (count_of i);
      settled = λ w. true_false (sym w);
    };
    staged = record {
      begun = λ s l e. not_less s l;
      ahead = λ s l. refl;
      waits = λ w. true_false (sym w);
      back = λ j r e l. no_request r e;
      alone = λ w. true_false (sym w);
      under = λ s m. absurd m;
      outstanding = none_under (count_of i);
    };
    has = record {
      within = λ e m. absurd (has_none e m);
      distinct = tt;
      own = λ e m. absurd (has_none e m);
      once = λ e f m n q a b. absurd (has_none e m);
      back = λ e m. absurd (has_none e m);
      served = λ e m. absurd (has_none e m);
      reads = λ e m n. absurd (has_none e m);
      closings = λ e m. absurd (has_none e m);
    };
    accesses = record {
      begun = λ s pass l q. absurd (not_less s l);
      returned = λ s pass end calls b q. absurd (ahead_back end calls b);
      no_end = λ s n. refl;
      replied = λ s r e b some. absurd b;
    };
    returned = λ n all y m. absurd (has_none y m);
    closes = λ m is_routed. begun_closes m is_routed;
    tickets = record {
      paid = λ o. (let w = whole o in omega arith);
      enough = λ o. (
          let w = whole o in
          let s : share_at p i.number o ≡ share_of p i o = ap (share_by p o) is in
          let l = shares p i o in
          omega arith);
    };
    refused = λ end a. refl;
  }

pub begins_law : Begins
begins_law p i left whole is = begins_p p i left whole is

pub planned : HasPlanned
planned p i port known seen left u quiet s o q = elim (less_or_not s (count_of i)) [
  | inl l ↦ (
      let b : ahead p i o s (u.stage s) ≤ sum_below (λ k. ahead p i o k (u.stage k)) (count_of i) = part (λ k. ahead p i o k (u.stage k)) s (count_of i) l in
      let z : ahead p i o s (u.stage s) ≡ price p i o s = ap (ahead p i o s) (u.staged.ahead s (let c = made_count p i port known seen left u quiet in omega arith)) in
      let e = u.tickets.enough o in
      omega arith)
  | inr g ↦ (
      let z : price p i o s ≡ 0 = ap (price_by p i o) (slice_get_past (asks_in i) s (let c = asks_count i.script in omega arith)) in
      omega arith)
]
  where
    less_or_not : (a b : ℕ) → (a < b) ⊎ (b ≤ a)
    less_or_not a b = grind arith
