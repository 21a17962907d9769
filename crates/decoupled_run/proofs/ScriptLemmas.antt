-- Where an engine stands in its script, as it goes on.
use Rattle.std.proofs.Common.{◌≡◌, ◌⊎◌, ℕ, zero, suc, ◌+◌, ◌-◌, ◌<◌, ◌≤◌, Bool, true, false, cond, nat_lt, List, [], ◌∷◌, ◌++◌, length, Option, Some, None, refl, ap, sym, subst, ◌∙◌, inl, inr, arith, append_assoc}
use Rattle.std.specs.List.{AllByRecursion}
use Rattle.std.specs.Prelude.{slice_get}
use Rattle.std.proofs.Math.ListN.{length-replicate}
use Rattle.std.proofs.lemmas.Bool.Decides.{nat_tests}
use Rattle.std.proofs.lemmas.Grind.{common_steps}
use Rattle.tlm_types.specs.declared.entry.Entry.{Entry}
use Rattle.tlm_model.specs.declared.operation.Operation.{Operation}
use Rattle.tlm_model.specs.declared.operation.Operation.TheVariants.{Write, Read, Ignore, Debug, Copy, Add, FetchAdd, Wait, Sync, Fence, Invalidate}
use Rattle.tlm_model.specs.declared.platform.Platform.{Platform}
use Rattle.tlm_model.specs.Plan.{Initiator}
use Rattle.tlm_model.specs.Requests.{Asked, DebugRead, Invalidation, Request, Transport, added, answered, buffer_by, buffer_of, numbers_of, requests_from, requests_of, using, write_of}
use Rattle.tlm_model.specs.Route.{Route, later, latency_of, route_of}
use Rattle.tlm_model.specs.Scripts.{has_answer}
use Rattle.tlm_model.specs.Store.{zeros}
use Rattle.good_history.specs.Plain.{is_plain_at, makes_plain}
use Rattle.region_object.specs.Call.{IsReadOrWrite}
use Rattle.traffic_script.specs.Proper.{IsProper}
use Rattle.quantum_keeper.specs.Keeper.{current_time}
use Rattle.script_engine.specs.declared.part.Part.TheVariants.{Asks}
use Rattle.script_engine.specs.declared.part.Transfer.{Transfer}
use Rattle.script_engine.specs.Part.{command_in, is_fenced_kind, is_fenced_part, is_plain_kind, part_of}
use Rattle.script_engine.specs.State.{Due, State, begun_engine, due_after, is_fenced, next_of, op_at, op_of, passed_by, told_by}
use Rattle.script_engine.specs.Asking.{due_request, requests_at}
use Rattle.script_engine.proofs.States.{state}
use Rattle.initiator_run.specs.Come.{HasCome}
use Rattle.initiator_run.specs.Run.{Run, engine_after}
use Rattle.initiator_run.specs.Steps.{StepsOnce}
use Rattle.initiator_run.proofs.AnswerLemmas.{answered-fresh}
use Rattle.initiator_run.proofs.StepLemmas.{slice_get-after}
use Rattle.decoupled_run.specs.Script.{HasBytes, IsInScript, is_plain_ahead}

-- a new engine stands at the start
pub begins_in_script : (i : Initiator) (n : ℕ) → IsInScript i (begun_engine n i.script)
begins_in_script i n = record { plain = λ k. ap (is_plain_at i.script) (front k); due = tt; before = []; whole = refl }
  where
    front : (k : ℕ) → 0 + k ≡ k
    front k = omega arith

not_below : (a b : ℕ) → b ≤ a → nat_lt a b ≡ false
not_below a b is = grind (arith, nat_tests)

-- what comes after an operation
past_op : (op : Operation) (ops : List Operation) (k : ℕ) → is_plain_at (op ∷ ops) (numbers_of op + k) ≡ is_plain_at ops k
past_op op ops k =
    ap (λ (c : Bool). cond c (makes_plain op) (is_plain_at ops (numbers_of op + k - numbers_of op))) (not_below (numbers_of op + k) (numbers_of op) (omega arith))
    ∙ ap (is_plain_at ops) back
  where
    back : numbers_of op + k - numbers_of op ≡ k
    back = omega arith

-- after anything that the engine doesn't wait for
pub passed_stands : (i : Initiator) (n s : ℕ) (due : Option Due) (ops : List Operation) (b : Bool) → is_fenced (op_at s due ops) ≡ false → IsInScript i (state n s due ops b) → IsInScript i (passed_by (state n s due ops b))
passed_stands i n s (Some w) ops b unfenced is = absurd (let wrong : true ≡ false = unfenced in cc)
passed_stands i n s None [] b unfenced is = is
passed_stands i n s None (op ∷ ops) b unfenced is = record {
  plain = λ k. ap (is_plain_at i.script) (along k) ∙ (is.plain (numbers_of op + k) ∙ past_op op ops k);
  due = tt;
  before = is.before ++ op ∷ [];
  whole = is.whole ∙ sym (append_assoc is.before (op ∷ []) ops);
}
  where
    along : (k : ℕ) → s + numbers_of op + k ≡ s + (numbers_of op + k)
    along k = omega arith

two_ahead : (op : Operation) (ops : List Operation) (k : ℕ) → numbers_of op ≡ 2 → makes_plain op ≡ true → is_plain_at (op ∷ ops) (suc k) ≡ is_plain_ahead (Some (record { address = 0; bytes = [] })) ops k
two_ahead op ops zero two plain =
    ap (λ (n : ℕ). cond (nat_lt 1 n) (makes_plain op) (is_plain_at ops (1 - n))) two ∙ plain
two_ahead op ops (suc k) two plain = ap (is_plain_at (op ∷ ops)) (omega (arith, two)) ∙ past_op op ops k

ahead_any : (v w : Due) (ops : List Operation) (k : ℕ) → is_plain_ahead (Some v) ops k ≡ is_plain_ahead (Some w) ops k
ahead_any v w ops zero = refl
ahead_any v w ops (suc k) = refl

-- what comes after a first access that the engine waits for
told_ahead : (s : ℕ) (op : Operation) (ops : List Operation) (got : List ℕ) (k : ℕ) → is_fenced (op_at s None (op ∷ ops)) ≡ true → is_plain_at (op ∷ ops) (1 + k) ≡ is_plain_ahead (due_after op got) ops k
told_ahead s (Copy from to n) ops got k fenced =
    ap (is_plain_at (Copy from to n ∷ ops)) (omega arith)
    ∙ (two_ahead (Copy from to n) ops k refl refl ∙ ahead_any (record { address = 0; bytes = [] }) (record { address = to; bytes = got }) ops k)
told_ahead s (Add a n) ops got k fenced =
    ap (is_plain_at (Add a n ∷ ops)) (omega arith)
    ∙ (two_ahead (Add a n) ops k refl refl ∙ ahead_any (record { address = 0; bytes = [] }) (record { address = a; bytes = added got n }) ops k)
told_ahead s (FetchAdd a n) ops got k fenced = past_op (FetchAdd a n) ops k
told_ahead s (Write a bytes enables width) ops got k fenced = absurd (let wrong : false ≡ true = fenced in cc)
told_ahead s (Read a n enables width) ops got k fenced = absurd (let wrong : false ≡ true = fenced in cc)
told_ahead s (Ignore a) ops got k fenced = absurd (let wrong : false ≡ true = fenced in cc)
told_ahead s (Debug a n) ops got k fenced = absurd (let wrong : false ≡ true = fenced in cc)
told_ahead s (Wait n) ops got k fenced = absurd (let wrong : false ≡ true = fenced in cc)
told_ahead s Sync ops got k fenced = absurd (let wrong : false ≡ true = fenced in cc)
told_ahead s Fence ops got k fenced = absurd (let wrong : false ≡ true = fenced in cc)
told_ahead s (Invalidate a n) ops got k fenced = absurd (let wrong : false ≡ true = fenced in cc)

-- after an access that the engine waits for
told_stands : (i : Initiator) (n s : ℕ) (due : Option Due) (ops : List Operation) (b : Bool) (got : List ℕ) → is_fenced (op_at s due ops) ≡ true → HasBytes (told_by (state n s due ops b) got).due → IsInScript i (state n s due ops b) → IsInScript i (told_by (state n s due ops b) got)
told_stands i n s (Some w) ops b got fenced some is = record { plain = λ k. ap (is_plain_at i.script) (along k) ∙ is.plain (suc k); due = tt; before = is.before; whole = is.whole }
  where
    along : (k : ℕ) → s + 1 + k ≡ s + suc k
    along k = omega arith
told_stands i n s None [] b got fenced some is = absurd (let wrong : false ≡ true = fenced in cc)
told_stands i n s None (op ∷ ops) b got fenced some is = record {
  plain = λ k. ap (is_plain_at i.script) (along k) ∙ (is.plain (1 + k) ∙ told_ahead s op ops got k fenced);
  due = some;
  before = is.before ++ op ∷ [];
  whole = is.whole ∙ sym (append_assoc is.before (op ∷ []) ops);
}
  where
    along : (k : ℕ) → s + 1 + k ≡ s + (1 + k)
    along k = omega arith

-- after what is next, where a write that becomes due has some bytes
pub stands_after : (i : Initiator) (e : State) (got : List ℕ) → HasBytes (told_by e got).due → IsInScript i e → IsInScript i (engine_after e got)
stands_after i e got some is = by (is_fenced (op_of e)) refl
  where
    by : (f : Bool) → is_fenced (op_of e) ≡ f → IsInScript i (cond f (told_by e got) (passed_by e))
    by true fenced = told_stands i e.initiator e.seq e.due e.remaining e.ended got fenced some is
    by false unfenced = passed_stands i e.initiator e.seq e.due e.remaining e.ended unfenced is

-- whether what is next is plain
ahead_is : (s : ℕ) (due : Option Due) (ops : List Operation) (x : Transfer) → part_of (op_at s due ops) ≡ Asks x → is_plain_ahead due ops 0 ≡ is_plain_kind x.kind
ahead_is s due ops x next = grind (arith, common_steps)

pub plain_next : (i : Initiator) (e : State) (x : Transfer) → IsInScript i e → next_of e ≡ Asks x → is_plain_at i.script e.seq ≡ is_plain_kind x.kind
plain_next i e x is next = ap (is_plain_at i.script) here ∙ (is.plain 0 ∙ ahead_is e.seq e.due e.remaining x next)
  where
    here : e.seq ≡ e.seq + 0
    here = omega arith

-- a plain access has some bytes, and reads or writes
some_at : (s : ℕ) (due : Option Due) (ops : List Operation) (x : Transfer) → part_of (op_at s due ops) ≡ Asks x → HasBytes due → AllByRecursion IsProper ops → is_plain_kind x.kind ≡ true → 0 < x.length
some_at s due ops x next has proper plain = grind (arith, common_steps)

pub plain_has_bytes : (i : Initiator) (e : State) (x : Transfer) → IsInScript i e → AllByRecursion IsProper e.remaining → next_of e ≡ Asks x → is_plain_kind x.kind ≡ true → 0 < x.length
plain_has_bytes i e x is proper next plain = some_at e.seq e.due e.remaining x next is.due proper plain

moves_at : (s : ℕ) (due : Option Due) (ops : List Operation) (x : Transfer) → part_of (op_at s due ops) ≡ Asks x → is_plain_kind x.kind ≡ true → IsReadOrWrite (command_in x.kind)
moves_at s due ops x next plain = grind (arith, common_steps)

pub plain_moves : (e : State) (x : Transfer) → next_of e ≡ Asks x → is_plain_kind x.kind ≡ true → IsReadOrWrite (command_in x.kind)
plain_moves e x next plain = moves_at e.seq e.due e.remaining x next plain

-- a write that becomes due after as many bytes as were asked for has some
due_at : (n s : ℕ) (due : Option Due) (ops : List Operation) (b : Bool) (x : Transfer) (got : List ℕ) → part_of (op_at s due ops) ≡ Asks x → AllByRecursion IsProper ops → (is_fenced_kind x.kind ≡ true → length got ≡ x.length) → HasBytes (told_by (state n s due ops b) got).due
due_at n s (Some w) ops b x got next proper whole = tt
due_at n s None [] b x got next proper whole = tt
due_at n s None (Copy from to m ∷ ops) b x got next proper whole =
    let same : x.length ≡ m = cc in
    let counted = whole (sym (ap is_fenced_part next)) in
    let many = proper.0.2.some in
    omega arith
due_at n s None (Add a m ∷ ops) b x got next proper whole = omega arith
due_at n s None (op ∷ ops) b x got next proper whole = tt

pub due_has_bytes : (e : State) (x : Transfer) (got : List ℕ) → next_of e ≡ Asks x → AllByRecursion IsProper e.remaining → (is_fenced_kind x.kind ≡ true → length got ≡ x.length) → HasBytes (told_by e got).due
due_has_bytes e x got next proper whole = due_at e.initiator e.seq e.due e.remaining e.ended x got next proper whole

-- the element after the next one, past a list's beginning
past_front : (xs ys : List Request) → slice_get (xs ++ ys) (length xs + 1) ≡ slice_get ys 1
past_front [] ys = refl
past_front (x ∷ xs) ys = ap (slice_get (x ∷ (xs ++ ys))) next ∙ past_front xs ys
  where
    next : length (x ∷ xs) + 1 ≡ suc (length xs + 1)
    next = omega arith

abbrev sent_in : Asked → List ℕ
sent_in (Transport a) = a.sent
sent_in (DebugRead a) = []
sent_in (Invalidation n) = []

-- A write that became due without an entry has as many bytes as were to be read: its bytes are those of the request in the history, which hasn't
-- answered the read.
module _ (p : Platform) (i : Initiator) (h : List Entry) (n s from to m : ℕ) (ops : List Operation) (b : Bool) (got : List ℕ) where
  abbrev before : State
  before = state n s None (Copy from to m ∷ ops) b

  -- what the read that no entry answers may get
  unanswered : (bytes : List ℕ) → buffer_of p i (h ++ []) s from m ≡ Some bytes → has_answer i.number s h ≡ false → length bytes ≡ m
  unanswered bytes is fresh = by (route_of p i from) refl
    where
      by : (route : Option Route) → route_of p i from ≡ route → length bytes ≡ m
      by None nowhere =
          let zero_bytes : Some (zeros m) ≡ Some bytes = sym (ap (λ (r : Option Route). buffer_by r m i.number s (h ++ [])) nowhere) ∙ is in
          let same : zeros m ≡ bytes = cc in
          ap length (sym same) ∙ length-replicate m 0
      by (Some r) there =
          let none : answered i.number s (h ++ []) ≡ None = answered-fresh i.number s h [] fresh in
          let wrong : None ≡ Some bytes = sym none ∙ (sym (ap (λ (r : Option Route). buffer_by r m i.number s (h ++ [])) there) ∙ is) in
          absurd (cc (wrong))

  abbrev rest_of : ℕ → ℕ → List ℕ → List Request
  rest_of t g bytes =
      record { seq = s + 1; address = to; asked = Transport (write_of bytes [] m); time = later t (latency_of p i from); stage = g + 2 }
      ∷ requests_from p i (h ++ []) (s + 2) (later (later t (latency_of p i from)) (latency_of p i to)) (g + 3) ops

  quiet_copy : (t g u k : ℕ) (made more : List Request) → requests_of p i (h ++ []) ≡ made ++ requests_at p i (h ++ []) t g before → length made ≡ s
      → requests_of p i (h ++ []) ≡ more ++ requests_at p i (h ++ []) u k (told_by before got) → length more ≡ s + 1
      → has_answer i.number s h ≡ false → 0 < m → 0 < length got
  quiet_copy t g u k made more old count new counted fresh some = by (buffer_of p i (h ++ []) s from m) refl
    where
      due : Request
      due = due_request (s + 1) (record { address = to; bytes = got }) u k

      second : slice_get (requests_of p i (h ++ [])) (s + 1) ≡ Some due
      second = ap (λ (rs : List Request). slice_get rs (s + 1)) new ∙ slice_get-after more due _ (s + 1) (sym counted)

      first : slice_get (requests_of p i (h ++ [])) (s + 1) ≡ slice_get (requests_at p i (h ++ []) t g before) 1
      first =
          ap (λ (rs : List Request). slice_get rs (s + 1)) old
          ∙ (ap (λ (j : ℕ). slice_get (made ++ requests_at p i (h ++ []) t g before) (j + 1)) (sym count)
          ∙ past_front made (requests_at p i (h ++ []) t g before))

      by : (o : Option (List ℕ)) → buffer_of p i (h ++ []) s from m ≡ o → 0 < length got
      by None none =
          let wrong : None ≡ Some due = sym (first ∙ ap (λ (o : Option (List ℕ)). slice_get (using o (rest_of t g)) 0) none) ∙ second in
          absurd (cc (wrong))
      by (Some bytes) is =
          let asked : Some (record { seq = s + 1; address = to; asked = Transport (write_of bytes [] m); time = later t (latency_of p i from); stage = g + 2 }) ≡ Some due = sym (first ∙ ap (λ (o : Option (List ℕ)). slice_get (using o (rest_of t g)) 0) is) ∙ second in
          let same : record { seq = s + 1; address = to; asked = Transport (write_of bytes [] m); time = later t (latency_of p i from); stage = g + 2 } ≡ due = cc (asked) in
          let bytes_are : bytes ≡ got = ap (λ (r : Request). sent_in r.asked) same in
          let whole = unanswered bytes is fresh in
          let same_length : length bytes ≡ length got = ap length bytes_are in
          omega arith

-- a write that becomes due without an entry has some bytes
quiet_some : (p : Platform) (i : Initiator) (h : List Entry) (n s : ℕ) (due : Option Due) (ops : List Operation) (b : Bool) (got : List ℕ) (t g u k : ℕ) (made more : List Request)
    → requests_of p i (h ++ []) ≡ made ++ requests_at p i (h ++ []) t g (state n s due ops b) → length made ≡ s
    → requests_of p i (h ++ []) ≡ more ++ requests_at p i (h ++ []) u k (engine_after (state n s due ops b) got) → length more ≡ (engine_after (state n s due ops b) got).seq
    → has_answer i.number s h ≡ false → AllByRecursion IsProper ops → HasBytes (told_by (state n s due ops b) got).due
quiet_some p i h n s (Some w) ops b got t g u k made more old count new counted fresh proper = tt
quiet_some p i h n s None [] b got t g u k made more old count new counted fresh proper = tt
quiet_some p i h n s None (Copy from to m ∷ ops) b got t g u k made more old count new counted fresh proper =
    quiet_copy p i h n s from to m ops b got t g u k made more old count new counted fresh proper.0.2.some
quiet_some p i h n s None (Add a m ∷ ops) b got t g u k made more old count new counted fresh proper = omega arith
quiet_some p i h n s None (op ∷ ops) b got t g u k made more old count new counted fresh proper = tt

-- a run that has gone on without an entry stands in its script
pub stands_on : (p : Platform) (i : Initiator) (h : List Entry) (old new : Run) → HasCome p i h old → HasCome p i h new → StepsOnce old.engine new.engine → IsInScript i old.engine → IsInScript i new.engine
stands_on p i h old new come goes once is = by once.step
  where
    by : (new.engine ≡ old.engine) ⊎ (new.engine ≡ engine_after old.engine once.got) → IsInScript i new.engine
    by (inl same) = subst (IsInScript i) (sym same) is
    by (inr after) =
        let asked : requests_of p i (h ++ []) ≡ goes.made ++ requests_at p i (h ++ []) (current_time new.keeper) goes.stage (engine_after old.engine once.got) =
        goes.asked.asked [] ∙ ap (λ (e : State). goes.made ++ requests_at p i (h ++ []) (current_time new.keeper) goes.stage e) after in
        let some : HasBytes (told_by old.engine once.got).due =
        quiet_some p i h old.engine.initiator old.engine.seq old.engine.due old.engine.remaining old.engine.ended once.got (current_time old.keeper) come.stage (current_time new.keeper) goes.stage come.made goes.made
        (come.asked.asked []) come.count asked (goes.count ∙ ap (λ (e : State). e.seq) after) (come.asked.fresh old.engine.seq (omega (arith, come.count))) come.proper in
        subst (IsInScript i) (sym after) (stands_after i old.engine once.got some is)
