-- A good history of a valid plan has few entries: a request has at most one answer at its memory, four calls at each of its hops, and
-- two and two more for each hop at its pool; a gate is given once at most, and closed once.
use Rattle.std.proofs.Common.{◌≡◌, ℕ, zero, suc, ◌+◌, ◌*◌, ◌<◌, ◌≤◌, Bool, true, false, cond, not, ◌&&◌, List, [], ◌∷◌, ◌++◌, length, Option, Some, None, eqb, refl, sym, ap, subst, ◌∙◌, ◌⊎◌, inl, inr, ⊎_elim, arith, append_assoc, length-append}
use Rattle.std.specs.Prelude.{slice_get}
use Rattle.std.specs.List.{AllByRecursion, filter, list_any}
use Rattle.std.proofs.lemmas.Bool.{and_parts, cases_lt, eq-eqb, eqb-true, or_parts, true≢false}
use Rattle.std.proofs.lemmas.List.Elements.{filter-append}
use Rattle.std.proofs.lemmas.List.Filters.{length-filter_both}
use Rattle.std.proofs.lemmas.Option.{slice_get_within}
use Rattle.tlm_types.specs.declared.words.ObjectNo.{ObjectNo}
use Rattle.tlm_types.specs.declared.words.ObjectNo.TheVariants.{Memory, Hop, Pool}
use Rattle.tlm_types.specs.declared.words.ReqMode.{ReqMode}
use Rattle.tlm_types.specs.declared.words.ReqMode.TheVariants as req
use Rattle.tlm_types.specs.declared.words.RespMode.{RespMode}
use Rattle.tlm_types.specs.declared.words.RespMode.TheVariants as resp
use Rattle.tlm_types.specs.declared.words.TxnId.{TxnId}
use Rattle.tlm_types.specs.declared.entry.Entry.{Entry}
use Rattle.tlm_types.specs.declared.entry.What.{What}
use Rattle.tlm_types.specs.declared.entry.What.TheVariants.{Access as Accessed, Granted, Invalidated, Closed, Call, Take, Acquire, Release}
use Rattle.tlm_model.specs.declared.operation.Operation.{Operation}
use Rattle.tlm_model.specs.declared.operation.Operation.TheVariants.{Write, Read, Ignore, Debug, Copy, Add, FetchAdd, Wait, Sync, Fence, Invalidate}
use Rattle.tlm_model.specs.declared.platform.Platform.{Platform}
use Rattle.tlm_model.specs.Each.{EachFrom}
use Rattle.tlm_model.specs.History.{entries_at, is_object}
use Rattle.tlm_model.specs.Plan.{Plan, Initiator}
use Rattle.tlm_model.specs.Requests.{Request, buffer_of, is_txn, requests_from, requests_of, using}
use Rattle.tlm_model.specs.Route.{later, latency_of}
use Rattle.tlm_model.specs.Scripts.{IsInOrder, IsPlaced, OfRequest, has_answer, is_answer}
use Rattle.tlm_model.proofs.EachLemmas.{EachFrom-weaker, append_nil}
use Rattle.tlm_model.proofs.HistoryLemmas.{AllByRecursion-weaker}
use Rattle.base_phases.specs.Sequences.{Call as PhaseCall}
use Rattle.flow_model.specs.Calls.{calls_in, calls_of, is_of}
use Rattle.flow_model.specs.Table.{IsBegunIn, sequences_of}
use Rattle.flow_model.specs.World.{hop_at, row_of}
use Rattle.flow_model.specs.Events.{acquire_by, acquires}
use Rattle.flow_model.specs.Counts.{release_time_by, release_times, take_by, takes}
use Rattle.flow_model.specs.Platform.{world_of}
use Rattle.good_history.specs.Good.{IsGood}
use Rattle.good_history.specs.Grants.{closes, gives, is_closed, is_given}
use Rattle.good_history.specs.Kept.{IsGateInOrder}
use Rattle.traffic_script.specs.Proper.{AreProper}
use Rattle.platform_model.specs.Bounded.{IsBounded}
use Rattle.platform_shape.proofs.SinglePaths.{not_none, some_same}
use Rattle.route_plan.specs.Valid.{IsObject, IsValid}
use Rattle.run_outcome.proofs.PlanLemmas.{initiator_number, initiator_within}
use Rattle.trace_print.proofs.AtMemories.{gate-few, memories-there}
use Rattle.trace_print.proofs.EntryKinds.{HaveKinds, IsKind, Places}
use Rattle.trace_print.proofs.OfRequests.{all-at, at-request, request-of, script-of}
use Rattle.trace_print.proofs.Passages.{few-hops, is-passed}
use Rattle.trace_print.proofs.Requested.{requests-few}
use Rattle.trace_print.proofs.Standing.{HaveInitiators, Stands, objects-there}

-- requests that are numbered from s on
abbrev AreCounted : ℕ → List Request → Type 0
AreCounted s [] = Unit {0}
AreCounted s (r ∷ rs) = (r.seq ≡ s) × AreCounted (s + 1) rs

used-counted : (s : ℕ) (o : Option (List ℕ)) (next : List ℕ → List Request) → ((got : List ℕ) → AreCounted s (next got)) → AreCounted s (using o next)
used-counted s None next f = tt
used-counted s (Some got) next f = f got

counted : (p : Platform) (i : Initiator) (h : List Entry) (s t g : ℕ) (ops : List Operation) → AreCounted s (requests_from p i h s t g ops)
counted p i h s t g [] = tt
counted p i h s t g (Write a bs enables width ∷ ops) = (refl, counted p i h (s + 1) (later t (latency_of p i a)) g ops)
counted p i h s t g (Read a n enables width ∷ ops) = (refl, counted p i h (s + 1) (later t (latency_of p i a)) g ops)
counted p i h s t g (Ignore a ∷ ops) = (refl, counted p i h (s + 1) (later t (latency_of p i a)) g ops)
counted p i h s t g (Debug a n ∷ ops) = (refl, counted p i h (s + 1) t (g + 2) ops)
counted p i h s t g (Copy from to n ∷ ops) =
    let two : s + 2 ≡ s + 1 + 1 = omega arith in
    let rs = requests_from p i h (s + 2) (later (later t (latency_of p i from)) (latency_of p i to)) (g + 3) ops in
    (refl, used-counted (s + 1) (buffer_of p i h s from n) _ (λ got. (refl, subst (λ (m : ℕ). AreCounted m rs) two (counted p i h (s + 2) (later (later t (latency_of p i from)) (latency_of p i to)) (g + 3) ops))))
counted p i h s t g (Add a n ∷ ops) =
    let two : s + 2 ≡ s + 1 + 1 = omega arith in
    let rs = requests_from p i h (s + 2) (later (later t (latency_of p i a)) (latency_of p i a)) (g + 3) ops in
    (refl, used-counted (s + 1) (buffer_of p i h s a 4) _ (λ got. (refl, subst (λ (m : ℕ). AreCounted m rs) two (counted p i h (s + 2) (later (later t (latency_of p i a)) (latency_of p i a)) (g + 3) ops))))
counted p i h s t g (FetchAdd a n ∷ ops) = (refl, counted p i h (s + 1) (later t (latency_of p i a)) (g + 2) ops)
counted p i h s t g (Wait n ∷ ops) = counted p i h s (later t n) (g + 1) ops
counted p i h s t g (Sync ∷ ops) = counted p i h s t (g + 1) ops
counted p i h s t g (Fence ∷ ops) = counted p i h s t (g + 1) ops
counted p i h s t g (Invalidate a n ∷ ops) = (refl, counted p i h (s + 1) t (g + 2) ops)

counted-at : (s : ℕ) (rs : List Request) → AreCounted s rs → (k : ℕ) (r : Request) → slice_get rs k ≡ Some r → r.seq ≡ s + k
counted-at s [] h k r at = absurd (not_none r at)
counted-at s (q ∷ rs) h zero r at = let same = ap (λ (x : Request). x.seq) (some_same q r at) in omega (arith, same, h.0)
counted-at s (q ∷ rs) h (suc k) r at = omega (arith, counted-at (s + 1) rs h.1 k r at)

-- lists by tests of their elements

-- where each key is below n and no more than 32 have it
low-others : {X : Type 0} (f : X → ℕ) (n : ℕ) (xs : List X) → AllByRecursion (λ x. f x < suc n) xs → AllByRecursion (λ x. f x < n) (filter (λ x. not (eqb (f x) n)) xs)
low-others f n [] low = tt
low-others f n (x ∷ xs) low = go (eqb (f x) n) refl (low-others f n xs low.1)
  where
    go : (b : Bool) → eqb (f x) n ≡ b → AllByRecursion (λ x. f x < n) (filter (λ x. not (eqb (f x) n)) xs)
        → AllByRecursion (λ x. f x < n) (cond (not b) (x ∷ filter (λ x. not (eqb (f x) n)) xs) (filter (λ x. not (eqb (f x) n)) xs))
    go true q rest = rest
    go false q rest =
        let other : f x ≡ n → ⊥ = λ e. true≢false (sym (eq-eqb (f x) n e) ∙ q) in
        (⊎_elim (λ (lt : f x < n). lt) (λ (le : n ≤ f x). absurd (other (omega (arith, low.0, le)))) (cases_lt (f x) n), rest)

-- a test of those that another one has picked
picked-twice : {X : Type 0} (a b : X → Bool) (xs : List X) → filter b (filter a xs) ≡ filter (λ x. a x && b x) xs
picked-twice a b [] = refl
picked-twice a b (x ∷ xs) = go (a x) (picked-twice a b xs)
  where
    go : (u : Bool) → filter b (filter a xs) ≡ filter (λ x. a x && b x) xs → filter b (cond u (x ∷ filter a xs) (filter a xs)) ≡ cond (u && b x) (x ∷ filter (λ x. a x && b x) xs) (filter (λ x. a x && b x) xs)
    go true rest = ap (λ (l : List _). cond (b x) (x ∷ l) l) rest
    go false rest = rest

fewer : {X : Type 0} (a b : X → Bool) (xs : List X) → AllByRecursion (λ x. a x ≡ true → b x ≡ true) xs → length (filter a xs) ≤ length (filter b xs)
fewer a b [] each = omega arith
fewer a b (x ∷ xs) each = go (a x) (b x) each.0 (fewer a b xs each.1)
  where
    go : (u v : Bool) → (u ≡ true → v ≡ true) → length (filter a xs) ≤ length (filter b xs) → length (cond u (x ∷ filter a xs) (filter a xs)) ≤ length (cond v (x ∷ filter b xs) (filter b xs))
    go true true f rest = omega (arith, rest)
    go true false f rest = absurd (true≢false (sym (f refl)))
    go false true f rest = omega (arith, rest)
    go false false f rest = rest

fewer-picked : {X : Type 0} (a b : X → Bool) (xs : List X) → length (filter b (filter a xs)) ≤ length (filter b xs)
fewer-picked a b xs = omega (arith, ap length (picked-twice a b xs), fewer (λ x. a x && b x) b xs (weak xs))
  where
    second : (u v : Bool) → (u && v) ≡ true → v ≡ true
    second true v h = h
    second false v h = absurd (true≢false (sym h))

    weak : (xs : List _) → AllByRecursion (λ x. (a x && b x) ≡ true → b x ≡ true) xs
    weak [] = tt
    weak (x ∷ xs) = (second (a x) (b x), weak xs)

few-by : {X : Type 0} (f : X → ℕ) (n : ℕ) (xs : List X) → AllByRecursion (λ x. f x < n) xs → ((k : ℕ) → length (filter (λ x. eqb (f x) k) xs) ≤ 32) → length xs ≤ n * 32
few-by {X} f zero [] low few = omega arith
few-by {X} f zero (x ∷ xs) low few = absurd (omega (arith, low.0))
few-by {X} f (suc n) xs low few =
    let other : X → Bool = λ x. not (eqb (f x) n) in
    let both = length-filter_both (λ x. eqb (f x) n) other (λ x. refl) xs in
    let rest = few-by f n (filter other xs) (low-others f n xs low) (λ k. omega (arith, few k, fewer-picked other (λ x. eqb (f x) k) xs)) in
    omega (arith, both, few n, rest)

-- none is picked, or what one that is picked gives
none-or : {X : Type 0} (test : X → Bool) (P : X → Type 0) (Q : Type 0) (xs : List X) → AllByRecursion P xs → ((x : X) → P x → test x ≡ true → Q) → (length (filter test xs) ≡ 0) ⊎ Q
none-or test P Q [] all f = inl refl
none-or test P Q (x ∷ xs) all f = go (test x) refl (none-or test P Q xs all.1 f)
  where
    go : (b : Bool) → test x ≡ b → (length (filter test xs) ≡ 0) ⊎ Q → (length (cond b (x ∷ filter test xs) (filter test xs)) ≡ 0) ⊎ Q
    go true q rest = inr (f x all.0 q)
    go false q rest = rest

-- each one that is picked comes where none before it was
module _ {X : Type 0} (test : X → Bool) where
  none-before : (xs : List X) → list_any test xs ≡ false → length (filter test xs) ≡ 0
  none-before [] none = refl
  none-before (x ∷ xs) none =
      let parts = or_parts (test x) (list_any test xs) none in
      ap (λ (b : Bool). length (cond b (x ∷ filter test xs) (filter test xs))) parts.0 ∙ none-before xs parts.1

  one-more : (before : List X) (x : X) → length (filter test before) ≤ 1 → (test x ≡ true → list_any test before ≡ false) → length (filter test (before ++ x ∷ [])) ≤ 1
  one-more before x few new = omega (arith, ap length (filter-append test before (x ∷ [])), length-append (filter test before) (filter test (x ∷ [])), go (test x) refl)
    where
      go : (b : Bool) → test x ≡ b → length (filter test before) + length (cond b (x ∷ []) []) ≤ 1
      go true q = omega (arith, none-before before (new q))
      go false q = omega (arith, few)

  once-from : (before xs : List X) → length (filter test before) ≤ 1 → EachFrom (λ before x. test x ≡ true → list_any test before ≡ false) before xs → length (filter test (before ++ xs)) ≤ 1
  once-from before [] few each = subst (λ (l : List X). length (filter test l) ≤ 1) (sym (append_nil before)) few
  once-from before (x ∷ xs) few each = subst (λ (l : List X). length (filter test l) ≤ 1) (append_assoc before (x ∷ []) xs) (once-from (before ++ x ∷ []) xs (one-more before x few each.0) each.1)

-- what holds of the entries of an object
of-object : (o : ObjectNo) (Q : Entry → Type 0) (h : List Entry) → AllByRecursion (λ (e : Entry). is_object o e.object ≡ true → Q e) h → AllByRecursion Q (entries_at o h)
of-object o Q [] each = tt
of-object o Q (e ∷ h) each = go (is_object o e.object) each.0 (of-object o Q h each.1)
  where
    go : (b : Bool) → (b ≡ true → Q e) → AllByRecursion Q (entries_at o h) → AllByRecursion Q (cond b (e ∷ entries_at o h) (entries_at o h))
    go true f rest = (f refl, rest)
    go false f rest = rest

-- the calls of a transaction on a hop

abbrev IsACall : What → Type 0
IsACall (Call c a) = Unit {0}
IsACall w = ⊥

call-at-hop : (n : ℕ) (o : ObjectNo) (w : What) → IsKind o w → is_object (Hop n) o ≡ true → IsACall w
call-at-hop n (Memory m) w kind here = absurd (true≢false (sym here))
call-at-hop n (Hop h) (Call c a) kind here = tt
call-at-hop n (Hop h) w kind here = absurd kind
call-at-hop n (Pool i) w kind here = absurd (true≢false (sym here))

count-calls : (x : TxnId) (log : List Entry) → AllByRecursion (λ (e : Entry). IsACall e.what) log → length (filter (is_of x) log) ≡ length (calls_of x log)
count-calls x [] all = refl
count-calls x (e ∷ log) all = go (is_of x e) e.what all.0 (count-calls x log all.1)
  where
    go : (b : Bool) (w : What) → IsACall w → length (filter (is_of x) log) ≡ length (calls_of x log) → length (cond b (e ∷ filter (is_of x) log) (filter (is_of x) log)) ≡ length (cond b (calls_in w) [] ++ calls_of x log)
    go true (Call c a) is rest = ap suc rest
    go true w is rest = absurd is
    go false w is rest = rest

four-calls : (q : ReqMode) (r : RespMode) → AllByRecursion (λ (s : List PhaseCall). length s ≤ 4) (sequences_of q r)
four-calls req.Accept resp.Accept = (omega arith, tt)
four-calls req.Accept resp.EndResp = (omega arith, tt)
four-calls req.Accept resp.Complete = (omega arith, tt)
four-calls req.Short resp.Accept = (omega arith, tt)
four-calls req.Short resp.EndResp = (omega arith, tt)
four-calls req.Short resp.Complete = (omega arith, tt)
four-calls req.EndReq resp.Accept = (omega arith, tt)
four-calls req.EndReq resp.EndResp = (omega arith, tt)
four-calls req.EndReq resp.Complete = (omega arith, tt)
four-calls req.BeginResp resp.Accept = (omega arith, (omega arith, tt))
four-calls req.BeginResp resp.EndResp = (omega arith, (omega arith, tt))
four-calls req.BeginResp resp.Complete = (omega arith, (omega arith, tt))
four-calls req.Complete r = (omega arith, tt)

few-calls : (q : ReqMode) (r : RespMode) (calls : List PhaseCall) → IsBegunIn (sequences_of q r) calls → length calls ≤ 4
few-calls q r calls b = omega (arith, all-at (λ (s : List PhaseCall). length s ≤ 4) (sequences_of q r) (four-calls q r) b.0 (calls ++ b.1) b.2, length-append calls b.1)

-- the moves of a transaction in a pool

abbrev IsAMove : What → Type 0
IsAMove (Take k) = Unit {0}
IsAMove (Acquire k) = Unit {0}
IsAMove (Release k f) = Unit {0}
IsAMove w = ⊥

move-at-pool : (n : ℕ) (o : ObjectNo) (w : What) → IsKind o w → is_object (Pool n) o ≡ true → IsAMove w
move-at-pool n (Memory m) w kind here = absurd (true≢false (sym here))
move-at-pool n (Hop h) w kind here = absurd (true≢false (sym here))
move-at-pool n (Pool i) (Take k) kind here = tt
move-at-pool n (Pool i) (Acquire k) kind here = tt
move-at-pool n (Pool i) (Release k f) kind here = tt
move-at-pool n (Pool i) w kind here = absurd kind

count-moves : (x : TxnId) (log : List Entry) → AllByRecursion (λ (e : Entry). IsAMove e.what) log → length (filter (is_of x) log) ≡ takes x log + acquires x log + length (release_times x log)
count-moves x [] all = refl
count-moves x (e ∷ log) all = go (is_of x e) e.what all.0 (count-moves x log all.1)
  where
    go : (b : Bool) (w : What) → IsAMove w → length (filter (is_of x) log) ≡ takes x log + acquires x log + length (release_times x log)
        → length (cond b (e ∷ filter (is_of x) log) (filter (is_of x) log)) ≡ (take_by b w + takes x log) + (acquire_by b w + acquires x log) + length (release_time_by b w e.time ++ release_times x log)
    go true (Take k) is rest = omega (arith, rest)
    go true (Acquire k) is rest = omega (arith, rest)
    go true (Release k f) is rest = omega (arith, rest)
    go true w is rest = absurd is
    go false w is rest = omega (arith, rest)

-- an object as a number, the gate that an entry gives or closes, and an entry's initiator, request, object and gate as one
abbrev code : ObjectNo → ℕ
code (Memory m) = m * 3
code (Hop h) = h * 3 + 1
code (Pool i) = i * 3 + 2

abbrev gate_code : What → ℕ
gate_code (Granted g f l k) = g * 2 + 1
gate_code (Closed g) = g * 2 + 2
gate_code w = 0

key : Entry → ℕ
key e = ((e.txn.initiator * 262144 + e.txn.seq) * 1024 + code e.object) * 4096 + gate_code e.what

record IsKeyed (e : Entry) : Type 0 where
  small : e.txn.seq < 262144
  few : e.txn.initiator < 32
  coded : code e.object < 1024
  gated : gate_code e.what < 4096

key-small : (e : Entry) → IsKeyed e → key e < 35184372088832
unfolding key
key-small e k = omega (arith, k.small, k.few, k.coded, k.gated)

same-code : (o q : ObjectNo) → code q ≡ code o → is_object o q ≡ true
same-code (Memory m) (Memory n) e = eq-eqb n m (omega (arith, e))
same-code (Memory m) (Hop n) e = absurd (omega (arith, e))
same-code (Memory m) (Pool n) e = absurd (omega (arith, e))
same-code (Hop m) (Memory n) e = absurd (omega (arith, e))
same-code (Hop m) (Hop n) e = eq-eqb n m (omega (arith, e))
same-code (Hop m) (Pool n) e = absurd (omega (arith, e))
same-code (Pool m) (Memory n) e = absurd (omega (arith, e))
same-code (Pool m) (Hop n) e = absurd (omega (arith, e))
same-code (Pool m) (Pool n) e = eq-eqb n m (omega (arith, e))

is-txn : (x : TxnId) (d : Entry) → d.txn.initiator ≡ x.initiator → d.txn.seq ≡ x.seq → is_of x d ≡ true
is-txn x d same number =
    let first = eq-eqb d.txn.initiator x.initiator same in
    let second = eq-eqb d.txn.seq x.seq number in
    λ i. first i && second i

-- an entry with the key of another one is of its request, at its object, and of its gate
record IsLike (e d : Entry) : Type 0 where
  own : is_of e.txn d ≡ true
  here : is_object e.object d.object ≡ true
  gate : gate_code d.what ≡ gate_code e.what

like : (e d : Entry) → IsKeyed e → IsKeyed d → key d ≡ key e → IsLike e d
unfolding key
like e d k l same =
    let high : (d.txn.initiator * 262144 + d.txn.seq) * 1024 + code d.object ≡ (e.txn.initiator * 262144 + e.txn.seq) * 1024 + code e.object = omega (arith, same, k.gated, l.gated) in
    let txn : d.txn.initiator * 262144 + d.txn.seq ≡ e.txn.initiator * 262144 + e.txn.seq = omega (arith, high, k.coded, l.coded) in
    let initiator : d.txn.initiator ≡ e.txn.initiator = omega (arith, txn, k.small, l.small) in
    let seq : d.txn.seq ≡ e.txn.seq = omega (arith, txn, initiator) in
    record { own = is-txn e.txn d initiator seq; here = same-code e.object d.object (omega (arith, high, txn)); gate = omega (arith, same, high) }

-- an entry at a memory that neither gives nor closes a gate is an answer
answer-at-memory : (n : ℕ) (o : ObjectNo) (w : What) → IsKind o w → gate_code w ≡ 0 → is_object (Memory n) o ≡ true → is_answer w ≡ true
answer-at-memory n (Memory m) (Accessed way access status got) kind none here = refl
answer-at-memory n (Memory m) (Granted g f l k) kind none here = absurd (omega (arith, none))
answer-at-memory n (Memory m) (Invalidated f l) kind none here = refl
answer-at-memory n (Memory m) (Closed g) kind none here = absurd (omega (arith, none))
answer-at-memory n (Memory m) w kind none here = absurd kind
answer-at-memory n (Hop h) w kind none here = absurd (true≢false (sym here))
answer-at-memory n (Pool i) w kind none here = absurd (true≢false (sym here))

-- gates

abbrev Gates : List Entry → Entry → Type 0
Gates before e = IsGateInOrder before e.object e.what

given-again : (g : ℕ) (w : What) → gate_code w ≡ g * 2 + 1 → gives g w ≡ true
given-again g (Granted n f l k) same = eq-eqb n g (omega (arith, same))
given-again g (Closed n) same = absurd (omega (arith, same))
given-again g w same = absurd (omega (arith, same))

closed-again : (g : ℕ) (w : What) → gate_code w ≡ g * 2 + 2 → closes g w ≡ true
closed-again g (Granted n f l k) same = absurd (omega (arith, same))
closed-again g (Closed n) same = eq-eqb n g (omega (arith, same))
closed-again g w same = absurd (omega (arith, same))

given-new : (g : ℕ) (before : List Entry) (o : ObjectNo) (w : What) → IsGateInOrder before o w → gives g w ≡ true → is_given g before ≡ false
given-new g before o (Granted n f l k) order is = subst (λ (m : ℕ). is_given m before ≡ false) (eqb-true n g is) order.0
given-new g before o w order is = absurd (true≢false (sym is))

closed-new : (g : ℕ) (before : List Entry) (o : ObjectNo) (w : What) → IsGateInOrder before o w → closes g w ≡ true → is_closed g before ≡ false
closed-new g before o (Closed n) order is = subst (λ (m : ℕ). is_closed m before ≡ false) (eqb-true n g is) order.1
closed-new g before o w order is = absurd (true≢false (sym is))

given-once : (g : ℕ) (h : List Entry) → EachFrom Gates [] h → length (filter (λ (d : Entry). gives g d.what) h) ≤ 1
given-once g h gates =
    once-from (λ (d : Entry). gives g d.what) [] h (omega arith)
    (EachFrom-weaker Gates (λ before d. gives g d.what ≡ true → is_given g before ≡ false) (λ before d order. given-new g before d.object d.what order) [] h gates)

closed-once : (g : ℕ) (h : List Entry) → EachFrom Gates [] h → length (filter (λ (d : Entry). closes g d.what) h) ≤ 1
closed-once g h gates =
    once-from (λ (d : Entry). closes g d.what) [] h (omega arith)
    (EachFrom-weaker Gates (λ before d. closes g d.what ≡ true → is_closed g before ≡ false) (λ before d order. closed-new g before d.object d.what order) [] h gates)

both-hold : {X : Type 0} (P Q : X → Type 0) (xs : List X) → AllByRecursion P xs → AllByRecursion Q xs → AllByRecursion (λ x. P x × Q x) xs
both-hold P Q [] p q = tt
both-hold P Q (x ∷ xs) p q = ((p.0, q.0), both-hold P Q xs p.1 q.1)

abbrev Order : Plan → List Entry → Entry → Type 0
Order p before e = OfRequest p before e (λ i r. IsInOrder p.platform i before r (is_answer e.what))

module _ (p : Plan) (valid : IsValid p) where
  bounded : IsBounded p.platform
  bounded = (let shape = valid.shape in shape.bounded)

  initiator-there : (before : List Entry) (e : Entry) → Order p before e → e.txn.initiator < length p.platform.initiators
  initiator-there before e order =
      let found = request-of p before e (λ i r. IsInOrder p.platform i before r (is_answer e.what)) order in
      initiator_within p e.txn.initiator found.initiator found.of_it

  number-small : (before : List Entry) (e : Entry) → Order p before e → e.txn.seq < 262144
  number-small before e order =
      let found = request-of p before e (λ i r. IsInOrder p.platform i before r (is_answer e.what)) order in
      let i = found.initiator in
      let proper = script-of AreProper 0 e.txn.initiator p.platform.initiators p.scripts i valid.proper found.of_it in
      let few = requests-few p.platform i before 0 0 0 i.script in
      let within = slice_get_within (requests_of p.platform i before) e.txn.seq found.request found.asked_for in
      omega (arith, few, within, proper.few)

  -- an answer is of a request that no entry before it answers
  answer-new : (before : List Entry) (e : Entry) → Order p before e → is_answer e.what ≡ true → has_answer e.txn.initiator e.txn.seq before ≡ false
  answer-new before e order is =
      let found = request-of p before e (λ i r. IsInOrder p.platform i before r (is_answer e.what)) order in
      let i = found.initiator in
      let r = found.request in
      let number = initiator_number p e.txn.initiator i found.of_it in
      let seq : r.seq ≡ e.txn.seq = omega (arith, counted-at 0 (requests_of p.platform i before) (counted p.platform i before 0 0 0 i.script) e.txn.seq r found.asked_for) in
      let stands = at-request p before e (λ i r. IsInOrder p.platform i before r (is_answer e.what)) order found in
      let answer = subst (λ (b : Bool). IsInOrder p.platform i before r b) is stands in
      (λ j. has_answer (sym number j) (sym seq j) before) ∙ answer.0

  initiators-there : (before h : List Entry) → EachFrom (Order p) before h → HaveInitiators p h
  initiators-there before [] orders = tt
  initiators-there before (e ∷ h) orders = (initiator-there before e orders.0, initiators-there (before ++ e ∷ []) h orders.1)

  code-small : (o : ObjectNo) → IsObject p.platform o → code o < 1024
  code-small (Memory m) there = omega (arith, there, bounded.memory_count)
  code-small (Hop h) there = omega (arith, there, few-hops p.platform bounded)
  code-small (Pool i) there = omega (arith, there, bounded.initiator_count)

  gate-small : (n : ℕ) (o : ObjectNo) (w : What) → IsPlaced p.platform n o w → gate_code w < 4096
  gate-small n (Memory m) (Granted g f l k) placed = omega (arith, gate-few p.platform bounded m g placed)
  gate-small n (Memory m) (Closed g) placed = omega (arith, gate-few p.platform bounded m g placed)
  gate-small n (Hop h) (Granted g f l k) placed = absurd placed
  gate-small n (Hop h) (Closed g) placed = absurd placed
  gate-small n (Pool i) (Granted g f l k) placed = absurd placed
  gate-small n (Pool i) (Closed g) placed = absurd placed
  gate-small n o w placed = omega arith

  all-keyed : (before h : List Entry) → EachFrom (Order p) before h → EachFrom (Places p) before h → AllByRecursion (λ (e : Entry). IsObject p.platform e.object) h → AllByRecursion IsKeyed h
  all-keyed before [] orders places there = tt
  all-keyed before (e ∷ h) orders places there = (
    record {
      small = number-small before e orders.0;
      few = omega (arith, initiator-there before e orders.0, bounded.initiator_count);
      coded = code-small e.object there.0;
      gated = gate-small e.txn.initiator e.object e.what places.0;
    },
    all-keyed (before ++ e ∷ []) h orders.1 places.1 there.1,
  )

  -- the answers of a request
  abbrev answers_it : TxnId → Entry → Bool
  answers_it x d = is_txn x.initiator x.seq d.txn && is_answer d.what

  each-new : (x : TxnId) (before : List Entry) (d : Entry) → Order p before d → answers_it x d ≡ true → list_any (answers_it x) before ≡ false
  each-new x before d order is =
      let parts = and_parts (is_txn x.initiator x.seq d.txn) (is_answer d.what) is in
      let own = and_parts (eqb d.txn.initiator x.initiator) (eqb d.txn.seq x.seq) parts.0 in
      let initiator = eqb-true d.txn.initiator x.initiator own.0 in
      let seq = eqb-true d.txn.seq x.seq own.1 in
      (λ j. has_answer (sym initiator j) (sym seq j) before) ∙ answer-new before d order parts.1

  one-answer : (x : TxnId) (h : List Entry) → EachFrom (Order p) [] h → length (filter (answers_it x) h) ≤ 1
  one-answer x h orders =
      once-from (answers_it x) [] h (omega arith) (EachFrom-weaker (Order p) (λ before d. answers_it x d ≡ true → list_any (answers_it x) before ≡ false) (each-new x) [] h orders)

  module _ (h : List Entry) (good : IsGood p h) (kinds : HaveKinds h) (keyed : AllByRecursion IsKeyed h) where
    abbrev has_key : Entry → Entry → Bool
    has_key e d = eqb (key d) (key e)

    known : AllByRecursion (λ (d : Entry). IsKeyed d × IsKind d.object d.what) h
    known = both-hold IsKeyed (λ (d : Entry). IsKind d.object d.what) h keyed kinds

    -- the entries with the key of one at a memory that is an answer
    few-answers : (e : Entry) → IsKeyed e → (m : ℕ) → e.object ≡ Memory m → gate_code e.what ≡ 0 → length (filter (has_key e) h) ≤ 32
    few-answers e k m at none =
        let weak = AllByRecursion-weaker (λ (d : Entry). IsKeyed d × IsKind d.object d.what) (λ (d : Entry). has_key e d ≡ true → answers_it e.txn d ≡ true) h (λ d is same. answers d is.0 is.1 (like e d k is.0 (eqb-true (key d) (key e) same))) known in
        let sound = good.sound in
        let requests = sound.requests in
        let scripts = requests.scripts in
        omega (arith, fewer (has_key e) (answers_it e.txn) h weak, one-answer e.txn h scripts.order)
      where
        answers : (d : Entry) → IsKeyed d → IsKind d.object d.what → IsLike e d → answers_it e.txn d ≡ true
        answers d l kind likely =
            let answer = answer-at-memory m d.object d.what kind (likely.gate ∙ none) (ap (λ (o : ObjectNo). is_object o d.object) (sym at) ∙ likely.here) in
            let own = likely.own in
            λ i. own i && answer i

    -- those that have its gate
    of-gate : (e : Entry) → IsKeyed e → (test : Entry → Bool) → ((d : Entry) → gate_code d.what ≡ gate_code e.what → test d ≡ true) → length (filter test h) ≤ 1 → length (filter (has_key e) h) ≤ 32
    of-gate e k test same once =
        let weak = AllByRecursion-weaker IsKeyed (λ (d : Entry). has_key e d ≡ true → test d ≡ true) h (λ d l is. (let likely = like e d k l (eqb-true (key d) (key e) is) in same d likely.gate)) keyed in
        omega (arith, fewer (has_key e) test h weak, once)

    -- and those of one that gives a gate, or closes one
    few-at-memory : (e : Entry) → IsKeyed e → (m : ℕ) → e.object ≡ Memory m → length (filter (has_key e) h) ≤ 32
    few-at-memory e k m at = by_what e.what refl
      where
        gates : EachFrom Gates [] h
        gates = (let sound = good.sound in let grants = sound.grants in grants.gates)

        by_what : (w : What) → e.what ≡ w → length (filter (has_key e) h) ≤ 32
        by_what (Granted g f l q) is = of-gate e k (λ (d : Entry). gives g d.what) (λ d same. given-again g d.what (same ∙ ap gate_code is)) (given-once g h gates)
        by_what (Closed g) is = of-gate e k (λ (d : Entry). closes g d.what) (λ d same. closed-again g d.what (same ∙ ap gate_code is)) (closed-once g h gates)
        by_what w is = few-answers e k m at (ap gate_code is)

    -- the others with the key of one are of its request, in the log of its object
    at-object : (e : Entry) → IsKeyed e → (o : ObjectNo) → e.object ≡ o → length (filter (has_key e) h) ≤ length (filter (is_of e.txn) (entries_at o h))
    at-object e k o at =
        let both = λ (d : Entry). is_object o d.object && is_of e.txn d in
        let weak = AllByRecursion-weaker IsKeyed (λ (d : Entry). has_key e d ≡ true → both d ≡ true) h (λ d l same. stand d (like e d k l (eqb-true (key d) (key e) same))) keyed in
        omega (arith, fewer (has_key e) both h weak, ap length (picked-twice (λ (d : Entry). is_object o d.object) (is_of e.txn) h))
      where
        stand : (d : Entry) → IsLike e d → (is_object o d.object && is_of e.txn d) ≡ true
        stand d likely =
            let here = ap (λ (q : ObjectNo). is_object q d.object) (sym at) ∙ likely.here in
            let own = likely.own in
            λ i. here i && own i

    few-at-hop : (e : Entry) → IsKeyed e → (o : ℕ) → e.object ≡ Hop o → Stands p e.txn (Hop o) → length (filter (has_key e) h) ≤ 32
    few-at-hop e k o at stands =
        let x = e.txn in
        let log = entries_at (Hop o) h in
        let calls = of-object (Hop o) (λ (d : Entry). IsACall d.what) h (AllByRecursion-weaker (λ (d : Entry). IsKind d.object d.what) (λ (d : Entry). is_object (Hop o) d.object ≡ true → IsACall d.what) h (λ d kind here. call-at-hop o d.object d.what kind here) kinds) in
        let sound = good.sound in
        let traffic = sound.traffic in
        let phases = traffic.phases in
        let pass = stands.0 in
        let hop = stands.2 in
        let begun = phases.table x pass stands.1 hop stands.3 in
        let few = few-calls (row_of (world_of p) pass hop) ((world_of p).hop (hop_at pass hop)).resp (calls_of x (entries_at (Hop (hop_at pass hop)) h)) begun in
        let here = ap (λ (n : ℕ). length (calls_of x (entries_at (Hop n) h))) stands.4 in
        omega (arith, at-object e k (Hop o) at, count-calls x log calls, few, here)

    few-at-pool : (e : Entry) → IsKeyed e → (i : ℕ) → e.object ≡ Pool i → Stands p e.txn (Pool i) → length (filter (has_key e) h) ≤ 32
    few-at-pool e k i at stands =
        let x = e.txn in
        let moves = of-object (Pool i) (λ (d : Entry). IsAMove d.what) h (AllByRecursion-weaker (λ (d : Entry). IsKind d.object d.what) (λ (d : Entry). is_object (Pool i) d.object ≡ true → IsAMove d.what) h (λ d kind here. move-at-pool i d.object d.what kind here) kinds) in
        let ends = good.traffic in
        let payloads = ends.payloads in
        let pass = stands.0 in
        let passed = is-passed p valid.shape x pass stands.1 in
        let own = stands.2 in
        let taken = ap (λ (n : ℕ). takes x (entries_at (Pool n) h)) own ∙ payloads.taken x pass stands.1 in
        let acquired = ap (λ (n : ℕ). acquires x (entries_at (Pool n) h)) own ∙ payloads.acquired x pass stands.1 in
        let released = ap (λ (n : ℕ). length (release_times x (entries_at (Pool n) h))) own ∙ payloads.released x pass stands.1 in
        omega (arith, at-object e k (Pool i) at, count-moves x (entries_at (Pool i) h) moves, taken, acquired, released, passed.few)

    few-with-key : (e : Entry) → IsKeyed e → Stands p e.txn e.object → length (filter (has_key e) h) ≤ 32
    few-with-key e k stands = by_object e.object refl stands
      where
        by_object : (o : ObjectNo) → e.object ≡ o → Stands p e.txn o → length (filter (has_key e) h) ≤ 32
        by_object (Memory m) at stands = few-at-memory e k m at
        by_object (Hop o) at stands = few-at-hop e k o at stands
        by_object (Pool i) at stands = few-at-pool e k i at stands

    few-entries-by : AllByRecursion (λ (e : Entry). Stands p e.txn e.object) h → length h ≤ 35184372088832 * 32
    few-entries-by stand =
        few-by key 35184372088832 h (AllByRecursion-weaker IsKeyed (λ (e : Entry). key e < 35184372088832) h key-small keyed)
        (λ k. ⊎_elim (λ (none : _). omega (arith, none)) (λ (few : _). few)
        (none-or (λ (d : Entry). eqb (key d) k) (λ (e : Entry). IsKeyed e × Stands p e.txn e.object) (length (filter (λ (d : Entry). eqb (key d) k) h) ≤ 32) h
        (both-hold IsKeyed (λ (e : Entry). Stands p e.txn e.object) h keyed stand)
        (λ e is same. subst (λ (n : ℕ). length (filter (λ (d : Entry). eqb (key d) n) h) ≤ 32) (eqb-true (key e) k same) (few-with-key e is.0 is.1))))

  -- the objects of a good history are there
  pub good-objects : (h : List Entry) → IsGood p h → AllByRecursion (λ (e : Entry). Stands p e.txn e.object) h → AllByRecursion (λ (e : Entry). IsObject p.platform e.object) h
  good-objects h good stand =
      let sound = good.sound in
      let requests = sound.requests in
      let scripts = requests.scripts in
      objects-there p valid.shape h (initiators-there [] h scripts.order) (memories-there p [] h scripts.replies scripts.places) stand

  pub few-entries : (h : List Entry) → IsGood p h → HaveKinds h → AllByRecursion (λ (e : Entry). Stands p e.txn e.object) h → length h ≤ 1125899906842624
  few-entries h good kinds stand =
      let sound = good.sound in
      let requests = sound.requests in
      let scripts = requests.scripts in
      let keyed = all-keyed [] h scripts.order scripts.places (good-objects h good stand) in
      omega (arith, few-entries-by h good kinds keyed stand)
