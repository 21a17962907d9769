-- What an access asks for by its plan: where it leads, and what it reads into.
use Rattle.std.proofs.Common.{◌≡◌, ℕ, zero, suc, ◌+◌, ◌-◌, ◌<◌, ◌≤◌, List, [], ◌∷◌, length, Option, Some, None, refl, sym, ◌∙◌, ap, arith, subst}
use Rattle.std.specs.Prelude.{slice_get, unwrap_or}
use Rattle.std.proofs.lemmas.List.{length-replicate}
use Rattle.atomic_table.specs.Seated.{TableId}
use Rattle.tlm_types.specs.declared.entry.Access.{Access}
use Rattle.tlm_types.specs.declared.entry.Entry.{Entry}
use Rattle.tlm_types.specs.declared.words.Command.TheVariants as Commands
use Rattle.tlm_types.specs.declared.words.TxnId.{TxnId}
use Rattle.tlm_model.specs.declared.operation.Operation.{Operation}
use Rattle.tlm_model.specs.declared.operation.Operation.TheVariants.{Write, Read, Ignore, Debug, Copy, Add, FetchAdd, Wait, Sync, Fence, Invalidate}
use Rattle.tlm_model.specs.declared.platform.MemoryRow.{MemoryRow}
use Rattle.tlm_model.specs.declared.platform.Platform.{Platform}
use Rattle.tlm_model.specs.declared.platform.RouterRow.{RouterRow}
use Rattle.tlm_model.specs.declared.platform.Target.{Target}
use Rattle.tlm_model.specs.declared.platform.Target.TheVariants.{Router, Memory}
use Rattle.tlm_model.specs.Actions.{Asked, Transport, DebugRead, Invalidation, ask_for, debug_of, fetch_add_of, ignore_of, read_of, write_of}
use Rattle.tlm_model.specs.Numbers.{added}
use Rattle.tlm_model.specs.Plan.{Plan, Initiator}
use Rattle.tlm_model.specs.Requests.{Request, buffer_of, paused, requests_from, requests_of, using}
use Rattle.tlm_model.specs.Route.{Found, Route, hops_of, into_memory, into_router, into_window, later, latency_of, route_of, walk, window_of}
use Rattle.tlm_model.specs.Store.{zeros}
use Rattle.tlm_model.proofs.RequestLemmas.{ask_at}
use Rattle.flow_model.specs.World.{Passage, hop_count}
use Rattle.flow_model.specs.Events.{Event}
use Rattle.flow_model.specs.Platform.{accessed, addresses_of}
use Rattle.cargo_model.specs.Stops.{end_by, ended_in, window_at}
use Rattle.cargo_model.specs.Travel.{IsAsked, route_for, stop_for}
use Rattle.cargo_model.proofs.Ways.{ways_law}
use Rattle.cargo_model.specs.Known.{Known}
use Rattle.cargo_net.specs.Forwards.{MemoriesEndWays}

same_request : (q r : Request) → Some q ≡ Some r → q ≡ r
same_request q r e = cc

same_access : (a b : Access) → Transport a ≡ Transport b → a ≡ b
same_access a b e = cc

no_debug : (a b : Access) → DebugRead a ≡ Transport b → ⊥
no_debug a b e = cc

no_invalidation : (n : ℕ) (b : Access) → Invalidation n ≡ Transport b → ⊥
no_invalidation n b e = cc

-- what is read into are zeros
abbrev pub ReadsZeros : Access → Type 0
ReadsZeros a = a.command ≡ Commands.Read → a.sent ≡ zeros (length a.sent)

reads : (n : ℕ) (enables : List ℕ) (width : ℕ) → ReadsZeros (read_of n enables width)
reads n enables width c = ap zeros (sym (length-replicate {A = ℕ} n 0))

writes : (bytes enables : List ℕ) (width : ℕ) → ReadsZeros (write_of bytes enables width)
writes bytes enables width c = absurd (never c)
  where
    never : Commands.Write ≡ Commands.Read → ⊥
    never c = cc

ignores : ReadsZeros ignore_of
ignores c = absurd (never c)
  where
    never : Commands.Ignore ≡ Commands.Read → ⊥
    never c = cc

adds : (n : ℕ) → ReadsZeros (fetch_add_of n)
adds n c = absurd (never c)
  where
    never : Commands.FetchAdd ≡ Commands.Read → ⊥
    never c = cc

as_asked : (a b : Access) → Transport a ≡ Transport b → ReadsZeros a → ReadsZeros b
as_asked a b e z = subst ReadsZeros (same_access a b e) z

module _ (p : Platform) (i : Initiator) (h : List Entry) where
  abbrev AllRead : List Request → Type 0
  AllRead rs = (k : ℕ) (r : Request) (a : Access) → slice_get rs k ≡ Some r → r.asked ≡ Transport a → ReadsZeros a

  read_nil : AllRead []
  read_nil k r a e t = cc

  read_cons : (q : Request) (rs : List Request) → ((a : Access) → q.asked ≡ Transport a → ReadsZeros a) → AllRead rs → AllRead (q ∷ rs)
  read_cons q rs first rest zero r a e t = first a (ap (λ (d : Request). d.asked) (same_request q r e) ∙ t)
  read_cons q rs first rest (suc k) r a e t = rest k r a e t

  read_using : (o : Option (List ℕ)) (next : List ℕ → List Request) → ((got : List ℕ) → AllRead (next got)) → AllRead (using o next)
  read_using None next each = read_nil
  read_using (Some got) next each = each got

  read_pair : (s t g from to n : ℕ) (change : List ℕ → List ℕ) (ops : List Operation) → ((s t g : ℕ) → AllRead (requests_from p i h s t g ops)) → AllRead (
      record { seq = s; address = from; asked = Transport (read_of n [] n); time = t; stage = g + 1 } ∷
      using (buffer_of p i h s from n) (λ got.
      record { seq = s + 1; address = to; asked = Transport (write_of (change got) [] n); time = later t (latency_of p i from); stage = g + 2 } ∷
      requests_from p i h (s + 2) (later (later t (latency_of p i from)) (latency_of p i to)) (g + 3) ops))
  read_pair s t g from to n change ops rest =
      read_cons _ _ (λ a e. as_asked (read_of n [] n) a e (reads n [] n)) (read_using (buffer_of p i h s from n) _ (λ got.
      read_cons _ _ (λ a e. as_asked (write_of (change got) [] n) a e (writes (change got) [] n)) (rest (s + 2) (later (later t (latency_of p i from)) (latency_of p i to)) (g + 3))))

  read_by : (s t g : ℕ) (op : Operation) (ops : List Operation) → ((s t g : ℕ) → AllRead (requests_from p i h s t g ops)) → AllRead (requests_from p i h s t g (op ∷ ops))
  read_by s t g (Write a bytes enables width) ops rest = read_cons _ _ (λ b e. as_asked _ b e (writes bytes enables (unwrap_or width (length bytes)))) (rest (s + 1) (later t (latency_of p i a)) g)
  read_by s t g (Read a n enables width) ops rest = read_cons _ _ (λ b e. as_asked _ b e (reads n enables (unwrap_or width n))) (rest (s + 1) (later t (latency_of p i a)) g)
  read_by s t g (Ignore a) ops rest = read_cons _ _ (λ b e. as_asked ignore_of b e ignores) (rest (s + 1) (later t (latency_of p i a)) g)
  read_by s t g (Debug a n) ops rest = read_cons _ _ (λ b e. absurd (no_debug (debug_of n) b e)) (rest (s + 1) t (g + 2))
  read_by s t g (Copy from to n) ops rest = read_pair s t g from to n (λ got. got) ops rest
  read_by s t g (Add a n) ops rest = read_pair s t g a a 4 (λ got. added got n) ops rest
  read_by s t g (FetchAdd a n) ops rest = read_cons _ _ (λ b e. as_asked (fetch_add_of n) b e (adds n)) (rest (s + 1) (later t (latency_of p i a)) (g + 2))
  read_by s t g (Wait n) ops rest = rest s (paused t (Some n)) (g + 1)
  read_by s t g Sync ops rest = rest s (paused t None) (g + 1)
  read_by s t g Fence ops rest = rest s (paused t None) (g + 1)
  read_by s t g (Invalidate a n) ops rest = read_cons _ _ (λ b e. absurd (no_invalidation n b e)) (rest (s + 1) t (g + 2))

  read_from : (s t g : ℕ) (ops : List Operation) → AllRead (requests_from p i h s t g ops)
  read_from s t g [] = read_nil
  read_from s t g (op ∷ ops) = read_by s t g op ops (λ s t g. read_from s t g ops)

-- an access that is asked for reads into zeros
pub asked_reads_zeros : (p : Plan) (tokens : TableId) (K : Event → Type 0) (x : TxnId) (pass : Passage) (asked : IsAsked p tokens K x pass) → ReadsZeros asked.access
asked_reads_zeros p tokens K x pass asked = read_from p.platform asked.initiator asked.replies 0 0 0 asked.initiator.script x.seq asked.request asked.access asked.asked asked.transport

-- Where it leads doesn't depend on the replies by which it is asked for.
pub one_route : (p : Plan) (tokens : TableId) (K L : Event → Type 0) (x : TxnId) (pass : Passage) (a : IsAsked p tokens K x pass) (b : IsAsked p tokens L x pass) → route_for p tokens K x pass a ≡ route_for p tokens L x pass b
one_route p tokens K L x pass a b = ap (λ (j : Initiator). route_of p.platform j a.request.address) initiator ∙ ap (route_of p.platform b.initiator) address
  where
    same_initiator : (i j : Initiator) → Some i ≡ Some j → i ≡ j
    same_initiator i j e = cc

    same_address : (m n : ℕ) → ◌≡◌ {A = Option (Option ℕ)} (Some (Some m)) (Some (Some n)) → m ≡ n
    same_address m n e = cc

    address_at : (i : Initiator) (h : List Entry) (r : Request) (d : Access) → r.asked ≡ Transport d → slice_get (requests_of p.platform i h) x.seq ≡ Some r → slice_get (addresses_of i.script) x.seq ≡ Some (Some r.address)
    address_at i h r d transport q = ask_at accessed (λ m n. refl) p.platform i h r 0 0 0 i.script x.seq q ∙ ap (λ (d : Asked). Some (accessed (ask_for r.address d))) transport

    initiator : a.initiator ≡ b.initiator
    initiator = same_initiator a.initiator b.initiator (sym a.is ∙ b.is)

    address : a.request.address ≡ b.request.address
    address = same_address _ _ (sym (address_at a.initiator a.replies a.request a.access a.transport a.asked) ∙ ap (λ (j : Initiator). slice_get (addresses_of j.script) x.seq) initiator ∙ address_at b.initiator b.replies b.request b.access b.transport b.asked)

-- a walk that ends at a memory has passed fewer hops than it might
few_hops : (fuel : ℕ) (p : Platform) (t : Target) (a b : ℕ) (r : Route) → (walk fuel p t a b).end ≡ Some r → length (walk fuel p t a b).hops < fuel
few_hops zero p t a b r q = cc
few_hops (suc fuel) p (Memory m) a b r q = at (slice_get p.memories m) q
  where
    at : (row : Option MemoryRow) → (into_memory row m a b).end ≡ Some r → length (into_memory row m a b).hops < suc fuel
    at None q = cc
    at (Some row) q = omega arith
few_hops (suc fuel) p (Router s) a b r q = by_router (λ t c d e. few_hops fuel p t c d r e) (slice_get p.routers s) q
  where
    by_window : ((t : Target) (c d : ℕ) → (walk fuel p t c d).end ≡ Some r → length (walk fuel p t c d).hops < fuel) → (c : ℕ) (f : Option Found) → (into_window p s f a c (λ t b c. walk fuel p t b c)).end ≡ Some r
        → length (into_window p s f a c (λ t b c. walk fuel p t b c)).hops < suc fuel
    by_window more c None q = cc
    by_window more c (Some f) q = let l = more f.window.to (a - f.window.first + f.window.base) c q in omega (arith, l)

    by_router : ((t : Target) (c d : ℕ) → (walk fuel p t c d).end ≡ Some r → length (walk fuel p t c d).hops < fuel) → (row : Option RouterRow) → (into_router p s row a b (λ t b c. walk fuel p t b c)).end ≡ Some r
        → length (into_router p s row a b (λ t b c. walk fuel p t b c)).hops < suc fuel
    by_router more None q = cc
    by_router more (Some row) q = by_window more (later b row.latency) (window_of 0 row.windows a) q

-- at most so many hops are passed
all_few : (fuel : ℕ) (p : Platform) (t : Target) (a b : ℕ) → length (walk fuel p t a b).hops ≤ fuel
all_few zero p t a b = omega arith
all_few (suc fuel) p (Memory m) a b = at (slice_get p.memories m)
  where
    at : (row : Option MemoryRow) → length (into_memory row m a b).hops ≤ suc fuel
    at None = omega arith
    at (Some row) = omega arith
all_few (suc fuel) p (Router s) a b = by_router (λ t c d. all_few fuel p t c d) (slice_get p.routers s)
  where
    by_window : ((t : Target) (c d : ℕ) → length (walk fuel p t c d).hops ≤ fuel) → (c : ℕ) (f : Option Found) → length (into_window p s f a c (λ t b c. walk fuel p t b c)).hops ≤ suc fuel
    by_window more c None = omega arith
    by_window more c (Some f) = let l = more f.window.to (a - f.window.first + f.window.base) c in omega (arith, l)

    by_router : ((t : Target) (c d : ℕ) → length (walk fuel p t c d).hops ≤ fuel) → (row : Option RouterRow) → length (into_router p s row a b (λ t b c. walk fuel p t b c)).hops ≤ suc fuel
    by_router more None = omega arith
    by_router more (Some row) = by_window more (later b row.latency) (window_of 0 row.windows a)

pub asked_few : (p : Plan) (tokens : TableId) (K : Event → Type 0) (x : TxnId) (pass : Passage) (asked : IsAsked p tokens K x pass) → hop_count pass ≤ 10
asked_few p tokens K x pass asked =
    let l = all_few 9 p.platform asked.initiator.row.bind asked.request.address 0 in
    let m = ap (λ (y : Passage). hop_count y) asked.way in
    omega (arith, l, m)

-- at the last hop of an access with a route, the address is the route's offset
pub last_offset : (p : Plan) (tokens : TableId) (K : Event → Type 0) (x : TxnId) (pass : Passage) (asked : IsAsked p tokens K x pass) (k : ℕ) (r : Route) → k + 1 ≡ hop_count pass → route_for p tokens K x pass asked ≡ Some r
    → (stop_for p tokens K x pass asked k).address ≡ r.offset
last_offset p tokens K x pass asked k r last routed = by_window (window_at p.platform (stop_for p tokens K x pass asked k) (stop_for p tokens K x pass asked k).to) refl
  where
    hops : List ℕ
    hops = hops_of p.platform asked.initiator asked.request.address

    long : k + 1 ≡ length (hops_of p.platform asked.initiator asked.request.address)
    long = last ∙ ap (λ (y : Passage). length y.hops) asked.way

    few : k < 9
    few = let l = few_hops 9 p.platform asked.initiator.row.bind asked.request.address 0 r routed in omega (arith, l, long)

    below : k < length (hops_of p.platform asked.initiator asked.request.address)
    below = omega (arith, long)

    at_end : (t : Target) → end_by p.platform (stop_for p tokens K x pass asked k) t ≡ Some r → (stop_for p tokens K x pass asked k).address ≡ r.offset
    at_end (Router s) q = cc
    at_end (Memory m) q = by_row (slice_get p.platform.memories m) q
      where
        same : (a b : Route) → Some a ≡ Some b → a ≡ b
        same a b e = cc

        by_row : (row : Option MemoryRow) → ended_in row m (stop_for p tokens K x pass asked k).address ≡ Some r → (stop_for p tokens K x pass asked k).address ≡ r.offset
        by_row None q = cc
        by_row (Some row) q = ap (λ (d : Route). d.offset) (same _ r q)

    by_window : (w : Option Found) → window_at p.platform (stop_for p tokens K x pass asked k) (stop_for p tokens K x pass asked k).to ≡ w → (stop_for p tokens K x pass asked k).address ≡ r.offset
    by_window None q = at_end (stop_for p tokens K x pass asked k).to (sym ((ways_law p.platform asked.initiator asked.request.address k below few).stop q).1 ∙ routed)
    by_window (Some f) q = let l = ((ways_law p.platform asked.initiator asked.request.address k below few).on f q).0 in absurd (omega (arith, l, long))

-- at a memory the way ends
pub memories_end : MemoriesEndWays
memories_end p tokens known x pass asked k m row below few to_m is there =
    let long : hop_count pass ≡ length (hops_of p.platform asked.initiator asked.request.address) = ap (λ (y : Passage). length y.hops) asked.way in
    let s = stop_for p tokens (Known p.platform known) x pass asked k in
    let g = (ways_law p.platform asked.initiator asked.request.address k (omega (arith, below, long)) few).stop (ap (window_at p.platform s) to_m) in
    record {
      last = (let l = g.0 in omega (arith, l, long));
      to = record { memory = m; offset = s.address };
      routed = g.1 ∙ ap (end_by p.platform s) to_m ∙ ap (λ (r : Option MemoryRow). ended_in r m s.address) is;
      place = refl;
      there = there;
    }
