-- What is asked for, action by action.
use Rattle.std.proofs.Common.{◌≡◌, ℕ, zero, suc, ◌+◌, List, [], ◌∷◌, ◌++◌, length, map, Option, Some, None, refl, sym, ap, ◌∙◌, subst, length-append, arith}
use Rattle.std.specs.List.{flat_map}
use Rattle.std.specs.Prelude.{slice_get}
use Rattle.tlm_types.specs.declared.entry.Entry.{Entry}
use Rattle.tlm_model.specs.declared.operation.Operation.{Operation}
use Rattle.tlm_model.specs.declared.platform.Platform.{Platform}
use Rattle.tlm_model.specs.declared.ask.Ask.{Ask}
use Rattle.tlm_model.specs.declared.ask.Ask.TheVariants.{Access as AnAccess}
use Rattle.tlm_model.specs.Actions.{Action, Plain, Alone, Pair, Pause, Transport, action_of, ask_for, asks_by, asks_of}
use Rattle.tlm_model.specs.Plan.{Initiator}
use Rattle.tlm_model.specs.Requests.{Request, buffer_of, numbers_in, paused, requests_by, requests_from, time_past, using}
use Rattle.tlm_model.specs.Route.{later, latency_of}

-- each sequence number has its ask
pub numbers_in_asks : (ops : List Operation) → numbers_in ops ≡ length (flat_map asks_of ops)
numbers_in_asks [] = refl
numbers_in_asks (op ∷ ops) = ap (λ (n : ℕ). length (asks_of op) + n) (numbers_in_asks ops) ∙ sym (length-append (asks_of op) (flat_map asks_of ops))

-- two histories that answer the same reads
module _ (p : Platform) (i : Initiator) (h m : List Entry) (same : (s a n : ℕ) → buffer_of p i h s a n ≡ buffer_of p i m s a n) where
  one_more : (r : Request) (xs ys : List Request) → xs ≡ ys → r ∷ xs ≡ r ∷ ys
  one_more r xs ys e = ap (λ (rs : List Request). r ∷ rs) e

  using_same : (x y : Option (List ℕ)) (f g : List ℕ → List Request) → x ≡ y → ((got : List ℕ) → f got ≡ g got) → using x f ≡ using y g
  using_same x y f g e each = ap (λ (o : Option (List ℕ)). using o f) e ∙ by_reply y
    where
      by_reply : (o : Option (List ℕ)) → using o f ≡ using o g
      by_reply None = refl
      by_reply (Some got) = each got

  by_action : (s t g : ℕ) (action : Action) (ops : List Operation) → ((s t g : ℕ) → requests_from p i h s t g ops ≡ requests_from p i m s t g ops)
      → requests_by p i h s t g action (λ s t g. requests_from p i h s t g ops) ≡ requests_by p i m s t g action (λ s t g. requests_from p i m s t g ops)
  by_action s t g (Plain a access) ops rest = one_more _ _ _ (rest (s + 1) (later t (latency_of p i a)) g)
  by_action s t g (Alone a asked) ops rest = one_more _ _ _ (rest (s + 1) (time_past p i t a asked) (g + 2))
  by_action s t g (Pair from to n change) ops rest =
      one_more _ _ _ (using_same (buffer_of p i h s from n) (buffer_of p i m s from n) _ _ (same s from n) (λ got.
      one_more _ _ _ (rest (s + 2) (later (later t (latency_of p i from)) (latency_of p i to)) (g + 3))))
  by_action s t g (Pause time sync) ops rest = rest s (paused t time) (g + 1)

  -- ask for the same
  pub same_requests : (s t g : ℕ) (ops : List Operation) → requests_from p i h s t g ops ≡ requests_from p i m s t g ops
  same_requests s t g [] = refl
  same_requests s t g (op ∷ ops) = by_action s t g (action_of op) ops (λ s t g. same_requests s t g ops)

some_request : (q r : Request) → Some q ≡ Some r → q ≡ r
some_request q r e = cc

module _ (p : Platform) (i : Initiator) (h : List Entry) where
  -- the requests have numbers from s on
  abbrev Counts : ℕ → List Request → Type 0
  Counts s rs = (k : ℕ) (r : Request) → slice_get rs k ≡ Some r → r.seq ≡ s + k

  counts_nil : (s : ℕ) → Counts s []
  counts_nil s k r e = cc

  counts_cons : (s : ℕ) (q : Request) (rs : List Request) → q.seq ≡ s → Counts (s + 1) rs → Counts s (q ∷ rs)
  counts_cons s q rs is rest zero r e = let c : q.seq ≡ r.seq = ap (λ (d : Request). d.seq) (some_request q r e) in omega arith
  counts_cons s q rs is rest (suc k) r e = let c : r.seq ≡ (s + 1) + k = rest k r e in omega arith

  counts_using : (s : ℕ) (o : Option (List ℕ)) (next : List ℕ → List Request) → ((got : List ℕ) → Counts s (next got)) → Counts s (using o next)
  counts_using s None next f = counts_nil s
  counts_using s (Some got) next f = f got

  counts_by : (s t g : ℕ) (action : Action) (ops : List Operation) → ((s t g : ℕ) → Counts s (requests_from p i h s t g ops))
      → Counts s (requests_by p i h s t g action (λ s t g. requests_from p i h s t g ops))
  counts_by s t g (Plain a access) ops rest = counts_cons s _ _ refl (rest (s + 1) (later t (latency_of p i a)) g)
  counts_by s t g (Alone a asked) ops rest = counts_cons s _ _ refl (rest (s + 1) (time_past p i t a asked) (g + 2))
  counts_by s t g (Pair from to n change) ops rest =
      counts_cons s _ _ refl (counts_using (s + 1) (buffer_of p i h s from n) _ (λ got. counts_cons (s + 1) _ _ refl
      (let two : s + 2 ≡ (s + 1) + 1 = omega arith in subst (λ (m : ℕ). Counts m (requests_from p i h (s + 2) (later (later t (latency_of p i from)) (latency_of p i to)) (g + 3) ops)) two (rest (s + 2) (later (later t (latency_of p i from)) (latency_of p i to)) (g + 3)))))
  counts_by s t g (Pause time sync) ops rest = rest s (paused t time) (g + 1)

  -- request k from these operations on has number s + k
  pub request_number : (s t g : ℕ) (ops : List Operation) → Counts s (requests_from p i h s t g ops)
  request_number s t g [] = counts_nil s
  request_number s t g (op ∷ ops) = counts_by s t g (action_of op) ops (λ s t g. request_number s t g ops)

-- A request is that of its operation, by whatever replies: in all that doesn't depend on the bytes of an access.
module _ {X : Type 0} (f : Ask → X) (any : (a n : ℕ) → f (AnAccess a n) ≡ f (AnAccess a 0)) (p : Platform) (i : Initiator) (h : List Entry) (r : Request) where
  abbrev Stands : List Request → List Ask → Type 0
  Stands rs asks = (k : ℕ) → slice_get rs k ≡ Some r → slice_get (map f asks) k ≡ Some (f (ask_for r.address r.asked))

  stands_nil : (asks : List Ask) → Stands [] asks
  stands_nil asks k e = cc

  stands_cons : (q : Request) (ask : Ask) (rs : List Request) (asks : List Ask) → f ask ≡ f (ask_for q.address q.asked) → Stands rs asks → Stands (q ∷ rs) (ask ∷ asks)
  stands_cons q ask rs asks same rest zero e = ap (λ (x : X). Some x) same ∙ ap (λ (d : Request). Some (f (ask_for d.address d.asked))) (some_request q r e)
  stands_cons q ask rs asks same rest (suc k) e = rest k e

  stands_using : (o : Option (List ℕ)) (next : List ℕ → List Request) (asks : List Ask) → ((got : List ℕ) → Stands (next got) asks) → Stands (using o next) asks
  stands_using None next asks each = stands_nil asks
  stands_using (Some got) next asks each = each got

  stands_by : (s t g : ℕ) (action : Action) (ops : List Operation) → ((s t g : ℕ) → Stands (requests_from p i h s t g ops) (flat_map asks_of ops))
      → Stands (requests_by p i h s t g action (λ s t g. requests_from p i h s t g ops)) (asks_by action ++ flat_map asks_of ops)
  stands_by s t g (Plain a access) ops rest = stands_cons _ (ask_for a (Transport access)) _ (flat_map asks_of ops) refl (rest (s + 1) (later t (latency_of p i a)) g)
  stands_by s t g (Alone a asked) ops rest = stands_cons _ (ask_for a asked) _ (flat_map asks_of ops) refl (rest (s + 1) (time_past p i t a asked) (g + 2))
  stands_by s t g (Pair from to n change) ops rest =
      stands_cons _ (AnAccess from n) _ (AnAccess to n ∷ flat_map asks_of ops) (any from n ∙ sym (any from (n + 0)))
      (stands_using (buffer_of p i h s from n) _ (AnAccess to n ∷ flat_map asks_of ops) (λ got.
      stands_cons _ (AnAccess to n) _ (flat_map asks_of ops) (any to n ∙ sym (any to (length (change got) + 0)))
      (rest (s + 2) (later (later t (latency_of p i from)) (latency_of p i to)) (g + 3))))
  stands_by s t g (Pause time sync) ops rest = rest s (paused t time) (g + 1)

  pub ask_at : (s t g : ℕ) (ops : List Operation) → Stands (requests_from p i h s t g ops) (flat_map asks_of ops)
  ask_at s t g [] = stands_nil []
  ask_at s t g (op ∷ ops) = stands_by s t g (action_of op) ops (λ s t g. ask_at s t g ops)
