-- One more own entry of an initiator: the access of the request that is next, or a grant.
use Rattle.std.proofs.Common.{◌≡◌, ◌≢◌, ℕ, ◌≤◌, List, [], ◌∷◌, ◌++◌, length, Option, Some, None, Bool, true, false, cond, not, ◌||◌, ◌&&◌, nat_lt, refl, ap, sym, subst, ◌∙◌, arith, append_assoc}
use Rattle.std.specs.List.{AllByRecursion, list_all}
use Rattle.std.specs.Prelude.{slice_get, MatchOption, IsTrue}
use Rattle.std.proofs.lemmas.Bool.Decides.{nat_tests}
use Rattle.std.proofs.lemmas.Grind.{common_steps}
use Rattle.std.proofs.lemmas.List.Folds.{list_any-append, list_all-append}
use Rattle.tlm_types.specs.declared.entry.Entry.{Entry}
use Rattle.tlm_types.specs.declared.entry.What.TheVariants.{Access as Accessed}
use Rattle.tlm_types.specs.declared.words.Command.TheVariants.{Read as read_command, Write as write_command, Ignore as ignore_command, FetchAdd as fetch_add_command}
use Rattle.tlm_types.specs.declared.words.MemoryTraits.{MemoryTraits}
use Rattle.tlm_types.specs.declared.words.ObjectNo.TheVariants.{Memory as memory_object}
use Rattle.tlm_types.specs.declared.words.Response.{Response}
use Rattle.tlm_types.specs.declared.words.Way.{Way}
use Rattle.tlm_model.specs.declared.platform.Platform.{Platform}
use Rattle.tlm_model.specs.declared.platform.Style.{Style}
use Rattle.tlm_model.specs.declared.platform.Style.TheVariants.{Blocking, Direct, FourPhase}
use Rattle.tlm_model.specs.Plan.{Plan, Initiator, initiators_of}
use Rattle.tlm_model.specs.Requests.{Asked, Transport, DebugRead, Invalidation, Request, answered, buffer_by, first_of_two, got_in, is_txn, requests_of}
use Rattle.tlm_model.specs.Route.{Route as RouteOfModel, route_of}
use Rattle.tlm_model.specs.Scripts.{HasWay, IsEntryOf, IsInOrder, IsPlaced, IsWay, OfRequest, comes_first, has_answer, is_answer, is_settled}
use Rattle.tlm_model.specs.Store.{got_of, status_of}
use Rattle.tlm_model.specs.Times.{HasTime, access_time, decoupled_time}
use Rattle.tlm_model.proofs.EachLemmas.{append_nil, AtEach-push}
use Rattle.generic_payload.specs.Payload.{PayloadView}
use Rattle.good_history.specs.Joined.{KeepsOwn}
use Rattle.route_plan.specs.declared.step.Route.{Route}
use Rattle.script_engine.specs.declared.part.Part.{Part}
use Rattle.script_engine.specs.declared.part.Part.TheVariants.{Asks}
use Rattle.script_engine.specs.declared.part.Transfer.{Transfer}
use Rattle.script_engine.specs.declared.part.TransferKind.{TransferKind}
use Rattle.script_engine.specs.declared.part.TransferKind.TheVariants as transfer
use Rattle.script_engine.specs.Part.{command_in, is_fenced_kind, is_fenced_part}
use Rattle.script_engine.specs.State.{next_of, payload_of}
use Rattle.script_engine.specs.Asking.{IsAnsweredKind, IsAnsweredPart, request_for, requests_at}
use Rattle.quantum_keeper.specs.Keeper.{current_time}
use Rattle.initiator_run.specs.Access.{IsRouteOf, model_route}
use Rattle.initiator_run.specs.Come.{HasCome}
use Rattle.initiator_run.specs.Entry.{IsAccess, access_at, answered_by, way_of}
use Rattle.initiator_run.specs.Run.{Run, accessed}
use Rattle.initiator_run.proofs.AccessLemmas.{HasCome-answered}
use Rattle.initiator_run.proofs.AnswerLemmas.{all_settled-more, and_left, and_right, and_true, answered-fresh}
use Rattle.initiator_run.proofs.NextLemmas.{numbers_at, request_is_first, seq_of_next}
use Rattle.initiator_run.proofs.RunLemmas.{laws}
use Rattle.initiator_run.proofs.StepLemmas.{slice_get-after}

-- what holds of both styles whose time is decoupled
pub decoupled_style : (P : Style → Type 0) (s : Style) → s ≢ FourPhase → P Blocking → P Direct → P s
decoupled_style P Blocking is blocking direct = blocking
decoupled_style P Direct is blocking direct = direct
decoupled_style P FourPhase is blocking direct = absurd (is refl)

-- An entry is for a request that its initiator has asked for.
pub record IsFor (p : Plan) (i : Initiator) (h : List Entry) (r : Request) (e : Entry) : Type 0 where
  pub mine : slice_get (initiators_of p) e.txn.initiator ≡ Some i
  pub asked : slice_get (requests_of p.platform i h) e.txn.seq ≡ Some r

-- what an entry says of its request, once that request is known
pub of_request : (p : Plan) (h : List Entry) (e : Entry) (Q : Initiator → Request → Type 0) (i : Initiator) (r : Request) → IsFor p i h r e → Q i r → OfRequest p h e Q
of_request p h e Q i r is q =
    subst (λ (o : Option Initiator). MatchOption o ⊥ (λ j. MatchOption (slice_get (requests_of p.platform j h) e.txn.seq) ⊥ (λ x. Q j x))) (sym is.mine)
    (subst (λ (o : Option Request). MatchOption o ⊥ (λ x. Q i x)) (sym is.asked) q)

-- What an entry is, by its request.
pub record IsDoneFor (p : Plan) (i : Initiator) (h : List Entry) (r : Request) (e : Entry) : Type 0 where
  pub replies : IsEntryOf (route_of p.platform i r.address) r.asked e.object e.what
  pub way : HasWay i.row.style r.asked e.what
  pub order : IsInOrder p.platform i h r (is_answer e.what)
  pub place : IsPlaced p.platform e.txn.initiator e.object e.what
  pub time : HasTime i.row.style (decoupled_time p.platform i r e.what) e.time

pub keeps_more : (p : Plan) (i : Initiator) (h : List Entry) (r : Request) (e : Entry) → IsFor p i h r e → IsDoneFor p i h r e → KeepsOwn p h → KeepsOwn p (h ++ e ∷ [])
keeps_more p i h r e is done keeps = record {
  scripts = record {
    replies = AtEach-push _ h e keeps.scripts.replies (of_request p h e _ i r is done.replies);
    ways = AtEach-push _ h e keeps.scripts.ways (of_request p h e _ i r is done.way);
    order = AtEach-push _ h e keeps.scripts.order (of_request p h e _ i r is done.order);
    places = AtEach-push _ h e keeps.scripts.places done.place;
  };
  times = AtEach-push _ h e keeps.times (of_request p h e _ i r is done.time);
}

-- the request that a run makes next
abbrev pub request_next : Run → Transfer → ℕ → Request
request_next r x stage = request_for x (payload_of r.engine 4096) (current_time r.keeper) stage

-- it stands at its number, whatever is answered next
pub next_is_asked : (p : Platform) (i : Initiator) (h m : List Entry) (r : Run) (x : Transfer) → next_of r.engine ≡ Asks x → (come : HasCome p i h r) → slice_get (requests_of p i (h ++ m)) r.engine.seq ≡ Some (request_next r x come.stage)
next_is_asked p i h m r x is come =
    let first = request_is_first p i (h ++ m) (current_time r.keeper) come.stage 4096 r.engine x is in
    ap (λ (rs : List Request). slice_get rs r.engine.seq) (come.asked.asked m ∙ ap (λ (rs : List Request). come.made ++ rs) first.first)
    ∙ slice_get-after come.made (request_next r x come.stage) first.more r.engine.seq (sym come.count)

-- the requests that don't come first needn't be settled
rest_is_later : (p : Platform) (i : Initiator) (h : List Entry) (s : ℕ) (rs : List Request) → AllByRecursion (λ (q : Request). s ≤ q.seq) rs → list_all (λ q. not (nat_lt q.seq s) || is_settled p i h q) rs ≡ true
rest_is_later p i h s [] later = refl
rest_is_later p i h s (q ∷ rs) later =
    and_true (not (nat_lt q.seq s) || is_settled p i h q) (list_all (λ x. not (nat_lt x.seq s) || is_settled p i h x) rs)
    (ap (λ (b : Bool). not b || is_settled p i h q) (not_below q.seq s later.0))
    (rest_is_later p i h s rs later.1)
  where
    not_below : (a b : ℕ) → b ≤ a → nat_lt a b ≡ false
    not_below a b is = grind (arith, nat_tests)

settled_anyway : (p : Platform) (i : Initiator) (h : List Entry) (s : ℕ) (rs : List Request) → list_all (is_settled p i h) rs ≡ true → list_all (λ q. not (nat_lt q.seq s) || is_settled p i h q) rs ≡ true
settled_anyway p i h s [] is = refl
settled_anyway p i h s (q ∷ rs) is =
    and_true (not (nat_lt q.seq s) || is_settled p i h q) (list_all (λ x. not (nat_lt x.seq s) || is_settled p i h x) rs)
    (ap (λ (b : Bool). not (nat_lt q.seq s) || b) (and_left (is_settled p i h q) (list_all (is_settled p i h) rs) is) ∙ or_true (not (nat_lt q.seq s)))
    (settled_anyway p i h s rs (and_right (is_settled p i h q) (list_all (is_settled p i h) rs) is))
  where
    or_true : (b : Bool) → b || true ≡ true
    or_true true = refl
    or_true false = refl

-- a request that comes first of what is left comes after all that was settled
pub in_order : (p : Platform) (i : Initiator) (h : List Entry) (r : Run) (q : Request) (more : List Request) → i.row.style ≢ FourPhase → (come : HasCome p i h r) → q.seq ≡ r.engine.seq → requests_at p i h (current_time r.keeper) come.stage r.engine ≡ q ∷ more → IsInOrder p i h q true
in_order p i h r q more decoupled come seq first =
    let asked : requests_of p i h ≡ come.made ++ q ∷ more =
    ap (requests_of p i) (sym (append_nil h)) ∙ (come.asked.asked [] ∙ (ap (λ (l : List Entry). come.made ++ requests_at p i l (current_time r.keeper) come.stage r.engine) (append_nil h) ∙ ap (λ (rs : List Request). come.made ++ rs) first)) in
    let later : AllByRecursion (λ (y : Request). q.seq ≤ y.seq) (q ∷ more) =
    subst (λ (s : ℕ). AllByRecursion (λ (y : Request). s ≤ y.seq) (q ∷ more)) (sym seq)
    (subst (AllByRecursion (λ (y : Request). r.engine.seq ≤ y.seq)) first (numbers_at p i h (current_time r.keeper) come.stage r.engine)) in (
      come.asked.fresh q.seq (omega (arith, seq, come.count)),
      (let by_number : list_all (λ y. not (nat_lt y.seq q.seq) || is_settled p i h y) (requests_of p i h) ≡ true =
          ap (list_all (λ y. not (nat_lt y.seq q.seq) || is_settled p i h y)) asked
          ∙ (list_all-append (λ y. not (nat_lt y.seq q.seq) || is_settled p i h y) come.made (q ∷ more)
          ∙ and_true (list_all (λ y. not (nat_lt y.seq q.seq) || is_settled p i h y) come.made) (list_all (λ y. not (nat_lt y.seq q.seq) || is_settled p i h y) (q ∷ more))
          (settled_anyway p i h q.seq come.made come.asked.settled) (rest_is_later p i h q.seq (q ∷ more) later)) in
          decoupled_style (λ (style : Style). IsTrue (list_all (λ y. not (comes_first style y q) || is_settled p i h y) (requests_of p i h))) i.row.style decoupled by_number by_number),
    )

-- so does a transfer that is next
next_in_order : (p : Platform) (i : Initiator) (h : List Entry) (r : Run) (x : Transfer) → i.row.style ≢ FourPhase → next_of r.engine ≡ Asks x → (come : HasCome p i h r) → IsInOrder p i h (request_next r x come.stage) true
next_in_order p i h r x decoupled is come =
    let first = request_is_first p i h (current_time r.keeper) come.stage 4096 r.engine x is in
    in_order p i h r (request_next r x come.stage) first.more decoupled come (seq_of_next r.engine x is) first.first

-- the entry of a request's access that came by this way, at a memory with these traits and bytes
abbrev pub entry_by_way : Platform → Initiator → Request → Way → RouteOfModel → MemoryTraits → List ℕ → ℕ → Entry
entry_by_way p i q way route m bytes position = record {
  position = position;
  object = memory_object route.memory;
  txn = record { initiator = i.number; seq = q.seq };
  time = access_time p i q way;
  what = answered_by m bytes way (access_at route q.asked);
}

entry_replies : (route : RouteOfModel) (o : Option RouteOfModel) (asked : Asked) → IsAccess asked → o ≡ Some route → (way : Way) (status : Response) (got : List ℕ) → IsEntryOf o asked (memory_object route.memory) (Accessed way (access_at route asked) status got)
entry_replies route o (Transport a) is q way status got = subst (λ (x : Option RouteOfModel). IsEntryOf x (Transport a) (memory_object route.memory) (Accessed way (access_at route (Transport a)) status got)) (sym q) (refl, refl)
entry_replies route o (DebugRead a) is q way status got = subst (λ (x : Option RouteOfModel). IsEntryOf x (DebugRead a) (memory_object route.memory) (Accessed way (access_at route (DebugRead a)) status got)) (sym q) (refl, refl)
entry_replies route o (Invalidation n) is q way status got = absurd is

is_access : (x : Transfer) (payload : PayloadView) (t g : ℕ) → IsAccess (request_for x payload t g).asked
is_access x payload t g = grind (arith, common_steps)

module _ (p : Plan) (i : Initiator) (h : List Entry) (r : Run) (x : Transfer) (route : Route) (own_number : slice_get (initiators_of p) i.number ≡ Some i) (decoupled : i.row.style ≢ FourPhase) (next : next_of r.engine ≡ Asks x) (leads : IsRouteOf p i x.address route) (come : HasCome p.platform i h r) where
  abbrev q : Request
  q = request_next r x come.stage

  pub seq_is : (q).seq ≡ r.engine.seq
  seq_is = seq_of_next r.engine x next

  -- it is the request of its entry
  pub next_is_for : (e : Entry) → e.txn ≡ record { initiator = i.number; seq = (q).seq } → IsFor p i h q e
  next_is_for e txn = record {
    mine = ap (λ t. slice_get (initiators_of p) t.initiator) txn ∙ own_number;
    asked =
        ap (λ t. slice_get (requests_of p.platform i h) t.seq) txn
        ∙ (ap (slice_get (requests_of p.platform i h)) seq_is
        ∙ (ap (λ (l : List Entry). slice_get (requests_of p.platform i l) r.engine.seq) (sym (append_nil h)) ∙ next_is_asked p.platform i h [] r x next come));
  }

  -- by a way that its access may come
  pub done_by_way : (way : Way) (m : MemoryTraits) (bytes : List ℕ) (position : ℕ) → IsWay i.row.style (q).asked way → IsDoneFor p i h q (entry_by_way p.platform i q way (model_route route) m bytes position)
  done_by_way way m bytes position by = record {
    replies = entry_replies (model_route route) (route_of p.platform i x.address) (q).asked (is_access x (payload_of r.engine 4096) (current_time r.keeper) come.stage) leads.leads way (status_of m way (access_at (model_route route) (q).asked)) (got_of way (status_of m way (access_at (model_route route) (q).asked)) (access_at (model_route route) (q).asked) bytes);
    way = by;
    order = next_in_order p.platform i h r x decoupled next come;
    place = tt;
    time = decoupled_style (λ (style : Style). HasTime style (access_time p.platform i q way) (access_time p.platform i q way)) i.row.style decoupled refl refl;
  }

blocking_way : (x : Transfer) (payload : PayloadView) (t g : ℕ) → IsWay Blocking (request_for x payload t g).asked (way_of (request_for x payload t g).asked)
blocking_way x payload t g = grind (arith, common_steps)

direct_way : (x : Transfer) (payload : PayloadView) (t g : ℕ) → IsWay Direct (request_for x payload t g).asked (way_of (request_for x payload t g).asked)
direct_way x payload t g = grind (arith, common_steps)

-- the way by which a blocking access or a debug read comes is one of an initiator that isn't four-phase
pub way_allowed : (style : Style) (x : Transfer) (payload : PayloadView) (t g : ℕ) → style ≢ FourPhase → IsWay style (request_for x payload t g).asked (way_of (request_for x payload t g).asked)
way_allowed style x payload t g decoupled =
    decoupled_style (λ (s : Style). IsWay s (request_for x payload t g).asked (way_of (request_for x payload t g).asked)) style decoupled (blocking_way x payload t g) (direct_way x payload t g)

own_txn : (i s : ℕ) → is_txn i s (record { initiator = i; seq = s }) ≡ true
own_txn i s = grind (arith, nat_tests)

-- the history answers with what the entry got
entry_answers : (i s : ℕ) (h m : List Entry) (e : Entry) (got : List ℕ) → e.txn ≡ record { initiator = i; seq = s } → got_in e.what ≡ Some got → has_answer i s h ≡ false → answered i s (h ++ (e ∷ m)) ≡ Some got
entry_answers i s h m e got mine has fresh =
    answered-fresh i s h (e ∷ m) fresh
    ∙ (ap (λ (b : Bool). first_of_two (cond b (got_in e.what) None) (answered i s m)) (ap (is_txn i s) mine ∙ own_txn i s)
    ∙ ap (λ (o : Option (List ℕ)). first_of_two o (answered i s m)) has)

-- an entry answers a transfer with these bytes
answers_kind : (p : Platform) (i : Initiator) (h m : List Entry) (s a n : ℕ) (e : Entry) (route : RouteOfModel) (got : List ℕ) (kind : TransferKind) → e.txn ≡ record { initiator = i.number; seq = s } → (command_in kind ≡ read_command → got_in e.what ≡ Some got) → has_answer i.number s h ≡ false → route_of p i a ≡ Some route
    → length got ≡ n → IsAnsweredKind p i (h ++ (e ∷ m)) s a n kind got
answers_kind p i h m s a n e route got (transfer.Access read_command plain fenced) txn reads fresh leads whole = record {
  answered = ap (λ (o : Option RouteOfModel). buffer_by o n i.number s (h ++ (e ∷ m))) leads ∙ entry_answers i.number s h m e got txn (reads refl) fresh;
  whole = whole;
}
answers_kind p i h m s a n e route got (transfer.Access write_command plain fenced) txn reads fresh leads whole = tt
answers_kind p i h m s a n e route got (transfer.Access ignore_command plain fenced) txn reads fresh leads whole = tt
answers_kind p i h m s a n e route got (transfer.Access fetch_add_command plain fenced) txn reads fresh leads whole = tt
answers_kind p i h m s a n e route got transfer.DebugRead txn reads fresh leads whole = tt

-- What an entry says of the access that is next, whose payload comes back with these bytes.
pub record Answers (i : Initiator) (r : Run) (x : Transfer) (e : Entry) (got : List ℕ) : Type 0 where
  pub txn : e.txn ≡ record { initiator = i.number; seq = r.engine.seq }
  pub answer : is_answer e.what ≡ true
  pub reads : command_in x.kind ≡ read_command → got_in e.what ≡ Some got
  pub whole : is_fenced_kind x.kind ≡ true → length got ≡ x.length

-- the run after an access that this entry answers
pub come_answered : (p : Plan) (i : Initiator) (h : List Entry) (r : Run) (x : Transfer) (route : Route) (e : Entry) (got : List ℕ) → next_of r.engine ≡ Asks x → IsRouteOf p i x.address route → Answers i r x e got → HasCome p.platform i h r → HasCome p.platform i (h ++ e ∷ []) (accessed x route.latency got r)
come_answered p i h r x route e got next leads says come =
    let seq : x.seq ≡ r.engine.seq = seq_of_next r.engine x next in
    HasCome-answered laws p.platform i h e r x route.latency 4096 got (model_route route) next leads.latency leads.leads (ap (λ t. t.initiator) says.txn) (ap (λ t. t.seq) says.txn) says.answer
    (λ m fresh fenced.
    subst (λ (part : Part). IsAnsweredPart p.platform i (h ++ (e ∷ m)) part got) (sym next)
    (answers_kind p.platform i h m x.seq x.address x.length e (model_route route) got x.kind
    (says.txn ∙ ap (λ (s : ℕ). record { initiator = i.number; seq = s }) (sym seq)) says.reads (ap (λ (s : ℕ). has_answer i.number s h) seq ∙ fresh) leads.leads
    (says.whole (sym (ap is_fenced_part next) ∙ fenced))))
    come

-- a grant leaves what was asked for and what is left to ask for
pub come_granted : (p : Platform) (i : Initiator) (h : List Entry) (r : Run) (e : Entry) → is_answer e.what ≡ false → HasCome p i h r → HasCome p i (h ++ e ∷ []) r
come_granted p i h r e none come = record {
  stage = come.stage;
  made = come.made;
  asked = record {
    asked = λ m.
        ap (requests_of p i) (append_assoc h (e ∷ []) m)
        ∙ (come.asked.asked (e ∷ m) ∙ ap (λ (l : List Entry). come.made ++ requests_at p i l (current_time r.keeper) come.stage r.engine) (sym (append_assoc h (e ∷ []) m)));
    settled = all_settled-more p i h (e ∷ []) come.made come.asked.settled;
    fresh = λ s after. no_answer s ∙ come.asked.fresh s after;
  };
  count = come.count;
  refused = come.refused;
  counted = come.counted;
  proper = come.proper;
}
  where
    none_left : (b c : Bool) → c || ((b && false) || false) ≡ c
    none_left true true = refl
    none_left true false = refl
    none_left false true = refl
    none_left false false = refl

    no_answer : (s : ℕ) → has_answer i.number s (h ++ e ∷ []) ≡ has_answer i.number s h
    no_answer s =
        list_any-append (λ (y : Entry). is_txn i.number s y.txn && is_answer y.what) h (e ∷ [])
        ∙ (ap (λ (b : Bool). has_answer i.number s h || ((is_txn i.number s e.txn && b) || false)) none ∙ none_left (is_txn i.number s e.txn) (has_answer i.number s h))
