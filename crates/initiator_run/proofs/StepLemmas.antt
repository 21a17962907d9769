-- One more entry of a history that has the points of requests: that of the first request that isn't settled.
use Rattle.std.proofs.Common.{◌≡◌, ℕ, ◌≤◌, List, [], ◌∷◌, ◌++◌, length, Option, Some, Bool, true, false, not, ◌||◌, nat_lt, refl, ap, sym, subst, ◌∙◌, arith}
use Rattle.std.specs.List.{AllByRecursion, list_all}
use Rattle.std.specs.Prelude.{slice_get, MatchOption, IsTrue}
use Rattle.std.proofs.lemmas.Bool.Decides.{nat_tests}
use Rattle.std.proofs.lemmas.List.Folds.{list_all-append}
use Rattle.tlm_types.specs.declared.entry.Access.{Access}
use Rattle.tlm_types.specs.declared.entry.Entry.{Entry}
use Rattle.tlm_types.specs.declared.entry.What.{What}
use Rattle.tlm_types.specs.declared.entry.What.TheVariants.{Access as Accessed}
use Rattle.tlm_types.specs.declared.words.MemoryTraits.{MemoryTraits}
use Rattle.tlm_types.specs.declared.words.ObjectNo.TheVariants.{Memory as memory_object}
use Rattle.tlm_types.specs.declared.words.Response.{Response}
use Rattle.tlm_types.specs.declared.words.Way.{Way}
use Rattle.tlm_types.specs.declared.words.Way.TheVariants.{Blocking, Debug}
use Rattle.tlm_model.specs.declared.platform.MemoryRow.{MemoryRow}
use Rattle.tlm_model.specs.declared.platform.Platform.{Platform}
use Rattle.tlm_model.specs.declared.platform.Style.{Style}
use Rattle.tlm_model.specs.declared.platform.Style.TheVariants.{Blocking as blocking_style}
use Rattle.tlm_model.specs.Kept.{KeepsRequests}
use Rattle.tlm_model.specs.History.{Store, after, IsAnswer, IsLegalEntry, IsLegalFrom, opening_store, store_from, last_store}
use Rattle.tlm_model.specs.Plan.{Plan, Initiator, initiators_of}
use Rattle.tlm_model.specs.Requests.{Asked, Transport, DebugRead, Invalidation, Request, requests_of}
use Rattle.tlm_model.specs.Route.{Route, route_of}
use Rattle.tlm_model.specs.Scripts.{OfRequest, IsEntryOf, HasWay, IsInOrder, RunsScripts, has_answer, is_settled, comes_first}
use Rattle.tlm_model.specs.Store.{status_of, got_of}
use Rattle.tlm_model.specs.Times.{HasDecoupledTimes, HasTime, access_time}
use Rattle.tlm_model.proofs.EachLemmas.{append_nil, AtEach-push}
use Rattle.tlm_model.proofs.HistoryLemmas.{IsNumberedFrom-push}
use Rattle.initiator_run.specs.Entry.{IsAccess, way_of, access_at, request_entry}
use Rattle.initiator_run.specs.Come.{HasMade}
use Rattle.initiator_run.proofs.AnswerLemmas.{and_left, and_right, and_true}

-- one more entry at the end of a legal history
IsLegalFrom-push : (p : Platform) (s : Store) (h : List Entry) (e : Entry) → IsLegalFrom p s h → IsLegalEntry p (store_from s h) e.object e.what → IsLegalFrom p s (h ++ e ∷ [])
IsLegalFrom-push p s [] e l legal = (legal, tt)
IsLegalFrom-push p s (x ∷ h) e l legal = (l.0, IsLegalFrom-push p (after x.object x.what s) h e l.1 legal)

-- what an entry says of its request, once that request is known
of_request : (p : Plan) (h : List Entry) (e : Entry) (Q : Initiator → Request → Type 0) (i : Initiator) (r : Request) → slice_get (initiators_of p) e.txn.initiator ≡ Some i → slice_get (requests_of p.platform i h) e.txn.seq ≡ Some r → Q i r → OfRequest p h e Q
of_request p h e Q i r mine asked q =
    subst (λ (o : Option Initiator). MatchOption o ⊥ (λ j. MatchOption (slice_get (requests_of p.platform j h) e.txn.seq) ⊥ (λ x. Q j x))) (sym mine)
    (subst (λ (o : Option Request). MatchOption o ⊥ (λ x. Q i x)) (sym asked) q)

-- the requests that don't come first needn't be settled
rest_is_later : (p : Platform) (i : Initiator) (h : List Entry) (s : ℕ) (rs : List Request) → AllByRecursion (λ (q : Request). s ≤ q.seq) rs → list_all (λ q. not (nat_lt q.seq s) || is_settled p i h q) rs ≡ true
rest_is_later p i h s [] later = refl
rest_is_later p i h s (q ∷ rs) later =
    and_true (not (nat_lt q.seq s) || is_settled p i h q) (list_all (λ x. not (nat_lt x.seq s) || is_settled p i h x) rs)
    (ap (λ (b : Bool). not b || is_settled p i h q) (not_below q.seq s later.0))
    (rest_is_later p i h s rs later.1)
  where
    not_below : (a b : ℕ) → b ≤ a → nat_lt a b ≡ false
    not_below a b is = grind (arith, nat_tests)

settled_anyway : (p : Platform) (i : Initiator) (h : List Entry) (s : ℕ) (rs : List Request) → list_all (is_settled p i h) rs ≡ true → list_all (λ q. not (nat_lt q.seq s) || is_settled p i h q) rs ≡ true
settled_anyway p i h s [] is = refl
settled_anyway p i h s (q ∷ rs) is =
    and_true (not (nat_lt q.seq s) || is_settled p i h q) (list_all (λ x. not (nat_lt x.seq s) || is_settled p i h x) rs)
    (ap (λ (b : Bool). not (nat_lt q.seq s) || b) (and_left (is_settled p i h q) (list_all (is_settled p i h) rs) is) ∙ or_true (not (nat_lt q.seq s)))
    (settled_anyway p i h s rs (and_right (is_settled p i h q) (list_all (is_settled p i h) rs) is))
  where
    or_true : (b : Bool) → b || true ≡ true
    or_true true = refl
    or_true false = refl

-- a request is in order where the ones before it are settled, and it has no answer
in_order : (p : Platform) (i : Initiator) (h : List Entry) (made more : List Request) (r : Request) → i.row.style ≡ blocking_style → requests_of p i h ≡ made ++ r ∷ more → list_all (is_settled p i h) made ≡ true → has_answer i.number r.seq h ≡ false → AllByRecursion (λ (q : Request). r.seq ≤ q.seq) (r ∷ more) → IsInOrder p i h r true
in_order p i h made more r blocking asked settled fresh later = (
  fresh,
  subst (λ (style : Style). IsTrue (list_all (λ q. not (comes_first style q r) || is_settled p i h q) (requests_of p i h))) (sym blocking)
      (ap (list_all (λ q. not (nat_lt q.seq r.seq) || is_settled p i h q)) asked
      ∙ (list_all-append (λ q. not (nat_lt q.seq r.seq) || is_settled p i h q) made (r ∷ more)
      ∙ and_true (list_all (λ q. not (nat_lt q.seq r.seq) || is_settled p i h q) made) (list_all (λ q. not (nat_lt q.seq r.seq) || is_settled p i h q) (r ∷ more))
      (settled_anyway p i h r.seq made settled) (rest_is_later p i h r.seq (r ∷ more) later))),
)

-- the element after a list's beginning
pub slice_get-after : {X : Type 0} (xs : List X) (y : X) (ys : List X) (n : ℕ) → n ≡ length xs → slice_get (xs ++ y ∷ ys) n ≡ Some y
slice_get-after [] y ys n at = ap (slice_get (y ∷ ys)) at
slice_get-after (x ∷ xs) y ys n at = ap (slice_get (x ∷ (xs ++ y ∷ ys))) at ∙ slice_get-after xs y ys (length xs) refl

entry_replies : (p : Platform) (i : Initiator) (r : Request) (route : Route) (o : Option Route) (w : What) (asked : Asked) (position : ℕ) → IsAccess asked → o ≡ Some route → (way : Way) (status : Response) (got : List ℕ) → IsEntryOf o asked (memory_object route.memory) (Accessed way (access_at route asked) status got)
entry_replies p i r route o w (Transport a) position is q way status got = subst (λ (x : Option Route). IsEntryOf x (Transport a) (memory_object route.memory) (Accessed way (access_at route (Transport a)) status got)) (sym q) (refl, refl)
entry_replies p i r route o w (DebugRead a) position is q way status got = subst (λ (x : Option Route). IsEntryOf x (DebugRead a) (memory_object route.memory) (Accessed way (access_at route (DebugRead a)) status got)) (sym q) (refl, refl)
entry_replies p i r route o w (Invalidation n) position is q way status got = absurd is

entry_way : (style : Style) (asked : Asked) (access : Access) (status : Response) (got : List ℕ) → style ≡ blocking_style → IsAccess asked → HasWay style asked (Accessed (way_of asked) access status got)
entry_way style (Transport a) access status got q is = subst (λ (x : Style). HasWay x (Transport a) (Accessed Blocking access status got)) (sym q) refl
entry_way style (DebugRead a) access status got q is = subst (λ (x : Style). HasWay x (DebugRead a) (Accessed Debug access status got)) (sym q) refl
entry_way style (Invalidation n) access status got q is = absurd is

-- the next request of a blocking initiator, whose address has a route: those that it has made are settled
pub record IsNext (p : Plan) (i : Initiator) (h : List Entry) (made more : List Request) (left : List Entry → List Request) (r : Request) (route : Route) : Type 0 where
  pub mine : slice_get (initiators_of p) i.number ≡ Some i
  pub blocking : i.row.style ≡ blocking_style
  pub has : HasMade p.platform i h made left
  pub first : left h ≡ r ∷ more
  pub number : r.seq ≡ length made
  pub later : AllByRecursion (λ (q : Request). r.seq ≤ q.seq) (r ∷ more)
  pub access : IsAccess r.asked
  pub leads : route_of p.platform i r.address ≡ Some route

module _ (p : Plan) (i : Initiator) (h : List Entry) (made more : List Request) (left : List Entry → List Request) (r : Request) (route : Route) (next : IsNext p i h made more left r route) where
  all_asked : requests_of p.platform i h ≡ made ++ r ∷ more
  all_asked = ap (requests_of p.platform i) (sym (append_nil h)) ∙ (next.has.asked [] ∙ ap (λ (x : List Entry). made ++ left x) (append_nil h) ∙ ap (λ (x : List Request). made ++ x) next.first)

  is_asked : slice_get (requests_of p.platform i h) r.seq ≡ Some r
  is_asked = ap (λ (rs : List Request). slice_get rs r.seq) all_asked ∙ slice_get-after made r more r.seq next.number

  -- its entry, wherever it stands and whatever is answered, goes on with the scripts
  pub RunsScripts-push : (traits : MemoryTraits) (bytes : List ℕ) (position : ℕ) → RunsScripts p h → RunsScripts p (h ++ request_entry p.platform i r route traits bytes position ∷ [])
  RunsScripts-push traits bytes position scripts =
      let e = request_entry p.platform i r route traits bytes position in
      let way = way_of r.asked in
      let status = status_of traits way (access_at route r.asked) in
      let got = got_of way status (access_at route r.asked) bytes in
      let fresh : has_answer i.number r.seq h ≡ false = next.has.fresh r.seq (omega (arith, next.number)) in
      record {
        replies = AtEach-push _ h e scripts.replies (of_request p h e _ i r next.mine is_asked (entry_replies p.platform i r route (route_of p.platform i r.address) e.what r.asked 0 next.access next.leads way status got));
        ways = AtEach-push _ h e scripts.ways (of_request p h e _ i r next.mine is_asked (entry_way i.row.style r.asked (access_at route r.asked) status got next.blocking next.access));
        order = AtEach-push _ h e scripts.order (of_request p h e _ i r next.mine is_asked (in_order p.platform i h made more r next.blocking all_asked next.has.settled fresh next.later));
        places = AtEach-push _ h e scripts.places tt;
      }

  -- and has the time of its request
  pub HasDecoupledTimes-push : (traits : MemoryTraits) (bytes : List ℕ) (position : ℕ) → HasDecoupledTimes p h → HasDecoupledTimes p (h ++ request_entry p.platform i r route traits bytes position ∷ [])
  HasDecoupledTimes-push traits bytes position times =
      let e = request_entry p.platform i r route traits bytes position in
      AtEach-push _ h e times (of_request p h e _ i r next.mine is_asked (subst (λ (x : Style). HasTime x (access_time p.platform i r (way_of r.asked)) (access_time p.platform i r (way_of r.asked))) (sym next.blocking) refl))

-- Where an initiator's made requests are settled, a history with the entry of its next one has the points of requests.
pub KeepsRequests-push : (p : Plan) (i : Initiator) (h : List Entry) (made more : List Request) (left : List Entry → List Request) (r : Request) (route : Route) (row : MemoryRow) (bytes : List ℕ)
    → KeepsRequests p h → IsNext p i h made more left r route → slice_get p.platform.memories route.memory ≡ Some row → bytes ≡ last_store p.platform h route.memory
    → KeepsRequests p (h ++ request_entry p.platform i r route row.traits bytes (length h) ∷ [])
KeepsRequests-push p i h made more left r route row bytes kept next memory bytes_are =
    let e = request_entry p.platform i r route row.traits bytes (length h) in
    let way = way_of r.asked in
    let access = access_at route r.asked in
    let status = status_of row.traits way access in
    let got = got_of way status access bytes in
    let legal : IsLegalEntry p.platform (last_store p.platform h) e.object e.what =
    subst (λ (o : Option MemoryRow). IsAnswer o (last_store p.platform h route.memory) way access status got) (sym memory)
    (subst (λ (b : List ℕ). IsAnswer (Some row) b way access status got) bytes_are (refl, refl)) in
    record {
      numbered = IsNumberedFrom-push 0 h e kept.numbered (omega arith);
      legal = IsLegalFrom-push p.platform (opening_store p.platform) h e kept.legal legal;
      scripts = RunsScripts-push p i h made more left r route next row.traits bytes (length h) kept.scripts;
      times = HasDecoupledTimes-push p i h made more left r route next row.traits bytes (length h) kept.times;
    }
