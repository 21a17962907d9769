-- Histories without grants.
use Rattle.std.proofs.Common.{◌≡◌, ◌≢◌, ℕ, ◌+◌, Bool, true, false, not, ◌&&◌, ◌||◌, List, [], ◌∷◌, ◌++◌, Option, Some, None, refl, ap, ◌∙◌}
use Rattle.std.specs.Prelude.{IsTrue, MatchOption, slice_get}
use Rattle.std.specs.List.{AllByRecursion, list_all}
use Rattle.std.proofs.lemmas.Bool.{and_from}
use Rattle.tlm_types.specs.declared.words.ObjectNo.{ObjectNo}
use Rattle.tlm_types.specs.declared.words.ObjectNo.TheVariants.{Memory, Hop, Pool}
use Rattle.tlm_types.specs.declared.words.Way.{Way}
use Rattle.tlm_types.specs.declared.words.Way.TheVariants.{Blocking, FourPhase, Direct, Debug}
use Rattle.tlm_types.specs.declared.entry.Entry.{Entry}
use Rattle.tlm_types.specs.declared.entry.What.{What}
use Rattle.tlm_types.specs.declared.entry.What.TheVariants.{Access as Accessed, Granted, Invalidated, Closed, Call, Take, Acquire, Release}
use Rattle.tlm_model.specs.declared.operation.Operation.{Operation}
use Rattle.tlm_model.specs.declared.platform.Platform.{Platform}
use Rattle.tlm_model.specs.declared.platform.Style.{Style}
use Rattle.tlm_model.specs.declared.platform.Style.TheVariants.{Blocking as blocking_style, Direct as direct_style, FourPhase as fourphase_style}
use Rattle.tlm_model.specs.Each.{EachFrom}
use Rattle.tlm_model.specs.Kept.{KeepsRequests}
use Rattle.tlm_model.specs.Actions.{Action, Plain, Alone, Pair, Pause, action_of}
use Rattle.tlm_model.specs.Plan.{Plan, Initiator, initiators_of}
use Rattle.tlm_model.specs.Requests.{Asked, Transport, DebugRead, Invalidation, Request, buffer_of, paused, requests_by, requests_from, requests_of, using}
use Rattle.tlm_model.specs.Route.{later, latency_of}
use Rattle.tlm_model.specs.Scripts.{HasWay, IsCloser, IsGrantee, IsWay, OfRequest}
use Rattle.tlm_model.proofs.HistoryLemmas.{AllByRecursion-push, all_at}
use Rattle.good_history.specs.Grants.{all_given, asks, gives, has_closing, has_dmi, is_cut_by, is_given, is_grant, is_hinting, last_of, plain_of}
use Rattle.good_history.specs.Kept.{HasDirectWay, IsGivenGrant, IsAskedFor, IsClosing, IsGateInOrder, IsUse, GrantsAll, EndsGrants, KeepsGrants, LastAskIsAnswered, have_returned, is_direct_way, is_earlier}
use Rattle.good_history.specs.GrantLaws.{ClosesNothing, HasNoDirect, HasNoInvalidation, InvalidatesNothing, IsNoClosing, IsNoInvalidation, NothingIsClosed, UngrantedClosesNothing, UngrantedKeepsGrants}
use Rattle.good_history.specs.Plain.{is_direct, is_plain_at, may_go_direct}

-- no grant, no closing, and no direct access
abbrev IsUngranted : What → Type 0
IsUngranted (Accessed way access status got) = is_direct_way way ≡ false
IsUngranted (Granted g f l k) = ⊥
IsUngranted (Closed g) = ⊥
IsUngranted w = Unit {0}

not_direct : (s : Style) → s ≢ direct_style → is_direct s ≡ false
not_direct blocking_style other = refl
not_direct direct_style other = absurd (other refl)
not_direct fourphase_style other = refl

way_of : (s : Style) (asked : Asked) (way : Way) → is_direct s ≡ false → IsWay s asked way → is_direct_way way ≡ false
way_of blocking_style (Transport a) way other is = ap is_direct_way is
way_of direct_style (Transport a) way other is = cc
way_of fourphase_style (Transport a) way other is = ap is_direct_way is
way_of s (DebugRead a) way other is = ap is_direct_way is
way_of s (Invalidation n) way other is = absurd is

no_grantee : (s : Style) (asked : Asked) → is_direct s ≡ false → IsGrantee s asked → ⊥
no_grantee blocking_style asked other is = is
no_grantee direct_style asked other is = cc
no_grantee fourphase_style asked other is = is

ungranted_by : (s : Style) (asked : Asked) (w : What) → is_direct s ≡ false → IsNoClosing w → HasWay s asked w → IsUngranted w
ungranted_by s asked (Accessed way access status got) other unclosed is = way_of s asked way other is
ungranted_by s asked (Granted g f l k) other unclosed is = no_grantee s asked other is
ungranted_by s asked (Closed g) other unclosed is = unclosed
ungranted_by s asked (Invalidated f l) other unclosed is = tt
ungranted_by s asked (Call c a) other unclosed is = tt
ungranted_by s asked (Take k) other unclosed is = tt
ungranted_by s asked (Acquire k) other unclosed is = tt
ungranted_by s asked (Release k f) other unclosed is = tt

-- a request of the history, with its initiator
module _ (p : Plan) (before : List Entry) (e : Entry) (Q : Initiator → Request → Type 0) (P : Type 0) where
  with_request : ((i : Initiator) (r : Request) → slice_get (initiators_of p) e.txn.initiator ≡ Some i → slice_get (requests_of p.platform i before) e.txn.seq ≡ Some r → Q i r → P) → OfRequest p before e Q → P
  with_request f of = by_initiator (slice_get (initiators_of p) e.txn.initiator) refl of
    where
      by_request : (i : Initiator) → slice_get (initiators_of p) e.txn.initiator ≡ Some i → (r : Option Request) → slice_get (requests_of p.platform i before) e.txn.seq ≡ r → MatchOption r ⊥ (λ r. Q i r) → P
      by_request i at None there of = absurd of
      by_request i at (Some r) there of = f i r at there of

      by_initiator : (i : Option Initiator) → slice_get (initiators_of p) e.txn.initiator ≡ i → MatchOption i ⊥ (λ i. MatchOption (slice_get (requests_of p.platform i before) e.txn.seq) ⊥ (λ r. Q i r)) → P
      by_initiator None at of = absurd of
      by_initiator (Some i) at of = by_request i at (slice_get (requests_of p.platform i before) e.txn.seq) refl of

-- each entry of a request has what each initiator's requests have
of_each : (p : Plan) (before : List Entry) (e : Entry) (Q R : Initiator → Request → Type 0) → ((i : Initiator) (r : Request) → slice_get (initiators_of p) e.txn.initiator ≡ Some i → R i r) → OfRequest p before e Q → OfRequest p before e R
of_each p before e Q R f of = by_initiator (slice_get (initiators_of p) e.txn.initiator) refl of
  where
    by_request : (i : Initiator) → slice_get (initiators_of p) e.txn.initiator ≡ Some i → (r : Option Request) → MatchOption r ⊥ (λ r. Q i r) → MatchOption r ⊥ (λ r. R i r)
    by_request i at None of = of
    by_request i at (Some r) of = f i r at

    by_initiator : (i : Option Initiator) → slice_get (initiators_of p) e.txn.initiator ≡ i → MatchOption i ⊥ (λ i. MatchOption (slice_get (requests_of p.platform i before) e.txn.seq) ⊥ (λ r. Q i r)) → MatchOption i ⊥ (λ i. MatchOption (slice_get (requests_of p.platform i before) e.txn.seq) ⊥ (λ r. R i r))
    by_initiator None at of = of
    by_initiator (Some i) at of = by_request i at (slice_get (requests_of p.platform i before) e.txn.seq) of

no_closing_at : (w : What) → IsUngranted w → (h : List Entry) → has_closing w h ≡ true
no_closing_at (Granted g f l k) is h = absurd is
no_closing_at (Accessed way access status got) is h = refl
no_closing_at (Closed g) is h = refl
no_closing_at (Invalidated f l) is h = refl
no_closing_at (Call c a) is h = refl
no_closing_at (Take k) is h = refl
no_closing_at (Acquire k) is h = refl
no_closing_at (Release k f) is h = refl

or_true : (b c : Bool) → c ≡ true → (b || c) ≡ true
or_true true c is = refl
or_true false c is = is

not_or : (b c : Bool) → b ≡ false → (not b || c) ≡ true
not_or true c is = cc
not_or false c is = refl

all_test : {X : Type 0} (test : X → Bool) (U : X → Type 0) → ((x : X) → U x → test x ≡ true) → (xs : List X) → AllByRecursion U xs → list_all test xs ≡ true
all_test test U f [] all = refl
all_test test U f (x ∷ xs) all = and_from (test x) (list_all test xs) (f x all.0) (all_test test U f xs all.1)

returned_none : (test : Entry → Bool) (h : List Entry) → AllByRecursion (λ (e : Entry). IsUngranted e.what) h → have_returned test h ≡ true
returned_none test h all =
    all_test (λ (x : Entry). list_all (λ y. not (test y && is_cut_by x y) || has_closing x.what h) h) (λ (x : Entry). IsUngranted x.what)
    (λ x is. all_test (λ (y : Entry). not (test y && is_cut_by x y) || has_closing x.what h) (λ (y : Entry). IsUngranted y.what) (λ y also. or_true (not (test y && is_cut_by x y)) (has_closing x.what h) (no_closing_at x.what is h)) h all)
    h all

module _ (P : List Entry → Entry → Type 0) (S : List Entry → Entry → Type 0) (U : Entry → Type 0) (here : (before : List Entry) (e : Entry) → AllByRecursion U before → U e → S before e → P before e) where
  each_of : (before h : List Entry) → AllByRecursion U before → AllByRecursion U h → EachFrom S before h → EachFrom P before h
  each_of before [] so_far all each = tt
  each_of before (e ∷ h) so_far all each = (here before e so_far all.0 each.0, each_of (before ++ e ∷ []) h (AllByRecursion-push U before e so_far all.0) all.1 each.1)

module _ (p : Plan) (none : HasNoDirect p) where
  style_at : (n : ℕ) (i : Initiator) → slice_get (initiators_of p) n ≡ Some i → is_direct i.row.style ≡ false
  style_at n i at = not_direct i.row.style (all_at (λ (i : Initiator). i.row.style ≢ direct_style) (initiators_of p) n i none at)

  not_plain : (n s : ℕ) (i : Initiator) → slice_get (initiators_of p) n ≡ Some i → may_go_direct i s ≡ false
  not_plain n s i at = ap (λ (b : Bool). b && is_plain_at i.script s) (style_at n i at)

  asks_none : (e : Entry) → asks p e ≡ false
  asks_none e = by_initiator (slice_get (initiators_of p) e.txn.initiator) refl
    where
      by_initiator : (o : Option Initiator) → slice_get (initiators_of p) e.txn.initiator ≡ o → (plain_of o e.txn.seq && (is_hinting e.what && has_dmi p.platform e.object)) ≡ false
      by_initiator None at = refl
      by_initiator (Some i) at = ap (λ (b : Bool). b && (is_hinting e.what && has_dmi p.platform e.object)) (not_plain e.txn.initiator e.txn.seq i at)

  answered_none : (o : Option Entry) (rest : Entry → Bool) → MatchOption o (Unit {0}) (λ a. IsTrue (not (asks p a) || rest a))
  answered_none None rest = tt
  answered_none (Some a) rest = ap (λ (b : Bool). not b || rest a) (asks_none a)

  all_ungranted : (before h : List Entry) → EachFrom (λ before e. OfRequest p before e (λ i r. HasWay i.row.style r.asked e.what)) before h → AllByRecursion (λ (e : Entry). IsNoClosing e.what) h → AllByRecursion (λ (e : Entry). IsUngranted e.what) h
  all_ungranted before [] ways unclosed = tt
  all_ungranted before (e ∷ h) ways unclosed = (
    with_request p before e (λ i r. HasWay i.row.style r.asked e.what) (IsUngranted e.what) (λ i r at there way. ungranted_by i.row.style r.asked e.what (style_at e.txn.initiator i at) unclosed.0 way) ways.0,
    all_ungranted (before ++ e ∷ []) h ways.1 unclosed.1,
  )

  gate_none : (before : List Entry) (o : ObjectNo) (w : What) → IsUngranted w → IsGateInOrder before o w
  gate_none before o (Granted g f l k) is = absurd is
  gate_none before o (Closed g) is = absurd is
  gate_none before o w is = tt

  whole_none : (o : ObjectNo) (w : What) → IsUngranted w → GrantsAll p o w
  whole_none o (Granted g f l k) is = absurd is
  whole_none (Memory m) w is = tt
  whole_none (Hop n) w is = tt
  whole_none (Pool n) w is = tt

  asked_none : (before : List Entry) (e : Entry) (w : What) → IsUngranted w → IsAskedFor p before e w
  asked_none before e (Granted g f l k) is = absurd is
  asked_none before e w is = tt

  closing_none : (before : List Entry) (e : Entry) (w : What) → IsUngranted w → IsClosing before e w
  closing_none before e (Closed g) is = absurd is
  closing_none before e w is = tt

  use_none : (before : List Entry) (e : Entry) (i : Initiator) (r : Request) (w : What) → IsUngranted w → IsUse w p before e i r
  use_none before e i r (Accessed Blocking access status got) is = tt
  use_none before e i r (Accessed FourPhase access status got) is = tt
  use_none before e i r (Accessed (Direct g) access status got) is = cc
  use_none before e i r (Accessed Debug access status got) is = tt
  use_none before e i r w is = tt

  way_none : (before : List Entry) (i : Initiator) (r : Request) (w : What) → may_go_direct i r.seq ≡ false → HasDirectWay w p before i r
  way_none before i r (Accessed way access status got) is = or_true (is_direct_way way) _ (not_or (may_go_direct i r.seq) _ is)
  way_none before i r w is = tt

  pub ungranted_keeps : (h : List Entry) → ClosesNothing h → KeepsRequests p h → KeepsGrants p h × EndsGrants p h
  ungranted_keeps h unclosed k =
      let all = all_ungranted [] h k.scripts.ways unclosed in
      let each = λ (P : List Entry → Entry → Type 0) (f : (before : List Entry) (e : Entry) → AllByRecursion (λ (x : Entry). IsUngranted x.what) before → IsUngranted e.what → OfRequest p before e (λ i r. HasWay i.row.style r.asked e.what) → P before e). each_of P (λ before e. OfRequest p before e (λ i r. HasWay i.row.style r.asked e.what)) (λ e. IsUngranted e.what) f [] h tt all k.scripts.ways in (
        record {
          gates = each (λ before e. IsGateInOrder before e.object e.what) (λ before e so is of. gate_none before e.object e.what is);
          wholes = each (λ before e. GrantsAll p e.object e.what) (λ before e so is of. whole_none e.object e.what is);
          asked = each (λ before e. IsAskedFor p before e e.what) (λ before e so is of. asked_none before e e.what is);
          answered = each (λ before e. IsGivenGrant p before e) (λ before e so is of. answered_none (last_of e.txn.initiator before) (λ a. is_grant e.what || all_given p.platform a.object before));
          uses = each (λ before e. OfRequest p before e (λ i r. IsUse e.what p before e i r)) (λ before e so is of. of_each p before e (λ i r. HasWay i.row.style r.asked e.what) (λ i r. IsUse e.what p before e i r) (λ i r at. use_none before e i r e.what is) of);
          ways = each (λ before e. OfRequest p before e (λ i r. HasDirectWay e.what p before i r)) (λ before e so is of. of_each p before e (λ i r. HasWay i.row.style r.asked e.what) (λ i r. HasDirectWay e.what p before i r) (λ i r at. way_none before i r e.what (not_plain e.txn.initiator r.seq i at)) of);
          closings = each (λ before e. IsClosing before e e.what) (λ before e so is of. closing_none before e e.what is);
          returns = each (λ before e. IsTrue (have_returned (λ y. is_earlier y e) before)) (λ before e so is of. returned_none (λ y. is_earlier y e) before so);
        },
        record {
          answered = each_initiator (initiators_of p);
          returned = returned_none (λ y. true) h all;
        },
      )
    where
      each_initiator : (is : List Initiator) → AllByRecursion (LastAskIsAnswered p h) is
      each_initiator [] = tt
      each_initiator (i ∷ is) = (answered_none (last_of i.number h) (λ a. all_given p.platform a.object h), each_initiator is)

pub ungranted_keeps_grants : UngrantedKeepsGrants
ungranted_keeps_grants p h none unclosed k = ungranted_keeps p none h unclosed k

-- without invalidations no request is one
abbrev pub IsNoCloser : Request → Type 0
IsNoCloser r = IsCloser r.asked → ⊥

module _ (p : Platform) (i : Initiator) (h : List Entry) where
  using_all : (o : Option (List ℕ)) (next : List ℕ → List Request) → ((got : List ℕ) → AllByRecursion IsNoCloser (next got)) → AllByRecursion IsNoCloser (using o next)
  using_all None next each = tt
  using_all (Some got) next each = each got

  no_closers_by : (s t g : ℕ) (action : Action) (ops : List Operation) → InvalidatesNothing action → ((s t g : ℕ) → AllByRecursion IsNoCloser (requests_from p i h s t g ops))
      → AllByRecursion IsNoCloser (requests_by p i h s t g action (λ s t g. requests_from p i h s t g ops))
  no_closers_by s t g (Plain a access) ops none rest = (λ c. c, rest (s + 1) (later t (latency_of p i a)) g)
  no_closers_by s t g (Alone a (Transport access)) ops none rest = (λ c. c, rest (s + 1) (later t (latency_of p i a)) (g + 2))
  no_closers_by s t g (Alone a (DebugRead access)) ops none rest = (λ c. c, rest (s + 1) t (g + 2))
  no_closers_by s t g (Alone a (Invalidation n)) ops none rest = absurd none
  no_closers_by s t g (Pair from to n change) ops none rest = (λ c. c, using_all (buffer_of p i h s from n) _ (λ got. (λ c. c, rest (s + 2) (later (later t (latency_of p i from)) (latency_of p i to)) (g + 3))))
  no_closers_by s t g (Pause time sync) ops none rest = rest s (paused t time) (g + 1)

  pub no_closers : (s t g : ℕ) (ops : List Operation) → AllByRecursion IsNoInvalidation ops → AllByRecursion IsNoCloser (requests_from p i h s t g ops)
  no_closers s t g [] none = tt
  no_closers s t g (op ∷ ops) none = no_closers_by s t g (action_of op) ops none.0 (λ s t g. no_closers s t g ops none.1)

open_by : (s : Style) (asked : Asked) (w : What) → (IsCloser asked → ⊥) → HasWay s asked w → IsNoClosing w
open_by s asked (Closed g) none is = none is
open_by s asked w none is = tt

closed_none : (p : Plan) → HasNoInvalidation p → (before h : List Entry) → EachFrom (λ before e. OfRequest p before e (λ i r. HasWay i.row.style r.asked e.what)) before h → ClosesNothing h
closed_none p none before [] ways = tt
closed_none p none before (e ∷ h) ways = (
  with_request p before e (λ i r. HasWay i.row.style r.asked e.what) (IsNoClosing e.what)
      (λ i r at there way. open_by i.row.style r.asked e.what
      (all_at IsNoCloser (requests_of p.platform i before) e.txn.seq r (no_closers p.platform i before 0 0 0 i.script (all_at (λ (i : Initiator). AllByRecursion IsNoInvalidation i.script) (initiators_of p) e.txn.initiator i none at)) there)
      way)
      ways.0,
  closed_none p none (before ++ e ∷ []) h ways.1,
)

pub nothing_is_closed : NothingIsClosed
nothing_is_closed p h none k = closed_none p none [] h k.scripts.ways

-- no grant
abbrev IsNoGrant : What → Type 0
IsNoGrant (Granted g f l k) = ⊥
IsNoGrant w = Unit {0}

gives_none : (g : ℕ) (w : What) → IsNoGrant w → gives g w ≡ false
gives_none g (Granted gate f l k) none = absurd none
gives_none g w none = refl

given_none : (g : ℕ) (h : List Entry) → AllByRecursion (λ (e : Entry). IsNoGrant e.what) h → is_given g h ≡ false
given_none g [] none = refl
given_none g (e ∷ h) none = ap (λ (b : Bool). b || is_given g h) (gives_none g e.what none.0) ∙ given_none g h none.1

grant_none : (s : Style) (asked : Asked) (w : What) → is_direct s ≡ false → HasWay s asked w → IsNoGrant w
grant_none s asked (Granted g f l k) other is = no_grantee s asked other is
grant_none s asked w other is = tt

-- what no gate was given before can't be closed
never_closed : (before : List Entry) (o : ObjectNo) (w : What) → AllByRecursion (λ (e : Entry). IsNoGrant e.what) before → IsGateInOrder before o w → IsNoClosing w
never_closed before o (Closed g) none is = let given = is.0 in let never = given_none g before none in cc
never_closed before o w none is = tt

module _ (p : Plan) (direct : HasNoDirect p) where
  all_open : (before h : List Entry) → AllByRecursion (λ (e : Entry). IsNoGrant e.what) before → EachFrom (λ before e. OfRequest p before e (λ i r. HasWay i.row.style r.asked e.what)) before h → EachFrom (λ before e. IsGateInOrder before e.object e.what) before h → ClosesNothing h
  all_open before [] none ways gates = tt
  all_open before (e ∷ h) none ways gates = (
    never_closed before e.object e.what none gates.0,
    all_open (before ++ e ∷ []) h
        (AllByRecursion-push (λ (e : Entry). IsNoGrant e.what) before e none
        (with_request p before e (λ i r. HasWay i.row.style r.asked e.what) (IsNoGrant e.what) (λ i r at there way. grant_none i.row.style r.asked e.what (style_at p direct e.txn.initiator i at) way) ways.0))
        ways.1 gates.1,
  )

pub ungranted_closes_nothing : UngrantedClosesNothing
ungranted_closes_nothing p h direct k kept = all_open p direct [] h tt k.scripts.ways kept.gates
