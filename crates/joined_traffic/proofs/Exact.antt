-- The points tell the parts.
use Rattle.std.proofs.Common.{◌≡◌, ◌⊎◌, ℕ, zero, suc, ◌+◌, ◌<◌, Bool, true, false, not, cond, nat_eq, ◌||◌, ◌&&◌, List, [], ◌∷◌, ◌++◌, Option, Some, None, refl, sym, ◌∙◌, subst, inl, inr, ⊎_elim, arith, append_assoc}
use Rattle.std.specs.Prelude.{IsTrue, MatchOption, slice_get}
use Rattle.std.specs.List.{filter, list_any, list_all}
use Rattle.std.proofs.lemmas.Bool.{and_from, and_parts, eq-eqb, eqb-true}
use Rattle.std.proofs.lemmas.List.Elements.{filter-append}
use Rattle.view_lists.specs.Lists.{Has}
use Rattle.view_lists.proofs.Members.{has_either, has_left}
use Rattle.tlm_types.specs.declared.words.ObjectNo.{ObjectNo}
use Rattle.tlm_types.specs.declared.words.ObjectNo.TheVariants.{Memory, Hop, Pool}
use Rattle.tlm_types.specs.declared.words.Response.{Response}
use Rattle.tlm_types.specs.declared.words.Way.{Way}
use Rattle.tlm_types.specs.declared.words.Way.TheVariants.{Blocking, FourPhase, Direct, Debug}
use Rattle.tlm_types.specs.declared.entry.Access.{Access}
use Rattle.tlm_types.specs.declared.entry.Entry.{Entry}
use Rattle.tlm_types.specs.declared.entry.What.{What}
use Rattle.tlm_types.specs.declared.entry.What.TheVariants.{Access as Accessed, Granted, Invalidated, Closed, Call, Take, Acquire, Release}
use Rattle.tlm_model.specs.Each.{AtEach, EachFrom}
use Rattle.tlm_model.specs.History.{IsNumbered, entries_at, is_object}
use Rattle.tlm_model.specs.Kept.{KeepsRequests}
use Rattle.tlm_model.specs.Plan.{Plan, Initiator, initiators_of}
use Rattle.tlm_model.specs.Requests.{Request, is_txn, requests_of}
use Rattle.tlm_model.specs.Scripts.{IsPlaced, OfRequest, first_gate}
use Rattle.tlm_model.proofs.EachLemmas.{AtEach-at, append_nil}
use Rattle.tlm_model.proofs.InitiatorLemmas.{initiator_from}
use Rattle.good_history.specs.Own.{own}
use Rattle.good_history.proofs.CountLemmas.{has_first, has_kept, kept_has}
use Rattle.good_history.proofs.OwnLemmas.{own_is_enough}
use Rattle.good_history.specs.Grants.{all_given, all_given_from, asks, closes, gates_of, gives, has_closing, is_closed, is_cut_by, is_given, is_grant, last_of, serves, serves_by}
use Rattle.good_history.specs.Kept.{HasDirectWay, IsGivenGrant, IsAskedFor, IsClosing, IsGateInOrder, IsUse, IsUseOf, GrantsAll, KeepsGrants, have_returned, is_below, is_earlier}
use Rattle.good_history.specs.Plain.{may_go_direct}
use Rattle.good_history.specs.GrantsWorked.{revoked, revoked_plan, spent, spent_plan, windowed, windowed_plan}
use Rattle.good_history.proofs.GrantsWorked.{revoked_is_worked, spent_is_worked, windowed_is_worked}
use Rattle.joined_traffic.specs.Exact.{PointsTellParts, WorkedHaveParts}
use Rattle.joined_traffic.specs.Parts.{EarlierReturned, HasOwnWay, IsAskSettled, IsOwnClosing, IsOwnUse, IsOwnUseOf, KeepsGateLog, KeepsOwnGrants, Knows, KnowsAllGiven, KnowsClosing, uses_gate}
use Rattle.joined_traffic.proofs.Lists.{Parted, all_has, any_has, any_none, has_all, has_any, numbered_rises, parted}
use Rattle.joined_traffic.proofs.Gates.{each_has, grant_home, object_itself, same_object}
use Rattle.joined_traffic.proofs.Growing.{place_of, rising_back}
use Rattle.joined_traffic.proofs.Wholes.{cut_parts, last_of-own}

module _ (h : List Entry) (test : Entry → Bool) (P Q : List Entry → Entry → Type 0) (f : (before : List Entry) (e : Entry) (rest : List Entry) → h ≡ before ++ e ∷ rest → test e ≡ true → P before e → Q (filter test before) e) where
  each_filter : (before xs : List Entry) → h ≡ before ++ xs → EachFrom P before xs → EachFrom Q (filter test before) (filter test xs)
  each_filter before [] is each = tt
  each_filter before (x ∷ xs) is each =
      by_test (test x) (λ passes. f before x xs is passes each.0)
      (subst (λ (l : List Entry). EachFrom Q l (filter test xs)) (filter-append test before (x ∷ [])) (each_filter (before ++ x ∷ []) xs (is ∙ sym (append_assoc before (x ∷ []) xs)) each.1))
    where
      by_test : (b : Bool) → (b ≡ true → Q (filter test before) x) → EachFrom Q (filter test before ++ cond b (x ∷ []) []) (filter test xs) → EachFrom Q (filter test before) (cond b (x ∷ filter test xs) (filter test xs))
      by_test true here rest = (here refl, rest)
      by_test false here rest = subst (λ (l : List Entry). EachFrom Q l (filter test xs)) (append_nil (filter test before)) rest

  at_filter : AtEach P h → AtEach Q (filter test h)
  at_filter each = each_filter [] h refl each

at_own : (h : List Entry) (n : ℕ) (P Q : List Entry → Entry → Type 0) → ((before : List Entry) (e : Entry) (rest : List Entry) → h ≡ before ++ e ∷ rest → P before e → Q (own e.txn.initiator before) e) → AtEach P h → AtEach Q (own n h)
at_own h n P Q f each = at_filter h (λ (e : Entry). nat_eq e.txn.initiator n) P Q (λ before e rest is mine here. subst (λ (k : ℕ). Q (own k before) e) (eqb-true e.txn.initiator n mine) (f before e rest is here)) each

of_down : (p : Plan) (before : List Entry) (e : Entry) (Q R : Initiator → Request → Type 0) → ((i : Initiator) (r : Request) → i.number ≡ e.txn.initiator → Q i r → R i r) → OfRequest p before e Q → OfRequest p (own e.txn.initiator before) e R
of_down p before e Q R down of = by_initiator (slice_get (initiators_of p) e.txn.initiator) refl of
  where
    by_request : (i : Initiator) → i.number ≡ e.txn.initiator → (r : Option Request) → MatchOption r ⊥ (λ r. Q i r) → MatchOption r ⊥ (λ r. R i r)
    by_request i number None of = of
    by_request i number (Some r) of = down i r number of

    with_number : (i : Initiator) → i.number ≡ e.txn.initiator → MatchOption (slice_get (requests_of p.platform i before) e.txn.seq) ⊥ (λ r. Q i r) → MatchOption (slice_get (requests_of p.platform i (own e.txn.initiator before)) e.txn.seq) ⊥ (λ r. R i r)
    with_number i number of =
        subst (λ (n : ℕ). MatchOption (slice_get (requests_of p.platform i (own n before)) e.txn.seq) ⊥ (λ r. R i r)) number
        (subst (λ (rs : List Request). MatchOption (slice_get rs e.txn.seq) ⊥ (λ r. R i r)) (own_is_enough p.platform i before).requests
        (by_request i number (slice_get (requests_of p.platform i before) e.txn.seq) of))

    by_initiator : (o : Option Initiator) → slice_get (initiators_of p) e.txn.initiator ≡ o → MatchOption o ⊥ (λ i. MatchOption (slice_get (requests_of p.platform i before) e.txn.seq) ⊥ (λ r. Q i r)) → MatchOption o ⊥ (λ i. MatchOption (slice_get (requests_of p.platform i (own e.txn.initiator before)) e.txn.seq) ⊥ (λ r. R i r))
    by_initiator None at of = of
    by_initiator (Some i) at of = with_number i (omega (arith, (initiator_from 0 p.platform.initiators p.scripts e.txn.initiator i at).0)) of

asked_down : (p : Plan) (before : List Entry) (e : Entry) (w : What) → IsAskedFor p before e w → IsAskedFor p (own e.txn.initiator before) e w
asked_down p before e (Granted gate f l k) is =
    subst (λ (o : Option Entry). MatchOption o ⊥ (λ a. IsTrue (asks p a && (is_txn a.txn.initiator a.txn.seq e.txn && is_object a.object e.object)))) (last_of-own e.txn.initiator before) is
asked_down p before e w is = tt

module _ (h before : List Entry) (e : Entry) (part : Parted h before e) where
  any_known : (Q : Entry → Bool) → list_any Q before ≡ true → Knows h e.position Q
  any_known Q is = let t = has_any Q before is in (t.0, part.up t.0 t.1, part.below t.0 t.1, t.2)

  from_given : (g n : ℕ) → all_given_from g n before ≡ true → (k : ℕ) → k < n → Knows h e.position (λ x. gives (g + k) x.what)
  from_given g zero all k less = absurd (omega (arith, less))
  from_given g (suc n) all zero less = subst (λ (j : ℕ). Knows h e.position (λ x. gives j x.what)) (omega arith) (any_known (λ x. gives g x.what) (and_parts (is_given g before) (all_given_from (g + 1) n before) all).0)
  from_given g (suc n) all (suc k) less = subst (λ (j : ℕ). Knows h e.position (λ x. gives j x.what)) (omega arith) (from_given (g + 1) n (and_parts (is_given g before) (all_given_from (g + 1) n before) all).1 k (omega (arith, less)))

  given_down : (p : Plan) (o : ObjectNo) → all_given p.platform o before ≡ true → KnowsAllGiven p h e.position o
  given_down p (Memory m) all = from_given (first_gate p.platform m) (gates_of (slice_get p.platform.memories m)) all
  given_down p (Hop n) all = tt
  given_down p (Pool n) all = tt

  answered_down : (p : Plan) (last : Option Entry) → MatchOption last (Unit {0}) (λ a. IsTrue (not (asks p a) || (is_grant e.what || all_given p.platform a.object before))) → IsAskSettled p h e.position e.what last
  answered_down p None is = tt
  answered_down p (Some a) is = λ ask. by_grant (is_grant e.what) (subst (λ (b : Bool). IsTrue (not b || (is_grant e.what || all_given p.platform a.object before))) ask is)
    where
      by_grant : (b : Bool) → IsTrue (b || all_given p.platform a.object before) → IsTrue b ⊎ KnowsAllGiven p h e.position a.object
      by_grant true is = inl refl
      by_grant false is = inr (given_down p a.object is)

  mine_of : (x : Entry) → Has before x → (n : ℕ) → nat_eq x.txn.initiator n ≡ true → n ≡ e.txn.initiator → Has (own e.txn.initiator before) x
  mine_of x has n is same = kept_has (λ (x : Entry). nat_eq x.txn.initiator e.txn.initiator) before x has (subst (λ (k : ℕ). nat_eq x.txn.initiator k ≡ true) same is)

  use_way_down : (p : Plan) (i : Initiator) (r : Request) (access : Access) (status : Response) (way : Way) → i.number ≡ e.txn.initiator → IsUseOf way p before e access status i r → IsOwnUseOf way p (own e.txn.initiator before) access status i r
  use_way_down p i r access status (Direct g) number is =
      let test = λ (x : Entry). gives g x.what && serves p.platform i x r.address access in
      let t = has_any test before is.2 in
      let served = (and_parts (gives g t.0.what) (serves p.platform i t.0 r.address access) t.2).1 in
      let owner = (and_parts (nat_eq t.0.txn.initiator i.number) (serves_by p.platform i t.0.object t.0.what r.address access) served).0 in
      (is.0, is.1, any_has test (own e.txn.initiator before) t.0 (mine_of t.0 t.1 i.number owner number) t.2)
  use_way_down p i r access status Blocking number is = tt
  use_way_down p i r access status FourPhase number is = tt
  use_way_down p i r access status Debug number is = tt

  use_down : (p : Plan) (i : Initiator) (r : Request) (w : What) → i.number ≡ e.txn.initiator → IsUse w p before e i r → IsOwnUse w p (own e.txn.initiator before) i r
  use_down p i r (Accessed way access status got) number is = use_way_down p i r access status way number is
  use_down p i r w number is = tt

  way_down : (p : Plan) (i : Initiator) (r : Request) (w : What) → HasDirectWay w p before i r → HasOwnWay w p h e.position (own e.txn.initiator before) i r
  way_down p i r (Accessed way access status got) is = λ other plain x has serving.
      let all = list_all (λ x. not (serves p.platform i x r.address access) || list_any (is_cut_by x) before) before in
      let a : IsTrue (false || (not (may_go_direct i r.seq) || all)) = subst (λ (b : Bool). IsTrue (b || (not (may_go_direct i r.seq) || all))) other is in
      let b : IsTrue (not true || all) = subst (λ (b : Bool). IsTrue (not b || all)) plain a in
      let c = has_all (λ x. not (serves p.platform i x r.address access) || list_any (is_cut_by x) before) before x b (has_kept (λ (x : Entry). nat_eq x.txn.initiator e.txn.initiator) before x has).0 in
      any_known (is_cut_by x) (subst (λ (b : Bool). (not b || list_any (is_cut_by x) before) ≡ true) serving c)
  way_down p i r w is = tt

  closing_down : (w : What) → IsClosing before e w → IsOwnClosing h (own e.txn.initiator before) e w
  closing_down (Closed gate) is =
      let x = has_any (λ (x : Entry). gives gate x.what && list_any (λ y. is_txn y.txn.initiator y.txn.seq e.txn && is_cut_by x y) before) before is in
      let a = and_parts (gives gate x.0.what) (list_any (λ y. is_txn y.txn.initiator y.txn.seq e.txn && is_cut_by x.0 y) before) x.2 in
      let y = has_any (λ (y : Entry). is_txn y.txn.initiator y.txn.seq e.txn && is_cut_by x.0 y) before a.1 in
      let b = and_parts (is_txn y.0.txn.initiator y.0.txn.seq e.txn) (is_cut_by x.0 y.0) y.2 in
      let owner : e.txn.initiator ≡ y.0.txn.initiator = eqb-true e.txn.initiator y.0.txn.initiator (and_parts (nat_eq e.txn.initiator y.0.txn.initiator) (nat_eq e.txn.seq y.0.txn.seq) b.0).0 in (
        y.0,
        mine_of y.0 y.1 e.txn.initiator (eq-eqb y.0.txn.initiator e.txn.initiator (sym owner)) refl,
        b.0,
        part.below y.0 y.1,
        (x.0, part.up x.0 x.1, part.below x.0 x.1, and_from (gives gate x.0.what) (is_cut_by x.0 y.0) a.0 b.1),
      )
  closing_down w is = tt

  closing_known : (w : What) → has_closing w before ≡ true → KnowsClosing h e.position w
  closing_known (Granted gate f l k) is = any_known (λ z. closes gate z.what) is
  closing_known (Accessed way a s got) is = tt
  closing_known (Invalidated f l) is = tt
  closing_known (Closed gate) is = tt
  closing_known (Call c a) is = tt
  closing_known (Take s) is = tt
  closing_known (Acquire s) is = tt
  closing_known (Release s f) is = tt

  returned_down : have_returned (λ y. is_earlier y e) before ≡ true → EarlierReturned h (own e.txn.initiator before) e
  returned_down all = λ y has invalidates earlier.
      let there = (has_kept (λ (x : Entry). nat_eq x.txn.initiator e.txn.initiator) before y has).0 in
      let s = place_of (entries_at y.object h) y (kept_has (λ (z : Entry). is_object y.object z.object) h y (part.up y there) (object_itself y.object)) in
      record {
        log = s.before;
        rest = s.rest;
        log_is = s.is;
        closed = λ x early cut.
            let in_h = (has_kept (λ (z : Entry). is_object y.object z.object) h x (subst (λ (l : List Entry). Has l x) (sym s.is) (has_left s.before (y ∷ s.rest) x early))).0 in
            let first = (cut_parts x y cut).later in
            let second = part.below y there in
            let x_there = part.back x in_h (omega (arith, first, second)) in
            let row = has_all (λ (x : Entry). list_all (λ y. not (is_earlier y e && is_cut_by x y) || has_closing x.what before) before) before x all x_there in
            let one = has_all (λ (y : Entry). not (is_earlier y e && is_cut_by x y) || has_closing x.what before) before y row there in
            closing_known x.what (subst (λ (b : Bool). (not b || has_closing x.what before) ≡ true) (and_from (is_earlier y e) (is_cut_by x y) earlier cut) one);
      }

-- a part of a list has no more than the list
none_in_part : (test : Entry → Bool) (m : ℕ) (before : List Entry) → list_any test before ≡ false → list_any test (entries_at (Memory m) before) ≡ false
none_in_part test m before none = any_none test (entries_at (Memory m) before) (λ x has is. let there : list_any test before ≡ true = any_has test before x (has_kept (λ (z : Entry). is_object (Memory m) z.object) before x has).0 is in cc)

gates_down : (p : Plan) (m i : ℕ) (before : List Entry) (w : What) → ((x : Entry) → Has before x → IsPlaced p.platform x.txn.initiator x.object x.what) → IsPlaced p.platform i (Memory m) w → IsGateInOrder before (Memory m) w → IsGateInOrder (entries_at (Memory m) before) (Memory m) w
gates_down p m i before (Granted gate f l k) placed home is = (
  none_in_part (λ (e : Entry). gives gate e.what) m before is.0,
  all_has (λ (x : Entry). not (is_object (Memory m) x.object) || is_below gate x.what) (entries_at (Memory m) before) (λ x has.
      has_all (λ (x : Entry). not (is_object (Memory m) x.object) || is_below gate x.what) before x is.1 (has_kept (λ (z : Entry). is_object (Memory m) z.object) before x has).0),
)
gates_down p m i before (Closed gate) placed home is =
    let t = has_any (λ (e : Entry). gives gate e.what) before is.0 in (
      any_has (λ (e : Entry). gives gate e.what) (entries_at (Memory m) before) t.0 (kept_has (λ (z : Entry). is_object (Memory m) z.object) before t.0 t.1 (grant_home p.platform t.0.txn.initiator m gate home t.0.object t.0.what (placed t.0 t.1) t.2)) t.2,
      none_in_part (λ (e : Entry). closes gate e.what) m before is.1,
    )
gates_down p m i before (Accessed way a s got) placed home is = tt
gates_down p m i before (Invalidated f l) placed home is = tt
gates_down p m i before (Call c a) placed home is = tt
gates_down p m i before (Take s) placed home is = tt
gates_down p m i before (Acquire s) placed home is = tt
gates_down p m i before (Release s f) placed home is = tt

-- a direct access isn't a closing, and none of its gate stands before it
unclosed_use : (p : Plan) (before : List Entry) (e : Entry) (g : ℕ) (w : What) → IsTrue (uses_gate g w) → OfRequest p before e (λ i r. IsUse w p before e i r) → is_closed g before ≡ false
unclosed_use p before e g (Accessed (Direct gate) access status got) uses of = by_initiator (slice_get (initiators_of p) e.txn.initiator) of
  where
    by_request : (i : Initiator) (r : Option Request) → MatchOption r ⊥ (λ r. IsUse (Accessed (Direct gate) access status got) p before e i r) → is_closed g before ≡ false
    by_request i None of = absurd of
    by_request i (Some r) of = subst (λ (n : ℕ). is_closed n before ≡ false) (eqb-true gate g uses) of.3

    by_initiator : (i : Option Initiator) → MatchOption i ⊥ (λ i. MatchOption (slice_get (requests_of p.platform i before) e.txn.seq) ⊥ (λ r. IsUse (Accessed (Direct gate) access status got) p before e i r)) → is_closed g before ≡ false
    by_initiator None of = absurd of
    by_initiator (Some i) of = by_request i (slice_get (requests_of p.platform i before) e.txn.seq) of
unclosed_use p before e g (Accessed Blocking access status got) uses of = cc
unclosed_use p before e g (Accessed FourPhase access status got) uses of = cc
unclosed_use p before e g (Accessed Debug access status got) uses of = cc
unclosed_use p before e g (Granted gate f l k) uses of = cc
unclosed_use p before e g (Invalidated f l) uses of = cc
unclosed_use p before e g (Closed gate) uses of = cc
unclosed_use p before e g (Call c a) uses of = cc
unclosed_use p before e g (Take s) uses of = cc
unclosed_use p before e g (Acquire s) uses of = cc
unclosed_use p before e g (Release s f) uses of = cc

both_ways : (g : ℕ) (w : What) → IsTrue (uses_gate g w) → IsTrue (closes g w) → ⊥
both_ways g (Accessed way access status got) uses closing = cc
both_ways g (Granted gate f l k) uses closing = cc
both_ways g (Invalidated f l) uses closing = cc
both_ways g (Closed gate) uses closing = cc
both_ways g (Call c a) uses closing = cc
both_ways g (Take s) uses closing = cc
both_ways g (Acquire s) uses closing = cc
both_ways g (Release s f) uses closing = cc

module _ (p : Plan) (h : List Entry) (k : KeepsRequests p h) (kept : KeepsGrants p h) where
  split_of : (before : List Entry) (e : Entry) (rest : List Entry) → h ≡ before ++ e ∷ rest → Parted h before e
  split_of before e rest is = parted h before e rest k.numbered is

  placed_at : (x : Entry) → Has h x → IsPlaced p.platform x.txn.initiator x.object x.what
  placed_at x has = each_has (λ (x : Entry). IsPlaced p.platform x.txn.initiator x.object x.what) [] h k.scripts.places x has

  own_parts : (n : ℕ) → KeepsOwnGrants p h (own n h)
  own_parts n = record {
    asked = at_own h n (λ before e. IsAskedFor p before e e.what) (λ before e. IsAskedFor p before e e.what) (λ before e rest is here. asked_down p before e e.what here) kept.asked;
    answered = at_own h n (λ before e. IsGivenGrant p before e) (λ before e. IsAskSettled p h e.position e.what (last_of e.txn.initiator before))
        (λ before e rest is here. answered_down h before e (split_of before e rest is) p (last_of e.txn.initiator (own e.txn.initiator before))
        (subst (λ (o : Option Entry). MatchOption o (Unit {0}) (λ a. IsTrue (not (asks p a) || (is_grant e.what || all_given p.platform a.object before)))) (last_of-own e.txn.initiator before) here))
        kept.answered;
    uses = at_own h n (λ before e. OfRequest p before e (λ i r. IsUse e.what p before e i r)) (λ before e. OfRequest p before e (λ i r. IsOwnUse e.what p before i r))
        (λ before e rest is here. of_down p before e (λ i r. IsUse e.what p before e i r) (λ i r. IsOwnUse e.what p (own e.txn.initiator before) i r) (λ i r number used. use_down h before e (split_of before e rest is) p i r e.what number used) here)
        kept.uses;
    ways = at_own h n (λ before e. OfRequest p before e (λ i r. HasDirectWay e.what p before i r)) (λ before e. OfRequest p before e (λ i r. HasOwnWay e.what p h e.position before i r))
        (λ before e rest is here. of_down p before e (λ i r. HasDirectWay e.what p before i r) (λ i r. HasOwnWay e.what p h e.position (own e.txn.initiator before) i r) (λ i r number way. way_down h before e (split_of before e rest is) p i r e.what way) here)
        kept.ways;
    closings = at_own h n (λ before e. IsClosing before e e.what) (λ before e. IsOwnClosing h before e e.what) (λ before e rest is here. closing_down h before e (split_of before e rest is) e.what here) kept.closings;
    returns = at_own h n (λ before e. IsTrue (have_returned (λ y. is_earlier y e) before)) (λ before e. EarlierReturned h before e) (λ before e rest is here. returned_down h before e (split_of before e rest is) here) kept.returns;
  }

  log_parts : (m : ℕ) → KeepsGateLog p (entries_at (Memory m) h)
  log_parts m = record {
    gates = at_filter h (λ (e : Entry). is_object (Memory m) e.object) (λ before e. IsGateInOrder before e.object e.what) (λ before e. IsGateInOrder before e.object e.what)
        (λ before e rest is at here.
        let part = split_of before e rest is in
        let same : Memory m ≡ e.object = same_object (Memory m) e.object at in
        subst (λ (o : ObjectNo). IsGateInOrder (entries_at (Memory m) before) o e.what) same
        (gates_down p m e.txn.initiator before e.what (λ x has. placed_at x (part.up x has))
        (subst (λ (o : ObjectNo). IsPlaced p.platform e.txn.initiator o e.what) (sym same) (placed_at e part.here))
        (subst (λ (o : ObjectNo). IsGateInOrder before o e.what) (sym same) here)))
        kept.gates;
    wholes = at_filter h (λ (e : Entry). is_object (Memory m) e.object) (λ before e. GrantsAll p e.object e.what) (λ before e. GrantsAll p e.object e.what) (λ before e rest is at here. here) kept.wholes;
  }

  last_use : (d c : Entry) (g : ℕ) → Has h d → Has h c → IsTrue (uses_gate g d.what) → IsTrue (closes g c.what) → d.position < c.position
  last_use d c g has_d has_c uses closing =
      let s = place_of h d has_d in
      let none = unclosed_use p s.before d g d.what uses (AtEach-at (λ before e. OfRequest p before e (λ i r. IsUse e.what p before e i r)) s.before d s.rest (subst (AtEach (λ before e. OfRequest p before e (λ i r. IsUse e.what p before e i r))) s.is kept.uses)) in
      ⊎_elim
      (λ (early : Has s.before c). let there : is_closed g s.before ≡ true = any_has (λ (e : Entry). closes g e.what) s.before c early closing in absurd (cc (there, none)))
      (λ (late : Has (d ∷ s.rest) c).
      ⊎_elim
      (λ (same : d ≡ c). absurd (both_ways g d.what uses (subst (λ (e : Entry). IsTrue (closes g e.what)) (sym same) closing)))
      (λ (after : Has s.rest c). (rising_back (λ (e : Entry). e.position) s.before (d ∷ s.rest) (numbered_rises 0 (s.before ++ d ∷ s.rest) (subst IsNumbered s.is k.numbered))).0 c after)
      (has_first d s.rest c late))
      (has_either s.before (d ∷ s.rest) c (subst (λ (l : List Entry). Has l c) s.is has_c))

pub points_tell_parts : PointsTellParts
points_tell_parts p h k kept = record {
  initiators = λ n less. own_parts p h k kept n;
  memories = λ m. log_parts p h k kept m;
  last = λ d c g has_d has_c uses closing. last_use p h k kept d c g has_d has_c uses closing;
}

pub worked_have_parts : WorkedHaveParts
worked_have_parts = record {
  revoked_has = points_tell_parts revoked_plan revoked revoked_is_worked.requests.kept revoked_is_worked.kept;
  windowed_has = points_tell_parts windowed_plan windowed windowed_is_worked.requests.kept windowed_is_worked.kept;
  spent_has = points_tell_parts spent_plan spent spent_is_worked.requests.kept spent_is_worked.kept;
}
