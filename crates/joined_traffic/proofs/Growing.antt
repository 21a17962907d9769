-- What an initiator tells of grants grows, and stands.
use Rattle.std.proofs.Common.{◌≡◌, ℕ, ◌+◌, ◌<◌, Bool, true, false, ◌&&◌, List, [], ◌∷◌, ◌++◌, Option, Some, None, ap, subst, inl, inr, ⊎_elim, arith}
use Rattle.std.specs.Prelude.{IsTrue, MatchOption, slice_get}
use Rattle.std.proofs.lemmas.Bool.{eqb-true}
use Rattle.view_lists.specs.Lists.{Has}
use Rattle.view_lists.proofs.Members.{has_either, has_none}
use Rattle.tlm_types.specs.declared.words.ObjectNo.{ObjectNo}
use Rattle.tlm_types.specs.declared.words.ObjectNo.TheVariants.{Memory, Hop, Pool}
use Rattle.tlm_types.specs.declared.entry.Entry.{Entry}
use Rattle.tlm_types.specs.declared.entry.What.{What}
use Rattle.tlm_types.specs.declared.entry.What.TheVariants.{Access as Accessed, Granted, Invalidated, Closed, Call, Take, Acquire, Release}
use Rattle.tlm_model.specs.Each.{AtEach}
use Rattle.tlm_model.specs.History.{IsNumberedFrom}
use Rattle.good_history.specs.Counting.{IsRising}
use Rattle.tlm_model.specs.Plan.{Plan, Initiator, initiators_of}
use Rattle.tlm_model.specs.Requests.{Request, requests_of}
use Rattle.tlm_model.specs.Scripts.{OfRequest, first_gate}
use Rattle.tlm_model.proofs.EachLemmas.{AtEach-at, AtEach-push, EachFrom-weaker}
use Rattle.good_history.proofs.CountLemmas.{has_first}
use Rattle.good_history.specs.Grants.{gives, is_cut_by, is_given, is_grant, last_of}
use Rattle.good_history.specs.Kept.{IsGateInOrder}
use Rattle.joined_traffic.specs.Growing.{GateHasOneGrant, OwnGrantsGrow, OwnGrantsStand}
use Rattle.joined_traffic.specs.Parts.{EarlierReturned, HasOwnWay, IsAskSettled, IsOwnClosing, KnowsAllGiven, Knows}
use Rattle.joined_traffic.proofs.Lists.{any_has, numbered_rises, parted}
use Rattle.joined_traffic.proofs.Returning.{knows_later, return_stays}

pub own_grants_grow : OwnGrantsGrow
own_grants_grow p h mine e k next = record {
  asked = AtEach-push _ mine e k.asked next.asked;
  answered = AtEach-push _ mine e k.answered next.answered;
  uses = AtEach-push _ mine e k.uses next.uses;
  ways = AtEach-push _ mine e k.ways next.ways;
  closings = AtEach-push _ mine e k.closings next.closings;
  returns = AtEach-push _ mine e k.returns next.returns;
}

of_map : (p : Plan) (before : List Entry) (e : Entry) (Q R : Initiator → Request → Type 0) → ((i : Initiator) (r : Request) → Q i r → R i r) → OfRequest p before e Q → OfRequest p before e R
of_map p before e Q R f of = by_initiator (slice_get (initiators_of p) e.txn.initiator) of
  where
    by_request : (i : Initiator) (r : Option Request) → MatchOption r ⊥ (λ r. Q i r) → MatchOption r ⊥ (λ r. R i r)
    by_request i None of = of
    by_request i (Some r) of = f i r of

    by_initiator : (i : Option Initiator) → MatchOption i ⊥ (λ i. MatchOption (slice_get (requests_of p.platform i before) e.txn.seq) ⊥ (λ r. Q i r)) → MatchOption i ⊥ (λ i. MatchOption (slice_get (requests_of p.platform i before) e.txn.seq) ⊥ (λ r. R i r))
    by_initiator None of = of
    by_initiator (Some i) of = by_request i (slice_get (requests_of p.platform i before) e.txn.seq) of

module _ (p : Plan) (h m : List Entry) where
  knows_on : (limit : ℕ) (Q : Entry → Bool) → Knows h limit Q → Knows (h ++ m) limit Q
  knows_on limit Q k = knows_later h m limit limit Q (omega arith) k

  given_on : (limit : ℕ) (o : ObjectNo) → KnowsAllGiven p h limit o → KnowsAllGiven p (h ++ m) limit o
  given_on limit (Memory n) all = λ k less. knows_on limit (λ x. gives (first_gate p.platform n + k) x.what) (all k less)
  given_on limit (Hop n) all = tt
  given_on limit (Pool n) all = tt

  settled_on : (limit : ℕ) (w : What) (o : Option Entry) → IsAskSettled p h limit w o → IsAskSettled p (h ++ m) limit w o
  settled_on limit w None is = tt
  settled_on limit w (Some a) is = λ ask. ⊎_elim (λ (grant : IsTrue (is_grant w)). inl grant) (λ (all : KnowsAllGiven p h limit a.object). inr (given_on limit a.object all)) (is ask)

  way_on : (w : What) (limit : ℕ) (mine : List Entry) (i : Initiator) (r : Request) → HasOwnWay w p h limit mine i r → HasOwnWay w p (h ++ m) limit mine i r
  way_on (Accessed way access status got) limit mine i r is = λ other plain x has serving. knows_on limit (λ y. is_cut_by x y) (is other plain x has serving)
  way_on w limit mine i r is = tt

  closing_on : (mine : List Entry) (e : Entry) (w : What) → IsOwnClosing h mine e w → IsOwnClosing (h ++ m) mine e w
  closing_on mine e (Closed gate) is = (is.0, is.1, is.2, is.3, knows_on e.position (λ x. gives gate x.what && is_cut_by x is.0) is.4)
  closing_on mine e w is = tt

  returned_on : (mine : List Entry) (e : Entry) → EarlierReturned h mine e → EarlierReturned (h ++ m) mine e
  returned_on mine e is = λ y has invalidates earlier. return_stays h m e.position e.position y (omega arith) (is y has invalidates earlier)

pub own_grants_stand : OwnGrantsStand
own_grants_stand p h m mine k = record {
  asked = k.asked;
  answered = EachFrom-weaker (λ before e. IsAskSettled p h e.position e.what (last_of e.txn.initiator before)) (λ before e. IsAskSettled p (h ++ m) e.position e.what (last_of e.txn.initiator before)) (λ before e is. settled_on p h m e.position e.what (last_of e.txn.initiator before) is) [] mine k.answered;
  uses = k.uses;
  ways = EachFrom-weaker (λ before e. OfRequest p before e (λ i r. HasOwnWay e.what p h e.position before i r)) (λ before e. OfRequest p before e (λ i r. HasOwnWay e.what p (h ++ m) e.position before i r)) (λ before e of. of_map p before e (λ i r. HasOwnWay e.what p h e.position before i r) (λ i r. HasOwnWay e.what p (h ++ m) e.position before i r) (λ i r is. way_on p h m e.what e.position before i r is) of) [] mine k.ways;
  closings = EachFrom-weaker (λ before e. IsOwnClosing h before e e.what) (λ before e. IsOwnClosing (h ++ m) before e e.what) (λ before e is. closing_on p h m before e e.what is) [] mine k.closings;
  returns = EachFrom-weaker (λ before e. EarlierReturned h before e) (λ before e. EarlierReturned (h ++ m) before e) (λ before e is. returned_on p h m before e is) [] mine k.returns;
}

-- where an entry stands in a list
pub record Place (h : List Entry) (x : Entry) : Type 0 where
  pub before : List Entry
  pub rest : List Entry
  pub is : h ≡ before ++ x ∷ rest

pub place_of : (h : List Entry) (x : Entry) → Has h x → Place h x
place_of [] x has = absurd (has_none x has)
place_of (y ∷ h) x has =
    ⊎_elim
    (λ (same : y ≡ x). record { before = []; rest = h; is = ap (λ (z : Entry). z ∷ h) same })
    (λ (other : Has h x). let t = place_of h x other in record { before = y ∷ t.before; rest = t.rest; is = ap (λ (l : List Entry). y ∷ l) t.is })
    (has_first y h x has)

-- no grant of the gate stands before a grant of it
no_other : (g : ℕ) (before : List Entry) (o : ObjectNo) (w : What) → gives g w ≡ true → IsGateInOrder before o w → is_given g before ≡ false
no_other g before o (Granted gate f l k) is order = subst (λ (n : ℕ). is_given n before ≡ false) (eqb-true gate g is) order.0
no_other g before o (Accessed way a s got) is order = cc
no_other g before o (Invalidated f l) is order = cc
no_other g before o (Closed gate) is order = cc
no_other g before o (Call c a) is order = cc
no_other g before o (Take s) is order = cc
no_other g before o (Acquire s) is order = cc
no_other g before o (Release s f) is order = cc

pub rising_back : (position : Entry → ℕ) (front back : List Entry) → IsRising position (front ++ back) → IsRising position back
rising_back position [] back rising = rising
rising_back position (x ∷ front) back rising = rising_back position front back rising.1

pub gate_has_one_grant : GateHasOneGrant
gate_has_one_grant h g x z numbered gates has_x has_z gives_x gives_z =
    let t = place_of h x has_x in
    let u = place_of h z has_z in
    let none_before_x : is_given g t.before ≡ false = no_other g t.before x.object x.what gives_x (AtEach-at (λ before e. IsGateInOrder before e.object e.what) t.before x t.rest (subst (AtEach (λ before e. IsGateInOrder before e.object e.what)) t.is gates)) in
    let none_before_z : is_given g u.before ≡ false = no_other g u.before z.object z.what gives_z (AtEach-at (λ before e. IsGateInOrder before e.object e.what) u.before z u.rest (subst (AtEach (λ before e. IsGateInOrder before e.object e.what)) u.is gates)) in
    ⊎_elim
    (λ (early : Has t.before z). let there : is_given g t.before ≡ true = any_has (λ (e : Entry). gives g e.what) t.before z early gives_z in absurd (cc (there, none_before_x)))
    (λ (late : Has (x ∷ t.rest) z).
    ⊎_elim
    (λ (same : x ≡ z). same)
    (λ (after : Has t.rest z).
    let less : x.position < z.position = later t.before x t.rest z (subst (λ (l : List Entry). IsNumberedFrom 0 l) t.is numbered) after in
    let part = parted h u.before z u.rest numbered u.is in
    let there : is_given g u.before ≡ true = any_has (λ (e : Entry). gives g e.what) u.before x (part.back x has_x less) gives_x in
    absurd (cc (there, none_before_z)))
    (has_first x t.rest z late))
    (has_either t.before (x ∷ t.rest) z (subst (λ (l : List Entry). Has l z) t.is has_z))
  where
    later : (front : List Entry) (x : Entry) (back : List Entry) (z : Entry) → IsNumberedFrom 0 (front ++ x ∷ back) → Has back z → x.position < z.position
    later front x back z i has = ((rising_back (λ (e : Entry). e.position) front (x ∷ back) (numbered_rises 0 (front ++ x ∷ back) i)).0) z has
