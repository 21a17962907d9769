-- The parts of a history make the points of grants.
use Rattle.std.proofs.Common.{◌≡◌, ◌⊎◌, ℕ, zero, suc, ◌+◌, ◌<◌, Bool, true, false, not, cond, nat_eq, ◌||◌, ◌&&◌, List, [], ◌∷◌, ◌++◌, length, Option, Some, None, refl, sym, ap, ◌∙◌, subst, ⊎_elim, arith}
use Rattle.std.specs.Prelude.{IsTrue, MatchOption, nat_lt, slice_get}
use Rattle.std.specs.List.{list_any, list_all}
use Rattle.std.specs.Option.{option_or}
use Rattle.std.proofs.lemmas.Bool.{and_from, and_parts, eq-eqb, ltb-true, or_left, or_right}
use Rattle.view_lists.specs.Lists.{Has}
use Rattle.tlm_types.specs.declared.words.ObjectNo.{ObjectNo}
use Rattle.tlm_types.specs.declared.words.ObjectNo.TheVariants.{Memory, Hop, Pool}
use Rattle.tlm_types.specs.declared.words.Response.{Response}
use Rattle.tlm_types.specs.declared.words.Way.{Way}
use Rattle.tlm_types.specs.declared.words.Way.TheVariants.{Blocking, FourPhase, Direct, Debug}
use Rattle.tlm_types.specs.declared.entry.Access.{Access}
use Rattle.tlm_types.specs.declared.entry.Entry.{Entry}
use Rattle.tlm_types.specs.declared.entry.What.{What}
use Rattle.tlm_types.specs.declared.entry.What.TheVariants.{Access as Accessed, Granted, Invalidated, Closed, Call, Take, Acquire, Release}
use Rattle.tlm_model.specs.Each.{AtEach}
use Rattle.tlm_model.specs.History.{IsNumbered, entries_at, is_object}
use Rattle.tlm_model.specs.Kept.{KeepsRequests}
use Rattle.tlm_model.specs.Plan.{Plan, Initiator, initiators_of}
use Rattle.tlm_model.specs.Requests.{Request, is_txn, requests_of}
use Rattle.tlm_model.specs.Scripts.{IsPlaced, OfRequest, first_gate}
use Rattle.tlm_model.proofs.InitiatorLemmas.{initiator_from}
use Rattle.good_history.specs.Own.{own}
use Rattle.good_history.specs.Counting.{IsRising}
use Rattle.good_history.specs.Joined.{HasOwners}
use Rattle.good_history.proofs.CountLemmas.{IsRising-filter, has_first, has_kept, kept_has}
use Rattle.good_history.proofs.OwnLemmas.{own_is_enough}
use Rattle.good_history.specs.Grants.{all_given, all_given_from, asks, closes, gates_of, gives, has_closing, is_cut_by, is_given, is_grant, is_overlapped, last_of, meets, serves, serves_by}
use Rattle.view_lists.proofs.Members.{has_none}
use Rattle.good_history.specs.Kept.{KeepsGrants, HasDirectWay, IsGivenGrant, IsAskedFor, IsClosing, IsGateInOrder, IsUse, IsUseOf, GrantsAll, have_returned, is_direct_way, is_earlier}
use Rattle.good_history.specs.Plain.{may_go_direct}
use Rattle.joined_traffic.specs.Parts.{EarlierReturned, HasGrantParts, HasOwnWay, HasReturned, IsAskSettled, IsOwnClosing, IsOwnUse, IsOwnUseOf, KeepsOwnGrants, Knows, KnowsAllGiven, KnowsClosing, is_invalidation, is_way_of, uses_gate}
use Rattle.joined_traffic.specs.GrantLaws.{PartsKeepGrants}
use Rattle.joined_traffic.proofs.Lists.{Parted, all_has, any_has, any_none, at_each, at_part, has_any, numbered_rises, parted, rising_front}
use Rattle.joined_traffic.proofs.Gates.{each_has, gates_up, object_itself, same_object}

-- the last entry of an initiator is the last of its own
pub last_of-own : (n : ℕ) (h : List Entry) → last_of n h ≡ last_of n (own n h)
last_of-own n [] = refl
last_of-own n (e ∷ h) = ap (λ (l : Option Entry). option_or l (cond (nat_eq e.txn.initiator n) (Some e) None)) (last_of-own n h) ∙ by_owner (nat_eq e.txn.initiator n) refl
  where
    or_none : (o : Option Entry) → option_or o None ≡ o
    or_none None = refl
    or_none (Some x) = refl

    by_owner : (b : Bool) → nat_eq e.txn.initiator n ≡ b → option_or (last_of n (own n h)) (cond b (Some e) None) ≡ last_of n (cond b (e ∷ own n h) (own n h))
    by_owner true mine = ap (λ (b : Bool). option_or (last_of n (own n h)) (cond b (Some e) None)) (sym mine)
    by_owner false other = or_none (last_of n (own n h))

asked_up : (p : Plan) (before : List Entry) (e : Entry) (w : What) → IsAskedFor p (own e.txn.initiator before) e w → IsAskedFor p before e w
asked_up p before e (Granted gate f l k) is =
    subst (λ (o : Option Entry). MatchOption o ⊥ (λ a. IsTrue (asks p a && (is_txn a.txn.initiator a.txn.seq e.txn && is_object a.object e.object)))) (sym (last_of-own e.txn.initiator before)) is
asked_up p before e w is = tt

-- what is known below an entry stands before it
module _ (h before : List Entry) (e : Entry) (part : Parted h before e) where
  known_any : (Q : Entry → Bool) → Knows h e.position Q → list_any Q before ≡ true
  known_any Q k = any_has Q before k.0 (part.back k.0 k.1 k.2) k.3

  given_from : (g n : ℕ) → ((k : ℕ) → k < n → Knows h e.position (λ x. gives (g + k) x.what)) → all_given_from g n before ≡ true
  given_from g zero each = refl
  given_from g (suc n) each =
      and_from (is_given g before) (all_given_from (g + 1) n before)
      (subst (λ (k : ℕ). is_given k before ≡ true) (omega arith) (known_any (λ x. gives (g + 0) x.what) (each 0 (omega arith))))
      (given_from (g + 1) n (λ k less. subst (λ (j : ℕ). Knows h e.position (λ x. gives j x.what)) (omega arith) (each (k + 1) (omega (arith, less)))))

  given_up : (p : Plan) (o : ObjectNo) → KnowsAllGiven p h e.position o → all_given p.platform o before ≡ true
  given_up p (Memory m) k = given_from (first_gate p.platform m) (gates_of (slice_get p.platform.memories m)) k
  given_up p (Hop n) k = refl
  given_up p (Pool n) k = refl

  answered_up : (p : Plan) (last : Option Entry) → IsAskSettled p h e.position e.what last → MatchOption last (Unit {0}) (λ a. IsTrue (not (asks p a) || (is_grant e.what || all_given p.platform a.object before)))
  answered_up p None is = tt
  answered_up p (Some a) is = by_ask (asks p a) is
    where
      by_ask : (b : Bool) → (IsTrue b → IsTrue (is_grant e.what) ⊎ KnowsAllGiven p h e.position a.object) → IsTrue (not b || (is_grant e.what || all_given p.platform a.object before))
      by_ask false f = refl
      by_ask true f =
          ⊎_elim
          (λ (grant : IsTrue (is_grant e.what)). or_left (is_grant e.what) (all_given p.platform a.object before) grant)
          (λ (all : KnowsAllGiven p h e.position a.object). or_right (is_grant e.what) (all_given p.platform a.object before) (given_up p a.object all))
          (f refl)

  -- a use, by the own entries and by what the gates tell
  use_way : (p : Plan) (i : Initiator) (r : Request) (access : Access) (status : Response) (way : Way) → ((c : Entry) (g : ℕ) → Has h c → IsTrue (is_way_of g way) → IsTrue (closes g c.what) → e.position < c.position) → IsOwnUseOf way p (own e.txn.initiator before) access status i r → IsUseOf way p before e access status i r
  use_way p i r access status (Direct g) last is =
      let found = has_any (λ (x : Entry). gives g x.what && serves p.platform i x r.address access) (own e.txn.initiator before) is.2 in (
        is.0,
        is.1,
        any_has (λ (x : Entry). gives g x.what && serves p.platform i x r.address access) before found.0 (has_kept (λ (x : Entry). nat_eq x.txn.initiator e.txn.initiator) before found.0 found.1).0 found.2,
        any_none (λ (c : Entry). closes g c.what) before (λ c has closing. let late = last c g (part.up c has) (eq-eqb g g refl) closing in let early = part.below c has in omega (arith, late, early)),
      )
  use_way p i r access status Blocking last is = tt
  use_way p i r access status FourPhase last is = tt
  use_way p i r access status Debug last is = tt

  use_up : (p : Plan) (i : Initiator) (r : Request) (w : What) → ((c : Entry) (g : ℕ) → Has h c → IsTrue (uses_gate g w) → IsTrue (closes g c.what) → e.position < c.position) → IsOwnUse w p (own e.txn.initiator before) i r → IsUse w p before e i r
  use_up p i r (Accessed way access status got) last is = use_way p i r access status way last is
  use_up p i r w last is = tt

  way_up : (p : Plan) (i : Initiator) (r : Request) (w : What) → i.number ≡ e.txn.initiator → HasOwnWay w p h e.position (own e.txn.initiator before) i r → HasDirectWay w p before i r
  way_up p i r (Accessed way access status got) number is = by_way (is_direct_way way) (may_go_direct i r.seq) is
    where
      served : (x : Entry) → Has before x → ((x : Entry) → Has (own e.txn.initiator before) x → IsTrue (serves p.platform i x r.address access) → Knows h e.position (λ y. is_cut_by x y)) → (b : Bool) → serves p.platform i x r.address access ≡ b → (not b || list_any (is_cut_by x) before) ≡ true
      served x has cuts false other = refl
      served x has cuts true holds =
          let owner = and_parts (nat_eq x.txn.initiator i.number) (serves_by p.platform i x.object x.what r.address access) holds in
          known_any (is_cut_by x) (cuts x (kept_has (λ (x : Entry). nat_eq x.txn.initiator e.txn.initiator) before x has (subst (λ (n : ℕ). nat_eq x.txn.initiator n ≡ true) number owner.0)) holds)

      by_way : (d m : Bool) → (d ≡ false → IsTrue m → (x : Entry) → Has (own e.txn.initiator before) x → IsTrue (serves p.platform i x r.address access) → Knows h e.position (λ y. is_cut_by x y)) → IsTrue (d || (not m || list_all (λ x. not (serves p.platform i x r.address access) || list_any (is_cut_by x) before) before))
      by_way true m f = refl
      by_way false false f = refl
      by_way false true f = all_has (λ (x : Entry). not (serves p.platform i x r.address access) || list_any (is_cut_by x) before) before (λ x has. served x has (f refl refl) (serves p.platform i x r.address access) refl)
  way_up p i r w number is = tt

  closing_up : (w : What) → IsOwnClosing h (own e.txn.initiator before) e w → IsClosing before e w
  closing_up (Closed gate) is =
      let grant = is.4 in
      let parts = and_parts (gives gate grant.0.what) (is_cut_by grant.0 is.0) grant.3 in
      any_has (λ (x : Entry). gives gate x.what && list_any (λ y. is_txn y.txn.initiator y.txn.seq e.txn && is_cut_by x y) before) before grant.0 (part.back grant.0 grant.1 grant.2)
      (and_from (gives gate grant.0.what) (list_any (λ y. is_txn y.txn.initiator y.txn.seq e.txn && is_cut_by grant.0 y) before) parts.0
      (any_has (λ (y : Entry). is_txn y.txn.initiator y.txn.seq e.txn && is_cut_by grant.0 y) before is.0 (has_kept (λ (x : Entry). nat_eq x.txn.initiator e.txn.initiator) before is.0 is.1).0
      (and_from (is_txn is.0.txn.initiator is.0.txn.seq e.txn) (is_cut_by grant.0 is.0) is.2 parts.1)))
  closing_up w is = tt

-- an invalidation is what overlaps
cut_is : (v w : What) → is_overlapped v w ≡ true → is_invalidation w ≡ true
cut_is (Granted gate first last k) w is = by_what w is
  where
    by_what : (w : What) → meets first last w ≡ true → is_invalidation w ≡ true
    by_what (Accessed way a s got) is = cc
    by_what (Granted g f l k) is = cc
    by_what (Invalidated low high) is = refl
    by_what (Closed g) is = cc
    by_what (Call c a) is = cc
    by_what (Take s) is = cc
    by_what (Acquire s) is = cc
    by_what (Release s f) is = cc
cut_is (Accessed way a s got) w is = cc
cut_is (Invalidated low high) w is = cc
cut_is (Closed g) w is = cc
cut_is (Call c a) w is = cc
cut_is (Take s) w is = cc
cut_is (Acquire s) w is = cc
cut_is (Release s f) w is = cc

pub record Cut (x y : Entry) : Type 0 where
  pub later : x.position < y.position
  pub object : is_object y.object x.object ≡ true
  pub invalidation : is_invalidation y.what ≡ true

pub cut_parts : (x y : Entry) → is_cut_by x y ≡ true → Cut x y
cut_parts x y is =
    let a = and_parts (nat_lt x.position y.position) (is_object x.object y.object && is_overlapped x.what y.what) is in
    let b = and_parts (is_object x.object y.object) (is_overlapped x.what y.what) a.1 in
    record {
      later = ltb-true x.position y.position a.0;
      object = subst (λ (o : ObjectNo). is_object o x.object ≡ true) (same_object x.object y.object b.0) (object_itself x.object);
      invalidation = cut_is x.what y.what b.1;
    }

-- a grant that a returned invalidation overlaps is closed
pub closed_by : (h : List Entry) (limit : ℕ) (x y : Entry) → IsNumbered h → Has h x → is_cut_by x y ≡ true → HasReturned h limit y → KnowsClosing h limit x.what
closed_by h limit x y numbered has cut returned =
    let c = cut_parts x y cut in
    let rising = IsRising-filter (λ (e : Entry). is_object y.object e.object) (λ (e : Entry). e.position) h (numbered_rises 0 h numbered) in
    returned.closed x
    (rising_front returned.log y returned.rest x (subst (IsRising (λ (e : Entry). e.position)) returned.log_is rising) (subst (λ (l : List Entry). Has l x) returned.log_is (kept_has (λ (e : Entry). is_object y.object e.object) h x has c.object)) c.later)
    cut

closing_has : (h before : List Entry) (limit : ℕ) (w : What) → ((x : Entry) → Has h x → x.position < limit → Has before x) → KnowsClosing h limit w → has_closing w before ≡ true
closing_has h before limit (Granted gate f l k) back known = any_has (λ (z : Entry). closes gate z.what) before known.0 (back known.0 known.1 known.2) known.3
closing_has h before limit w back known = refl

-- where all that pass a test have returned
pub returned_up : (h before : List Entry) (limit : ℕ) (test : Entry → Bool) → IsNumbered h → ((x : Entry) → Has before x → Has h x) → ((x : Entry) → Has h x → x.position < limit → Has before x) → ((y : Entry) → Has before y → test y ≡ true → is_invalidation y.what ≡ true → HasReturned h limit y) → have_returned test before ≡ true
returned_up h before limit test numbered up back returned =
    all_has (λ (x : Entry). list_all (λ y. not (test y && is_cut_by x y) || has_closing x.what before) before) before (λ x has.
    all_has (λ (y : Entry). not (test y && is_cut_by x y) || has_closing x.what before) before (λ y there. by_test x y has there (test y && is_cut_by x y) refl))
  where
    by_test : (x y : Entry) → Has before x → Has before y → (b : Bool) → (test y && is_cut_by x y) ≡ b → (not b || has_closing x.what before) ≡ true
    by_test x y has there false other = refl
    by_test x y has there true holds =
        let t = and_parts (test y) (is_cut_by x y) holds in
        closing_has h before limit x.what back (closed_by h limit x y numbered (up x has) t.1 (returned y there t.0 (cut_parts x y t.1).invalidation))

-- an entry of a request, by its initiator's own entries
module _ (p : Plan) (before : List Entry) (e : Entry) (Q R : Initiator → Request → Type 0) (up : (i : Initiator) (r : Request) → i.number ≡ e.txn.initiator → Q i r → R i r) where
  request_up : (i : Initiator) → i.number ≡ e.txn.initiator → (r : Option Request) → MatchOption r ⊥ (λ r. Q i r) → MatchOption r ⊥ (λ r. R i r)
  request_up i number None of = of
  request_up i number (Some r) of = up i r number of

  of_up : OfRequest p (own e.txn.initiator before) e Q → OfRequest p before e R
  of_up of = by_initiator (slice_get (initiators_of p) e.txn.initiator) refl of
    where
      with_number : (i : Initiator) → i.number ≡ e.txn.initiator → MatchOption (slice_get (requests_of p.platform i (own e.txn.initiator before)) e.txn.seq) ⊥ (λ r. Q i r) → MatchOption (slice_get (requests_of p.platform i before) e.txn.seq) ⊥ (λ r. R i r)
      with_number i number of =
          request_up i number (slice_get (requests_of p.platform i before) e.txn.seq)
          (subst (λ (rs : List Request). MatchOption (slice_get rs e.txn.seq) ⊥ (λ r. Q i r)) (sym (own_is_enough p.platform i before).requests)
          (subst (λ (n : ℕ). MatchOption (slice_get (requests_of p.platform i (own n before)) e.txn.seq) ⊥ (λ r. Q i r)) (sym number) of))

      by_initiator : (o : Option Initiator) → slice_get (initiators_of p) e.txn.initiator ≡ o → MatchOption o ⊥ (λ i. MatchOption (slice_get (requests_of p.platform i (own e.txn.initiator before)) e.txn.seq) ⊥ (λ r. Q i r)) → MatchOption o ⊥ (λ i. MatchOption (slice_get (requests_of p.platform i before) e.txn.seq) ⊥ (λ r. R i r))
      by_initiator None at of = of
      by_initiator (Some i) at of = with_number i (omega (arith, (initiator_from 0 p.platform.initiators p.scripts e.txn.initiator i at).0)) of

pub owner_below : (p : Plan) (h : List Entry) → HasOwners p h → (e : Entry) → Has h e → e.txn.initiator < length (initiators_of p)
owner_below p [] owners e has = absurd (has_none e has)
owner_below p (x ∷ h) owners e has =
    ⊎_elim (λ (same : x ≡ e). subst (λ (y : Entry). y.txn.initiator < length (initiators_of p)) same owners.0) (λ (other : Has h e). owner_below p h owners.1 e other) (has_first x h e has)

module _ (p : Plan) (h : List Entry) (k : KeepsRequests p h) (owners : HasOwners p h) (parts : HasGrantParts p h) where
  part_of : (before : List Entry) (e : Entry) (rest : List Entry) → h ≡ before ++ e ∷ rest → Parted h before e
  part_of before e rest is = parted h before e rest k.numbered is

  own_part : (before : List Entry) (e : Entry) (rest : List Entry) → h ≡ before ++ e ∷ rest → KeepsOwnGrants p h (own e.txn.initiator h)
  own_part before e rest is = parts.initiators e.txn.initiator (owner_below p h owners e (part_of before e rest is).here)

  -- what holds of an initiator's own entries at this one
  own_at : (P : List Entry → Entry → Type 0) (before : List Entry) (e : Entry) (rest : List Entry) → h ≡ before ++ e ∷ rest → AtEach P (own e.txn.initiator h) → P (own e.txn.initiator before) e
  own_at P before e rest is each = at_part P (λ (x : Entry). nat_eq x.txn.initiator e.txn.initiator) h before e rest is (eq-eqb e.txn.initiator e.txn.initiator refl) each

  placed : (x : Entry) → Has h x → IsPlaced p.platform x.txn.initiator x.object x.what
  placed x has = each_has (λ (x : Entry). IsPlaced p.platform x.txn.initiator x.object x.what) [] h k.scripts.places x has

  no_gates : (before : List Entry) (i : ℕ) (o : ObjectNo) (w : What) → ((m : ℕ) → o ≡ Memory m → IsGateInOrder before (Memory m) w) → IsPlaced p.platform i o w → IsGateInOrder before o w
  no_gates before i (Memory m) w at there = at m refl
  no_gates before i o (Granted gate f l d) at there = absurd there
  no_gates before i o (Closed gate) at there = absurd there
  no_gates before i o w at there = tt

  no_wholes : (o : ObjectNo) (w : What) → ((m : ℕ) → o ≡ Memory m → GrantsAll p (Memory m) w) → GrantsAll p o w
  no_wholes (Memory m) w at = at m refl
  no_wholes (Hop n) w at = tt
  no_wholes (Pool n) w at = tt

  at_memory : (P : List Entry → Entry → Type 0) (before : List Entry) (e : Entry) (rest : List Entry) (m : ℕ) → h ≡ before ++ e ∷ rest → e.object ≡ Memory m → AtEach P (entries_at (Memory m) h) → P (entries_at (Memory m) before) e
  at_memory P before e rest m is at each =
      at_part P (λ (x : Entry). is_object (Memory m) x.object) h before e rest is (subst (λ (o : ObjectNo). is_object (Memory m) o ≡ true) (sym at) (object_itself (Memory m))) each

  gates_here : (before : List Entry) (e : Entry) (rest : List Entry) → h ≡ before ++ e ∷ rest → IsGateInOrder before e.object e.what
  gates_here before e rest is =
      let part = part_of before e rest is in
      no_gates before e.txn.initiator e.object e.what
      (λ m at. gates_up p.platform before (λ x has. placed x (part.up x has)) e.txn.initiator (Memory m) e.what
      (subst (λ (o : ObjectNo). IsPlaced p.platform e.txn.initiator o e.what) at (placed e part.here))
      (subst (λ (o : ObjectNo). IsGateInOrder (entries_at (Memory m) before) o e.what) at (at_memory (λ b e. IsGateInOrder b e.object e.what) before e rest m is at (parts.memories m).gates)))
      (placed e part.here)

  pub whole_keeps : KeepsGrants p h
  whole_keeps = record {
    gates = at_each (λ before e. IsGateInOrder before e.object e.what) h gates_here;
    wholes = at_each (λ before e. GrantsAll p e.object e.what) h (λ before e rest is. no_wholes e.object e.what (λ m at.
        subst (λ (o : ObjectNo). GrantsAll p o e.what) at (at_memory (λ b e. GrantsAll p e.object e.what) before e rest m is at (parts.memories m).wholes)));
    asked = at_each (λ before e. IsAskedFor p before e e.what) h (λ before e rest is.
        asked_up p before e e.what (own_at (λ b e. IsAskedFor p b e e.what) before e rest is (own_part before e rest is).asked));
    answered = at_each (λ before e. IsGivenGrant p before e) h (λ before e rest is.
        subst (λ (o : Option Entry). MatchOption o (Unit {0}) (λ a. IsTrue (not (asks p a) || (is_grant e.what || all_given p.platform a.object before)))) (sym (last_of-own e.txn.initiator before))
        (answered_up h before e (part_of before e rest is) p (last_of e.txn.initiator (own e.txn.initiator before)) (own_at (λ b e. IsAskSettled p h e.position e.what (last_of e.txn.initiator b)) before e rest is (own_part before e rest is).answered)));
    uses = at_each (λ before e. OfRequest p before e (λ i r. IsUse e.what p before e i r)) h (λ before e rest is.
        let part = part_of before e rest is in
        of_up p before e (λ i r. IsOwnUse e.what p (own e.txn.initiator before) i r) (λ i r. IsUse e.what p before e i r)
        (λ i r number used. use_up h before e part p i r e.what (λ c g has uses closing. parts.last e c g part.here has uses closing) used)
        (own_at (λ b e. OfRequest p b e (λ i r. IsOwnUse e.what p b i r)) before e rest is (own_part before e rest is).uses));
    ways = at_each (λ before e. OfRequest p before e (λ i r. HasDirectWay e.what p before i r)) h (λ before e rest is.
        let part = part_of before e rest is in
        of_up p before e (λ i r. HasOwnWay e.what p h e.position (own e.txn.initiator before) i r) (λ i r. HasDirectWay e.what p before i r)
        (λ i r number way. way_up h before e part p i r e.what number way)
        (own_at (λ b e. OfRequest p b e (λ i r. HasOwnWay e.what p h e.position b i r)) before e rest is (own_part before e rest is).ways));
    closings = at_each (λ before e. IsClosing before e e.what) h (λ before e rest is.
        closing_up h before e (part_of before e rest is) e.what (own_at (λ b e. IsOwnClosing h b e e.what) before e rest is (own_part before e rest is).closings));
    returns = at_each (λ before e. IsTrue (have_returned (λ y. is_earlier y e) before)) h (λ before e rest is.
        let part = part_of before e rest is in
        returned_up h before e.position (λ y. is_earlier y e) k.numbered part.up part.back (λ y has earlier invalidates.
        let mine = kept_has (λ (x : Entry). nat_eq x.txn.initiator e.txn.initiator) before y has (and_parts (nat_eq y.txn.initiator e.txn.initiator) (nat_lt y.txn.seq e.txn.seq) earlier).0 in
        own_at (λ b e. EarlierReturned h b e) before e rest is (own_part before e rest is).returns y mine invalidates earlier));
  }

pub parts_keep_grants : PartsKeepGrants
parts_keep_grants p h k owners parts = whole_keeps p h k owners parts
