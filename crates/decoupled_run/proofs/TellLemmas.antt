-- What the next own entry of a direct initiator owes to a history of grants.
use Rattle.std.proofs.Common.{◌≡◌, ℕ, ◌+◌, ◌-◌, ◌<◌, ◌≤◌, ◌==◌, ◌&&◌, Bool, true, false, List, map, Option, Some, None, slice_get, refl, ap, sym, subst, ◌∙◌, inl, inr, arith}
use Rattle.std.specs.Prelude.{IsTrue, IsSomeAnd, MatchOption, nat_le}
use Rattle.std.proofs.lemmas.Bool.{and_from, and_parts, eq-eqb, eqb-true, le-leb, leb-true}
use Rattle.std.proofs.lemmas.Grind.{common_steps}
use Rattle.std.proofs.lemmas.Option.{MatchOption-at_some}
use Rattle.view_lists.specs.Lists.{Has}
use Rattle.view_lists.proofs.Members.{has_map}
use Rattle.one_history.specs.declared.view.Frame.{Frame}
use Rattle.one_history.specs.declared.view.View.{View}
use Rattle.one_history.specs.Lists.{StandBelow}
use Rattle.tlm_types.specs.declared.entry.Access.{Access}
use Rattle.tlm_types.specs.declared.entry.Content.{Content}
use Rattle.tlm_types.specs.declared.entry.Entry.{Entry}
use Rattle.tlm_types.specs.declared.entry.What.{What}
use Rattle.tlm_types.specs.declared.entry.What.TheVariants.{Access as Accessed, Granted}
use Rattle.tlm_types.specs.declared.words.Command.{Command}
use Rattle.tlm_types.specs.declared.words.Kind.{Kind}
use Rattle.tlm_types.specs.declared.words.ObjectNo.TheVariants.{Memory}
use Rattle.tlm_types.specs.declared.words.Response.{Response}
use Rattle.tlm_types.specs.declared.words.Response.TheVariants.{Ok}
use Rattle.tlm_types.specs.declared.words.Way.{Way}
use Rattle.tlm_types.specs.declared.words.Way.TheVariants.{Blocking, Debug, FourPhase, Direct as by_grant}
use Rattle.tlm_model.specs.History.{is_object}
use Rattle.tlm_model.specs.Plan.{Plan, Initiator, initiators_of}
use Rattle.tlm_model.specs.Requests.{Request, is_txn}
use Rattle.tlm_model.specs.Route.{Route as RouteOfModel, route_of}
use Rattle.good_history.specs.Grants.{allows, asks, gives, is_inside, last_of, serves}
use Rattle.good_history.specs.Kept.{IsAskedFor, is_direct_way}
use Rattle.good_history.specs.Plain.{may_go_direct}
use Rattle.joined_traffic.specs.Finding.{AreAddressesOf as AreLed}
use Rattle.joined_traffic.specs.Growing.{TellsNext}
use Rattle.joined_traffic.specs.Parts.{EarlierReturned, HasOwnWay, IsAskSettled, IsOwnClosing, IsOwnUse, IsOwnUseOf, KnowsAllGiven}
use Rattle.joined_traffic.proofs.Finding.{covers_what_serves}
use Rattle.joined_traffic.proofs.Lists.{any_has}
use Rattle.joined_traffic.proofs.Tables.{none_found}
use Rattle.region_object.specs.Grants.{allows as allows_at}
use Rattle.route_plan.specs.declared.step.Route.{Route}
use Rattle.initiator_run.specs.Access.{IsRouteOf, model_route}
use Rattle.initiator_run.proofs.RouteLemmas.{routed, unrouted}
use Rattle.plat_net.specs.Calls.{route_at}
use Rattle.dmi_grants.specs.declared.table.Held.{Held}
use Rattle.dmi_grants.specs.Ranges.{AreAddressesOf}
use Rattle.dmi_grants.specs.Table.{TableView, covers, granted_by}
use Rattle.decoupled_run.specs.Job.{AreBelow, AsksNothing, HasAllOf, HoldsGrants, IsHeldGrant}
use Rattle.decoupled_run.specs.Known.{known_to}
use Rattle.decoupled_run.proofs.EntryLemmas.{IsFor, of_request}
use Rattle.decoupled_run.proofs.KnownLemmas.{given_on, read_below}

-- where an address of an initiator leads, in both ways of saying it
record IsLed (p : Plan) (i : Initiator) (a : ℕ) (found : Option Route) : Type 0 where
  some : (route : Route) → found ≡ Some route → route_of p.platform i a ≡ Some (model_route route)
  none : found ≡ None → route_of p.platform i a ≡ None

led_by : (p : Plan) (i : Initiator) (a : ℕ) (found : Option Route) → slice_get (initiators_of p) i.number ≡ Some i → found ≡ route_at p i.number a → IsLed p i a found
led_by p i a None mine is = record {
  some = λ route wrong. absurd (cc (wrong));
  none = λ same. MatchOption-at_some ⊥ (λ (x : Initiator). route_of p.platform x a ≡ None) i mine (unrouted p i.number i.number a a i refl refl mine is);
}
led_by p i a (Some route) mine is = record {
  some = λ other same.
      let here = MatchOption-at_some ⊥ (λ (x : Initiator). IsRouteOf p x a route) i mine (routed p i.number i.number a a i route refl refl mine is) in
      here.leads ∙ ap (λ (x : Route). Some (model_route x)) (one route other same);
  none = λ wrong. absurd (cc (wrong));
}
  where
    one : (x y : Route) → Some x ≡ Some y → x ≡ y
    one x y same = cc

pub led_to : (p : Plan) (i : Initiator) (a : ℕ) (route : Route) → slice_get (initiators_of p) i.number ≡ Some i → route_at p i.number a ≡ Some route → route_of p.platform i a ≡ Some (model_route route)
led_to p i a route mine is = (led_by p i a (Some route) mine (sym is)).some route refl

-- the addresses of a grant that is held are those that lead into its range
led_inside : (p : Plan) (i : Initiator) (h : Held) (a : ℕ) (o : Option Route) → route_at p i.number a ≡ o → slice_get (initiators_of p) i.number ≡ Some i
    → IsSomeAnd o (λ (r : Route). (r.memory ≡ h.memory) × (r.offset ≡ h.base + (a - h.low))) → h.first ≤ h.base → h.base + (h.high - h.low) ≤ h.last → h.low ≤ a → a ≤ h.high
    → is_inside (route_of p.platform i a) (Memory h.memory) h.first h.last ≡ true
led_inside p i h a None is mine some from to low high = absurd some
led_inside p i h a (Some r) is mine some from to low high =
    let leads = (led_by p i a (Some r) mine (sym is)).some r refl in
    let offset = some.1 in
    ap (λ (o : Option RouteOfModel). is_inside o (Memory h.memory) h.first h.last) leads
    ∙ and_from (h.memory == r.memory) (nat_le h.first r.offset && nat_le r.offset h.last) (eq-eqb h.memory r.memory (sym some.0))
    (and_from (nat_le h.first r.offset) (nat_le r.offset h.last) (le-leb h.first r.offset (omega arith)) (le-leb r.offset h.last (omega arith)))

led_others : (p : Plan) (i : Initiator) (h : Held) (a : ℕ) (o : Option Route) → route_at p i.number a ≡ o → slice_get (initiators_of p) i.number ≡ Some i
    → ((r : Route) → o ≡ Some r → r.memory ≡ h.memory → h.first ≤ r.offset → r.offset ≤ h.last → (h.low ≤ a) × (a ≤ h.high))
    → is_inside (route_of p.platform i a) (Memory h.memory) h.first h.last ≡ true → (h.low ≤ a) × (a ≤ h.high)
led_others p i h a None is mine others inside =
    let nowhere = (led_by p i a None mine (sym is)).none refl in
    let wrong : false ≡ true = sym (ap (λ (o : Option RouteOfModel). is_inside o (Memory h.memory) h.first h.last) nowhere) ∙ inside in
    absurd (cc (wrong))
led_others p i h a (Some r) is mine others inside =
    let leads = (led_by p i a (Some r) mine (sym is)).some r refl in
    let here = sym (ap (λ (o : Option RouteOfModel). is_inside o (Memory h.memory) h.first h.last) leads) ∙ inside in
    let x = and_parts (h.memory == r.memory) (nat_le h.first r.offset && nat_le r.offset h.last) here in
    let y = and_parts (nat_le h.first r.offset) (nat_le r.offset h.last) x.1 in
    others r refl (sym (eqb-true h.memory r.memory x.0)) (leb-true h.first r.offset y.0) (leb-true r.offset h.last y.1)

pub are_led : (p : Plan) (i : Initiator) (h : Held) → slice_get (initiators_of p) i.number ≡ Some i → AreAddressesOf p i.number h.memory h.first h.last h.low h.high h.base → h.first ≤ h.base → h.base + (h.high - h.low) ≤ h.last
    → AreLed p.platform i (granted_by h) h.low h.high
are_led p i h mine are from to = record {
  led = λ a low high. led_inside p i h a (route_at p i.number a) refl mine (are.led a low high) from to low high;
  others = λ a inside. led_others p i h a (route_at p i.number a) refl mine (λ r is memory first last. are.others a r is memory first last) inside;
}

allows_same : (k : Kind) (c : Command) → allows_at k c ≡ allows k c
allows_same k c = grind (arith, common_steps)

-- a grant that is held covers an access just where its entry serves it
pub serves_is : (frame : Frame Plan) (i : Initiator) (v : View Content Plan) (mine : List Entry) (h : Held) (a : ℕ) (access : Access) → slice_get (initiators_of frame.world) i.number ≡ Some i → IsHeldGrant frame i v mine h → h.txn.initiator ≡ i.number → 0 < access.length
    → serves frame.world.platform i (granted_by h) a access ≡ covers a access.length access.command h
serves_is frame i v mine h a access own_number held owner some =
    sym (covers_what_serves frame.world.platform i (granted_by h) h.low h.high a access (are_led frame.world i h own_number held.addresses held.usable.inside.0 held.usable.inside.1) owner some)
    ∙ ap (λ (b : Bool). b && (nat_le h.low a && nat_le (a + access.length) (h.high + 1))) (sym (allows_same h.kind access.command))

no_use : (way : Way) (p : Plan) (mine : List Entry) (access : Access) (status : Response) (i : Initiator) (r : Request) → is_direct_way way ≡ false → IsOwnUseOf way p mine access status i r
no_use Blocking p mine access status i r other = tt
no_use FourPhase p mine access status i r other = tt
no_use Debug p mine access status i r other = tt
no_use (by_grant g) p mine access status i r other = absurd (let wrong : true ≡ false = other in cc)

module _ (frame : Frame Plan) (i : Initiator) (v : View Content Plan) (mine : List Entry) (t : TableView) (own_number : slice_get (initiators_of frame.world) i.number ≡ Some i) (owners : (e : Entry) → Has mine e → e.txn.initiator ≡ i.number) (below : StandBelow v.known v.seen) (holds : HoldsGrants frame i v mine t)
    (e : Entry) (r : Request) (is : IsFor frame.world i mine r e) (own : e.txn.initiator ≡ i.number) (late : v.seen ≤ e.position) (h : List Entry) (has_all : HasAllOf frame.world v h) where
  abbrev p : Plan
  p = frame.world

  early : AreBelow (known_to p v) e.position
  early x has = let b = read_below p.platform v.known v.seen below x has in omega arith

  settled_by : (w : What) (o : Option Entry) → MatchOption o (Unit {0}) (λ a. IsTrue (asks p a) → KnowsAllGiven p (known_to p v) v.seen a.object) → IsAskSettled p h e.position w o
  settled_by w None nothing = tt
  settled_by w (Some a) nothing = λ ask. inr (given_on p (known_to p v) h v.seen e.position a.object has_all.within early (nothing ask))

  settled : AsksNothing p i v mine → IsAskSettled p h e.position e.what (last_of e.txn.initiator mine)
  settled nothing = subst (λ (n : ℕ). IsAskSettled p h e.position e.what (last_of n mine)) (sym own) (settled_by e.what (last_of i.number mine) nothing)

  returns : EarlierReturned h mine e
  returns = λ y has invalidates earlier. holds.returned h e.position has_all early y has invalidates

  -- no grant that is held covers the access
  abbrev NoneCovers : Access → Type 0
  NoneCovers access = IsTrue (may_go_direct i r.seq) → (0 < access.length) × ((y : Held) → Has t.held y → covers r.address access.length access.command y ≡ false)

  none_serves : (access : Access) → 0 < access.length → ((y : Held) → Has t.held y → covers r.address access.length access.command y ≡ false) → (x : Entry) → Has (map granted_by t.held) x → serves p.platform i x r.address access ≡ false
  none_serves access some none x has =
      let y = has_map granted_by t.held x has in
      let held = holds.held y.0 y.1 in
      ap (λ (z : Entry). serves p.platform i z r.address access) (sym y.2)
      ∙ (serves_is frame i v mine y.0 r.address access own_number held (owners (granted_by y.0) held.own) some ∙ none y.0 y.1)

  own_way : (way : Way) (access : Access) (status : Response) (got : List ℕ) → NoneCovers access → HasOwnWay (Accessed way access status got) p h e.position mine i r
  own_way way access status got none = λ other plain x has serving.
      let n = none plain in
      none_found h e.position mine (map granted_by t.held) p.platform i r.address access (holds.table h e.position has_all early) (none_serves access n.0 n.1) x has serving

  -- an access that isn't direct
  pub tells_access : (way : Way) (access : Access) (status : Response) (got : List ℕ) → AsksNothing p i v mine → e.what ≡ Accessed way access status got → is_direct_way way ≡ false → NoneCovers access → TellsNext p h mine e
  tells_access way access status got nothing what other none = record {
    asked = subst (λ (w : What). IsAskedFor p mine e w) (sym what) tt;
    answered = settled nothing;
    uses = of_request p mine e (λ i r. IsOwnUse e.what p mine i r) i r is (subst (λ (w : What). IsOwnUse w p mine i r) (sym what) (no_use way p mine access status i r other));
    ways = of_request p mine e (λ i r. HasOwnWay e.what p h e.position mine i r) i r is (subst (λ (w : What). HasOwnWay w p h e.position mine i r) (sym what) (own_way way access status got none));
    closings = subst (λ (w : What). IsOwnClosing h mine e w) (sym what) tt;
    returns = returns;
  }

  -- a direct access by a grant that is held
  pub tells_direct : (y : Held) (access : Access) (got : List ℕ) → AsksNothing p i v mine → Has t.held y → e.what ≡ Accessed (by_grant y.gate) access Ok got → IsTrue (may_go_direct i r.seq) → 0 < access.length → covers r.address access.length access.command y ≡ true → TellsNext p h mine e
  tells_direct y access got nothing has what plain some covered =
      let held = holds.held y has in
      let test = λ (x : Entry). gives y.gate x.what && serves p.platform i x r.address access in
      let one : test (granted_by y) ≡ true = and_from (gives y.gate (Granted y.gate y.first y.last y.kind)) (serves p.platform i (granted_by y) r.address access) (eq-eqb y.gate y.gate refl) (serves_is frame i v mine y r.address access own_number held (owners (granted_by y) held.own) some ∙ covered) in
      record {
        asked = subst (λ (w : What). IsAskedFor p mine e w) (sym what) tt;
        answered = settled nothing;
        uses = of_request p mine e (λ i r. IsOwnUse e.what p mine i r) i r is (subst (λ (w : What). IsOwnUse w p mine i r) (sym what) (plain, refl, any_has test mine (granted_by y) held.own one));
        ways = of_request p mine e (λ i r. HasOwnWay e.what p h e.position mine i r) i r is (subst (λ (w : What). HasOwnWay w p h e.position mine i r) (sym what) (λ other plain x has serving. absurd (let wrong : true ≡ false = other in cc)));
        closings = subst (λ (w : What). IsOwnClosing h mine e w) (sym what) tt;
        returns = returns;
      }

  -- the grant that the last access asked for
  pub tells_grant : (a : Entry) (gate first last : ℕ) (kind : Kind) → e.what ≡ Granted gate first last kind → last_of i.number mine ≡ Some a → IsTrue (asks p a) → a.txn ≡ e.txn → is_object a.object e.object ≡ true → TellsNext p h mine e
  tells_grant a gate first last kind what last_is ask txn same = record {
    asked = subst (λ (w : What). IsAskedFor p mine e w) (sym what)
        (subst (λ (n : ℕ). MatchOption (last_of n mine) ⊥ (λ a. IsTrue (asks p a && (is_txn a.txn.initiator a.txn.seq e.txn && is_object a.object e.object)))) (sym own)
        (subst (λ (o : Option Entry). MatchOption o ⊥ (λ a. IsTrue (asks p a && (is_txn a.txn.initiator a.txn.seq e.txn && is_object a.object e.object)))) (sym last_is)
        (and_from (asks p a) (is_txn a.txn.initiator a.txn.seq e.txn && is_object a.object e.object) ask
        (and_from (is_txn a.txn.initiator a.txn.seq e.txn) (is_object a.object e.object)
        (and_from (e.txn.initiator == a.txn.initiator) (e.txn.seq == a.txn.seq) (eq-eqb e.txn.initiator a.txn.initiator (ap (λ x. x.initiator) (sym txn))) (eq-eqb e.txn.seq a.txn.seq (ap (λ x. x.seq) (sym txn)))) same))));
    answered = subst (λ (w : What). IsAskSettled p h e.position w (last_of e.txn.initiator mine)) (sym what) (granted (last_of e.txn.initiator mine));
    uses = of_request p mine e (λ i r. IsOwnUse e.what p mine i r) i r is (subst (λ (w : What). IsOwnUse w p mine i r) (sym what) tt);
    ways = of_request p mine e (λ i r. HasOwnWay e.what p h e.position mine i r) i r is (subst (λ (w : What). HasOwnWay w p h e.position mine i r) (sym what) tt);
    closings = subst (λ (w : What). IsOwnClosing h mine e w) (sym what) tt;
    returns = returns;
  }
    where
      granted : (o : Option Entry) → IsAskSettled p h e.position (Granted gate first last kind) o
      granted None = tt
      granted (Some a) = λ ask. inl refl
