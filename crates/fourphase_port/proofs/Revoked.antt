-- A port that makes the invalidation that is next is a port afterwards.
use Rattle.std.proofs.Common.{◌≡◌, ℕ, zero, suc, ◌+◌, ◌<◌, ◌≤◌, Bool, true, false, IsTrue, IsSome, cond, List, [], ◌∷◌, ◌++◌, length, get_or, Option, Some, None, refl, sym, ap, ◌∙◌, subst, inl, inr, eq-eqb, arith}
use Rattle.std.specs.Prelude.{is_some, slice_get}
use Rattle.std.specs.List.{range_with_len}
use Rattle.std.proofs.lemmas.Bool.{and_from, cases_eq}
use Rattle.std.proofs.lemmas.Grind.{common_steps}
use Rattle.std.proofs.lemmas.List.{append-nil}
use Rattle.std.proofs.lemmas.List.FromFn.{length-range_with_len}
use Rattle.atomic_table.specs.Seated.{TableId}
use Rattle.view_lists.specs.Lists.{Has, Within}
use Rattle.view_lists.proofs.Members.{has_later, has_map, has_none}
use Rattle.one_history.specs.Held.{Held}
use Rattle.one_history.specs.Lists.{StandBelow}
use Rattle.one_history.specs.declared.entry.Entry.{Entry as HistoryEntry}
use Rattle.one_history.specs.declared.view.Frame.{Frame}
use Rattle.one_history.specs.declared.view.View.{View}
use Rattle.shared_object.specs.Steps.{IsNote}
use Rattle.tlm_types.specs.declared.entry.Content.{Content}
use Rattle.tlm_types.specs.declared.entry.Entry.{Entry}
use Rattle.tlm_types.specs.declared.entry.What.{What}
use Rattle.tlm_types.specs.declared.entry.What.TheVariants.{Closed, Invalidated}
use Rattle.tlm_types.specs.declared.words.ObjectNo.{ObjectNo}
use Rattle.tlm_types.specs.declared.words.ObjectNo.TheVariants.{Memory}
use Rattle.tlm_types.specs.declared.words.TxnId.{TxnId}
use Rattle.tlm_model.specs.declared.platform.Platform.{Platform}
use Rattle.tlm_model.specs.History.{entries_at, is_object}
use Rattle.tlm_model.specs.Plan.{Plan, Initiator}
use Rattle.tlm_model.specs.declared.operation.Operation.{Operation}
use Rattle.tlm_model.specs.Requests.{Invalidation, Request, is_txn, requests_of}
use Rattle.tlm_model.specs.Route as model
use Rattle.tlm_model.specs.Route.{route_of}
use Rattle.tlm_model.specs.Scripts.{HasWay, IsEntryOf, IsPlaced, is_answer}
use Rattle.std.specs.FinMap as fin
use Rattle.std.specs.FinMap.{get-empty}
use Rattle.std.specs.Ordering.{nat_cmp}
use Rattle.token_book.specs.Pocket.{Pocket}
use Rattle.token_book.specs.Purse.{HasPlace, HasRoomForAll, IsOf, Purse, bytes_left_in, bytes_of, empty_purse, left_in, left_of}
use Rattle.flow_model.specs.Events.{Among, Event, Finds}
use Rattle.flow_model.specs.Platform.{passage_of}
use Rattle.joined_traffic.specs.Parts.{HasReturned, IsOwnClosing, is_invalidation}
use Rattle.good_history.proofs.CountLemmas.{IsRising-distinct, has_first}
use Rattle.route_plan.specs.declared.step.Route.{Route}
use Rattle.route_plan.specs.Planned.{is_routed_to, leads_to}
use Rattle.route_plan.specs.Plans.{walk_by}
use Rattle.route_plan.specs.Routes.{route_by}
use Rattle.cargo_model.specs.Known.{event_of, object_number, objects_of}
use Rattle.cargo_model.proofs.Origins.{is_self, only_object}
use Rattle.initiator_run.specs.Left.{bytes_left}
use Rattle.joined_traffic.specs.Accesses.{txn_of}
use Rattle.joined_traffic.specs.Issued.{IsMadeFor}
use Rattle.plat_net.specs.Calls.{route_at}
use Rattle.plat_net.proofs.NumberLemmas.{memory_number}
use Rattle.plat_net.proofs.ObjectLemmas.{memory_at, more_objects}
use Rattle.plat_net.proofs.WalkLemmas.{leads_to_memory}
use Rattle.dmi_grants.specs.Made.{IsRoomyFor}
use Rattle.dmi_grants.specs.Revoking.{IsEntryFor as IsEntryOfMemory}
use Rattle.dmi_grants.proofs.Revoking.{access_by, entry_made}
use Rattle.node_hops.specs.Steps.{HasNew, IsByPort}
use Rattle.node_hops.specs.Steps.IsByPort.{Accesses}
use Rattle.node_hops.proofs.News.{new_by, new_more}
use Rattle.region_object.specs.declared.call.RegionCall.TheVariants.{Invalidate}
use Rattle.region_object.specs.declared.call.RegionReply.TheVariants.{Invalidated as InvalidatedReply}
use Rattle.dmi_grants.specs.Known.{HasAllOf as HasAllKnown, position_of}
use Rattle.dmi_grants.specs.Telling.{HasAdded}
use Rattle.dmi_grants.proofs.Telling.{invalidation_adds}
use Rattle.port_model.specs.Closings.{HasAllOf, HaveReturned, IsClosingOf}
use Rattle.port_model.specs.Laws.{HasDoneAlone, HasSettled, IsEntryFor, KeepsTickets}
use Rattle.port_model.specs.Stages.{price}
use Rattle.port_model.specs.Way.{Port}
use Rattle.port_model.proofs.Alone.{invalidation_number, invalidation_passed}
use Rattle.port_model.proofs.NextInvalidation.{invalidates_here, next_asked, passes_none, price_here, q as request_of, tickets_here}
use Rattle.port_end.specs.Arrives.{events_of}
use Rattle.port_end.proofs.Arrives.{knows_more as events_more, stand_below as events_below}
use Rattle.script_engine.specs.declared.part.Part.TheVariants.{Invalidates}
use Rattle.script_engine.specs.Part.{is_fenced_part, part_of}
use Rattle.script_engine.specs.State.{Due, State, next_of, op_at, passed_by}
use Rattle.script_engine.proofs.States.{state}
use Rattle.fourphase_port.specs.Moves.{InvalidatesNext, last_place}
use Rattle.fourphase_port.specs.Pumps.{invalidation_moved}
use Rattle.port_moves.specs.Returned.{TakesAll, with_port}
use Rattle.fourphase_port.specs.Revoking.{MayRevoke, Revokes}
use Rattle.port_moves.specs.State.{GoesBack, IsInHand, IsPort, StateView, bytes_under, bytes_while, left_at, with_note}
use Rattle.port_moves.specs.declared.hand.Hand.{Hand}
use Rattle.port_moves.specs.declared.hand.Hand.TheVariants.{Free}
use Rattle.port_moves.specs.declared.hand.Moved.{Moved}
use Rattle.port_moves.specs.declared.hand.Pumped.TheVariants.{Did}
use Rattle.port_moves.proofs.Backs.{its, stands}
use Rattle.fourphase_port.proofs.NextIsAsked.{has_of}
use Rattle.fourphase_port.proofs.OpenGates.{open_same}
use Rattle.port_moves.proofs.Proper.{proper_passed}
use Rattle.fourphase_port.proofs.SeenRoute.{Seen, none_seen, seen_route}
use Rattle.port_moves.proofs.TakenBack.{moved_port}
use Rattle.port_moves.proofs.TakesIn.{in_range}
use Rattle.fourphase_port.proofs.TakesNext.{passed_who}

-- an invalidation logs nothing
left_at_invalidation : (p : Plan) (i : Initiator) (m n s : ℕ) (due : Option Due) (ops : List Operation) (b : Bool) (k a c : ℕ) → part_of (op_at s due ops) ≡ Invalidates k a c → bytes_left p i m (passed_by (state n s due ops b)) ≡ bytes_left p i m (state n s due ops b)
left_at_invalidation p i m n s due ops b k a c is = grind (arith, common_steps)

bytes_kept : (p : Plan) (i : Initiator) (m : ℕ) (e : State) (k a c : ℕ) → next_of e ≡ Invalidates k a c → bytes_left p i m (passed_by e) ≡ bytes_left p i m e
bytes_kept p i m e k a c is = left_at_invalidation p i m e.initiator e.seq e.due e.remaining e.ended k a c is

one_initiator : (a b : Initiator) → Some a ≡ Some b → a ≡ b
one_initiator a b q = cc

one_route : (a b : Route) → Some a ≡ Some b → a ≡ b
one_route a b q = cc

no_route : (o : Option model.Route) → o ≡ None → IsSome o → ⊥
no_route o q is = cc

clash : (o : Option Route) (r : Route) → o ≡ None → o ≡ Some r → ⊥
clash o r q e = cc

in_list : (os : List ObjectNo) (m : ℕ) (d : ObjectNo) → m < length os → Among os (get_or os m d)
in_list [] m d l = absurd (omega (arith, l))
in_list (x ∷ os) zero d l = inl refl
in_list (x ∷ os) (suc m) d l = inr (in_list os m d (omega (arith, l)))

some_place : (w : Purse) (o : ℕ) → 0 < left_of w o + bytes_of w o → HasPlace w o
some_place w o some = by (fin.get w.held o) some
  where
    by : (q : Option Pocket) → 0 < left_in q + bytes_left_in q → IsSome q
    by None some = absurd (omega (arith, some))
    by (Some k) some = refl

nothing_left : (o : ℕ) → (left_of (empty_purse 1) o ≡ 0) × (bytes_of (empty_purse 1) o ≡ 0)
nothing_left o = (ap left_in (get-empty nat_cmp o), ap bytes_left_in (get-empty nat_cmp o))

-- a wallet has room for what an empty purse has
pub room_for_none : (m : ℕ) (w : Purse) → IsRoomyFor m w → HasRoomForAll w (empty_purse 1)
room_for_none m w r = record {
  objects = r.objects;
  few = r.few;
  own = r.all;
  others = λ o some. absurd (let n = nothing_left o in omega (arith, some, n.0, n.1));
}

-- all of these entries stand at one object
all_there : (o : ObjectNo) (es : List Entry) → ((e : Entry) → Has es e → e.object ≡ o) → length (entries_at o es) ≡ length es
all_there o [] here = refl
all_there o (e ∷ es) here = by (is_object o e.object) (ap (is_object o) (here e (0, refl)) ∙ is_self o) (all_there o es (λ d m. here d (has_later e es d m)))
  where
    by : (b : Bool) → b ≡ true → length (entries_at o es) ≡ length es → length (cond b (e ∷ entries_at o es) (entries_at o es)) ≡ length (e ∷ es)
    by true is rest = ap suc rest
    by false is rest = cc

-- an entry that is known stands among the events
read_event : (p : Platform) (known : List (HistoryEntry Content)) (x : Entry) (h : HistoryEntry Content) → Among (events_of p known) (event_of p h) → (event_of p h).entry ≡ x → Finds (Among (events_of p known)) (λ f. f.entry ≡ x)
read_event p known x h among is = record { event = event_of p h; known = among; is = is }

among_event : (p : Platform) (known : List (HistoryEntry Content)) (h : HistoryEntry Content) → Has known h → Among (events_of p known) (event_of p h)
among_event p [] h has = absurd (has_none h has)
among_event p (x ∷ known) h has = elim (has_first x known h has) [
  | inl same ↦ inl (ap (event_of p) same)
  | inr rest ↦ inr (among_event p known h rest)
]

-- a history with the events of a note has all that the note knows
has_all : (p : Plan) (v : View Content Plan) (h : List Entry) → HasAllOf (events_of p.platform v.known) h → HasAllKnown p v h
has_all p v h all = record {
  within = λ x has. (let e = has_map (λ (d : HistoryEntry Content). (event_of p.platform d).entry) v.known x has in subst (Has h) e.2 (all.within (event_of p.platform e.0) (among_event p.platform v.known e.0 e.1)));
  numbered = all.numbered;
  gates = all.gates;
  places = λ m e has at. all.places m (event_of p.platform e) (among_event p.platform v.known e has) at;
}

-- an invalidation answers and is one; a closing neither
told_answers : (w : What) (f l : ℕ) → w ≡ Invalidated f l → IsTrue (is_answer w)
told_answers w f l is = ap is_answer is

closed_answers : (w : What) (g : ℕ) → w ≡ Closed g → IsTrue (is_answer w) → ⊥
closed_answers w g is answers = let wrong : false ≡ true = sym (ap is_answer is) ∙ answers in cc (wrong)

closed_returns : (w : What) (g : ℕ) → w ≡ Closed g → IsTrue (is_invalidation w) → ⊥
closed_returns w g is answers = let wrong : false ≡ true = sym (ap is_invalidation is) ∙ answers in cc (wrong)

its_txn : (x : TxnId) → IsTrue (is_txn x.initiator x.seq x)
its_txn x = and_from _ _ (eq-eqb x.initiator x.initiator refl) (eq-eqb x.seq x.seq refl)

module _ (table tokens : TableId) (frame : Frame Plan) (s : StateView) (note : Held Content Plan) (p : IsPort table tokens frame (with_note s note)) (settled : HasSettled s.port)
    (k a c : ℕ) (next_is : next_of s.port.engine ≡ Invalidates k a c) where
  abbrev i : Initiator
  i = p.initiator

  abbrev world : Plan
  world = frame.world

  abbrev n : ℕ
  n = s.port.engine.initiator

  abbrev seq : ℕ
  seq = s.port.engine.seq

  abbrev before : List Event
  before = events_of world.platform note.knows.known

  abbrev count : ℕ
  count = length (objects_of world.platform)

  abbrev left : ObjectNo → ℕ
  left = left_at world s.wallet

  abbrev q : Request
  q = request_of world i s.port before note.knows.seen left p.way k a c next_is

  pub seq_is : k ≡ seq
  seq_is = invalidation_number s.port.engine k a c next_is

  no_passage : passage_of world (txn_of i.number seq) ≡ None
  no_passage = passes_none world i s.port before note.knows.seen left p.way k a c next_is (its table tokens frame s note p) p.style

  seen : (r : Route) → route_at world n a ≡ Some r → Seen (route_of world.platform i a) r
  seen r e = seen_route _ _ (route_of world.platform i a) r (sym (ap (λ (o : Option Initiator). route_by (walk_by world.platform o a)) p.is) ∙ e)

  unseen : route_at world n a ≡ None → route_of world.platform i a ≡ None
  unseen e = none_seen _ _ (route_of world.platform i a) (sym (ap (λ (o : Option Initiator). route_by (walk_by world.platform o a)) p.is) ∙ e)

  low : (r : Route) → route_at world n a ≡ Some r → r.memory < length world.platform.memories
  low r e = leads_to_memory world n a r (sym e)

  leads : (r : Route) (e : route_at world n a ≡ Some r) → is_routed_to world i r.memory a ≡ true
  leads r e =
      let f = seen r e in
      ap (λ (o : Option model.Route). leads_to o r.memory) f.is ∙ eq-eqb (f.route).memory r.memory f.memory

  number_here : (r : Route) (e : route_at world n a ≡ Some r) → left (Memory r.memory) ≡ left_of s.wallet r.memory
  number_here r e = ap (left_of s.wallet) (memory_number world.platform r.memory (low r e))

  -- its call may be made
  pub may_revoke : MayRevoke tokens frame n (txn_of n seq) a note s.wallet
  may_revoke = record {
    passage = subst (λ (j : ℕ). passage_of world (txn_of j seq) ≡ None) p.number no_passage;
    of = p.wallet_of;
    memory = low;
    room = λ r e. record {
      objects = range_with_len 0 count;
      few = (let l = length-range_with_len 0 count in let m = p.places in omega (arith, l, m));
      all = λ o has. in_range count o (p.few_places o has);
      has = in_range count r.memory (among_objects r.memory (low r e));
    };
    tickets = λ r e. (
        let t = tickets_here world i s.port before note.knows.seen left p.way k a c next_is r.memory (leads r e) settled.free in
        let same = open_same world r.memory note.knows.known (low r e) in
        let here = number_here r e in
        omega (arith, t, same, here));
  }
    where
      among_objects : (m : ℕ) → m < length world.platform.memories → m < count
      among_objects m l = let more = more_objects world.platform in omega (arith, l, more)

  pub no_fence : is_fenced_part (next_of s.port.engine) ≡ false
  no_fence = ap is_fenced_part next_is

  -- the same by the values that the code has
  pub may_as : (who : ℕ) (x : TxnId) (u : Purse) → who ≡ n → x ≡ txn_of n seq → u ≡ s.wallet → MayRevoke tokens frame who x a note u
  may_as who x u is txn from =
      subst (λ (y : Purse). MayRevoke tokens frame who x a note y) (sym from)
      (subst (λ (y : TxnId). MayRevoke tokens frame who y a note s.wallet) (sym txn)
      (subst (λ (j : ℕ). MayRevoke tokens frame j (txn_of n seq) a note s.wallet) (sym is) may_revoke))

  pub who_stands : (who : ℕ) → who ≡ n → who < length world.platform.initiators
  who_stands who is = subst (λ (j : ℕ). j < length world.platform.initiators) (sym is) (stands table tokens frame s note p)

  pub txn_is : (who : ℕ) → who ≡ n → txn_of who k ≡ txn_of n seq
  txn_is who is = ap (λ (j : ℕ). txn_of j k) is ∙ ap (txn_of n) seq_is

  pub free_then : (b : StateView) (w : Purse) → b ≡ record s { wallet = w } → is_fenced_part (next_of b.port.engine) ≡ false
  free_then b w is = ap (λ (t : StateView). is_fenced_part (next_of t.port.engine)) is ∙ no_fence

  pub revokes_as : (who : ℕ) (x : TxnId) (at : ℕ) (u w : Purse) (back : Held Content Plan) → who ≡ n → x ≡ txn_of n seq → at ≡ s.port.time → u ≡ s.wallet
      → Revokes tokens frame who x at a c note back u w → Revokes tokens frame n (txn_of n seq) s.port.time a c note back s.wallet w
  revokes_as who x at u w back is txn time from revokes =
      subst (λ (y : Purse). Revokes tokens frame n (txn_of n seq) s.port.time a c note back y w) from
      (subst (λ (y : ℕ). Revokes tokens frame n (txn_of n seq) y a c note back u w) time
      (subst (λ (y : TxnId). Revokes tokens frame n y at a c note back u w) txn
      (subst (λ (j : ℕ). Revokes tokens frame j x at a c note back u w) is revokes)))

  pub state_as : (b d : StateView) (w : Purse) → b ≡ record s { wallet = w } → d ≡ (let port = b.port in with_port b (record port { engine = passed_by port.engine }))
      → d ≡ record s { port = (let port = s.port in record port { engine = passed_by port.engine }); wallet = w }
  state_as b d w first second = second ∙ ap (λ (t : StateView). let port = t.port in with_port t (record port { engine = passed_by port.engine })) first

  pub moved_as : (who : ℕ) (b : Bool) (m : Moved) → who ≡ n → b ≡ is_some (route_at world who a) → m ≡ record { entry = b; pumped = Some Did } → m ≡ invalidation_moved world (with_note s note) a
  moved_as who b m is told done = done ∙ ap (λ (y : Bool). record { entry = y; pumped = Some Did }) (told ∙ ap (λ (j : ℕ). is_some (route_at world j a)) is)

  module _ (back : Held Content Plan) (of : IsNote table back) where
    abbrev after : List Event
    after = events_of world.platform back.knows.known

    -- the port after it, where these are its own entries, and this is what the wallet has left
    done_port : (own : List Entry) (w : Purse) → s.hand ≡ Free → Within note.knows.known back.knows.known → StandBelow back.knows.known back.knows.seen
        → HasDoneAlone world i s.port a before after note.knows.seen own left (left_at world w) → IsOf tokens w → w.places ≡ s.wallet.places → ((o : ℕ) → HasPlace w o → HasPlace s.wallet o) → ((m : ℕ) → bytes_of w m ≡ bytes_of s.wallet m)
        → IsPort table tokens frame (with_note (record s { port = (let port = s.port in record port { engine = passed_by port.engine }); wallet = w }) back)
    done_port own w free within below has w_of places kept bytes =
        let e = s.port.engine in
        let port = s.port in
        let then : Port = record port { engine = passed_by port.engine } in
        moved_port table tokens frame s note p back of within below then w s.hand s.payload refl (passed_who e e.remaining) (proper_passed e e.remaining p.proper refl)
        w_of places (λ o h. p.few_places o (kept o h)) (λ m there. (
        let old = p.bytes m there in
        let none : bytes_under world i m s.port ≡ 0 = ap (λ (b : Bool). bytes_while world i m b e (next_of e)) settled.free in
        let less = bytes_kept world i m e k a c next_is in
        let same = bytes m in
        omega (arith, old, none, less, same)))
        (invalidation_passed world i s.port before after note.knows.seen back.knows.seen left (left_at world w) own p.way (events_more world.platform note.knows.known back.knows.known within)
        (events_below world.platform note.knows.known back.knows.known back.knows.seen below) settled k a c next_is has)
        (subst (λ (hand : Hand). IsInHand frame tokens i then back.knows.known hand) (sym free) tt) (λ d e. subst GoesBack (sym free) tt) p.payload p.has_payload

    -- without a route
    unrevoked : route_at world n a ≡ None → back ≡ note → s.hand ≡ Free → IsPort table tokens frame (with_note (record s { port = (let port = s.port in record port { engine = passed_by port.engine }); wallet = s.wallet }) back)
    unrevoked e same free = done_port [] s.wallet free (subst (λ (b : Held Content Plan). Within note.knows.known b.knows.known) (sym same) (λ x h. h)) (subst (λ (b : Held Content Plan). StandBelow b.knows.known b.knows.seen) (sym same) p.below)
        (record {
          no_access = no_passage;
          entry = λ x m. absurd (has_none x m);
          distinct = tt;
          once = λ x y m. absurd (has_none x m);
          time = λ x m. absurd (has_none x m);
          later = λ x m. absurd (has_none x m);
          routed = λ there. absurd (no_route (route_of world.platform i a) (unseen e) there);
          pays = λ o. omega arith;
          keeps = λ o. inl (omega arith);
          closings = λ x m. absurd (has_none x m);
          returned = λ m all y h. absurd (has_none y h);
        })
        p.wallet_of refl (λ o h. h) (λ m. refl)

    -- with one, by what the invalidation has added
    module _ (r : Route) (e : route_at world n a ≡ Some r) (spent w : Purse) (told : Entry) (closings : List Entry) (takes : TakesAll tokens spent (empty_purse 1) w)
        (added : HasAdded frame r.memory (txn_of n seq) s.port.time r.offset (last_place r.offset c) note.knows back.knows s.wallet spent told closings) where
      abbrev own : List Entry
      own = told ∷ closings

      abbrev f : Seen (route_of world.platform i a) r
      f = seen r e

      told_what : told.what ≡ Invalidated r.offset (last_place r.offset c)
      told_what = ap (λ (x : Entry). x.what) added.told_is

      object_of_it : (x : Entry) → Has own x → x.object ≡ Memory r.memory
      object_of_it x m = elim (has_first told closings x m) [
        | inl same ↦ ap (λ (y : Entry). y.object) (sym same) ∙ ap (λ (y : Entry). y.object) added.told_is
        | inr rest ↦ (added.each x rest).object
      ]

      txn_of_it : (x : Entry) → Has own x → x.txn ≡ txn_of n seq
      txn_of_it x m = elim (has_first told closings x m) [
        | inl same ↦ ap (λ (y : Entry). y.txn) (sym same) ∙ ap (λ (y : Entry). y.txn) added.told_is
        | inr rest ↦ (added.each x rest).of
      ]

      time_of_it : (x : Entry) → Has own x → x.time ≡ s.port.time
      time_of_it x m = elim (has_first told closings x m) [
        | inl same ↦ ap (λ (y : Entry). y.time) (sym same) ∙ ap (λ (y : Entry). y.time) added.told_is
        | inr rest ↦ (added.each x rest).at
      ]

      stands_there : (x : Entry) → Has own x → Finds (Among after) (λ d. d.entry ≡ x)
      stands_there x m =
          let d = has_map (λ (d : HistoryEntry Content). (event_of world.platform d).entry) back.knows.known x (added.known x m) in
          read_event world.platform back.knows.known x d.0 (among_event world.platform back.knows.known d.0 d.1) d.2

      placed : (x : Entry) (w : What) → x.what ≡ w → x.object ≡ Memory r.memory → IsPlaced world.platform x.txn.initiator (Memory r.memory) w → IsPlaced world.platform x.txn.initiator x.object x.what
      placed x w is at here = subst (λ (o : ObjectNo). IsPlaced world.platform x.txn.initiator o x.what) (sym at) (subst (IsPlaced world.platform x.txn.initiator (Memory r.memory)) (sym is) here)

      told_made : IsMadeFor world i told q
      told_made = record {
        entry = subst (λ (w : What). IsEntryOf (route_of world.platform i a) (Invalidation c) told.object w) (sym told_what)
            (subst (λ (o : Option model.Route). IsEntryOf o (Invalidation c) told.object (Invalidated r.offset (last_place r.offset c))) (sym f.is)
            (object_of_it told (0, refl) ∙ ap Memory (sym f.memory), sym f.offset, ap (λ (o : ℕ). last_place o c) (sym f.offset)));
        way = subst (HasWay i.row.style (Invalidation c)) (sym told_what) tt;
        memory = r.memory;
        stands = object_of_it told (0, refl);
        place = placed told (Invalidated r.offset (last_place r.offset c)) told_what (object_of_it told (0, refl)) tt;
      }

      closing_made : (x : Entry) → Has closings x → IsMadeFor world i x q
      closing_made x m =
          let d = added.each x m in
          record {
            entry = subst (IsEntryOf (route_of world.platform i a) (Invalidation c) x.object) (sym d.says) tt;
            way = subst (HasWay i.row.style (Invalidation c)) (sym d.says) tt;
            memory = r.memory;
            stands = d.object;
            place = placed x (Closed d.gate) d.says d.object d.its_gate;
          }

      is_entry : (x : Entry) → Has own x → IsEntryFor world i after seq x
      is_entry x m =
          let u = p.way in
          record {
            txn = txn_of_it x m ∙ ap (λ (j : ℕ). txn_of j seq) (sym p.number);
            stands = stands_there x m;
            reply = record {
              replies = u.mine ++ [];
              stand = λ g h. (
                  let d = u.has.within g (has_of u.mine g (subst (λ (l : List Entry). Among l g) (append-nil u.mine) h)) in
                  record { event = d.event; known = events_more world.platform note.knows.known back.knows.known added.keeps d.event d.known; is = d.is }
                  );
              request = q;
              asked = ap (λ (t : TxnId). slice_get (requests_of world.platform i (u.mine ++ [])) t.seq) (txn_of_it x m) ∙ next_asked world i s.port before note.knows.seen left p.way k a c next_is;
              is = elim (has_first told closings x m) [ inl same ↦ subst (λ (y : Entry). IsMadeFor world i y q) same told_made | inr rest ↦ closing_made x rest ];
            };
          }

      first_answer : (x : Entry) → Has own x → IsTrue (is_answer x.what) → told ≡ x
      first_answer x m answers = elim (has_first told closings x m) [ inl same ↦ same | inr rest ↦ (let d = added.each x rest in absurd (closed_answers x.what d.gate d.says answers)) ]

      is_it : (o : ObjectNo) → object_number world.platform o ≡ r.memory → o ≡ Memory r.memory
      is_it o same = only_object world.platform o (Memory r.memory) (memory_among r.memory (low r e)) (same ∙ sym (memory_number world.platform r.memory (low r e)))
        where
          memory_among : (m : ℕ) → m < length world.platform.memories → Among (objects_of world.platform) (Memory m)
          memory_among m l =
              let more = more_objects world.platform in
              subst (Among (objects_of world.platform)) (memory_at world.platform m (Memory 0) l) (in_list (objects_of world.platform) m (Memory 0) (omega (arith, l, more)))

      count_own : length (entries_at (Memory r.memory) own) ≡ length own
      count_own = all_there (Memory r.memory) own object_of_it

      -- what the wallet has less, object by object
      gave_here : (o : ℕ) → o ≡ r.memory → left_of w o + length own ≡ left_of s.wallet o
      gave_here o same = subst (λ (j : ℕ). left_of w j + length own ≡ left_of s.wallet j) (sym same) (let t = takes.left r.memory in let n = nothing_left r.memory in let z = added.wallet.here in omega (arith, t, z, n.0))

      gave_else : (o : ℕ) → (o ≡ r.memory → ⊥) → left_of w o ≡ left_of s.wallet o
      gave_else o other = let t = takes.left o in let n = nothing_left o in let z = added.wallet.others o other in omega (arith, t, z, n.0)

      pays : (o : ObjectNo) → left o ≤ length (entries_at o own) + left_at world w o
      pays o = elim (cases_eq (object_number world.platform o) r.memory) [
        | inl same ↦ (
            let counted : length (entries_at o own) ≡ length own = ap (λ (b : ObjectNo). length (entries_at b own)) (is_it o same) ∙ count_own in
            let gave = gave_here (object_number world.platform o) same in
            omega (arith, counted, gave))
        | inr other ↦ (let kept = gave_else (object_number world.platform o) other in omega (arith, kept))
      ]

      keeps : (o : ObjectNo) → KeepsTickets world i seq before after left (left_at world w) o
      keeps o = elim (cases_eq (object_number world.platform o) r.memory) [
        | inl same ↦ inr (
          r.memory,
          is_it o same,
          invalidates_here world i s.port before note.knows.seen left p.way k a c next_is r.memory (leads r e),
          (
              let one : price world i o seq ≡ 1 = ap (λ (b : ObjectNo). price world i b seq) (is_it o same) ∙ price_here world i s.port before note.knows.seen left p.way k a c next_is r.memory (leads r e) in
              let gave = gave_here (object_number world.platform o) same in
              let fewer = added.fewer in
              let first = open_same world r.memory note.knows.known (low r e) in
              let last = open_same world r.memory back.knows.known (low r e) in
              let long : length own ≡ suc (length closings) = refl in
              omega (arith, one, gave, fewer, first, last, long)),
        )
        | inr other ↦ inl (let kept = gave_else (object_number world.platform o) other in omega (arith, kept))
      ]

      -- the closings that it has brought
      closing_of : (x : Entry) → Has own x → IsClosingOf after own x
      closing_of x m h all = elim (has_first told closings x m) [
        | inl same ↦ subst (λ (y : Entry). IsOwnClosing h own y y.what) same (subst (IsOwnClosing h own told) (sym told_what) tt)
        | inr rest ↦ (
            let d = added.each x rest in
            subst (IsOwnClosing h own x) (sym d.says) (
              told,
              (0, refl),
              subst (λ (t : TxnId). IsTrue (is_txn told.txn.initiator told.txn.seq t)) (txn_of_it told (0, refl) ∙ sym d.of) (its_txn told.txn),
              added.rising.0 x rest,
              added.cuts h (has_all world back.knows h all) x d.gate rest d.says,
            ))
      ]

      returned_of : (m : ℕ) → ((d : Event) → Among after d → d.position < m) → HaveReturned after own (seq + 1) m
      returned_of m below y has is less h all = elim (has_first told closings y has) [
        | inl same ↦ subst (HasReturned h m) same (added.returned h m (has_all world back.knows h all) (λ x known. (
            let d = has_map (λ (d : HistoryEntry Content). (event_of world.platform d).entry) back.knows.known x known in
            subst (λ (z : Entry). z.position < m) d.2 (below (event_of world.platform d.0) (among_event world.platform back.knows.known d.0 d.1)))))
        | inr rest ↦ (let d = added.each y rest in absurd (closed_returns y.what d.gate d.says is))
      ]

      done : HasDoneAlone world i s.port a before after note.knows.seen own left (left_at world w)
      done = record {
        no_access = no_passage;
        entry = is_entry;
        distinct = IsRising-distinct position_of own added.rising;
        once = λ x y m h first second. sym (first_answer x m first) ∙ first_answer y h second;
        time = time_of_it;
        later = added.late;
        routed = λ there. (told, (0, refl), told_answers told.what r.offset (last_place r.offset c) told_what);
        pays = pays;
        keeps = keeps;
        closings = closing_of;
        returned = returned_of;
      }

      kept_places : (o : ℕ) → HasPlace w o → HasPlace s.wallet o
      kept_places o has = some_place s.wallet o (
          let some = takes.full o has in
          let t = takes.left o in
          let b = takes.bytes_left o in
          let same = added.wallet.bytes o in
          let none = nothing_left o in
          elim (cases_eq o r.memory) [
            | inl here ↦ (let g = gave_here o here in omega (arith, some, t, b, same, g, none.0, none.1))
            | inr other ↦ (let g = gave_else o other in omega (arith, some, t, b, same, g, none.0, none.1))
          ])

      revoked_by : s.hand ≡ Free → IsPort table tokens frame (with_note (record s { port = (let port = s.port in record port { engine = passed_by port.engine }); wallet = w }) back)
      revoked_by free = done_port own w free added.keeps added.below done takes.of (takes.places ∙ added.wallet.places) kept_places (λ m. (let b = takes.bytes_left m in let z = nothing_left m in let same = added.wallet.bytes m in omega (arith, b, same, z.1)))

    -- by what its call has left
    module _ (w : Purse) (revokes : Revokes tokens frame n (txn_of n seq) s.port.time a c note back s.wallet w) (free : s.hand ≡ Free) where
      abbrev new_state : StateView
      new_state = record s { port = (let port = s.port in record port { engine = passed_by port.engine }); wallet = w }

      port_by : (o : Option Route) → route_at world n a ≡ o → IsPort table tokens frame (with_note new_state back)
      port_by None e = subst (λ (u : Purse). IsPort table tokens frame (with_note (record s { port = (let port = s.port in record port { engine = passed_by port.engine }); wallet = u }) back)) (sym (revokes.none e).1) (unrevoked e (revokes.none e).0 free)
      port_by (Some r) e =
          let d = revokes.called r e in
          let own = invalidation_adds frame r.memory (txn_of n seq) s.port.time r.offset (last_place r.offset c) note.knows back.knows s.wallet d.spent (low r e) d.called in
          revoked_by r e d.spent w own.told own.closings d.takes own.added free

      pub revoked_as : (new : StateView) → new ≡ new_state → IsPort table tokens frame (with_note new back)
      revoked_as new is = subst (λ (t : StateView). IsPort table tokens frame (with_note t back)) (sym is) (port_by (route_at world n a) refl)

      pub invalidates_as : (new : StateView) → new ≡ new_state → InvalidatesNext frame a c (with_note s note) (with_note new back)
      invalidates_as new is = subst (λ (t : StateView). InvalidatesNext frame a c (with_note s note) (with_note t back)) (sym is) (record {
        port = refl;
        hand = refl;
        held = refl;
        made = λ r e. (let d = revokes.called r e in (d.spent, d.called));
        none = revokes.none;
      })

      -- with a route it has made an entry of its own
      new_by_route : (o : Option Route) → route_at world n a ≡ o → is_some o ≡ true → HasNew (IsByPort world n) note.knows.known back.knows.known
      new_by_route None q routed = cc
      new_by_route (Some r) q routed =
          let x = txn_of n seq in
          let t = s.port.time in
          let last = last_place r.offset c in
          let d = (revokes.called r q).called in
          let call = Invalidate x t r.offset last in
          let made = entry_made frame r.memory (low r q) call note.knows d.told d.position InvalidatedReply note.knows.known d.made p.below in
          new_more (IsByPort world n) note.knows.known d.told.known back.knows.known
          (new_by (IsEntryOfMemory world r.memory x t (Invalidated r.offset last)) (IsByPort world n) note.knows.known d.told.known (λ e is. Accesses (access_by world r.memory x t (Invalidated r.offset last) e is)) made)
          (λ e has. d.all.last_look.enters.knew e (d.all.ended.keeps e has))

      pub revoked_new : (m : Moved) → m ≡ invalidation_moved world (with_note s note) a → m.entry ≡ true → HasNew (IsByPort world n) note.knows.known back.knows.known
      revoked_new m is entry = new_by_route (route_at world n a) refl (sym (ap (λ (k : Moved). k.entry) is) ∙ entry)
