-- An initiator after one more own entry, and as its note learns more.
use Rattle.std.proofs.Common.{◌≡◌, ℕ, ◌+◌, ◌-◌, ◌*◌, ◌<◌, ◌≤◌, ◌==◌, true, false, cond, List, [], ◌∷◌, ◌++◌, length, map, Option, Some, None, slice_get, ap, sym, subst, ◌∙◌, ⊎_elim, arith, length-append, append-nil}
use Rattle.std.specs.Prelude.{IsTrue, MatchOption}
use Rattle.std.proofs.lemmas.Bool.{cases_eq, cond-true, cond-false, eq-eqb, ne_eqb}
use Rattle.view_lists.specs.Lists.{Has, Within}
use Rattle.view_lists.proofs.Members.{has_either, has_left, has_one}
use Rattle.one_history.specs.declared.view.Frame.{Frame}
use Rattle.one_history.specs.declared.view.View.{View}
use Rattle.one_history.specs.Lists.{StandBelow}
use Rattle.shared_object.specs.Written.{written_at}
use Rattle.token_book.specs.Purse.{Purse, bytes_of, left_of}
use Rattle.tlm_types.specs.declared.entry.Content.{Content}
use Rattle.tlm_types.specs.declared.entry.Entry.{Entry}
use Rattle.tlm_types.specs.declared.words.ObjectNo.TheVariants.{Memory}
use Rattle.tlm_model.specs.History.{entries_at, is_object}
use Rattle.tlm_model.specs.Plan.{Plan, Initiator, initiators_of}
use Rattle.tlm_model.proofs.HistoryLemmas.{AllByRecursion-push}
use Rattle.flow_model.specs.Plans.{IsDecoupled}
use Rattle.good_history.specs.Grants.{asks, is_grant, last_of}
use Rattle.good_history.proofs.CountLemmas.{IsRising-push}
use Rattle.good_history.specs.Joined.{KeepsOwn}
use Rattle.joined_traffic.specs.Growing.{TellsNext}
use Rattle.joined_traffic.specs.Parts.{HasReturned, KeepsOwnGrants, KnowsAllGiven, is_invalidation}
use Rattle.joined_traffic.proofs.Growing.{own_grants_grow}
use Rattle.joined_traffic.proofs.Tables.{table_passes}
use Rattle.route_plan.specs.declared.step.Route.{Route}
use Rattle.script_engine.specs.declared.part.Transfer.{Transfer}
use Rattle.script_engine.specs.Part.{is_fenced_kind}
use Rattle.script_engine.specs.State.{State, op_of}
use Rattle.initiator_run.specs.Access.{IsRouteOf, model_route}
use Rattle.initiator_run.specs.Come.{HasCome}
use Rattle.initiator_run.specs.Left.{asks_left, bytes_at, bytes_left, leads}
use Rattle.initiator_run.specs.Moves.{HasReached}
use Rattle.initiator_run.specs.Run.{Run, accessed, engine_after}
use Rattle.initiator_run.proofs.AccessLemmas.{transfer_is_not_done}
use Rattle.initiator_run.proofs.EntryLemmas.{entries_at-push}
use Rattle.initiator_run.proofs.LeftLemmas.{bytes_after, cost_at, leads_elsewhere, leads_there, left_after}
use Rattle.initiator_run.proofs.RunLemmas.{accessed_finished, accessed_initiator, accessed_step}
use Rattle.run_outcome.proofs.PlanLemmas.{initiator_number}
use Rattle.plat_net.specs.Calls.{OneTicketLess}
use Rattle.plat_net.proofs.ObjectLemmas.{more_objects}
use Rattle.dmi_grants.specs.declared.table.Held.{Held}
use Rattle.dmi_grants.specs.Made.{IsRoomyFor}
use Rattle.dmi_grants.specs.Table.{TableView, granted_by}
use Rattle.dmi_grants.proofs.Known.{grant_more, known_more}
use Rattle.decoupled_run.specs.Job.{AreBelow, AsksNothing, HasAllOf, HasMade, HasTickets, HoldsGrants, IsHeldGrant, IsInitiator, position_of}
use Rattle.decoupled_run.specs.Known.{gates_left, known_to}
use Rattle.decoupled_run.specs.Script.{IsInScript}
use Rattle.decoupled_run.proofs.KnownLemmas.{HasEntered, all_of, all_ungiven_less, below_of, given_on, read_below, read_more}
use Rattle.decoupled_run.proofs.ScriptLemmas.{due_has_bytes, stands_after}
use Rattle.decoupled_run.proofs.TicketLemmas.{gates_left_less}

-- a grant that is held is so as the note learns more
pub still_held : (frame : Frame Plan) (i : Initiator) (note back : View Content Plan) (mine more : List Entry) (x : Held) → Within note.known back.known → Within mine more → IsHeldGrant frame i note mine x → IsHeldGrant frame i back more x
still_held frame i note back mine more x keeps among held = record {
  own = among (granted_by x) held.own;
  memory = held.memory;
  usable = record {
    memory = held.usable.memory;
    gate = held.usable.gate;
    granted = grant_more (written_at x.memory note.known) (written_at x.memory back.known) x.gate x.first x.last x.kind (known_more x.memory note.known back.known keeps) held.usable.granted;
    inside = held.usable.inside;
  };
  addresses = held.addresses;
}

-- what is known to be given stays so
pub still_nothing : (p : Plan) (i : Initiator) (note back : View Content Plan) (mine : List Entry) → Within note.known back.known → StandBelow back.known back.seen → AsksNothing p i note mine → AsksNothing p i back mine
still_nothing p i note back mine keeps below nothing = by (last_of i.number mine) nothing
  where
    by : (o : Option Entry) → MatchOption o (Unit {0}) (λ a. IsTrue (asks p a) → KnowsAllGiven p (known_to p note) note.seen a.object) → MatchOption o (Unit {0}) (λ a. IsTrue (asks p a) → KnowsAllGiven p (known_to p back) back.seen a.object)
    by None is = tt
    by (Some a) is = λ ask.
        given_on p (known_to p note) (known_to p back) note.seen back.seen a.object (read_more p.platform note.known back.known keeps)
        (below_of p note back back.seen keeps (read_below p.platform back.known back.seen below)) (is ask)

module _ (frame : Frame Plan) (r : Run) (note back : View Content Plan) (old : Purse) (t : TableView) (job : IsInitiator frame r note old t) where
  abbrev p : Plan
  p = frame.world

  abbrev i : Initiator
  i = job.initiator

  pub number : (i).number ≡ r.engine.initiator
  number = initiator_number p r.engine.initiator i job.is

  pub own_number : slice_get (initiators_of p) (i).number ≡ Some i
  own_number = ap (slice_get (initiators_of p)) number ∙ job.is

  -- one more own entry
  module _ (next_run : Run) (m : ℕ) (e : Entry) (entered : HasEntered frame m e note back) (own : e.txn.initiator ≡ (i).number) where
    early : (x : Entry) → Has job.mine x → x.position < e.position
    early x has = let b = read_below p.platform note.known note.seen job.below x (job.made.known x has) in let late = entered.late in omega arith

    pub made_more : HasCome p.platform i (job.mine ++ e ∷ []) next_run → KeepsOwn p (job.mine ++ e ∷ []) → IsInScript i next_run.engine → IsDecoupled e.object e.what → HasMade p i next_run back (job.mine ++ e ∷ [])
    made_more come keeps stands decoupled = record {
      rising = IsRising-push position_of job.mine e job.made.rising early;
      known = λ x has. ⊎_elim
          (λ (before : Has job.mine x). read_more p.platform note.known back.known entered.keeps x (job.made.known x before))
          (λ (last : Has (e ∷ []) x). subst (Has (known_to p back)) (has_one e x last) entered.knows)
          (has_either job.mine (e ∷ []) x has);
      own = λ x has. ⊎_elim
          (λ (before : Has job.mine x). job.made.own x before)
          (λ (last : Has (e ∷ []) x). subst (λ (y : Entry). y.txn.initiator ≡ (i).number) (has_one e x last) own)
          (has_either job.mine (e ∷ []) x has);
      come = come;
      stands = stands;
      keeps = keeps;
      decoupled = AllByRecursion-push (λ (x : Entry). IsDecoupled x.object x.what) job.mine e job.made.decoupled decoupled;
    }

    pub own_more : ((h : List Entry) → HasAllOf p note h → TellsNext p h job.mine e) → (h : List Entry) → HasAllOf p back h → KeepsOwnGrants p h (job.mine ++ e ∷ [])
    own_more tells h all =
        let before = all_of p note back h entered.keeps all in
        own_grants_grow p h job.mine e (job.holds.own h before) (tells h before)

    pub returned_more : is_invalidation e.what ≡ false → (h : List Entry) (limit : ℕ) → HasAllOf p back h → AreBelow (known_to p back) limit → (y : Entry) → Has (job.mine ++ e ∷ []) y → IsTrue (is_invalidation y.what) → HasReturned h limit y
    returned_more none h limit all below y has invalidates =
        ⊎_elim
        (λ (before : Has job.mine y). job.holds.returned h limit (all_of p note back h entered.keeps all) (below_of p note back limit entered.keeps below) y before invalidates)
        (λ (last : Has (e ∷ []) y). let same : e ≡ y = has_one e y last in let wrong : false ≡ true = sym none ∙ (ap (λ (x : Entry). is_invalidation x.what) same ∙ invalidates) in absurd (cc (wrong)))
        (has_either job.mine (e ∷ []) y has)

    -- an entry that is no grant leaves the table
    pub holds_more : is_grant e.what ≡ false → is_invalidation e.what ≡ false → ((h : List Entry) → HasAllOf p note h → TellsNext p h job.mine e) → HoldsGrants frame i back (job.mine ++ e ∷ []) t
    holds_more no_grant none tells = record {
      own = own_more tells;
      returned = returned_more none;
      table = λ h limit all below. table_passes h limit job.mine (map granted_by t.held) e no_grant (job.holds.table h limit (all_of p note back h entered.keeps all) (below_of p note back limit entered.keeps below));
      held = λ x has. still_held frame i note back job.mine (job.mine ++ e ∷ []) x entered.keeps (λ y in_mine. has_left job.mine (e ∷ []) y in_mine) (job.holds.held x has);
      few = (let before = job.holds.few in let less = all_ungiven_less p note.known back.known (length p.platform.memories) entered.keeps in omega arith);
      room = job.holds.room;
      none = job.holds.none;
    }

    pub entries_here : (k : ℕ) → k ≡ m → length (entries_at (Memory k) (job.mine ++ e ∷ [])) ≡ length (entries_at (Memory k) job.mine) + 1
    entries_here k here =
        ap length (entries_at-push (Memory k) job.mine e ∙ ap (λ (l : List Entry). entries_at (Memory k) job.mine ++ l) (ap (λ o. cond (is_object (Memory k) o) (e ∷ []) []) entered.object ∙ cond-true (m == k) (e ∷ []) [] (eq-eqb m k (sym here))))
        ∙ length-append (entries_at (Memory k) job.mine) (e ∷ [])

    pub entries_there : (k : ℕ) → (k ≡ m → ⊥) → length (entries_at (Memory k) (job.mine ++ e ∷ [])) ≡ length (entries_at (Memory k) job.mine)
    entries_there k other =
        ap length (entries_at-push (Memory k) job.mine e ∙ (ap (λ (l : List Entry). entries_at (Memory k) job.mine ++ l) (ap (λ o. cond (is_object (Memory k) o) (e ∷ []) []) entered.object ∙ cond-false (m == k) (e ∷ []) [] (ne_eqb m k (λ same. other (sym same))))
        ∙ append-nil (entries_at (Memory k) job.mine)))

    -- the access or the debug read that is next, along its route, with the ticket that it took
    module _ (x : Transfer) (route : Route) (got : List ℕ) (new : Purse) (to : m ≡ route.memory) (reached : HasReached p r x route) (leads_to : IsRouteOf p i x.address route) (whole : is_fenced_kind x.kind ≡ true → length got ≡ x.length)
        (paid : 0 < left_of old route.memory) (ticket : OneTicketLess route.memory (cost_at 4096 r.engine.due r.engine.remaining) old new) (next_is : next_run ≡ accessed x route.latency got r) where
      engine_is : next_run.engine ≡ engine_after r.engine got
      engine_is = ap (λ (q : Run). q.engine) next_is ∙ accessed_step x route.latency got r

      pub same_number : next_run.engine.initiator ≡ r.engine.initiator
      same_number = ap (λ (q : Run). q.engine.initiator) next_is ∙ accessed_initiator x route.latency got r

      pub stands : IsInScript i next_run.engine
      stands = subst (IsInScript i) (sym engine_is) (stands_after i r.engine got (due_has_bytes r.engine x got reached.next job.made.come.proper whole) job.made.stands)

      pub left_stays : (k : ℕ) → (k ≡ route.memory → ⊥) → left_of new k ≡ left_of old k
      left_stays k other = ticket.left k ∙ cond-false (k == route.memory) (left_of old route.memory - 1) (left_of old k) (ne_eqb k route.memory other)

      abbrev Paid : ℕ → Type 0
      Paid k = (left_of new k + leads p i k x.address ≡ left_of old k) × (bytes_left p i k (engine_after r.engine got) ≤ bytes_of new k) × (length (entries_at (Memory k) (job.mine ++ e ∷ [])) + left_of new k ≡ length (entries_at (Memory k) job.mine) + left_of old k)

      paid_here : (k : ℕ) → k ≡ route.memory → HasTickets p i r note old job.mine k → Paid k
      paid_here k here has =
          let cost = cost_at 4096 r.engine.due r.engine.remaining in
          let bytes = bytes_after p i k 4096 r.engine got x reached.next whole in
          let one : leads p i k x.address ≡ 1 = ap (λ (j : ℕ). leads p i j x.address) here ∙ leads_there p i x.address (model_route route) leads_to.leads in
          let cost_is : bytes_at p i k x.address cost ≡ cost * 1 = ap (λ (j : ℕ). cost * j) one in
          let fits = has.bytes in
          let left : left_of new k ≡ left_of old k - 1 = ticket.left k ∙ (cond-true (k == route.memory) (left_of old route.memory - 1) (left_of old k) (eq-eqb k route.memory here) ∙ ap (λ (j : ℕ). left_of old j - 1) (sym here)) in
          let rest : bytes_of new k ≡ bytes_of old k - cost = ticket.bytes_left k ∙ (cond-true (k == route.memory) (bytes_of old route.memory - cost) (bytes_of old k) (eq-eqb k route.memory here) ∙ ap (λ (j : ℕ). bytes_of old j - cost) (sym here)) in
          let some : 0 < left_of old k = subst (λ (j : ℕ). 0 < left_of old j) (sym here) paid in
          let more = entries_here k (here ∙ sym to) in
          (omega arith, omega arith, omega arith)

      paid_there : (k : ℕ) → (k ≡ route.memory → ⊥) → HasTickets p i r note old job.mine k → Paid k
      paid_there k other has =
          let bytes = bytes_after p i k 4096 r.engine got x reached.next whole in
          let fits = has.bytes in
          let none = leads_elsewhere p i k x.address (model_route route) leads_to.leads other in
          let left = left_stays k other in
          let rest : bytes_of new k ≡ bytes_of old k = ticket.bytes_left k ∙ cond-false (k == route.memory) (bytes_of old route.memory - cost_at 4096 r.engine.due r.engine.remaining) (bytes_of old k) (ne_eqb k route.memory other) in
          let same = entries_there k (λ here. other (here ∙ to)) in
          (omega arith, omega arith, omega arith)

      pub tickets_sent : (k : ℕ) → HasTickets p i r note old job.mine k → HasTickets p i next_run back new (job.mine ++ e ∷ []) k
      tickets_sent k has =
          let asks = left_after p i k r.engine got x reached.next in
          let t = ⊎_elim (λ (here : k ≡ route.memory). paid_here k here has) (λ (other : k ≡ route.memory → ⊥). paid_there k other has) (cases_eq k route.memory) in
          let left = t.0 in
          let all = t.2 in
          let enough = has.asks in
          let less = gates_left_less p i k note.known back.known entered.keeps in
          record {
            asks = subst (λ (s : State). asks_left p i k s + gates_left p i back.known k ≤ left_of new k) (sym engine_is) (omega arith);
            bytes = subst (λ (s : State). bytes_left p i k s ≤ bytes_of new k) (sym engine_is) t.1;
            all = all ∙ has.all;
          }

      pub roomy_sent : (k : ℕ) → IsRoomyFor k old → IsRoomyFor k new
      roomy_sent k room = record {
        objects = room.objects;
        few = (let places = ticket.places in let few = room.few in omega arith);
        all = λ o has. room.all o (ticket.held o has);
        has = room.has;
      }

      -- the run, the note and the wallet after it
      abbrev pub sent : HasCome p.platform i (job.mine ++ e ∷ []) next_run → KeepsOwn p (job.mine ++ e ∷ []) → IsDecoupled e.object e.what → is_grant e.what ≡ false → is_invalidation e.what ≡ false → ((h : List Entry) → HasAllOf p note h → TellsNext p h job.mine e) → IsInitiator frame next_run back new t
      sent come keeps decoupled no_grant none tells = record {
        valid = job.valid;
        initiator = i;
        mine = job.mine ++ e ∷ [];
        is = ap (slice_get (initiators_of p)) same_number ∙ job.is;
        decoupled = job.decoupled;
        below = entered.below;
        made = made_more come keeps stands decoupled;
        holds = holds_more no_grant none tells;
        tickets = λ k below. tickets_sent k (job.tickets k below);
        roomy = λ k below. roomy_sent k (job.roomy k below);
        no_others = λ k past.
            let there = entered.there in
            left_stays k (λ same. let more = more_objects p.platform in omega arith) ∙ job.no_others k past;
        finished = λ f.
            let was = sym (accessed_finished x route.latency got r) ∙ (ap (λ (q : Run). q.finished) (sym next_is) ∙ f) in
            absurd (transfer_is_not_done (op_of r.engine) x reached.next (job.finished was));
      }

  -- as its note learns more, and its wallet holds what it held
  abbrev pub learns_more : (new : Purse) → Within note.known back.known → StandBelow back.known back.seen → ((k : ℕ) → left_of new k ≡ left_of old k) → ((k : ℕ) → bytes_of new k ≡ bytes_of old k) → ((k : ℕ) → IsRoomyFor k old → IsRoomyFor k new) → IsInitiator frame r back new t
  learns_more new keeps below left bytes roomy = record {
    valid = job.valid;
    initiator = i;
    mine = job.mine;
    is = job.is;
    decoupled = job.decoupled;
    below = below;
    made = record {
      rising = job.made.rising;
      known = λ x has. read_more p.platform note.known back.known keeps x (job.made.known x has);
      own = job.made.own;
      come = job.made.come;
      stands = job.made.stands;
      keeps = job.made.keeps;
      decoupled = job.made.decoupled;
    };
    holds = record {
      own = λ h all. job.holds.own h (all_of p note back h keeps all);
      returned = λ h limit all under. job.holds.returned h limit (all_of p note back h keeps all) (below_of p note back limit keeps under);
      table = λ h limit all under. job.holds.table h limit (all_of p note back h keeps all) (below_of p note back limit keeps under);
      held = λ x has. still_held frame i note back job.mine job.mine x keeps (λ y in_mine. in_mine) (job.holds.held x has);
      few = (let before = job.holds.few in let less = all_ungiven_less p note.known back.known (length p.platform.memories) keeps in omega arith);
      room = job.holds.room;
      none = job.holds.none;
    };
    tickets = λ k there.
        let has = job.tickets k there in
        let same = left k in
        let asks = has.asks in
        let fits = has.bytes in
        let kept = bytes k in
        let all = has.all in
        let less = gates_left_less p i k note.known back.known keeps in
        record {
          asks = omega arith;
          bytes = omega arith;
          all = omega arith;
        };
    roomy = λ k there. roomy k (job.roomy k there);
    no_others = λ k past. left k ∙ job.no_others k past;
    finished = job.finished;
  }
