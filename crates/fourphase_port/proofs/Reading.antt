-- A port that makes the debug read that is next is a port afterwards.
use Rattle.std.proofs.Common.{◌≡◌, ℕ, ◌+◌, ◌*◌, ◌<◌, ◌≤◌, if◌then◌else◌, zero-add, Bool, true, false, cond, List, [], ◌∷◌, ◌++◌, length, Option, Some, None, IsSome, refl, sym, ap, ◌∙◌, subst, inl, inr, arith}
use Rattle.std.specs.Prelude.{IfSome, is_some, slice_get}
use Rattle.std.specs.List.{filter}
use Rattle.std.proofs.lemmas.Bool.{cases_eq}
use Rattle.std.proofs.lemmas.List.{append-nil, length-replicate}
use mathlib.Core.Option.{some}
use Rattle.atomic_table.specs.Seated.{TableId}
use Rattle.view_lists.specs.Lists.{Has, Within}
use Rattle.view_lists.proofs.Members.{has_mapped, has_right}
use Rattle.one_history.specs.Held.{Held}
use Rattle.one_history.specs.Lists.{StandBelow}
use Rattle.one_history.specs.declared.entry.Entry.{Entry as HistoryEntry}
use Rattle.one_history.specs.declared.view.Frame.{Frame}
use Rattle.one_history.specs.declared.view.View.{View}
use Rattle.shared_object.specs.Steps.{IsNote}
use Rattle.shared_object.specs.Written.{Written, noted, placed, wrote}
use Rattle.tlm_types.specs.declared.entry.Content.{Content}
use Rattle.tlm_types.specs.declared.entry.Entry.{Entry}
use Rattle.tlm_types.specs.declared.words.Command.TheVariants.{Read}
use Rattle.tlm_types.specs.declared.words.ObjectNo.{ObjectNo}
use Rattle.tlm_types.specs.declared.words.ObjectNo.TheVariants.{Hop, Memory}
use Rattle.tlm_types.specs.declared.words.TxnId.{TxnId}
use Rattle.tlm_model.specs.declared.ask.Ask.TheVariants.{DebugRead as ADebugRead}
use Rattle.tlm_model.specs.declared.platform.Style.{Style}
use Rattle.tlm_model.specs.History.{entries_at, is_object}
use Rattle.tlm_model.specs.Plan.{Plan, Initiator, initiators_of}
use Rattle.tlm_model.specs.Requests.{DebugRead, debug_of}
use Rattle.tlm_model.specs.Route as model
use Rattle.tlm_model.specs.Route.{hops_of, route_of}
use Rattle.tlm_model.specs.Scripts.{HasWay, IsEntryOf, IsPlaced}
use Rattle.tlm_model.specs.Store.{zeros}
use Rattle.token_book.specs.Purse.{HasPlace, IsOf, Purse, bytes_of, left_of}
use Rattle.generic_payload.specs.Payload.{PayloadView}
use Rattle.region_object.specs.declared.call.RegionCall.TheVariants.{Debug}
use Rattle.region_object.specs.Call.{debug_access, payload_cost}
use Rattle.region_object.specs.Region.{after_call, region_entry}
use Rattle.region_object.specs.Written.{content_of, written_from}
use Rattle.region_object.proofs.Written.{written_from-more}
use Rattle.route_plan.specs.declared.step.Route.{Route}
use Rattle.route_plan.specs.Plans.{walk_by}
use Rattle.route_plan.specs.Routes.{route_by}
use Rattle.flow_model.specs.Events.{Among, Event, FindsAt}
use Rattle.flow_model.specs.Platform.{passage_of}
use Rattle.cargo_model.specs.Known.{Known, event_of, object_number, objects_of}
use Rattle.cargo_model.specs.Origins.{AreThere}
use Rattle.cargo_model.proofs.Origins.{is_self, only_object}
use Rattle.cargo_model.proofs.There.{there_law}
use Rattle.initiator_run.specs.Left.{bytes_left, leads}
use Rattle.initiator_run.specs.Run.{engine_after}
use Rattle.initiator_run.proofs.LeftLemmas.{bytes_after, leads_there}
use Rattle.joined_traffic.specs.Accesses.{txn_of}
use Rattle.joined_traffic.specs.Issued.{IsReplyOf}
use Rattle.joined_traffic.proofs.ScriptLemmas.{made_for}
use Rattle.plat_net.specs.Calls.{IsCalled, entries_of, route_at}
use Rattle.plat_net.proofs.NumberLemmas.{memory_number}
use Rattle.plat_net.proofs.ObjectLemmas.{memory_at}
use Rattle.plat_net.proofs.WalkLemmas.{leads_to_memory}
use Rattle.port_model.specs.Laws.{HasRead, HasSettled, IsReplyTo, price_by_kind, replies_of}
use Rattle.port_model.specs.Stages.{price, price_of}
use Rattle.port_model.proofs.Alone.{debug_read}
use Rattle.port_model.proofs.NextAsks.{is_priced, next_asked}
use Rattle.port_end.specs.Arrives.{events_of}
use Rattle.port_end.proofs.Arrives.{knows_more as events_more, stand_below as events_below}
use Rattle.script_engine.specs.declared.part.Part.TheVariants.{Asks}
use Rattle.script_engine.specs.declared.part.Transfer.{Transfer}
use Rattle.script_engine.specs.declared.part.TransferKind.{TransferKind}
use Rattle.script_engine.specs.declared.part.TransferKind.TheVariants as kinds
use Rattle.script_engine.specs.Asking.{asked_for}
use Rattle.script_engine.specs.Part.{command_in, is_fenced_kind, is_fenced_part}
use Rattle.script_engine.specs.State.{State, next_of, passed_by, payload_of, told_by}
use Rattle.script_engine.proofs.Payloads.{room_of_payload}
use Rattle.script_engine.proofs.Steps.{fills}
use Rattle.fourphase_port.specs.Laws.{MayBeRead}
use Rattle.port_moves.specs.Moves.{port_read}
use Rattle.fourphase_port.specs.Moves.{IsReadOf, ReadsDebug}
use Rattle.fourphase_port.specs.Pumps.{read_moved}
use Rattle.port_moves.specs.Reads.{HasAsked, HasSpent, debug_call}
use Rattle.port_moves.specs.Returned.{with_port}
use Rattle.port_moves.specs.State.{GoesBack, IsInHand, IsPort, StateView, bytes_under, bytes_while, left_at, with_note}
use Rattle.port_moves.specs.declared.hand.Hand.{Hand}
use Rattle.port_moves.specs.declared.hand.Hand.TheVariants.{Free}
use Rattle.port_moves.specs.declared.hand.Moved.{Moved}
use Rattle.port_moves.specs.declared.hand.Pumped.TheVariants.{Did}
use Rattle.node_hops.specs.Steps.{HasNew, IsByPort}
use Rattle.node_hops.proofs.Adds.{call_adds}
use Rattle.port_moves.proofs.Adding.{at_memory as own_at_memory, memory_adds}
use Rattle.port_moves.proofs.Backs.{its, stands}
use Rattle.fourphase_port.proofs.NextIsAsked.{has_of, request}
use Rattle.port_moves.proofs.Proper.{proper_passed}
use Rattle.fourphase_port.proofs.ReadsNext.{may_be_read}
use Rattle.fourphase_port.proofs.SeenRoute.{Seen, none_seen, seen_route}
use Rattle.port_moves.proofs.Stocking.{gave_bytes_else, gave_bytes_here, gave_else, gave_here}
use Rattle.fourphase_port.proofs.Taking.{among_known}
use Rattle.port_moves.proofs.TakenBack.{moved_port}
use Rattle.fourphase_port.proofs.TakesNext.{passed_who, room_told}

kept_one : (f : Entry → Bool) (e : Entry) → f e ≡ true → length (filter f (e ∷ [])) ≡ 1
kept_one f e is = ap (λ (b : Bool). length (cond b (e ∷ []) [])) is

counted_once : (o : ObjectNo) (e : Entry) → e.object ≡ o → length (entries_at o (e ∷ [])) ≡ 1
counted_once o e is = kept_one (λ (f : Entry). is_object o f.object) e (ap (is_object o) is ∙ is_self o)

one_entry : (a b : Entry) → Some a ≡ Some b → a ≡ b
one_entry a b q = cc

no_entry : (a : Entry) → None ≡ Some a → ⊥
no_entry a q = cc

no_route : (o : Option model.Route) → o ≡ None → IsSome o → ⊥
no_route o q is = cc

clash : (o : Option Route) (r : Route) → o ≡ None → o ≡ Some r → ⊥
clash o r q e = cc

one_transfer : (a b : Transfer) → Asks a ≡ Asks b → a ≡ b
one_transfer a b q = cc

one_initiator : (a b : Initiator) → Some a ≡ Some b → a ≡ b
one_initiator a b q = cc

one_route : (a b : model.Route) → Some a ≡ Some b → a ≡ b
one_route a b q = cc

no_model : (a : model.Route) → None ≡ Some a → ⊥
no_model a q = cc

-- the entry of a debug read that was made, as an event that the note knows
module _ (p : Plan) (m : ℕ) (x : TxnId) (at : ℕ) (b : PayloadView) (note back : View Content Plan) (v : PayloadView) (c : IsCalled p m (Debug x at b) note back v) (low : m < length p.platform.memories) where
  abbrev made : HistoryEntry Content
  made = placed m (wrote c.position (content_of c.memory (Debug x at b)))

  abbrev pub event : Event
  event = event_of p.platform made

  abbrev log : List Entry
  log = let l = c.memory.log in l.entries

  last : Has (written_from 0 (log ++ region_entry c.memory c.position (Debug x at b) ∷ [])) (wrote c.position (content_of c.memory (Debug x at b)))
  last =
      let e = region_entry c.memory c.position (Debug x at b) in
      subst (λ (l : List Written). Has l (wrote c.position (content_of c.memory (Debug x at b)))) (sym (written_from-more 0 log e))
      (has_right (written_from 0 log) (noted (0 + length log) e ∷ []) _ (0, ap (λ (k : ℕ). some (noted k e)) (zero-add (length log))))

  pub event_known : Known p.platform back.known event
  event_known = record { entry = made; has = c.knows made (has_mapped (placed m) (entries_of (after_call c.memory c.position (Debug x at b))) _ last); is = refl }

  pub event_object : event.object ≡ Memory m
  event_object = memory_at p.platform m (Hop 0) low

module _ (table tokens : TableId) (frame : Frame Plan) (s : StateView) (note : Held Content Plan) (p : IsPort table tokens frame (with_note s note)) (x : Transfer) (next_is : next_of s.port.engine ≡ Asks x) (settled : HasSettled s.port)
    (kind : x.kind ≡ kinds.DebugRead) where
  abbrev i : Initiator
  i = p.initiator

  abbrev world : Plan
  world = frame.world

  abbrev n : ℕ
  n = s.port.engine.initiator

  abbrev seq : ℕ
  seq = s.port.engine.seq

  abbrev filled : PayloadView
  filled = payload_of s.port.engine 4096

  abbrev before : List Event
  before = events_of world.platform note.knows.known

  pub may_read : MayBeRead frame (with_note s note) x
  may_read = may_be_read table tokens frame (with_note s note) p settled.free x next_is kind

  pub command_read : filled.command ≡ Read
  command_read = (fills.transfer s.port.engine 4096 x next_is).1.command ∙ ap command_in kind

  address_is : filled.address ≡ x.address
  address_is = (fills.transfer s.port.engine 4096 x next_is).1.address

  long : length filled.bytes ≡ x.length
  long = (fills.transfer s.port.engine 4096 x next_is).1.sized

  pub seq_is : x.seq ≡ seq
  seq_is = (fills.transfer s.port.engine 4096 x next_is).0

  -- the ticket and the bytes of it are there
  pub ticket_for : (q : Plan) (k : ℕ) (b : PayloadView) → q ≡ world → k ≡ n → b ≡ filled → (r : Route) → route_at q k b.address ≡ Some r → (0 < left_of s.wallet r.memory) × (payload_cost b ≤ bytes_of s.wallet r.memory)
  ticket_for q k b plan who is r e =
      let here : route_at world n x.address ≡ Some r = ap (route_at world n) (sym (ap (λ (y : PayloadView). y.address) is ∙ address_is)) ∙ (ap (λ (j : ℕ). route_at world j b.address) (sym who) ∙ (ap (λ (z : Plan). route_at z k b.address) (sym plan) ∙ e)) in
      (may_read.ticket r here, subst (λ (y : PayloadView). payload_cost y ≤ bytes_of s.wallet r.memory) (sym is) (may_read.bytes r here))

  pub no_passage_for : (q : Plan) (t : TxnId) → q ≡ world → t ≡ txn_of n seq → passage_of q t ≡ None
  no_passage_for q t plan is = ap (λ (z : Plan). passage_of z t) plan ∙ (ap (passage_of world) is ∙ may_read.no_passage)

  cost_is : (o : ObjectNo) → price world i o seq ≡ price_of world i o (ADebugRead x.address 0)
  cost_is o = is_priced world i s.port before note.knows.seen (left_at world s.wallet) p.way x next_is o ∙ ap (price_by_kind world i o x.address) kind

  there : AreThere world (txn_of i.number seq) (record { hops = hops_of world.platform i x.address; routed = is_some (route_of world.platform i x.address) }) (route_of world.platform i x.address)
  there = there_law world (txn_of i.number seq) i x.address (is_some (route_of world.platform i x.address)) (its table tokens frame s note p) p.style

  seen : (r : Route) → route_at world n x.address ≡ Some r → Seen (route_of world.platform i x.address) r
  seen r q = seen_route _ _ (route_of world.platform i x.address) r (sym (ap (λ (o : Option Initiator). route_by (walk_by world.platform o x.address)) p.is) ∙ q)

  unseen : route_at world n x.address ≡ None → route_of world.platform i x.address ≡ None
  unseen q = none_seen _ _ (route_of world.platform i x.address) (sym (ap (λ (o : Option Initiator). route_by (walk_by world.platform o x.address)) p.is) ∙ q)

  low : (r : Route) → route_at world n x.address ≡ Some r → r.memory < length world.platform.memories
  low r q = leads_to_memory world n x.address r (sym q)

  pub no_fence : is_fenced_part (next_of s.port.engine) ≡ false
  no_fence = ap is_fenced_part next_is ∙ ap is_fenced_kind kind

  -- the bytes of all that comes after it are left
  bytes_then : (w : Purse) (m : ℕ) → m < length world.platform.memories → bytes_of s.wallet m ≤ bytes_of w m + payload_cost filled * leads world i m x.address
      → bytes_left world i m (port_read world i s.port x).engine ≤ bytes_of w m + bytes_under world i m (port_read world i s.port x)
  bytes_then w m there few =
      let e = s.port.engine in
      let old = p.bytes m there in
      let none : bytes_under world i m s.port ≡ 0 = ap (λ (c : Bool). bytes_while world i m c e (next_of e)) settled.free in
      let got : List ℕ = zeros x.length in
      let after = bytes_after world i m 4096 e got x next_is (λ fenced. length-replicate {A = ℕ} x.length 0) in
      let passed : engine_after e got ≡ passed_by e = ap (λ (c : Bool). if c then told_by e got else passed_by e) no_fence in
      let left = subst (λ (d : State). bytes_left world i m d + payload_cost (payload_of e 4096) * leads world i m x.address ≡ bytes_left world i m e) passed after in
      omega (arith, old, none, few, left)

  module _ (back : Held Content Plan) (of : IsNote table back) (within : Within note.knows.known back.knows.known) (below : StandBelow back.knows.known back.knows.seen) where
    abbrev after : List Event
    after = events_of world.platform back.knows.known

    -- the port after it, where this was the reply and this is what the wallet has left
    read_port : (reply : Option Entry) (w : Purse) (b : PayloadView) → s.hand ≡ Free → HasRead world i s.port x after note.knows.seen reply (left_at world s.wallet) (left_at world w) → IsOf tokens w → w.places ≡ s.wallet.places
        → ((o : ℕ) → HasPlace w o → HasPlace s.wallet o) → ((m : ℕ) → bytes_of s.wallet m ≤ bytes_of w m + payload_cost filled * leads world i m x.address) → b.room ≡ 4096
        → IsPort table tokens frame (with_note (record s { port = port_read world i s.port x; hand = s.hand; payload = Some b; wallet = w }) back)
    read_port reply w b free has w_of places kept bytes room =
        moved_port table tokens frame s note p back of within below (port_read world i s.port x) w s.hand (Some b) refl (passed_who s.port.engine (let e = s.port.engine in e.remaining)) (proper_passed s.port.engine (let e = s.port.engine in e.remaining) p.proper refl)
        w_of places (λ o h. p.few_places o (kept o h)) (λ m there. bytes_then w m there (bytes m))
        (debug_read world i s.port before after note.knows.seen back.knows.seen (left_at world s.wallet) (left_at world w) reply p.way (events_more world.platform note.knows.known back.knows.known within)
        (events_below world.platform note.knows.known back.knows.known back.knows.seen below) settled x next_is kind has)
        (subst (λ (hand : Hand). IsInHand frame tokens i (port_read world i s.port x) back.knows.known hand) (sym free) tt) (λ c q. subst GoesBack (sym free) tt) room refl

    -- with a route
    module _ (r : Route) (q : route_at world n x.address ≡ Some r) (v : PayloadView) (c : IsCalled world r.memory (debug_call (txn_of n seq) s.port.time filled r) note.knows back.knows v)
        (w : Purse) (spent : HasSpent tokens r.memory (payload_cost filled) s.wallet w) where
      abbrev f : Seen (route_of world.platform i x.address) r
      f = seen r q

      abbrev e : Event
      e = event world r.memory (txn_of n seq) s.port.time (record filled { address = r.offset }) note.knows back.knows v c (low r q)

      known_e : Known world.platform back.knows.known e
      known_e = event_known world r.memory (txn_of n seq) s.port.time (record filled { address = r.offset }) note.knows back.knows v c (low r q)

      at_memory : e.object ≡ Memory r.memory
      at_memory = event_object world r.memory (txn_of n seq) s.port.time (record filled { address = r.offset }) note.knows back.knows v c (low r q)

      entry_is : IsEntryOf (route_of world.platform i x.address) (asked_for x.kind x.length filled) e.object e.what
      entry_is = subst (λ (k : TransferKind). IsEntryOf (route_of world.platform i x.address) (asked_for k x.length filled) e.object e.what) (sym kind)
          (subst (λ (o : Option model.Route). IsEntryOf o (DebugRead (debug_of x.length)) e.object e.what) (sym f.is)
          (at_memory ∙ ap Memory (sym f.memory), ap (debug_access r.offset) long ∙ ap (λ (o : ℕ). debug_access o x.length) (sym f.offset)))

      way_is : HasWay i.row.style (asked_for x.kind x.length filled) e.what
      way_is = subst (λ (k : TransferKind). HasWay i.row.style (asked_for k x.length filled) e.what) (sym kind) (subst (λ (t : Style). HasWay t (DebugRead (debug_of x.length)) e.what) (sym p.style) refl)

      reply_of_it : IsReplyOf world i e.entry (request world i s.port note.knows.known note.knows.seen (left_at world s.wallet) p.way (its table tokens frame s note p) p.style x next_is)
      reply_of_it = record {
        entry = entry_is;
        way = way_is;
        access = refl;
        place = subst (λ (o : ObjectNo). IsPlaced world.platform n o e.what) (sym at_memory) tt;
      }

      is_reply : IsReplyTo world i after seq e.entry
      is_reply =
          let u = p.way in
          record {
            txn = ap (λ (k : ℕ). txn_of k seq) (sym p.number);
            stands = record { event = e; known = among_known world.platform back.knows.known e known_e; is = refl };
            reply = record {
              replies = u.mine ++ [];
              stand = λ g m. (
                  let k = u.has.within g (has_of u.mine g (subst (λ (l : List Entry). Among l g) (append-nil u.mine) m)) in
                  record { event = k.event; known = events_more world.platform note.knows.known back.knows.known within k.event k.known; is = k.is }
                  );
              request = request world i s.port note.knows.known note.knows.seen (left_at world s.wallet) p.way (its table tokens frame s note p) p.style x next_is;
              asked = next_asked world i s.port before note.knows.seen (left_at world s.wallet) p.way x next_is;
              is = made_for world i e.entry (request world i s.port note.knows.known note.knows.seen (left_at world s.wallet) p.way (its table tokens frame s note p) p.style x next_is) reply_of_it;
            };
            access = refl;
          }

      is_it : (o : ObjectNo) → object_number world.platform o ≡ r.memory → o ≡ Memory r.memory
      is_it o same = only_object world.platform o (Memory r.memory) (subst (λ (m : ℕ). Among (objects_of world.platform) (Memory m)) f.memory (there.memory f.route f.is)) (same ∙ sym (memory_number world.platform r.memory (low r q)))

      gave_at : (k : ℕ) → k ≡ r.memory → left_of w k + 1 ≡ left_of s.wallet k
      gave_at k same = subst (λ (j : ℕ). left_of w j + 1 ≡ left_of s.wallet j) (sym same) (gave_here tokens r.memory 1 (payload_cost filled) s.wallet w spent.gives)

      leads_one : leads world i r.memory x.address ≡ 1
      leads_one = subst (λ (m : ℕ). leads world i m x.address ≡ 1) f.memory (leads_there world i x.address f.route f.is)

      pays : (o : ObjectNo) → left_at world s.wallet o ≤ length (entries_at o (replies_of (Some e.entry))) + left_at world w o
      pays o = elim (cases_eq (object_number world.platform o) r.memory) [
        | inl same ↦ (
            let one : length (entries_at o (e.entry ∷ [])) ≡ 1 = counted_once o e.entry (at_memory ∙ sym (is_it o same)) in
            let gave = gave_at (object_number world.platform o) same in
            omega (arith, one, gave)
            )
        | inr other ↦ (let kept = gave_else tokens r.memory 1 (payload_cost filled) s.wallet w spent.gives (object_number world.platform o) other in omega (arith, kept))
      ]

      keeps : (o : ObjectNo) → left_at world s.wallet o ≤ price world i o seq + left_at world w o
      keeps o = elim (cases_eq (object_number world.platform o) r.memory) [
        | inl same ↦ (
            let one : price_of world i o (ADebugRead x.address 0) ≡ 1 = subst (λ (b : ObjectNo). price_of world i b (ADebugRead x.address 0) ≡ 1) (sym (is_it o same)) leads_one in
            let cost = cost_is o in
            let gave = gave_at (object_number world.platform o) same in
            omega (arith, one, cost, gave)
            )
        | inr other ↦ (let kept = gave_else tokens r.memory 1 (payload_cost filled) s.wallet w spent.gives (object_number world.platform o) other in omega (arith, kept))
      ]

      has_read : HasRead world i s.port x after note.knows.seen (Some e.entry) (left_at world s.wallet) (left_at world w)
      has_read = record {
        no_access = subst (λ (k : ℕ). passage_of world (txn_of k seq) ≡ None) (sym p.number) may_read.no_passage;
        entry = λ g z. subst (IsReplyTo world i after seq) (one_entry e.entry g z) is_reply;
        time = λ g z. ap (λ (y : Entry). y.time) (sym (one_entry e.entry g z));
        later = λ g z. subst (λ (y : Entry). note.knows.seen ≤ y.position) (one_entry e.entry g z) c.late;
        routed = λ is_there. refl;
        pays = pays;
        keeps = keeps;
      }

      spent_bytes : (m : ℕ) → bytes_of s.wallet m ≤ bytes_of w m + payload_cost filled * leads world i m x.address
      spent_bytes m = elim (cases_eq m r.memory) [
        | inl same ↦ (
            let gave : bytes_of w m + payload_cost filled ≡ bytes_of s.wallet m = subst (λ (j : ℕ). bytes_of w j + payload_cost filled ≡ bytes_of s.wallet j) (sym same) (gave_bytes_here tokens r.memory 1 (payload_cost filled) s.wallet w spent.gives) in
            let one : payload_cost filled * leads world i m x.address ≡ payload_cost filled * 1 = ap (λ (k : ℕ). payload_cost filled * k) (subst (λ (j : ℕ). leads world i j x.address ≡ 1) (sym same) leads_one) in
            omega (arith, gave, one)
            )
        | inr other ↦ (let kept = gave_bytes_else tokens r.memory 1 (payload_cost filled) s.wallet w spent.gives m other in omega (arith, kept))
      ]

      called_port : s.hand ≡ Free → v.room ≡ 4096 → IsPort table tokens frame (with_note (record s { port = port_read world i s.port x; hand = s.hand; payload = Some v; wallet = w }) back)
      called_port free room = read_port (Some e.entry) w v free has_read spent.gives.of spent.gives.places spent.within spent_bytes room

      called_entry : FindsAt (Known world.platform back.knows.known) (IsReadOf (txn_of n seq) f.route.memory) s.port.time
      called_entry = record { event = e; known = known_e; is = record { object = at_memory ∙ ap Memory (sym f.memory); txn = refl }; time = refl }

    -- without one
    unread_port : route_at world n x.address ≡ None → (v : PayloadView) → s.hand ≡ Free → v.room ≡ 4096 → IsPort table tokens frame (with_note (record s { port = port_read world i s.port x; hand = s.hand; payload = Some v; wallet = s.wallet }) back)
    unread_port q v free room = read_port None s.wallet v free
        (record {
          no_access = subst (λ (k : ℕ). passage_of world (txn_of k seq) ≡ None) (sym p.number) may_read.no_passage;
          entry = λ g z. absurd (no_entry g z);
          time = λ g z. absurd (no_entry g z);
          later = λ g z. absurd (no_entry g z);
          routed = λ is_there. absurd (no_route (route_of world.platform i x.address) (unseen q) is_there);
          pays = λ o. omega arith;
          keeps = λ o. omega arith;
        })
        p.wallet_of refl (λ o h. h) (λ m. omega arith) room

    -- by what its call has left
    module _ (v : PayloadView) (w : Purse) (asked : HasAsked tokens world n (txn_of n seq) s.port.time filled v note back s.wallet w) (free : s.hand ≡ Free) (room : v.room ≡ 4096) where
      abbrev new_state : StateView
      new_state = record s { port = port_read world i s.port x; hand = s.hand; payload = Some v; wallet = w }

      at_address : (o : Option Route) → route_at world n x.address ≡ o → route_at world n filled.address ≡ o
      at_address o q = ap (route_at world n) address_is ∙ q

      port_by : (o : Option Route) → route_at world n x.address ≡ o → IsPort table tokens frame (with_note new_state back)
      port_by None q = subst (λ (u : Purse). IsPort table tokens frame (with_note (record s { port = port_read world i s.port x; hand = s.hand; payload = Some v; wallet = u }) back)) (sym (asked.none (at_address None q)).1) (unread_port q v free room)
      port_by (Some r) q = called_port r q v (asked.called r (at_address (Some r) q)) w (asked.spent r (at_address (Some r) q)) free room

      entry_by : (o : Option Route) → route_at world n x.address ≡ o → (j : Initiator) (m : model.Route) → j ≡ i → route_of world.platform j x.address ≡ Some m → FindsAt (Known world.platform back.knows.known) (IsReadOf (txn_of n seq) m.memory) s.port.time
      entry_by None q j m same is = absurd (no_model m (sym (unseen q) ∙ (ap (λ (k : Initiator). route_of world.platform k x.address) (sym same) ∙ is)))
      entry_by (Some r) q j m same is =
          let k : (seen r q).route ≡ m = one_route (seen r q).route m (sym (seen r q).is ∙ (ap (λ (k : Initiator). route_of world.platform k x.address) (sym same) ∙ is)) in
          subst (λ (a : model.Route). FindsAt (Known world.platform back.knows.known) (IsReadOf (txn_of n seq) a.memory) s.port.time) k (called_entry r q v (asked.called r (at_address (Some r) q)) w (asked.spent r (at_address (Some r) q)))

      same_note : (o : Option Route) → route_at world n x.address ≡ o → (j : Initiator) → j ≡ i → route_of world.platform j x.address ≡ None → back ≡ note
      same_note None q j same is = (asked.none (at_address None q)).0
      same_note (Some r) q j same is = absurd (no_model (seen r q).route (sym is ∙ (ap (λ (k : Initiator). route_of world.platform k x.address) same ∙ (seen r q).is)))

      who_is : (j : Initiator) → slice_get (initiators_of world) n ≡ Some j → j ≡ i
      who_is j q = one_initiator j i (sym q ∙ p.is)

      pub read_as : (new : StateView) → new ≡ new_state → IsPort table tokens frame (with_note new back)
      read_as new is = subst (λ (t : StateView). IsPort table tokens frame (with_note t back)) (sym is) (port_by (route_at world n x.address) refl)

      pub reads_as : (new : StateView) → new ≡ new_state → ReadsDebug frame (with_note s note) (with_note new back)
      reads_as new is = subst (λ (t : StateView). ReadsDebug frame (with_note s note) (with_note t back)) (sym is) (record {
        transfer = x;
        is_next = next_is;
        kind = kind;
        port = λ j q. ap (λ (k : Initiator). port_read world k s.port x) (sym (who_is j q));
        hand = refl;
        held = refl;
        entry = λ j m q e. entry_by (route_at world n x.address) refl j m (who_is j q) e;
        no_entry = λ j q e. same_note (route_at world n x.address) refl j (who_is j q) e;
      })

      -- with a route it has made an entry of its own
      new_by_route : (o : Option Route) → route_at world n x.address ≡ o → is_some o ≡ true → HasNew (IsByPort world n) note.knows.known back.knows.known
      new_by_route None q routed = cc
      new_by_route (Some r) q routed =
          let called = asked.called r (at_address (Some r) q) in
          own_at_memory world n note.knows back.knows p.below r.memory (txn_of n seq) (low r q) refl
          (memory_adds world r.memory (txn_of n seq) note.knows back.knows (low r q) (call_adds world r.memory (debug_call (txn_of n seq) s.port.time filled r) note.knows back.knows v called tt))

      pub read_new : (m : Moved) → m ≡ read_moved world (with_note s note) x → m.entry ≡ true → HasNew (IsByPort world n) note.knows.known back.knows.known
      read_new m is entry = new_by_route (route_at world n x.address) refl (sym (ap (λ (k : Moved). k.entry) is) ∙ entry)

  pub low_for : (q : Plan) (k : ℕ) → q ≡ world → k ≡ n → k < length q.platform.initiators
  low_for q k plan who = subst (λ (z : Plan). k < length z.platform.initiators) (sym plan) (subst (λ (j : ℕ). j < length world.platform.initiators) (sym who) (stands table tokens frame s note p))

  -- what it comes to
  pub moved_as : (q : Plan) (k : ℕ) (o : Option Route) (b : Bool) (m : Moved) → q ≡ world → k ≡ n → o ≡ route_at q k x.address → b ≡ is_some o → m ≡ record { entry = b; pumped = Some Did }
      → (y : Transfer) → next_of s.port.engine ≡ Asks y → m ≡ read_moved world (with_note s note) y
  moved_as q k o b m plan who route told is y y_is =
      let here : o ≡ route_at world n y.address =
      route ∙ (ap (λ (z : Plan). route_at z k x.address) plan ∙ (ap (λ (j : ℕ). route_at world j x.address) who ∙ ap (λ (z : Transfer). route_at world n z.address) (one_transfer x y (sym next_is ∙ y_is)))) in
      is ∙ ap (λ (c : Bool). record { entry = c; pumped = Some Did }) (told ∙ ap is_some here)

  -- its payload is filled
  pub room_taken : (b : PayloadView) → s.payload ≡ Some b → b.room ≡ 4096
  room_taken b is = subst (λ (o : Option PayloadView). IfSome o (λ (y : PayloadView). y.room ≡ 4096)) is p.payload

  pub filled_is : (a : StateView) (b v : PayloadView) → a ≡ record s { payload = None } → s.payload ≡ Some b → v ≡ payload_of a.port.engine b.room → v ≡ filled
  filled_is a b v taken is fill = fill ∙ (ap (payload_of a.port.engine) (room_taken b is) ∙ ap (λ (t : StateView). payload_of t.port.engine 4096) taken)

  pub room_back : (v w : PayloadView) → w ≡ filled → v.room ≡ w.room → v.room ≡ 4096
  room_back v w is same = same ∙ (ap (λ (y : PayloadView). y.room) is ∙ room_of_payload 4096 s.port.engine)

  pub filled_state : (a b c : StateView) (v : PayloadView) (w : Purse) → a ≡ record s { payload = None } → b ≡ record a { wallet = w } → c ≡ record b { payload = Some v } → c ≡ record s { payload = Some v; wallet = w }
  filled_state a b c v w first second third = third ∙ ap (λ (t : StateView). record t { payload = Some v }) (second ∙ ap (λ (t : StateView). record t { wallet = w }) first)

  pub room_then : (c : StateView) (v : PayloadView) (w : Purse) → c ≡ record s { payload = Some v; wallet = w } → length c.port.refused < c.room
  room_then c v w is = subst (λ (t : StateView). length t.port.refused < t.room) (sym is) (room_told table tokens frame s note p x next_is settled.free)

  -- the steps of it leave this state
  pub after_steps : (q : Plan) → q ≡ world → (a b c d : StateView) (v : PayloadView) (w : Purse) → a ≡ record s { payload = None } → b ≡ record a { wallet = w } → c ≡ record b { payload = Some v }
      → ((j : Initiator) → slice_get (initiators_of q) c.port.engine.initiator ≡ Some j → d ≡ with_port c (port_read q j c.port x)) → d ≡ record s { port = port_read world i s.port x; hand = s.hand; payload = Some v; wallet = w }
  after_steps q plan a b c d v w first second third fourth =
      let is = filled_state a b c v w first second third in
      let who : slice_get (initiators_of q) c.port.engine.initiator ≡ Some i = ap (λ (z : Plan). slice_get (initiators_of z) c.port.engine.initiator) plan ∙ (ap (λ (t : StateView). slice_get (initiators_of world) t.port.engine.initiator) is ∙ p.is) in
      fourth i who ∙ (ap (λ (z : Plan). with_port c (port_read z i c.port x)) plan ∙ ap (λ (t : StateView). with_port t (port_read world i t.port x)) is)

  -- its call, by the values that the code has
  pub asked_as : (q : Plan) (k : ℕ) (t : TxnId) (at : ℕ) (b v : PayloadView) (back : Held Content Plan) (u w : Purse) → q ≡ world → k ≡ n → t ≡ txn_of n seq → at ≡ s.port.time → b ≡ filled → u ≡ s.wallet
      → HasAsked tokens q k t at b v note back u w → HasAsked tokens world n (txn_of n seq) s.port.time filled v note back s.wallet w
  asked_as q k t at b v back u w plan who txn time is from asked =
      subst (λ (z : Purse). HasAsked tokens world n (txn_of n seq) s.port.time filled v note back z w) from
      (subst (λ (z : PayloadView). HasAsked tokens world n (txn_of n seq) s.port.time z v note back u w) is
      (subst (λ (z : ℕ). HasAsked tokens world n (txn_of n seq) z b v note back u w) time
      (subst (λ (z : TxnId). HasAsked tokens world n z at b v note back u w) txn
      (subst (λ (z : ℕ). HasAsked tokens world z t at b v note back u w) who
      (subst (λ (z : Plan). HasAsked tokens z k t at b v note back u w) plan asked)))))
