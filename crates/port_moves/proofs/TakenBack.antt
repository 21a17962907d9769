-- A port that has taken an access back is a port.
use Rattle.std.proofs.Common.{◌≡◌, ◌⊎◌, ℕ, ◌+◌, ◌*◌, ◌<◌, ◌≤◌, Bool, true, false, List, [], ◌∷◌, ◌++◌, length, Option, Some, None, IsSome, refl, sym, ap, ◌∙◌, subst, inl, inr, arith}
use Rattle.std.specs.Prelude.{IfSome, slice_get}
use Rattle.std.specs.List.{AllByRecursion}
use Rattle.std.proofs.lemmas.Grind.{common_steps}
use Rattle.std.proofs.lemmas.List.Sums.{sum_by-cons}
use Rattle.atomic_table.specs.Seated.{TableId}
use Rattle.view_lists.specs.Lists.{Within}
use Rattle.one_history.specs.Held.{Held}
use Rattle.one_history.specs.Lists.{StandBelow}
use Rattle.one_history.specs.declared.view.Frame.{Frame}
use Rattle.shared_object.specs.Steps.{IsNote}
use Rattle.tlm_types.specs.declared.entry.Content.{Content}
use Rattle.tlm_model.specs.declared.operation.Operation.{Operation}
use Rattle.tlm_model.specs.Plan.{Plan, Initiator, initiators_of}
use Rattle.traffic_script.specs.Proper.{IsProper}
use Rattle.token_book.specs.Purse.{HasPlace, IsOf, Purse, bytes_of, empty_purse}
use Rattle.token_book.specs.Ticket.{IsTicket}
use Rattle.token_book.specs.declared.ticket.Ticket.{Ticket}
use Rattle.generic_payload.specs.Payload.{PayloadView}
use Rattle.payload_pool.specs.declared.baton.Baton.{Baton}
use Rattle.flow_model.specs.Events.{Among, FindsAt, IsRelease}
use Rattle.cargo_model.specs.declared.cargo.Cargo.{Cargo}
use Rattle.cargo_model.specs.Known.{Known, object_number, objects_of}
use Rattle.cargo_model.specs.Tickets.{Pulls}
use Rattle.script_engine.specs.declared.part.Part.{Part}
use Rattle.script_engine.specs.declared.part.Part.TheVariants.{Asks}
use Rattle.script_engine.specs.declared.part.Transfer.{Transfer}
use Rattle.script_engine.specs.Part.{IsReadKind, IsReadPart, is_fenced_kind, length_by, part_of}
use Rattle.script_engine.specs.State.{Due, State, next_of, op_at, op_of, payload_of, told_at, told_by}
use Rattle.script_engine.proofs.States.{state}
use Rattle.region_object.specs.Call.{payload_cost}
use Rattle.initiator_run.specs.Left.{bytes_at, bytes_left, leads}
use Rattle.initiator_run.proofs.LeftLemmas.{cost_at}
use Rattle.port_model.specs.Laws.{Removes}
use Rattle.port_model.specs.Way.{IsUnderWay, Port}
use Rattle.port_model.proofs.Begins.{keeps_stray}
use Rattle.port_model.proofs.Ops.{fenced_transfer}
use Rattle.port_end.specs.Arrives.{events_of}
use Rattle.port_end.proofs.Arrives.{knows_more as events_more, stand_below as events_below}
use Rattle.plat_net.specs.PoolCalls.{CanStow}
use Rattle.port_moves.specs.Moves.{PutsStray, TakesBack, port_back}
use Rattle.port_moves.specs.Reach.{own_pool}
use Rattle.port_moves.specs.Returned.{IsTold, MayBeTold, TakesAll}
use Rattle.port_moves.specs.State.{GoesBack, IsEnded, IsHandOf, IsHeld, IsInHand, IsPort, StateView, bytes_under, bytes_while, left_at, with_note}
use Rattle.port_moves.specs.declared.hand.Hand.{Hand}
use Rattle.port_moves.specs.declared.hand.Hand.TheVariants.{Ended, Released}
use Rattle.port_moves.proofs.Backs.{its}
use Rattle.port_moves.proofs.Goes.{ended_stows}
use Rattle.port_moves.proofs.HandsMore.{ended_more, held_more}
use Rattle.port_moves.proofs.PortFacts.{waits_for_it}
use Rattle.port_moves.proofs.Proper.{proper_told}
use Rattle.port_moves.proofs.TakeBack.{long_back, takes_fenced_back, takes_plain_back}
use Rattle.port_moves.proofs.TakesIn.{few_then}

-- what was refused may go down by another port, at the same current time
pub held_by : (frame : Frame Plan) (tokens : TableId) (i : Initiator) (port q : Port) (known : List _) → q.time ≡ port.time → (held : Option Cargo) → IsHeld frame tokens i port known held → IsHeld frame tokens i q known held
held_by frame tokens i port q known same None h = tt
held_by frame tokens i port q known same (Some c) h = record {
  own = h.own;
  pass = h.pass;
  passes = h.passes;
  down = h.down;
  taken = (let f = h.taken in record { event = f.event; known = f.known; is = f.is; time = f.time ∙ sym same });
}

told_number : (e : State) (got : List ℕ) (due : Option Due) → (told_at e got due).initiator ≡ e.initiator
told_number e got due = grind (arith, common_steps)

-- the bytes that are left once the engine was told
told_left_at : (p : Plan) (i : Initiator) (m room n s : ℕ) (due : Option Due) (ops : List Operation) (b : Bool) (got : List ℕ) (x : Transfer) → part_of (op_at s due ops) ≡ Asks x → is_fenced_kind x.kind ≡ true
    → (IsReadKind x.kind → length got ≡ x.length)
    → bytes_left p i m (told_by (state n s due ops b) got) + bytes_at p i m x.address (cost_at room due ops) ≡ bytes_left p i m (state n s due ops b)
told_left_at p i m room n s due ops b got x is fenced whole = grind (arith, common_steps, sum_by-cons)

read_whole : (part : Part) (x : Transfer) (got : List ℕ) → part ≡ Asks x → (IsReadPart part → length got ≡ length_by part) → IsReadKind x.kind → length got ≡ x.length
read_whole part x got is whole = (subst (λ (q : Part). IsReadPart q → length got ≡ length_by q) is whole)

module _ (table tokens : TableId) (frame : Frame Plan) (s : StateView) (note : Held Content Plan) (p : IsPort table tokens frame (with_note s note)) (back : Held Content Plan) (of : IsNote table back) (within : Within note.knows.known back.knows.known)
    (below : StandBelow back.knows.known back.knows.seen) where
  abbrev i : Initiator
  i = p.initiator

  -- the port with another script, other tickets, and something else to work on
  pub moved_port : (q : Port) (w : Purse) (hand : Hand) (b : Option PayloadView) → q.time ≡ s.port.time → q.engine.initiator ≡ s.port.engine.initiator → AllByRecursion IsProper q.engine.remaining → IsOf tokens w → w.places ≡ s.wallet.places
      → ((o : ℕ) → HasPlace w o → o < length (objects_of frame.world.platform))
      → ((m : ℕ) → m < length frame.world.platform.memories → bytes_left frame.world i m q.engine ≤ bytes_of w m + bytes_under frame.world i m q)
      → IsUnderWay frame.world i q (events_of frame.world.platform back.knows.known) back.knows.seen (left_at frame.world w)
      → IsInHand frame tokens i q back.knows.known hand → ((c : Cargo) → s.held ≡ Some c → GoesBack hand) → IfSome b (λ (v : PayloadView). v.room ≡ 4096) → IsSome b
      → IsPort table tokens frame (with_note (record s { port = q; hand = hand; payload = b; wallet = w }) back)
  moved_port q w hand b time who proper wallet places few bytes way in_hand alone room some = record {
    no_cycle = p.no_cycle;
    initiator = i;
    is = subst (λ (n : ℕ). slice_get (initiators_of frame.world) n ≡ Some i) (sym who) p.is;
    style = p.style;
    number = p.number ∙ sym who;
    note_of = of;
    below = below;
    wallet_of = wallet;
    places = places ∙ p.places;
    few_places = few;
    bytes = bytes;
    way = way;
    in_hand = in_hand;
    is_held = held_by frame tokens i s.port q back.knows.known time s.held (held_more frame tokens i s.port note.knows.known back.knows.known within s.held p.is_held);
    alone = alone;
    payload = room;
    has_payload = some;
    roomy = p.roomy;
    proper = proper;
  }

  module _ (c : Cargo) (end : ℕ) (h : IsHandOf frame tokens (with_note s note) (Ended c end)) (second z w : Purse) (first : Pulls tokens (own_pool frame.world s.port.engine.initiator) 0 c.baton.wallet second)
      (last : Pulls tokens (own_pool frame.world s.port.engine.initiator) 0 second z) (takes : TakesAll tokens s.wallet z w) where
    over_now : IsEnded frame tokens i s.port back.knows.known c end
    over_now = ended_more frame tokens i s.port note.knows.known back.knows.known within c end (h i p.is)

    same_pool : own_pool frame.world s.port.engine.initiator ≡ own_pool frame.world (let x = c.baton.txn in x.initiator)
    same_pool = ap (own_pool frame.world) (sym (over_now.own ∙ p.number))

    first_own : Pulls tokens (own_pool frame.world (let x = c.baton.txn in x.initiator)) 0 c.baton.wallet second
    first_own = subst (λ (n : ℕ). Pulls tokens n 0 c.baton.wallet second) same_pool first

    last_own : Pulls tokens (own_pool frame.world (let x = c.baton.txn in x.initiator)) 0 second z
    last_own = subst (λ (n : ℕ). Pulls tokens n 0 second z) same_pool last

    abbrev seq : ℕ
    seq = let x = c.baton.txn in x.seq

    it_waits : s.port.waiting ≡ true → Among s.port.away seq → seq ≡ s.port.engine.seq
    it_waits waits away = waits_for_it frame.world i s.port (events_of frame.world.platform note.knows.known) note.knows.seen (left_at frame.world s.wallet) p.way waits seq away

    pub may_tell : MayBeTold s.port seq c.baton.payload.bytes
    may_tell away waits = (
      p.way.asking.fenced waits,
      long_back frame tokens i s.port note.knows.known back.knows.known note.knows.seen back.knows.seen (left_at frame.world s.wallet) (left_at frame.world w) p.way within below p.no_cycle (its table tokens frame s note p) p.style c end over_now second z
          first_own last_own (λ o. takes.left _) waits (it_waits waits away),
    )

    way_back : (b : Bool) → s.port.waiting ≡ b → (away : List ℕ) → Removes s.port.away seq away
        → IsUnderWay frame.world i (port_back s.port away end c.baton.payload.bytes b) (events_of frame.world.platform back.knows.known) back.knows.seen (left_at frame.world w)
    way_back false quiet away removes =
        takes_plain_back frame tokens i s.port note.knows.known back.knows.known note.knows.seen back.knows.seen (left_at frame.world s.wallet) (left_at frame.world w) p.way within below p.no_cycle (its table tokens frame s note p) p.style c end over_now second z
        first_own last_own away removes (λ o. takes.left _) quiet
    way_back true waits away removes =
        takes_fenced_back frame tokens i s.port note.knows.known back.knows.known note.knows.seen back.knows.seen (left_at frame.world s.wallet) (left_at frame.world w) p.way within below p.no_cycle (its table tokens frame s note p) p.style c end over_now second z
        first_own last_own away removes (λ o. takes.left _) waits (it_waits waits removes.had)

    bytes_back : (b : Bool) → s.port.waiting ≡ b → (away : List ℕ) → Removes s.port.away seq away → (m : ℕ) → m < length frame.world.platform.memories
        → bytes_left frame.world i m (port_back s.port away end c.baton.payload.bytes b).engine ≤ bytes_of w m + bytes_under frame.world i m (port_back s.port away end c.baton.payload.bytes b)
    bytes_back false quiet away removes m there =
        let old = p.bytes m there in
        let none : bytes_under frame.world i m s.port ≡ 0 = ap (λ (t : Bool). bytes_while frame.world i m t s.port.engine (next_of s.port.engine)) quiet in
        let more = takes.bytes_left m in
        let none2 : bytes_under frame.world i m (port_back s.port away end c.baton.payload.bytes false) ≡ 0 = none in
        omega (arith, old, none, more, none2)
    bytes_back true waits away removes m there =
        let e = s.port.engine in
        let f = fenced_transfer (part_of (op_of e)) (p.way.asking.fenced waits) in
        let old = p.bytes m there in
        let under : bytes_under frame.world i m s.port ≡ payload_cost (payload_of e 4096) * leads frame.world i m f.transfer.address =
        ap (λ (t : Bool). bytes_while frame.world i m t e (next_of e)) waits ∙ ap (bytes_while frame.world i m true e) f.is in
        let whole = (may_tell removes.had waits).1 in
        let told = told_left_at frame.world i m 4096 e.initiator e.seq e.due e.remaining e.ended c.baton.payload.bytes f.transfer f.is f.fenced (read_whole (part_of (op_of e)) f.transfer c.baton.payload.bytes f.is whole) in
        let more = takes.bytes_left m in
        omega (arith, old, under, told, more)

    who_back : (b : Bool) (away : List ℕ) → (port_back s.port away end c.baton.payload.bytes b).engine.initiator ≡ s.port.engine.initiator
    who_back false away = refl
    who_back true away = told_number s.port.engine c.baton.payload.bytes (let e = s.port.engine in e.due)

    proper_back : (b : Bool) (away : List ℕ) → AllByRecursion IsProper (port_back s.port away end c.baton.payload.bytes b).engine.remaining
    proper_back false away = p.proper
    proper_back true away = proper_told s.port.engine c.baton.payload.bytes (let e = s.port.engine in e.due) p.proper

    time_back : (b : Bool) (away : List ℕ) → (port_back s.port away end c.baton.payload.bytes b).time ≡ s.port.time
    time_back false away = refl
    time_back true away = refl

    module _ (b : Baton) (is : b ≡ (let a = c.baton in record a { wallet = empty_purse 12 })) (t : Ticket) (t_of : IsTicket tokens (own_pool frame.world s.port.engine.initiator) t) where
      released : (q : Port) → IsInHand frame tokens i q back.knows.known (Released b t end)
      released q = record {
        stow = subst (λ (a : Baton). CanStow frame tokens i.number a end back.knows.known) (sym is) (ended_stows frame tokens i s.port note.knows.known back.knows.known within c end over_now);
        of = subst (λ (n : ℕ). IsTicket tokens (own_pool frame.world n) t) (sym p.number) t_of;
      }

      back_by : (f : Bool) → s.port.waiting ≡ f → (away : List ℕ) → Removes s.port.away seq away
          → IsPort table tokens frame (with_note (record s { port = port_back s.port away end c.baton.payload.bytes f; hand = Released b t end; payload = s.payload; wallet = w }) back)
      back_by f is away removes = moved_port (port_back s.port away end c.baton.payload.bytes f) w (Released b t end) s.payload (time_back f away) (who_back f away) (proper_back f away) takes.of takes.places
          (few_then table tokens frame s note p c end h second z first last w takes) (bytes_back f is away removes) (way_back f is away removes) (released _) (λ d e. tt) p.payload p.has_payload

      stray : IsPort table tokens frame (with_note (record s { port = s.port; hand = Released b t end; payload = s.payload; wallet = w }) back)
      stray = moved_port s.port w (Released b t end) s.payload refl refl p.proper takes.of takes.places (few_then table tokens frame s note p c end h second z first last w takes)
          (λ m there. (let old = p.bytes m there in let more = takes.bytes_left m in omega (arith, old, more)))
          (keeps_stray frame.world i s.port (events_of frame.world.platform note.knows.known) (events_of frame.world.platform back.knows.known) note.knows.seen back.knows.seen (left_at frame.world s.wallet) (left_at frame.world w) p.way
          (events_more frame.world.platform note.knows.known back.knows.known within) (events_below frame.world.platform note.knows.known back.knows.known back.knows.seen below)
          (λ o. (let more = takes.left (object_number frame.world.platform o) in omega (arith, more))))
          (released _) (λ d e. tt) p.payload p.has_payload

      -- the state after the steps
      abbrev mid : StateView
      mid = record s { wallet = w }

      pub back_port : (u v : StateView) → IsTold seq end c.baton.payload.bytes mid u → v ≡ record u { hand = Released b t end } → IsPort table tokens frame (with_note v back)
      back_port u v (inl k) q = subst (λ (x : StateView). IsPort table tokens frame (with_note x back)) (sym (q ∙ ap (λ (x : StateView). record x { hand = Released b t end }) k.is)) (back_by s.port.waiting refl k.away k.removes)
      back_port u v (inr k) q = subst (λ (x : StateView). IsPort table tokens frame (with_note x back)) (sym (q ∙ ap (λ (x : StateView). record x { hand = Released b t end }) k.0)) stray

      pub back_move : (u v : StateView) → IsTold seq end c.baton.payload.bytes mid u → v ≡ record u { hand = Released b t end }
          → (freed : Bool) → FindsAt (Known frame.world.platform back.knows.known) (IsRelease c.baton.txn 0 freed) end → back.knows.looks ≡ note.knows.looks ++ (own_pool frame.world s.port.engine.initiator, 0) ∷ []
          → TakesBack frame c end (with_note s note) (with_note v back) ⊎ PutsStray frame c end (with_note s note) (with_note v back)
      back_move u v (inl k) q freed made look =
          inl (subst (λ (x : StateView). TakesBack frame c end (with_note s note) (with_note x back)) (sym (q ∙ ap (λ (x : StateView). record x { hand = Released b t end }) k.is))
          (record { freed = freed; released = made; away = k.away; removes = k.removes; port = refl; hand = refl; txn = ap (λ (a : Baton). Some a.txn) is; held = refl; look = look }))
      back_move u v (inr k) q freed made look =
          inr (subst (λ (x : StateView). PutsStray frame c end (with_note s note) (with_note x back)) (sym (q ∙ ap (λ (x : StateView). record x { hand = Released b t end }) k.0))
          (record { stray = k.1; keeps = record { port = refl; room = refl; known = within }; hand = refl; txn = ap (λ (a : Baton). Some a.txn) is; held = refl; look = look }))
