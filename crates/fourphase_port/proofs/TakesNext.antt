-- A port that takes the access that is next may do so, and is a port afterwards.
use Rattle.std.proofs.Common.{◌≡◌, ◌⊎◌, ℕ, zero, suc, ◌+◌, ◌*◌, ◌-◌, ◌<◌, ◌≤◌, ◌==◌, if◌then◌else◌, Bool, true, false, not, List, [], ◌∷◌, ◌++◌, length, length-append, Option, Some, None, IsSome, refl, sym, ap, ◌∙◌, subst, inl, inr, arith}
use Rattle.std.specs.List.{AllByRecursion, filter}
use Rattle.std.proofs.lemmas.Bool.{cases_eq, eq-eqb, ne_eqb}
use Rattle.std.proofs.lemmas.List.{length-map, length-replicate}
use Rattle.std.proofs.lemmas.List.Filters.{length-filter_both}
use Rattle.atomic_table.specs.Seated.{TableId}
use Rattle.view_lists.specs.Lists.{Within}
use Rattle.one_history.specs.Held.{Held}
use Rattle.one_history.specs.Lists.{StandBelow}
use Rattle.one_history.specs.declared.view.Frame.{Frame}
use Rattle.shared_object.specs.Steps.{IsNote}
use Rattle.tlm_types.specs.declared.entry.Content.{Content}
use Rattle.tlm_types.specs.declared.words.ObjectNo.{ObjectNo}
use Rattle.tlm_model.specs.declared.operation.Operation.{Operation}
use Rattle.tlm_model.specs.Plan.{Plan, Initiator}
use Rattle.tlm_model.specs.Requests.{Request, has_no_route}
use Rattle.tlm_model.specs.Store.{zeros}
use Rattle.std.specs.FinMap as map
use Rattle.std.specs.FinMap.{get-empty}
use Rattle.std.specs.Ordering.{nat_cmp}
use Rattle.traffic_script.specs.Proper.{IsProper}
use Rattle.token_book.specs.Pocket.{Pocket}
use Rattle.token_book.specs.Purse.{HasPlace, HasRoom, IsOf, Purse, bytes_of, empty_purse, left_in, left_of}
use Rattle.port_moves.specs.Wallets.{Gets}
use Rattle.port_moves.specs.declared.hand.Hand.TheVariants.{Free}
use Rattle.port_model.proofs.Begins.{keeps_stray}
use Rattle.port_end.proofs.Arrives.{knows_more as events_more, stand_below as events_below}
use Rattle.cargo_model.specs.Known.{object_number, objects_of}
use Rattle.view_lists.specs.Lists.{Has}
use Rattle.port_moves.specs.Stocks.{MayStock}
use Rattle.port_moves.proofs.AwayLemmas.{among_of}
use Rattle.port_moves.proofs.PortFacts.{next_is_new}
use Rattle.port_moves.proofs.Proper.{proper_passed}
use Rattle.port_moves.proofs.TakesIn.{same_pulled}
use Rattle.region_object.specs.Call.{payload_cost}
use Rattle.payload_pool.specs.declared.baton.Baton.{Baton}
use Rattle.flow_model.specs.Events.{Event, FindsAt, IsTake}
use Rattle.flow_model.specs.Platform.{passage_of}
use Rattle.flow_model.specs.World.{Passage}
use Rattle.cargo_model.specs.declared.cargo.Cargo.{Cargo}
use Rattle.cargo_model.specs.Known.{Known}
use Rattle.cargo_model.specs.Tickets.{Pulls}
use Rattle.cargo_net.specs.Pools.{HasTaken}
use Rattle.initiator_run.specs.Left.{bytes_left, leads}
use Rattle.initiator_run.specs.Run.{engine_after}
use Rattle.initiator_run.proofs.LeftLemmas.{bytes_after}
use Rattle.joined_traffic.specs.Accesses.{sum_below, txn_of}
use Rattle.plat_net.specs.PoolCalls.{CanStart, CanTake}
use Rattle.port_end.specs.Arrives.{events_of}
use Rattle.port_model.specs.Issues.{IsPlainKind}
use Rattle.port_model.specs.Laws.{HasSettled}
use Rattle.port_model.specs.Stages.{Stage, count_of, end_by, price, under_by}
use Rattle.port_model.specs.Stages.Stage.{Ahead, Under, Back}
use Rattle.port_model.specs.Way.{IsUnderWay, Port, pending}
use Rattle.port_model.proofs.Ops.{IsAccessKind, more_numbers, seq_of}
use Rattle.script_engine.specs.declared.part.Part.TheVariants.{Asks}
use Rattle.script_engine.specs.declared.part.Transfer.{Transfer}
use Rattle.script_engine.specs.declared.part.TransferKind.{TransferKind}
use Rattle.script_engine.specs.declared.part.TransferKind.TheVariants as kinds
use Rattle.script_engine.specs.Part.{is_fenced_kind, is_fenced_part}
use Rattle.script_engine.specs.State.{State, next_of, passed_by, passed_over, payload_of, told_by}
use Rattle.port_moves.specs.Loaded.{IsAccessOf}
use Rattle.port_moves.specs.Loaded.{IsLoaded, filled_baton, taken_state}
use Rattle.port_moves.specs.Moves.{port_taken}
use Rattle.fourphase_port.specs.Moves.{MayTakeKind, MayTakeNext, Takes}
use Rattle.port_moves.specs.Reach.{own_pool}
use Rattle.fourphase_port.specs.Moves.{TakesLate}
use Rattle.port_moves.specs.State.{GoesBack, IsInHand, IsPort, StateView, bytes_under, bytes_while, left_at, with_note}
use Rattle.port_moves.specs.declared.hand.Hand.{Hand}
use Rattle.port_moves.specs.declared.hand.Hand.TheVariants.{Taken}
use Rattle.port_moves.proofs.Backs.{its, pool_is_there}
use Rattle.port_moves.proofs.Loads.{bytes_paid, same_bytes}
use Rattle.fourphase_port.proofs.MayStocks.{has_paid, may_start, may_stock}
use Rattle.fourphase_port.proofs.NextIsAsked.{access_passes, way}
use Rattle.port_moves.proofs.TakenBack.{moved_port}
use Rattle.fourphase_port.proofs.Taking.{takes_fenced, takes_plain}

free_by : (port : Port) (k : TransferKind) → MayTakeKind port k → port.waiting ≡ false
free_by port (kinds.Access command plain false) m = m
free_by port (kinds.Access command plain true) m = m.free
free_by port kinds.DebugRead m = absurd m

access_by : (port : Port) (k : TransferKind) → MayTakeKind port k → IsAccessOf k
access_by port (kinds.Access command plain fenced) m = tt
access_by port kinds.DebugRead m = absurd m

kind_by : (k : TransferKind) → IsAccessOf k → IsAccessKind k
kind_by (kinds.Access command plain fenced) m = tt
kind_by kinds.DebugRead m = absurd m

settled_by : (port : Port) (k : TransferKind) → MayTakeKind port k → is_fenced_kind k ≡ true → HasSettled port
settled_by port (kinds.Access command plain false) m q = cc
settled_by port (kinds.Access command plain true) m q = m
settled_by port kinds.DebugRead m q = absurd m

plain_by : (k : TransferKind) → IsAccessOf k → is_fenced_kind k ≡ false → IsPlainKind k
plain_by (kinds.Access command plain fenced) m q = q
plain_by kinds.DebugRead m q = absurd m

pub none_in : (t : TableId) (v : Purse) → v ≡ empty_purse 12 → IsOf t v
none_in t v q o k e = absurd (clash _ (ap (λ (w : Purse). map.get w.held o) q ∙ get-empty nat_cmp o) e)
  where
    clash : (z : Option Pocket) → z ≡ None → z ≡ Some k → ⊥
    clash z f g = cc

pub has_place : (v : Purse) (o : ℕ) → 0 < left_of v o → HasPlace v o
has_place v o some = by (map.get v.held o) some
  where
    by : (q : Option Pocket) → 0 < left_in q → IsSome q
    by None some = absurd (omega (arith, some))
    by (Some k) some = refl

-- what holds no ticket may have given one
self_pulls : (tokens : TableId) (v : Purse) (object : ℕ) → IsOf tokens v → left_of v object ≡ 0 → Pulls tokens object 0 v v
self_pulls tokens v object of none = record {
  of = of;
  places = refl;
  left = λ o. elim (cases_eq o object) [
    | inl same ↦ (
        let here : left_of v o ≡ left_of v object = ap (left_of v) same in
        let less : left_of v object ≡ left_of v object - 1 = omega (arith, none) in
        (here ∙ less) ∙ sym (ap (λ (t : Bool). if t then left_of v object - 1 else left_of v o) (eq-eqb o object same))
        )
    | inr other ↦ sym (ap (λ (t : Bool). if t then left_of v object - 1 else left_of v o) (ne_eqb o object other))
  ];
  bytes_left = λ o. elim (cases_eq o object) [
    | inl same ↦ (
        let here : bytes_of v o ≡ bytes_of v object = ap (bytes_of v) same in
        let less : bytes_of v object ≡ bytes_of v object - 0 = omega arith in
        (here ∙ less) ∙ sym (ap (λ (t : Bool). if t then bytes_of v object - 0 else bytes_of v o) (eq-eqb o object same))
        )
    | inr other ↦ sym (ap (λ (t : Bool). if t then bytes_of v object - 0 else bytes_of v o) (ne_eqb o object other))
  ];
}

few_kept : {X : Type 0} (p : X → Bool) (xs : List X) → length (filter p xs) ≤ length xs
few_kept p xs = let q = length-filter_both p (λ x. not (p x)) (λ x. refl) xs in omega (arith, q)

few_by : (v : Stage) → under_by v ≤ 1
few_by Ahead = omega arith
few_by Under = omega arith
few_by (Back end calls) = omega arith

few_under : (stage : ℕ → Stage) (n : ℕ) → sum_below (λ s. under_by (stage s)) n ≤ n
few_under stage zero = omega arith
few_under stage (suc n) = let r = few_under stage n in let b = few_by (stage n) in omega (arith, r, b)

low_or_last : (k n : ℕ) → k < suc n → (k < n) ⊎ (k ≡ n)
low_or_last k n l = grind arith

-- one that isn't among them leaves room for it
fewer_under : (stage : ℕ → Stage) (n k : ℕ) → k < n → under_by (stage k) ≡ 0 → sum_below (λ s. under_by (stage s)) n < n
fewer_under stage zero k l q = absurd (omega (arith, l))
fewer_under stage (suc n) k l q = elim (low_or_last k n l) [
  | inl low ↦ (let r = fewer_under stage n k low q in let b = few_by (stage n) in omega (arith, r, b))
  | inr same ↦ (
      let here : under_by (stage n) ≡ 0 = subst (λ (j : ℕ). under_by (stage j) ≡ 0) same q in
      let r = few_under stage n in
      omega (arith, r, here)
      )
]

pub passed_who : (e : State) (ops : List Operation) → (passed_over e ops).initiator ≡ e.initiator
passed_who e [] = refl
passed_who e (op ∷ ops) = refl

module _ (table tokens : TableId) (frame : Frame Plan) (s : StateView) (note : Held Content Plan) (p : IsPort table tokens frame (with_note s note)) (x : Transfer) (next_is : next_of s.port.engine ≡ Asks x) (quiet : s.port.waiting ≡ false) where
  made_so_far : length (p.way.made) ≡ s.port.engine.seq
  made_so_far =
      let a = p.way.asking in
      let none : length (pending s.port.waiting s.port.engine a.blocking p.way.step) ≡ 0 = ap (λ (b : Bool). length (pending b s.port.engine a.blocking p.way.step)) quiet in
      let parts = ap length a.is_made ∙ length-append a.passed (pending s.port.waiting s.port.engine a.blocking p.way.step) in
      omega (arith, parts, none, a.count)

  next_below : s.port.engine.seq < count_of p.initiator
  next_below = subst (λ (k : ℕ). s.port.engine.seq < k) p.way.asking.numbers (more_numbers s.port.engine x next_is)

  -- one more may be told as refused
  pub room_told : length s.port.refused < s.room
  room_told =
      let u = p.way in
      let is = ap length (u.refused (λ k. end_by (u.stage k)) (λ k b. refl)) ∙ length-map _ _ in
      let few = few_kept (λ (r : Request). has_no_route frame.world.platform p.initiator r r.asked) u.made in
      omega (arith, is, few, made_so_far, next_below, p.roomy)

module _ (table tokens : TableId) (frame : Frame Plan) (s : StateView) (note : Held Content Plan) (p : IsPort table tokens frame (with_note s note)) (x : Transfer) (next_is : next_of s.port.engine ≡ Asks x) (may : MayTakeNext s.port x) where
  abbrev i : Initiator
  i = p.initiator

  abbrev n : ℕ
  n = s.port.engine.initiator

  abbrev before : List Event
  before = events_of frame.world.platform note.knows.known

  pub quiet : s.port.waiting ≡ false
  quiet = free_by s.port x.kind may

  pub access : IsAccessOf x.kind
  access = access_by s.port x.kind may

  made_long : length (p.way.made) ≡ s.port.engine.seq
  made_long = made_so_far table tokens frame s note p x next_is quiet

  number_left : s.port.engine.seq < count_of i
  number_left = next_below table tokens frame s note p x next_is quiet

  pub room_refused : length s.port.refused < s.room
  room_refused = room_told table tokens frame s note p x next_is quiet

  pub room_away : length s.port.away < s.room
  room_away =
      let u = p.way in
      let ahead : under_by (u.stage s.port.engine.seq) ≡ 0 = ap under_by (u.staged.ahead s.port.engine.seq (let q = made_long in omega (arith, q))) in
      let low = fewer_under u.stage (count_of i) s.port.engine.seq number_left ahead in
      omega (arith, low, u.staged.outstanding, p.roomy)

  zero_or_some : (k : ℕ) → (k ≡ 0) ⊎ (0 < k)
  zero_or_some k = grind arith

  -- it has a ticket for the Take
  pub has_ticket : 0 < left_of s.wallet (own_pool frame.world n)
  has_ticket = elim (zero_or_some (left_of s.wallet (own_pool frame.world n))) [
    | inl none ↦ absurd (
        let m = may_stock table tokens frame (with_note s note) p quiet x next_is access s.wallet (self_pulls tokens s.wallet (own_pool frame.world n) p.wallet_of none) in
        let l = m.pooled in omega (arith, l, none)
        )
    | inr some ↦ some
  ]

  -- the way of its address
  abbrev its_way : Passage
  its_way = way frame.world i s.port note.knows.known note.knows.seen (left_at frame.world s.wallet) p.way (its table tokens frame s note p) p.style x next_is

  pub can_take : (k : ℕ) → k ≡ n → CanTake frame.world k (txn_of k x.seq)
  can_take k who = record {
    pass = its_way;
    access = record {
      of = refl;
      passes = subst (λ (j : ℕ). passage_of frame.world (txn_of j x.seq) ≡ Some its_way) (p.number ∙ sym who)
          (subst (λ (j : ℕ). passage_of frame.world (txn_of i.number j) ≡ Some its_way) (sym (seq_of s.port.engine x next_is))
          (access_passes frame.world i s.port note.knows.known note.knows.seen (left_at frame.world s.wallet) p.way (its table tokens frame s note p) p.style x next_is (kind_by x.kind access)));
    };
  }

  pub is_new : Has s.port.away s.port.engine.seq → ⊥
  is_new has = next_is_new frame.world i s.port before note.knows.seen (left_at frame.world s.wallet) p.way quiet (among_of s.port.away s.port.engine.seq has)

  -- what it may give then
  pub may_give : (w : Purse) → Pulls tokens (own_pool frame.world n) 0 s.wallet w → MayStock frame.world n x.address (payload_cost (payload_of s.port.engine 4096)) w
  may_give w pulls = may_stock table tokens frame (with_note s note) p quiet x next_is access w pulls

  -- there is room for the ticket that comes back
  pub room_back : (w : Purse) → Pulls tokens (own_pool frame.world n) 0 s.wallet w → HasRoom w (own_pool frame.world n)
  room_back w pulls = inl (has_place w (own_pool frame.world n) (let m = may_give w pulls in let l = m.pooled in omega (arith, l)))

  pub low_initiator : n < length (let f = frame.world.platform in f.initiators)
  low_initiator = (pool_is_there table tokens frame s note p).0

  -- where all slots were live it is a port too
  module _ (back : Held Content Plan) (of : IsNote table back) (within : Within note.knows.known back.knows.known) (below : StandBelow back.knows.known back.knows.seen) (w : Purse) (pulls : Pulls tokens (own_pool frame.world n) 0 s.wallet w)
      (held_in : (o : ℕ) → HasPlace w o → HasPlace s.wallet o) (u : Purse) (gets : Gets tokens (own_pool frame.world n) 1 0 w u) (back_in : (o : ℕ) → HasPlace u o → HasPlace w o ⊎ (o ≡ own_pool frame.world n)) where
    no_less : (o : ℕ) → left_of s.wallet o ≤ left_of u o
    no_less o = elim (cases_eq o (own_pool frame.world n)) [
      | inl same ↦ (
          let got = gets.left o ∙ ap (λ (t : Bool). if t then left_of w o + 1 else left_of w o) (eq-eqb o (own_pool frame.world n) same) in
          let gave = subst (λ (k : ℕ). left_of w k ≡ left_of s.wallet k - 1) (sym same) (same_pulled tokens (own_pool frame.world n) s.wallet w pulls) in
          omega (arith, got, gave)
          )
      | inr other ↦ (
          let got = gets.left o ∙ ap (λ (t : Bool). if t then left_of w o + 1 else left_of w o) (ne_eqb o (own_pool frame.world n) other) in
          let gave : left_of w o ≡ left_of s.wallet o = pulls.left o ∙ ap (λ (t : Bool). if t then left_of s.wallet (own_pool frame.world n) - 1 else left_of s.wallet o) (ne_eqb o (own_pool frame.world n) other) in
          omega (arith, got, gave)
          )
    ]

    no_less_bytes : (o : ℕ) → bytes_of s.wallet o ≤ bytes_of u o
    no_less_bytes o =
        let same = same_bytes tokens (own_pool frame.world n) s.wallet w pulls o in
        by (o == own_pool frame.world n) (gets.bytes_got o) same
      where
        by : (t : Bool) → bytes_of u o ≡ (if t then bytes_of w o + 0 else bytes_of w o) → bytes_of w o ≡ bytes_of s.wallet o → bytes_of s.wallet o ≤ bytes_of u o
        by true f g = omega (arith, f, g)
        by false f g = omega (arith, f, g)

    few_back : (o : ℕ) → HasPlace u o → o < length (objects_of frame.world.platform)
    few_back o has = elim (back_in o has) [
      | inl there ↦ p.few_places o (held_in o there)
      | inr same ↦ p.few_places o (subst (HasPlace s.wallet) (sym same) (has_place s.wallet (own_pool frame.world n) has_ticket))
    ]

    pub full_port : s.hand ≡ Free → (v : StateView) → v ≡ record s { wallet = u } → IsPort table tokens frame (with_note v back)
    full_port free v is = subst (λ (k : StateView). IsPort table tokens frame (with_note k back)) (sym is)
        (moved_port table tokens frame s note p back of within below s.port u s.hand s.payload refl refl p.proper gets.of (gets.places ∙ pulls.places) few_back
        (λ m there. (let old = p.bytes m there in let more = no_less_bytes m in omega (arith, old, more)))
        (keeps_stray frame.world i s.port before (events_of frame.world.platform back.knows.known) note.knows.seen back.knows.seen (left_at frame.world s.wallet) (left_at frame.world u) p.way
        (events_more frame.world.platform note.knows.known back.knows.known within) (events_below frame.world.platform note.knows.known back.knows.known back.knows.seen below) (λ o. no_less (object_number frame.world.platform o)))
        (subst (λ (hand : Hand). IsInHand frame tokens i s.port back.knows.known hand) (sym free) tt) (λ c q. subst GoesBack (sym free) tt) p.payload p.has_payload)

  module _ (back : Held Content Plan) (of : IsNote table back) (within : Within note.knows.known back.knows.known) (below : StandBelow back.knows.known back.knows.seen) (w : Purse) (pulls : Pulls tokens (own_pool frame.world n) 0 s.wallet w)
      (held_in : (o : ℕ) → HasPlace w o → HasPlace s.wallet o) (b : Baton) (t : HasTaken frame tokens (txn_of n s.port.engine.seq) s.port.time note.knows.seen b back.knows.known) (v : StateView)
      (l : IsLoaded tokens frame.world x b (record s { wallet = w }) v) (free : s.held ≡ None) where
    late : TakesLate frame (txn_of i.number s.port.engine.seq) s.port.time note.knows.seen back.knows.known
    late = subst (λ (k : ℕ). TakesLate frame (txn_of k s.port.engine.seq) s.port.time note.knows.seen back.knows.known) (sym p.number) (
        let f = t.taken in
        record {
          take = record { event = f.event; known = f.known; is = (let k = f.is in record { object = k.object; txn = k.txn; slot = b.slot; what = k.what }); time = f.time };
          later = subst (λ (k : ℕ). note.knows.seen ≤ k) (sym f.is.place) t.late;
        }
        )

    pays : (o : ObjectNo) → left_at frame.world l.left o + price frame.world i o s.port.engine.seq ≡ left_at frame.world s.wallet o
    pays = has_paid table tokens frame (with_note s note) p quiet x next_is access w pulls l.left l.paid

    way_by : (f : Bool) → is_fenced_kind x.kind ≡ f → IsUnderWay frame.world i (port_taken frame.world i s.port x f) (events_of frame.world.platform back.knows.known) back.knows.seen (left_at frame.world l.left)
    way_by false q = takes_plain frame i s.port note.knows.known back.knows.known note.knows.seen back.knows.seen (left_at frame.world s.wallet) (left_at frame.world l.left) p.way within below late pays x next_is quiet (plain_by x.kind access q)
    way_by true q = takes_fenced frame i s.port note.knows.known back.knows.known note.knows.seen back.knows.seen (left_at frame.world s.wallet) (left_at frame.world l.left) p.way within below late pays x next_is (settled_by s.port x.kind may q) q

    bytes_by : (f : Bool) → is_fenced_kind x.kind ≡ f → (m : ℕ) → m < length frame.world.platform.memories
        → bytes_left frame.world i m (port_taken frame.world i s.port x f).engine ≤ bytes_of l.left m + bytes_under frame.world i m (port_taken frame.world i s.port x f)
    bytes_by false q m there =
        let e = s.port.engine in
        let old = p.bytes m there in
        let none : bytes_under frame.world i m s.port ≡ 0 = ap (λ (c : Bool). bytes_while frame.world i m c e (next_of e)) quiet in
        let paid = bytes_paid tokens frame.world i n x.address (payload_cost (payload_of e 4096)) p.is w l.left l.paid m in
        let same = same_bytes tokens (own_pool frame.world n) s.wallet w pulls m in
        let got : List ℕ = zeros x.length in
        let after = bytes_after frame.world i m 4096 e got x next_is (λ fenced. length-replicate {A = ℕ} x.length 0) in
        let passed : engine_after e got ≡ passed_by e = ap (λ (c : Bool). if c then told_by e got else passed_by e) (ap is_fenced_part next_is ∙ q) in
        let left = subst (λ (d : State). bytes_left frame.world i m d + payload_cost (payload_of e 4096) * leads frame.world i m x.address ≡ bytes_left frame.world i m e) passed after in
        omega (arith, old, none, paid, same, left)
    bytes_by true q m there =
        let e = s.port.engine in
        let old = p.bytes m there in
        let none : bytes_under frame.world i m s.port ≡ 0 = ap (λ (c : Bool). bytes_while frame.world i m c e (next_of e)) quiet in
        let paid = bytes_paid tokens frame.world i n x.address (payload_cost (payload_of e 4096)) p.is w l.left l.paid m in
        let same = same_bytes tokens (own_pool frame.world n) s.wallet w pulls m in
        let under : bytes_while frame.world i m true e (next_of e) ≡ payload_cost (payload_of e 4096) * leads frame.world i m x.address = ap (bytes_while frame.world i m true e) next_is in
        omega (arith, old, none, paid, same, under)

    who_by : (f : Bool) → (port_taken frame.world i s.port x f).engine.initiator ≡ s.port.engine.initiator
    who_by false = passed_who s.port.engine (let e = s.port.engine in e.remaining)
    who_by true = refl

    proper_by : (f : Bool) → AllByRecursion IsProper (port_taken frame.world i s.port x f).engine.remaining
    proper_by false = proper_passed s.port.engine (let e = s.port.engine in e.remaining) p.proper refl
    proper_by true = p.proper

    time_by : (f : Bool) → (port_taken frame.world i s.port x f).time ≡ s.port.time
    time_by false = refl
    time_by true = refl

    starts : CanStart frame tokens i.number (filled_baton s b l.stock) s.port.time back.knows.known
    starts = subst (λ (k : ℕ). CanStart frame tokens k (filled_baton s b l.stock) s.port.time back.knows.known) (sym p.number)
        (may_start table tokens frame (with_note s note) p quiet x next_is access w pulls back within below b (filled_baton s b l.stock) l.stock t refl l.stocked)

    hand_by : (f : Bool) → IsInHand frame tokens i (port_taken frame.world i s.port x f) back.knows.known (Taken (filled_baton s b l.stock))
    hand_by false = record { start = starts }
    hand_by true = record { start = starts }

    not_held : (hand : Hand) (o : Option Cargo) → o ≡ None → (c : Cargo) → o ≡ Some c → GoesBack hand
    not_held hand o q c e = absurd (clash q e)
      where
        clash : o ≡ None → o ≡ Some c → ⊥
        clash f g = cc

    taken_by : (f : Bool) → is_fenced_kind x.kind ≡ f
        → IsPort table tokens frame (with_note (record s { port = port_taken frame.world i s.port x f; hand = Taken (filled_baton s b l.stock); payload = s.payload; wallet = l.left }) back)
    taken_by f q = moved_port table tokens frame s note p back of within below (port_taken frame.world i s.port x f) l.left (Taken (filled_baton s b l.stock)) s.payload (time_by f) (who_by f) (proper_by f) l.paid.of (l.paid.places ∙ pulls.places)
        (λ o has. p.few_places o (held_in o (l.paid.within o has))) (bytes_by f q) (way_by f q) (hand_by f) (not_held (Taken (filled_baton s b l.stock)) s.held free) p.payload p.has_payload

    is_then : v ≡ taken_state frame.world i s x b l.stock l.left
    is_then = l.is i p.is

    pub taken_port : IsPort table tokens frame (with_note v back)
    taken_port = subst (λ (k : StateView). IsPort table tokens frame (with_note k back)) (sym is_then) (taken_by (is_fenced_kind x.kind) refl)

    one : (a c : Initiator) → Some a ≡ Some c → a ≡ c
    one a c q = cc

    pub takes : back.knows.looks ≡ note.knows.looks ++ (own_pool frame.world n, 0) ∷ [] → Takes frame (is_fenced_kind x.kind) (with_note s note) (with_note v back)
    takes look = subst (λ (k : StateView). Takes frame (is_fenced_kind x.kind) (with_note s note) (with_note k back)) (sym is_then) (record {
      transfer = x;
      is_next = next_is;
      baton = filled_baton s b l.stock;
      hand = refl;
      of = ap (λ (a : Baton). a.txn) t.baton;
      taken = subst (λ (a : _). FindsAt (Known frame.world.platform back.knows.known) (IsTake a) s.port.time) (ap (λ (k : ℕ). txn_of k s.port.engine.seq) p.number ∙ sym (ap (λ (a : Baton). a.txn) t.baton)) late.take;
      port = λ j q. ap (λ (k : Initiator). port_taken frame.world k s.port x (is_fenced_kind x.kind)) (one i j (sym p.is ∙ q));
      held = refl;
      look = look;
    })
