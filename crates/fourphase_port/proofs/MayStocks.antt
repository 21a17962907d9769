-- A port has what the access that is next needs.
use Rattle.std.proofs.Common.{◌≡◌, ◌⊎◌, ℕ, zero, suc, ◌+◌, ◌-◌, ◌*◌, ◌<◌, ◌≤◌, ◌==◌, if◌then◌else◌, Bool, true, false, List, [], ◌∷◌, length, get_or, cond, Option, Some, None, refl, sym, ap, ◌∙◌, subst, inl, inr, arith}
use Rattle.std.specs.Prelude.{count_by, is_some, slice_get}
use Rattle.std.proofs.lemmas.Bool.{cases_eq, eq-eqb, eqb-true, ne_eqb}
use Rattle.std.proofs.lemmas.List.{length-replicate}
use Rattle.std.proofs.lemmas.List.Sums.{sum_by-cons}
use Rattle.atomic_table.specs.Seated.{TableId}
use Rattle.view_lists.specs.Lists.{Within}
use Rattle.one_history.specs.Held.{Held}
use Rattle.one_history.specs.declared.view.Frame.{Frame}
use Rattle.tlm_types.specs.declared.entry.Content.{Content}
use Rattle.payload_pool.specs.declared.baton.Baton.{Baton}
use Rattle.cargo_net.specs.Pools.{HasTaken}
use Rattle.plat_net.specs.PoolCalls.{CanStart}
use Rattle.tlm_types.specs.declared.words.ObjectNo.{ObjectNo}
use Rattle.tlm_types.specs.declared.words.ObjectNo.TheVariants.{Hop, Memory, Pool}
use Rattle.tlm_types.specs.declared.words.TxnId.{TxnId}
use Rattle.tlm_model.specs.declared.ask.Ask.TheVariants.{Access as AnAccess}
use Rattle.tlm_model.specs.declared.platform.Style.{Style}
use Rattle.tlm_model.specs.Plan.{Plan, Initiator, initiators_of}
use Rattle.tlm_model.specs.Route as model
use Rattle.tlm_model.specs.Route.{hops_of, route_of}
use Rattle.tlm_model.specs.Store.{zeros}
use Rattle.token_book.specs.Purse.{Purse, bytes_of, left_of}
use Rattle.region_object.specs.Call.{payload_cost}
use Rattle.route_plan.specs.declared.step.Route.{Route}
use Rattle.route_plan.specs.Planned.{by_fourphase}
use Rattle.route_plan.specs.Plans.{walk_by}
use Rattle.route_plan.specs.Routes.{route_by, route_seen}
use Rattle.route_plan.specs.Valid.{IsObject, hop_count}
use Rattle.flow_model.specs.Events.{Among}
use Rattle.flow_model.proofs.Ways.{world_law}
use Rattle.cargo_model.specs.Known.{object_number, objects_of}
use Rattle.cargo_model.specs.Origins.{AreThere}
use Rattle.cargo_model.specs.Tickets.{AreApart, Numbers, Pulls, Stocks}
use Rattle.cargo_model.specs.Travel.{memory_number as travel_number, numbers_of, reference}
use Rattle.cargo_model.proofs.Origins.{apart_law, only_object, stands}
use Rattle.cargo_model.proofs.There.{there_law}
use Rattle.initiator_run.specs.Left.{bytes_left, leads}
use Rattle.initiator_run.specs.Run.{engine_after}
use Rattle.initiator_run.proofs.LeftLemmas.{bytes_after, leads_elsewhere, leads_nowhere, leads_there}
use Rattle.joined_traffic.specs.Accesses.{txn_of}
use Rattle.plat_net.specs.Calls.{route_at}
use Rattle.plat_net.specs.Net.{HasPool}
use Rattle.plat_net.proofs.NumberLemmas.{memory_number}
use Rattle.plat_net.proofs.ObjectLemmas.{object_there}
use Rattle.port_model.specs.Laws.{price_by_kind}
use Rattle.port_model.specs.Stages.{price, price_of}
use Rattle.port_model.specs.Way.{IsUnderWay}
use Rattle.port_model.proofs.Begins.{knows_more}
use Rattle.port_model.proofs.NextAsks.{is_priced}
use Rattle.port_model.proofs.Ops.{IsAccessKind}
use Rattle.port_model.proofs.Starts.{planned}
use Rattle.port_end.specs.Arrives.{StandBelow, events_of}
use Rattle.port_end.proofs.Arrives.{knows_more as events_more, stand_below as events_below}
use Rattle.script_engine.specs.declared.part.Part.TheVariants.{Asks}
use Rattle.script_engine.specs.declared.part.Transfer.{Transfer}
use Rattle.script_engine.specs.declared.part.TransferKind.{TransferKind}
use Rattle.script_engine.specs.declared.part.TransferKind.TheVariants as kinds
use Rattle.script_engine.specs.State.{next_of, payload_of}
use Rattle.port_moves.specs.Loaded.{IsAccessOf}
use Rattle.fourphase_port.specs.Laws.{NextIsPaid, NextMayBeStocked, NextMayStart}
use Rattle.port_moves.specs.Reach.{first_hop, own_pool}
use Rattle.port_moves.specs.State.{IsPort, PortView, bytes_under, bytes_while, left_at}
use Rattle.port_moves.specs.Stocks.{HasPaid, IsApart, IsStocked, MayStock, hops_at, place_at}
use Rattle.port_moves.proofs.FirstHop.{has_its_pool}
use Rattle.fourphase_port.proofs.NextIsAsked.{access_passes, filled_asks, filled_new, filled_room, taken_asked, way}
use Rattle.port_moves.proofs.TakesIn.{other_pulled, same_pulled}
use Rattle.fourphase_port.proofs.SeenRoute.{Seen, seen_route}

-- a hop of a list is counted
counted : (hops : List ℕ) (h j : ℕ) → j < length hops → get_or hops j 0 ≡ h → 1 ≤ count_by (λ k. k == h) hops
counted [] h j l e = absurd (omega (arith, l))
counted (k ∷ hops) h zero l e =
    let sum : count_by (λ i. i == h) (k ∷ hops) ≡ 1 + count_by (λ i. i == h) hops = sum_by-cons (λ (i : ℕ). cond (i == h) 1 0) k hops ∙ ap (λ (b : Bool). cond {A = ℕ} b 1 0 + count_by (λ i. i == h) hops) (eq-eqb k h e) in
    omega (arith, sum)
counted (k ∷ hops) h (suc j) l e =
    let rest = counted hops h j (omega (arith, l)) e in
    let sum : count_by (λ i. i == h) (k ∷ hops) ≡ cond (k == h) 1 0 + count_by (λ i. i == h) hops = sum_by-cons (λ (i : ℕ). cond (i == h) 1 0) k hops in
    more (cond (k == h) 1 0) (count_by (λ i. i == h) hops) (count_by (λ i. i == h) (k ∷ hops)) sum rest
  where
    more : (a b c : ℕ) → c ≡ a + b → 1 ≤ b → 1 ≤ c
    more a b c q r = omega (arith, q, r)

-- a way without a hop twice passes hop h once, or not at all
record Visited (hops : List ℕ) (h : ℕ) : Type 0 where
  place : ℕ
  below : place < length hops
  is : get_or hops place 0 ≡ h
  count : count_by (λ k. k == h) hops ≡ 1

record Missed (hops : List ℕ) (h : ℕ) : Type 0 where
  none : (j : ℕ) → j < length hops → get_or hops j 0 ≡ h → ⊥
  count : count_by (λ k. k == h) hops ≡ 0

passes : (hops : List ℕ) (h : ℕ) → ((j k : ℕ) → j < length hops → k < length hops → get_or hops j 0 ≡ get_or hops k 0 → j ≡ k) → Visited hops h ⊎ Missed hops h
passes [] h d = inr (record { none = λ j l. absurd (omega (arith, l)); count = refl })
passes (k ∷ hops) h d = go (k == h) refl (passes hops h later)
  where
    later : (i j : ℕ) → i < length hops → j < length hops → get_or hops i 0 ≡ get_or hops j 0 → i ≡ j
    later i j l m e = let q : suc i ≡ suc j = d (suc i) (suc j) (omega (arith, l)) (omega (arith, m)) e in omega (arith, q)

    differs : (k == h) ≡ false → k ≡ h → ⊥
    differs q e = let t : (k == h) ≡ true = eq-eqb k h e in cc

    go : (b : Bool) → (k == h) ≡ b → Visited hops h ⊎ Missed hops h → Visited (k ∷ hops) h ⊎ Missed (k ∷ hops) h
    go true q (inl m) = absurd (never (d 0 (suc m.place) (omega arith) (let b : m.place < length hops = m.below in omega (arith, b)) (eqb-true k h q ∙ sym m.is)))
      where
        never : 0 ≡ suc m.place → ⊥
        never e = omega (arith, e)
    go true q (inr m) = inl (record {
      place = 0;
      below = omega arith;
      is = eqb-true k h q;
      count = sum_by-cons (λ (i : ℕ). cond (i == h) 1 0) k hops ∙ (ap (λ (b : Bool). cond {A = ℕ} b 1 0 + count_by (λ i. i == h) hops) q ∙ ap (λ (i : ℕ). 1 + i) m.count);
    })
    go false q (inl m) = inl (record {
      place = suc m.place;
      below = (let b : m.place < length hops = m.below in omega (arith, b));
      is = m.is;
      count = sum_by-cons (λ (i : ℕ). cond (i == h) 1 0) k hops ∙ (ap (λ (b : Bool). cond {A = ℕ} b 1 0 + count_by (λ i. i == h) hops) q ∙ ap (λ (i : ℕ). 0 + i) m.count);
    })
    go false q (inr m) = inr (record {
      none = missed m;
      count = sum_by-cons (λ (i : ℕ). cond (i == h) 1 0) k hops ∙ (ap (λ (b : Bool). cond {A = ℕ} b 1 0 + count_by (λ i. i == h) hops) q ∙ ap (λ (i : ℕ). 0 + i) m.count);
    })
      where
        missed : Missed hops h → (j : ℕ) → j < suc (length hops) → get_or (k ∷ hops) j 0 ≡ h → ⊥
        missed m zero l e = differs q e
        missed m (suc j) l e = m.none j (omega (arith, l)) e

same_kind : (kind : TransferKind) → IsAccessOf kind → IsAccessKind kind
same_kind (kinds.Access command plain fenced) a = tt
same_kind kinds.DebugRead a = a

priced_kind : (p : Plan) (i : Initiator) (o : ObjectNo) (a : ℕ) (kind : TransferKind) → IsAccessOf kind → price_by_kind p i o a kind ≡ price_of p i o (AnAccess a 0)
priced_kind p i o a (kinds.Access command plain fenced) is = refl
priced_kind p i o a kinds.DebugRead is = absurd is

module _ (table tokens : TableId) (frame : Frame Plan) (v : PortView) (s : IsPort table tokens frame v) (quiet : v.port.waiting ≡ false) (x : Transfer) (next_is : next_of v.port.engine ≡ Asks x) (access : IsAccessOf x.kind)
    (w : Purse) (pulls : Pulls tokens (own_pool frame.world v.port.engine.initiator) 0 v.wallet w) where
  abbrev p : Plan
  p = frame.world

  abbrev i : Initiator
  i = s.initiator

  abbrev n : ℕ
  n = v.port.engine.initiator

  abbrev a : ℕ
  a = x.address

  abbrev hops : List ℕ
  hops = hops_of p.platform i a

  its : slice_get (initiators_of p) i.number ≡ Some i
  its = subst (λ (k : ℕ). slice_get (initiators_of p) k ≡ Some i) (sym s.number) s.is

  hops_is : hops_at p n a ≡ hops
  hops_is = ap (λ (o : Option Initiator). (walk_by p.platform o a).hops) s.is

  abbrev routed : Bool
  routed = is_some (route_of p.platform i a)

  there : AreThere p (txn_of i.number v.port.engine.seq) (record { hops = hops; routed = routed }) (route_of p.platform i a)
  there = there_law p (txn_of i.number v.port.engine.seq) i a routed its s.style

  apart : AreApart (length hops) (numbers_of p (txn_of i.number v.port.engine.seq) (record { hops = hops; routed = routed }) (route_of p.platform i a))
  apart = apart_law p (txn_of i.number v.port.engine.seq) (record { hops = hops; routed = routed }) (route_of p.platform i a)
      ((world_law p s.no_cycle).passages (txn_of i.number v.port.engine.seq) (record { hops = hops; routed = routed })
      (access_passes p i v.port v.note.knows.known v.note.knows.seen (left_at p v.wallet) s.way its s.style x next_is (same_kind x.kind access))) there

  object_is : (o : ObjectNo) → Among (objects_of p.platform) o → IsObject p.platform o
  object_is o h = object_there p.platform (object_number p.platform o) o (stands o (objects_of p.platform) h)

  long : (j : ℕ) → j < length (hops_at p n a) → j < length hops
  long j l = subst (λ (hs : List ℕ). j < length hs) hops_is l

  place_is : (j : ℕ) → place_at p n a j ≡ object_number p.platform (Hop (get_or hops j 0))
  place_is j = ap (λ (hs : List ℕ). first_hop p (get_or hs j 0)) hops_is

  pool_is : own_pool p n ≡ object_number p.platform (Pool i.number)
  pool_is = ap (own_pool p) (sym s.number)

  seen : (r : Route) → route_at p n a ≡ Some r → Seen (route_of p.platform i a) r
  seen r q = seen_route _ _ (route_of p.platform i a) r (sym (ap (λ (o : Option Initiator). route_by (walk_by p.platform o a)) s.is) ∙ q)

  memory_there : (r : Route) → route_at p n a ≡ Some r → r.memory < length p.platform.memories
  memory_there r q = let f = seen r q in subst (λ (m : ℕ). m < length p.platform.memories) f.memory (object_is (Memory f.route.memory) (there.memory f.route f.is))

  memory_is : (r : Route) → route_at p n a ≡ Some r → object_number p.platform (Memory r.memory) ≡ r.memory
  memory_is r q = memory_number p.platform r.memory (memory_there r q)

  numbered : (r : Route) (q : route_at p n a ≡ Some r) → (numbers_of p (txn_of i.number v.port.engine.seq) (record { hops = hops; routed = routed }) (route_of p.platform i a)).memory ≡ Some r.memory
  numbered r q =
      let f = seen r q in
      ap (λ (o : Option model.Route). (numbers_of p (txn_of i.number v.port.engine.seq) (record { hops = hops; routed = routed }) o).memory) f.is
      ∙ ap (λ (k : ℕ). Some k) (ap (λ (m : ℕ). object_number p.platform (Memory m)) f.memory ∙ memory_is r q)

  -- what the port has of each object of the access
  has : (o : ObjectNo) → price_of p i o (AnAccess a 0) ≤ left_of v.wallet (object_number p.platform o)
  has o =
      let l = planned p i v.port (events_of p.platform v.note.knows.known) v.note.knows.seen (left_at p v.wallet) s.way quiet v.port.engine.seq o refl in
      let e = is_priced p i v.port (events_of p.platform v.note.knows.known) v.note.knows.seen (left_at p v.wallet) s.way x next_is o ∙ priced_kind p i o a x.kind access in
      omega (arith, l, e)

  other_left : (o : ℕ) → (o ≡ own_pool p n → ⊥) → left_of w o ≡ left_of v.wallet o
  other_left o other = other_pulled tokens (own_pool p n) v.wallet w pulls o other

  no_pool : (j : ℕ) → j < length (hops_at p n a) → place_at p n a j ≡ own_pool p n → ⊥
  no_pool j l e = apart.pool j (long j l) (sym (place_is j) ∙ (e ∙ pool_is))

  hop_enough : (j : ℕ) → j < length (hops_at p n a) → 4 ≤ left_of w (place_at p n a j)
  hop_enough j l =
      let h = has (Hop (get_or hops j 0)) in
      let c = counted hops (get_or hops j 0) j (long j l) refl in
      let price : price_of p i (Hop (get_or hops j 0)) (AnAccess a 0) ≡ 4 * count_by (λ k. k == get_or hops j 0) hops = ap (λ (t : Style). by_fourphase t (4 * count_by (λ k. k == get_or hops j 0) hops)) s.style in
      let at : left_of w (place_at p n a j) ≡ left_of v.wallet (object_number p.platform (Hop (get_or hops j 0))) = other_left (place_at p n a j) (no_pool j l) ∙ ap (left_of v.wallet) (place_is j) in
      sum (count_by (λ k. k == get_or hops j 0) hops) _ _ _ c price h at
    where
      sum : (c m l k : ℕ) → 1 ≤ c → m ≡ 4 * c → m ≤ l → k ≡ l → 4 ≤ k
      sum c m l k q e f g = omega (arith, q, e, f, g)

  pooled : 2 * length (hops_at p n a) + 1 ≤ left_of w (own_pool p n)
  pooled =
      let h = has (Pool i.number) in
      let price : price_of p i (Pool i.number) (AnAccess a 0) ≡ 2 + 2 * length hops =
      ap (λ (b : Bool). if b then by_fourphase i.row.style (2 + 2 * length hops) else 0) (eq-eqb i.number i.number refl) ∙ ap (λ (t : Style). by_fourphase t (2 + 2 * length hops)) s.style in
      let at : left_of v.wallet (own_pool p n) ≡ left_of v.wallet (object_number p.platform (Pool i.number)) = ap (left_of v.wallet) pool_is in
      let less = same_pulled tokens (own_pool p n) v.wallet w pulls in
      let count : length (hops_at p n a) ≡ length hops = ap (λ (hs : List ℕ). length hs) hops_is in
      sum (length hops) (length (hops_at p n a)) _ _ _ _ h price at less count
    where
      sum : (c d m l k u : ℕ) → m ≤ l → m ≡ 2 + 2 * c → k ≡ l → u ≡ k - 1 → d ≡ c → 2 * d + 1 ≤ u
      sum c d m l k u f e g q r = omega (arith, f, e, g, q, r)

  served : (r : Route) → route_at p n a ≡ Some r → (0 < left_of w r.memory) × (payload_cost (payload_of v.port.engine 4096) ≤ bytes_of w r.memory)
  served r q =
      let f = seen r q in
      let h = has (Memory r.memory) in
      let leads_one = leads_there p i a f.route f.is in
      let one : price_of p i (Memory r.memory) (AnAccess a 0) ≡ 1 = subst (λ (m : ℕ). price_of p i (Memory m) (AnAccess a 0) ≡ 1) f.memory leads_one in
      let apart_pool : r.memory ≡ own_pool p n → ⊥ = λ e. apart.apart r.memory (numbered r q) (sym (e ∙ pool_is)) in
      let at : left_of w r.memory ≡ left_of v.wallet r.memory = other_left r.memory apart_pool in
      let number : left_of v.wallet (object_number p.platform (Memory r.memory)) ≡ left_of v.wallet r.memory = ap (left_of v.wallet) (memory_is r q) in
      let e = v.port.engine in
      let got : List ℕ = zeros x.length in
      let after = bytes_after p i r.memory 4096 e got x next_is (λ fenced. length-replicate {A = ℕ} x.length 0) in
      let leads_here = subst (λ (m : ℕ). leads p i m a ≡ 1) f.memory leads_one in
      let paid : bytes_left p i r.memory (engine_after e got) + payload_cost (payload_of e 4096) * 1 ≡ bytes_left p i r.memory e =
      subst (λ (k : ℕ). bytes_left p i r.memory (engine_after e got) + payload_cost (payload_of e 4096) * k ≡ bytes_left p i r.memory e) leads_here after in
      let mine = s.bytes r.memory (memory_there r q) in
      let none : bytes_under p i r.memory v.port ≡ 0 = ap (λ (b : Bool). bytes_while p i r.memory b e (next_of e)) quiet in
      let kept : bytes_of w r.memory ≡ bytes_of v.wallet r.memory = pulls.bytes_left r.memory ∙ ap (λ (b : Bool). if b then bytes_of v.wallet (own_pool p n) - 0 else bytes_of v.wallet r.memory) (ne_eqb r.memory (own_pool p n) apart_pool) in
      (few _ _ _ _ h one number at, enough (payload_cost (payload_of e 4096)) _ _ _ _ _ paid mine none kept)
    where
      few : (m l k u : ℕ) → m ≤ l → m ≡ 1 → l ≡ k → u ≡ k → 0 < u
      few m l k u f e g q = omega (arith, f, e, g, q)

      enough : (c rest all had under now : ℕ) → rest + c * 1 ≡ all → all ≤ had + under → under ≡ 0 → now ≡ had → c ≤ now
      enough c rest all had under now f g e q = omega (arith, f, g, e, q)

  pub stockable : MayStock p n a (payload_cost (payload_of v.port.engine 4096)) w
  stockable = record {
    moves = record {
      apart = λ j k l m e. apart.hops j k (long j l) (long k m) (sym (place_is j) ∙ (e ∙ place_is k));
      there = λ j l. subst (λ (hs : List ℕ). get_or hs j 0 < hop_count p.platform) (sym hops_is) (object_is (Hop (get_or hops j 0)) (there.hops j (long j l)));
      enough = hop_enough;
    };
    has_pool = subst (HasPool p.platform) s.number (has_its_pool p i its s.style);
    apart_pool = no_pool;
    apart_memory = λ j r q l e. apart.memory r.memory j (numbered r q) (long j l) (sym (place_is j) ∙ e);
    apart = λ r q e. apart.apart r.memory (numbered r q) (sym pool_is ∙ e);
    pooled = pooled;
    served = served;
  }

  -- what an access pays for, object by object
  module _ (u : Purse) (paid : HasPaid tokens p n a (payload_cost (payload_of v.port.engine 4096)) w u) where
    abbrev cost_of_next : ObjectNo → ℕ
    cost_of_next o = price p i o v.port.engine.seq

    cost_is : (o : ObjectNo) → price p i o v.port.engine.seq ≡ price_of p i o (AnAccess a 0)
    cost_is o = is_priced p i v.port (events_of p.platform v.note.knows.known) v.note.knows.seen (left_at p v.wallet) s.way x next_is o ∙ priced_kind p i o a x.kind access

    -- an object that isn't one of the access has another number than they
    not_hop : (o : ObjectNo) → ((j : ℕ) → j < length hops → o ≡ Hop (get_or hops j 0) → ⊥) → (j : ℕ) → j < length (hops_at p n a) → object_number p.platform o ≡ place_at p n a j → ⊥
    not_hop o none j l e = none j (long j l) (only_object p.platform o (Hop (get_or hops j 0)) (there.hops j (long j l)) (e ∙ place_is j))

    not_pool : (o : ObjectNo) → (o ≡ Pool i.number → ⊥) → object_number p.platform o ≡ own_pool p n → ⊥
    not_pool o none e = none (only_object p.platform o (Pool i.number) there.pool (e ∙ pool_is))

    not_memory : (o : ObjectNo) → ((q : model.Route) → route_of p.platform i a ≡ Some q → o ≡ Memory q.memory → ⊥) → (r : Route) → route_at p n a ≡ Some r → object_number p.platform o ≡ r.memory → ⊥
    not_memory o none r q e =
        let f = seen r q in
        none f.route f.is (only_object p.platform o (Memory f.route.memory) (there.memory f.route f.is) (e ∙ (sym (memory_is r q) ∙ ap (λ (m : ℕ). object_number p.platform (Memory m)) (sym f.memory))))

    apart_left : (o : ObjectNo) → IsApart p n a (object_number p.platform o) → left_of u (object_number p.platform o) ≡ left_of v.wallet (object_number p.platform o)
    apart_left o is = paid.others (object_number p.platform o) is ∙ other_left (object_number p.platform o) is.pool

    pays_hop : (h : ℕ) → Visited hops h ⊎ Missed hops h → left_of u (object_number p.platform (Hop h)) + price p i (Hop h) v.port.engine.seq ≡ left_of v.wallet (object_number p.platform (Hop h))
    pays_hop h (inl m) =
        let l : m.place < length (hops_at p n a) = subst (λ (hs : List ℕ). m.place < length hs) (sym hops_is) m.below in
        let is : place_at p n a m.place ≡ object_number p.platform (Hop h) = place_is m.place ∙ ap (λ (k : ℕ). object_number p.platform (Hop k)) m.is in
        let gave = subst (λ (k : ℕ). left_of u k + 4 ≡ left_of w k) is (paid.hops m.place l) in
        let same = subst (λ (k : ℕ). left_of w k ≡ left_of v.wallet k) is (other_left (place_at p n a m.place) (no_pool m.place l)) in
        let cost : price_of p i (Hop h) (AnAccess a 0) ≡ 4 * count_by (λ k. k == h) hops = ap (λ (t : Style). by_fourphase t (4 * count_by (λ k. k == h) hops)) s.style in
        let four : 4 * count_by (λ k. k == h) hops ≡ 4 = ap (λ (k : ℕ). 4 * k) m.count in
        let c = cost_is (Hop h) in
        omega (arith, gave, same, c ∙ (cost ∙ four))
    pays_hop h (inr m) =
        let cost : price_of p i (Hop h) (AnAccess a 0) ≡ 4 * count_by (λ k. k == h) hops = ap (λ (t : Style). by_fourphase t (4 * count_by (λ k. k == h) hops)) s.style in
        let zeroth : 4 * count_by (λ k. k == h) hops ≡ 0 = ap (λ (k : ℕ). 4 * k) m.count in
        let c = cost_is (Hop h) in
        let same = apart_left (Hop h) (record {
          hops = not_hop (Hop h) (λ j l e. m.none j l (hop_of _ _ (sym e)));
          pool = not_pool (Hop h) (λ e. cc);
          memory = not_memory (Hop h) (λ q f e. cc);
        }) in
        omega (arith, same, c ∙ (cost ∙ zeroth))
      where
        hop_of : (b c : ℕ) → ◌≡◌ {A = ObjectNo} (Hop b) (Hop c) → b ≡ c
        hop_of b c e = cc

    pays_pool : (k : ℕ) → (t : Bool) → (i.number == k) ≡ t → left_of u (object_number p.platform (Pool k)) + price p i (Pool k) v.port.engine.seq ≡ left_of v.wallet (object_number p.platform (Pool k))
    pays_pool k true e =
        let same : i.number ≡ k = eqb-true i.number k e in
        let is : own_pool p n ≡ object_number p.platform (Pool k) = pool_is ∙ ap (λ (m : ℕ). object_number p.platform (Pool m)) same in
        let gave = subst (λ (m : ℕ). left_of u m + (2 * length (hops_at p n a) + 1) ≡ left_of w m) is paid.pool in
        let took = subst (λ (m : ℕ). left_of w m ≡ left_of v.wallet m - 1) is (same_pulled tokens (own_pool p n) v.wallet w pulls) in
        let cost : price_of p i (Pool k) (AnAccess a 0) ≡ 2 + 2 * length hops = ap (λ (b : Bool). if b then by_fourphase i.row.style (2 + 2 * length hops) else 0) e ∙ ap (λ (t : Style). by_fourphase t (2 + 2 * length hops)) s.style in
        let h = has (Pool k) in
        let c = cost_is (Pool k) in
        let count : length (hops_at p n a) ≡ length hops = ap (λ (hs : List ℕ). length hs) hops_is in
        sum (length hops) (length (hops_at p n a)) _ _ _ _ _ gave took cost h c count
      where
        sum : (c d x y z m r : ℕ) → x + (2 * d + 1) ≡ y → y ≡ z - 1 → m ≡ 2 + 2 * c → m ≤ z → r ≡ m → d ≡ c → x + r ≡ z
        sum c d x y z m r f g e q k l = omega (arith, f, g, e, q, k, l)
    pays_pool k false e =
        let cost : price_of p i (Pool k) (AnAccess a 0) ≡ 0 = ap (λ (b : Bool). if b then by_fourphase i.row.style (2 + 2 * length hops) else 0) e in
        let c = cost_is (Pool k) in
        let same = apart_left (Pool k) (record {
          hops = not_hop (Pool k) (λ j l f. cc);
          pool = not_pool (Pool k) (λ f. differs (pool_of _ _ f));
          memory = not_memory (Pool k) (λ q f g. cc);
        }) in
        omega (arith, same, c ∙ cost)
      where
        pool_of : (b c : ℕ) → ◌≡◌ {A = ObjectNo} (Pool b) (Pool c) → b ≡ c
        pool_of b c e = cc

        differs : k ≡ i.number → ⊥
        differs q = let f : (i.number == k) ≡ true = eq-eqb i.number k (sym q) in cc

    pays_memory : (m : ℕ) (o : Option model.Route) → route_of p.platform i a ≡ o → left_of u (object_number p.platform (Memory m)) + price p i (Memory m) v.port.engine.seq ≡ left_of v.wallet (object_number p.platform (Memory m))
    pays_memory m None f =
        let cost : price_of p i (Memory m) (AnAccess a 0) ≡ 0 = leads_nowhere p i m a f in
        let c = cost_is (Memory m) in
        let same = apart_left (Memory m) (record {
          hops = not_hop (Memory m) (λ j l e. cc);
          pool = not_pool (Memory m) (λ e. cc);
          memory = not_memory (Memory m) (λ q g e. cc);
        }) in
        omega (arith, same, c ∙ cost)
    pays_memory m (Some q) f = elim (cases_eq m q.memory) [
      | inl same ↦ (
          let r = told q f in
          let is : r.0.memory ≡ object_number p.platform (Memory m) = sym (memory_is r.0 r.1) ∙ ap (λ (k : ℕ). object_number p.platform (Memory k)) (r.2 ∙ sym same) in
          let gave = subst (λ (k : ℕ). left_of u k + 1 ≡ left_of w k) is (paid.memory r.0 r.1).0 in
          let kept = subst (λ (k : ℕ). left_of w k ≡ left_of v.wallet k) is (other_left r.0.memory (λ e. apart.apart r.0.memory (numbered r.0 r.1) (sym (e ∙ pool_is)))) in
          let cost : price_of p i (Memory m) (AnAccess a 0) ≡ 1 = subst (λ (k : ℕ). price_of p i (Memory k) (AnAccess a 0) ≡ 1) (sym same) (leads_there p i a q f) in
          let c = cost_is (Memory m) in
          omega (arith, gave, kept, c ∙ cost)
          )
      | inr other ↦ (
          let cost : price_of p i (Memory m) (AnAccess a 0) ≡ 0 = leads_elsewhere p i m a q f other in
          let c = cost_is (Memory m) in
          let same = apart_left (Memory m) (record {
            hops = not_hop (Memory m) (λ j l e. cc);
            pool = not_pool (Memory m) (λ e. cc);
            memory = not_memory (Memory m) (λ z g e. other (memory_of _ _ e ∙ ap (λ (d : model.Route). d.memory) (one_model z q (sym g ∙ f))));
          }) in
          omega (arith, same, c ∙ cost)
          )
    ]
      where
        one_model : (b c : model.Route) → Some b ≡ Some c → b ≡ c
        one_model b c e = cc

        memory_of : (b c : ℕ) → ◌≡◌ {A = ObjectNo} (Memory b) (Memory c) → b ≡ c
        memory_of b c e = cc

        told : (q : model.Route) → route_of p.platform i a ≡ Some q → (r : Route) × (route_at p n a ≡ Some r) × (r.memory ≡ q.memory)
        told q f = (
          _,
          ap (λ (o : Option Initiator). route_by (walk_by p.platform o a)) s.is ∙ ap (route_seen _ _) f,
          refl,
        )

    distinct : (j k : ℕ) → j < length hops → k < length hops → get_or hops j 0 ≡ get_or hops k 0 → j ≡ k
    distinct j k l m e = apart.hops j k l m (ap (λ (h : ℕ). object_number p.platform (Hop h)) e)

    pub pays : (o : ObjectNo) → left_at p u o + price p i o v.port.engine.seq ≡ left_at p v.wallet o
    pays (Hop h) = pays_hop h (passes hops h distinct)
    pays (Pool k) = pays_pool k (i.number == k) refl
    pays (Memory m) = pays_memory m (route_of p.platform i a) refl

  -- and with its payload filled and stocked, it may start
  module _ (back : Held Content Plan) (within : Within v.note.knows.known back.knows.known) (below : StandBelow back.knows.known back.knows.seen) (b0 b : Baton) (z : Purse)
      (taken : HasTaken frame tokens (txn_of n v.port.engine.seq) v.port.time v.note.knows.seen b0 back.knows.known) (is : b ≡ record b0 { payload = payload_of v.port.engine 4096; wallet = z })
      (stocked : IsStocked tokens p n a (payload_cost (payload_of v.port.engine 4096)) z) where
    abbrev e : TxnId
    e = txn_of i.number v.port.engine.seq

    abbrev took : HasTaken frame tokens e v.port.time v.note.knows.seen b0 back.knows.known
    took = subst (λ (k : ℕ). HasTaken frame tokens (txn_of k v.port.engine.seq) v.port.time v.note.knows.seen b0 back.knows.known) (sym s.number) taken

    abbrev filled : Baton
    filled = record { payload = payload_of v.port.engine 4096; wallet = z; slot = (let c = b0 in c.slot); txn = e; own = reference p tokens e took.position 16 }

    is_filled : b ≡ filled
    is_filled = is ∙ ap (λ (c : Baton). record c { payload = payload_of v.port.engine 4096; wallet = z }) took.baton

    under : IsUnderWay p i v.port (events_of p.platform back.knows.known) back.knows.seen (left_at p v.wallet)
    under = knows_more p i v.port (events_of p.platform v.note.knows.known) (events_of p.platform back.knows.known) v.note.knows.seen back.knows.seen (left_at p v.wallet) s.way
        (events_more p.platform v.note.knows.known back.knows.known within) (events_below p.platform v.note.knows.known back.knows.known back.knows.seen below)

    told_route : (q : model.Route) → route_of p.platform i a ≡ Some q → (r : Route) × (route_at p n a ≡ Some r) × (r.memory ≡ q.memory)
    told_route q f = (_, ap (λ (o : Option Initiator). route_by (walk_by p.platform o a)) s.is ∙ ap (route_seen _ _) f, refl)

    abbrev at : Numbers
    at = numbers_of p e (record { hops = hops; routed = routed }) (route_of p.platform i a)

    hop_stocked : (j : ℕ) → j < length hops → left_of z (at.hop j) ≡ 4
    hop_stocked j l = subst (λ (k : ℕ). left_of z k ≡ 4) (place_is j) (stocked.hops j (subst (λ (hs : List ℕ). j < length hs) (sym hops_is) l))

    pool_stocked : left_of z at.pool ≡ 2 * length hops + 1
    pool_stocked = subst (λ (k : ℕ). left_of z k ≡ 2 * length hops + 1) pool_is (stocked.pool ∙ ap (λ (hs : List ℕ). 2 * length hs + 1) hops_is)

    memory_by : (o : Option model.Route) → route_of p.platform i a ≡ o → (m : ℕ) → travel_number p o ≡ Some m → (left_of z m ≡ 1) × (bytes_of z m ≡ payload_cost (payload_of v.port.engine 4096))
    memory_by None f m g = cc
    memory_by (Some q) f m g =
        let r = told_route q f in
        let number : r.0.memory ≡ m = sym (memory_is r.0 r.1) ∙ (ap (λ (k : ℕ). object_number p.platform (Memory k)) r.2 ∙ one _ m g) in
        subst (λ (k : ℕ). (left_of z k ≡ 1) × (bytes_of z k ≡ payload_cost (payload_of v.port.engine 4096))) number (stocked.memory r.0 r.1)
      where
        one : (x y : ℕ) → Some x ≡ Some y → x ≡ y
        one x y e = cc

    stocks : Stocks tokens (length hops) at (λ j left. left ≡ 4) (2 * length hops + 1) 1 (payload_cost (payload_of v.port.engine 4096)) z
    stocks = record {
      of = stocked.of;
      places = stocked.places;
      hops = hop_stocked;
      pool = pool_stocked;
      memory = λ m g. memory_by (route_of p.platform i a) refl m g;
      none = λ o no_hop no_pool no_memory. stocked.none o (record {
        hops = λ j l f. no_hop j (long j l) (f ∙ place_is j);
        pool = λ f. no_pool (f ∙ pool_is);
        memory = λ r q f. no_memory r.memory (numbered r q) f;
      });
      no_bytes = λ o no_memory. stocked.no_bytes o (λ r q f. no_memory r.memory (numbered r q) f);
    }

    filled_starts : CanStart frame tokens i.number filled v.port.time back.knows.known
    filled_starts = record {
      of = refl;
      pass = way p i v.port back.knows.known back.knows.seen (left_at p v.wallet) under its s.style x next_is;
      asked = taken_asked p i v.port back.knows.known back.knows.seen (left_at p v.wallet) under its s.style x next_is (same_kind x.kind access) tokens;
      position = took.position;
      taken = took.taken;
      own = refl;
      room = filled_room p i v.port back.knows.known back.knows.seen (left_at p v.wallet) under its s.style x next_is;
      status = filled_new p i v.port back.knows.known back.knows.seen (left_at p v.wallet) under its s.style x next_is;
      content = filled_asks p i v.port back.knows.known back.knows.seen (left_at p v.wallet) under its s.style x next_is (same_kind x.kind access);
      tickets = stocks;
    }

    pub starts : CanStart frame tokens n b v.port.time back.knows.known
    starts = subst (λ (k : ℕ). CanStart frame tokens k b v.port.time back.knows.known) s.number (subst (λ (c : Baton). CanStart frame tokens i.number c v.port.time back.knows.known) (sym is_filled) filled_starts)

pub may_stock : NextMayBeStocked
may_stock table tokens frame v s quiet x next_is access w pulls = stockable table tokens frame v s quiet x next_is access w pulls

pub has_paid : NextIsPaid
has_paid table tokens frame v s quiet x next_is access w pulls u paid = pays table tokens frame v s quiet x next_is access w pulls u paid

pub may_start : NextMayStart
may_start table tokens frame v s quiet x next_is access w pulls back within below b0 b z taken is stocked = starts table tokens frame v s quiet x next_is access w pulls back within below b0 b z taken is stocked
