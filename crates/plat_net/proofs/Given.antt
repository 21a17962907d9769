-- What the plan gives for the calls of a net: where an object stands, that it is there, and that the objects of an access differ.
use Rattle.std.proofs.Common.{◌≡◌, ℕ, zero, suc, ◌+◌, ◌<◌, ◌≤◌, List, [], ◌∷◌, length, true, Option, Some, None, refl, sym, ◌∙◌, ap, subst, inl, inr, arith}
use Rattle.std.specs.Prelude.{IfSome, slice_get, is_some}
use Rattle.std.proofs.lemmas.Option.{slice_get_within}
use Rattle.atomic_table.specs.Seated.{TableId}
use Rattle.one_history.specs.declared.entry.Entry.{Entry}
use Rattle.one_history.specs.declared.view.Frame.{Frame}
use Rattle.tlm_types.specs.declared.entry.Content.{Content}
use Rattle.tlm_types.specs.declared.words.ObjectNo.{ObjectNo}
use Rattle.tlm_types.specs.declared.words.ObjectNo.TheVariants.{Memory, Hop, Pool}
use Rattle.tlm_types.specs.declared.words.ReqMode.{ReqMode}
use Rattle.tlm_types.specs.declared.words.ReqMode.TheVariants.{Accept, Short, EndReq, BeginResp, Complete}
use Rattle.tlm_types.specs.declared.words.TxnId.{TxnId}
use Rattle.tlm_model.specs.declared.platform.InitiatorRow.{InitiatorRow}
use Rattle.tlm_model.specs.declared.platform.Style.{Style}
use Rattle.tlm_model.specs.declared.platform.Style.TheVariants.{Blocking, Direct, FourPhase}
use Rattle.tlm_model.specs.declared.platform.Target.TheVariants as targets
use Rattle.tlm_model.specs.Plan.{Plan, Initiator, initiators_of}
use Rattle.tlm_model.specs.Route.{hops_of, route_of}
use Rattle.flow_model.specs.Events.{Among, Event, Finds, IsTake}
use Rattle.flow_model.specs.Platform.{addresses_of, passage_by, passage_of, passage_to}
use Rattle.flow_model.specs.World.{Passage, hop_at, hop_count}
use Rattle.tlm_model.proofs.InitiatorLemmas.{initiator_from}
use Rattle.flow_model.proofs.Ways.{world_law}
use Rattle.platform_shape.specs.Shape.{IsShape}
use Rattle.route_plan.specs.Routes.{row_walk}
use Rattle.route_plan.specs.Valid.{IsValid, hop_count as route_hops}
use Rattle.route_plan.proofs.StepLemmas.{few_hops_at}
use Rattle.token_book.specs.Account.{Slip}
use Rattle.shared_object.specs.Standing.{Numbers}
use Rattle.payload_pool.specs.declared.baton.Baton.{Baton}
use Rattle.cargo_model.specs.declared.cargo.Cargo.{Cargo}
use Rattle.cargo_model.specs.Known.{Known, has_pool, object_number, objects_of, row_has_pool}
use Rattle.cargo_model.specs.Origins.{AreThere}
use Rattle.cargo_model.specs.Tickets.{AreApart}
use Rattle.cargo_model.specs.Travel.{IsAsked, IsTaken, numbers_for, route_for}
use Rattle.cargo_model.proofs.Origins.{apart_law, only_object, stands}
use Rattle.cargo_model.proofs.There.{there_law}
use Rattle.cargo_net.proofs.AskedLemmas.{memories_end}
use Rattle.cargo_net.specs.Begins.{MayBegin}
use Rattle.cargo_net.specs.Descends.{MayDescend, owed_on}
use Rattle.cargo_net.specs.Ends.{MayEndRequest, MayEndResponse}
use Rattle.cargo_net.specs.Fetched.{IsHopThere}
use Rattle.cargo_net.specs.Forwards.{EndsAt}
use Rattle.cargo_net.specs.Hops.{IsOnWay}
use Rattle.cargo_net.specs.Pools.{IsPoolOf, MayAcquire, MayRelease, MayStow, MayTake}
use Rattle.cargo_net.specs.Responds.{MayRespond}
use Rattle.cargo_net.specs.Serves.{HasServed, MayServe}
use Rattle.cargo_net.specs.Starts.{MayStart}
use Rattle.plat_net.specs.HopCalls.{CanBegin, CanEndRequest, CanEndResponse, CanRespond, IsOnHop}
use Rattle.plat_net.specs.MemoryCalls.{CanServe, IsServedAt}
use Rattle.plat_net.specs.Net.{HasPool, hop_numbers, memory_numbers, pool_numbers}
use Rattle.plat_net.specs.Objects.{frame_of}
use Rattle.plat_net.specs.Places.{LeadsTo, hop_place, memory_place, own_pool}
use Rattle.plat_net.specs.PoolCalls.{CanAcquire, CanDescend, CanRelease, CanStart, CanStow, CanTake, IsAccessOf, place_above}
use Rattle.plat_net.proofs.Lookups.{row_in}
use Rattle.plat_net.proofs.NoCycle.{shapes_law}
use Rattle.plat_net.proofs.NumberLemmas.{hop_there, memory_number, memory_there}
use Rattle.plat_net.proofs.ObjectLemmas.{count_planned, object_there}
use Rattle.plat_net.proofs.Targets.{ends_stop}

-- what stands at a place is one of the list
pub among_at : {A : Type 0} (xs : List A) (k : ℕ) (x : A) → slice_get xs k ≡ Some x → Among xs x
among_at [] k x at = cc
among_at (y ∷ xs) zero x at = inl (one y x at)
  where
    one : {A : Type 0} (y x : A) → Some y ≡ Some x → y ≡ x
    one y x q = cc
among_at (y ∷ xs) (suc k) x at = inr (among_at xs k x at)

-- a four-phase access has an initiator of four phases, and passes the way of an address
pub record IsWayOf (p : Plan) (x : TxnId) (pass : Passage) : Type 0 where
  pub initiator : Initiator
  pub is : slice_get (initiators_of p) x.initiator ≡ Some initiator
  pub style : initiator.row.style ≡ FourPhase
  pub address : ℕ
  pub way : pass ≡ record { hops = hops_of p.platform initiator address; routed = is_some (route_of p.platform initiator address) }

pub way_of : (p : Plan) (x : TxnId) (pass : Passage) → passage_of p x ≡ Some pass → IsWayOf p x pass
way_of p x pass q = go (slice_get (initiators_of p) x.initiator) refl q
  where
    one : (u v : Passage) → Some u ≡ Some v → u ≡ v
    one u v e = cc

    by_style : (i : Initiator) → slice_get (initiators_of p) x.initiator ≡ Some i → (s : Style) → i.row.style ≡ s → (a : Option (Option ℕ)) → passage_to p.platform i s a ≡ Some pass → IsWayOf p x pass
    by_style i is Blocking e a q = cc
    by_style i is Direct e a q = cc
    by_style i is FourPhase e None q = cc
    by_style i is FourPhase e (Some None) q = cc
    by_style i is FourPhase e (Some (Some a)) q = record { initiator = i; is = is; style = e; address = a; way = sym (one _ pass q) }

    go : (o : Option Initiator) → slice_get (initiators_of p) x.initiator ≡ o → passage_by p.platform o x.seq ≡ Some pass → IsWayOf p x pass
    go None is q = cc
    go (Some i) is q = by_style i is i.row.style refl (slice_get (addresses_of i.script) x.seq) q

module _ (p : Plan) (x : TxnId) (pass : Passage) (passes : passage_of p x ≡ Some pass) where
  abbrev pub w : IsWayOf p x pass
  w = way_of p x pass passes

  pub all_there : AreThere p x pass (route_of p.platform w.initiator w.address)
  all_there = subst (λ (g : Passage). AreThere p x g (route_of p.platform w.initiator w.address)) (sym w.way) (there_law p x w.initiator w.address (is_some (route_of p.platform w.initiator w.address)) w.is w.style)

  pub pool_there : HasPool p.platform x.initiator
  pool_there =
      let f = initiator_from 0 p.platform.initiators p.scripts x.initiator w.initiator w.is in
      (slice_get_within p.platform.initiators x.initiator w.initiator.row f.1, ap row_has_pool f.1 ∙ has w.style)
    where
      has : {s : Style} → s ≡ FourPhase → has_pool s ≡ true
      has q = ap has_pool q

-- for the pool of this initiator
pub has_pool_of : (p : Plan) (initiator : ℕ) (x : TxnId) (pass : Passage) → IsAccessOf p initiator x pass → HasPool p.platform initiator
has_pool_of p initiator x pass access = subst (HasPool p.platform) access.of (pool_there p x pass access.passes)

pub asked_pool : (p : Plan) (tokens : TableId) (K : Event → Type 0) (initiator : ℕ) (x : TxnId) (pass : Passage) → x.initiator ≡ initiator → IsAsked p tokens K x pass → HasPool p.platform initiator
asked_pool p tokens K initiator x pass of asked = subst (HasPool p.platform) of (pool_there p x pass asked.passes)

-- the objects of an access differ
pub asked_apart : (p : Plan) (tokens : TableId) (K : Event → Type 0) (x : TxnId) (pass : Passage) (asked : IsAsked p tokens K x pass) → IsShape p.platform → AreApart (hop_count pass) (numbers_for p tokens K x pass asked)
asked_apart p tokens K x pass asked shape =
    let w = way_of p x pass asked.passes in
    let same : w.initiator ≡ asked.initiator = one w.initiator asked.initiator (sym w.is ∙ asked.is) in
    let style : asked.initiator.row.style ≡ FourPhase = ap (λ (i : Initiator). i.row.style) (sym same) ∙ w.style in
    let there : AreThere p x pass (route_for p tokens K x pass asked) =
    subst (λ (g : Passage). AreThere p x g (route_for p tokens K x pass asked)) (sym asked.way) (there_law p x asked.initiator asked.request.address (is_some (route_of p.platform asked.initiator asked.request.address)) asked.is style) in
    apart_law p x pass (route_for p tokens K x pass asked) ((world_law p (shapes_law p.platform shape)).passages x pass asked.passes) there
  where
    one : (i j : Initiator) → Some i ≡ Some j → i ≡ j
    one i j q = cc

-- a way has at most nine hops
pub few_passed : (p : Plan) (tokens : TableId) (K : Event → Type 0) (x : TxnId) (pass : Passage) (asked : IsAsked p tokens K x pass) → IsShape p.platform → hop_count pass ≤ 9
few_passed p tokens K x pass asked shape =
    let f = initiator_from 0 p.platform.initiators p.scripts x.initiator asked.initiator asked.is in
    let bound : length (row_walk p.platform x.initiator (Some asked.initiator.row) asked.request.address).hops ≤ 9 =
    subst (λ (o : Option InitiatorRow). length (row_walk p.platform x.initiator o asked.request.address).hops ≤ 9) f.1 (few_hops_at p.platform x.initiator asked.request.address shape) in
    let long : hop_count pass ≡ length (hops_of p.platform asked.initiator asked.request.address) = ap (λ (g : Passage). hop_count g) asked.way in
    omega (arith, bound, long)

-- the Take of any slot is a Take
pub took : (K : Event → Type 0) (x : TxnId) (position slot : ℕ) → Finds K (IsTaken x position slot) → Finds K (IsTake x)
took K x position slot f = (let t = f.is in record { event = f.event; known = f.known; is = record { object = t.object; txn = t.txn; slot = slot; what = t.what } })

module _ (frame : Frame Plan) (tokens : TableId) (known : List (Entry Content)) (made : frame ≡ frame_of frame.world) where
  abbrev p : Plan
  p = frame.world

  abbrev K : Event → Type 0
  K = Known frame.world.platform known

  -- the pool of an access of this initiator
  pub pool_is : (initiator : ℕ) (x : TxnId) (pass : Passage) → x.initiator ≡ initiator → passage_of p x ≡ Some pass → IsPoolOf frame (own_pool p initiator) x
  pool_is initiator x pass of passes = record {
    place = ap (λ (n : ℕ). object_number p.platform (Pool n)) (sym of);
    there = (all_there p x pass passes).pool;
    planned = ap (λ (f : Frame Plan). length f.planned) made ∙ count_planned p;
  }

  -- a hop of the way of an access
  pub hop_is : (h : ℕ) (x : TxnId) (pass : Passage) (k : ℕ) → passage_of p x ≡ Some pass → k < hop_count pass → hop_at pass k ≡ h → Finds K (IsTake x) → IsOnWay p (hop_place p h) known x pass k
  hop_is h x pass k passes below here taken = record {
    passes = passes;
    below = below;
    place = ap (hop_place p) (sym here);
    there = (all_there p x pass passes).hops k below;
    taken = taken;
  }

  pub may_take : (initiator : ℕ) (x : TxnId) → CanTake p initiator x → MayTake frame (own_pool p initiator) x
  may_take initiator x can = record { pass = can.pass; passes = can.access.passes; pool = pool_is initiator x can.pass can.access.of can.access.passes }

  abbrev pub may_start : (shape : IsShape p.platform) (initiator : ℕ) (b : Baton) (at : ℕ) → CanStart frame tokens initiator b at known → MayStart frame tokens (own_pool p initiator) b at known
  may_start shape initiator b at can = record {
    pass = can.pass;
    asked = can.asked;
    pool = pool_is initiator b.txn can.pass can.of can.asked.passes;
    position = can.position;
    taken = can.taken;
    own = can.own;
    room = can.room;
    status = can.status;
    content = can.content;
    apart = asked_apart p tokens K b.txn can.pass can.asked shape;
    tickets = can.tickets;
  }

  abbrev pub may_acquire : (initiator : ℕ) (b : Baton) (at : ℕ) → CanAcquire frame tokens initiator b at known → MayAcquire frame tokens (own_pool p initiator) b at known
  may_acquire initiator b at can = record {
    pass = can.pass;
    passes = can.access.passes;
    pool = pool_is initiator b.txn can.pass can.access.of can.access.passes;
    position = can.position;
    taken = can.taken;
    count = can.count;
    few = can.few;
    own = can.own;
    of = can.wallet;
    ticket = can.ticket;
    after = can.after;
  }

  abbrev pub may_release : (initiator : ℕ) (hold : Slip) (at : ℕ) → CanRelease frame tokens initiator hold at known → MayRelease frame tokens (own_pool p initiator) hold at known
  may_release initiator hold at can = record {
    x = can.x;
    pass = can.pass;
    passes = can.access.passes;
    pool = pool_is initiator can.x can.pass can.access.of can.access.passes;
    position = can.position;
    taken = can.taken;
    count = can.count;
    few = can.few;
    is = can.is;
    after = can.after;
  }

  abbrev pub may_stow : (initiator : ℕ) (b : Baton) (at : ℕ) → CanStow frame tokens initiator b at known → MayStow frame tokens (own_pool p initiator) b at known
  may_stow initiator b at can = record {
    pass = can.pass;
    passes = can.access.passes;
    pool = pool_is initiator b.txn can.pass can.access.of can.access.passes;
    position = can.position;
    taken = can.taken;
    count = can.count;
    few = can.few;
    own = can.own;
    room = can.room;
    spent = can.spent;
    after = can.after;
  }

  abbrev pub may_begin : (shape : IsShape p.platform) (h : ℕ) (c : Cargo) (at : ℕ) → CanBegin frame tokens h c at known → MayBegin frame tokens (hop_place p h) c at known
  may_begin shape h c at can = record {
    pass = can.pass;
    hop = can.hop;
    way = hop_is h c.baton.txn can.pass can.hop can.down.asked.passes can.down.held.below can.here (took K c.baton.txn can.down.held.position c.baton.slot can.down.held.taken);
    down = can.down;
    apart = asked_apart p tokens K c.baton.txn can.pass can.down.asked shape;
    least = can.least;
  }

  abbrev pub may_respond : (shape : IsShape p.platform) (h : ℕ) (leg : Slip) (c : Cargo) (at : ℕ) → CanRespond frame tokens h leg c at known → MayRespond frame tokens (hop_place p h) leg c at known
  may_respond shape h leg c at can = record {
    pass = can.pass;
    hop = can.hop;
    way = hop_is h c.baton.txn can.pass can.hop can.up.asked.passes can.up.held.below can.here (took K c.baton.txn can.up.held.position c.baton.slot can.up.held.taken);
    up = can.up;
    apart = asked_apart p tokens K c.baton.txn can.pass can.up.asked shape;
    state = can.state;
    open_lane = can.open_lane;
    leg_of = can.leg_of;
    answer = can.answer;
    begun = can.begun;
    fits = can.fits;
    responds = can.responds;
    ended = can.ended;
    least = can.least;
  }

  pub on_way : (h : ℕ) (x : TxnId) (pass : Passage) (k : ℕ) → IsOnHop p h known x pass k → IsOnWay p (hop_place p h) known x pass k
  on_way h x pass k way = hop_is h x pass k way.passes way.below way.here way.taken

  abbrev pub may_end_request : (h : ℕ) (leg : Slip) (at : ℕ) → CanEndRequest frame tokens h leg at known → MayEndRequest frame tokens (hop_place p h) leg at known
  may_end_request h leg at can = record {
    x = can.x;
    pass = can.pass;
    hop = can.hop;
    way = on_way h can.x can.pass can.hop can.way;
    leg_of = can.leg_of;
    row = can.row;
    passed = can.passed;
    least = can.least;
  }

  abbrev pub may_end_response : (h : ℕ) (leg : Slip) (at : ℕ) → CanEndResponse frame tokens h leg at known → MayEndResponse frame tokens (hop_place p h) leg at known
  may_end_response h leg at can = record {
    x = can.x;
    pass = can.pass;
    hop = can.hop;
    way = on_way h can.x can.pass can.hop can.way;
    leg_of = can.leg_of;
    ended = can.ended;
    least = can.least;
  }

  pub above_is : (above : Option ℕ) (h : ℕ) → (o : _) → above ≡ owed_on o h → place_above p above ≡ owed_on o (hop_place p h)
  above_is above h o q = ap (place_above p) q ∙ same o
    where
      same : (o : _) → place_above p (owed_on o h) ≡ owed_on o (hop_place p h)
      same o = grind arith

  abbrev pub may_descend : (shape : IsShape p.platform) (initiator : ℕ) (c : Cargo) (above : Option ℕ) (address at : ℕ) → CanDescend frame tokens initiator c above address at known → MayDescend frame tokens (own_pool p initiator) c (place_above p above) address at known
  may_descend shape initiator c above address at can = record {
    pass = can.pass;
    hop = can.hop;
    down = can.down;
    next = can.next;
    pool = pool_is initiator c.baton.txn can.pass can.of can.down.asked.passes;
    apart = asked_apart p tokens K c.baton.txn can.pass can.down.asked shape;
    begun = can.begun;
    arrival = can.arrival;
    address_is = can.address_is;
    above_is = above_is above (hop_at can.pass can.hop) _ can.above_is;
  }

  pub memory_among : (m : ℕ) → m < length p.platform.memories → Among (objects_of p.platform) (Memory m)
  memory_among m below = among_at (objects_of p.platform) m (Memory m) (memory_there p.platform m below)

  -- the way of an access ends at the memory that its hop leads to
  pub ends_there : (shape : IsShape p.platform) (m : ℕ) (x : TxnId) (pass : Passage) (asked : IsAsked p tokens K x pass) (k : ℕ) → m < length p.platform.memories → k < hop_count pass → LeadsTo p.platform (hop_at pass k) (targets.Memory m) → EndsAt p pass k (route_for p tokens K x pass asked) (memory_place p m)
  ends_there shape m x pass asked k there below leads =
      let row = row_in p.platform.memories m there in
      let few = few_passed p tokens K x pass asked shape in
      memories_end p tokens known x pass asked k m row.0 below (omega (arith, few, below)) (ends_stop p tokens known x pass asked k (targets.Memory m) below leads) row.1 (memory_among m there)

  abbrev pub may_serve : (shape : IsShape p.platform) (m : ℕ) (c : Cargo) (at : ℕ) → m < length p.platform.memories → CanServe frame tokens m c at known → MayServe frame tokens (memory_place p m) c at known
  may_serve shape m c at there can =
      let ends = ends_there shape m c.baton.txn can.pass can.fetched.down.asked can.hop there can.fetched.down.held.below can.leads in
      record {
        pass = can.pass;
        hop = can.hop;
        fetched = can.fetched;
        last = ends.last;
        apart = asked_apart p tokens K c.baton.txn can.pass can.fetched.down.asked shape;
        route = ends.to;
        routed = ends.routed;
        place = ends.place;
        there = ends.there;
        begun = can.begun;
      }

  pub served_at : (shape : IsShape p.platform) (m : ℕ) (c : Cargo) (at : ℕ) (there : m < length p.platform.memories) (can : CanServe frame tokens m c at known) (new : Cargo) (later : List (Entry Content)) → HasServed frame tokens (memory_place p m) c at can.pass can.hop can.fetched.down.asked.access (may_serve shape m c at there can).route new later
      → IsServedAt frame tokens m c at can.pass can.hop can.fetched.down.asked.access new later
  served_at shape m c at there can new later s =
      let ends = ends_there shape m c.baton.txn can.pass can.fetched.down.asked can.hop there can.fetched.down.held.below can.leads in
      record { route = ends.to; memory_is = same ends.to.memory m (only_object p.platform (Memory ends.to.memory) (Memory m) (memory_among m there) (sym ends.place)); served = s }
    where
      same : (a b : ℕ) → ◌≡◌ {A = ObjectNo} (Memory a) (Memory b) → a ≡ b
      same a b q = cc

  -- a hop of the plan is one of the history
  pub hop_known : (h : ℕ) → h < route_hops p.platform → IsHopThere p (hop_place p h)
  hop_known h below = record { hop = h; place = refl; there = among_at (objects_of p.platform) (length p.platform.memories + h) (Hop h) (hop_there p.platform h below) }

-- the numbers of objects in the history, as the getters of a net tell them
pub hop_numbered : (p q : Plan) (h : ℕ) (s : Numbers) → s ≡ hop_numbers p.platform h → p ≡ q → s.number ≡ hop_place q h
hop_numbered p q h s is same = ap (λ (t : Numbers). t.number) is ∙ ap (λ (r : Plan). hop_place r h) same

pub pool_numbered : (p q : Plan) (i : ℕ) (s : Numbers) → s ≡ pool_numbers p.platform i → p ≡ q → s.number ≡ own_pool q i
pool_numbered p q i s is same = ap (λ (t : Numbers). t.number) is ∙ ap (λ (r : Plan). own_pool r i) same

pub memory_numbered : (q : Plan) (m : ℕ) (s : Numbers) → s ≡ memory_numbers m → m < length q.platform.memories → s.number ≡ memory_place q m
memory_numbered q m s is below = ap (λ (t : Numbers). t.number) is ∙ sym (memory_number q.platform m below)

-- a hop of the way of an access is one of the plan
hop_below : (p : Plan) (x : TxnId) (pass : Passage) (k : ℕ) → passage_of p x ≡ Some pass → k < hop_count pass → hop_at pass k < route_hops p.platform
hop_below p x pass k passes below =
    let here = (all_there p x pass passes).hops k below in
    object_there p.platform (object_number p.platform (Hop (hop_at pass k))) (Hop (hop_at pass k)) (stands (Hop (hop_at pass k)) (objects_of p.platform) here)

pub above_below : (p : Plan) (x : TxnId) (pass : Passage) (k : ℕ) (row : ReqMode) (above : Option ℕ) → passage_of p x ≡ Some pass → k < hop_count pass → above ≡ owed_on row (hop_at pass k) → IfSome above (λ (h : ℕ). h < route_hops p.platform)
above_below p x pass k row above passes below is = subst (λ (o : Option ℕ). IfSome o (λ (h : ℕ). h < route_hops p.platform)) (sym is) (by row)
  where
    by : (row : ReqMode) → IfSome (owed_on row (hop_at pass k)) (λ (h : ℕ). h < route_hops p.platform)
    by Accept = hop_below p x pass k passes below
    by Short = tt
    by EndReq = tt
    by BeginResp = tt
    by Complete = tt

-- the plan that a net shows is of a good shape
pub shape_of : (r p q : Plan) → IsValid r → r ≡ p → p ≡ q → IsShape q.platform
shape_of r p q valid first second = subst (λ (x : Plan). IsShape x.platform) (first ∙ second) valid.shape
