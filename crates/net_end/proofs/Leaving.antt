-- From what the objects leave to what the law of ended runs wants of them.
use Rattle.std.proofs.Common.{◌≡◌, ◌⊎◌, ℕ, zero, suc, ◌+◌, ◌<◌, ◌≤◌, Bool, true, false, cond, List, [], ◌∷◌, ◌++◌, length, map, take, Option, Some, None, refl, ap, sym, subst, ◌∙◌, inl, inr, arith, append_assoc}
use Rattle.std.specs.Prelude.{All, not, ◌==◌, slice_get}
use Rattle.std.specs.List.{count_by}
use Rattle.std.proofs.lemmas.Bool.{ne_eqb}
use Rattle.std.proofs.lemmas.List.Sums.{sum_by-cons}
use Rattle.std.proofs.lemmas.List.{length-map, map-append, take_at}
use Rattle.std.proofs.lemmas.List.Elements.{All-head, All-tail}
use mathlib.Core.Option.{some, some-ne-none, some-injective}
use lib.ListN.{get_elem?}
use Rattle.atomic_table.specs.Seated.{TableId}
use Rattle.one_history.specs.declared.entry.Entry.{Entry as HistoryEntry}
use Rattle.one_history.specs.declared.view.Frame.{Frame}
use Rattle.one_history.specs.Held.{Held}
use Rattle.one_history.specs.Moves.{own_of}
use Rattle.view_lists.specs.Lists.{Has}
use Rattle.tlm_types.specs.declared.entry.Content.{Content}
use Rattle.tlm_types.specs.declared.entry.Entry.{Entry}
use Rattle.tlm_types.specs.declared.words.ObjectNo.{ObjectNo}
use Rattle.tlm_types.specs.declared.words.ObjectNo.TheVariants.{Memory, Hop, Pool}
use Rattle.tlm_model.specs.declared.platform.MemoryRow.{MemoryRow}
use Rattle.tlm_model.specs.Each.{AtEach, EachFrom}
use Rattle.tlm_types.specs.declared.words.ReqMode.{ReqMode}
use Rattle.tlm_types.specs.declared.words.RespMode.{RespMode}
use Rattle.tlm_types.specs.declared.words.Phase.TheVariants.{BeginResp}
use Rattle.tlm_types.specs.declared.words.TlmSync.{TlmSync}
use Rattle.tlm_types.specs.declared.entry.What.TheVariants.{Call as Called}
use Rattle.flow_model.specs.Calls.{has_open_request}
use Rattle.payload_pool.specs.Lives.{no_takes, takes_after}
use Rattle.tlm_model.specs.History.{IsNumberedFrom, entries_at, is_object}
use Rattle.tlm_model.specs.Log.{IsLog}
use Rattle.tlm_model.specs.Plan.{Plan, initiators_of}
use Rattle.tlm_model.specs.Route.{greatest_time}
use Rattle.flow_model.specs.Board.{Reaches, Rules, start}
use Rattle.flow_model.specs.Protocol.{BeginsOnce}
use Rattle.flow_model.specs.Backed.{IsBacked}
use Rattle.flow_model.specs.Events.{Among, Event, at, entries, hop_log}
use Rattle.flow_model.specs.Platform.{world_of}
use Rattle.flow_model.specs.Pools.{IsPoolLog, Life, slots_after}
use Rattle.flow_model.specs.Slots.{no_slots}
use Rattle.flow_model.specs.Traffic.{slots_of}
use Rattle.flow_model.specs.Law.{HasSteps}
use Rattle.flow_model.proofs.More.{is_backed_more}
use Rattle.hop_object.specs.Hops.{board_of, reached_of, rules_of}
use Rattle.hop_object.proofs.MarkLemmas.{marks_tell}
use Rattle.payload_pool.specs.Lives.{IsOfLog}
use Rattle.payload_pool.specs.Slots.{SlotView, is_live, slot_at}
use Rattle.good_history.specs.Joined.{IsLogOf}
use Rattle.joined_traffic.specs.Accesses.{sum_below}
use Rattle.joined_traffic.specs.Ended.{HasFreed, HasSpent, HaveLeft, MarksTell}
use Rattle.shared_object.specs.Written.{placed}
use Rattle.region_object.specs.Written.{written_from}
use Rattle.numbered_log.specs.Logged.{written_by}
use Rattle.cargo_model.specs.Known.{Known, event_of, object_number, objects_of}
use Rattle.cargo_net.proofs.ObjectsOnce.{stands_once}
use Rattle.net_end.specs.Closed.{AreHandedBack, AreLeft, IsClosed, IsLeft, IsPlanned, events_in}
use Rattle.region_object.specs.Grants.{IsGrantLog}
use Rattle.net_end.specs.Laws.{HasGatesOf, MemoriesLeaveGates, ObjectsLeave}
use Rattle.cargo_model.proofs.Origins.{is_self, is_that}
use Rattle.cargo_net.proofs.Lists.{read_there}
use Rattle.net_end.proofs.Reading.{there, at_none, at_number, entries_read, is_there, log_read, memory_read}

-- what stands at a place of a list of seats
record IsThere {A : Type 0} (l : List A) (k : ℕ) : Type 0 where
  pub item : A
  pub at : get_elem? l k ≡ some item

seat_there : {A : Type 0} (l : List A) (k : ℕ) → k < length l → IsThere l k
seat_there [] k below = absurd (omega arith)
seat_there (x ∷ l) zero below = record { item = x; at = refl }
seat_there (x ∷ l) (suc k) below = let rest = seat_there l k (omega arith) in record { item = rest.item; at = rest.at }

within : {A : Type 0} (l : List A) (k : ℕ) (x : A) → slice_get l k ≡ Some x → k < length l
within [] k x q = cc
within (y ∷ l) zero x q = omega arith
within (y ∷ l) (suc k) x q = let r = within l k x q in omega arith

-- an object has a place, or none
data Found (os : List ObjectNo) (o : ObjectNo) : Type 0 where
  Here : (k : ℕ) → slice_get os k ≡ Some o → Found os o
  Nowhere : ((k : ℕ) → slice_get os k ≡ Some o → ⊥) → Found os o

some_same : {A : Type 0} (x y : A) → Some x ≡ Some y → x ≡ y
some_same x y q = cc

no_place : (o : ObjectNo) (k : ℕ) → slice_get [] k ≡ Some o → ⊥
no_place o k q = cc

same_or_not : (o q : ObjectNo) → (q ≡ o) ⊎ (q ≡ o → ⊥)
same_or_not o q = by (is_object o q) refl
  where
    by : (b : Bool) → is_object o q ≡ b → (q ≡ o) ⊎ (q ≡ o → ⊥)
    by true e = inl (is_that o q e)
    by false e = inr (λ s. differ (sym e ∙ (ap (is_object o) s ∙ is_self o)))
      where
        differ : false ≡ true → ⊥
        differ q = cc

find_object : (os : List ObjectNo) (o : ObjectNo) → Found os o
find_object [] o = Nowhere (no_place o)
find_object (q ∷ os) o = first (same_or_not o q) (find_object os o)
  where
    first : (q ≡ o) ⊎ (q ≡ o → ⊥) → Found os o → Found (q ∷ os) o
    first (inl s) rest = Here 0 (ap (λ (x : ObjectNo). Some x) s)
    first (inr n) (Here k e) = Here (suc k) e
    first (inr n) (Nowhere f) = Nowhere (λ k. not_there k)
      where
        not_there : (k : ℕ) → slice_get (q ∷ os) k ≡ Some o → ⊥
        not_there zero e = n (some_same q o e)
        not_there (suc k) e = f k e

-- each entry of a list is at its place
numbered_from : (s : ℕ) (p : Plan) (all : List (HistoryEntry Content)) → ((q : ℕ) (e : HistoryEntry Content) → get_elem? all q ≡ some e → e.position ≡ s + q) → IsNumberedFrom s (entries (events_in p.platform all))
numbered_from s p [] at = tt
numbered_from s p (x ∷ all) at = ((let here = at 0 x refl in omega arith), numbered_from (s + 1) p all (λ q e is. let there = at (suc q) e is in omega arith))

-- slots of which none is live have no references
none_live : (slots : List SlotView) → count_by is_live slots ≡ 0 → (k : ℕ) → (slot_at slots k).out ≡ []
none_live [] none k = refl
none_live (s ∷ slots) none zero = no_out s.out refl
  where
    counted : count_by is_live (s ∷ slots) ≡ cond {A = ℕ} (is_live s) 1 0 + count_by is_live slots
    counted = sum_by-cons (λ (x : SlotView). cond {A = ℕ} (is_live x) 1 0) s slots

    some_live : (k : ℕ) → not (suc k == 0) ≡ true
    some_live k = ap not (ne_eqb (suc k) 0 (λ e. omega (arith, e)))

    no_out : (out : List ℕ) → s.out ≡ out → s.out ≡ []
    no_out [] q = q
    no_out (n ∷ ns) q =
        let live : is_live s ≡ true = ap (λ (l : List ℕ). not (length l == 0)) q ∙ some_live (length ns) in
        let one : cond {A = ℕ} (is_live s) 1 0 ≡ 1 = ap (λ (b : Bool). cond {A = ℕ} b 1 0) live in
        absurd (omega (arith, counted, one))
none_live (s ∷ slots) none (suc k) = none_live slots (omega (arith, sum_by-cons (λ (x : SlotView). cond {A = ℕ} (is_live x) 1 0) s slots)) k

no_life : (s : SlotView) (position : ℕ) (l : Option Life) → IsOfLog s position l → s.out ≡ [] → l ≡ None
no_life s position None fits none = refl
no_life s position (Some l) fits none = let live = fits.0.live in let q = ap length none in absurd (omega arith)

-- what stands in a list, in a part of it, and in a mapped list
each_among : {X : Type 0} (P : X → Type 0) (xs : List X) → All P xs → (x : X) → Among xs x → P x
each_among P [] each x m = absurd m
each_among P (y ∷ ys) each x (inl q) = subst P q (All-head P y ys each)
each_among P (y ∷ ys) each x (inr m) = each_among P ys (All-tail P y ys each) x m

among_map : {X Y : Type 0} (f : X → Y) (xs : List X) (x : X) → Among xs x → Among (map f xs) (f x)
among_map f [] x m = absurd m
among_map f (y ∷ ys) x (inl q) = inl (ap f q)
among_map f (y ∷ ys) x (inr m) = inr (among_map f ys x m)

among_mapped : {X Y : Type 0} (f : X → Y) (xs : List X) (y : Y) → Among (map f xs) y → (x : X) × Has xs x × (f x ≡ y)
among_mapped f [] y m = absurd m
among_mapped f (x ∷ xs) y (inl q) = (x, (0, refl), q)
among_mapped f (x ∷ xs) y (inr m) = let r = among_mapped f xs y m in (r.0, (suc r.1.0, r.1.1), r.2)

has_among : {X Y : Type 0} (f : X → Y) (xs : List X) (x : X) → Has xs x → Among (map f xs) (f x)
has_among f [] x has = absurd (some-ne-none x (sym has.1))
has_among f (y ∷ ys) x (zero, q) = inl (ap f (some-injective y x q))
has_among f (y ∷ ys) x (suc k, q) = inr (has_among f ys x (k, q))

among_at : (o : ObjectNo) (h : List Event) (e : Event) → Among h e → is_object o e.object ≡ true → Among (at o h) e
among_at o [] e m q = absurd m
among_at o (x ∷ h) e (inl s) q = by (is_object o x.object) (ap (λ (y : Event). is_object o y.object) s ∙ q)
  where
    by : (b : Bool) → b ≡ true → Among (cond b (x ∷ at o h) (at o h)) e
    by true r = inl s
    by false r = absurd (differ r)
      where
        differ : false ≡ true → ⊥
        differ q = cc
among_at o (x ∷ h) e (inr m) q = by (is_object o x.object) (among_at o h e m q)
  where
    by : (b : Bool) → Among (at o h) e → Among (cond b (x ∷ at o h) (at o h)) e
    by true r = inr r
    by false r = r

at_end : {A : Type 0} (b : List A) (x : A) (rest : List A) → get_elem? (b ++ x ∷ rest) (length b) ≡ some x
at_end [] x rest = refl
at_end (y ∷ b) x rest = at_end b x rest

module _ (table : TableId) (frame : Frame Plan) (seats notes : List (Held Content Plan)) (all : List (HistoryEntry Content)) (left : ℕ → ObjectNo → ℕ)
    (planned : IsPlanned frame) (closed : IsClosed frame seats notes all) (are : AreLeft table frame seats) (back : AreHandedBack frame seats left) where
  abbrev p : Plan
  p = frame.world

  abbrev os : List ObjectNo
  os = objects_of p.platform

  abbrev h : List Event
  h = events_in p.platform all

  below : (e : HistoryEntry Content) → Has all e → e.object < length os
  below = is_there frame all planned closed.planned

  -- an object that is there, with its seat
  record Sits (o : ObjectNo) : Type 0 where
    pub place : ℕ
    pub here : slice_get os place ≡ Some o
    pub seat : Held Content Plan
    pub at_seat : get_elem? seats place ≡ some seat
    pub is : IsLeft table frame o seat
    pub part : at o h ≡ map (event_of p.platform) (own_of seat.knows)

  sits : (o : ObjectNo) (k : ℕ) → slice_get os k ≡ Some o → Sits o
  sits o k here =
      let seat = seat_there seats k (let c = are.count in let w = within os k o here in omega arith) in
      record {
        place = k;
        here = here;
        seat = seat.item;
        at_seat = seat.at;
        is = are.each k o seat.item here seat.at;
        part = at_number p.platform k o here all below ∙ ap (map (event_of p.platform)) (closed.merge.1 k seat.item seat.at);
      }

  hop_events : (o : ℕ) (s : Sits (Hop o)) → at (Hop o) h ≡ s.is.hop.log.events
  hop_events o s =
      let number : object_number p.platform (Hop o) ≡ s.place = sym (stands_once p.platform s.place (Hop o) s.here) in
      let own = subst (λ (n : ℕ). All (λ (e : Event). e.object ≡ Hop n) s.is.hop.log.events) s.is.number s.is.follows.own in
      s.part ∙ (ap (map (event_of p.platform)) s.is.seat_is.own
      ∙ (ap (λ (n : ℕ). map (event_of p.platform) (map (placed n) (map written_by s.is.hop.log.events))) number ∙ log_read p.platform s.place (Hop o) s.here s.is.hop.log.events own))

  pool_events : (i : ℕ) (s : Sits (Pool i)) → at (Pool i) h ≡ s.is.pool.log.events
  pool_events i s =
      let number : object_number p.platform (Pool i) ≡ s.place = sym (stands_once p.platform s.place (Pool i) s.here) in
      let own = subst (λ (n : ℕ). All (λ (e : Event). e.object ≡ Pool n) s.is.pool.log.events) s.is.number s.is.is.follows.own in
      s.part ∙ (ap (map (event_of p.platform)) s.is.seat_is.own
      ∙ (ap (λ (n : ℕ). map (event_of p.platform) (map (placed n) (map written_by s.is.pool.log.events))) number ∙ log_read p.platform s.place (Pool i) s.here s.is.pool.log.events own))

  memory_entries : (m : ℕ) (s : Sits (Memory m)) → entries_at (Memory m) (entries h) ≡ s.is.log
  memory_entries m s =
      let number : object_number p.platform (Memory m) ≡ s.place = sym (stands_once p.platform s.place (Memory m) s.here) in
      entries_read (Memory m) h ∙ (ap entries (s.part ∙ ap (map (event_of p.platform)) s.is.seat_is.own)
      ∙ (ap (λ (n : ℕ). entries (map (event_of p.platform) (map (placed n) (written_from 0 s.is.log)))) number ∙ memory_read p.platform s.place m s.here 0 s.is.log s.is.own))

  -- each hop made its steps
  hop_steps : (o : ℕ) → Found os (Hop o) → HasSteps (world_of p) o h
  hop_steps o (Nowhere none) = record { board = start; steps = subst (λ (l : List Entry). Reaches ((world_of p).hop o).rules start l start) (sym (entries_read (Hop o) h ∙ ap entries (at_none p.platform (Hop o) none all below))) refl }
  hop_steps o (Here k here) =
      let s = sits (Hop o) k here in
      let hop = s.is.hop in
      let rules : rules_of hop ≡ ((world_of p).hop o).rules = same_rules (rules_of hop) ((world_of p).hop o).rules s.is.lanes s.is.req s.is.resp in
      let log : hop_log o h ≡ entries hop.log.events = entries_read (Hop o) h ∙ ap entries (hop_events o s) in
      record { board = board_of hop; steps = subst (λ (l : List Entry). Reaches ((world_of p).hop o).rules start l (board_of hop)) (sym log) (subst (λ (r : Rules). Reaches r start (entries hop.log.events) (board_of hop)) rules (reached_of hop s.is.follows)) }
    where
      same_rules : (r q : Rules) → r.limit ≡ q.limit → r.req ≡ q.req → r.resp ≡ q.resp → r ≡ q
      same_rules r q a b c =
          ap (λ (n : ℕ). record { limit = n; req = r.req; resp = r.resp }) a ∙ (ap (λ (m : ReqMode). record { limit = q.limit; req = m; resp = r.resp }) b ∙ ap (λ (m : RespMode). record { limit = q.limit; req = q.req; resp = m }) c)

  -- and its marks tell which responses ended a request
  hop_marks : (o : ℕ) → Found os (Hop o) → MarksTell o h
  hop_marks o (Nowhere none) once = subst (λ (l : List Event). AtEach (λ before e. (a : TlmSync) → e.what ≡ Called BeginResp a → e.number ≡ 1 → has_open_request e.txn (entries before) ≡ true) l) (sym (at_none p.platform (Hop o) none all below)) tt
  hop_marks o (Here k here) once =
      let s = sits (Hop o) k here in
      let hop = s.is.hop in
      let log : hop_log o h ≡ entries hop.log.events = entries_read (Hop o) h ∙ ap entries (hop_events o s) in
      subst (λ (l : List Event). AtEach (λ before e. (a : TlmSync) → e.what ≡ Called BeginResp a → e.number ≡ 1 → has_open_request e.txn (entries before) ≡ true) l) (sym (hop_events o s))
      (marks_tell (rules_of hop) hop.log.events (board_of hop) s.is.follows.reached (subst BeginsOnce log once))

  -- each pool leaves its log, and its slots are free
  pool_freed : (i : ℕ) → Found os (Pool i) → HasFreed p h i
  pool_freed i (Nowhere none) = record {
    log = subst (IsPoolLog (slots_of p i)) (sym (at_none p.platform (Pool i) none all below)) tt;
    free = λ slot. ap (λ (l : List Event). slots_after no_slots l slot) (at_none p.platform (Pool i) none all below);
  }
  pool_freed i (Here k here) =
      let s = sits (Pool i) k here in
      let pool = s.is.pool in
      let steps = subst (λ (n : ℕ). IsPoolLog n pool.log.events) s.is.slots s.is.is.follows.log.steps in
      record {
        log = subst (IsPoolLog (slots_of p i)) (sym (pool_events i s)) steps;
        free = λ slot.
            ap (λ (l : List Event). slots_after no_slots l slot) (pool_events i s)
            ∙ no_life (slot_at pool.slots slot) (takes_after no_takes pool.log.events slot) (slots_after no_slots pool.log.events slot) (s.is.is.follows.log.lives slot) (none_live pool.slots s.is.free slot);
      }

  -- each memory leaves a lawful log
  memory_log : (m : ℕ) (row : Option MemoryRow) → slice_get p.platform.memories m ≡ row → Found os (Memory m) → IsLogOf row (entries_at (Memory m) (entries h))
  memory_log m row at (Nowhere none) = by row at
    where
      nothing : entries_at (Memory m) (entries h) ≡ []
      nothing = entries_read (Memory m) h ∙ ap entries (at_none p.platform (Memory m) none all below)

      by : (row : Option MemoryRow) → slice_get p.platform.memories m ≡ row → IsLogOf row (entries_at (Memory m) (entries h))
      by None q = nothing
      by (Some r) q = subst (IsLog r.traits) (sym nothing) tt
  memory_log m row at (Here k here) = by row at
    where
      s : Sits (Memory m)
      s = sits (Memory m) k here

      by : (row : Option MemoryRow) → slice_get p.platform.memories m ≡ row → IsLogOf row (entries_at (Memory m) (entries h))
      by None q = absurd (none_some s.is.row (sym q ∙ s.is.at))
        where
          none_some : (r : MemoryRow) → None ≡ Some r → ⊥
          none_some r e = cc
      by (Some r) q =
          let same : s.is.row ≡ r = some_same s.is.row r (sym s.is.at ∙ q) in
          subst (IsLog r.traits) (sym (memory_entries m s)) (subst (λ (x : MemoryRow). IsLog x.traits s.is.log) same s.is.lawful)

  -- and its grants and closings are those of its gates
  memory_gates : (m : ℕ) (row : Option MemoryRow) → slice_get p.platform.memories m ≡ row → Found os (Memory m) → HasGatesOf row (entries_at (Memory m) (entries h))
  memory_gates m row at (Nowhere none) = by row at
    where
      nothing : entries_at (Memory m) (entries h) ≡ []
      nothing = entries_read (Memory m) h ∙ ap entries (at_none p.platform (Memory m) none all below)

      by : (row : Option MemoryRow) → slice_get p.platform.memories m ≡ row → HasGatesOf row (entries_at (Memory m) (entries h))
      by None q = nothing
      by (Some r) q = record { first = 0; granted = subst (IsGrantLog 0 r.traits) (sym nothing) tt }
  memory_gates m row at (Here k here) = by row at
    where
      s : Sits (Memory m)
      s = sits (Memory m) k here

      by : (row : Option MemoryRow) → slice_get p.platform.memories m ≡ row → HasGatesOf row (entries_at (Memory m) (entries h))
      by None q = absurd (none_some s.is.row (sym q ∙ s.is.at))
        where
          none_some : (r : MemoryRow) → None ≡ Some r → ⊥
          none_some r e = cc
      by (Some r) q =
          let same : s.is.row ≡ r = some_same s.is.row r (sym s.is.at ∙ q) in
          record {
            first = s.is.first;
            granted = subst (IsGrantLog s.is.first r.traits) (sym (memory_entries m s)) (subst (λ (x : MemoryRow). IsGrantLog s.is.first x.traits s.is.log) same s.is.granted);
          }

  pub gates_left : (m : ℕ) → HasGatesOf (slice_get p.platform.memories m) (entries_at (Memory m) (entries h))
  gates_left m = memory_gates m (slice_get p.platform.memories m) refl (find_object os (Memory m))

  -- no object has more entries than planned, less what is left
  object_spent : (o : ObjectNo) → Found os o → HasSpent p h left o
  object_spent o (Nowhere none) =
      let nothing : length (entries_at o (entries h)) ≡ 0 = ap length (entries_read o h ∙ ap entries (at_none p.platform o none all below)) in
      let no_left : sum_below (λ k. left k o) (length (initiators_of p)) ≡ 0 = sum_none (λ k. left k o) (back.others o none) (length (initiators_of p)) in
      omega (arith, nothing, no_left)
    where
      sum_none : (f : ℕ → ℕ) → ((k : ℕ) → f k ≡ 0) → (n : ℕ) → sum_below f n ≡ 0
      sum_none f none zero = refl
      sum_none f none (suc n) = omega (arith, sum_none f none n, none n)
  object_spent o (Here k here) =
      let s = sits o k here in
      let many : length (entries_at o (entries h)) ≡ length (own_of s.seat.knows) = ap length (entries_read o h ∙ ap entries s.part) ∙ (length-map (map (event_of p.platform) (own_of s.seat.knows)) (λ (e : Event). e.entry) ∙ length-map (own_of s.seat.knows) (event_of p.platform)) in
      omega (arith, many, back.each s.place o s.seat s.here s.at_seat, planned.each s.place o s.here)

  -- each entry has one of the times that there are
  entry_timed : (e : Event) → Among h e → e.time ≤ greatest_time
  entry_timed e m =
      let from = among_mapped (event_of p.platform) all e m in
      let found = there os from.0.object (below from.0 from.1) in
      let object : e.object ≡ found.0 = ap (λ (x : Event). x.object) (sym from.2) ∙ read_there os from.0.object found.0 (Hop 0) found.1 in
      by found.0 (sits found.0 from.0.object found.1) (among_at found.0 h e m (ap (is_object found.0) object ∙ is_self found.0))
    where
      by : (o : ObjectNo) → Sits o → Among (at o h) e → e.time ≤ greatest_time
      by (Memory m) s q = each_among (λ (x : Entry). x.time ≤ greatest_time) s.is.log s.is.timed e.entry (subst (λ (l : List Entry). Among l e.entry) (sym (entries_read (Memory m) h) ∙ memory_entries m s) (among_map (λ (x : Event). x.entry) (at (Memory m) h) e q))
      by (Hop o) s q = each_among (λ (x : Event). x.time ≤ greatest_time) s.is.hop.log.events s.is.timed e (subst (λ (l : List Event). Among l e) (hop_events o s) q)
      by (Pool i) s q = each_among (λ (x : Event). x.time ≤ greatest_time) s.is.pool.log.events s.is.timed e (subst (λ (l : List Event). Among l e) (pool_events i s) q)

  -- each entry is backed by those before it
  backed_rest : (b rest : List (HistoryEntry Content)) → all ≡ b ++ rest → EachFrom (λ before e. IsBacked (world_of p) (Among before) e) (events_in p.platform b) (events_in p.platform rest)
  backed_rest b [] q = tt
  backed_rest b (x ∷ rest) q = (
    is_backed_more (world_of p) (Known p.platform b) (Among (events_in p.platform b)) (λ e k. subst (Among (events_in p.platform b)) (sym k.is) (has_among (event_of p.platform) b k.entry k.has)) (event_of p.platform x) here,
    subst (λ (l : List Event). EachFrom (λ before e. IsBacked (world_of p) (Among before) e) l (events_in p.platform rest)) (map-append (event_of p.platform) b (x ∷ [])) (backed_rest (b ++ x ∷ []) rest (q ∙ sym (append_assoc b (x ∷ []) rest))),
  )
    where
      front : take (length b) all ≡ b
      front = ap (take (length b)) q ∙ take_at b (x ∷ rest) (length b) refl

      place : get_elem? all (length b) ≡ some x
      place = subst (λ (l : List (HistoryEntry Content)). get_elem? l (length b) ≡ some x) (sym q) (at_end b x rest)

      here : IsBacked (world_of p) (Known p.platform b) (event_of p.platform x)
      here = subst (λ (l : List (HistoryEntry Content)). IsBacked (world_of p) (Known p.platform l) (event_of p.platform x)) front (closed.backed (length b) x place)

  each_backed : AtEach (λ before e. IsBacked (world_of p) (Among before) e) h
  each_backed = backed_rest [] all refl

  pub have_left : HaveLeft p h left
  have_left = record {
    numbered = numbered_from 0 p all (λ q e is. (let at = closed.merge.0 q e is in omega arith));
    times = entry_timed;
    backed = each_backed;
    hops = λ o. hop_steps o (find_object os (Hop o));
    marks = λ o. hop_marks o (find_object os (Hop o));
    pools = λ i. pool_freed i (find_object os (Pool i));
    memories = λ m. memory_log m (slice_get p.platform.memories m) refl (find_object os (Memory m));
    spent = λ o. object_spent o (find_object os o);
  }

pub objects_leave : ObjectsLeave
objects_leave table frame seats notes all left planned closed are back = have_left table frame seats notes all left planned closed are back

pub memories_leave_gates : MemoriesLeaveGates
memories_leave_gates table frame seats notes all left planned closed are back = gates_left table frame seats notes all left planned closed are back
