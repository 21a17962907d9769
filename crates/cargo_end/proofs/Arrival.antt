-- What known entries say of a payload that has come back is what the end of a run wants.
use Rattle.std.proofs.Common.{◌≡◌, ◌⊎◌, ℕ, zero, suc, ◌+◌, ◌*◌, ◌-◌, ◌<◌, ◌==◌, ◌||◌, nat_eq, cond, Bool, true, false, List, [], ◌∷◌, length, get_or, count_by, Option, Some, None, refl, sym, ◌∙◌, ap, arith, subst, inl, inr, eq-eqb}
use Rattle.std.specs.Prelude.{◌≢◌, is_some, sum_by, if◌then◌else◌}
use Rattle.std.specs.List.{list_any}
use Rattle.std.proofs.lemmas.List.Sums.{sum_by-cons}
use Rattle.std.proofs.lemmas.Bool.{eqb-true}
use Rattle.tlm_types.specs.declared.words.ObjectNo.{ObjectNo}
use Rattle.tlm_types.specs.declared.words.ObjectNo.TheVariants.{Memory, Hop, Pool}
use Rattle.tlm_types.specs.declared.words.TxnId.{TxnId}
use Rattle.tlm_types.specs.declared.words.Way.TheVariants as Ways
use Rattle.tlm_types.specs.declared.entry.Access.{Access}
use Rattle.tlm_types.specs.declared.entry.Entry.{Entry}
use Rattle.tlm_types.specs.declared.entry.What.{What}
use Rattle.tlm_types.specs.declared.entry.What.TheVariants.{Access as Accessed}
use Rattle.tlm_model.specs.declared.platform.Style.{Style}
use Rattle.tlm_model.specs.declared.platform.Style.TheVariants.{FourPhase}
use Rattle.tlm_model.specs.History.{entries_at, is_object}
use Rattle.tlm_model.specs.Requests.{Asked as AskedFor, Transport, got_in}
use Rattle.tlm_model.specs.Route.{Route, hops_of}
use Rattle.tlm_model.specs.Scripts.{HasWay, IsEntryOf, IsPlaced}
use Rattle.token_book.specs.Purse.{Purse, left_of}
use Rattle.flow_model.specs.World.{IsPassage, Passage, hop_at, hop_count}
use Rattle.flow_model.specs.Events.{Finds}
use Rattle.flow_model.specs.Platform.{passage_of, world_of}
use Rattle.flow_model.proofs.More.{end_more, finds_more}
use Rattle.platform_shape.specs.Paths.{once}
use Rattle.route_plan.specs.Planned.{by_fourphase, leads_to}
use Rattle.cargo_model.specs.Called.{IsCalled}
use Rattle.cargo_model.specs.Known.{object_number}
use Rattle.cargo_model.specs.Laws.{Case, knows}
use Rattle.cargo_model.specs.Origins.{AreThere}
use Rattle.cargo_model.specs.Travel.{IsReplied, memory_number}
use Rattle.cargo_model.proofs.Origins.{only_object}
use Rattle.joined_traffic.specs.Accesses.{chosen, entries_of, pool_entries, visits}
use Rattle.flow_model.specs.Called.{HasCalled}
use Rattle.joined_traffic.specs.Issued.{Before}
use Rattle.cargo_end.specs.Arrival.{AreReplies, ArrivesDriven, ArrivesPaid, ArrivesReplied, ArrivesWaited, Asked, HasLeft, Replies, calls_by, given_at, route, spent_by}

module _ (s : Case) where
  -- the calls on a hop, by what is left
  pub calls_left : (k : ℕ) (left : ℕ) → IsCalled (world_of s.p) (knows s) s.x s.pass k left → HasCalled (world_of s.p) (knows s) s.x s.pass k (4 - left)
  calls_left k left c = record { sequence = c.called.sequence; given = c.called.given; long = c.called.long ∙ rest c.calls left c.sum; known = c.called.known }
    where
      rest : (a b : ℕ) → b + a ≡ 4 → a ≡ 4 - b
      rest a b q = omega arith

  pub driven : ArrivesDriven s
  driven asked z issued left taken = record { taken = taken; called = λ k l. calls_left k _ (left.hops k l) }

  pub replied : ArrivesReplied s
  replied asked v style content r is = go (route s asked) refl content
    where
      same : (a b : Route) → Some a ≡ Some b → a ≡ b
      same a b q = cc

      way_of : (t : Style) → t ≡ FourPhase → (w : What) (access : Access) (status : _) (got : List ℕ) → w ≡ Accessed Ways.FourPhase access status got → (a : Access) → HasWay t (Transport a) w
      way_of t q w access status got e a = subst (λ (u : Style). HasWay u (Transport a) w) (sym q) (subst (λ (u : What). HasWay FourPhase (Transport a) u) (sym e) refl)

      go : (t : Option Route) → route s asked ≡ t → IsReplied s.p s.tokens (knows s) s.x s.pass asked.access t v → Finds (knows s) (Replies s asked v r)
      go None q c = absurd (nothing (sym q ∙ is))
        where
          nothing : None ≡ Some r → ⊥
          nothing e = cc
      go (Some t) q c = record {
        event = c.event;
        known = c.known;
        is = record {
          txn = c.is.txn;
          object = subst (λ (u : Route). c.event.object ≡ Memory u.memory) e c.is.object;
          reply = record {
            entry = subst (λ (d : AskedFor). IsEntryOf (route s asked) d c.event.object c.event.what) (sym asked.transport)
                (subst (λ (u : Option Route). IsEntryOf u (Transport asked.access) c.event.object c.event.what) (sym q)
                (subst (λ (u : What). IsEntryOf (Some t) (Transport asked.access) c.event.object u) (sym c.is.what) (c.is.object, refl)));
            way = subst (λ (d : AskedFor). HasWay asked.initiator.row.style d c.event.what) (sym asked.transport) (way_of asked.initiator.row.style style c.event.what _ c.is.status c.is.got c.is.what asked.access);
            access = subst (λ (u : What). is_some (got_in u) ≡ true) (sym c.is.what) refl;
            place = subst (λ (u : ObjectNo). IsPlaced s.p.platform c.event.txn.initiator u c.event.what) (sym c.is.object)
                (subst (λ (u : What). IsPlaced s.p.platform c.event.txn.initiator (Memory t.memory) u) (sym c.is.what) tt);
          };
          read = λ m. ap got_in c.is.what ∙ ap (λ (l : List ℕ). Some l) (sym (c.is.same_bytes m));
        };
      }
        where
          e : t ≡ r
          e = same t r (sym q ∙ is)

  pub waited : ArrivesWaited s
  waited h n earlier e = record {
    ended = finds_more (world_of s.p) (knows s) (Before h n) earlier s.x _ e.ender;
    time = end_more (world_of s.p) (knows s) (Before h n) earlier s.x s.pass 0 e.time e.is;
  }

-- a way without a hop twice passes hop h once, or not at all
record Visited (hops : List ℕ) (h : ℕ) : Type 0 where
  place : ℕ
  below : place < length hops
  is : get_or hops place 0 ≡ h
  any : list_any (λ k. k == h) hops ≡ true
  count : count_by (λ k. k == h) hops ≡ 1

record Missed (hops : List ℕ) (h : ℕ) : Type 0 where
  none : (j : ℕ) → j < length hops → get_or hops j 0 ≢ h
  any : list_any (λ k. k == h) hops ≡ false
  count : count_by (λ k. k == h) hops ≡ 0

passes : (hops : List ℕ) (h : ℕ) → ((j k : ℕ) → j < length hops → k < length hops → get_or hops j 0 ≡ get_or hops k 0 → j ≡ k) → Visited hops h ⊎ Missed hops h
passes [] h d = inr (record { none = λ j l. absurd (omega arith); any = refl; count = refl })
passes (k ∷ hops) h d = go (nat_eq k h) refl (passes hops h later)
  where
    later : (i j : ℕ) → i < length hops → j < length hops → get_or hops i 0 ≡ get_or hops j 0 → i ≡ j
    later i j l m e = let q : suc i ≡ suc j = d (suc i) (suc j) (omega arith) (omega arith) e in omega (arith, q)

    differs : nat_eq k h ≡ false → k ≢ h
    differs q e = let t : nat_eq k h ≡ true = eq-eqb k h e in cc

    go : (b : Bool) → nat_eq k h ≡ b → Visited hops h ⊎ Missed hops h → Visited (k ∷ hops) h ⊎ Missed (k ∷ hops) h
    go true q (inl v) = absurd (never (d 0 (suc v.place) (omega arith) (let b : v.place < length hops = v.below in omega arith) (eqb-true k h q ∙ sym v.is)))
      where
        never : 0 ≡ suc v.place → ⊥
        never e = omega (arith, e)
    go true q (inr m) = inl (record {
      place = 0;
      below = omega arith;
      is = eqb-true k h q;
      any = ap (λ (b : Bool). b || list_any (λ i. i == h) hops) q;
      count = sum_by-cons (λ (i : ℕ). cond (i == h) 1 0) k hops ∙ (ap (λ (b : Bool). cond {A = ℕ} b 1 0 + count_by (λ i. i == h) hops) q ∙ ap (λ (i : ℕ). 1 + i) m.count);
    })
    go false q (inl v) = inl (record {
      place = suc v.place;
      below = (let b : v.place < length hops = v.below in omega arith);
      is = v.is;
      any = ap (λ (b : Bool). b || list_any (λ i. i == h) hops) q ∙ v.any;
      count = sum_by-cons (λ (i : ℕ). cond (i == h) 1 0) k hops ∙ (ap (λ (b : Bool). cond {A = ℕ} b 1 0 + count_by (λ i. i == h) hops) q ∙ ap (λ (i : ℕ). 0 + i) v.count);
    })
    go false q (inr m) = inr (record {
      none = missed m;
      any = ap (λ (b : Bool). b || list_any (λ i. i == h) hops) q ∙ m.any;
      count = sum_by-cons (λ (i : ℕ). cond (i == h) 1 0) k hops ∙ (ap (λ (b : Bool). cond {A = ℕ} b 1 0 + count_by (λ i. i == h) hops) q ∙ ap (λ (i : ℕ). 0 + i) m.count);
    })
      where
        missed : Missed hops h → (j : ℕ) → j < suc (length hops) → get_or (k ∷ hops) j 0 ≢ h
        missed m zero l e = differs q e
        missed m (suc j) l e = m.none j (omega arith) e

chosen_sum : (f : TxnId → ℕ) (b : Bool) (x : TxnId) → sum_by f (chosen b x) ≡ cond b (f x) 0
chosen_sum f true x = let t = sum_by-cons f x [] in omega (arith, t)
chosen_sum f false x = refl

one_at : (o : ObjectNo) (e : Entry) (b : Bool) → is_object o e.object ≡ b → length (entries_at o (e ∷ [])) ≡ once b
one_at o e true q = ap (λ (c : Bool). length (cond {A = List Entry} c (e ∷ []) [])) q
one_at o e false q = ap (λ (c : Bool). length (cond {A = List Entry} c (e ∷ []) [])) q

module _ (s : Case) (asked : Asked s) (z : Purse) (replies : List Entry) (way : IsPassage s.pass) (there : AreThere s.p s.x s.pass (route s asked)) (style : asked.initiator.row.style ≡ FourPhase)
    (number : asked.initiator.number ≡ s.x.initiator) (left : HasLeft s asked z) (reply : AreReplies (route s asked) replies) where
  abbrev rest : ObjectNo → ℕ
  rest o = left_of z (object_number s.p.platform o)

  -- nothing is left of other objects than those of the access
  elsewhere : (o : ObjectNo) → ((j : ℕ) → j < hop_count s.pass → o ≢ Hop (hop_at s.pass j)) → o ≢ Pool s.x.initiator → ((r : Route) → route s asked ≡ Some r → o ≢ Memory r.memory) → rest o ≡ 0
  elsewhere o hops pool memory =
      left.none (object_number s.p.platform o)
      (λ j l e. hops j l (only_object s.p.platform o (Hop (hop_at s.pass j)) (there.hops j l) e))
      (λ e. pool (only_object s.p.platform o (Pool s.x.initiator) there.pool e))
      (λ n q e. at_memory_too (route s asked) refl n q e)
    where
      same : (a b : ℕ) → Some a ≡ Some b → a ≡ b
      same a b q = cc

      at_memory_too : (t : Option Route) → route s asked ≡ t → (n : ℕ) → memory_number s.p t ≡ Some n → object_number s.p.platform o ≢ n
      at_memory_too None r n q e = cc
      at_memory_too (Some r) is n q e = memory r is (only_object s.p.platform o (Memory r.memory) (there.memory r is) (e ∙ sym (same _ _ q)))

  hops_are : s.pass.hops ≡ hops_of s.p.platform asked.initiator asked.request.address
  hops_are = ap (λ (g : Passage). g.hops) asked.way

  at_hops : (h : ℕ) → spent_by s z replies (Hop h) + rest (Hop h) ≡ given_at s.p asked.initiator asked.request.address (Hop h)
  at_hops h =
      subst (λ (v : Option Passage). sum_by (entries_of s.p (λ x. calls_by s z) (Hop h)) (chosen (visits (Hop h) s.x v) s.x) + rest (Hop h) ≡ given_at s.p asked.initiator asked.request.address (Hop h)) (sym asked.passes)
      (subst (λ (t : Style). sum_by (entries_of s.p (λ x. calls_by s z) (Hop h)) (chosen (list_any (λ k. k == h) s.pass.hops) s.x) + rest (Hop h) ≡ by_fourphase t (4 * count_by (λ k. k == h) (hops_of s.p.platform asked.initiator asked.request.address))) (sym style)
      (subst (λ (hs : List ℕ). sum_by (entries_of s.p (λ x. calls_by s z) (Hop h)) (chosen (list_any (λ k. k == h) s.pass.hops) s.x) + rest (Hop h) ≡ 4 * count_by (λ k. k == h) hs) hops_are
      (by_place (passes s.pass.hops h way.distinct))))
    where
      by_place : Visited s.pass.hops h ⊎ Missed s.pass.hops h → sum_by (entries_of s.p (λ x. calls_by s z) (Hop h)) (chosen (list_any (λ k. k == h) s.pass.hops) s.x) + rest (Hop h) ≡ 4 * count_by (λ k. k == h) s.pass.hops
      by_place (inl v) =
          let c = left.hops v.place v.below in
          let q : sum_by (entries_of s.p (λ x. calls_by s z) (Hop h)) (chosen (list_any (λ k. k == h) s.pass.hops) s.x) ≡ 4 - rest (Hop h) =
          chosen_sum (entries_of s.p (λ x. calls_by s z) (Hop h)) (list_any (λ k. k == h) s.pass.hops) s.x ∙ ap (λ (b : Bool). cond b (calls_by s z h) 0) v.any in
          let t : rest (Hop h) + c.calls ≡ 4 = subst (λ (i : ℕ). rest (Hop i) + c.calls ≡ 4) v.is c.sum in
          let n : count_by (λ k. k == h) s.pass.hops ≡ 1 = v.count in
          sums _ _ _ _ q t n
        where
          sums : (a b c n : ℕ) → a ≡ 4 - b → b + c ≡ 4 → n ≡ 1 → a + b ≡ 4 * n
          sums a b c n q t e = omega arith
      by_place (inr v) =
          let q : sum_by (entries_of s.p (λ x. calls_by s z) (Hop h)) (chosen (list_any (λ k. k == h) s.pass.hops) s.x) ≡ 0 =
          chosen_sum (entries_of s.p (λ x. calls_by s z) (Hop h)) (list_any (λ k. k == h) s.pass.hops) s.x ∙ ap (λ (b : Bool). cond b (calls_by s z h) 0) v.any in
          let n : count_by (λ k. k == h) s.pass.hops ≡ 0 = v.count in
          let e : rest (Hop h) ≡ 0 = elsewhere (Hop h) (λ j l d. v.none j l (hop_same _ _ (sym d))) (λ d. hop_pool _ _ d) (λ r is d. hop_memory _ _ d) in
          sums _ _ _ q e n
        where
          sums : (a b n : ℕ) → a ≡ 0 → b ≡ 0 → n ≡ 0 → a + b ≡ 4 * n
          sums a b n q t e = omega arith

          hop_same : (a b : ℕ) → Hop a ≡ Hop b → a ≡ b
          hop_same a b e = cc

          hop_pool : (a b : ℕ) → Hop a ≡ Pool b → ⊥
          hop_pool a b e = cc

          hop_memory : (a b : ℕ) → Hop a ≡ Memory b → ⊥
          hop_memory a b e = cc

  at_pools : (n : ℕ) → spent_by s z replies (Pool n) + rest (Pool n) ≡ given_at s.p asked.initiator asked.request.address (Pool n)
  at_pools n =
      subst (λ (v : Option Passage). sum_by (entries_of s.p (λ x. calls_by s z) (Pool n)) (chosen (visits (Pool n) s.x v) s.x) + rest (Pool n) ≡ given_at s.p asked.initiator asked.request.address (Pool n)) (sym asked.passes)
      (subst (λ (i : ℕ). sum_by (entries_of s.p (λ x. calls_by s z) (Pool n)) (chosen (s.x.initiator == n) s.x) + rest (Pool n) ≡ (if i == n then by_fourphase asked.initiator.row.style (2 + 2 * length (hops_of s.p.platform asked.initiator asked.request.address)) else 0)) (sym number)
      (subst (λ (t : Style). sum_by (entries_of s.p (λ x. calls_by s z) (Pool n)) (chosen (s.x.initiator == n) s.x) + rest (Pool n) ≡ (if s.x.initiator == n then by_fourphase t (2 + 2 * length (hops_of s.p.platform asked.initiator asked.request.address)) else 0)) (sym style)
      (subst (λ (hs : List ℕ). sum_by (entries_of s.p (λ x. calls_by s z) (Pool n)) (chosen (s.x.initiator == n) s.x) + rest (Pool n) ≡ (if s.x.initiator == n then 2 + 2 * length hs else 0)) hops_are
      (by_test (s.x.initiator == n) refl))))
    where
      entries_is : pool_entries (passage_of s.p s.x) ≡ 2 + 2 * hop_count s.pass
      entries_is = ap pool_entries asked.passes

      by_test : (b : Bool) → (s.x.initiator == n) ≡ b → sum_by (entries_of s.p (λ x. calls_by s z) (Pool n)) (chosen b s.x) + rest (Pool n) ≡ (if b then 2 + 2 * hop_count s.pass else 0)
      by_test true q =
          let a = chosen_sum (entries_of s.p (λ x. calls_by s z) (Pool n)) true s.x in
          let e : rest (Pool n) ≡ 0 = subst (λ (i : ℕ). rest (Pool i) ≡ 0) (eqb-true s.x.initiator n q) left.pool in
          sums _ _ _ (a ∙ entries_is) e
        where
          sums : (a b c : ℕ) → a ≡ c → b ≡ 0 → a + b ≡ c
          sums a b c q e = omega arith
      by_test false q = none (rest (Pool n)) (elsewhere (Pool n) (λ j l d. pool_hop _ _ d) (λ d. other (pool_same _ _ d)) (λ r is d. pool_memory _ _ d))
        where
          none : (a : ℕ) → a ≡ 0 → 0 + a ≡ 0
          none a e = omega (arith, e)

          pool_same : (a b : ℕ) → Pool a ≡ Pool b → a ≡ b
          pool_same a b e = cc

          pool_hop : (a b : ℕ) → Pool a ≡ Hop b → ⊥
          pool_hop a b e = cc

          pool_memory : (a b : ℕ) → Pool a ≡ Memory b → ⊥
          pool_memory a b e = cc

          other : n ≡ s.x.initiator → ⊥
          other e = let t : (s.x.initiator == n) ≡ true = eq-eqb s.x.initiator n (sym e) in cc

  at_memories : (n : ℕ) → spent_by s z replies (Memory n) + rest (Memory n) ≡ given_at s.p asked.initiator asked.request.address (Memory n)
  at_memories n = go (route s asked) refl reply
    where
      memory_hop : (a b : ℕ) → Memory a ≡ Hop b → ⊥
      memory_hop a b e = cc

      memory_pool : (a b : ℕ) → Memory a ≡ Pool b → ⊥
      memory_pool a b e = cc

      memory_same : (a b : ℕ) → Memory a ≡ Memory b → a ≡ b
      memory_same a b e = cc

      route_same : (a b : Route) → Some a ≡ Some b → a ≡ b
      route_same a b e = cc

      go : (t : Option Route) → route s asked ≡ t → AreReplies t replies → length (entries_at (Memory n) replies) + rest (Memory n) ≡ once (leads_to (route s asked) n)
      go None is r =
          let a : length (entries_at (Memory n) replies) ≡ 0 = ap (λ (l : List Entry). length (entries_at (Memory n) l)) r in
          let b : rest (Memory n) ≡ 0 = elsewhere (Memory n) (λ j l d. memory_hop _ _ d) (λ d. memory_pool _ _ d) (λ q e d. nothing q (sym is ∙ e)) in
          let c : once (leads_to (route s asked) n) ≡ 0 = ap (λ (t : Option Route). once (leads_to t n)) is in
          sums _ _ _ a b c
        where
          nothing : (q : Route) → None ≡ Some q → ⊥
          nothing q e = cc

          sums : (a b c : ℕ) → a ≡ 0 → b ≡ 0 → c ≡ 0 → a + b ≡ c
          sums a b c q e r = omega arith
      go (Some t) is r =
          let a : length (entries_at (Memory n) replies) ≡ once (t.memory == n) = ap (λ (l : List Entry). length (entries_at (Memory n) l)) r.1 ∙ one_at (Memory n) r.0 (t.memory == n) (ap (is_object (Memory n)) r.2) in
          let c : once (leads_to (route s asked) n) ≡ once (t.memory == n) = ap (λ (t : Option Route). once (leads_to t n)) is in
          sums _ _ _ _ a (by_test (t.memory == n) refl) c
        where
          sums : (a b c d : ℕ) → a ≡ d → b ≡ 0 → c ≡ d → a + b ≡ c
          sums a b c d q e r = omega arith

          by_test : (b : Bool) → (t.memory == n) ≡ b → rest (Memory n) ≡ 0
          by_test true q = subst (λ (i : ℕ). rest (Memory i) ≡ 0) (eqb-true t.memory n q) (left.memory (object_number s.p.platform (Memory t.memory)) (ap (memory_number s.p) is)).0
          by_test false q = elsewhere (Memory n) (λ j l d. memory_hop _ _ d) (λ d. memory_pool _ _ d)
              (λ u e d. (let f : (t.memory == n) ≡ true = eq-eqb t.memory n (ap (λ (v : Route). v.memory) (route_same t u (sym is ∙ e)) ∙ sym (memory_same _ _ d)) in cc))

  paid_at : (o : ObjectNo) → spent_by s z replies o + rest o ≡ given_at s.p asked.initiator asked.request.address o
  paid_at (Memory n) = at_memories n
  paid_at (Hop h) = at_hops h
  paid_at (Pool n) = at_pools n

pub paid : (s : Case) → ArrivesPaid s
paid s asked z replies way there style number left reply o = paid_at s asked z replies way there style number left reply o
