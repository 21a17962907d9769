-- From initiators that have finished to the end of the whole run.
use Rattle.std.proofs.Common.{◌≡◌, ◌⊎◌, ℕ, zero, suc, ◌+◌, ◌<◌, ◌≤◌, ◌==◌, Bool, true, false, List, [], ◌∷◌, length, map, Option, Some, None, refl, ap, sym, subst, ◌∙◌, inl, inr, arith}
use Rattle.std.specs.Prelude.{slice_get, sum_by, if◌then◌else◌}
use Rattle.std.proofs.lemmas.Bool.{cases_lt, eqb-true}
use Rattle.std.proofs.lemmas.List.Sums.{sum_by-cons}
use Rattle.view_lists.specs.Lists.{AreDistinct}
use Rattle.tlm_types.specs.declared.ends.EndOf.{EndOf}
use Rattle.tlm_types.specs.declared.entry.Entry.{Entry}
use Rattle.tlm_types.specs.declared.words.ObjectNo.{ObjectNo}
use Rattle.tlm_types.specs.declared.words.ObjectNo.TheVariants.{Memory, Hop, Pool}
use Rattle.tlm_types.specs.declared.words.TxnId.{TxnId}
use Rattle.tlm_model.specs.declared.ask.Ask.{Ask}
use Rattle.tlm_model.specs.declared.ask.Ask.TheVariants.{Access as AnAccess, DebugRead as ADebugRead, Invalidation as AnInvalidation}
use Rattle.tlm_model.specs.declared.platform.Style.{Style}
use Rattle.tlm_model.specs.declared.platform.Style.TheVariants.{Blocking, Direct, FourPhase}
use Rattle.tlm_model.specs.History.{entries_at}
use Rattle.tlm_model.specs.declared.platform.MemoryRow.{MemoryRow}
use Rattle.tlm_model.specs.Plan.{Plan, Initiator, initiators_of}
use Rattle.tlm_model.specs.Requests.{refused_of}
use Rattle.tlm_model.specs.Route.{Route, route_of}
use Rattle.flow_model.specs.Events.{Event, entries}
use Rattle.flow_model.specs.Platform.{passage_of}
use Rattle.flow_model.specs.Valid.{HasNoCycle}
use Rattle.tlm_model.proofs.InitiatorLemmas.{initiator_from}
use Rattle.report_model.specs.Ends.{IsEndOf, refused_at}
use Rattle.report_model.specs.Laws.{IsEndByLatencies}
use Rattle.report_model.proofs.Ending.{ends_by_latencies}
use Rattle.good_history.specs.Counting.{IsRising}
use Rattle.good_history.specs.Own.{own}
use Rattle.good_history.proofs.OwnLemmas.{own_is_enough}
use Rattle.platform_shape.specs.Paths.{once}
use Rattle.route_plan.specs.Counted.{share_at, share_by}
use Rattle.route_plan.specs.Planned.{asks_in, at_gates, at_hop, at_memory, at_pool, by_fourphase, gates_by, is_routed_to, leads_to, share_of}
use Rattle.cargo_model.proofs.There.{end_there}
use Rattle.joined_traffic.specs.Accesses.{txn_of}
use Rattle.joined_traffic.specs.Driven.{HasDriven, HasPaid, HasRun, spent_at}
use Rattle.joined_traffic.specs.Ended.{HasFinished, HaveEnded, HaveLeft}
use Rattle.joined_traffic.specs.Issued.{HaveIssued, issued_at}
use Rattle.joined_traffic.proofs.JoinLemmas.{own_mine, style_case}
use Rattle.joined_traffic.proofs.PremiseLemmas.{ended_has_premises}
use Rattle.port_model.specs.Ends.{AreOf, HandsIn, HasIssuedSo, IsPhaseEnd, KnowsEnds}
use Rattle.port_model.specs.Stages.{Stage, calls_by, end_by}
use Rattle.port_model.specs.Stages.Stage.{Ahead}
use Rattle.port_model.proofs.HandingIn.{ports_hand_in}
use Rattle.port_model.proofs.OwnReplies.{ends_are_theirs, replies_are_own}
use Rattle.net_end.specs.Finished.{HasEndedWhole, IsDone, IsPortDone, IsRunDone}
use Rattle.joined_traffic.specs.Parts.{EndsOwnGrants, KeepsOwnGrants}
use Rattle.port_model.specs.Closings.{HasAllOf}
use Rattle.net_end.specs.Laws.{InitiatorsEnd, PortsTellGrants}
use Rattle.net_end.proofs.PortGrants.{port_ends, port_keeps}

-- entries whose positions rise differ
apart : (l : List Entry) → IsRising (λ (e : Entry). e.position) l → AreDistinct l
apart [] rising = tt
apart (e ∷ l) rising = ((λ has. let less = rising.0 e has in omega arith), apart l rising.1)

-- nothing is planned of an initiator of another style at a hop or a pool
none_fourphase : (s : Style) (n : ℕ) → (s ≡ FourPhase → ⊥) → by_fourphase s n ≡ 0
none_fourphase Blocking n other = refl
none_fourphase Direct n other = refl
none_fourphase FourPhase n other = absurd (other refl)

none_hop : (p : Plan) (i : Initiator) (h : ℕ) → (i.row.style ≡ FourPhase → ⊥) → (ask : Ask) → at_hop p i h ask ≡ 0
none_hop p i h other (AnAccess a n) = none_fourphase i.row.style _ other
none_hop p i h other (ADebugRead a n) = refl
none_hop p i h other (AnInvalidation a) = refl

if_none : (b : Bool) (n : ℕ) → n ≡ 0 → (if b then n else 0) ≡ 0
if_none true n e = e
if_none false n e = refl

none_pool : (p : Plan) (i : Initiator) (n : ℕ) → (i.row.style ≡ FourPhase → ⊥) → (ask : Ask) → at_pool p i n ask ≡ 0
none_pool p i n other (AnAccess a m) = if_none _ _ (none_fourphase i.row.style _ other)
none_pool p i n other (ADebugRead a m) = refl
none_pool p i n other (AnInvalidation a) = refl

-- nor of any at a memory that isn't there
not_led : (p : Plan) (i : Initiator) (m a : ℕ) → length p.platform.memories ≤ m → once (is_routed_to p i m a) ≡ 0
not_led p i m a past = by (route_of p.platform i a) refl
  where
    by : (route : Option Route) → route_of p.platform i a ≡ route → once (leads_to route m) ≡ 0
    by None q = refl
    by (Some r) q = other (r.memory == m) refl
      where
        other : (b : Bool) → (r.memory == m) ≡ b → once b ≡ 0
        other false e = refl
        other true e = let same = eqb-true r.memory m e in let less = end_there 9 p.platform i.row.bind a 0 r q in absurd (omega arith)

none_memory : (p : Plan) (i : Initiator) (m : ℕ) → length p.platform.memories ≤ m → (ask : Ask) → at_memory p i m ask ≡ 0
none_memory p i m past (AnAccess a n) = not_led p i m a past
none_memory p i m past (ADebugRead a n) = not_led p i m a past
none_memory p i m past (AnInvalidation a) = not_led p i m a past

no_row : (rows : List MemoryRow) (m : ℕ) → length rows ≤ m → slice_get rows m ≡ None
no_row [] m past = refl
no_row (r ∷ rows) zero past = absurd (omega arith)
no_row (r ∷ rows) (suc m) past = no_row rows m (omega arith)

none_in : {X : Type 0} (f : X → ℕ) → ((x : X) → f x ≡ 0) → (xs : List X) → sum_by f xs ≡ 0
none_in f none [] = refl
none_in f none (x ∷ xs) = omega (arith, sum_by-cons f x xs, none x, none_in f none xs)

none_shared : (p : Plan) (i : Initiator) (m : ℕ) → length p.platform.memories ≤ m → share_of p i (Memory m) ≡ 0
unfolding share_of
none_shared p i m past =
    let asked : sum_by (at_memory p i m) (asks_in i) ≡ 0 = none_in (at_memory p i m) (none_memory p i m past) (asks_in i) in
    let gates : at_gates p i m ≡ 0 = ap (gates_by p i m) (no_row p.platform.memories m past) in
    omega (arith, asked, gates)

none_hops : (p : Plan) (i : Initiator) (h : ℕ) → (i.row.style ≡ FourPhase → ⊥) → share_of p i (Hop h) ≡ 0
unfolding share_of
none_hops p i h other = none_in (at_hop p i h) (none_hop p i h other) (asks_in i)

none_pools : (p : Plan) (i : Initiator) (n : ℕ) → (i.row.style ≡ FourPhase → ⊥) → share_of p i (Pool n) ≡ 0
unfolding share_of
none_pools p i n other = none_in (at_pool p i n) (none_pool p i n other) (asks_in i)

module _ (p : Plan) (h : List Event) (left : ℕ → ObjectNo → ℕ) (end : ℕ → EndOf) (acyclic : HasNoCycle p.platform) (objects : HaveLeft p h left)
    (done : (k : ℕ) → k < length (initiators_of p) → IsDone p h k (left k) (end k)) where
  abbrev n : ℕ
  n = length (initiators_of p)

  abbrev Styles : ℕ → Initiator → Type 0
  Styles k i = ((i.row.style ≡ FourPhase) × IsPortDone p i h (left k) (end k)) ⊎ ((i.row.style ≡ FourPhase → ⊥) × IsRunDone p i h (left k) (end k))

  abbrev stage_by : (k : ℕ) (i : Initiator) → Styles k i → ℕ → Stage
  stage_by k i (inl port) s = port.1.under_way.stage s
  stage_by k i (inr run) s = Ahead

  abbrev mine_by : (k : ℕ) (i : Initiator) → Styles k i → List Entry
  mine_by k i (inl port) = port.1.under_way.mine
  mine_by k i (inr run) = run.1.mine

  abbrev Below : ℕ → Type 0
  Below k = (k < n) ⊎ (n ≤ k)

  abbrev stage_if : (k : ℕ) → Below k → ℕ → Stage
  stage_if k (inl b) s = stage_by k (done k b).initiator (done k b).by_style s
  stage_if k (inr b) s = Ahead

  abbrev mine_if : (k : ℕ) → Below k → List Entry
  mine_if k (inl b) = mine_by k (done k b).initiator (done k b).by_style
  mine_if k (inr b) = []

  -- what the initiators know of their accesses, by transactions
  unfoldable ends : TxnId → ℕ
  ends x = end_by (stage_if x.initiator (cases_lt x.initiator n) x.seq)

  unfoldable calls : TxnId → ℕ → ℕ
  calls x o = calls_by (stage_if x.initiator (cases_lt x.initiator n) x.seq) o

  abbrev issued_if : (k : ℕ) → Below k → ℕ → ℕ
  issued_if k (inl b) s = issued_at ends (done k b).initiator s
  issued_if k (inr b) s = 0

  unfoldable issued : TxnId → ℕ
  issued x = issued_if x.initiator (cases_lt x.initiator n) x.seq

  unfoldable mine : ℕ → List Entry
  mine k = mine_if k (cases_lt k n)

  -- what an initiator hands in, as far as its style goes
  record Facts (k : ℕ) : Type 0 where
    pub initiator : Initiator
    pub at : slice_get (initiators_of p) k ≡ Some initiator
    pub finished : HasFinished p h issued calls k (mine k) (left k)
    pub same : finished.initiator ≡ initiator
    pub issued_so : initiator.row.style ≡ FourPhase → HasIssuedSo p h issued ends initiator (mine k)
    pub known_ends : initiator.row.style ≡ FourPhase → KnowsEnds p h ends initiator
    pub phase_end : initiator.row.style ≡ FourPhase → IsPhaseEnd p initiator (mine k) ends (end k)
    pub rising : (initiator.row.style ≡ FourPhase → ⊥) → IsRising (λ (e : Entry). e.position) (mine k)
    pub latencies : (initiator.row.style ≡ FourPhase → ⊥) → IsEndByLatencies p.platform initiator (mine k) (end k)

  number_is : (k : ℕ) (i : Initiator) → slice_get (initiators_of p) k ≡ Some i → i.number ≡ k
  number_is k i at = let r : i.number ≡ 0 + k = (initiator_from 0 p.platform.initiators p.scripts k i at).0 in omega arith

  module _ (k : ℕ) (b : k < n) (q : cases_lt k n ≡ inl b) where
    abbrev d : IsDone p h k (left k) (end k)
    d = done k b

    abbrev i : Initiator
    i = d.initiator

    number : i.number ≡ k
    number = number_is k i d.at

    mine_is : (v : Styles k i) → d.by_style ≡ v → mine k ≡ mine_by k i v
    unfolding mine
    mine_is v is = ap (mine_if k) q ∙ ap (mine_by k i) is

    stage_is : (v : Styles k i) → d.by_style ≡ v → (s : ℕ) → stage_if k (cases_lt k n) s ≡ stage_by k i v s
    stage_is v is s = ap (λ (c : Below k). stage_if k c s) q ∙ ap (λ (w : Styles k i). stage_by k i w s) is

    are_of : (v : Styles k i) → d.by_style ≡ v → AreOf i (stage_by k i v) issued ends calls
    unfolding ends calls issued
    are_of v is = record {
      of_ends = λ s. ap (λ (j : ℕ). ends (txn_of j s)) number ∙ ap end_by (stage_is v is s);
      of_calls = λ s o. ap (λ (j : ℕ). calls (txn_of j s) o) number ∙ ap (λ (t : Stage). calls_by t o) (stage_is v is s);
      of_issued = λ s. ap (λ (j : ℕ). issued (txn_of j s)) number ∙ ap (λ (c : Below k). issued_if k c s) q;
    }

    by_port : (four : i.row.style ≡ FourPhase) (port : IsPortDone p i h (left k) (end k)) → d.by_style ≡ inl (four, port) → Facts k
    by_port four port is =
        let here : slice_get (initiators_of p) i.number ≡ Some i = ap (slice_get (initiators_of p)) number ∙ d.at in
        let hands : HandsIn p h issued ends calls i port.under_way.mine (left k) port.port (end k) =
        ports_hand_in p i port.port port.known port.seen (left k) h issued ends calls (end k) port.under_way here four port.ended port.none port.told (are_of (inl (four, port)) is) port.end_is in
        let same : port.under_way.mine ≡ mine k = sym (mine_is (inl (four, port)) is) in
        record {
          initiator = i;
          at = d.at;
          finished = record {
            initiator = i;
            at = d.at;
            paid = subst (λ (l : List Entry). HasPaid p h calls k l (left k)) same (subst (λ (j : ℕ). HasPaid p h calls j port.under_way.mine (left k)) number hands.paid);
            by_style = inl (four, subst (λ (l : List Entry). HasDriven p h issued calls k l) same (subst (λ (j : ℕ). HasDriven p h issued calls j port.under_way.mine) number hands.driven));
          };
          same = refl;
          issued_so = λ f. subst (HasIssuedSo p h issued ends i) same hands.has_issued;
          known_ends = λ f. hands.known_ends;
          phase_end = λ f. subst (λ (l : List Entry). IsPhaseEnd p i l ends (end k)) same hands.end_is;
          rising = λ other. absurd (other four);
          latencies = λ other. absurd (other four);
        }

    by_run : (other : i.row.style ≡ FourPhase → ⊥) (run : IsRunDone p i h (left k) (end k)) → d.by_style ≡ inr (other, run) → Facts k
    by_run other run is =
        let same : run.mine ≡ mine k = sym (mine_is (inr (other, run)) is) in
        record {
          initiator = i;
          at = d.at;
          finished = record {
            initiator = i;
            at = d.at;
            paid = subst (λ (l : List Entry). HasPaid p h calls k l (left k)) same (record {
              within = run.within;
              distinct = apart run.mine run.runs.rising;
              own = λ e has. run.own e has ∙ number;
              paid = paid;
            });
            by_style = inr (other, subst (HasRun p i) same run.runs);
          };
          same = refl;
          issued_so = λ four. absurd (other four);
          known_ends = λ four. absurd (other four);
          phase_end = λ four. absurd (other four);
          rising = λ f. subst (λ (l : List Entry). IsRising (λ (e : Entry). e.position) l) same run.runs.rising;
          latencies = λ f. subst (λ (l : List Entry). IsEndByLatencies p.platform i l (end k)) same run.end_is;
        }
      where
        share : (o : ObjectNo) → share_at p k o ≡ share_of p i o
        share o = ap (share_by p o) d.at

        paid : (o : ObjectNo) → share_at p k o ≤ spent_at p calls run.mine k o + left k o
        paid (Memory m) = at_memory_of m (cases_lt m (length p.platform.memories))
          where
            at_memory_of : (m : ℕ) → (m < length p.platform.memories) ⊎ (length p.platform.memories ≤ m) → share_at p k (Memory m) ≤ length (entries_at (Memory m) run.mine) + left k (Memory m)
            at_memory_of m (inl less) = let all = run.all m less in let same = ap (λ (j : ℕ). share_at p j (Memory m)) number in omega arith
            at_memory_of m (inr past) = omega (arith, share (Memory m), none_shared p i m past)
        paid (Hop o) = omega (arith, share (Hop o), none_hops p i o other)
        paid (Pool o) = omega (arith, share (Pool o), none_pools p i o other)

    here_facts : Facts k
    here_facts = by d.by_style refl
      where
        by : (v : Styles k i) → d.by_style ≡ v → Facts k
        by (inl port) is = by_port port.0 port.1 is
        by (inr run) is = by_run run.0 run.1 is

  facts_if : (k : ℕ) (c : Below k) → cases_lt k n ≡ c → k < n → Facts k
  facts_if k (inl b) q less = here_facts k b q
  facts_if k (inr past) q less = absurd (omega arith)

  facts : (k : ℕ) → k < n → Facts k
  facts k less = facts_if k (cases_lt k n) refl less

  have_ended : HaveEnded p h issued calls mine left
  have_ended = record { objects = objects; initiators = λ k less. (facts k less).finished }

  some_same : (x y : Initiator) → Some x ≡ Some y → x ≡ y
  some_same x y q = cc

  -- a request that is no access has no end
  no_ends : (x : TxnId) → passage_of p x ≡ None → ends x ≡ 0
  unfolding ends
  no_ends x none = by (cases_lt x.initiator n)
    where
      by : (c : Below x.initiator) → end_by (stage_if x.initiator c x.seq) ≡ 0
      by (inr past) = refl
      by (inl b) = of_style (done x.initiator b).by_style
        where
          i : Initiator
          i = (done x.initiator b).initiator

          of_style : (v : Styles x.initiator i) → end_by (stage_by x.initiator i v x.seq) ≡ 0
          of_style (inl port) = port.1.under_way.accesses.no_end x.seq (ap (λ (j : ℕ). passage_of p (txn_of j x.seq)) (number_is x.initiator i (done x.initiator b).at) ∙ none)
          of_style (inr run) = refl

  -- the facts of an initiator, by its number
  at_its_number : (i : Initiator) → slice_get (initiators_of p) i.number ≡ Some i → (f : Facts i.number) × (f.initiator ≡ i)
  at_its_number i at = let f = facts i.number (below_of i.number i at) in (f, some_same f.initiator i (sym f.at ∙ at))
    where
      within : (l : List Initiator) (k : ℕ) (j : Initiator) → slice_get l k ≡ Some j → k < length l
      within [] k j q = cc
      within (z ∷ l) zero j q = omega arith
      within (z ∷ l) (suc k) j q = let r = within l k j q in omega arith

      below_of : (k : ℕ) (j : Initiator) → slice_get (initiators_of p) k ≡ Some j → k < n
      below_of k j q = within (initiators_of p) k j q

  have_issued : HaveIssued p h issued ends mine
  have_issued = record {
    initiators = λ i at four.
        let f = at_its_number i at in
        let so = f.0.issued_so (ap (λ (j : Initiator). j.row.style) f.1 ∙ four) in
        replies_are_own p h issued ends calls mine left have_ended i at four (subst (λ (j : Initiator). HasIssuedSo p h issued ends j (mine i.number)) f.1 so);
    no_ends = no_ends;
  }

  end_is : (k : ℕ) (i : Initiator) → slice_get (initiators_of p) k ≡ Some i → IsEndOf p i (entries h) (end k)
  end_is k i at = subst (λ (j : ℕ). IsEndOf p i (entries h) (end j)) number (by (style_case i.row.style))
    where
      number : i.number ≡ k
      number = number_is k i at

      here : slice_get (initiators_of p) i.number ≡ Some i
      here = ap (slice_get (initiators_of p)) number ∙ at

      f : (g : Facts i.number) × (g.initiator ≡ i)
      f = at_its_number i here

      style_of : f.0.initiator.row.style ≡ i.row.style
      style_of = ap (λ (j : Initiator). j.row.style) f.1

      by : (i.row.style ≡ FourPhase) ⊎ (i.row.style ≡ FourPhase → ⊥) → IsEndOf p i (entries h) (end i.number)
      by (inl four) =
          let phase = subst (λ (j : Initiator). IsPhaseEnd p j (mine i.number) ends (end i.number)) f.1 (f.0.phase_end (style_of ∙ four)) in
          let known = subst (KnowsEnds p h ends) f.1 (f.0.known_ends (style_of ∙ four)) in
          ends_are_theirs p h issued ends calls mine left acyclic have_ended no_ends i here four known (end i.number) phase
      by (inr other) =
          let not_four : f.0.initiator.row.style ≡ FourPhase → ⊥ = λ q. other (sym style_of ∙ q) in
          let premises = ended_has_premises p h issued calls mine left acyclic have_ended in
          let own_is : own i.number (entries h) ≡ mine i.number = own_mine p h issued ends calls mine left have_ended have_issued premises i here other (f.0.rising not_four) in
          let by_mine : IsEndByLatencies p.platform i (mine i.number) (end i.number) = subst (λ (j : Initiator). IsEndByLatencies p.platform j (mine i.number) (end i.number)) f.1 (f.0.latencies not_four) in
          (ends_by_latencies p i (entries h) (end i.number) other).1 (record {
            transactions = by_mine.transactions;
            syncs = by_mine.syncs;
            time = by_mine.time;
            refused = by_mine.refused ∙ ap (map (λ r. refused_at r r.time)) (ap (refused_of p.platform i) (sym own_is) ∙ sym (own_is_enough p.platform i (entries h)).refused);
          })

  -- the entries in the history of one that isn't four-phase are those that it hands in
  pub own_is : (k : ℕ) (b : k < n) → cases_lt k n ≡ inl b → (other : (done k b).initiator.row.style ≡ FourPhase → ⊥) (run : IsRunDone p (done k b).initiator h (left k) (end k)) → (done k b).by_style ≡ inr (other, run) → own k (entries h) ≡ run.mine
  own_is k b q other run is =
      let j : Initiator = (done k b).initiator in
      let same : j.number ≡ k = number k b q in
      let here : slice_get (initiators_of p) j.number ≡ Some j = ap (slice_get (initiators_of p)) same ∙ (done k b).at in
      let handed : mine k ≡ run.mine = mine_is k b q (inr (other, run)) is in
      let rising : IsRising (λ (e : Entry). e.position) (mine j.number) = subst (λ (m : ℕ). IsRising (λ (e : Entry). e.position) (mine m)) (sym same) (subst (IsRising (λ (e : Entry). e.position)) (sym handed) run.runs.rising) in
      let premises = ended_has_premises p h issued calls mine left acyclic have_ended in
      subst (λ (m : ℕ). own m (entries h) ≡ mine m) same (own_mine p h issued ends calls mine left have_ended have_issued premises j here other rising) ∙ handed

  -- a port tells of grants what a history of grants asks of it
  pub port_tells : (k : ℕ) (b : k < n) → cases_lt k n ≡ inl b → (four : (done k b).initiator.row.style ≡ FourPhase) (port : IsPortDone p (done k b).initiator h (left k) (end k)) → (done k b).by_style ≡ inl (four, port)
      → HasAllOf h (entries h) → KeepsOwnGrants p (entries h) (own k (entries h)) × EndsOwnGrants p (entries h) k (own k (entries h))
  port_tells k b q four port is whole =
      let j : Initiator = (done k b).initiator in
      let same : j.number ≡ k = number k b q in
      let here : slice_get (initiators_of p) j.number ≡ Some j = ap (slice_get (initiators_of p)) same ∙ (done k b).at in
      let handed : mine j.number ≡ port.under_way.mine = ap mine same ∙ mine_is k b q (inl (four, port)) is in
      let premises = ended_has_premises p h issued calls mine left acyclic have_ended in
      subst (λ (m : ℕ). KeepsOwnGrants p (entries h) (own m (entries h)) × EndsOwnGrants p (entries h) m (own m (entries h))) same (
        port_keeps p h issued ends calls mine left have_ended have_issued premises j here four port.port port.known port.seen (left k) port.under_way port.ended handed port.told whole,
        port_ends p h issued ends calls mine left have_ended have_issued premises j here four port.port port.known port.seen (left k) port.under_way port.ended handed port.told whole,
      )

  pub ended_whole : HasEndedWhole p h left end
  ended_whole = record { issued = issued; ends = ends; calls = calls; mine = mine; ended = have_ended; was_issued = have_issued; ends_are = end_is }

pub initiators_end : InitiatorsEnd
initiators_end p h left end acyclic objects done = ended_whole p h left end acyclic objects done

pub ports_tell_grants : PortsTellGrants
ports_tell_grants p h left end acyclic objects done whole k i at four = by (cases_lt k (length (initiators_of p))) refl
  where
    within : (l : List Initiator) (k : ℕ) (j : Initiator) → slice_get l k ≡ Some j → k < length l
    within [] k j q = cc
    within (z ∷ l) zero j q = omega arith
    within (z ∷ l) (suc k) j q = let r = within l k j q in omega arith

    same : (x y : Initiator) → Some x ≡ Some y → x ≡ y
    same x y q = cc

    by : (c : (k < length (initiators_of p)) ⊎ (length (initiators_of p) ≤ k)) → cases_lt k (length (initiators_of p)) ≡ c → KeepsOwnGrants p (entries h) (own k (entries h)) × EndsOwnGrants p (entries h) k (own k (entries h))
    by (inr past) q = let less = within (initiators_of p) k i at in absurd (omega arith)
    by (inl b) q = by_style (done k b).by_style refl
      where
        by_style : (v : (((done k b).initiator.row.style ≡ FourPhase) × IsPortDone p (done k b).initiator h (left k) (end k)) ⊎ (((done k b).initiator.row.style ≡ FourPhase → ⊥) × IsRunDone p (done k b).initiator h (left k) (end k))) → (done k b).by_style ≡ v
            → KeepsOwnGrants p (entries h) (own k (entries h)) × EndsOwnGrants p (entries h) k (own k (entries h))
        by_style (inl port) is = port_tells p h left end acyclic objects done k b q port.0 port.1 is whole
        by_style (inr run) is = absurd (run.0 (ap (λ (j : Initiator). j.row.style) (same (done k b).initiator i (sym (done k b).at ∙ at)) ∙ four))
