-- An initiator after an invalidation.
use Rattle.std.proofs.Common.{◌≡◌, ◌≢◌, ℕ, ◌+◌, ◌<◌, ◌≤◌, ◌==◌, true, false, cond, List, [], ◌∷◌, ◌++◌, length, map, Option, Some, slice_get, refl, ap, sym, subst, ◌∙◌, ⊎_elim, arith, append_assoc, append-nil, length-append}
use Rattle.std.specs.Prelude.{IsTrue, MatchOption}
use Rattle.std.proofs.lemmas.Bool.{cases_eq, cond-true, cond-false, eq-eqb, ne_eqb}
use Rattle.std.proofs.lemmas.Option.{MatchOption-at_some}
use Rattle.view_lists.specs.Lists.{Has}
use Rattle.view_lists.proofs.Members.{has_either, has_later, has_left, has_one}
use Rattle.one_history.specs.declared.view.Frame.{Frame}
use Rattle.one_history.specs.declared.view.View.{View}
use Rattle.shared_object.specs.Written.{written_at}
use Rattle.token_book.specs.Purse.{Purse, bytes_of, left_of}
use Rattle.tlm_types.specs.declared.entry.Content.{Content}
use Rattle.tlm_types.specs.declared.entry.Entry.{Entry}
use Rattle.tlm_types.specs.declared.entry.What.{What}
use Rattle.tlm_types.specs.declared.entry.What.TheVariants.{Closed, Invalidated}
use Rattle.tlm_types.specs.declared.words.ObjectNo.{ObjectNo}
use Rattle.tlm_types.specs.declared.words.ObjectNo.TheVariants.{Memory}
use Rattle.tlm_types.specs.declared.words.TxnId.{TxnId}
use Rattle.tlm_model.specs.declared.platform.Style.{Style}
use Rattle.tlm_model.specs.declared.platform.Style.TheVariants.{FourPhase}
use Rattle.tlm_model.specs.History.{entries_at, is_object}
use Rattle.tlm_model.specs.Plan.{Plan, Initiator, initiators_of}
use Rattle.tlm_model.specs.Requests.{Invalidation, Request, requests_of}
use Rattle.tlm_model.specs.Route.{Route as RouteOfModel, route_of}
use Rattle.tlm_model.specs.Scripts.{HasWay, IsEntryOf, IsInOrder, IsPlaced, is_answer}
use Rattle.tlm_model.specs.Times.{HasTime, decoupled_time}
use Rattle.tlm_model.proofs.HistoryLemmas.{AllByRecursion-push}
use Rattle.flow_model.specs.Plans.{IsDecoupled}
use Rattle.good_history.specs.Laws.{AllDecoupled}
use Rattle.good_history.specs.Grants.{asks, is_grant, last_of}
use Rattle.good_history.specs.Counting.{IsRising}
use Rattle.good_history.specs.Joined.{KeepsOwn}
use Rattle.joined_traffic.specs.Parts.{KnowsAllGiven}
use Rattle.joined_traffic.specs.Table.{IsTableOf}
use Rattle.joined_traffic.proofs.Tables.{table_passes}
use Rattle.route_plan.specs.Counted.{share_at}
use Rattle.route_plan.specs.Planned.{is_routed_to, leads_to}
use Rattle.script_engine.specs.declared.part.Pause.TheVariants as pause
use Rattle.script_engine.specs.Asking.{requests_at, stage_after}
use Rattle.script_engine.specs.Part.{is_fenced_part}
use Rattle.script_engine.specs.State.{State, is_fenced, op_of, passed_by}
use Rattle.quantum_keeper.specs.Keeper.{current_time}
use Rattle.initiator_run.specs.declared.run.NextInvalidation.{NextInvalidation}
use Rattle.initiator_run.specs.Access.{IsRouteOf, model_route}
use Rattle.initiator_run.specs.Come.{HasCome}
use Rattle.initiator_run.specs.Left.{asks_left, bytes_left, leads}
use Rattle.initiator_run.specs.Moves.{HasToInvalidate}
use Rattle.initiator_run.specs.Run.{Run, invalidated}
use Rattle.initiator_run.proofs.InvalidationLemmas.{HasCome-invalidated, finished_invalidated, invalidation_is_not_done, left_after, left_invalidated, request_to_invalidate}
use Rattle.initiator_run.proofs.LeftLemmas.{leads_elsewhere, leads_there}
use Rattle.initiator_run.proofs.MoveLemmas.{passed_initiator}
use Rattle.initiator_run.proofs.RouteLemmas.{walk_memory}
use Rattle.initiator_run.proofs.RunLemmas.{passed_step}
use Rattle.initiator_run.proofs.StepLemmas.{slice_get-after}
use Rattle.initiator_run.proofs.EntryLemmas.{entries_at-push}
use Rattle.run_outcome.proofs.ListLemmas.{is_within}
use Rattle.plat_net.proofs.ObjectLemmas.{more_objects}
use Rattle.dmi_grants.specs.Made.{IsRoomyFor, unclosed}
use Rattle.dmi_grants.specs.Table.{TableView, granted_by}
use Rattle.dmi_grants.specs.Telling.{AsksAfter, HasAdded, IsClosingFor, KeepsOwnPoints}
use Rattle.dmi_grants.specs.Invalidating.{HasInvalidated}
use Rattle.dmi_grants.proofs.Points.{invalidation_keeps_points}
use Rattle.dmi_grants.proofs.Telling.{invalidation_adds}
use Rattle.decoupled_run.specs.Job.{AreBelow, HasAllOf, HasMade, HasTickets, HoldsGrants, IsAtEase, IsInitiator, position_of}
use Rattle.decoupled_run.specs.Known.{gates_left, known_to}
use Rattle.decoupled_run.specs.Script.{IsInScript}
use Rattle.decoupled_run.proofs.EntryLemmas.{IsDoneFor, IsFor, come_granted, decoupled_style, in_order, keeps_more}
use Rattle.decoupled_run.proofs.JobLemmas.{number, own_number, still_held}
use Rattle.decoupled_run.proofs.KnownLemmas.{all_of, all_ungiven_less, below_of, read_below, read_more}
use Rattle.decoupled_run.proofs.ScriptLemmas.{passed_stands}
use Rattle.decoupled_run.proofs.TicketLemmas.{closes, closes_next, gates_left_closed, gates_left_less, some_unclosed}

-- lists that rise, one after the other
rising_both : (xs ys : List Entry) → IsRising position_of xs → IsRising position_of ys → ((x y : Entry) → Has xs x → Has ys y → x.position < y.position) → IsRising position_of (xs ++ ys)
rising_both [] ys first second apart = second
rising_both (x ∷ xs) ys first second apart = (
  (λ y has. ⊎_elim (λ (a : Has xs y). first.0 y a) (λ (b : Has ys y). apart x y (0, refl) b) (has_either xs ys y has)),
  rising_both xs ys first.1 second (λ a b in_xs in_ys. apart a b (has_later x xs a in_xs) in_ys),
)

-- what is pushed one by one, for entries that each have Q
pushed_each : (P : List Entry → Type 0) (Q : Entry → Type 0) → ((l : List Entry) (e : Entry) → Q e → P l → P (l ++ e ∷ [])) → (l es : List Entry) → ((e : Entry) → Has es e → Q e) → P l → P (l ++ es)
pushed_each P Q push l [] each is = subst P (sym (append-nil l)) is
pushed_each P Q push l (e ∷ es) each is =
    subst P (append_assoc l (e ∷ []) es) (pushed_each P Q push (l ++ e ∷ []) es (λ x has. each x (has_later e es x has)) (push l e (each e (0, refl)) is))

-- entries at one memory are counted there
count_here : (m k : ℕ) (es l : List Entry) → ((e : Entry) → Has es e → e.object ≡ Memory m) → k ≡ m → length (entries_at (Memory k) (l ++ es)) ≡ length (entries_at (Memory k) l) + length es
count_here m k [] l each here = ap (λ (x : List Entry). length (entries_at (Memory k) x)) (append-nil l) ∙ omega arith
count_here m k (e ∷ es) l each here =
    let rest = count_here m k es (l ++ e ∷ []) (λ x has. each x (has_later e es x has)) here in
    let one : length (entries_at (Memory k) (l ++ e ∷ [])) ≡ length (entries_at (Memory k) l) + 1 =
    ap length (entries_at-push (Memory k) l e ∙ ap (λ (x : List Entry). entries_at (Memory k) l ++ x) (ap (λ (o : ObjectNo). cond (is_object (Memory k) o) (e ∷ []) []) (each e (0, refl)) ∙ cond-true (m == k) (e ∷ []) [] (eq-eqb m k (sym here))))
    ∙ length-append (entries_at (Memory k) l) (e ∷ []) in
    ap (λ (x : List Entry). length (entries_at (Memory k) x)) (sym (append_assoc l (e ∷ []) es)) ∙ omega arith

-- and at no other
count_there : (m k : ℕ) (es l : List Entry) → ((e : Entry) → Has es e → e.object ≡ Memory m) → (k ≡ m → ⊥) → length (entries_at (Memory k) (l ++ es)) ≡ length (entries_at (Memory k) l)
count_there m k es l each other =
    pushed_each (λ x. length (entries_at (Memory k) x) ≡ length (entries_at (Memory k) l)) (λ e. e.object ≡ Memory m)
    (λ x e is same.
    ap length (entries_at-push (Memory k) x e ∙ (ap (λ (y : List Entry). entries_at (Memory k) x ++ y) (ap (λ (o : ObjectNo). cond (is_object (Memory k) o) (e ∷ []) []) is ∙ cond-false (m == k) (e ∷ []) [] (ne_eqb m k (λ q. other (sym q)))) ∙ append-nil (entries_at (Memory k) x))) ∙ same)
    l es each refl

invalidation_is : (o : RouteOfModel) (route : Option RouteOfModel) (n first last : ℕ) → route ≡ Some o → IsEntryOf (Some o) (Invalidation n) (Memory o.memory) (Invalidated first last) → IsEntryOf route (Invalidation n) (Memory o.memory) (Invalidated first last)
invalidation_is o route n first last is of = subst (λ (x : Option RouteOfModel). IsEntryOf x (Invalidation n) (Memory o.memory) (Invalidated first last)) (sym is) of

-- at an invalidation that is next
module _ (frame : Frame Plan) (r : Run) (note : View Content Plan) (old : Purse) (t : TableView) (ease : IsAtEase frame r note old t) (x : NextInvalidation) (reached : HasToInvalidate frame.world r x) where
  abbrev p : Plan
  p = frame.world

  abbrev job : IsInitiator frame r note old t
  job = ease.is

  abbrev i : Initiator
  i = (job).initiator

  abbrev m : ℕ
  m = x.route.memory

  abbrev a : ℕ
  a = reached.address

  leads_to_it : IsRouteOf p i a x.route
  leads_to_it = MatchOption-at_some ⊥ (λ (j : Initiator). IsRouteOf p j a x.route) i (job).is reached.leads

  pub memory_there : m < length (p).platform.memories
  memory_there = is_within (p).platform.memories m (walk_memory p 9 (i).row.bind a 0 (model_route x.route) leads_to_it.leads)

  routed : is_routed_to p i m a ≡ true
  routed = ap (λ (o : Option RouteOfModel). leads_to o m) leads_to_it.leads ∙ eq-eqb m m refl

  it_closes : closes p i m ≡ true
  it_closes = closes_next p i m r.engine a reached.bytes (job).made.stands reached.next routed

  -- the wallet pays for it
  pub can_invalidate : unclosed p m (written_at m note.known) < left_of old m
  can_invalidate =
      let enough = ((job).tickets m memory_there).asks in
      let asked = (left_invalidated p i m a reached.bytes r.engine reached.next).0 in
      let one : leads p i m a ≡ 1 = leads_there p i a (model_route x.route) leads_to_it.leads in
      let open' = some_unclosed p i m note.known it_closes in
      omega arith

  pub roomy_there : IsRoomyFor m old
  roomy_there = (job).roomy m memory_there

  -- once it is made
  module _ (txn : TxnId) (time : ℕ) (back : View Content Plan) (new : Purse) (told : Entry) (closings : List Entry) (txn_is : txn ≡ record { initiator = r.engine.initiator; seq = r.engine.seq }) (time_is : time ≡ current_time r.keeper)
      (d : HasAdded frame m txn time x.first x.last note back old new told closings) (rooms : (k : ℕ) → IsRoomyFor k old → IsRoomyFor k new) where
    abbrev mine : List Entry
    mine = (job).mine

    abbrev come : HasCome (p).platform i mine r
    come = (job).made.come

    abbrev q : Request
    q = request_to_invalidate r.engine.seq a reached.bytes (current_time r.keeper) (come).stage

    abbrev next_run : Run
    next_run = invalidated r

    number_is : (i).number ≡ r.engine.initiator
    number_is = number frame r note note old t job

    own_txn : txn.initiator ≡ (i).number
    own_txn = ap (λ (y : TxnId). y.initiator) txn_is ∙ sym number_is

    seq_is : txn.seq ≡ r.engine.seq
    seq_is = ap (λ (y : TxnId). y.seq) txn_is

    -- its request stands at its number, whatever is answered next
    asked_for : (more : List Entry) → slice_get (requests_of (p).platform i (mine ++ more)) txn.seq ≡ Some q
    asked_for more =
        ap (slice_get (requests_of (p).platform i (mine ++ more))) seq_is
        ∙ (ap (λ (rs : List Request). slice_get rs r.engine.seq) ((come).asked.asked more ∙ ap (λ (rs : List Request). (come).made ++ rs) (left_after (p).platform i r a reached.bytes reached.next (mine ++ more) (come).stage))
        ∙ slice_get-after (come).made q (requests_at (p).platform i (mine ++ more) (current_time r.keeper) (stage_after (op_of r.engine) (come).stage) (passed_by r.engine)) r.engine.seq (sym (come).count))

    at_txn : slice_get (initiators_of p) txn.initiator ≡ Some i
    at_txn = ap (slice_get (initiators_of p)) (own_txn) ∙ own_number frame r note note old t job

    asks_after : AsksAfter p mine txn
    asks_after = record { initiator = i; request = q; is = at_txn; asked = asked_for }

    is_for : (more : List Entry) (e : Entry) → e.txn ≡ txn → IsFor p i (mine ++ more) q e
    is_for more e of = record {
      mine = ap (λ (y : TxnId). slice_get (initiators_of p) y.initiator) of ∙ at_txn;
      asked = ap (λ (y : TxnId). slice_get (requests_of (p).platform i (mine ++ more)) y.seq) of ∙ asked_for more;
    }

    told_txn : told.txn ≡ txn
    told_txn = ap (λ (e : Entry). e.txn) d.told_is

    told_object : told.object ≡ Memory m
    told_object = ap (λ (e : Entry). e.object) d.told_is

    told_what : told.what ≡ Invalidated x.first x.last
    told_what = ap (λ (e : Entry). e.what) d.told_is

    told_time : told.time ≡ current_time r.keeper
    told_time = ap (λ (e : Entry). e.time) d.told_is ∙ time_is

    timed : (s : Style) (w u : ℕ) → s ≢ FourPhase → u ≡ w → HasTime s w u
    timed s w u decoupled same = decoupled_style (λ (y : Style). HasTime y w u) s decoupled same same

    -- its own entry
    told_replies : IsEntryOf (route_of (p).platform i a) (Invalidation reached.bytes) told.object told.what
    told_replies =
        subst (λ (o : ObjectNo). IsEntryOf (route_of (p).platform i a) (Invalidation reached.bytes) o told.what) (sym told_object)
        (subst (λ (w : What). IsEntryOf (route_of (p).platform i a) (Invalidation reached.bytes) (Memory m) w) (sym told_what)
        (invalidation_is (model_route x.route) (route_of (p).platform i a) reached.bytes x.first x.last leads_to_it.leads (refl, reached.first_is, reached.last_is)))

    told_done : IsDoneFor p i mine q told
    told_done = record {
      replies = told_replies;
      way = subst (λ (w : What). HasWay (i).row.style (Invalidation reached.bytes) w) (sym told_what) tt;
      order = subst (λ (w : What). IsInOrder (p).platform i mine q (is_answer w)) (sym told_what)
          (in_order (p).platform i mine r q (requests_at (p).platform i mine (current_time r.keeper) (stage_after (op_of r.engine) (come).stage) (passed_by r.engine)) (job).decoupled come refl (left_after (p).platform i r a reached.bytes reached.next mine (come).stage));
      place = subst (λ (o : ObjectNo). IsPlaced (p).platform told.txn.initiator o told.what) (sym told_object) (subst (λ (w : What). IsPlaced (p).platform told.txn.initiator (Memory m) w) (sym told_what) tt);
      time = subst (λ (w : What). HasTime (i).row.style (decoupled_time (p).platform i q w) told.time) (sym told_what) (timed (i).row.style (current_time r.keeper) told.time (job).decoupled told_time);
    }

    -- and its closings
    closing_done : (more : List Entry) (c : Entry) → IsClosingFor p m txn time c → IsDoneFor p i (mine ++ more) q c
    closing_done more c is = record {
      replies = subst (λ (w : What). IsEntryOf (route_of (p).platform i a) (Invalidation reached.bytes) c.object w) (sym is.says) tt;
      way = subst (λ (w : What). HasWay (i).row.style (Invalidation reached.bytes) w) (sym is.says) tt;
      order = subst (λ (w : What). IsInOrder (p).platform i (mine ++ more) q (is_answer w)) (sym is.says) tt;
      place = subst (λ (o : ObjectNo). IsPlaced (p).platform c.txn.initiator o c.what) (sym is.object) (subst (λ (w : What). IsPlaced (p).platform c.txn.initiator (Memory m) w) (sym is.says) is.its_gate);
      time = subst (λ (w : What). HasTime (i).row.style (decoupled_time (p).platform i q w) c.time) (sym is.says) (timed (i).row.style (current_time r.keeper) c.time (job).decoupled (is.at ∙ time_is));
    }

    -- the own entries so far, with these
    record Stands (l : List Entry) : Type 0 where
      more : List Entry
      is : l ≡ mine ++ more
      keeps : KeepsOwn p l
      come_to : HasCome (p).platform i l next_run
      decoupled : AllDecoupled l
      table : (h : List Entry) (limit : ℕ) → HasAllOf p back h → AreBelow (known_to p back) limit → IsTableOf h limit l (map granted_by t.held)

    decoupled_at : (e : Entry) (w : What) → e.object ≡ Memory m → e.what ≡ w → IsDecoupled (Memory m) w → IsDecoupled e.object e.what
    decoupled_at e w object says is = subst (λ (o : ObjectNo). IsDecoupled o e.what) (sym object) (subst (λ (v : What). IsDecoupled (Memory m) v) (sym says) is)

    stands_told : Stands (mine ++ told ∷ [])
    stands_told = record {
      more = told ∷ [];
      is = refl;
      keeps =
          keeps_more p i mine q told (subst (λ (l : List Entry). IsFor p i l q told) (append-nil mine) (is_for [] told told_txn)) told_done (job).made.keeps;
      come_to = HasCome-invalidated (p).platform i r a reached.bytes reached.next mine told (ap (λ (y : TxnId). y.initiator) told_txn ∙ own_txn) (ap (λ (y : TxnId). y.seq) told_txn ∙ seq_is) (ap is_answer told_what) come;
      decoupled = AllByRecursion-push (λ (e : Entry). IsDecoupled e.object e.what) mine told (job).made.decoupled (decoupled_at told (Invalidated x.first x.last) told_object told_what tt);
      table = λ h limit all below. table_passes h limit mine (map granted_by t.held) told (ap is_grant told_what) ((job).holds.table h limit (all_of p note back h d.keeps all) (below_of p note back limit d.keeps below));
    }

    stands_pushed : (l : List Entry) (c : Entry) → IsClosingFor p m txn time c → Stands l → Stands (l ++ c ∷ [])
    stands_pushed l c is s = record {
      more = s.more ++ c ∷ [];
      is = ap (λ (y : List Entry). y ++ c ∷ []) s.is ∙ append_assoc mine s.more (c ∷ []);
      keeps =
          keeps_more p i l q c (subst (λ (y : List Entry). IsFor p i y q c) (sym s.is) (is_for s.more c is.of)) (subst (λ (y : List Entry). IsDoneFor p i y q c) (sym s.is) (closing_done s.more c is)) s.keeps;
      come_to = come_granted (p).platform i l next_run c (ap is_answer is.says) s.come_to;
      decoupled = AllByRecursion-push (λ (e : Entry). IsDecoupled e.object e.what) l c s.decoupled (decoupled_at c (Closed is.gate) is.object is.says tt);
      table = λ h limit all below. table_passes h limit l (map granted_by t.held) c (ap is_grant is.says) (s.table h limit all below);
    }

    abbrev added : List Entry
    added = told ∷ closings

    abbrev all_mine : List Entry
    all_mine = mine ++ added

    stands : Stands all_mine
    stands = subst Stands (append_assoc mine (told ∷ []) closings) (pushed_each Stands (IsClosingFor p m txn time) stands_pushed (mine ++ told ∷ []) closings d.each stands_told)

    of_added : (e : Entry) → Has added e → (e.txn ≡ txn) × (e.object ≡ Memory m)
    of_added e has = ⊎_elim
        (λ (itself : Has (told ∷ []) e). subst (λ (y : Entry). (y.txn ≡ txn) × (y.object ≡ Memory m)) (has_one told e itself) (told_txn, told_object))
        (λ (closing : Has closings e). ((d.each e closing).of, (d.each e closing).object))
        (has_either (told ∷ []) closings e has)

    engine_is : (next_run).engine ≡ passed_by r.engine
    engine_is = passed_step pause.Fence r

    unfenced : is_fenced (op_of r.engine) ≡ false
    unfenced = ap is_fenced_part reached.next

    same_number : (next_run).engine.initiator ≡ r.engine.initiator
    same_number = ap (λ (e : State). e.initiator) engine_is ∙ passed_initiator r.engine r.engine.remaining

    made : HasMade p i next_run back all_mine
    made = record {
      rising = rising_both mine added (job).made.rising d.rising (λ y e in_mine in_added. (let b = read_below (p).platform note.known note.seen (job).below y ((job).made.known y in_mine) in let late = d.late e in_added in omega arith));
      known = λ e has. ⊎_elim (λ (before : Has mine e). read_more (p).platform note.known back.known d.keeps e ((job).made.known e before)) (λ (new_one : Has added e). d.known e new_one) (has_either mine added e has);
      own = λ e has. ⊎_elim (λ (before : Has mine e). (job).made.own e before) (λ (new_one : Has added e). ap (λ (y : TxnId). y.initiator) (of_added e new_one).0 ∙ own_txn) (has_either mine added e has);
      come = stands.come_to;
      stands = subst (IsInScript i) (sym engine_is) (passed_stands i r.engine.initiator r.engine.seq r.engine.due r.engine.remaining r.engine.ended unfenced (job).made.stands);
      keeps = stands.keeps;
      decoupled = stands.decoupled;
    }

    points : KeepsOwnPoints p back txn.initiator all_mine
    points = invalidation_keeps_points frame m txn time x.first x.last note back old new told closings mine d (job).below asks_after (record {
      own = (job).holds.own;
      returned = (job).holds.returned;
      settled = subst (λ (n : ℕ). MatchOption (last_of n mine) (Unit {0}) (λ e. IsTrue (asks p e) → KnowsAllGiven p (known_to p note) note.seen e.object)) (sym own_txn) ease.answered;
    })

    holds : HoldsGrants frame i back all_mine t
    holds = record {
      own = points.own;
      returned = points.returned;
      table = stands.table;
      held = λ y has. still_held frame i note back mine all_mine y d.keeps (λ e in_mine. has_left mine added e in_mine) ((job).holds.held y has);
      few = (let before = (job).holds.few in let less = all_ungiven_less p note.known back.known (length (p).platform.memories) d.keeps in omega arith);
      room = (job).holds.room;
      none = (job).holds.none;
    }

    tickets : (k : ℕ) → HasTickets p i r note old mine k → HasTickets p i next_run back new all_mine k
    tickets k has = ⊎_elim (λ (here : k ≡ m). at_it here) (λ (other : k ≡ m → ⊥). at_others other) (cases_eq k m)
      where
        paid_as : asks_left p i k (passed_by r.engine) + gates_left p i back.known k ≤ left_of new k → bytes_left p i k (passed_by r.engine) ≤ bytes_of new k → length (entries_at (Memory k) all_mine) + left_of new k ≡ share_at p (i).number (Memory k) → HasTickets p i next_run back new all_mine k
        paid_as enough fits all = record {
          asks = subst (λ (e : State). asks_left p i k e + gates_left p i back.known k ≤ left_of new k) (sym engine_is) enough;
          bytes = subst (λ (e : State). bytes_left p i k e ≤ bytes_of new k) (sym engine_is) fits;
          all = all;
        }

        at_it : k ≡ m → HasTickets p i next_run back new all_mine k
        at_it here =
            let asked = (left_invalidated p i k a reached.bytes r.engine reached.next).0 in
            let logged = (left_invalidated p i k a reached.bytes r.engine reached.next).1 in
            let one : leads p i k a ≡ 1 = ap (λ (j : ℕ). leads p i j a) here ∙ leads_there p i a (model_route x.route) leads_to_it.leads in
            let spent : left_of new k + length added ≡ left_of old k = subst (λ (j : ℕ). left_of new j + length added ≡ left_of old j) (sym here) d.wallet.here in
            let fewer : unclosed p k (written_at k back.known) + length closings ≤ unclosed p k (written_at k note.known) = subst (λ (j : ℕ). unclosed p j (written_at j back.known) + length closings ≤ unclosed p j (written_at j note.known)) (sym here) d.fewer in
            let goes : closes p i k ≡ true = ap (closes p i) here ∙ it_closes in
            let gates = gates_left_closed p i k note.known back.known (length closings) d.keeps goes fewer in
            let count = count_here m k added mine (λ e in_added. (of_added e in_added).1) here in
            let enough = has.asks in
            let fits = has.bytes in
            let kept = d.wallet.bytes k in
            let all = has.all in
            paid_as (omega arith) (omega arith) (omega arith)

        at_others : (k ≡ m → ⊥) → HasTickets p i next_run back new all_mine k
        at_others other =
            let asked = (left_invalidated p i k a reached.bytes r.engine reached.next).0 in
            let logged = (left_invalidated p i k a reached.bytes r.engine reached.next).1 in
            let none : leads p i k a ≡ 0 = leads_elsewhere p i k a (model_route x.route) leads_to_it.leads other in
            let same = d.wallet.others k other in
            let gates = gates_left_less p i k note.known back.known d.keeps in
            let count = count_there m k added mine (λ e in_added. (of_added e in_added).1) other in
            let enough = has.asks in
            let fits = has.bytes in
            let kept = d.wallet.bytes k in
            let all = has.all in
            paid_as (omega arith) (omega arith) (omega arith)

    pub invalidated_ease : IsAtEase frame next_run back new t
    invalidated_ease = record {
      is = record {
        valid = (job).valid;
        initiator = i;
        mine = all_mine;
        is = ap (slice_get (initiators_of p)) same_number ∙ (job).is;
        decoupled = (job).decoupled;
        below = d.below;
        made = made;
        holds = holds;
        tickets = λ k under. tickets k ((job).tickets k under);
        roomy = λ k under. rooms k ((job).roomy k under);
        no_others = λ k past. d.wallet.others k (λ same. let here = memory_there in let more = more_objects (p).platform in omega arith) ∙ (job).no_others k past;
        finished = λ f. absurd (invalidation_is_not_done (op_of r.engine) r.engine.seq a reached.bytes reached.next ((job).finished (sym (finished_invalidated r next_run refl) ∙ f)));
      };
      answered = subst (λ (n : ℕ). MatchOption (last_of n all_mine) (Unit {0}) (λ e. IsTrue (asks p e) → KnowsAllGiven p (known_to p back) back.seen e.object)) own_txn points.settled;
    }

-- so an invalidation that was made leaves it at ease
pub at_ease_with : (frame : Frame Plan) (r past : Run) (note back : View Content Plan) (old new : Purse) (t : TableView) (ease : IsAtEase frame r note old t) (x : NextInvalidation) (reached : HasToInvalidate frame.world r x) (txn : TxnId) (time : ℕ)
    → txn ≡ record { initiator = r.engine.initiator; seq = r.engine.seq } → time ≡ current_time r.keeper → HasInvalidated frame x.route.memory txn time x.first x.last note back old new → ((k : ℕ) → IsRoomyFor k old → IsRoomyFor k new) → past ≡ invalidated r → IsAtEase frame past back new t
at_ease_with frame r past note back old new t ease x reached txn time txn_is time_is inv rooms run =
    let own = invalidation_adds frame x.route.memory txn time x.first x.last note back old new (memory_there frame r note old t ease x reached) inv in
    subst (λ (y : Run). IsAtEase frame y back new t) (sym run) (invalidated_ease frame r note old t ease x reached txn time back new own.told own.closings txn_is time_is own.added rooms)
