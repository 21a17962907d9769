-- An initiator after a blocking access or a debug read.
use Rattle.std.proofs.Common.{◌≡◌, ℕ, suc, ◌+◌, ◌<◌, ◌≤◌, ◌&&◌, Bool, true, false, cond, List, [], ◌∷◌, ◌++◌, length, map, min, nat_lt, not, Option, Some, None, slice_get, refl, ap, sym, subst, ◌∙◌, arith}
use Rattle.std.specs.Prelude.{IsTrue, IsSomeAnd, MatchOption, ◌==◌}
use Rattle.std.specs.Option.{option_or}
use Rattle.std.proofs.lemmas.Bool.{and_parts, cond-true, eq-eqb, ltb-false}
use Rattle.std.proofs.lemmas.Option.{MatchOption-at_some}
use Rattle.view_lists.specs.Lists.{Has, Within}
use Rattle.view_lists.proofs.Members.{has_mapped}
use Rattle.one_history.specs.declared.view.Frame.{Frame}
use Rattle.one_history.specs.declared.view.View.{View}
use Rattle.shared_object.specs.Written.{noted, placed}
use Rattle.token_book.specs.Purse.{Purse, left_of}
use Rattle.tlm_types.specs.declared.entry.Access.{Access}
use Rattle.tlm_types.specs.declared.entry.Content.{Content}
use Rattle.tlm_types.specs.declared.entry.Entry.{Entry}
use Rattle.tlm_types.specs.declared.words.Command.{Command}
use Rattle.tlm_types.specs.declared.words.Command.TheVariants.{Read, Write, Ignore, FetchAdd}
use Rattle.tlm_types.specs.declared.words.MemoryTraits.{MemoryTraits}
use Rattle.tlm_types.specs.declared.words.ObjectNo.{ObjectNo}
use Rattle.tlm_types.specs.declared.words.ObjectNo.TheVariants.{Memory}
use Rattle.tlm_types.specs.declared.words.Response.{Response}
use Rattle.tlm_types.specs.declared.words.Response.TheVariants.{Ok, Incomplete, GenericError, AddressError, CommandError, BurstError, ByteEnableError}
use Rattle.tlm_types.specs.declared.words.TxnId.{TxnId}
use Rattle.tlm_types.specs.declared.words.Way.TheVariants.{Blocking}
use Rattle.tlm_model.specs.declared.platform.MemoryRow.{MemoryRow}
use Rattle.tlm_model.specs.declared.platform.Style.{Style}
use Rattle.tlm_model.specs.declared.platform.Style.TheVariants.{Blocking as blocking_style, Direct, FourPhase as fourphase_style}
use Rattle.tlm_model.specs.Log.{log_bytes}
use Rattle.tlm_model.specs.Plan.{Plan, Initiator, initiators_of}
use Rattle.tlm_model.specs.Requests.{Asked, DebugRead, Invalidation, Request, Transport, requests_of}
use Rattle.tlm_model.specs.Route.{Route as RouteOfModel, later, route_of}
use Rattle.tlm_model.specs.Scripts.{IsGrantee}
use Rattle.tlm_model.specs.Store.{checked, is_allowed, span_of, status_by, status_of}
use Rattle.good_history.specs.Grants.{asks, dmi_of, has_dmi, is_hinting, is_ok, last_of, plain_of}
use Rattle.good_history.specs.Kept.{is_direct_way}
use Rattle.good_history.specs.Plain.{is_direct, may_go_direct}
use Rattle.good_history.specs.Joined.{KeepsOwn}
use Rattle.joined_traffic.specs.Growing.{TellsNext}
use Rattle.joined_traffic.specs.Parts.{KnowsAllGiven}
use Rattle.generic_payload.specs.Payload.{PayloadView, access_of}
use Rattle.region_object.specs.Call.{IsReadOrWrite}
use Rattle.region_object.specs.Region.{LoggedMemory, after_call, hint_of, region_entry}
use Rattle.region_object.specs.Written.{written_from}
use Rattle.route_plan.specs.declared.step.Route.{Route}
use Rattle.script_engine.specs.declared.part.Transfer.{Transfer}
use Rattle.script_engine.specs.declared.part.TransferKind.{TransferKind}
use Rattle.script_engine.specs.declared.part.TransferKind.TheVariants as transfer
use Rattle.script_engine.specs.Part.{command_in, is_fenced_kind, is_plain_kind}
use Rattle.script_engine.specs.State.{payload_of}
use Rattle.script_engine.specs.Asking.{asked_access, asked_for}
use Rattle.script_engine.proofs.Steps.{fills}
use Rattle.quantum_keeper.specs.Keeper.{current_time}
use Rattle.initiator_run.specs.Access.{IsRouteOf, bytes_back, call_at, asked_next, entry_made, model_route, next_call, payload_back, payload_room}
use Rattle.initiator_run.specs.Entry.{access_at, answered_by, way_of}
use Rattle.initiator_run.specs.Moves.{HasReached}
use Rattle.initiator_run.specs.Run.{Run, accessed}
use Rattle.initiator_run.proofs.EntryLemmas.{HasCome-turn, entry_is}
use Rattle.initiator_run.proofs.LeftLemmas.{cost_at}
use Rattle.initiator_run.proofs.NextLemmas.{seq_of_next}
use Rattle.initiator_run.proofs.RouteLemmas.{routed, unrouted, walk_memory}
use Rattle.initiator_run.proofs.SendLemmas.{bytes_come_back, entry_is_made, whole_comes_back}
use Rattle.run_outcome.proofs.ListLemmas.{is_within}
use Rattle.plat_net.specs.Calls.{IsCalled, OneTicketLess, route_at}
use Rattle.node_hops.specs.Steps.{HasNew}
use Rattle.dmi_grants.specs.declared.table.Held.{Held}
use Rattle.dmi_grants.specs.Table.{TableView, covers}
use Rattle.decoupled_run.specs.Job.{AsksNothing, HasAllOf, IsAsking, IsInitiator}
use Rattle.decoupled_run.specs.Moves.{IsEntryOfRun, IsLeft, txn_next}
use Rattle.decoupled_run.specs.Known.{known_to}
use Rattle.decoupled_run.proofs.EntryLemmas.{IsDoneFor, IsFor, done_by_way, keeps_more, next_is_asked, next_is_for, request_next, way_allowed}
use Rattle.decoupled_run.proofs.JobLemmas.{number, own_number, sent}
use Rattle.decoupled_run.proofs.KnownLemmas.{HasEntered, read_placed}
use Rattle.decoupled_run.proofs.RunEntries.{entered_new, entry_of_run, round_next}
use Rattle.decoupled_run.proofs.ScriptLemmas.{plain_has_bytes, plain_moves, plain_next}
use Rattle.decoupled_run.proofs.TellLemmas.{tells_access}

-- the last entry of a list that is an initiator's
pub last_push : (n : ℕ) (es : List Entry) (e : Entry) → e.txn.initiator ≡ n → last_of n (es ++ e ∷ []) ≡ Some e
last_push n [] e own = cond-true (e.txn.initiator == n) (Some e) None (eq-eqb e.txn.initiator n own)
last_push n (x ∷ es) e own = ap (λ (o : Option Entry). option_or o (cond (x.txn.initiator == n) (Some x) None)) (last_push n es e own)

-- the last entry of a log is among what the memory has written
has_written : (n : ℕ) (es : List Entry) (e : Entry) → (k : ℕ) × Has (written_from n (es ++ e ∷ [])) (noted k e)
has_written n [] e = (n, (0, refl))
has_written n (x ∷ es) e = let h = has_written (n + 1) es e in (h.0, (suc h.1.0, h.1.1))

-- the call of a transfer adds its entry to the log
adds_entry : (m : LoggedMemory) (position : ℕ) (kind : TransferKind) (txn : TxnId) (t before : ℕ) (p : PayloadView) → (after_call m position (call_at kind txn t before p)).log.entries ≡ m.log.entries ++ region_entry m position (call_at kind txn t before p) ∷ []
adds_entry m position (transfer.Access command plain fenced) txn t before p = refl
adds_entry m position transfer.DebugRead txn t before p = refl

way_not_direct : (a : Asked) → is_direct_way (way_of a) ≡ false
way_not_direct (Transport a) = refl
way_not_direct (DebugRead a) = refl
way_not_direct (Invalidation n) = refl

-- what is asked for by a plain access
pub plain_asked : (kind : TransferKind) (n : ℕ) (payload : PayloadView) → is_plain_kind kind ≡ true → asked_for kind n payload ≡ Transport (asked_access payload)
plain_asked (transfer.Access command plain fenced) n payload is = refl
plain_asked transfer.DebugRead n payload is = absurd (let wrong : false ≡ true = is in cc)

hint_is : (m : MemoryTraits) (s : Response) → (is_ok s && m.dmi) ≡ hint_of m s
hint_is m Ok = refl
hint_is m Incomplete = refl
hint_is m GenericError = refl
hint_is m AddressError = refl
hint_is m CommandError = refl
hint_is m BurstError = refl
hint_is m ByteEnableError = refl

-- the payload of a plain access comes back with the DMI hint where its entry says so
hint_back : (m : LoggedMemory) (route : Route) (txn : TxnId) (t before n : ℕ) (kind : TransferKind) (payload : PayloadView) → is_plain_kind kind ≡ true
    → (is_hinting (answered_by m.traits (log_bytes m.traits m.log.entries) (way_of (asked_for kind n payload)) (access_at (model_route route) (asked_for kind n payload))) && m.traits.dmi)
    ≡ (payload_back m (call_at kind txn t before (record payload { address = route.offset }))).hint
hint_back m route txn t before n (transfer.Access command plain fenced) payload is = hint_is m.traits _
hint_back m route txn t before n transfer.DebugRead payload is = absurd (let wrong : false ≡ true = is in cc)

dmi_is : (o : Option MemoryRow) (m : MemoryTraits) → IsSomeAnd o (λ (row : MemoryRow). m ≡ row.traits) → dmi_of o ≡ m.dmi
dmi_is None m is = absurd is
dmi_is (Some row) m is = ap (λ (t : MemoryTraits). t.dmi) (sym is)

pub no_and : (b : Bool) → b && false ≡ false
no_and true = refl
no_and false = refl

-- an access that is OK lies in its memory, which allows it
ok_by : (far denied : Bool) (rest : Response) → cond far AddressError (cond denied CommandError rest) ≡ Ok → (far ≡ false) × (denied ≡ false)
ok_by false false rest is = (refl, refl)
ok_by true denied rest is = absurd (let wrong : AddressError ≡ Ok = is in cc)
ok_by false true rest is = absurd (let wrong : CommandError ≡ Ok = is in cc)

is_there : (b : Bool) → not b ≡ false → b ≡ true
is_there true is = refl
is_there false is = absurd (let wrong : true ≡ false = is in cc)

record IsFine (m : MemoryTraits) (a : Access) : Type 0 where
  inside : a.offset < m.size
  allowed : is_allowed m a.command ≡ true

fine_checked : (m : MemoryTraits) (a : Access) → 0 < span_of a → checked m a ≡ Ok → IsFine m a
fine_checked m a some ok =
    let both = ok_by (nat_lt m.size (a.offset + span_of a)) (not (is_allowed m a.command)) _ ok in
    let within : a.offset + span_of a ≤ m.size = ltb-false m.size (a.offset + span_of a) both.0 in
    record { inside = omega arith; allowed = is_there (is_allowed m a.command) both.1 }

fine_by : (m : MemoryTraits) (a : Access) (c : Command) → a.command ≡ c → IsReadOrWrite c → 0 < span_of a → status_of m Blocking a ≡ Ok → IsFine m a
fine_by m a Read is moves some ok = fine_checked m a some (ap (status_by m a) (sym is) ∙ ok)
fine_by m a Write is moves some ok = fine_checked m a some (ap (status_by m a) (sym is) ∙ ok)
fine_by m a Ignore is moves some ok = absurd moves
fine_by m a FetchAdd is moves some ok = absurd moves

span_some : (n w : ℕ) → 0 < n → w ≡ n → 0 < cond (w == 0) n (min n w)
span_some n w some is = by (w == 0) refl
  where
    by : (b : Bool) → (w == 0) ≡ b → 0 < cond b n (min n w)
    by true zero_width = some
    by false wide = omega arith

hinted : (m : MemoryTraits) (s : Response) → hint_of m s ≡ true → (s ≡ Ok) × (m.dmi ≡ true)
hinted m Ok is = (refl, is)
hinted m Incomplete is = absurd (let wrong : false ≡ true = is in cc)
hinted m GenericError is = absurd (let wrong : false ≡ true = is in cc)
hinted m AddressError is = absurd (let wrong : false ≡ true = is in cc)
hinted m CommandError is = absurd (let wrong : false ≡ true = is in cc)
hinted m BurstError is = absurd (let wrong : false ≡ true = is in cc)
hinted m ByteEnableError is = absurd (let wrong : false ≡ true = is in cc)

-- and so does one that comes back with the hint
record IsHinted (m : LoggedMemory) (offset : ℕ) (command : Command) : Type 0 where
  inside : offset < m.traits.size
  dmi : m.traits.dmi ≡ true
  allowed : is_allowed m.traits command ≡ true

hinted_back : (m : LoggedMemory) (offset : ℕ) (txn : TxnId) (t before : ℕ) (kind : TransferKind) (payload : PayloadView) → is_plain_kind kind ≡ true → payload.command ≡ command_in kind → IsReadOrWrite (command_in kind) → 0 < length payload.bytes → payload.width ≡ length payload.bytes
    → (payload_back m (call_at kind txn t before (record payload { address = offset }))).hint ≡ true → IsHinted m offset (command_in kind)
hinted_back m offset txn t before (transfer.Access command plain fenced) payload is same moves some wide hint =
    let a = access_of (record payload { address = offset }) in
    let ok = hinted m.traits (status_of m.traits Blocking a) hint in
    let fine = fine_by m.traits a command same moves (span_some (length payload.bytes) payload.width some wide) ok.0 in
    record { inside = fine.inside; dmi = ok.1; allowed = ap (is_allowed m.traits) (sym same) ∙ fine.allowed }
hinted_back m offset txn t before transfer.DebugRead payload is same moves some wide hint = absurd (let wrong : false ≡ true = is in cc)

at_row : (P : MemoryTraits → Type 0) (o : Option MemoryRow) (t : MemoryTraits) → IsSomeAnd o (λ (row : MemoryRow). t ≡ row.traits) → P t → IsSomeAnd o (λ (row : MemoryRow). P row.traits)
at_row P None t is holds = absurd is
at_row P (Some row) t is holds = subst P is holds

-- the style of those that go direct
pub direct_by : (s : Style) → is_direct s ≡ true → s ≡ Direct
direct_by blocking_style is = absurd (let wrong : false ≡ true = is in cc)
direct_by Direct is = refl
direct_by fourphase_style is = absurd (let wrong : false ≡ true = is in cc)

abbrev route_with : ℕ → ℕ → RouteOfModel → Route
route_with before latency end = record { memory = end.memory; offset = end.offset; before = before; latency = latency }

-- an address has one route
one_route : (p : Plan) (i : Initiator) (a : ℕ) (first second : Route) → IsRouteOf p i a first → IsRouteOf p i a second → first ≡ second
one_route p i a first second one two =
    let place : model_route first ≡ model_route second = same_some (model_route first) (model_route second) (sym one.leads ∙ two.leads) in
    let before : first.before ≡ second.before = one.before ∙ sym two.before in
    let latency : first.latency ≡ second.latency = one.latency ∙ sym two.latency in
    ap (route_with first.before first.latency) place
    ∙ (ap (λ (n : ℕ). route_with n first.latency (model_route second)) before
    ∙ ap (λ (n : ℕ). route_with second.before n (model_route second)) latency)
  where
    same_some : (x y : RouteOfModel) → Some x ≡ Some y → x ≡ y
    same_some x y q = cc

found_at : (p : Plan) (n m a b : ℕ) (i : Initiator) (route : Route) (o : Option Route) → n ≡ m → a ≡ b → slice_get (initiators_of p) m ≡ Some i → IsRouteOf p i b route → o ≡ route_at p n a → o ≡ Some route
found_at p n m a b i route None who place mine is seen =
    let nowhere = MatchOption-at_some ⊥ (λ (x : Initiator). route_of p.platform x b ≡ None) i mine (unrouted p n m a b i who place mine seen) in
    let there = is.leads in
    cc
found_at p n m a b i route (Some found) who place mine is seen =
    let here = MatchOption-at_some ⊥ (λ (x : Initiator). IsRouteOf p x b found) i mine (routed p n m a b i found who place mine seen) in
    ap (λ (x : Route). Some x) (one_route p i b found route here is)

module _ (frame : Frame Plan) (r : Run) (x : Transfer) (route : Route) (note : View Content Plan) (old : Purse) (t : TableView) (job : IsInitiator frame r note old t) (reached : HasReached frame.world r x route) where
  abbrev p : Plan
  p = frame.world

  abbrev i : Initiator
  i = job.initiator

  -- the route of what is next
  pub route_of_next : IsRouteOf p i x.address route
  route_of_next = MatchOption-at_some ⊥ (λ (j : Initiator). IsRouteOf p j x.address route) i job.is reached.leads

  -- its memory is there
  pub memory_below : route.memory < length p.platform.memories
  memory_below = is_within p.platform.memories route.memory (walk_memory p 9 (i).row.bind x.address 0 (model_route route) route_of_next.leads)

  -- the route that is found for it
  pub route_found : (n a : ℕ) → n ≡ r.engine.initiator → a ≡ x.address → route_at p n a ≡ Some route
  route_found n a who is = found_at p n r.engine.initiator a x.address i route (route_at p n a) who is job.is route_of_next refl

  route_found_at : (a : ℕ) → a ≡ x.address → route_at p (i).number a ≡ Some route
  route_found_at a is = route_found (i).number a (number frame r note note old t job) is

  -- that of a direct initiator may go direct where it is plain
  pub may_go_next : may_go_direct i r.engine.seq ≡ (is_direct (i).row.style && is_plain_kind x.kind)
  may_go_next = ap (λ (b : Bool). is_direct (i).row.style && b) (plain_next i r.engine x job.made.stands reached.next)

  abbrev filled : PayloadView
  filled = payload_of r.engine 4096

  module _ (back : View Content Plan) (new : Purse) (payload : PayloadView) (called : IsCalled p route.memory (next_call r x route) note back payload) (ticket : OneTicketLess route.memory (cost_at 4096 r.engine.due r.engine.remaining) old new) (paid : 0 < left_of old route.memory)
      (nothing : AsksNothing p i note job.mine) (none : is_plain_kind x.kind ≡ true → (y : Held) → Has t.held y → covers x.address x.length (command_in x.kind) y ≡ false) where
    abbrev m : LoggedMemory
    m = called.memory

    abbrev e : Entry
    e = entry_made r x m route called.position

    abbrev q : Request
    q = request_next r x job.made.come.stage

    pub told : is_fenced_kind x.kind ≡ true → payload.bytes ≡ bytes_back r x m route
    told waits = ap (λ (y : PayloadView). y.bytes) called.answer ∙ bytes_come_back r x m route waits

    -- as many bytes come back as were asked for
    pub whole : is_fenced_kind x.kind ≡ true → length payload.bytes ≡ x.length
    whole waits = ap length (told waits) ∙ whole_comes_back r x m route reached.next waits

    knows : Has (known_to p back) e
    knows =
        let same : region_entry m called.position (next_call r x route) ≡ e = entry_is_made r x m route called.position reached.next in
        let added = adds_entry m called.position x.kind (record { initiator = r.engine.initiator; seq = r.engine.seq }) (current_time r.keeper) route.before (record (payload_of r.engine payload_room) { address = route.offset }) in
        let within : Within (map (placed route.memory) (written_from 0 (m.log.entries ++ e ∷ []))) back.known =
        subst (λ (y : Entry). Within (map (placed route.memory) (written_from 0 (m.log.entries ++ y ∷ []))) back.known) same
        (subst (λ (es : List Entry). Within (map (placed route.memory) (written_from 0 es)) back.known) added called.knows) in
        let h = has_written 0 m.log.entries e in
        subst (Has (known_to p back)) (ap (λ (o : ObjectNo). record { position = called.position; object = o; txn = (e).txn; time = (e).time; what = (e).what }) (ap Memory (sym called.number)))
        (read_placed p.platform back.known route.memory (noted h.0 e) memory_below (within (placed route.memory (noted h.0 e)) (has_mapped (placed route.memory) (written_from 0 (m.log.entries ++ e ∷ [])) (noted h.0 e) h.1)))

    pub entered : HasEntered frame route.memory e note back
    entered = record { there = memory_below; object = ap Memory called.number; late = called.late; seen = called.seen; keeps = called.keeps; below = called.below; knows = knows }

    pub own : (e).txn.initiator ≡ (i).number
    own = sym (number frame r note back old t job)

    seq : x.seq ≡ r.engine.seq
    seq = seq_of_next r.engine x reached.next

    txn_is : (e).txn ≡ record { initiator = (i).number; seq = (q).seq }
    txn_is =
        ap (λ (n : ℕ). record { initiator = n; seq = r.engine.seq }) own ∙ ap (λ (s : ℕ). record { initiator = (i).number; seq = s }) (sym seq)

    numbered : slice_get (initiators_of p) (i).number ≡ Some i
    numbered = own_number frame r note back old t job

    is_for : IsFor p i job.mine q e
    is_for = next_is_for p i job.mine r x route numbered job.decoupled reached.next route_of_next job.made.come e txn_is

    pub keeps : KeepsOwn p (job.mine ++ e ∷ [])
    keeps =
        let bytes = log_bytes (m).traits (m).log.entries in
        let same = entry_is p i r x m route called.position job.made.come.stage reached.next route_of_next called.number own in
        keeps_more p i job.mine q e is_for
        (subst (IsDoneFor p i job.mine q) (sym same) (done_by_way p i job.mine r x route numbered job.decoupled reached.next route_of_next job.made.come (way_of (q).asked) (m).traits bytes called.position (way_allowed (i).row.style x filled (current_time r.keeper) job.made.come.stage job.decoupled)))
        job.made.keeps

    sized : length (filled).bytes ≡ x.length
    sized = (fills.transfer r.engine 4096 x reached.next).1.sized

    commanded : (filled).command ≡ command_in x.kind
    commanded = (fills.transfer r.engine 4096 x reached.next).1.command

    abbrev the_access : Access
    the_access = access_at (model_route route) (asked_next r x)

    -- no grant that is held covers it
    uncovered : IsTrue (may_go_direct i (q).seq) → (0 < (the_access).length) × ((y : Held) → Has t.held y → covers (q).address (the_access).length (the_access).command y ≡ false)
    uncovered may =
        let plain : is_plain_kind x.kind ≡ true = (and_parts (is_direct (i).row.style) (is_plain_kind x.kind) (sym may_go_next ∙ (ap (may_go_direct i) (sym seq) ∙ may))).1 in
        let asked = plain_asked x.kind x.length filled plain in
        let length_is : (the_access).length ≡ x.length = ap (λ (a : Asked). (access_at (model_route route) a).length) asked ∙ sized in
        let command_is : (the_access).command ≡ command_in x.kind = ap (λ (a : Asked). (access_at (model_route route) a).command) asked ∙ commanded in
        let some = plain_has_bytes i r.engine x job.made.stands job.made.come.proper reached.next plain in (
          subst (λ (n : ℕ). 0 < n) (sym length_is) some,
          λ y has. ap (λ (n : ℕ). covers x.address n (the_access).command y) length_is ∙ (ap (λ (c : Command). covers x.address x.length c y) command_is ∙ none plain y has),
        )

    pub tells : (h : List Entry) → HasAllOf p note h → TellsNext p h job.mine e
    tells h all =
        tells_access frame i note job.mine t numbered job.made.own job.below job.holds e q is_for own called.late h all
        (way_of (asked_next r x)) the_access _ _ nothing refl (way_not_direct (asked_next r x)) uncovered

    -- the run, the note and the wallet after it
    abbrev pub access_sent : IsInitiator frame (accessed x route.latency payload.bytes r) back new t
    access_sent =
        sent frame r note back old t job (accessed x route.latency payload.bytes r) route.memory e entered own x route payload.bytes new refl reached route_of_next whole paid ticket refl
        (HasCome-turn p i job.mine r x m route called.position payload.bytes job.made.come reached.next route_of_next called.number told) keeps tt refl refl tells

    -- the entry is new to the note
    pub access_new : HasNew (IsEntryOfRun p r (accessed x route.latency payload.bytes r)) note.known back.known
    access_new =
        entered_new frame route.memory e note back entered job.below (IsEntryOfRun p r (accessed x route.latency payload.bytes r))
        (λ y same place. entry_of_run p r (accessed x route.latency payload.bytes r) route.memory e i y job.is memory_below refl (round_next p.platform i job.mine r x reached.next job.made.come)
        (λ h come. HasCome-turn p i h r x m route called.position payload.bytes come reached.next route_of_next called.number told) same place)

    last_is : last_of (i).number (job.mine ++ e ∷ []) ≡ Some e
    last_is = last_push (i).number job.mine e own

    -- a direct initiator asks for a grant where it is plain and has the hint
    abbrev goes : Bool
    goes = is_direct (i).row.style && is_plain_kind x.kind

    asks_is : asks p e ≡ (goes && payload.hint)
    asks_is = by goes refl
      where
        plain_is : plain_of (slice_get (initiators_of p) (e).txn.initiator) (e).txn.seq ≡ goes
        plain_is = ap (λ (o : Option Initiator). plain_of o r.engine.seq) job.is ∙ may_go_next

        by : (b : Bool) → goes ≡ b → asks p e ≡ (goes && payload.hint)
        by false unplain =
            ap (λ (b : Bool). b && (is_hinting (e).what && has_dmi p.platform (e).object)) (plain_is ∙ unplain) ∙ ap (λ (b : Bool). b && payload.hint) (sym unplain)
        by true going =
            let plain : is_plain_kind x.kind ≡ true = (and_parts (is_direct (i).row.style) (is_plain_kind x.kind) going).1 in
            let hint : (is_hinting (e).what && (m).traits.dmi) ≡ payload.hint = hint_back m route (record { initiator = r.engine.initiator; seq = r.engine.seq }) (current_time r.keeper) route.before x.length x.kind filled plain ∙ ap (λ (y : PayloadView). y.hint) (sym called.answer) in
            let dmi : has_dmi p.platform (e).object ≡ (m).traits.dmi = ap (λ (k : ℕ). dmi_of (slice_get p.platform.memories k)) called.number ∙ dmi_is (slice_get p.platform.memories route.memory) (m).traits called.row in
            ap (λ (b : Bool). b && (is_hinting (e).what && has_dmi p.platform (e).object)) plain_is
            ∙ ap (λ (b : Bool). goes && b) (ap (λ (b : Bool). is_hinting (e).what && b) dmi ∙ hint)

    pub nothing_asked : (goes && payload.hint) ≡ false → AsksNothing p i back (job.mine ++ e ∷ [])
    nothing_asked silent =
        subst (λ (o : Option Entry). MatchOption o (Unit {0}) (λ a. IsTrue (asks p a) → KnowsAllGiven p (known_to p back) back.seen a.object)) (sym last_is)
        (λ ask. absurd (let wrong : false ≡ true = sym silent ∙ (sym asks_is ∙ ask) in cc (wrong)))

    pub is_asking : (command : Command) (address : ℕ) (txn : TxnId) (time : ℕ) → command ≡ command_in x.kind → address ≡ x.address → txn ≡ record { initiator = r.engine.initiator; seq = r.engine.seq } → time ≡ later (current_time r.keeper) route.latency
        → (goes && payload.hint) ≡ true → IsAsking p i (job.mine ++ e ∷ []) command address route txn time
    is_asking command address txn time command_is address_is txn_at time_is asks_for =
        let hinting = and_parts goes payload.hint asks_for in
        let going = and_parts (is_direct (i).row.style) (is_plain_kind x.kind) hinting.0 in
        let both : (is_plain_kind x.kind ≡ true) × (payload.hint ≡ true) = (going.1, hinting.1) in
        let asked = plain_asked x.kind x.length filled both.0 in
        let some = plain_has_bytes i r.engine x job.made.stands job.made.come.proper reached.next both.0 in
        let plain = fills.plain r.engine 4096 x reached.next both.0 in
        let fine = hinted_back m route.offset (record { initiator = r.engine.initiator; seq = r.engine.seq }) (current_time r.keeper) route.before x.kind filled both.0 commanded (plain_moves r.engine x reached.next both.0) (subst (λ (n : ℕ). 0 < n) (sym sized) some) plain.width
        (ap (λ (y : PayloadView). y.hint) (sym called.answer) ∙ both.1) in
        record {
          entry = e;
          direct = direct_by (i).row.style going.0;
          last = last_is;
          asks_it = asks_is ∙ asks_for;
          of = sym txn_at;
          own = ap (λ (y : TxnId). y.initiator) txn_at ∙ own;
          object = ap Memory called.number;
          request = q;
          asked = ap (λ (y : TxnId). slice_get (requests_of p.platform i (job.mine ++ e ∷ [])) y.seq) txn_at ∙ next_is_asked p.platform i job.mine (e ∷ []) r x reached.next job.made.come;
          grantee = subst (IsGrantee Direct) (sym asked) tt;
          at = time_is ∙ ap (later (current_time r.keeper)) route_of_next.latency;
          leads = route_found_at address address_is;
          inside = at_row (λ (t : MemoryTraits). route.offset < t.size) (slice_get p.platform.memories route.memory) (m).traits called.row fine.inside;
          allowed = at_row (λ (t : MemoryTraits). (t.dmi ≡ true) × (is_allowed t command ≡ true)) (slice_get p.platform.memories route.memory) (m).traits called.row (fine.dmi, ap (is_allowed (m).traits) command_is ∙ fine.allowed);
        }

    -- after it the initiator waits for no grant, or is to ask for one
    pub left_by : (wants : Bool) → (goes && payload.hint) ≡ wants → IsLeft wants frame x route (txn_next r) (later (current_time r.keeper) route.latency) (accessed x route.latency payload.bytes r) back new t
    left_by false silent = record { is = access_sent; answered = nothing_asked silent }
    left_by true asks_for = (
      record { is = access_sent; asking = is_asking (command_in x.kind) x.address (txn_next r) (later (current_time r.keeper) route.latency) refl refl refl refl asks_for },
      plain_moves r.engine x reached.next (and_parts (is_direct (i).row.style) (is_plain_kind x.kind) (and_parts goes payload.hint asks_for).0).1,
    )
