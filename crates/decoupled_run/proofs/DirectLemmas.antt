-- An initiator after a direct access.
use Rattle.std.proofs.Common.{◌≡◌, ℕ, ◌+◌, ◌-◌, ◌*◌, ◌<◌, ◌≤◌, ◌&&◌, true, false, List, [], ◌∷◌, ◌++◌, length, Option, Some, slice_get, refl, ap, sym, subst, ◌∙◌, ⊎_elim, arith}
use Rattle.std.specs.Prelude.{IsTrue, IsSomeAnd, MatchOption}
use Rattle.view_lists.specs.Lists.{Has, Within}
use Rattle.one_history.specs.declared.entry.Entry.{Entry as HistoryEntry}
use Rattle.one_history.specs.declared.view.Frame.{Frame}
use Rattle.one_history.specs.declared.view.View.{View}
use Rattle.token_book.specs.Purse.{Purse, bytes_of, left_of}
use Rattle.std.proofs.lemmas.Bool.{cases_Bool}
use Rattle.view_lists.proofs.Members.{has_none}
use Rattle.tlm_types.specs.declared.entry.Access.{Access}
use Rattle.tlm_types.specs.declared.entry.Content.{Content}
use Rattle.tlm_types.specs.declared.entry.Entry.{Entry}
use Rattle.tlm_types.specs.declared.entry.What.TheVariants.{Access as Accessed}
use Rattle.tlm_types.specs.declared.words.Command.{Command}
use Rattle.tlm_types.specs.declared.words.Command.TheVariants.{Read, Write, Ignore, FetchAdd}
use Rattle.tlm_types.specs.declared.words.ObjectNo.TheVariants.{Memory}
use Rattle.tlm_types.specs.declared.words.Response.{Response}
use Rattle.tlm_types.specs.declared.words.Response.TheVariants.{Ok}
use Rattle.tlm_types.specs.declared.words.TxnId.{TxnId}
use Rattle.tlm_types.specs.declared.words.Way.TheVariants.{Direct as by_grant}
use Rattle.tlm_model.specs.declared.platform.Style.{Style}
use Rattle.tlm_model.specs.declared.platform.Style.TheVariants.{Direct}
use Rattle.tlm_model.specs.Log.{log_bytes}
use Rattle.tlm_model.specs.Plan.{Plan, Initiator, initiators_of}
use Rattle.tlm_model.specs.Requests.{Asked, Request}
use Rattle.tlm_model.specs.Scripts.{IsWay}
use Rattle.tlm_model.specs.Store.{got_by, got_of, status_of, zeros}
use Rattle.good_history.specs.Grants.{asks, plain_of}
use Rattle.good_history.specs.Plain.{is_direct, may_go_direct}
use Rattle.good_history.specs.Joined.{KeepsOwn}
use Rattle.joined_traffic.specs.Growing.{TellsNext}
use Rattle.joined_traffic.specs.Parts.{KnowsAllGiven}
use Rattle.generic_payload.specs.Payload.{PayloadView, access_of}
use Rattle.region_object.specs.declared.call.RegionCall.TheVariants.{Direct as DirectCall}
use Rattle.region_object.specs.declared.call.RegionReply.{RegionReply}
use Rattle.region_object.specs.declared.call.RegionReply.TheVariants.{Direct as DirectReply}
use Rattle.region_object.specs.Call.{IsReadOrWrite, payload_cost}
use Rattle.region_object.specs.Region.{LoggedMemory, accessed as accessed_at, answered, buffer_after}
use Rattle.route_plan.specs.declared.step.Route.{Route}
use Rattle.script_engine.specs.declared.part.Transfer.{Transfer}
use Rattle.script_engine.specs.Part.{command_in, is_fenced_kind, is_plain_kind}
use Rattle.script_engine.specs.State.{payload_of}
use Rattle.script_engine.proofs.Payloads.{reads_into_zeros}
use Rattle.script_engine.proofs.Steps.{fills}
use Rattle.quantum_keeper.specs.Keeper.{current_time}
use Rattle.initiator_run.specs.Access.{model_route}
use Rattle.initiator_run.specs.Entry.{access_at}
use Rattle.initiator_run.specs.Left.{bytes_at}
use Rattle.initiator_run.specs.Moves.{HasReached}
use Rattle.initiator_run.specs.Run.{Run, accessed}
use Rattle.initiator_run.proofs.LeftLemmas.{bytes_after, cost_at, leads_there, left_after}
use Rattle.initiator_run.proofs.NextLemmas.{seq_of_next}
use Rattle.initiator_run.proofs.ReplyLemmas.{length-got}
use Rattle.plat_net.specs.Calls.{CanPay, OneTicketLess, route_at}
use Rattle.node_hops.specs.Steps.{HasNew}
use Rattle.dmi_grants.specs.declared.table.Held.{Held}
use Rattle.dmi_grants.specs.Table.{TableView, covers}
use Rattle.dmi_grants.specs.Using.{HasGoneDirect, MayUse, at_offset}
use Rattle.dmi_grants.proofs.Uses.{covered}
use Rattle.decoupled_run.specs.Job.{AsksNothing, HasAllOf, IsAtEase, IsInitiator}
use Rattle.decoupled_run.specs.Known.{known_to}
use Rattle.decoupled_run.specs.Moves.{IsEntryOfRun}
use Rattle.decoupled_run.proofs.AccessLemmas.{direct_by, last_push, may_go_next, memory_below, no_and, plain_asked, route_found, route_of_next}
use Rattle.decoupled_run.proofs.EntryLemmas.{Answers, IsDoneFor, IsFor, come_answered, done_by_way, entry_by_way, keeps_more, next_is_for, request_next}
use Rattle.decoupled_run.proofs.JobLemmas.{number, own_number, sent}
use Rattle.decoupled_run.proofs.KnownLemmas.{HasEntered, entry_by, made_enters}
use Rattle.decoupled_run.proofs.RunEntries.{entered_new, entry_of_run, round_next}
use Rattle.decoupled_run.proofs.ScriptLemmas.{plain_has_bytes, plain_moves}
use Rattle.decoupled_run.proofs.TellLemmas.{tells_direct}

direct_reply : (x y : PayloadView) → ◌≡◌ {A = RegionReply} (DirectReply x) (DirectReply y) → x ≡ y
direct_reply x y same = cc

-- as many bytes as were sent come back
whole_back : (c : Command) (status : Response) (a : Access) (store bytes : List ℕ) → IsReadOrWrite c → length a.sent ≡ length bytes → length (buffer_after c (got_by c status a store) bytes) ≡ length bytes
whole_back Read status a store bytes moves same = length-got status Read a store refl ∙ same
whole_back Write status a store bytes moves same = refl
whole_back Ignore status a store bytes moves same = absurd moves
whole_back FetchAdd status a store bytes moves same = absurd moves

at_some : {A : Type 0} (P : A → Type 0) (o : Option A) (x : A) → o ≡ Some x → IsSomeAnd o P → P x
at_some {A} P o x is holds = subst (λ (y : Option A). IsSomeAnd y P) is holds

module _ (frame : Frame Plan) (r : Run) (x : Transfer) (route : Route) (note : View Content Plan) (old : Purse) (t : TableView) (job : IsInitiator frame r note old t) (reached : HasReached frame.world r x route) where
  abbrev p : Plan
  p = frame.world

  abbrev i : Initiator
  i = job.initiator

  abbrev filled : PayloadView
  filled = payload_of r.engine 4096

  -- its ticket is in the wallet
  pub can_pay_next : CanPay filled old route
  can_pay_next =
      let a = x.address in
      let there = memory_below frame r x route note old t job reached in
      let leads_to = route_of_next frame r x route note old t job reached in
      let has = job.tickets route.memory there in
      let one = leads_there p i a (model_route route) leads_to.leads in
      let cost_is : bytes_at p i route.memory a (cost_at 4096 r.engine.due r.engine.remaining) ≡ cost_at 4096 r.engine.due r.engine.remaining * 1 = ap (λ (k : ℕ). cost_at 4096 r.engine.due r.engine.remaining * k) one in
      let enough = has.asks in
      let fits = has.bytes in
      let asked = left_after p i route.memory r.engine [] x reached.next in
      let bytes = bytes_after p i route.memory 4096 r.engine (filled).bytes x reached.next (λ waits. (fills.transfer r.engine 4096 x reached.next).1.sized) in
      record { left = omega arith; bytes = omega arith }

  -- by a grant that covers it
  module _ (h : Held) (has : Has t.held h) (payload : PayloadView) (payload_is : payload ≡ filled) (plain : is_plain_kind x.kind ≡ true) (covered_by : IsTrue (covers payload.address (length payload.bytes) payload.command h)) where
    -- only a direct initiator holds grants
    is_direct_one : (i).row.style ≡ Direct
    is_direct_one = direct_by (i).row.style (⊎_elim
        (λ (goes : is_direct (i).row.style ≡ true). goes)
        (λ (undirect : is_direct (i).row.style ≡ false). absurd (has_none h (subst (λ (l : List Held). Has l h) (job.holds.none undirect) has)))
        (cases_Bool (is_direct (i).row.style)))

    address_is : payload.address ≡ x.address
    address_is = ap (λ (y : PayloadView). y.address) payload_is ∙ (fills.transfer r.engine 4096 x reached.next).1.address

    sized : length payload.bytes ≡ x.length
    sized = ap (λ (y : PayloadView). length y.bytes) payload_is ∙ (fills.transfer r.engine 4096 x reached.next).1.sized

    commanded : payload.command ≡ command_in x.kind
    commanded = ap (λ (y : PayloadView). y.command) payload_is ∙ (fills.transfer r.engine 4096 x reached.next).1.command

    some : 0 < length payload.bytes
    some = subst (λ (n : ℕ). 0 < n) (sym sized) (plain_has_bytes i r.engine x job.made.stands job.made.come.proper reached.next plain)

    moves : IsReadOrWrite (command_in x.kind)
    moves = plain_moves r.engine x reached.next plain

    -- its addresses lead where the route leads
    ends : (route.memory ≡ h.memory) × (route.offset ≡ h.base + (payload.address - h.low))
    ends =
        let c = covered h payload.address (length payload.bytes) payload.command covered_by in
        let low = c.low in
        let high = c.high in
        let bytes = some in
        at_some (λ (y : Route). (y.memory ≡ h.memory) × (y.offset ≡ h.base + (payload.address - h.low))) (route_at p (i).number payload.address) route
        (route_found frame r x route note old t job reached (i).number payload.address (number frame r note note old t job) address_is)
        ((job.holds.held h has).addresses.led payload.address low (omega arith))

    pub may_use : MayUse frame payload note old h
    may_use =
        let held = job.holds.held h has in
        let pays = can_pay_next in
        let straight = fills.plain r.engine 4096 x reached.next plain in
        let bytes = some in
        let width : payload.width ≡ length payload.bytes = ap (λ (y : PayloadView). y.width) payload_is ∙ (straight.width ∙ ap (λ (y : PayloadView). length y.bytes) (sym payload_is)) in
        record {
          memory = held.memory;
          usable = held.usable;
          some_bytes = some;
          covered = covered_by;
          unmasked = ap (λ (y : PayloadView). y.enables) payload_is ∙ straight.enables;
          unstreamed = (omega arith, omega arith);
          blank = subst (λ (y : PayloadView). y.command ≡ Read → y.bytes ≡ zeros (length y.bytes)) (sym payload_is) (reads_into_zeros 4096 r.engine);
          left = subst (λ (m : ℕ). 0 < left_of old m) ends.0 pays.left;
          bytes = subst (λ (m : ℕ). payload_cost payload ≤ bytes_of old m) ends.0 (subst (λ (y : PayloadView). payload_cost y ≤ bytes_of old route.memory) (sym payload_is) pays.bytes);
        }

    -- what it has made
    module _ (back : PayloadView) (txn : TxnId) (time : ℕ) (known : View Content Plan) (new : Purse) (gone : HasGoneDirect frame h payload txn time note old new back known) (txn_is : txn ≡ record { initiator = r.engine.initiator; seq = r.engine.seq }) (time_is : time ≡ current_time r.keeper) (nothing : AsksNothing p i note job.mine) where
      abbrev m : LoggedMemory
      m = gone.made.memory

      abbrev e : Entry
      e = entry_by frame h.memory (DirectCall h.gate txn time (at_offset h payload)) gone.entered known gone.position (DirectReply back) gone.made

      abbrev q : Request
      q = request_next r x job.made.come.stage

      abbrev a : Access
      a = access_of (at_offset h payload)

      seq : x.seq ≡ r.engine.seq
      seq = seq_of_next r.engine x reached.next

      numbered : slice_get (initiators_of p) (i).number ≡ Some i
      numbered = own_number frame r note known old t job

      own_txn : txn ≡ record { initiator = (i).number; seq = r.engine.seq }
      own_txn = txn_is ∙ ap (λ (n : ℕ). record { initiator = n; seq = r.engine.seq }) (sym (number frame r note known old t job))

      its_txn : txn ≡ record { initiator = (i).number; seq = (q).seq }
      its_txn = own_txn ∙ ap (λ (s : ℕ). record { initiator = (i).number; seq = s }) (sym seq)

      entered : HasEntered frame h.memory e note known
      entered =
          let there = (job.holds.held h has).memory in
          let is = made_enters frame h.memory (DirectCall h.gate txn time (at_offset h payload)) gone.entered known gone.position (DirectReply back) gone.made there in
          let late = is.late in
          let saw = gone.saw in
          record {
            there = there;
            object = refl;
            late = omega arith;
            seen = is.seen;
            keeps = subst (λ (l : List (HistoryEntry Content)). Within l known.known) gone.same is.keeps;
            below = is.below;
            knows = is.knows;
          }

      -- the access is that of the request
      access_is : a ≡ access_at (model_route route) (q).asked
      access_is =
          ap (λ (n : ℕ). access_of (record payload { address = n })) (sym ends.1)
          ∙ (ap (λ (y : PayloadView). access_of (record y { address = route.offset })) payload_is
          ∙ ap (access_at (model_route route)) (sym (plain_asked x.kind x.length filled plain)))

      abbrev entry_of : ℕ → TxnId → ℕ → Access → Entry
      entry_of memory id time access = record { position = gone.position; object = Memory memory; txn = id; time = time; what = answered (m).traits (m).log.entries (by_grant h.gate) access }

      same : e ≡ entry_by_way p.platform i q (by_grant h.gate) (model_route route) (m).traits (log_bytes (m).traits (m).log.entries) gone.position
      same =
          ap (λ (k : ℕ). entry_of k txn time a) (sym ends.0)
          ∙ (ap (λ (id : TxnId). entry_of route.memory id time a) its_txn
          ∙ (ap (λ (n : ℕ). entry_of route.memory (record { initiator = (i).number; seq = (q).seq }) n a) time_is
          ∙ ap (entry_of route.memory (record { initiator = (i).number; seq = (q).seq }) (current_time r.keeper)) access_is))

      is_for : IsFor p i job.mine q e
      is_for = next_is_for p i job.mine r x route numbered job.decoupled reached.next (route_of_next frame r x route note old t job reached) job.made.come e its_txn

      keeps : KeepsOwn p (job.mine ++ e ∷ [])
      keeps =
          let by : IsWay (i).row.style (q).asked (by_grant h.gate) = subst (λ (s : Style). IsWay s (q).asked (by_grant h.gate)) (sym is_direct_one) (subst (λ (y : Asked). IsWay Direct y (by_grant h.gate)) (sym (plain_asked x.kind x.length filled plain)) tt) in
          keeps_more p i job.mine q e is_for
          (subst (IsDoneFor p i job.mine q) (sym same) (done_by_way p i job.mine r x route numbered job.decoupled reached.next (route_of_next frame r x route note old t job reached) job.made.come (by_grant h.gate) (m).traits (log_bytes (m).traits (m).log.entries) gone.position by))
          job.made.keeps

      back_is : back ≡ accessed_at m (by_grant h.gate) (at_offset h payload)
      back_is = direct_reply back (accessed_at m (by_grant h.gate) (at_offset h payload)) gone.made.answer

      pub direct_room : back.room ≡ payload.room
      direct_room = ap (λ (y : PayloadView). y.room) back_is

      abbrev got : List ℕ
      got = got_of (by_grant h.gate) (status_of (m).traits (by_grant h.gate) a) a (log_bytes (m).traits (m).log.entries)

      -- as many bytes come back as were asked for
      pub direct_whole : is_fenced_kind x.kind ≡ true → length back.bytes ≡ x.length
      direct_whole waits =
          ap (λ (y : PayloadView). length y.bytes) back_is
          ∙ (whole_back payload.command (status_of (m).traits (by_grant h.gate) a) a (log_bytes (m).traits (m).log.entries) payload.bytes (subst IsReadOrWrite (sym commanded) moves) refl ∙ sized)

      answers : Answers i r x e back.bytes
      answers = record {
        txn = own_txn;
        answer = refl;
        reads = λ reads. ap (λ (l : List ℕ). Some l) (sym (ap (λ (y : PayloadView). y.bytes) back_is ∙ ap (λ (c : Command). buffer_after c got payload.bytes) (commanded ∙ reads)));
        whole = direct_whole;
      }

      -- the entry is new to the note
      pub gone_new : HasNew (IsEntryOfRun p r (accessed x route.latency back.bytes r)) note.known known.known
      gone_new =
          let leads = route_of_next frame r x route note old t job reached in
          entered_new frame h.memory e note known entered job.below (IsEntryOfRun p r (accessed x route.latency back.bytes r))
          (λ y same place. entry_of_run p r (accessed x route.latency back.bytes r) h.memory e i y job.is (job.holds.held h has).memory txn_is (round_next p.platform i job.mine r x reached.next job.made.come)
          (λ l come. come_answered p i l r x route e back.bytes reached.next leads answers come) same place)

      ok : status_of (m).traits (by_grant h.gate) a ≡ Ok
      ok = sym (ap (λ (y : PayloadView). y.status) back_is) ∙ gone.ok

      tells : (l : List Entry) → HasAllOf p note l → TellsNext p l job.mine e
      tells l all =
          let late = (entered).late in
          tells_direct frame i note job.mine t numbered job.made.own job.below job.holds e q is_for (ap (λ (y : TxnId). y.initiator) own_txn) late l all
          h a got nothing has
          (ap (λ (s : Response). Accessed (by_grant h.gate) a s got) ok)
          (ap (may_go_direct i) seq ∙ (may_go_next frame r x route note old t job reached ∙ (ap (λ (s : Style). is_direct s && is_plain_kind x.kind) is_direct_one ∙ plain))) some
          (ap (λ (n : ℕ). covers n (length payload.bytes) payload.command h) (sym address_is) ∙ covered_by)

      -- the run, the note and the wallet after it
      abbrev gone_on : IsInitiator frame (accessed x route.latency back.bytes r) known new t
      gone_on =
          sent frame r note known old t job (accessed x route.latency back.bytes r) h.memory e entered (ap (λ (y : TxnId). y.initiator) own_txn) x route back.bytes new (sym ends.0) reached (route_of_next frame r x route note old t job reached) direct_whole
          can_pay_next.left
          (subst (λ (k : ℕ). OneTicketLess k (cost_at 4096 r.engine.due r.engine.remaining) old new) (sym ends.0) (subst (λ (y : PayloadView). OneTicketLess h.memory (payload_cost y) old new) payload_is gone.ticket))
          refl (come_answered p i job.mine r x route e back.bytes reached.next (route_of_next frame r x route note old t job reached) answers job.made.come) keeps tt refl refl tells

      gone_asks_nothing : AsksNothing p i known (job.mine ++ e ∷ [])
      gone_asks_nothing =
          subst (λ (o : Option Entry). MatchOption o (Unit {0}) (λ a. IsTrue (asks p a) → KnowsAllGiven p (known_to p known) known.seen a.object)) (sym (last_push (i).number job.mine e (ap (λ (y : TxnId). y.initiator) own_txn)))
          (λ ask. absurd (let wrong : false ≡ true = sym (no_and (plain_of (slice_get (initiators_of p) (e).txn.initiator) (e).txn.seq)) ∙ ask in cc (wrong)))

      pub gone_ease : IsAtEase frame (accessed x route.latency back.bytes r) known new t
      gone_ease = record { is = gone_on; answered = gone_asks_nothing }
