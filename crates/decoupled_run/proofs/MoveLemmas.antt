-- The moves of an initiator.
use Rattle.std.proofs.Common.{◌≡◌, ℕ, ◌<◌, ◌&&◌, Bool, true, false, List, length, Option, Some, None, slice_get, refl, ap, sym, subst, ◌∙◌}
use Rattle.std.specs.Prelude.{IsTrue, IsSomeAnd, position}
use Rattle.std.specs.Option.{ForSome}
use Rattle.atomic_table.specs.Seated.{TableId}
use Rattle.view_lists.specs.Lists.{Has, Within}
use Rattle.one_history.specs.declared.entry.Entry.{Entry as HistoryEntry}
use Rattle.one_history.specs.declared.view.Frame.{Frame}
use Rattle.one_history.specs.declared.view.View.{View}
use Rattle.one_history.specs.Held.{Held as Noted}
use Rattle.shared_object.specs.Steps.{IsNote}
use Rattle.token_book.specs.Purse.{Purse, IsOf}
use Rattle.tlm_types.specs.declared.entry.Content.{Content}
use Rattle.tlm_types.specs.declared.words.Command.{Command}
use Rattle.tlm_types.specs.declared.words.TxnId.{TxnId}
use Rattle.tlm_model.specs.declared.platform.Style.{Style}
use Rattle.tlm_model.specs.Plan.{Plan, Initiator, initiators_of}
use Rattle.tlm_model.specs.Route.{later}
use Rattle.flow_model.specs.Platform.{addresses_of, passage_by, passage_to}
use Rattle.tlm_model.proofs.InitiatorLemmas.{initiator_from}
use Rattle.good_history.specs.Plain.{is_direct}
use Rattle.generic_payload.specs.Payload.{PayloadView}
use Rattle.region_object.specs.Call.{IsFit, payload_cost}
use Rattle.region_object.specs.declared.call.RegionCall.{RegionCall}
use Rattle.route_plan.specs.declared.step.Route.{Route}
use Rattle.script_engine.specs.declared.part.Part.TheVariants.{Asks}
use Rattle.script_engine.specs.declared.part.Transfer.{Transfer}
use Rattle.script_engine.specs.declared.part.TransferKind.{TransferKind}
use Rattle.script_engine.specs.declared.part.TransferKind.TheVariants as transfer
use Rattle.script_engine.specs.Part.{command_in, is_plain_kind}
use Rattle.script_engine.specs.State.{State, next_of, payload_of}
use Rattle.script_engine.proofs.Payloads.{room_of_payload}
use Rattle.script_engine.proofs.Steps.{fills}
use Rattle.quantum_keeper.specs.Keeper.{current_time}
use Rattle.initiator_run.specs.Access.{call_at, next_call}
use Rattle.initiator_run.specs.Moves.{HasReached}
use Rattle.initiator_run.specs.Run.{Run, accessed}
use Rattle.initiator_run.proofs.RunLemmas.{accessed_initiator}
use Rattle.initiator_run.proofs.SendLemmas.{payload_fits}
use Rattle.run_outcome.proofs.PlanLemmas.{initiator_within}
use Rattle.plat_net.specs.Calls.{CanPay, HasNoPassage, IsCalled, OneTicketLess, route_at}
use Rattle.dmi_grants.specs.declared.access.UseOf.{UseOf}
use Rattle.dmi_grants.specs.declared.access.UseOf.TheVariants.{Used, Stale}
use Rattle.dmi_grants.specs.declared.ask.Asked.{Asked}
use Rattle.dmi_grants.specs.declared.ask.Asked.TheVariants.{Held as HeldAt, Denied}
use Rattle.dmi_grants.specs.declared.table.Held.{Held}
use Rattle.dmi_grants.specs.Asking.{HasAsked, MayAsk}
use Rattle.dmi_grants.specs.Made.{IsRoomyFor}
use Rattle.dmi_grants.specs.Table.{TableView, covers}
use Rattle.dmi_grants.specs.Using.{HasUsed, IsFoundStale, MayUse, note_of}
use Rattle.dmi_grants.proofs.Revoking.{new_before}
use Rattle.decoupled_run.specs.Job.{IsAtEase, IsInitiator, IsJob, IsToAsk, goes_direct, is_direct_row}
use Rattle.decoupled_run.specs.Moves.{ComesOf, HasMadeNext, IsEntryOfRun, IsLeft, IsToMake, txn_next}
use Rattle.decoupled_run.specs.Sent.{IsSentBy}
use Rattle.decoupled_run.proofs.AccessLemmas.{access_new, left_by, route_found, whole}
use Rattle.decoupled_run.proofs.AskLemmas.{denied_ease, dropped_ease, granted_ease, has_at, may_ask}
use Rattle.decoupled_run.proofs.DirectLemmas.{can_pay_next, direct_room, direct_whole, gone_ease, gone_new, may_use}
use Rattle.decoupled_run.proofs.EntryLemmas.{decoupled_style}
use Rattle.decoupled_run.proofs.Finding.{none_passes}
use Rattle.decoupled_run.proofs.JobLemmas.{number}

sent_by : (kind : TransferKind) (txn : TxnId) (t before offset : ℕ) (payload : PayloadView) → IsFit (call_at kind txn t before (record payload { address = offset })) → IsSentBy kind payload
sent_by (transfer.Access command plain fenced) txn t before offset payload fit = fit.1
sent_by transfer.DebugRead txn t before offset payload fit = fit

-- the payload of a transfer that is next carries it
payload_carries : (e : State) (x : Transfer) → next_of e ≡ Asks x → IsSentBy x.kind (payload_of e 4096)
payload_carries e x is = sent_by x.kind (record { initiator = 0; seq = 0 }) 0 0 0 (payload_of e 4096) (payload_fits e x 4096 (record { initiator = 0; seq = 0 }) 0 0 0 is)

-- its transactions pass no hop
pub none_pass : (frame : Frame Plan) (r : Run) (note : View Content Plan) (w : Purse) (t : TableView) → IsInitiator frame r note w t → (x : TxnId) → x.initiator ≡ r.engine.initiator → HasNoPassage frame.world x
none_pass frame r note w t job x own =
    ap (λ (i : Option Initiator). passage_by frame.world.platform i x.seq) (ap (slice_get (initiators_of frame.world)) own ∙ job.is)
    ∙ decoupled_style (λ (style : Style). passage_to frame.world.platform job.initiator style (slice_get (addresses_of job.initiator.script) x.seq) ≡ None) job.initiator.row.style job.decoupled refl refl

-- whether it is a direct one is told by its row
pub style_of_job : (frame : Frame Plan) (r : Run) (v : View Content Plan) (w : Purse) (t : TableView) → (job : IsInitiator frame r v w t) → goes_direct frame.world r.engine.initiator ≡ is_direct job.initiator.row.style
style_of_job frame r v w t job = ap is_direct_row (initiator_from 0 frame.world.platform.initiators frame.world.scripts r.engine.initiator job.initiator job.is).1

module _ (table tokens : TableId) (frame : Frame Plan) (r : Run) (x : Transfer) (route : Route) (payload : PayloadView) (note : Noted Content Plan) (w : Purse) (t : TableView) (ready : IsToMake table tokens frame r x route payload note w t) where
  abbrev p : Plan
  p = frame.world

  abbrev job : IsInitiator frame r note.knows w t
  job = ready.is.is

  pub who_below : (n : ℕ) → n ≡ r.engine.initiator → n < length p.platform.initiators
  who_below n is = subst (λ (k : ℕ). k < length p.platform.initiators) (sym is) (initiator_within p r.engine.initiator (job).initiator (job).is)

  pub route_is : (n : ℕ) → n ≡ r.engine.initiator → route_at p n payload.address ≡ Some route
  route_is n is = route_found frame r x route note.knows w t job ready.reached n payload.address is (ap (λ (y : PayloadView). y.address) ready.filled ∙ (fills.transfer r.engine 4096 x ready.reached.next).1.address)

  pub carries : IsSentBy x.kind payload
  carries = subst (IsSentBy x.kind) (sym ready.filled) (payload_carries r.engine x ready.reached.next)

  pub passes_none : (id : TxnId) → id ≡ txn_next r → HasNoPassage p id
  passes_none id is = none_pass frame r note.knows w t job id (ap (λ (y : TxnId). y.initiator) is)

  pub can_pay : CanPay payload w route
  can_pay = subst (λ (y : PayloadView). CanPay y w route) (sym ready.filled) (can_pay_next frame r x route note.knows w t job ready.reached)

  -- one that isn't direct holds no grant
  pub none_of_others : (d : Bool) → d ≡ goes_direct p r.engine.initiator → d ≡ false → position (covers x.address x.length (command_in x.kind)) t.held ≡ None
  none_of_others d styled other =
      subst (λ (l : List Held). position (covers x.address x.length (command_in x.kind)) l ≡ None) (sym ((job).holds.none (sym (style_of_job frame r note.knows w t job) ∙ (sym styled ∙ other)))) refl

  -- what transport has made of it
  pub made_by_transport : (d : Bool) (id : TxnId) (at : ℕ) (back : PayloadView) (noted : Noted Content Plan) (new : Purse) (wants : Bool) → d ≡ goes_direct p r.engine.initiator → (is_plain_kind x.kind ≡ true → position (covers x.address x.length (command_in x.kind)) t.held ≡ None) → id ≡ txn_next r → at ≡ current_time r.keeper
      → IsCalled p route.memory (call_at x.kind id at route.before (record payload { address = route.offset })) note.knows noted.knows back → OneTicketLess route.memory (payload_cost payload) w new → IsNote table noted → IsOf tokens new → back.room ≡ payload.room → wants ≡ ((d && is_plain_kind x.kind) && back.hint)
      → HasMadeNext table tokens frame note.knows.known r x route wants back noted new t
  made_by_transport d id at back noted new wants styled none id_is at_is entry ticket note_of wallet_of room wants_is =
      let same : call_at x.kind id at route.before (record payload { address = route.offset }) ≡ next_call r x route =
      ap (λ (y : TxnId). call_at x.kind y at route.before (record payload { address = route.offset })) id_is
      ∙ (ap (λ (u : ℕ). call_at x.kind (txn_next r) u route.before (record payload { address = route.offset })) at_is
      ∙ ap (λ (y : PayloadView). call_at x.kind (txn_next r) (current_time r.keeper) route.before (record y { address = route.offset })) ready.filled) in
      let called : IsCalled p route.memory (next_call r x route) note.knows noted.knows back = subst (λ (call : RegionCall). IsCalled p route.memory call note.knows noted.knows back) same entry in
      let paid : OneTicketLess route.memory (payload_cost (payload_of r.engine 4096)) w new = subst (λ (y : PayloadView). OneTicketLess route.memory (payload_cost y) w new) ready.filled ticket in
      let uncovered : is_plain_kind x.kind ≡ true → (y : Held) → Has t.held y → covers x.address x.length (command_in x.kind) y ≡ false = λ plain y has. none_passes (covers x.address x.length (command_in x.kind)) t.held (none plain) y has in
      let left = (can_pay_next frame r x route note.knows w t job ready.reached).left in
      record {
        note_of = note_of;
        wallet_of = wallet_of;
        room = room ∙ (ap (λ (y : PayloadView). y.room) ready.filled ∙ room_of_payload 4096 r.engine);
        whole = whole frame r x route note.knows w t job ready.reached noted.knows new back called paid left ready.is.answered uncovered;
        knew = called.keeps;
        new = access_new frame r x route note.knows w t job ready.reached noted.knows new back called paid left ready.is.answered uncovered;
        left = left_by frame r x route note.knows w t job ready.reached noted.knows new back called paid left ready.is.answered uncovered wants (sym (wants_is ∙ ap (λ (b : Bool). (b && is_plain_kind x.kind) && back.hint) (styled ∙ style_of_job frame r note.knows w t job)));
      }

  -- a grant that covers it may be used
  covers_same : (h : Held) → covers payload.address (length payload.bytes) payload.command h ≡ covers x.address x.length (command_in x.kind) h
  covers_same h =
      let is = (fills.transfer r.engine 4096 x ready.reached.next).1 in
      ap (λ (y : PayloadView). covers y.address (length y.bytes) y.command h) ready.filled
      ∙ (ap (λ (a : ℕ). covers a (length (payload_of r.engine 4096).bytes) (payload_of r.engine 4096).command h) is.address
      ∙ (ap (λ (n : ℕ). covers x.address n (payload_of r.engine 4096).command h) is.sized ∙ ap (λ (c : Command). covers x.address x.length c h) is.command))

  module _ (which : ℕ) (plain : is_plain_kind x.kind ≡ true) (covered : IsSomeAnd (slice_get t.held which) (λ h. IsTrue (covers x.address x.length (command_in x.kind) h))) where
    covered_at : (h : Held) → slice_get t.held which ≡ Some h → IsTrue (covers payload.address (length payload.bytes) payload.command h)
    covered_at h at = covers_same h ∙ subst (λ (o : Option Held). IsSomeAnd o (λ h. IsTrue (covers x.address x.length (command_in x.kind) h))) at covered

    pub may_use_at : IsSomeAnd (slice_get t.held which) (MayUse frame payload note.knows w)
    may_use_at = by (slice_get t.held which) refl covered
      where
        by : (o : Option Held) → slice_get t.held which ≡ o → IsSomeAnd o (λ h. IsTrue (covers x.address x.length (command_in x.kind) h)) → IsSomeAnd o (MayUse frame payload note.knows w)
        by None at is = absurd is
        by (Some h) at is = may_use frame r x route note.knows w t job ready.reached h (has_at t.held which h at) payload ready.filled plain (covers_same h ∙ is)

    module _ (id : TxnId) (at : ℕ) (new_t : TableView) (new : Purse) (id_is : id ≡ txn_next r) (at_is : at ≡ current_time r.keeper) (wallet_of : IsOf tokens new) (h : Held) (here : slice_get t.held which ≡ Some h) where
      outcome : (o : UseOf) → HasUsed frame h which payload id at t new_t note.knows w new o → IsNote table (note_of o) → ComesOf table tokens frame note.knows.known r x route new new_t o
      outcome (Used back noted time) came note_of =
          let held = has_at t.held which h here in
          let by_it = covered_at h here in
          record {
            note_of = note_of;
            wallet_of = wallet_of;
            room = direct_room frame r x route note.knows w t job ready.reached h held payload ready.filled plain by_it back id at noted.knows new came.0 id_is at_is ready.is.answered
                ∙ (ap (λ (y : PayloadView). y.room) ready.filled ∙ room_of_payload 4096 r.engine);
            whole = direct_whole frame r x route note.knows w t job ready.reached h held payload ready.filled plain by_it back id at noted.knows new came.0 id_is at_is ready.is.answered;
            knew = subst (λ (l : List (HistoryEntry Content)). Within l noted.knows.known) came.0.same came.0.made.enters.knew;
            new = gone_new frame r x route note.knows w t job ready.reached h held payload ready.filled plain by_it back id at noted.knows new came.0 id_is at_is ready.is.answered;
            left = subst (IsAtEase frame (accessed x route.latency back.bytes r) noted.knows new) (sym came.2)
                (gone_ease frame r x route note.knows w t job ready.reached h held payload ready.filled plain by_it back id at noted.knows new came.0 id_is at_is ready.is.answered);
          }
      outcome (Stale back noted) came note_of =
          let stale : IsFoundStale h which t new_t note.knows w w noted.knows = subst (λ (u : Purse). IsFoundStale h which t new_t note.knows w u noted.knows) came.0.wallet came.0 in (
            record {
              note_of = note_of;
              wallet_of = wallet_of;
              is = subst (λ (u : Purse). IsAtEase frame r noted.knows u new_t) (sym came.0.wallet) (dropped_ease frame r note.knows noted.knows w t new_t job which h here stale ready.is.answered);
              reached = ready.reached;
              filled = came.1 ∙ ready.filled;
            },
            came.0.keeps,
          )

    -- what came of its use
    pub comes_of : (id : TxnId) (at : ℕ) (new_t : TableView) (new : Purse) (result : UseOf) → id ≡ txn_next r → at ≡ current_time r.keeper → ForSome (slice_get t.held which) (λ h. HasUsed frame h which payload id at t new_t note.knows w new result) → IsNote table (note_of result) → IsOf tokens new
        → ComesOf table tokens frame note.knows.known r x route new new_t result
    comes_of id at new_t new result id_is at_is used note_is wallet_of = by (slice_get t.held which) refl covered
      where
        by : (o : Option Held) → slice_get t.held which ≡ o → IsSomeAnd o (λ h. IsTrue (covers x.address x.length (command_in x.kind) h)) → ComesOf table tokens frame note.knows.known r x route new new_t result
        by None here is = absurd is
        by (Some h) here is = outcome id at new_t new id_is at_is wallet_of h here result (used h here) note_is

-- a wish for a grant
module _ (frame : Frame Plan) (r : Run) (x : Transfer) (route : Route) (txn : TxnId) (at : ℕ) (note : View Content Plan) (w : Purse) (t : TableView) (asks : IsToAsk frame r note w t (command_in x.kind) x.address route txn at) (who : ℕ) (who_is : who ≡ r.engine.initiator) where
  abbrev asker : IsInitiator frame r note w t
  asker = asks.is

  its_number : who ≡ (asker).initiator.number
  its_number = who_is ∙ sym (number frame r note note w t asker)

  leads : route_at frame.world who x.address ≡ Some route
  leads = ap (λ (n : ℕ). route_at frame.world n x.address) its_number ∙ asks.asking.leads

  pub asker_below : who < length frame.world.platform.initiators
  asker_below = subst (λ (k : ℕ). k < length frame.world.platform.initiators) (sym who_is) (initiator_within frame.world r.engine.initiator (asker).initiator (asker).is)

  pub asker_passes : HasNoPassage frame.world txn
  asker_passes = none_pass frame r note w t asker txn (asks.asking.own ∙ number frame r note note w t asker)

  pub may_wish : IsSomeAnd (route_at frame.world who x.address) (MayAsk frame.world (command_in x.kind) t note w)
  may_wish = subst (λ (o : Option Route). IsSomeAnd o (MayAsk frame.world (command_in x.kind) t note w)) (sym leads) (may_ask frame r note w t asker (command_in x.kind) x.address route txn at asks.asking)

  pub wished : (back : View Content Plan) (new_t : TableView) (new : Purse) (answer : Asked) → ForSome (route_at frame.world who x.address) (λ y. HasAsked frame who (command_in x.kind) x.address y txn at t new_t note back w new answer) → ((k : ℕ) → IsRoomyFor k w → IsRoomyFor k new) → IsAtEase frame r back new new_t
  wished back new_t new answer came roomy = by answer (subst (λ (n : ℕ). HasAsked frame n (command_in x.kind) x.address route txn at t new_t note back w new answer) its_number (came route leads))
    where
      by : (o : Asked) → HasAsked frame (asker).initiator.number (command_in x.kind) x.address route txn at t new_t note back w new o → IsAtEase frame r back new new_t
      by (HeldAt which) is = granted_ease frame r note w t asker (command_in x.kind) x.address route txn at asks.asking back new_t new which is.0 is.1 roomy
      by (Denied denial) is = denied_ease frame r note w t asker (command_in x.kind) x.address route txn at asks.asking back new_t new denial is.0 is.1 roomy

-- with its payload filled it sets out to make the access that is next
pub set_out : (table tokens : TableId) (frame : Frame Plan) (d : Bool) (r : Run) (x : Transfer) (route : Route) (empty filled : PayloadView) (note : Noted Content Plan) (w : Purse) (t : TableView) → IsJob table tokens frame d r empty note w t → HasReached frame.world r x route → filled ≡ payload_of r.engine 4096 → IsToMake table tokens frame r x route filled note w t
set_out table tokens frame d r x route empty filled note w t job reached is = record { note_of = job.note_of; wallet_of = job.wallet_of; is = job.is; reached = reached; filled = is }

-- the initiator is the same after an access
pub number_past : (x : Transfer) (latency : ℕ) (got : List ℕ) (old new : Run) → new ≡ accessed x latency got old → new.engine.initiator ≡ old.engine.initiator
number_past x latency got old new is = ap (λ (r : Run). r.engine.initiator) is ∙ accessed_initiator x latency got old

-- the same of what is left, by what the values are
pub left_as : (wants : Bool) (frame : Frame Plan) (x : Transfer) (route : Route) (r run : Run) (id : TxnId) (at : ℕ) (got : List ℕ) (v : View Content Plan) (w : Purse) (t : TableView) → IsLeft wants frame x route (txn_next r) (later (current_time r.keeper) route.latency) (accessed x route.latency got r) v w t
    → id ≡ txn_next r → at ≡ later (current_time r.keeper) route.latency → run ≡ accessed x route.latency got r → IsLeft wants frame x route id at run v w t
left_as wants frame x route r run id at got v w t left id_is at_is run_is =
    subst (λ (y : Run). IsLeft wants frame x route id at y v w t) (sym run_is)
    (subst (λ (n : ℕ). IsLeft wants frame x route id n (accessed x route.latency got r) v w t) (sym at_is)
    (subst (λ (y : TxnId). IsLeft wants frame x route y (later (current_time r.keeper) route.latency) (accessed x route.latency got r) v w t) (sym id_is) left))

-- an access that was made past what its note knew later was made past what it knew before
pub made_before : (table tokens : TableId) (frame : Frame Plan) (first later : List (HistoryEntry Content)) (r : Run) (x : Transfer) (route : Route) (wants : Bool) (payload : PayloadView) (note : Noted Content Plan) (w : Purse) (t : TableView) → Within first later → HasMadeNext table tokens frame later r x route wants payload note w t
    → HasMadeNext table tokens frame first r x route wants payload note w t
made_before table tokens frame first later r x route wants payload note w t more made = record {
  note_of = made.note_of;
  wallet_of = made.wallet_of;
  room = made.room;
  whole = made.whole;
  knew = λ e has. made.knew e (more e has);
  new = new_before (IsEntryOfRun frame.world r (accessed x route.latency payload.bytes r)) first later note.knows.known more made.new;
  left = made.left;
}
