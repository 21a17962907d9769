-- The call that carries an access or a debug read to its memory.
use Rattle.std.proofs.Common.{◌≡◌, ℕ, ◌+◌, ◌≤◌, List, [], length, true, refl, ap, sym, subst, ◌∙◌, arith}
use Rattle.std.proofs.lemmas.Grind.{common_steps}
use Rattle.tlm_types.specs.declared.entry.Access.{Access}
use Rattle.tlm_types.specs.declared.entry.Entry.{Entry}
use Rattle.tlm_types.specs.declared.entry.What.{What}
use Rattle.tlm_types.specs.declared.words.Command.{Command}
use Rattle.tlm_types.specs.declared.words.Command.TheVariants.{Read as read_command, Write as write_command, Ignore as ignore_command, FetchAdd as fetch_add_command}
use Rattle.tlm_types.specs.declared.words.ObjectNo.TheVariants.{Memory as memory_object}
use Rattle.tlm_types.specs.declared.words.Response.{Response}
use Rattle.tlm_types.specs.declared.words.TxnId.{TxnId}
use Rattle.tlm_types.specs.declared.words.Way.TheVariants.{Blocking, Debug as by_debug}
use Rattle.tlm_types.specs.Entries.{kept_of}
use Rattle.tlm_model.specs.Log.{log_bytes}
use Rattle.tlm_model.specs.Store.{got_by, status_of, zeros}
use Rattle.generic_payload.specs.Payload.{PayloadView}
use Rattle.region_object.specs.Call.{Fits, IsFit, cost_of, payload_cost}
use Rattle.region_object.specs.declared.call.RegionCall.{RegionCall}
use Rattle.region_object.specs.Region.{LoggedMemory, answered, buffer_after, region_entry as entry_of_call, with_logged}
use Rattle.region_object.proofs.Cost.{kept_of-call}
use Rattle.route_plan.specs.declared.step.Route.{Route}
use Rattle.script_engine.specs.declared.part.Part.TheVariants.{Asks}
use Rattle.script_engine.specs.declared.part.Transfer.{Transfer}
use Rattle.script_engine.specs.declared.part.TransferKind.{TransferKind}
use Rattle.script_engine.specs.declared.part.TransferKind.TheVariants as transfer
use Rattle.script_engine.specs.Part.{command_in, is_fenced_kind}
use Rattle.script_engine.specs.State.{State, next_of, payload_of}
use Rattle.script_engine.specs.Asking.{arrival, asked_for}
use Rattle.script_engine.proofs.Payloads.{reads_into_zeros, room_of_payload}
use Rattle.script_engine.proofs.Steps.{fills}
use Rattle.quantum_keeper.specs.Keeper.{current_time}
use Rattle.initiator_run.specs.declared.run.NextAccess.{NextAccess}
use Rattle.initiator_run.specs.Access.{call_at, cost_next, next_call, payload_back, model_route, entry_made, bytes_back, payload_room}
use Rattle.initiator_run.specs.Entry.{access_at, answered_by, back, got_for, way_of}
use Rattle.initiator_run.specs.Run.{Run}
use Rattle.initiator_run.proofs.ReplyLemmas.{length-found, length-got}

-- the payload keeps its room
pub room_back : (m : LoggedMemory) (kind : TransferKind) (txn : TxnId) (t before : ℕ) (p : PayloadView) → (payload_back m (call_at kind txn t before p)).room ≡ p.room
room_back m (transfer.Access command plain fenced) txn t before p = refl
room_back m transfer.DebugRead txn t before p = refl

buffer_back : (command : Command) (got bytes : List ℕ) → buffer_after command got bytes ≡ back command bytes got
buffer_back command got bytes = grind (arith, common_steps)

-- the bytes of a payload that the engine waits for
bytes_at : (m : LoggedMemory) (route : Route) (txn : TxnId) (t before n : ℕ) (kind : TransferKind) (payload : PayloadView) → is_fenced_kind kind ≡ true
    → (payload_back m (call_at kind txn t before (record payload { address = route.offset }))).bytes
    ≡ back payload.command payload.bytes (got_for m.traits (log_bytes m.traits m.log.entries) (asked_for kind n payload) (model_route route))
bytes_at m route txn t before n (transfer.Access command plain fenced) payload waits =
    buffer_back payload.command (got_for m.traits (log_bytes m.traits m.log.entries) (asked_for (transfer.Access command plain fenced) n payload) (model_route route)) payload.bytes
bytes_at m route txn t before n transfer.DebugRead payload waits = cc

length-back : (command : Command) (status : Response) (a : Access) (sent store : List ℕ) → length a.sent ≡ length sent → length (back command sent (got_by command status a store)) ≡ length sent
length-back read_command status a sent store same = length-got status read_command a store refl ∙ same
length-back write_command status a sent store same = refl
length-back ignore_command status a sent store same = refl
length-back fetch_add_command status a sent store same = length-found status a store ∙ same

-- they are as many as were asked for
whole_at : (m : LoggedMemory) (route : Route) (n : ℕ) (kind : TransferKind) (payload : PayloadView) → is_fenced_kind kind ≡ true → length payload.bytes ≡ n
    → length (back payload.command payload.bytes (got_for m.traits (log_bytes m.traits m.log.entries) (asked_for kind n payload) (model_route route))) ≡ n
whole_at m route n (transfer.Access command plain fenced) payload waits size =
    let access = access_at (model_route route) (asked_for (transfer.Access command plain fenced) n payload) in
    length-back payload.command (status_of m.traits Blocking access) access payload.bytes (log_bytes m.traits m.log.entries) refl ∙ size
whole_at m route n transfer.DebugRead payload waits size = cc

pub bytes_come_back : (r : Run) (x : Transfer) (m : LoggedMemory) (route : Route) → is_fenced_kind x.kind ≡ true → (payload_back m (next_call r x route)).bytes ≡ bytes_back r x m route
bytes_come_back r x m route waits = bytes_at m route (record { initiator = r.engine.initiator; seq = r.engine.seq }) (current_time r.keeper) route.before x.length x.kind (payload_of r.engine payload_room) waits

pub whole_comes_back : (r : Run) (x : Transfer) (m : LoggedMemory) (route : Route) → next_of r.engine ≡ Asks x → is_fenced_kind x.kind ≡ true → length (bytes_back r x m route) ≡ x.length
whole_comes_back r x m route is waits = whole_at m route x.length x.kind (payload_of r.engine payload_room) waits (fills.transfer r.engine payload_room x is).1.sized

abbrev entry_of : LoggedMemory → ℕ → TxnId → ℕ → What → Entry
entry_of m position txn time what = record { position = position; object = memory_object m.number; txn = txn; time = time; what = what }

entry_by : (m : LoggedMemory) (route : Route) (txn : TxnId) (position t n : ℕ) (kind : TransferKind) (payload : PayloadView) → length payload.bytes ≡ n
    → entry_of_call m position (call_at kind txn t route.before (record payload { address = route.offset }))
    ≡ entry_of m position txn (arrival kind t route.before) (answered_by m.traits (log_bytes m.traits m.log.entries) (way_of (asked_for kind n payload)) (access_at (model_route route) (asked_for kind n payload)))
entry_by m route txn position t n (transfer.Access command plain fenced) payload size = refl
entry_by m route txn position t n transfer.DebugRead payload size =
    ap (λ (k : ℕ). entry_of m position txn t (answered m.traits m.log.entries by_debug (record { command = read_command; offset = route.offset; length = k; sent = []; enables = []; width = k }))) size

pub entry_is_made : (r : Run) (x : Transfer) (m : LoggedMemory) (route : Route) (position : ℕ) → next_of r.engine ≡ Asks x → entry_of_call m position (next_call r x route) ≡ entry_made r x m route position
entry_is_made r x m route position is =
    entry_by m route (record { initiator = r.engine.initiator; seq = r.engine.seq }) position (current_time r.keeper) x.length x.kind (payload_of r.engine payload_room) (fills.transfer r.engine payload_room x is).1.sized

fit_by : (kind : TransferKind) (txn : TxnId) (t before : ℕ) (payload : PayloadView) → payload.command ≡ command_in kind → (payload.command ≡ read_command → payload.bytes ≡ zeros (length payload.bytes)) → IsFit (call_at kind txn t before payload)
fit_by (transfer.Access command plain fenced) txn t before payload same reads = (tt, reads)
fit_by transfer.DebugRead txn t before payload same reads = same

-- the payload of a transfer that is next is one that a memory takes
pub payload_fits : (e : State) (x : Transfer) (room : ℕ) (txn : TxnId) (t before offset : ℕ) → next_of e ≡ Asks x → IsFit (call_at x.kind txn t before (record (payload_of e room) { address = offset }))
payload_fits e x room txn t before offset is = fit_by x.kind txn t before (record (payload_of e room) { address = offset }) (fills.transfer e room x is).1.command (reads_into_zeros room e)

-- the call is one that a memory takes
pub next_call_fits : (r : Run) (x : Transfer) (route : Route) (call : RegionCall) → call ≡ next_call r x route → next_of r.engine ≡ Asks x → IsFit call
next_call_fits r x route call same is = subst IsFit (sym same) (payload_fits r.engine x payload_room (record { initiator = r.engine.initiator; seq = r.engine.seq }) (current_time r.keeper) route.before route.offset is)

-- the call of what is next, from its parts
pub call_is_next : (r : Run) (next : NextAccess) (txn : TxnId) (t : ℕ) (p : PayloadView) → txn ≡ record { initiator = r.engine.initiator; seq = r.engine.seq } → t ≡ current_time r.keeper → p ≡ record (payload_of r.engine payload_room) { address = next.route.offset }
    → call_at next.transfer.kind txn t next.route.before p ≡ next_call r next.transfer next.route
call_is_next r next txn t p mine now filled = rw (mine, now, filled) refl

-- what comes back of a call
pub record IsSent (r : Run) (x : Transfer) (old new : LoggedMemory) (route : Route) (position : ℕ) (returned : PayloadView) : Type 0 where
  pub logged : new ≡ with_logged old (entry_made r x old route position)
  pub bytes : is_fenced_kind x.kind ≡ true → returned.bytes ≡ bytes_back r x old route
  pub whole : is_fenced_kind x.kind ≡ true → length returned.bytes ≡ x.length
  pub room : returned.room ≡ payload_room

pub call_is_sent : (r : Run) (x : Transfer) (old new : LoggedMemory) (route : Route) (position : ℕ) (call : RegionCall) (returned : PayloadView) → next_of r.engine ≡ Asks x → call ≡ next_call r x route → new ≡ with_logged old (entry_of_call old position call) → returned ≡ payload_back old call → IsSent r x old new route position returned
call_is_sent r x old new route position call returned is same logged comes =
    let back_is : returned ≡ payload_back old (next_call r x route) = comes ∙ ap (payload_back old) same in
    let entry : entry_of_call old position call ≡ entry_made r x old route position = ap (entry_of_call old position) same ∙ entry_is_made r x old route position is in
    record {
      logged = logged ∙ ap (with_logged old) entry;
      bytes = λ waits. ap (λ (p : PayloadView). p.bytes) back_is ∙ bytes_come_back r x old route waits;
      whole = λ waits. ap (λ (p : PayloadView). length p.bytes) back_is ∙ (ap length (bytes_come_back r x old route waits) ∙ whole_comes_back r x old route is waits);
      room = ap (λ (p : PayloadView). p.room) back_is ∙ (room_back old x.kind (record { initiator = r.engine.initiator; seq = r.engine.seq }) (current_time r.keeper) route.before (record (payload_of r.engine payload_room) { address = route.offset }) ∙ room_of_payload payload_room r.engine);
    }

cost_by : (kind : TransferKind) (txn : TxnId) (t before : ℕ) (p : PayloadView) → cost_of (call_at kind txn t before p) ≡ payload_cost p
cost_by (transfer.Access command plain fenced) txn t before p = refl
cost_by transfer.DebugRead txn t before p = refl

fits_by : (kind : TransferKind) (txn : TxnId) (t before : ℕ) (p : PayloadView) → IsFit (call_at kind txn t before p) → Fits [] (call_at kind txn t before p)
fits_by (transfer.Access command plain fenced) txn t before p fit = fit
fits_by transfer.DebugRead txn t before p fit = fit

-- the entry of a transfer takes no more of the room of its log than its payload costs
pub left_of_next : (r : Run) (x : Transfer) (m : LoggedMemory) (route : Route) (position : ℕ) → next_of r.engine ≡ Asks x → m.log.room_bytes ≤ (with_logged m (entry_made r x m route position)).log.room_bytes + cost_next r
left_of_next r x m route position is =
    let txn : TxnId = record { initiator = r.engine.initiator; seq = r.engine.seq } in
    let payload : PayloadView = record (payload_of r.engine payload_room) { address = route.offset } in
    let fit = fits_by x.kind txn (current_time r.keeper) route.before payload (payload_fits r.engine x payload_room txn (current_time r.keeper) route.before route.offset is) in
    let kept : kept_of (entry_of_call m position (next_call r x route)).what ≤ cost_of (next_call r x route) = kept_of-call m position [] (next_call r x route) fit in
    let cost : cost_of (next_call r x route) ≡ cost_next r = cost_by x.kind txn (current_time r.keeper) route.before payload in
    let same : kept_of (entry_of_call m position (next_call r x route)).what ≡ kept_of (entry_made r x m route position).what = ap (λ (e : Entry). kept_of e.what) (entry_is_made r x m route position is) in
    omega arith
