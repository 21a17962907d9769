-- What an engine is told, and what a history answers.
use Rattle.std.proofs.Common.{◌≡◌, ℕ, List, ◌∷◌, ◌++◌, length, Option, Some, None, Bool, true, false, cond, refl, ap, sym, subst, ◌∙◌, arith}
use Rattle.std.proofs.Math.ListN.{length-replicate}
use Rattle.std.proofs.lemmas.Bool.Decides.{nat_tests}
use Rattle.std.proofs.lemmas.Grind.{common_steps}
use Rattle.tlm_types.specs.declared.entry.Access.{Access}
use Rattle.tlm_types.specs.declared.entry.Entry.{Entry}
use Rattle.tlm_types.specs.declared.words.Command.{Command}
use Rattle.tlm_types.specs.declared.words.Command.TheVariants.{Read as read_command, Write as write_command, Ignore as ignore_command, FetchAdd as fetch_add_command}
use Rattle.tlm_types.specs.declared.words.MemoryTraits.{MemoryTraits}
use Rattle.tlm_types.specs.declared.words.Response.{Response}
use Rattle.tlm_types.specs.declared.words.Response.TheVariants.{Ok, Incomplete, GenericError, AddressError, CommandError, BurstError, ByteEnableError}
use Rattle.tlm_types.specs.declared.words.Way.TheVariants.{Blocking}
use Rattle.tlm_model.specs.declared.platform.Platform.{Platform}
use Rattle.tlm_model.specs.Plan.{Initiator}
use Rattle.tlm_model.specs.Requests.{is_txn, got_in, first_of_two, answered, buffer_by}
use Rattle.tlm_model.specs.Route.{Route, route_of}
use Rattle.tlm_model.specs.Scripts.{has_answer}
use Rattle.tlm_model.specs.Store.{zeros, status_of, got_by}
use Rattle.generic_payload.specs.Payload.{PayloadView}
use Rattle.generic_payload.proofs.Moves.{length-taken_from}
use Rattle.script_engine.specs.declared.part.Part.{Part}
use Rattle.script_engine.specs.declared.part.Part.TheVariants.{Asks}
use Rattle.script_engine.specs.declared.part.Transfer.{Transfer}
use Rattle.script_engine.specs.declared.part.TransferKind.{TransferKind}
use Rattle.script_engine.specs.declared.part.TransferKind.TheVariants as transfer
use Rattle.script_engine.specs.Part.{command_in}
use Rattle.script_engine.specs.State.{State, next_of, op_of, payload_of}
use Rattle.script_engine.specs.Asking.{IsReadBack, IsAnswered, IsAnsweredKind, IsAnsweredPart, asked_access, asked_for, request_for}
use Rattle.script_engine.proofs.Payloads.{reads_into_zeros}
use Rattle.script_engine.proofs.Steps.{fills}
use Rattle.initiator_run.specs.Entry.{answered_by, request_entry, got_for, back}
use Rattle.initiator_run.specs.Run.{refused_as, refused_item}
use Rattle.initiator_run.proofs.AnswerLemmas.{answered-fresh}

-- a read's buffer where there is no route
unrouted_read : (p : Platform) (i : Initiator) (h : List Entry) (s a n : ℕ) → route_of p i a ≡ None → IsReadBack p i h s a n (zeros n)
unrouted_read p i h s a n nowhere = record {
  answered = ap (λ (o : Option Route). buffer_by o n i.number s h) nowhere;
  whole = length-replicate n 0;
}

-- a transfer without a route whose payload comes back as it was: a read's bytes are zeros
unrouted_by : (p : Platform) (i : Initiator) (h : List Entry) (s a n : ℕ) (kind : TransferKind) (bytes : List ℕ) → route_of p i a ≡ None → length bytes ≡ n → (command_in kind ≡ read_command → bytes ≡ zeros (length bytes)) → IsAnsweredKind p i h s a n kind bytes
unrouted_by p i h s a n (transfer.Access read_command plain fenced) bytes nowhere size reads =
    subst (IsReadBack p i h s a n) (sym (reads refl ∙ ap zeros size)) (unrouted_read p i h s a n nowhere)
unrouted_by p i h s a n (transfer.Access write_command plain fenced) bytes nowhere size reads = tt
unrouted_by p i h s a n (transfer.Access ignore_command plain fenced) bytes nowhere size reads = tt
unrouted_by p i h s a n (transfer.Access fetch_add_command plain fenced) bytes nowhere size reads = tt
unrouted_by p i h s a n transfer.DebugRead bytes nowhere size reads = tt

-- the payload of a transfer without a route comes back as it was
pub unrouted_answers : (p : Platform) (i : Initiator) (h : List Entry) (room : ℕ) (e : State) (x : Transfer) → next_of e ≡ Asks x → route_of p i x.address ≡ None → IsAnswered p i h (op_of e) (payload_of e room).bytes
unrouted_answers p i h room e x is nowhere =
    let payload = (fills.transfer e room x is).1 in
    subst (λ (part : Part). IsAnsweredPart p i h part (payload_of e room).bytes) (sym is)
    (unrouted_by p i h x.seq x.address x.length x.kind (payload_of e room).bytes nowhere payload.sized (λ reads. reads_into_zeros room e (payload.command ∙ reads)))

told_as : (x : Transfer) (payload : PayloadView) (t g : ℕ) → payload.command ≡ command_in x.kind → refused_as x t ≡ refused_item (request_for x payload t g)
told_as x payload t g same = grind (arith, common_steps)

-- a transfer without a route is told as its request
pub refused_is_request : (t g room : ℕ) (e : State) (x : Transfer) → next_of e ≡ Asks x → refused_as x t ≡ refused_item (request_for x (payload_of e room) t g)
refused_is_request t g room e x is = told_as x (payload_of e room) t g (fills.transfer e room x is).1.command

-- a read's buffer keeps its length
pub length-got : (status : Response) (command : Command) (a : Access) (store : List ℕ) → command ≡ read_command → length (got_by command status a store) ≡ length a.sent
length-got Ok read_command a store is = length-taken_from a 0 a.sent store
length-got Incomplete read_command a store is = refl
length-got GenericError read_command a store is = refl
length-got AddressError read_command a store is = refl
length-got CommandError read_command a store is = refl
length-got BurstError read_command a store is = refl
length-got ByteEnableError read_command a store is = refl
length-got status write_command a store is = cc
length-got status ignore_command a store is = cc
length-got status fetch_add_command a store is = cc

-- what a fetch_add found is as long as its operand
pub length-found : (status : Response) (a : Access) (store : List ℕ) → length (got_by fetch_add_command status a store) ≡ length a.sent
length-found Ok a store = length-taken_from a 0 a.sent store
length-found Incomplete a store = refl
length-found GenericError a store = refl
length-found AddressError a store = refl
length-found CommandError a store = refl
length-found BurstError a store = refl
length-found ByteEnableError a store = refl

own_txn : (i s : ℕ) → is_txn i s (record { initiator = i; seq = s }) ≡ true
own_txn i s = grind (arith, nat_tests)

-- the history answers with what the entry got
entry_answers : (i s : ℕ) (h m : List Entry) (e : Entry) (got : List ℕ) → e.txn ≡ record { initiator = i; seq = s } → got_in e.what ≡ Some got → has_answer i s h ≡ false → answered i s (h ++ (e ∷ m)) ≡ Some got
entry_answers i s h m e got mine has fresh =
    answered-fresh i s h (e ∷ m) fresh
    ∙ (ap (λ (b : Bool). first_of_two (cond b (got_in e.what) None) (answered i s m)) (ap (is_txn i s) mine ∙ own_txn i s)
    ∙ ap (λ (o : Option (List ℕ)). first_of_two o (answered i s m)) has)

-- a read that the engine waits for, answered by its entry
routed_read : (p : Platform) (i : Initiator) (h m : List Entry) (s a n t g position : ℕ) (payload : PayloadView) (route : Route) (traits : MemoryTraits) (store : List ℕ)
    → payload.command ≡ read_command → length payload.bytes ≡ n → route_of p i a ≡ Some route → has_answer i.number s h ≡ false
    → (e : Entry) → e.txn ≡ record { initiator = i.number; seq = s } → e.what ≡ answered_by traits store Blocking (record (asked_access payload) { offset = route.offset })
    → IsReadBack p i (h ++ (e ∷ m)) s a n (got_by payload.command (status_of traits Blocking (record (asked_access payload) { offset = route.offset })) (record (asked_access payload) { offset = route.offset }) store)
routed_read p i h m s a n t g position payload route traits store reads size leads fresh e mine what =
    let access = record (asked_access payload) { offset = route.offset } in
    let got = got_by payload.command (status_of traits Blocking access) access store in
    record {
      answered = ap (λ (o : Option Route). buffer_by o n i.number s (h ++ (e ∷ m))) leads ∙ entry_answers i.number s h m e got mine (ap got_in what) fresh;
      whole = length-got (status_of traits Blocking access) payload.command access store reads ∙ size;
    }

routed_by : (p : Platform) (i : Initiator) (h m : List Entry) (s a n t g position : ℕ) (kind : TransferKind) (payload : PayloadView) (route : Route) (traits : MemoryTraits) (store : List ℕ)
    → payload.command ≡ command_in kind → length payload.bytes ≡ n → route_of p i a ≡ Some route → has_answer i.number s h ≡ false
    → IsAnsweredKind p i (h ++ (request_entry p i (request_for (record { seq = s; address = a; length = n; kind = kind }) payload t g) route traits store position ∷ m)) s a n kind
    (back payload.command payload.bytes (got_for traits store (asked_for kind n payload) route))
routed_by p i h m s a n t g position (transfer.Access read_command plain fenced) payload route traits store reads size leads fresh =
    let e = request_entry p i (request_for (record { seq = s; address = a; length = n; kind = transfer.Access read_command plain fenced }) payload t g) route traits store position in
    subst (λ (c : Command). IsReadBack p i (h ++ (e ∷ m)) s a n (back c payload.bytes (got_for traits store (asked_for (transfer.Access read_command plain fenced) n payload) route))) (sym reads)
    (routed_read p i h m s a n t g position payload route traits store reads size leads fresh e refl refl)
routed_by p i h m s a n t g position (transfer.Access write_command plain fenced) payload route traits store reads size leads fresh = tt
routed_by p i h m s a n t g position (transfer.Access ignore_command plain fenced) payload route traits store reads size leads fresh = tt
routed_by p i h m s a n t g position (transfer.Access fetch_add_command plain fenced) payload route traits store reads size leads fresh = tt
routed_by p i h m s a n t g position transfer.DebugRead payload route traits store reads size leads fresh = tt

-- the history with its entry answers a transfer, as its payload comes back
pub routed_answers : (p : Platform) (i : Initiator) (h m : List Entry) (t g room position : ℕ) (e : State) (x : Transfer) (route : Route) (traits : MemoryTraits) (store : List ℕ)
    → next_of e ≡ Asks x → route_of p i x.address ≡ Some route → has_answer i.number e.seq h ≡ false
    → IsAnswered p i (h ++ (request_entry p i (request_for x (payload_of e room) t g) route traits store position ∷ m)) (op_of e)
    (back (payload_of e room).command (payload_of e room).bytes (got_for traits store (asked_for x.kind x.length (payload_of e room)) route))
routed_answers p i h m t g room position e x route traits store is leads fresh =
    let payload = payload_of e room in
    let filled = fills.transfer e room x is in
    subst (λ (part : Part). IsAnsweredPart p i (h ++ (request_entry p i (request_for x payload t g) route traits store position ∷ m)) part (back payload.command payload.bytes (got_for traits store (asked_for x.kind x.length payload) route))) (sym is)
    (routed_by p i h m x.seq x.address x.length t g position x.kind payload route traits store filled.1.command filled.1.sized leads (ap (λ (s : ℕ). has_answer i.number s h) filled.0 ∙ fresh))
