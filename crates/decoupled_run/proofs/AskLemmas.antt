-- An initiator after it has asked for a grant, and after it has found a grant stale.
use Rattle.std.proofs.Common.{◌≡◌, ◌⊎◌, ℕ, zero, suc, ◌+◌, ◌-◌, ◌<◌, ◌≤◌, ◌&&◌, Bool, true, false, nat_le, nat_lt, List, [], ◌∷◌, ◌++◌, length, map, take, drop, Option, Some, None, slice_get, refl, ap, sym, subst, ◌∙◌, inl, inr, ⊎_elim, arith, length-append}
use Rattle.std.specs.Prelude.{IsTrue, IsSomeAnd, MatchOption, if◌then◌else◌, sum_by}
use Rattle.std.proofs.lemmas.Bool.{and_from, cases_Bool, cases_eq, eq-eqb, le-leb, lt-ltb}
use Rattle.std.proofs.lemmas.List.{map-append}
use Rattle.std.proofs.lemmas.List.Sums.{sum_by-cons, sum_by_more}
use Rattle.std.proofs.lemmas.Option.{get_or_from_slice_get}
use mathlib.Core.Option.{some}
use Rattle.view_lists.specs.Lists.{Has}
use Rattle.view_lists.proofs.Members.{has_either, has_later, has_left, has_none, has_one, has_right}
use Rattle.one_history.specs.declared.view.Frame.{Frame}
use Rattle.one_history.specs.declared.view.View.{View}
use Rattle.one_history.specs.Lists.{StandBelow}
use Rattle.shared_object.specs.Written.{Written, logged, written_at}
use Rattle.token_book.specs.Purse.{Purse, left_of}
use Rattle.tlm_types.specs.declared.entry.Content.{Content}
use Rattle.tlm_types.specs.declared.entry.Entry.{Entry}
use Rattle.tlm_types.specs.declared.entry.What.{What}
use Rattle.tlm_types.specs.declared.entry.What.TheVariants.{Granted}
use Rattle.tlm_types.specs.declared.words.Command.{Command}
use Rattle.tlm_types.specs.declared.words.Kind.{Kind}
use Rattle.tlm_types.specs.declared.words.MemoryTraits.{MemoryTraits}
use Rattle.tlm_types.specs.declared.words.ObjectNo.TheVariants.{Memory}
use Rattle.tlm_types.specs.declared.words.TxnId.{TxnId}
use Rattle.tlm_types.specs.Traits.{allowed_kind}
use Rattle.tlm_model.specs.declared.platform.MemoryRow.{MemoryRow}
use Rattle.tlm_model.specs.declared.platform.Platform.{Platform}
use Rattle.tlm_model.specs.declared.platform.Style.{Style}
use Rattle.tlm_model.specs.History.{is_object}
use Rattle.tlm_model.specs.Plan.{Plan, Initiator, initiators_of}
use Rattle.tlm_model.specs.Requests.{requests_of}
use Rattle.tlm_model.specs.Route.{route_of}
use Rattle.tlm_model.specs.Scripts.{IsGrantee, first_gate, has_gate, is_answer}
use Rattle.tlm_model.specs.Times.{HasTime, decoupled_time}
use Rattle.tlm_model.specs.Store.{is_allowed}
use Rattle.good_history.specs.Plain.{is_direct}
use Rattle.good_history.specs.Grants.{asks, gives, is_cut_by, is_overlapped, plain_of}
use Rattle.joined_traffic.specs.Growing.{TellsNext}
use Rattle.joined_traffic.specs.Parts.{Knows, KnowsAllGiven}
use Rattle.joined_traffic.specs.Table.{IsTableOf}
use Rattle.joined_traffic.proofs.Growing.{gate_has_one_grant}
use Rattle.joined_traffic.proofs.Tables.{table_drops, table_takes}
use Rattle.good_history.specs.Joined.{KeepsOwn}
use Rattle.region_object.specs.declared.call.Denial.{Denial}
use Rattle.region_object.specs.declared.call.Denial.TheVariants.{NoDmi, NotAllowed, GatesSpent}
use Rattle.region_object.specs.declared.call.RegionCall.TheVariants.{Grant}
use Rattle.region_object.specs.declared.call.RegionReply.{RegionReply}
use Rattle.region_object.specs.declared.call.RegionReply.TheVariants.{Granted as GrantedReply}
use Rattle.region_object.specs.Call.{HasGrant}
use Rattle.region_object.specs.Region.{LoggedMemory, denial_of, grant_reply, next_gate}
use Rattle.route_plan.specs.declared.step.Route.{Route}
use Rattle.route_plan.specs.Planned.{is_routed_to, leads_to}
use Rattle.initiator_run.specs.Run.{Run}
use Rattle.plat_net.specs.Calls.{entries_of}
use Rattle.plat_net.proofs.ObjectLemmas.{more_objects}
use Rattle.plat_net.proofs.WalkLemmas.{leads_to_memory}
use Rattle.node_hops.specs.Steps.{HasNew}
use Rattle.dmi_grants.specs.declared.table.Held.{Held}
use Rattle.dmi_grants.specs.Asking.{AreGiven, IsCause, IsDenied, IsTaken, MayAsk}
use Rattle.dmi_grants.specs.Made.{HasSpent, IsRoomyFor, count_without, dmi_gates, dmi_gates_of, is_given_in}
use Rattle.dmi_grants.specs.Ranges.{AreAddressesOf}
use Rattle.dmi_grants.specs.Table.{IsUsable, TableView, granted_by, is_held}
use Rattle.dmi_grants.specs.Using.{IsFoundStale}
use Rattle.dmi_grants.proofs.Asks.{IsGiven, given_below, given_by}
use Rattle.dmi_grants.proofs.Counts.{count_most, fewer_by_one, some_left}
use Rattle.dmi_grants.proofs.GateNumbers.{first_is, gates_are}
use Rattle.dmi_grants.proofs.Known.{given_more, granted_in, known_more, log_given}
use Rattle.decoupled_run.specs.Job.{AreBelow, AsksNothing, HasAllOf, HasTickets, HoldsGrants, IsAsking, IsAtEase, IsHeldGrant, IsInitiator}
use Rattle.decoupled_run.specs.Known.{known_to, ungiven}
use Rattle.decoupled_run.specs.Stepped.{IsOfRound, IsStepEntry}
use Rattle.decoupled_run.proofs.AccessLemmas.{last_push, no_and}
use Rattle.decoupled_run.proofs.EntryLemmas.{IsDoneFor, IsFor, come_granted, keeps_more}
use Rattle.decoupled_run.proofs.JobLemmas.{entries_here, entries_there, learns_more, made_more, number, own_more, own_number, returned_more, still_held, still_nothing}
use Rattle.decoupled_run.proofs.KnownLemmas.{HasEntered, all_given, all_of, all_ungiven_one, below_of, entry_by, made_enters, read_at, read_more}
use Rattle.decoupled_run.proofs.RunEntries.{entered_new, unanswered_entry}
use Rattle.decoupled_run.proofs.TellLemmas.{led_to, tells_grant}
use Rattle.decoupled_run.proofs.TicketLemmas.{gates_left_given, gates_left_less, granted, may_be_granted, routed_path, some_ungiven}

gates_below : (xs : List MemoryRow) (m : ℕ) (row : MemoryRow) → slice_get xs m ≡ Some row → row.traits.gates ≤ sum_by (λ (y : MemoryRow). y.traits.gates) (take (length xs) xs)
gates_below [] m row at = absurd (cc (at))
gates_below (y ∷ xs) zero row at =
    let same : y ≡ row = cc (at) in
    let gates = ap (λ (z : MemoryRow). z.traits.gates) same in
    omega (arith, gates, sum_by-cons (λ (z : MemoryRow). z.traits.gates) y (take (length xs) xs))
gates_below (y ∷ xs) (suc m) row at =
    let rest = gates_below xs m row at in
    omega (arith, rest, sum_by-cons (λ (z : MemoryRow). z.traits.gates) y (take (length xs) xs))

pub dmi_below : (o : Option MemoryRow) (most : ℕ) → ((row : MemoryRow) → o ≡ Some row → row.traits.gates ≤ most) → dmi_gates_of o ≤ most
dmi_below None most each = omega arith
dmi_below (Some row) most each = let here = each row refl in by row.traits.dmi here
  where
    by : (b : Bool) → row.traits.gates ≤ most → (if b then row.traits.gates else 0) ≤ most
    by true here = here
    by false here = omega arith

pub dmi_most : (p : Plan) (m : ℕ) → dmi_gates p m ≤ first_gate p.platform (length p.platform.memories)
dmi_most p m = dmi_below (slice_get p.platform.memories m) (first_gate p.platform (length p.platform.memories)) (λ row at. gates_below p.platform.memories m row at)

-- where none is left, all are given
none_left : (p : Plan) (m : ℕ) (known : List Written) → count_without (is_given_in known) (first_gate p.platform m) (dmi_gates p m) ≡ 0 → AreGiven p m known
none_left p m known none k less = ⊎_elim
    (λ (given : is_given_in known (first_gate p.platform m + k) ≡ true). given)
    (λ (open' : is_given_in known (first_gate p.platform m + k) ≡ false). let one = some_left (is_given_in known) (first_gate p.platform m) (dmi_gates p m) (first_gate p.platform m + k) (omega arith) (omega arith) open' in absurd (omega arith))
    (cases_Bool (is_given_in known (first_gate p.platform m + k)))

with_given : (p : Plan) (m : ℕ) (known : List Written) (c : Command) (o : Option MemoryRow) → IsSomeAnd o (λ (row : MemoryRow). (row.traits.dmi ≡ true) × (is_allowed row.traits c ≡ true)) → AreGiven p m known → IsSomeAnd o (λ (row : MemoryRow). IsCause p m known c row.traits GatesSpent)
with_given p m known c None is given = absurd is
with_given p m known c (Some row) is given = (is.0, is.1, given)

-- a row that is there
pub row_at : (xs : List MemoryRow) (m : ℕ) → m < length xs → (row : MemoryRow) × (slice_get xs m ≡ Some row)
row_at [] m below = absurd (omega (arith, below))
row_at (y ∷ xs) zero below = (y, refl)
row_at (y ∷ xs) (suc m) below = row_at xs m (omega (arith, below))

-- the gates of a memory come after those of the memories before it
pub gates_at : (p : Platform) (m : ℕ) (row : MemoryRow) → slice_get p.memories m ≡ Some row → m < length p.memories → first_gate p (m + 1) ≡ first_gate p m + row.traits.gates
gates_at p m row at below =
    sum_by_more (λ (y : MemoryRow). y.traits.gates) p.memories m row below
    ∙ ap (λ (y : MemoryRow). first_gate p m + y.traits.gates) (get_or_from_slice_get p.memories m row row at)

traits_at : (o : Option MemoryRow) (row : MemoryRow) (t : MemoryTraits) → o ≡ Some row → IsSomeAnd o (λ (y : MemoryRow). t ≡ y.traits) → t ≡ row.traits
traits_at o row t at is = subst (λ (y : Option MemoryRow). IsSomeAnd y (λ (z : MemoryRow). t ≡ z.traits)) at is

-- an item stands in a list where it is found
pub has_at : {A : Type 0} (xs : List A) (k : ℕ) (x : A) → slice_get xs k ≡ Some x → Has xs x
has_at [] k x at = absurd (cc (at))
has_at (y ∷ xs) zero x at = (0, ap some (let same : y ≡ x = cc (at) in same))
has_at (y ∷ xs) (suc k) x at = has_later y xs x (has_at xs k x at)

-- a list with one of its items taken out
record IsSplit {A : Type 0} (xs : List A) (k : ℕ) (x : A) : Type 0 where
  is : xs ≡ take k xs ++ x ∷ drop (suc k) xs

split_at : {A : Type 0} (xs : List A) (k : ℕ) (x : A) → slice_get xs k ≡ Some x → IsSplit xs k x
split_at [] k x at = absurd (cc (at))
split_at (y ∷ xs) zero x at = let same : y ≡ x = cc (at) in record { is = ap (λ z. z ∷ xs) same }
split_at (y ∷ xs) (suc k) x at = record { is = ap (λ l. y ∷ l) (split_at xs k x at).is }

record SaysGranted (m : LoggedMemory) (gate first last : ℕ) (kind : Kind) : Type 0 where
  what : Granted gate first last kind ≡ Granted (next_gate m) 0 (m.traits.size - 1) (allowed_kind m.traits.readable m.traits.writable)

says_granted : (m : LoggedMemory) (gate first last : ℕ) (kind : Kind) (o : Option Denial) → GrantedReply gate first last kind ≡ grant_reply m o → SaysGranted m gate first last kind
says_granted m gate first last kind None is = record {
  what = (let a : gate ≡ next_gate m = cc (is) in let b : first ≡ 0 = cc (is) in let c : last ≡ m.traits.size - 1 = cc (is) in let d : kind ≡ allowed_kind m.traits.readable m.traits.writable = cc (is) in cc (a, b, c, d));
}
says_granted m gate first last kind (Some d) is = absurd (cc (is))

-- a wish that is denied: only since the gates are spent
spent_by : (p : Plan) (m : ℕ) (known : List Written) (c : Command) (o : Option MemoryRow) (d : Denial) → IsSomeAnd o (λ (row : MemoryRow). (row.traits.dmi ≡ true) × (is_allowed row.traits c ≡ true)) → IsSomeAnd o (λ (row : MemoryRow). IsCause p m known c row.traits d) → AreGiven p m known
spent_by p m known c None d is cause = absurd is
spent_by p m known c (Some row) NoDmi is cause = absurd (let wrong : true ≡ false = sym is.0 ∙ cause in cc (wrong))
spent_by p m known c (Some row) NotAllowed is cause = absurd (let wrong : true ≡ false = sym is.1 ∙ cause.1 in cc (wrong))
spent_by p m known c (Some row) GatesSpent is cause = cause.2

dmi_by : (c : Command) (o : Option MemoryRow) → IsSomeAnd o (λ (row : MemoryRow). (row.traits.dmi ≡ true) × (is_allowed row.traits c ≡ true)) → (row : MemoryRow) → o ≡ Some row → row.traits.dmi ≡ true
dmi_by c None is row at = absurd is
dmi_by c (Some other) is row at = let same : other ≡ row = cc (at) in subst (λ (y : MemoryRow). y.traits.dmi ≡ true) same is.0

module _ (frame : Frame Plan) (r : Run) (note : View Content Plan) (old : Purse) (t : TableView) (job : IsInitiator frame r note old t) (command : Command) (address : ℕ) (route : Route) (txn : TxnId) (time : ℕ) (asking : IsAsking frame.world job.initiator job.mine command address route txn time) where
  abbrev p : Plan
  p = frame.world

  abbrev i : Initiator
  i = job.initiator

  there : route.memory < length p.platform.memories
  there = leads_to_memory p (i).number address route (sym asking.leads)

  routed_there : IsTrue (is_routed_to p i route.memory address)
  routed_there =
      let leads = led_to p i address route (own_number frame r note note old t job) asking.leads in
      ap (λ o. leads_to o route.memory) leads ∙ eq-eqb route.memory route.memory refl

  goes : is_direct (i).row.style ≡ true
  goes = ap is_direct asking.direct

  granted_here : granted p i route.memory ≡ true
  granted_here = may_be_granted p i route.memory asking.direct (routed_path p i route.memory address job.valid (route_of p.platform i address) refl routed_there)

  -- it may ask
  pub may_ask : MayAsk p command t note old route
  may_ask = record {
    inside = asking.inside;
    places =
        (let few = job.holds.few in
        let room = job.holds.room goes in
        let most = dmi_most p route.memory in
        let count = count_most (is_held t.held route.memory) (first_gate p.platform route.memory) (dmi_gates p route.memory) in
        omega arith);
    known = λ h has here. subst (λ (m : ℕ). HasGrant (written_at m note.known) h.gate h.first h.last h.kind) here (job.holds.held h has).usable.granted;
    room = job.roomy route.memory there;
    ticket = λ none.
        let enough = (job.tickets route.memory there).asks in
        let some = some_ungiven p i route.memory note.known granted_here in
        with_given p route.memory (written_at route.memory note.known) command (slice_get p.platform.memories route.memory) asking.allowed (none_left p route.memory (written_at route.memory note.known) (omega arith));
  }

  -- none was given
  module _ (back : View Content Plan) (new_t : TableView) (new : Purse) (denial : Denial) (denied : IsDenied frame command route.memory t new_t note back denial) (spent : HasSpent route.memory 0 old new) (roomy : (k : ℕ) → IsRoomyFor k old → IsRoomyFor k new) where
    left_same : (k : ℕ) → left_of new k ≡ left_of old k
    left_same k = by (cases_eq k route.memory)
      where
        by : (k ≡ route.memory) ⊎ (k ≡ route.memory → ⊥) → left_of new k ≡ left_of old k
        by (inl same) = let here = spent.here in ap (left_of new) same ∙ (omega arith ∙ ap (left_of old) (sym same))
        by (inr other) = spent.others k other

    back_below : StandBelow back.known back.seen
    back_below = denied.below job.below

    denied_nothing : AsksNothing p i back job.mine
    denied_nothing =
        subst (λ (o : Option Entry). MatchOption o (Unit {0}) (λ a. IsTrue (asks p a) → KnowsAllGiven p (known_to p back) back.seen a.object)) (sym asking.last)
        (λ ask. subst (KnowsAllGiven p (known_to p back) back.seen) (sym asking.object)
        (all_given p back route.memory there back_below (dmi_by command (slice_get p.platform.memories route.memory) asking.allowed)
        (spent_by p route.memory (written_at route.memory back.known) command (slice_get p.platform.memories route.memory) denial asking.allowed denied.cause)))

    pub denied_ease : IsAtEase frame r back new new_t
    denied_ease = subst (IsAtEase frame r back new) (sym denied.table) (record { is = learns_more frame r note back old t job new denied.keeps back_below left_same spent.bytes roomy; answered = denied_nothing })

  -- a grant was given
  module _ (back : View Content Plan) (new_t : TableView) (new : Purse) (which : ℕ) (taken : IsTaken frame (i).number command address route txn time t new_t note back which) (spent : HasSpent route.memory 1 old new) (roomy : (k : ℕ) → IsRoomyFor k old → IsRoomyFor k new) where
    abbrev h : Held
    h = taken.held

    abbrev g : Entry
    g = granted_by h

    abbrev reply : RegionReply
    reply = GrantedReply (h).gate (h).first (h).last (h).kind

    abbrev entry_of : ℕ → TxnId → ℕ → What → Entry
    entry_of memory id time what = record { position = (h).position; object = Memory memory; txn = id; time = time; what = what }

    abbrev its_what : What
    its_what = Granted (next_gate taken.made.memory) 0 (taken.made.memory.traits.size - 1) (allowed_kind taken.made.memory.traits.readable taken.made.memory.traits.writable)

    same : entry_by frame route.memory (Grant txn time command) note back (h).position reply taken.made ≡ g
    same =
        ap (λ (k : ℕ). entry_of k txn time its_what) (sym taken.usable.memory)
        ∙ (ap (λ (id : TxnId). entry_of (h).memory id time its_what) (sym taken.told.0)
        ∙ (ap (λ (n : ℕ). entry_of (h).memory (h).txn n its_what) (sym taken.told.1)
        ∙ ap (entry_of (h).memory (h).txn (h).time) (sym (says_granted taken.made.memory (h).gate (h).first (h).last (h).kind (denial_of taken.made.memory command) taken.made.answer).what)))

    entered : HasEntered frame route.memory g note back
    entered = subst (λ (y : Entry). HasEntered frame route.memory y note back) same (made_enters frame route.memory (Grant txn time command) note back (h).position reply taken.made there)

    own : (g).txn.initiator ≡ (i).number
    own = ap (λ (id : TxnId). id.initiator) taken.told.0 ∙ asking.own

    is_for : IsFor p i job.mine asking.request g
    is_for = record {
      mine = ap (slice_get (initiators_of p)) own ∙ own_number frame r note note old t job;
      asked = ap (λ (id : TxnId). slice_get (requests_of p.platform i job.mine) id.seq) taken.told.0 ∙ asking.asked;
    }

    given : IsGiven frame route.memory (h).gate (h).first (h).last (h).kind command taken.made.memory (Some (h).position) (written_at route.memory back.known)
    given = given_by frame route.memory there txn time command note back (h).gate (h).first (h).last (h).kind (Some (h).position) taken.made

    -- the gate is one of the memory's
    among : (first_gate p.platform route.memory ≤ (h).gate) × ((h).gate < first_gate p.platform route.memory + dmi_gates p route.memory)
    among =
        let start = first_is frame route.memory taken.made.memory taken.made.built there in
        let count = gates_are frame route.memory taken.made.memory taken.made.built there given.dmi in
        let next = given.next in
        let few = given.few in
        (omega arith, omega arith)

    has_its_gate : IsTrue (has_gate p.platform route.memory (h).gate)
    has_its_gate =
        let row = row_at p.platform.memories route.memory there in
        let traits = traits_at (slice_get p.platform.memories route.memory) row.0 taken.made.memory.traits row.1 taken.made.built.row in
        let gates : taken.made.memory.traits.gates ≡ row.0.traits.gates = ap (λ (y : MemoryTraits). y.gates) traits in
        let count = gates_are frame route.memory taken.made.memory taken.made.built there given.dmi in
        let after = gates_at p.platform route.memory row.0 row.1 there in
        let in_range = among in
        let low = in_range.0 in
        let high = in_range.1 in
        and_from (nat_le (first_gate p.platform route.memory) (h).gate) (nat_lt (h).gate (first_gate p.platform (route.memory + 1)))
        (le-leb (first_gate p.platform route.memory) (h).gate low) (lt-ltb (h).gate (first_gate p.platform (route.memory + 1)) (omega arith))

    done : IsDoneFor p i job.mine asking.request g
    done = record {
      replies = tt;
      way = subst (λ (s : Style). IsGrantee s asking.request.asked) (sym asking.direct) asking.grantee;
      order = tt;
      place = subst (λ (k : ℕ). IsTrue (has_gate p.platform k (h).gate)) (sym taken.usable.memory) has_its_gate;
      time = subst (λ (s : Style). HasTime s (decoupled_time p.platform i asking.request (g).what) (g).time) (sym asking.direct) (taken.told.1 ∙ asking.at);
    }

    keeps : KeepsOwn p (job.mine ++ g ∷ [])
    keeps = keeps_more p i job.mine asking.request g is_for done job.made.keeps

    tells : (l : List Entry) → HasAllOf p note l → TellsNext p l job.mine g
    tells l all =
        let late = (entered).late in
        tells_grant frame i note job.mine t (own_number frame r note note old t job) job.made.own job.below job.holds g asking.request is_for own late l all
        asking.entry (h).gate (h).first (h).last (h).kind refl asking.last asking.asks_it (asking.of ∙ sym taken.told.0)
        (ap (λ o. is_object o (g).object) asking.object ∙ eq-eqb (h).memory route.memory taken.usable.memory)

    -- it wasn't known to be given, and is now
    unknown : is_given_in (written_at route.memory note.known) (h).gate ≡ false
    unknown = ⊎_elim
        (λ (known : is_given_in (written_at route.memory note.known) (h).gate ≡ true).
        let m = taken.made.memory in
        let in_log = log_given m.log.entries (h).gate (given_more (written_at route.memory note.known) (entries_of m) (h).gate taken.made.known known) in
        let below = given_below m.first_gate m.traits (h).gate [] m.log.entries taken.made.granted in_log in
        let next = given.next in
        absurd (omega arith))
        (λ (open' : is_given_in (written_at route.memory note.known) (h).gate ≡ false). open')
        (cases_Bool (is_given_in (written_at route.memory note.known) (h).gate))

    one_less : ungiven p back.known route.memory + 1 ≤ ungiven p note.known route.memory
    one_less =
        fewer_by_one (is_given_in (written_at route.memory note.known)) (is_given_in (written_at route.memory back.known)) (first_gate p.platform route.memory) (dmi_gates p route.memory) (h).gate
        (λ k known. given_more (written_at route.memory note.known) (written_at route.memory back.known) k (known_more route.memory note.known back.known entered.keeps) known)
        among.0 among.1 unknown (granted_in (written_at route.memory back.known) (h).gate (h).first (h).last (h).kind taken.usable.granted)

    abbrev with_it : TableView
    with_it = record { held = t.held ++ h ∷ []; room = t.room }

    now_held : IsHeldGrant frame i back (job.mine ++ g ∷ []) h
    now_held = record {
      own = has_right job.mine (g ∷ []) g (0, refl);
      memory = subst (λ (k : ℕ). k < length p.platform.memories) (sym taken.usable.memory) there;
      usable = subst (λ (k : ℕ). IsUsable frame k (written_at k back.known) h) (sym taken.usable.memory) taken.usable;
      addresses = subst (λ (k : ℕ). AreAddressesOf p (i).number k (h).first (h).last (h).low (h).high (h).base) (sym taken.usable.memory) taken.addresses;
    }

    holds : HoldsGrants frame i back (job.mine ++ g ∷ []) with_it
    holds = record {
      own = own_more frame r note back old t job r route.memory g entered own tells;
      returned = returned_more frame r note back old t job r route.memory g entered own refl;
      table = λ l limit all below.
          subst (IsTableOf l limit (job.mine ++ g ∷ [])) (sym (map-append granted_by t.held (h ∷ [])))
          (table_takes l limit job.mine (map granted_by t.held) g (job.holds.table l limit (all_of p note back l entered.keeps all) (below_of p note back limit entered.keeps below)));
      held = λ y has. ⊎_elim
          (λ (before : Has t.held y). still_held frame i note back job.mine (job.mine ++ g ∷ []) y entered.keeps (λ z in_mine. has_left job.mine (g ∷ []) z in_mine) (job.holds.held y before))
          (λ (last : Has (h ∷ []) y). subst (IsHeldGrant frame i back (job.mine ++ g ∷ [])) (has_one h y last) now_held)
          (has_either t.held (h ∷ []) y has);
      few =
          (let before = job.holds.few in
          let less = all_ungiven_one p note.known back.known (length p.platform.memories) route.memory entered.keeps there one_less in
          let count = length-append t.held (h ∷ []) in
          omega arith);
      room = job.holds.room;
      none = λ undirect. absurd (let wrong : false ≡ true = sym undirect ∙ goes in cc (wrong));
    }

    tickets : (k : ℕ) → HasTickets p i r note old job.mine k → HasTickets p i r back new (job.mine ++ g ∷ []) k
    tickets k has = ⊎_elim (λ (here : k ≡ route.memory). at_it here) (λ (other : k ≡ route.memory → ⊥). at_others other) (cases_eq k route.memory)
      where
        at_it : k ≡ route.memory → HasTickets p i r back new (job.mine ++ g ∷ []) k
        at_it here =
            let left : left_of new k + 1 ≡ left_of old k = subst (λ (j : ℕ). left_of new j + 1 ≡ left_of old j) (sym here) spent.here in
            let less : ungiven p back.known k + 1 ≤ ungiven p note.known k = subst (λ (j : ℕ). ungiven p back.known j + 1 ≤ ungiven p note.known j) (sym here) one_less in
            let led : IsTrue (is_routed_to p i k address) = subst (λ (j : ℕ). IsTrue (is_routed_to p i j address)) (sym here) routed_there in
            let fewer = gates_left_given p i k note.known back.known entered.keeps (may_be_granted p i k asking.direct (routed_path p i k address job.valid (route_of p.platform i address) refl led)) less in
            let enough = has.asks in
            let more = entries_here frame r note back old t job r route.memory g entered own k here in
            let all = has.all in
            let fits = has.bytes in
            let kept = spent.bytes k in
            record { asks = omega arith; bytes = omega arith; all = omega arith }

        at_others : (k ≡ route.memory → ⊥) → HasTickets p i r back new (job.mine ++ g ∷ []) k
        at_others other =
            let left = spent.others k other in
            let less = gates_left_less p i k note.known back.known entered.keeps in
            let more = entries_there frame r note back old t job r route.memory g entered own k other in
            let asks = has.asks in
            let all = has.all in
            let fits = has.bytes in
            let kept = spent.bytes k in
            record { asks = omega arith; bytes = omega arith; all = omega arith }

    abbrev granted_on : IsInitiator frame r back new with_it
    granted_on = record {
      valid = job.valid;
      initiator = i;
      mine = job.mine ++ g ∷ [];
      is = job.is;
      decoupled = job.decoupled;
      below = entered.below;
      made = made_more frame r note back old t job r route.memory g entered own (come_granted p.platform i job.mine r g refl job.made.come) keeps job.made.stands tt;
      holds = holds;
      tickets = λ k below. tickets k (job.tickets k below);
      roomy = λ k below. roomy k (job.roomy k below);
      no_others = λ k past. spent.others k (λ same. let here = there in let more = more_objects p.platform in omega arith) ∙ job.no_others k past;
      finished = job.finished;
    }

    granted_nothing : AsksNothing p i back (job.mine ++ g ∷ [])
    granted_nothing =
        subst (λ (o : Option Entry). MatchOption o (Unit {0}) (λ a. IsTrue (asks p a) → KnowsAllGiven p (known_to p back) back.seen a.object)) (sym (last_push (i).number job.mine g own))
        (λ ask. absurd (let wrong : false ≡ true = sym (no_and (plain_of (slice_get (initiators_of p) (g).txn.initiator) (g).txn.seq)) ∙ ask in cc (wrong)))

    -- its entry is new to the note
    pub granted_new : IsOfRound p r txn → HasNew (IsStepEntry p r r) note.known back.known
    granted_new round =
        entered_new frame route.memory g note back entered job.below (IsStepEntry p r r)
        (λ y same place. unanswered_entry p r route.memory txn y there place (ap (λ (z : Entry). z.txn) same ∙ taken.told.0) (asking.own ∙ number frame r note note old t job) round (ap (λ (z : Entry). is_answer z.what) same))

    pub granted_ease : IsAtEase frame r back new new_t
    granted_ease = subst (IsAtEase frame r back new) (sym taken.table) (record { is = granted_on; answered = granted_nothing })

-- a grant that was found stale is dropped
module _ (frame : Frame Plan) (r : Run) (note back : View Content Plan) (old : Purse) (t new_t : TableView) (job : IsInitiator frame r note old t) (which : ℕ) (h : Held) (at : slice_get t.held which ≡ Some h) (stale : IsFoundStale h which t new_t note old old back) where
  abbrev held_in : Has t.held h
  held_in = has_at t.held which h at

  was_held : IsHeldGrant frame job.initiator note job.mine h
  was_held = job.holds.held h held_in

  -- an invalidation is known that overlapped it since
  knows_cut : (l : List Entry) (limit : ℕ) → HasAllOf frame.world back l → AreBelow (known_to frame.world back) limit → Knows l limit (λ y. is_cut_by (granted_by h) y)
  knows_cut l limit all below =
      let c = stale.cut in
      let x = logged (Memory h.memory) c.grant in
      let y = logged (Memory h.memory) c.cut in
      let known_x = read_at frame.world.platform back.known h.memory c.grant was_held.memory c.has_grant in
      let known_y = read_at frame.world.platform back.known h.memory c.cut was_held.memory c.has_cut in
      let known_h = read_more frame.world.platform note.known back.known stale.keeps (granted_by h) (job.made.known (granted_by h) was_held.own) in
      let one : x ≡ granted_by h = gate_has_one_grant l h.gate x (granted_by h) all.numbered all.gates (all.within x known_x) (all.within (granted_by h) known_h) (ap (gives h.gate) c.is_grant ∙ eq-eqb h.gate h.gate refl) (eq-eqb h.gate h.gate refl) in
      let meets : is_overlapped c.grant.content.what c.cut.content.what ≡ true =
      ap (λ w. is_overlapped w c.cut.content.what) c.is_grant
      ∙ (ap (is_overlapped (Granted h.gate c.first c.last c.kind)) c.is_cut ∙ and_from (nat_le c.first c.high) (nat_le c.low c.last) (le-leb c.first c.high c.meet.1) (le-leb c.low c.last c.meet.0)) in
      let cut : is_cut_by x y ≡ true =
      and_from (nat_lt c.grant.position c.cut.position) (is_object (Memory h.memory) (Memory h.memory) && is_overlapped c.grant.content.what c.cut.content.what) (lt-ltb c.grant.position c.cut.position c.later)
      (and_from (is_object (Memory h.memory) (Memory h.memory)) (is_overlapped c.grant.content.what c.cut.content.what) (eq-eqb h.memory h.memory refl) meets) in
      (y, all.within y known_y, below y known_y, subst (λ (z : Entry). is_cut_by z y ≡ true) one cut)

  abbrev front : List Held
  front = take which t.held

  abbrev rest : List Held
  rest = drop (suc which) t.held

  split : t.held ≡ front ++ h ∷ rest
  split = (split_at t.held which h at).is

  abbrev on : IsInitiator frame r back old t
  on = learns_more frame r note back old t job old stale.keeps stale.below (λ k. refl) (λ k. refl) (λ k room. room)

  abbrev without : TableView
  without = record { held = front ++ rest; room = t.room }

  abbrev dropped_on : IsInitiator frame r back old without
  dropped_on = record {
    valid = on.valid;
    initiator = job.initiator;
    mine = job.mine;
    is = on.is;
    decoupled = on.decoupled;
    below = on.below;
    made = on.made;
    holds = record {
      own = on.holds.own;
      returned = on.holds.returned;
      table = λ l limit all below.
          subst (IsTableOf l limit job.mine) (sym (map-append granted_by front rest))
          (table_drops l limit job.mine (map granted_by front) (map granted_by rest) (granted_by h) (knows_cut l limit all below)
          (subst (IsTableOf l limit job.mine) (ap (map granted_by) split ∙ map-append granted_by front (h ∷ rest)) (on.holds.table l limit all below)));
      held = λ y has. on.holds.held y (subst (λ (l : List Held). Has l y) (sym split)
          (⊎_elim (λ (a : Has front y). has_left front (h ∷ rest) y a) (λ (b : Has rest y). has_right front (h ∷ rest) y (has_later h rest y b)) (has_either front rest y has)));
      few =
          (let before = on.holds.few in
          let all : length t.held ≡ length front + suc (length rest) = ap length split ∙ length-append front (h ∷ rest) in
          let left = length-append front rest in
          omega arith);
      room = on.holds.room;
      none = λ undirect. absurd (has_none h (subst (λ (l : List Held). Has l h) (on.holds.none undirect) held_in));
    };
    tickets = on.tickets;
    roomy = on.roomy;
    no_others = on.no_others;
    finished = on.finished;
  }

  pub dropped_ease : AsksNothing frame.world job.initiator note job.mine → IsAtEase frame r back old new_t
  dropped_ease nothing = subst (IsAtEase frame r back old) (sym stale.table) (record { is = dropped_on; answered = still_nothing frame.world job.initiator note back job.mine stale.keeps stale.below nothing })
