-- What a memory answers a wish for a grant.
use Rattle.std.proofs.Common.{◌≡◌, ℕ, ◌+◌, ◌-◌, ◌<◌, ◌≤◌, ◌&&◌, Bool, true, false, not, IsTrue, List, [], ◌∷◌, ◌++◌, length, Option, Some, None, slice_get, refl, sym, ap, ◌∙◌, subst, ⊎_elim, arith}
use Rattle.std.specs.Prelude.{IsSomeAnd, MatchOption, is_none, nat_le, if◌then◌else◌, ◌==◌}
use Rattle.std.proofs.lemmas.Bool.{and_parts, cases_Bool, cases_eq, eqb-true, leb-true, leb-false, or_cases, or_left, or_right, eq-eqb}
use Rattle.view_lists.specs.Lists.{Has}
use Rattle.view_lists.proofs.Members.{has_right}
use Rattle.one_history.specs.declared.view.Frame.{Frame}
use Rattle.one_history.specs.declared.view.View.{View}
use Rattle.one_history.specs.Gates.{IsGateOf, total_gates}
use Rattle.shared_object.specs.Written.{Written, IsAmong, wrote, written_at}
use Rattle.shared_object.proofs.Gates.{own_gate}
use Rattle.token_book.specs.Purse.{Purse}
use Rattle.tlm_types.specs.declared.entry.Content.{Content}
use Rattle.tlm_types.specs.declared.entry.Entry.{Entry}
use Rattle.tlm_types.specs.declared.entry.What.{What}
use Rattle.tlm_types.specs.declared.entry.What.TheVariants.{Access, Granted, Invalidated, Closed, Call, Take, Acquire, Release}
use Rattle.tlm_types.specs.declared.words.Command.{Command}
use Rattle.tlm_types.specs.declared.words.Kind.{Kind}
use Rattle.tlm_types.specs.declared.words.MemoryTraits.{MemoryTraits}
use Rattle.tlm_types.specs.declared.words.TxnId.{TxnId}
use Rattle.tlm_types.specs.Traits.{allowed_kind}
use Rattle.tlm_model.specs.declared.platform.MemoryRow.{MemoryRow}
use Rattle.tlm_model.specs.Each.{EachFrom}
use Rattle.tlm_model.specs.Plan.{Plan}
use Rattle.tlm_model.specs.Scripts.{first_gate}
use Rattle.tlm_model.specs.Store.{is_allowed}
use Rattle.route_plan.specs.declared.step.Route.{Route}
use Rattle.region_object.specs.declared.call.Denial.{Denial}
use Rattle.region_object.specs.declared.call.Denial.TheVariants.{NoDmi, NotAllowed, GatesSpent}
use Rattle.region_object.specs.declared.call.RegionCall.TheVariants.{Grant}
use Rattle.region_object.specs.declared.call.RegionReply.{RegionReply}
use Rattle.region_object.specs.declared.call.RegionReply.TheVariants.{Granted as GrantedReply, Denied}
use Rattle.region_object.specs.Call.{HasGrant}
use Rattle.region_object.specs.Grants.{IsGrantStep, gives, grants_in, is_given, is_grant}
use Rattle.region_object.specs.Region.{LoggedMemory, denial_of, grant_reply, next_gate}
use Rattle.region_object.specs.Written.{content_of}
use Rattle.plat_net.specs.Calls.{entries_of}
use Rattle.plat_net.proofs.Lookups.{some_below}
use Rattle.dmi_grants.specs.declared.table.Held.{Held}
use Rattle.dmi_grants.specs.Made.{HasSpent, IsMade, added, dmi_gates, is_given_in}
use Rattle.dmi_grants.specs.Asking.{AreGiven, IsCause, IsCauseAt, IsDenied, IsTaken, MayAsk}
use Rattle.dmi_grants.specs.Ranges.{AreAddressesOf, lifted_at}
use Rattle.dmi_grants.specs.Table.{AreKnown, HasPlaces, TableView, is_held}
use Rattle.dmi_grants.proofs.Lists.{has_any}
use Rattle.dmi_grants.proofs.Known.{given_more, given_of_log, granted_in, log_given, log_known}
use Rattle.dmi_grants.proofs.Counts.{some_left}
use Rattle.dmi_grants.proofs.GateNumbers.{below_total, first_is, gates_are}
use Rattle.dmi_grants.proofs.Endings.{before_known}

grants_push : (xs : List Entry) (e : Entry) → grants_in (xs ++ e ∷ []) ≡ grants_in xs + (if is_grant e.what then 1 else 0)
grants_push [] e = omega arith
grants_push (x ∷ xs) e = let rest = grants_push xs e in omega (arith, rest)

-- the grant of one step
record IsNext (first : ℕ) (m : MemoryTraits) (before : List Entry) (g : ℕ) (w : What) : Type 0 where
  gate : g ≡ first + grants_in before
  counts : is_grant w ≡ true

next_by : (first : ℕ) (m : MemoryTraits) (before : List Entry) (g : ℕ) (w : What) → IsGrantStep first m before w → IsTrue (gives g w) → IsNext first m before g w
next_by first m before g (Granted gate f l k) step is = record { gate = (let same = eqb-true gate g is in let n = step.0 in omega arith); counts = refl }
next_by first m before g (Access way access status got) step is = absurd (cc (is))
next_by first m before g (Invalidated f l) step is = absurd (cc (is))
next_by first m before g (Closed gate) step is = absurd (cc (is))
next_by first m before g (Call phase answer) step is = absurd (cc (is))
next_by first m before g (Take slot) step is = absurd (cc (is))
next_by first m before g (Acquire slot) step is = absurd (cc (is))
next_by first m before g (Release slot freed) step is = absurd (cc (is))

-- gates that were given are below the next
pub given_below : (first : ℕ) (m : MemoryTraits) (g : ℕ) (before log : List Entry) → EachFrom (λ xs e. IsGrantStep first m xs e.what) before log → IsTrue (is_given g log) → g < first + (grants_in before + grants_in log)
given_below first m g before [] each is = absurd (cc (is))
given_below first m g before (e ∷ es) each is = ⊎_elim
    (λ (here : gives g e.what ≡ true).
    let n = next_by first m before g e.what each.0 here in
    let gate = n.gate in
    let one = ap {B = ℕ} (λ (b : Bool). if b then 1 else 0) n.counts in
    omega (arith, gate, one))
    (λ (there : is_given g es ≡ true). let rest = given_below first m g (before ++ e ∷ []) es each.1 there in let push = grants_push before e in omega (arith, rest, push))
    (or_cases (gives g e.what) (is_given g es) is)

-- a grant gives the gate that its number says
gives_own : (first : ℕ) (m : MemoryTraits) (before : List Entry) (w : What) → IsGrantStep first m before w → is_grant w ≡ true → gives (first + grants_in before) w ≡ true
gives_own first m before (Granted gate f l k) step is = eq-eqb gate (first + grants_in before) step.0
gives_own first m before (Access way access status got) step is = absurd (cc (is))
gives_own first m before (Invalidated f l) step is = absurd (cc (is))
gives_own first m before (Closed gate) step is = absurd (cc (is))
gives_own first m before (Call phase answer) step is = absurd (cc (is))
gives_own first m before (Take slot) step is = absurd (cc (is))
gives_own first m before (Acquire slot) step is = absurd (cc (is))
gives_own first m before (Release slot freed) step is = absurd (cc (is))

-- as many gates were given as there are grants
given_each : (first : ℕ) (m : MemoryTraits) (before log : List Entry) → EachFrom (λ xs e. IsGrantStep first m xs e.what) before log → (k : ℕ) → grants_in before ≤ k → k < grants_in before + grants_in log → IsTrue (is_given (first + k) log)
given_each first m before [] each k from below = absurd (omega arith)
given_each first m before (e ∷ es) each k from below = by_grant (is_grant e.what) refl (given_each first m (before ++ e ∷ []) es each.1 k)
  where
    by_grant : (b : Bool) → is_grant e.what ≡ b → (grants_in (before ++ e ∷ []) ≤ k → k < grants_in (before ++ e ∷ []) + grants_in es → IsTrue (is_given (first + k) es)) → IsTrue (is_given (first + k) (e ∷ es))
    by_grant true is rest = ⊎_elim
        (λ (same : grants_in before ≡ k).
        or_left (gives (first + k) e.what) (is_given (first + k) es) (ap (λ (n : ℕ). gives (first + n) e.what) (sym same) ∙ gives_own first m before e.what each.0 is))
        (λ (other : grants_in before ≡ k → ⊥).
        let push = grants_push before e in
        let one = ap {B = ℕ} (λ (b : Bool). if b then 1 else 0) is in
        or_right (gives (first + k) e.what) (is_given (first + k) es) (rest (omega (arith, push, one)) (omega (arith, push, one))))
        (cases_eq (grants_in before) k)
    by_grant false is rest =
        let push = grants_push before e in
        let none = ap {B = ℕ} (λ (b : Bool). if b then 1 else 0) is in
        or_right (gives (first + k) e.what) (is_given (first + k) es) (rest (omega (arith, push, none)) (omega (arith, push, none)))

-- why a grant is denied, by the tests in their order
cause_by : (p : Plan) (m : ℕ) (known : List Written) (c : Command) (t : MemoryTraits) (d : Denial) (dmi allowed spent : Bool) → t.dmi ≡ dmi → is_allowed t c ≡ allowed → (spent ≡ true → t.dmi ≡ true → AreGiven p m known)
    → (if not dmi then Some NoDmi else (if not allowed then Some NotAllowed else (if spent then Some GatesSpent else None))) ≡ Some d → IsCause p m known c t d
cause_by p m known c t NoDmi false allowed spent x y z is = x
cause_by p m known c t NotAllowed false allowed spent x y z is = absurd (cc (is))
cause_by p m known c t GatesSpent false allowed spent x y z is = absurd (cc (is))
cause_by p m known c t NotAllowed true false spent x y z is = (x, y)
cause_by p m known c t NoDmi true false spent x y z is = absurd (cc (is))
cause_by p m known c t GatesSpent true false spent x y z is = absurd (cc (is))
cause_by p m known c t GatesSpent true true true x y z is = (x, y, z refl x)
cause_by p m known c t NoDmi true true true x y z is = absurd (cc (is))
cause_by p m known c t NotAllowed true true true x y z is = absurd (cc (is))
cause_by p m known c t d true true false x y z is = absurd (cc (is))

at_row : (P : MemoryTraits → Type 0) (o : Option MemoryRow) (t : MemoryTraits) → IsSomeAnd o (λ (row : MemoryRow). t ≡ row.traits) → P t → IsSomeAnd o (λ (row : MemoryRow). P row.traits)
at_row P None t is holds = absurd is
at_row P (Some row) t is holds = subst P is holds

-- what a grant that was given says
pub record IsGiven (frame : Frame Plan) (m gate first last : ℕ) (kind : Kind) (command : Command) (memory : LoggedMemory) (position : Option ℕ) (known : List Written) : Type 0 where
  pub at : ℕ
  pub position_is : position ≡ Some at
  pub next : gate ≡ next_gate memory
  pub whole : (first ≡ 0) × (last ≡ memory.traits.size - 1)
  pub few : grants_in memory.log.entries < memory.traits.gates
  pub dmi : memory.traits.dmi ≡ true
  pub total : gate < total_gates frame
  pub granted : HasGrant known gate first last kind

-- the tests that were passed
passed_by : (dmi allowed spent : Bool) → (if not dmi then Some NoDmi else (if not allowed then Some NotAllowed else (if spent then Some GatesSpent else None))) ≡ None → (dmi ≡ true) × (spent ≡ false)
passed_by true true false is = (refl, refl)
passed_by true true true is = absurd (cc (is))
passed_by true false spent is = absurd (cc (is))
passed_by false allowed spent is = absurd (cc (is))

record SaysGranted (m : LoggedMemory) (gate first last : ℕ) (kind : Kind) (o : Option Denial) : Type 0 where
  none : o ≡ None
  what : Granted gate first last kind ≡ Granted (next_gate m) 0 (m.traits.size - 1) (allowed_kind m.traits.readable m.traits.writable)
  next : gate ≡ next_gate m
  whole : (first ≡ 0) × (last ≡ m.traits.size - 1)

says_granted : (m : LoggedMemory) (gate first last : ℕ) (kind : Kind) (o : Option Denial) → GrantedReply gate first last kind ≡ grant_reply m o → SaysGranted m gate first last kind o
says_granted m gate first last kind None is = record {
  none = refl;
  what = (let a : gate ≡ next_gate m = cc (is) in let b : first ≡ 0 = cc (is) in let c : last ≡ m.traits.size - 1 = cc (is) in let d : kind ≡ allowed_kind m.traits.readable m.traits.writable = cc (is) in cc (a, b, c, d));
  next = cc (is);
  whole = (cc (is), cc (is));
}
says_granted m gate first last kind (Some d) is = absurd (cc (is))

says_denied : (m : LoggedMemory) (denial : Denial) (o : Option Denial) → ◌≡◌ {A = RegionReply} (Denied denial) (grant_reply m o) → o ≡ Some denial
says_denied m denial None is = absurd (cc (is))
says_denied m denial (Some d) is = let e : denial ≡ d = cc (is) in ap (λ x. Some x) (sym e)

size_by : (o : Option MemoryRow) (t : MemoryTraits) (offset : ℕ) → IsSomeAnd o (λ (row : MemoryRow). t ≡ row.traits) → IsSomeAnd o (λ (row : MemoryRow). offset < row.traits.size) → offset < t.size
size_by None t offset is inside = absurd is
size_by (Some row) t offset is inside = let size = ap (λ (x : MemoryTraits). x.size) is in omega arith

none_when : (position : Option ℕ) (b : Bool) → b ≡ false → MatchOption position (b ≡ false) (λ _. b ≡ true) → position ≡ None
none_when None b is when = refl
none_when (Some p) b is when = absurd (let e : true ≡ false = sym when ∙ is in cc (e))

module _ (frame : Frame Plan) (m : ℕ) (there : m < length frame.world.platform.memories) (txn : TxnId) (time : ℕ) (command : Command) (note back : View Content Plan) where
  pub given_by : (gate first last : ℕ) (kind : Kind) (position : Option ℕ) (made : IsMade frame m (Grant txn time command) note back position (GrantedReply gate first last kind)) → IsGiven frame m gate first last kind command made.memory position (written_at m back.known)
  given_by gate first last kind None made =
      let says = says_granted made.memory gate first last kind (denial_of made.memory command) made.answer in
      absurd (let e : true ≡ false = ap (λ (o : Option Denial). is_none o) (sym says.none) ∙ made.enters.when in cc (e))
  given_by gate first last kind (Some p) made =
      let says = says_granted made.memory gate first last kind (denial_of made.memory command) made.answer in
      let tests = passed_by made.memory.traits.dmi (is_allowed made.memory.traits command) (nat_le made.memory.traits.gates (grants_in made.memory.log.entries)) says.none in
      let few : grants_in made.memory.log.entries < made.memory.traits.gates = leb-false made.memory.traits.gates (grants_in made.memory.log.entries) tests.1 in
      let n = says.next in
      let among : IsAmong (made.memory.first_gate, made.memory.traits.gates) gate = (omega arith, omega arith) in
      let own : IsGateOf frame m gate = own_gate frame m gate (made.memory.first_gate, made.memory.traits.gates) made.gates among in
      let w : Written = wrote p (content_of made.memory (Grant txn time command)) in
      record {
        at = p;
        position_is = refl;
        next = says.next;
        whole = says.whole;
        few = few;
        dmi = tests.0;
        total = below_total frame.gates m gate own.1;
        granted = (w, log_known m _ back.known made.enters.knows w (subst (λ l. Has l w) (sym made.enters.log) (has_right (entries_of made.memory) (w ∷ []) w (0, refl))), sym says.what);
      }

  -- a place is free for it
  pub free_place : (gate first last : ℕ) (kind : Kind) (position : Option ℕ) (table : TableView) (made : IsMade frame m (Grant txn time command) note back position (GrantedReply gate first last kind))
      → HasPlaces frame.world m table → AreKnown m (written_at m note.known) table.held → length table.held < table.room
  free_place gate first last kind position table made places known =
      let g = given_by gate first last kind position made in
      let log = made.memory.log.entries in
      let start = first_is frame m made.memory made.built there in
      let count = gates_are frame m made.memory made.built there g.dmi in
      let n = g.next in
      let few = g.few in
      let unheld : is_held table.held m gate ≡ false = ⊎_elim
      (λ (yes' : is_held table.held m gate ≡ true).
      let h = has_any (λ (h : Held). (h.memory == m) && (h.gate == gate)) table.held yes' in
      let both = and_parts (h.0.memory == m) (h.0.gate == gate) h.2 in
      let grant = known h.0 h.1 (eqb-true h.0.memory m both.0) in
      let given = log_given log h.0.gate (given_more (written_at m note.known) (entries_of made.memory) h.0.gate made.known (granted_in (written_at m note.known) h.0.gate h.0.first h.0.last h.0.kind grant)) in
      let below = given_below made.memory.first_gate made.memory.traits h.0.gate [] log made.granted given in
      let same = eqb-true h.0.gate gate both.1 in
      absurd (omega arith))
      (λ (no' : is_held table.held m gate ≡ false). no')
      (cases_Bool (is_held table.held m gate)) in
      let one = some_left (is_held table.held m) (first_gate frame.world.platform m) (dmi_gates frame.world m) gate (omega arith) (omega arith) unheld in
      omega (arith, one)

  -- the offset lies in its range
  pub offset_in : (gate first last : ℕ) (kind : Kind) (position : Option ℕ) (offset : ℕ) (made : IsMade frame m (Grant txn time command) note back position (GrantedReply gate first last kind)) → IsSomeAnd (slice_get frame.world.platform.memories m) (λ (row : MemoryRow). offset < row.traits.size) → (first ≤ offset) × (offset ≤ last)
  offset_in gate first last kind position offset made inside =
      let g = given_by gate first last kind position made in
      let low = g.whole.0 in
      let high = g.whole.1 in
      let size = size_by (slice_get frame.world.platform.memories m) made.memory.traits offset made.built.row inside in
      (omega arith, omega arith)

  -- why none was given
  pub denied_by : (denial : Denial) (position : Option ℕ) (made : IsMade frame m (Grant txn time command) note back position (Denied denial)) → (position ≡ None) × IsCauseAt frame.world m (written_at m back.known) command denial
  denied_by denial position made =
      let says = says_denied made.memory denial (denial_of made.memory command) made.answer in
      let t = made.memory.traits in
      let log = made.memory.log.entries in
      let spent : nat_le t.gates (grants_in log) ≡ true → t.dmi ≡ true → AreGiven frame.world m (written_at m back.known) =
      λ all dmi k below.
      let start = first_is frame m made.memory made.built there in
      let count = gates_are frame m made.memory made.built there dmi in
      let enough = leb-true t.gates (grants_in log) all in
      let here : IsTrue (is_given (made.memory.first_gate + k) log) = given_each made.memory.first_gate t [] log made.granted k (omega arith) (omega arith) in
      subst (λ (n : ℕ). IsTrue (is_given_in (written_at m back.known) (n + k))) start
      (given_more (entries_of made.memory) (written_at m back.known) (made.memory.first_gate + k) (before_known frame m there (Grant txn time command) note back position (Denied denial) made) (given_of_log log (made.memory.first_gate + k) here)) in (
        none_when position (is_none (denial_of made.memory command)) (ap (λ (o : Option Denial). is_none o) says) made.enters.when,
        at_row (λ (x : MemoryTraits). IsCause frame.world m (written_at m back.known) command x denial) (slice_get frame.world.platform.memories m) t made.built.row
            (cause_by frame.world m (written_at m back.known) command t denial t.dmi (is_allowed t command) (nat_le t.gates (grants_in log)) refl refl spent says),
      )

-- a wish for a grant at the memory that an address leads to
pub ask_memory : (world : Plan) (command : Command) (table : TableView) (note : View Content Plan) (w : Purse) (route : Route) → MayAsk world command table note w route → route.memory < length world.platform.memories
ask_memory world command table note w route may = some_below (λ (row : MemoryRow). route.offset < row.traits.size) world.platform.memories route.memory may.inside

module _ (frame : Frame Plan) (command : Command) (address : ℕ) (route : Route) (txn : TxnId) (time : ℕ) (old : TableView) (note back : View Content Plan) (w : Purse) (may : MayAsk frame.world command old note w route) (position : Option ℕ) (o : RegionReply) (made : IsMade frame route.memory (Grant txn time command) note back position o) where
  there : route.memory < length frame.world.platform.memories
  there = some_below (λ (row : MemoryRow). route.offset < row.traits.size) frame.world.platform.memories route.memory may.inside

  said : (r : RegionReply) → o ≡ r → IsMade frame route.memory (Grant txn time command) note back position r
  said r is = subst (λ (x : RegionReply). IsMade frame route.memory (Grant txn time command) note back position x) is made

  pub ask_room : (gate first last : ℕ) (kind : Kind) → o ≡ GrantedReply gate first last kind → length old.held < old.room
  ask_room gate first last kind is = free_place frame route.memory there txn time command note back gate first last kind position old (said (GrantedReply gate first last kind) is) may.places may.known

  pub ask_inside : (gate first last : ℕ) (kind : Kind) → o ≡ GrantedReply gate first last kind → (first ≤ route.offset) × (route.offset ≤ last)
  ask_inside gate first last kind is = offset_in frame route.memory there txn time command note back gate first last kind position route.offset (said (GrantedReply gate first last kind) is) may.inside

  pub ask_taken : (who which : ℕ) (h : Held) (new : TableView) (after : Purse) → o ≡ GrantedReply h.gate h.first h.last h.kind → position ≡ Some h.position → h.memory ≡ route.memory → (h.txn ≡ txn) × (h.time ≡ time)
      → new ≡ record { held = old.held ++ h ∷ []; room = old.room } → which ≡ length old.held
      → lifted_at frame.world who address (h.first, h.last) ≡ Some (h.low, h.high) → AreAddressesOf frame.world who route.memory h.first h.last h.low h.high h.base → (h.low ≤ address) × (address ≤ h.high) → h.base + (address - h.low) ≡ route.offset → (h.first ≤ h.base) × (h.base + (h.high - h.low) ≤ h.last)
      → HasSpent route.memory (added position) w after → IsTaken frame who command address route txn time old new note back which × HasSpent route.memory 1 w after
  ask_taken who which h new after is some memory told table place range addresses within start inside spent =
      let reply = said (GrantedReply h.gate h.first h.last h.kind) is in
      let g = given_by frame route.memory there txn time command note back h.gate h.first h.last h.kind position reply in (
        record {
          held = h;
          table = table;
          place = place;
          told = told;
          made = subst (λ (x : Option ℕ). IsMade frame route.memory (Grant txn time command) note back x (GrantedReply h.gate h.first h.last h.kind)) some reply;
          range = range;
          addresses = addresses;
          base = start;
          within = within;
          usable = record { memory = memory; gate = g.total; granted = g.granted; inside = inside };
        },
        subst (λ (x : Option ℕ). HasSpent route.memory (added x) w after) some spent,
      )

  pub ask_denied : (denial : Denial) (after : Purse) → o ≡ Denied denial → HasSpent route.memory (added position) w after → IsDenied frame command route.memory old old note back denial × HasSpent route.memory 0 w after
  ask_denied denial after is spent =
      let d = denied_by frame route.memory there txn time command note back denial position (said (Denied denial) is) in
      (record { table = refl; keeps = made.enters.knew; below = λ lower. made.enters.below; cause = d.1 }, subst (λ (x : Option ℕ). HasSpent route.memory (added x) w after) d.0 spent)
